-- `smpte_offset` meets its contract, by the form of its type.
use mathlib.Core.Path.{◌≡◌, sym}
use mathlib.Core.List.{List}
use Prim.Native.Nat.{ℕ}
use lib.ListN.{get_or}
use Rattle.std.proofs.Common.{Fits, w8}
use Rattle.std.proofs.lemmas.Result.{err_from_is_err_and}
use Rattle.smf.specs.Answer.{Answer, Rules}
use Rattle.smf.specs.Smpte.{Time, time_of}
use Rattle.smf.specs.Kind.{time_in, smpte_offset}
use Rattle.smf.specs.Event.{map_meta}
use Rattle.smf.proofs.CalledAt.{form_smpte}
use Rattle.header.specs.Smpte.{smpte_time_of}
use Rattle.base.specs.Rules.{rules_of}
use Rattle.meta.proofs.Called.{byte_is, short, enough, enough_refused}
use Rattle.meta.proofs.smpte_offset.Goals as goal

pub returns-in_default : goal.returns-in_default
returns-in_default c load =
    let p = c.args.bytes.now in
    short (rules_of c.args.rules) p load 0x54 5 _ (form_smpte _ p) c.in_default.len_below

-- the five bytes as the definitions read them
read_in : (p : List ℕ) → ((i : ℕ) → Fits w8 (get_or p i 0)) → (rules : Rules) {a : Answer Time}
    → a ≡ time_of rules (get_or p 0 0) (get_or p 1 0) (get_or p 2 0) (get_or p 3 0) (get_or p 4 0) → time_in rules p ≡ a
read_in p small rules e = rw (byte_is p small 0, byte_is p small 1, byte_is p small 2, byte_is p small 3, byte_is p small 4) (sym e)

pub returns-in_err-time : goal.returns-in_err-time
returns-in_err-time c load =
    let p = c.args.bytes.now in
    let n = err_from_is_err_and c.from_residual.result c.from_residual.ensures.1 in
    rw (n.1, n.2)
    (enough_refused (rules_of c.args.rules) p load 0x54 5 _ (form_smpte _ p) c.in-len5-up.len_at_least _ (rw (read_in p c.type_inv.bytes (rules_of c.args.rules) c.in_err-time.ensures)))

pub returns : goal.returns
unfolding map_meta
returns c load =
    let p = c.args.bytes.now in
    enough (rules_of c.args.rules) p load 0x54 5 _ (form_smpte _ p) c.in-len5-up.len_at_least (smpte_offset (smpte_time_of c.in_ok-time.time)) (rw (read_in p c.type_inv.bytes (rules_of c.args.rules) c.in_ok-time.ensures))
