-- `put_body` meets its contract, form by form.
use lib.Dec.{leb}
use Rattle.smf.proofs.Answer.{both}
use mathlib.Core.Path.{◌≡◌, subst}
use mathlib.Core.Bool.{true}
use mathlib.Core.List.{List}
use Prim.Native.Nat.{ℕ, ◌+◌, ◌≤◌}
use lib.ListN.{length}
use borrow.Author.Tests.{leb-true}
use Rattle.smf.specs.Wire.{encode_raw}
use Rattle.write.specs.Raw.{is_sound, wire_of, raw_length}
use Rattle.write.specs.declared.raw.Raw.{Raw}
use Rattle.write.specs.declared.raw.Raw.TheVariants as raw
use Rattle.write.proofs.Payloads.{lent_inside}
use Rattle.write.proofs.Lengths.{raw_length_lem}
use Rattle.write.proofs.put.put_body.Goals as goal

-- what the caller showed, of the form that it is
abbrev Ready : List ℕ → ℕ → ℕ → ℕ → Raw → Type 0
Ready bytes running place room raw = (is_sound bytes raw ≡ true) × (place + length (encode_raw running (wire_of bytes raw)) ≤ room)

-- and how much room it takes
roomy : (bytes : List ℕ) (running place room : ℕ) (raw : Raw) → Ready bytes running place room raw → place + raw_length running raw ≤ room
roomy bytes running place room raw r = rw (raw_length_lem bytes running raw r.0) at r.1

pub put_channel-requires : goal.put_channel-requires
unfolding wire_of
put_channel-requires c = let a = c.args in let r = subst (Ready a.bytes.now a.running.status a.at (length a.out.now)) c.in-Channel.is c.requires in r.1

pub put_load-requires : goal.put_load-requires
unfolding is_sound wire_of raw_length
put_load-requires c = let a = c.args in let r = subst (Ready a.bytes.now a.running.status a.at (length a.out.now)) c.in-System.is c.requires in (lent_inside _ _ r.0, roomy a.bytes.now a.running.status a.at (length a.out.now) (raw.System c.in-System.status c.in-System.load) r)

pub put_typed-requires : goal.put_typed-requires
unfolding is_sound wire_of raw_length
put_typed-requires c = let a = c.args in let r = subst (Ready a.bytes.now a.running.status a.at (length a.out.now)) c.in-Typed.is c.requires in (lent_inside _ _ r.0, roomy a.bytes.now a.running.status a.at (length a.out.now) (raw.Typed c.in-Typed.type_byte c.in-Typed.load) r)

pub put_fixed-requires : goal.put_fixed-requires
unfolding is_sound wire_of raw_length
put_fixed-requires c = let a = c.args in let r = subst (Ready a.bytes.now a.running.status a.at (length a.out.now)) c.in-Fixed.is c.requires in (leb-true _ _ (both (leb c.in-Fixed.own.n 5) (leb c.in-Fixed.own.n (length c.in-Fixed.own.bytes)) r.0).1, roomy a.bytes.now a.running.status a.at (length a.out.now) (raw.Fixed c.in-Fixed.type_byte c.in-Fixed.own) r)

pub returns-in-Channel : goal.returns-in-Channel
unfolding wire_of
returns-in-Channel c = rw c.in-Channel.is c.put_channel.ensures.buffer

pub returns-in-System : goal.returns-in-System
unfolding wire_of encode_raw
returns-in-System c = rw c.in-System.is c.put_load.ensures

pub returns-in-Typed : goal.returns-in-Typed
unfolding wire_of encode_raw
returns-in-Typed c = rw c.in-Typed.is c.put_typed.ensures

pub returns-in-Fixed : goal.returns-in-Fixed
unfolding wire_of encode_raw
returns-in-Fixed c = rw c.in-Fixed.is c.put_fixed.ensures
