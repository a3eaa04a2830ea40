-- What the writer's loops leave: what is still to be put over what is there is what is to be put in all.
use Rattle.std.specs.Prelude.{Result, Ok}
use mathlib.Core.Path.{◌≡◌, refl, sym, ap, ◌∙◌}
use mathlib.Core.Bool.{true}
use mathlib.Core.List.{List, ◌++◌, flatten}
use Prim.Native.Nat.{ℕ, ◌+◌, ◌≤◌, ◌<◌}
use native.Mathlib.Omega.{arith}
use lib.ListN.{length, get_or}
use Rattle.smf.specs.Place.{Span, inside, bytes_of}
use Rattle.smf.specs.Write.{Written, over, part, write}
use Rattle.smf.proofs.Write.{over_over, length_over, slice_fits}
use Rattle.base.specs.declared.Range.{Range}
use Rattle.base.specs.declared.Refusal.{Refusal}
use Rattle.number.specs.Varlen.{write_left}
use Rattle.number.proofs.Identical.{written_to_injective}
use Rattle.write.proofs.Storing.{over_none}
use Rattle.bank.specs.Bank.{four_bytes, behind_entries, entries, bank_length}
use Rattle.bank.specs.Write.{tracks_of}
use Rattle.bank.specs.Answers.{spans_of}
use Rattle.bank.proofs.Rest.{Rest, range, rest_first, rest_inside, rest_long, rest_next, rest_more, rest_bound, none}
use Rattle.bank.proofs.Rest as rest

-- a range of the bytes that was put where it fits
pub slice_put : (bytes : List ℕ) (span : Span) (s : List ℕ) (at : ℕ) (w : Written) → inside bytes span ≡ true → at + span.length ≤ length s
    → w ≡ write (part bytes span) s at → w.buffer ≡ over (bytes_of bytes span) s at
slice_put bytes span s at w is h e = ap (λ (x : Written). x.buffer) (e ∙ sym (slice_fits bytes span s at is h (over (bytes_of bytes span) s at) refl))

-- and what is answered of it: the place behind it
pub slice_there : (bytes : List ℕ) (span : Span) (s : List ℕ) (at : ℕ) (r : Result ℕ Refusal) (end : List ℕ) → inside bytes span ≡ true → at + span.length ≤ length s
    → write_left r end ≡ write (part bytes span) s at → r ≡ Ok (at + span.length)
slice_there bytes span s at r end is h e =
    written_to_injective (ap (λ (x : Written). x.answer) (e ∙ sym (slice_fits bytes span s at is h (over (bytes_of bytes span) s at) refl)))

module _ (bytes : List ℕ) (ranges : List Range) where
  abbrev tracks : List (List ℕ)
  tracks = tracks_of bytes (spans_of ranges)

  -- the tracks from an index on
  abbrev pub tracks_left : ℕ → List (List ℕ)
  tracks_left i = tracks_of bytes (rest.left bytes ranges i)

  module _ (before : List ℕ) where
    -- entries
    pub record EntriesPut (out : List ℕ) (place index : ℕ) : Type 0 where
      pub rest : Rest bytes ranges place index
      pub kept : length out ≡ length before
      pub final : over (entries (behind_entries (length ranges)) tracks) before 8 ≡ over (entries place (tracks_left index)) out (behind_entries index)

    module _ (room : behind_entries (length ranges) ≤ length before) {out : List ℕ} {place index : ℕ} (p : EntriesPut out place index) where
      pub entries_more : (past : Range) (out₁ out₂ : List ℕ) → (more : index < length ranges)
          → out₁ ≡ over (four_bytes place) out (behind_entries index)
          → out₂ ≡ over (four_bytes (get_or ranges index past).length) out₁ (behind_entries index + 4)
          → EntriesPut out₂ (place + (get_or ranges index past).length) (index + 1)
      unfolding entries
      entries_more past out₁ out₂ more one two =
          let len = (get_or ranges index past).length in
          let behind = entries (place + len) (tracks_left (index + 1)) in
          let at = behind_entries index in
          let kept₁ : length out₁ ≡ length out = ap length one ∙ length_over (four_bytes place) out at (omega (arith, p.kept)) in
          let kept₂ : length out₂ ≡ length out₁ = ap length two ∙ length_over (four_bytes len) out₁ (at + 4) (omega (arith, p.kept)) in
          let own : entries place (tracks_left index) ≡ four_bytes place ++ (four_bytes len ++ behind) =
          ap (entries place) (rest_next bytes ranges p.rest past more)
          ∙ ap (λ (n : ℕ). four_bytes place ++ (four_bytes n ++ entries (place + n) (tracks_left (index + 1)))) (rest_long bytes ranges p.rest past more)
          in
          let end : at + 4 + 4 ≡ behind_entries (index + 1) = omega arith in
          record {
            rest = rest_more bytes ranges p.rest past more;
            kept = kept₂ ∙ kept₁ ∙ p.kept;
            final =
                p.final
                ∙ ap (λ (e : List ℕ). over e out at) own
                ∙ sym (over_over (four_bytes place) (four_bytes len ++ behind) out at (omega (arith, p.kept)))
                ∙ ap (λ (o : List ℕ). over (four_bytes len ++ behind) o (at + 4)) (sym one)
                ∙ sym (over_over (four_bytes len) behind out₁ (at + 4) (omega (arith, p.kept)))
                ∙ ap (λ (o : List ℕ). over behind o (at + 4 + 4)) (sym two)
                ∙ ap (over behind out₂) end;
          }

      pub entries_all : length ranges ≤ index → out ≡ over (entries (behind_entries (length ranges)) tracks) before 8
      unfolding entries
      entries_all last =
          sym (p.final ∙ ap (λ (l : List Span). over (entries place (tracks_of bytes l)) out (behind_entries index)) (none bytes ranges index last) ∙ sym (over_none out (behind_entries index)))

    -- tracks
    pub record TracksPut (out : List ℕ) (place index : ℕ) : Type 0 where
      pub rest : Rest bytes ranges place index
      pub kept : length out ≡ length before
      pub final : over (flatten tracks) before (behind_entries (length ranges)) ≡ over (flatten (tracks_left index)) out place

    module _ (room : bank_length tracks ≤ length before) {out : List ℕ} {place index : ℕ} (p : TracksPut out place index) where
      -- the next track has room, and so it is put and not refused
      tracks_room : (past : Range) → index < length ranges → place + (get_or ranges index past).length ≤ length out
      tracks_room past more = omega (arith, rest_bound bytes ranges p.rest past more, p.kept)

      pub tracks_there : (past : Range) (r : Result ℕ Refusal) (end : List ℕ) → (more : index < length ranges)
          → write_left r end ≡ write (part bytes (range bytes ranges p.rest past more)) out place → r ≡ Ok (place + (get_or ranges index past).length)
      tracks_there past r end more e =
          slice_there bytes (range bytes ranges p.rest past more) out place r end (rest_inside bytes ranges p.rest past more) (tracks_room past more) e

      pub tracks_more : (past : Range) (w : Written) → (more : index < length ranges) → w ≡ write (part bytes (range bytes ranges p.rest past more)) out place
          → TracksPut w.buffer (place + (get_or ranges index past).length) (index + 1)
      unfolding flatten
      tracks_more past w more e =
          let span = range bytes ranges p.rest past more in
          let bound = rest_bound bytes ranges p.rest past more in
          let size = rest_long bytes ranges p.rest past more in
          let put = slice_put bytes span out place w (rest_inside bytes ranges p.rest past more) (tracks_room past more) e in
          let behind = flatten (tracks_left (index + 1)) in
          record {
            rest = rest_more bytes ranges p.rest past more;
            kept = ap length put ∙ length_over (bytes_of bytes span) out place (omega (arith, p.kept)) ∙ p.kept;
            final =
                p.final
                ∙ ap (λ (ts : List (List ℕ)). over (flatten ts) out place) (rest_next bytes ranges p.rest past more)
                ∙ sym (over_over (bytes_of bytes span) behind out place (omega (arith, p.kept)))
                ∙ ap (λ (n : ℕ). over behind (over (bytes_of bytes span) out place) (place + n)) size
                ∙ ap (λ (o : List ℕ). over behind o (place + span.length)) (sym put);
          }

      pub tracks_all : length ranges ≤ index → out ≡ over (flatten tracks) before (behind_entries (length ranges))
      unfolding flatten
      tracks_all last =
          sym (p.final ∙ ap (λ (l : List Span). over (flatten (tracks_of bytes l)) out place) (none bytes ranges index last) ∙ sym (over_none out place))
