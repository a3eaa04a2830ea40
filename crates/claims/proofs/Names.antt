-- The silencing list, by its events: it names keys that sound, in their order, and leaves none out but behind as many others as a list holds.
use mathlib.Core.Path.{◌≡◌, refl, sym, ap, ◌∙◌}
use mathlib.Core.List.{List, [], ◌∷◌, ◌++◌, map, Memᴰ}
use mathlib.Core.Logic.{◌⊎◌, inl, inr, ⊎_elim}
use Prim.Native.Nat.{ℕ, suc, ◌/◌, ◌%◌, ◌≤◌, ◌<◌}
use native.Mathlib.Omega.{arith}
use lib.ListN.{length, length-map}
use Rattle.smf.specs.Place.{Span}
use Rattle.smf.specs.Kind.{midi, note_off}
use Rattle.smf.specs.Event.{Event}
use Rattle.smf.proofs.Answer.{by_lt}
use Rattle.track.specs.List.{capacity}
use Rattle.player.specs.Table.{channels, keys, Table, key_place}
use Rattle.player.specs.Sounding.{note_off_at, silence_from}
use Rattle.player.proofs.Places.{place_channel, place_key, channel_back, key_back, place_within}
use Rattle.player.proofs.Silencing.{silenced, placed, placed_mem, silence_fits}
use Rattle.player.proofs.Order.{Rising, rising_silenced, rising_above, silenced_sounds, silenced_first}
use Rattle.claims.specs.Sounding.{off, Before, Sounds, Names}

-- Places and keys

before_of : (p q c k c' k' : ℕ) → p / keys ≡ c → p % keys ≡ k → q / keys ≡ c' → q % keys ≡ k' → p < q → Before c k c' k'
before_of p q c k c' k' e e₁ e₂ e₃ h = by_lt c c' (λ less. inl less) (λ more. inr (omega arith, omega arith))

place_before : (c k c' k' : ℕ) → k < keys → Before c k c' k' → key_place c k < key_place c' k'
place_before c k c' k' h b = ⊎_elim (λ (less : c < c'). omega arith) (λ (same : (c ≡ c') × (k < k')). omega arith) b

-- Events and places

record Of (e : Event Span) (ps : List ℕ) : Type 0 where
  pub place : ℕ
  pub own : e ≡ note_off_at place
  pub mem : Memᴰ place ps

mem_of : (e : Event Span) (ps : List ℕ) → Memᴰ e (map note_off_at ps) → Of e ps
mem_of e [] m = absurd (mathlib.Core.List.Memᴰ.not-nil m)
mem_of e (p ∷ ps) m =
    ⊎_elim
    (λ (same : e ≡ note_off_at p). record { place = p; own = same; mem = mathlib.Core.List.Memᴰ.head refl })
    (λ (later : Memᴰ e (map note_off_at ps)). let o = mem_of e ps later in record { place = o.place; own = o.own; mem = mathlib.Core.List.Memᴰ.tail o.mem })
    (mathlib.Core.List.Memᴰ.cases_cons m)

of_mem : (p : ℕ) (ps : List ℕ) → Memᴰ p ps → Memᴰ (note_off_at p) (map note_off_at ps)
of_mem p [] m = absurd (mathlib.Core.List.Memᴰ.not-nil m)
of_mem p (q ∷ ps) m =
    ⊎_elim (λ (e : p ≡ q). mathlib.Core.List.Memᴰ.head (ap note_off_at e)) (λ (later : Memᴰ p ps). mathlib.Core.List.Memᴰ.tail (of_mem p ps later)) (mathlib.Core.List.Memᴰ.cases_cons m)

-- the channel and the key of a `NoteOff`
record Keyed (p c k : ℕ) : Type 0 where
  pub channel : p / keys ≡ c
  pub key : p % keys ≡ k

keyed : (p c k : ℕ) → note_off_at p ≡ off c k → Keyed p c k
keyed p c k e =
    let kinds : midi (p / keys) (note_off (p % keys) 0) ≡ midi c (note_off k 0) = ap (λ (x : Event Span). x.kind) e in
    record { channel = cc; key = cc }

before : (p q c k c' k' : ℕ) → note_off_at p ≡ off c k → note_off_at q ≡ off c' k' → p < q → Before c k c' k'
before p q c k c' k' e e' h =
    let a = keyed p c k e in
    let b = keyed q c' k' e' in
    before_of p q c k c' k' a.channel a.key b.channel b.key h

order_of : (low : ℕ) (ps : List ℕ) → Rising low ps → (front behind : List (Event Span)) (c k c' k' : ℕ) → map note_off_at ps ≡ front ++ (off c k ∷ off c' k' ∷ behind)
    → Before c k c' k'
order_of low [] r [] behind c k c' k' e = absurd (omega (arith, ap length e))
order_of low (p ∷ []) r [] behind c k c' k' e = absurd (omega (arith, ap length e))
order_of low (p ∷ q ∷ ps) r [] behind c k c' k' e =
    let one : note_off_at p ≡ off c k = cc in
    let two : note_off_at q ≡ off c' k' = cc in
    before p q c k c' k' one two (omega (arith, r.1.0))
order_of low [] r (f ∷ front) behind c k c' k' e = absurd (omega (arith, ap length e))
order_of low (p ∷ ps) r (f ∷ front) behind c k c' k' e =
    let rest : map note_off_at ps ≡ front ++ (off c k ∷ off c' k' ∷ behind) = cc in
    order_of (suc p) ps r.1 front behind c k c' k' rest

-- none is left out
module _ (t : Table) (channel key c k : ℕ) (hk : key < keys) (s : Sounds t channel key c k) where
  abbrev named : List ℕ
  named = silenced capacity t (key_place channel key)

  own_keys : Keyed (key_place c k) c k
  own_keys = record { channel = channel_back c k s.key_fits; key = key_back c k s.key_fits }

  own_off : note_off_at (key_place c k) ≡ off c k
  own_off = rw (own_keys.channel, own_keys.key)

  not_before : key_place channel key ≤ key_place c k
  not_before =
      by_lt (key_place c k) (key_place channel key)
      (λ h. by_lt c channel (λ less. absurd (s.behind (inl less))) (λ more. absurd (s.behind (inr (omega (arith, s.key_fits), omega (arith, s.key_fits))))))
      (λ h. h)

  named_or_full : Memᴰ (off c k) (map note_off_at named)
      ⊎ ((length (map note_off_at named) ≡ capacity) × ((c' k' : ℕ) → Memᴰ (off c' k') (map note_off_at named) → Before c' k' c k))
  named_or_full =
      ⊎_elim
      (λ (there : Memᴰ (key_place c k) named). inl (rw own_off at (of_mem (key_place c k) named there)))
      (λ (full : (length named ≡ capacity) × ((q : ℕ) → Memᴰ q named → q < key_place c k)).
      inr (
        length-map named note_off_at ∙ full.0,
        λ c' k' m. let o = mem_of (off c' k') named m in before o.place (key_place c k) c' k' c k (sym o.own) own_off (full.1 o.place o.mem),
      ))
      (silenced_first capacity t (key_place channel key) (key_place c k) not_before (place_within c k s.channel_fits s.key_fits)
      (rw (own_keys.channel, own_keys.key) s.not_nought))

pub names : (t : Table) (channel key : ℕ) → channel < channels → key < keys → Names t channel key (silence_from capacity t (key_place channel key))
unfolding silence_from
names t channel key hc hk =
    let place = key_place channel key in
    let ps = silenced capacity t place in
    let rising = rising_silenced capacity t place in
    record {
      few = silence_fits capacity t place;
      sounds = λ e m.
          let o = mem_of e ps m in
          let p = o.place in
          let there = placed_mem ps p (placed capacity t place) o.mem in (
            p / keys,
            (
              p % keys,
              (
                o.own,
                record {
                  channel_fits = place_channel p there;
                  key_fits = place_key p;
                  not_nought = silenced_sounds capacity t place p o.mem;
                  behind = λ b. omega (arith, place_before (p / keys) (p % keys) channel key (place_key p) b, rising_above place ps p rising o.mem);
                },
              ),
            ),
          );
      order = λ front behind c k c' k' e. order_of place ps rising front behind c k c' k' e;
      all = λ c k s. named_or_full t channel key c k hk s;
    }
