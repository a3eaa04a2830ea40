-- Bend values. Document 01, "Bend values": the signed bend is what the raw bend of 14 bits is above the middle, 8,192.
-- A float is nan, an infinity, or `fin negative m e`: m * 2 ^ e, that is m * up e / down e, with its sign.
use Rattle.std.specs.Prelude.{Bool, true, false, ℕ, suc, ◌*◌, ◌/◌, min, ℤ, pos, negsuc, neg_ℤ, nat_abs, ◌+ℤ◌, ◌-ℤ◌, Float}
use Rattle.std.specs.Int.Signed.{lt_z}
use Rattle.std.specs.Float.{nan, inf, fin, Format}
use Rattle.std.specs.Float.Ieee.{up, down, round}
use Rattle.std.specs.Float.Ieee.Exact.{HasValue}
use Rattle.smf.specs.Answer.{pick, Answer, gives, refuses, and_then}
use Rattle.smf.specs.Width.{try_width}

-- the lowest signed bend, -8,192
abbrev pub lowest : ℤ
lowest = negsuc 8191

-- the highest signed bend, 8,191
abbrev pub highest : ℤ
highest = pos 8191

-- the signed bend: raw less 8,192
abbrev pub bend_of : ℕ → ℤ
bend_of raw = pos raw -ℤ pos 8192

-- integers beyond are clamped
unfoldable pub clamped : ℤ → ℤ
clamped z = pick (lt_z z lowest) lowest (pick (lt_z highest z) highest z)

-- the raw bend of an integer
unfoldable pub raw_bend : ℤ → ℕ
raw_bend z = nat_abs (clamped z +ℤ pos 8192)

-- a bend's value asked: 18 where the raw bend is above its width
unfoldable pub ask_bend : ℕ → Answer ℤ
ask_bend raw = and_then (try_width 14 raw) (λ r. gives (bend_of r))

-- n with a sign
abbrev pub signed : Bool → ℕ → ℤ
signed negative n = pick negative (neg_ℤ (pos n)) (pos n)

-- from a float: clamp to -1..1, multiply by 8,192, drop the fraction toward zero; NaN gives -8,192
unfoldable pub scaled : Float → ℤ
scaled nan = lowest
scaled (inf negative) = signed negative 8192
scaled (fin negative m e) = signed negative (min (m * up e) (down e) * 8192 / down e)

-- the raw bend of a float: clamp again
unfoldable pub raw_bend_of_float : Float → ℕ
raw_bend_of_float x = raw_bend (scaled x)

-- to a float: the format's value nearest to the quotient of a signed bend by 8,192
unfoldable pub quotient : Format → ℤ → Float
quotient f (pos n) = round f false n 8192
quotient f (negsuc n) = round f true (suc n) 8192

-- that value is the quotient itself: finite, of the bend's sign, and exact
unfoldable pub IsQuotient : ℤ → Float → Type 0
IsQuotient (pos n) x = HasValue x false n 8192
IsQuotient (negsuc n) x = HasValue x true (suc n) 8192

-- a bend's value asked as a float: 18 where the raw bend is above its width
unfoldable pub ask_float : Format → ℕ → Answer Float
ask_float f raw = and_then (ask_bend raw) (λ z. gives (quotient f z))

-- a float that is given is the exact quotient; a refusal gives none
unfoldable pub GivesQuotient : ℕ → Answer Float → Type 0
GivesQuotient raw (gives x) = IsQuotient (bend_of raw) x
GivesQuotient raw (refuses n) = Unit
