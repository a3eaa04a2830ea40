-- What `map_err` gave, told back: of a value the value itself, of an error what was made of it.
use Rattle.std.specs.Prelude.{Result, Ok, Err}
use Rattle.std.specs.Result.{MatchResult, IsErrAnd, is_ok}
use mathlib.Core.Path.{◌≡◌, refl, sym, ap}
use mathlib.Core.Bool.{true, false, true≢false}

pub ok_back : {T E D : Type 0} (r : Result T E) (s : Result T D) (Q : E → Type 0) {y : T}
    → MatchResult r (λ x. s ≡ Ok x) Q → is_ok s ≡ is_ok r → s ≡ Ok y → r ≡ Ok y
ok_back (Ok x) s Q m v e = let same : x ≡ _ = cc in ap Ok same
ok_back (Err n) s Q m v e = let w : true ≡ false = rw e at v in absurd (true≢false w)

pub err_back : {T E D : Type 0} (r : Result T E) (s : Result T D) (P : E → D → Type 0) {d : D}
    → MatchResult r (λ x. s ≡ Ok x) (λ n. IsErrAnd s (P n)) → is_ok s ≡ is_ok r → s ≡ Err d → (n : E) × (r ≡ Err n) × P n d
err_back (Ok x) s P m v e = let w : false ≡ true = rw e at v in absurd (true≢false (sym w))
err_back (Err n) s P m v e = (n, refl, rw e at m)
