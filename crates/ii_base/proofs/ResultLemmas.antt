-- A result that is Ok exactly under a condition.
use Rattle.std.proofs.Common.{◌≡◌, Bool, true, false, cond, Some, None, Result, Ok, Err, refl}
use Rattle.std.specs.Result.{OkIff, result_ok}

pub ok_where : {T E : Type 0} (r : Result T E) (P : Type 0) (t : Bool) (v : T) → (P → t ≡ true) → (t ≡ true → P) → OkIff r P v → result_ok r ≡ cond t (Some v) None
ok_where (Ok x) P t v to from h = rw (to h.0, h.1) refl
ok_where (Err e) P true v to from h = absurd (h (from refl))
ok_where (Err e) P false v to from h = refl
