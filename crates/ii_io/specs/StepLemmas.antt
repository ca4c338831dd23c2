-- Laws of reading in steps.
use Rattle.std.proofs.Common.{◌≡◌, Bool, true, false, Option, Some, None, refl}
use Rattle.ii_io.specs.Steps.{◌>>=◌, needs}

-- the conditions under which a step gives a value
pub needs-some : {A : Type 0} (b : Bool) (f : Unit {0} → Option A) (x : A) → (needs b >>= f) ≡ Some x → (b ≡ true) × (f tt ≡ Some x)
needs-some true f x e = (refl, e)
needs-some false f x e = absurd (cc)

pub step-some : {A B : Type 0} (o : Option A) (f : A → Option B) (y : B) → (o >>= f) ≡ Some y → (x : A) × (o ≡ Some x) × (f x ≡ Some y)
step-some None f y e = absurd (cc)
step-some (Some x) f y e = (x, refl, e)

pub some-same : {A : Type 0} {x y : A} → Some x ≡ Some y → x ≡ y
some-same e = cc
