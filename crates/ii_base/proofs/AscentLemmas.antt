-- Laws of documents that ascend, in parts.
use Rattle.std.proofs.Common.{◌≡◌, ◌≤◌, ℕ, zero, suc, ◌+◌, Bool, true, false, ◌&&◌, List, [], ◌∷◌, ◌++◌, length, get_or, nat_le, nat_lt, refl, ap, ◌∙◌, arith}
use Rattle.std.proofs.lemmas.Bool.{ltb-true, leb-true}
use Rattle.ii_base.specs.declared.doc_id.TheConstants.{TERMINATED}
use Rattle.ii_base.specs.Entries.{ascend_from}

-- the least document after documents
abbrev pub least_after : ℕ → List ℕ → ℕ
least_after least [] = least
least_after least (d ∷ ds) = least_after (d + 1) ds

pub and_parts : (a b c : Bool) → (a && b && c) ≡ true → (a ≡ true) × (b ≡ true) × (c ≡ true)
and_parts true true c h = (refl, refl, h)
and_parts true false c h = absurd (cc)
and_parts false b c h = absurd (cc)

and_cases : (a b c d : Bool) → (a && b && (c && d)) ≡ ((a && b && c) && d)
and_cases true true c d = refl
and_cases true false c d = refl
and_cases false b c d = refl

pub ascend-append : (least : ℕ) (xs ys : List ℕ) → ascend_from least (xs ++ ys) ≡ (ascend_from least xs && ascend_from (least_after least xs) ys)
ascend-append least [] ys = refl
ascend-append least (x ∷ xs) ys =
    ap (λ (b : Bool). nat_le least x && nat_lt x TERMINATED && b) (ascend-append (x + 1) xs ys)
    ∙ and_cases (nat_le least x) (nat_lt x TERMINATED) (ascend_from (x + 1) xs) (ascend_from (least_after (x + 1) xs) ys)

pub least_after-append : (least : ℕ) (xs ys : List ℕ) → least_after least (xs ++ ys) ≡ least_after (least_after least xs) ys
least_after-append least [] ys = refl
least_after-append least (x ∷ xs) ys = least_after-append (x + 1) xs ys

-- the least document after some documents is one above the last of them
pub least_after-last : (least n : ℕ) (xs : List ℕ) → length xs ≡ suc n → least_after least xs ≡ get_or xs n 0 + 1
least_after-last least n [] e = absurd (omega arith)
least_after-last least zero (x ∷ []) e = refl
least_after-last least zero (x ∷ y ∷ xs) e = absurd (omega arith)
least_after-last least (suc n) (x ∷ xs) e = least_after-last (x + 1) n xs (omega arith)

-- documents lie below the end, so there are no more than that
pub ascent_below : (least : ℕ) (docs : List ℕ) → ascend_from least docs ≡ true → least ≤ TERMINATED → length docs + least ≤ TERMINATED
ascent_below least [] h low = omega arith
ascent_below least (d ∷ ds) h low =
    let parts = and_parts (nat_le least d) (nat_lt d TERMINATED) (ascend_from (d + 1) ds) h in
    let first = leb-true least d parts.0 in
    let high = ltb-true d TERMINATED parts.1 in
    let later = ascent_below (d + 1) ds parts.2 (omega arith) in
    omega arith
