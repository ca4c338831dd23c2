-- Segments that are opened one after the other.
use Rattle.std.proofs.Common.{◌≡◌, ◌<◌, ◌≤◌, ℕ, List, [], ◌∷◌, ◌++◌, ap, append-nil, append_assoc, arith, length, max, subst, sym, ◌∙◌}
use Rattle.std.specs.List.{AllByRecursion, AllZip}
use Rattle.ii_definitions.specs.Tokens.{IndexToken}
use Rattle.ii_query_parser.specs.declared.query.Query.{Query}
use Rattle.ii_query_parser.specs.Queries.{matches}
use Rattle.nequllpa_opening.specs.declared.opened.Opened.{Opened}

-- one pair more
pub zip_push : {A B : Type 0} (R : A → B → Type 0) (xs : List A) (ys : List B) (x : A) (y : B) → AllZip R xs ys → R x y → AllZip R (xs ++ x ∷ []) (ys ++ y ∷ [])
zip_push R [] [] x y zip holds = (holds, tt)
zip_push R [] (b ∷ ys) x y zip holds = absurd zip
zip_push R (a ∷ xs) [] x y zip holds = absurd zip
zip_push R (a ∷ xs) (b ∷ ys) x y zip holds = (zip.0, zip_push R xs ys x y zip.1 holds)

-- Items that were made of those taken from a list.
pub record IsMaking {A B : Type 0} (R : A → B → Type 0) (all taken rest : List A) (made : List B) : Type 0 where
  pub whole : taken ++ rest ≡ all
  pub zip : AllZip R taken made

pub making_begins : {A B : Type 0} (R : A → B → Type 0) (all rest : List A) (made : List B) → rest ≡ all → made ≡ [] → IsMaking R all [] rest made
making_begins R all rest made same none = record { whole = same; zip = subst (AllZip R []) (sym none) tt }

pub making_goes_on : {A B : Type 0} (R : A → B → Type 0) (all taken before rest : List A) (made new : List B) (x : A) (y : B) → before ≡ x ∷ rest → new ≡ made ++ y ∷ [] → R x y → IsMaking R all taken before made → IsMaking R all (taken ++ x ∷ []) rest new
making_goes_on R all taken before rest made new x y step pushed holds so_far = record {
  whole = append_assoc taken (x ∷ []) rest ∙ ap (λ (r : List _). taken ++ r) (sym step) ∙ so_far.whole;
  zip = subst (AllZip R (taken ++ x ∷ [])) (sym pushed) (zip_push R taken made x y so_far.zip holds);
}

pub making_ends : {A B : Type 0} (R : A → B → Type 0) (all taken rest : List A) (made : List B) → rest ≡ [] → IsMaking R all taken rest made → AllZip R all made
making_ends R all taken rest made none so_far =
    let e : taken ≡ all = sym (append-nil taken) ∙ ap (λ (r : List _). taken ++ r) (sym none) ∙ so_far.whole in
    subst (λ (xs : List _). AllZip R xs made) e so_far.zip

-- a query that matches the same documents below a number does so in each segment that has no more
pub bounded_in_each : (old new : Query) (most : ℕ) (segments : List Opened) → ((ts : List IndexToken) (doc : ℕ) → doc < most → matches new ts doc ≡ matches old ts doc) → AllByRecursion (λ (s : Opened). length s.alive ≤ most) segments
    → AllByRecursion (λ (s : Opened). (ts : List IndexToken) (doc : ℕ) → doc < length s.alive → matches new ts doc ≡ matches old ts doc) segments
bounded_in_each old new most [] same few = few
bounded_in_each old new most (s ∷ ss) same few = ((λ ts doc below. same ts doc (omega (arith, below, few.0))), bounded_in_each old new most ss same few.1)

-- If the segments left have no more documents than a number, all have.
abbrev pub AreFewer : List Opened → ℕ → List Opened → Type 0
AreFewer all most left = (n : ℕ) → most ≤ n → AllByRecursion (λ (s : Opened). length s.alive ≤ n) left → AllByRecursion (λ (s : Opened). length s.alive ≤ n) all

pub fewer_first : (all left : List Opened) (most : ℕ) → left ≡ all → AreFewer all most left
fewer_first all left most is = λ n up few. subst (AllByRecursion (λ (s : Opened). length s.alive ≤ n)) is few

pub fewer_next : (all left rest : List Opened) (s : Opened) (most next : ℕ) → left ≡ s ∷ rest → next ≡ max most (length s.alive) → AreFewer all most left → AreFewer all next rest
fewer_next all left rest s most next is greatest fewer = λ n up few.
    fewer n (omega (arith, up, greatest)) (subst (AllByRecursion (λ (o : Opened). length o.alive ≤ n)) (sym is) ((omega (arith, up, greatest)), few))

pub fewer_all : (all left : List Opened) (most : ℕ) → left ≡ [] → AreFewer all most left → AllByRecursion (λ (s : Opened). length s.alive ≤ most) all
fewer_all all left most none fewer = fewer most (omega arith) (subst (AllByRecursion (λ (s : Opened). length s.alive ≤ most)) (sym none) tt)
