-- Laws of the scores of some scorers.
use Rattle.std.proofs.Common.{◌≡◌, ◌∙◌, ℕ, zero, suc, ◌+◌, ◌-◌, ◌^◌, ◌<◌, ◌≤◌, inl, inr, Bool, true, false, List, [], ◌∷◌, ◌++◌, Option, None, Some, drop, get_or, if◌then◌else◌, length, max, min, nat_le, nat_lt, refl, set, slice_get, sym, ap, subst, take, arith}
use Rattle.std.specs.List.{AllByRecursion, AllZip, fold}
use Rattle.std.proofs.lemmas.Bool.{leb-false, leb-true, le-leb, ltb-false, ltb-true}
use Rattle.std.proofs.lemmas.List.{drop_all}
use Rattle.ii_base.specs.declared.doc_id.TheConstants.{TERMINATED}
use Rattle.ii_scorer.specs.Combinations.{add, any_of, both, each_of, either, unless}
use Rattle.ii_scorer.specs.Scorers.{IsBelow, IsBounded, IsNext, IsPassed, IsUpTo, KeepsFrom, ScorerState, depth_over, if_at_least, most_of, score_of, scores_at, sums_after}
use Rattle.ii_scorer.proofs.SumLemmas.{add_grouped, any_append, any_cons, both_never, either_none}

-- ---- bounds of scores
pub up_to_more : (most more : ℕ) (score : Option ℕ) → most ≤ more → IsUpTo most score → IsUpTo more score
up_to_more most more None low up = tt
up_to_more most more (Some s) low up = omega (arith, low, up)

pub below_if_up_to : (most least : ℕ) (score : Option ℕ) → most < least → IsUpTo most score → IsBelow least score
below_if_up_to most least None low up = tt
below_if_up_to most least (Some s) low up = omega (arith, low, up)

pub none_below : (score : Option ℕ) → IsBelow 0 score → score ≡ None
none_below None below = refl
none_below (Some s) below = absurd (omega (arith, below))

pub below_none : (least : ℕ) (score : Option ℕ) → score ≡ None → IsBelow least score
below_none least score none = rw none tt

pub all_at_least : (score : Option ℕ) → if_at_least 0 score ≡ score
all_at_least None = refl
all_at_least (Some s) = rw (le-leb 0 s (omega arith)) refl

pub below_at_least : (least : ℕ) (score : Option ℕ) → IsBelow least score → if_at_least least score ≡ None
below_at_least least None below = refl
below_at_least least (Some s) below = let low : s < least = below in rw (not-leb least s low) refl
  where
    not-leb : (m n : ℕ) → n < m → nat_le m n ≡ false
    not-leb m n low = by (nat_le m n) refl
      where
        by : (t : Bool) → nat_le m n ≡ t → nat_le m n ≡ false
        by true is = let up = leb-true m n is in absurd (omega (arith, up, low))
        by false is = is

-- if it isn't given, it is less
pub none_at_least : (least : ℕ) (score : Option ℕ) → if_at_least least score ≡ None → IsBelow least score
none_at_least least None none = tt
none_at_least least (Some s) none = by (nat_le least s) refl none
  where
    by : (t : Bool) → nat_le least s ≡ t → (if t then Some s else None) ≡ None → s < least
    by true is none = absurd (cc)
    by false is none = let low = leb-false least s is in omega (arith, low)

-- the sum of two scores
pub up_to_either : (m n : ℕ) (a b : Option ℕ) → m < 2 ^ 64 → n < 2 ^ 64 → IsUpTo m a → IsUpTo n b → IsUpTo (add m n) (either a b)
up_to_either m n None None few small a b = tt
up_to_either m n None (Some t) few small a b = omega (arith, few, small, b)
up_to_either m n (Some s) None few small a b = omega (arith, few, small, a)
up_to_either m n (Some s) (Some t) few small a b = omega (arith, few, small, a, b)

pub up_to_both : (m n : ℕ) (a b : Option ℕ) → IsUpTo m a → IsUpTo n b → IsUpTo (add m n) (both a b)
up_to_both m n None b up to = tt
up_to_both m n (Some s) None up to = tt
up_to_both m n (Some s) (Some t) up to = omega (arith, up, to)

pub up_to_unless : (m : ℕ) (a b : Option ℕ) → IsUpTo m a → IsUpTo m (unless a b)
up_to_unless m a None up = up
up_to_unless m a (Some t) up = tt

-- ---- bounds of the scores of some scorers
few_of : (ss : List ScorerState) → most_of ss < 2 ^ 64
few_of [] = omega arith
few_of (s ∷ ss) = omega arith

pub any_up_to : (ss : List ScorerState) (doc : ℕ) → AllByRecursion IsBounded ss → IsUpTo (most_of ss) (any_of (scores_at ss doc))
any_up_to [] doc all = tt
any_up_to (s ∷ ss) doc all =
    subst (IsUpTo (most_of (s ∷ ss))) (sym (any_cons (score_of s doc) (scores_at ss doc))) (up_to_either s.most (most_of ss) (score_of s doc) (any_of (scores_at ss doc)) all.0.fits (few_of ss) (all.0.each doc) (any_up_to ss doc all.1))

fold_up_to : (m : ℕ) (score : Option ℕ) (ss : List ScorerState) (doc : ℕ) → m < 2 ^ 64 → IsUpTo m score → AllByRecursion IsBounded ss → IsUpTo (add m (most_of ss)) (fold both score (scores_at ss doc))
fold_up_to m score [] doc few up all = up_to_more m (add m 0) score (omega (arith, few)) up
fold_up_to m score (s ∷ ss) doc few up all =
    subst (λ (n : ℕ). IsUpTo n (fold both score (scores_at (s ∷ ss) doc))) (add_grouped m s.most (most_of ss))
    (fold_up_to (add m s.most) (both score (score_of s doc)) ss doc (omega arith) (up_to_both m s.most score (score_of s doc) up (all.0.each doc)) all.1)

pub each_up_to : (ss : List ScorerState) (doc : ℕ) → AllByRecursion IsBounded ss → IsUpTo (most_of ss) (each_of (scores_at ss doc))
each_up_to [] doc all = tt
each_up_to (s ∷ ss) doc all = fold_up_to s.most (score_of s doc) ss doc all.0.fits (all.0.each doc) all.1

-- the sums of the first ones
pub sum_at : (sum : ℕ) (ss : List ScorerState) (i : ℕ) → i < length ss → get_or (sums_after sum ss) i 0 ≡ add sum (most_of (take (suc i) ss))
sum_at sum [] i inside = absurd (omega (arith, inside))
sum_at sum (s ∷ ss) zero inside = omega arith
sum_at sum (s ∷ ss) (suc i) inside = sum_at (add sum s.most) ss i (omega (arith, inside)) ∙ add_grouped sum s.most (most_of (take (suc i) ss))

pub sums_long : (sum : ℕ) (ss : List ScorerState) → length (sums_after sum ss) ≡ length ss
sums_long sum [] = refl
sums_long sum (s ∷ ss) = ap suc (sums_long (add sum s.most) ss)

all_taken : {A : Type 0} (P : A → Type 0) (k : ℕ) (xs : List A) → AllByRecursion P xs → AllByRecursion P (take k xs)
all_taken P zero xs all = tt
all_taken P (suc k) [] all = tt
all_taken P (suc k) (x ∷ xs) all = (all.0, all_taken P k xs all.1)

-- the first ones reach their sum at most
pub first_up_to : (ss : List ScorerState) (k doc : ℕ) → k < length ss → AllByRecursion IsBounded ss → IsUpTo (get_or (sums_after 0 ss) k 0) (any_of (scores_at (take (suc k) ss) doc))
first_up_to ss k doc inside all =
    let sum = sum_at 0 ss k inside in
    up_to_more (most_of (take (suc k) ss)) (get_or (sums_after 0 ss) k 0) (any_of (scores_at (take (suc k) ss) doc)) (let few = few_of (take (suc k) ss) in omega (arith, sum, few))
    (any_up_to (take (suc k) ss) doc (all_taken IsBounded (suc k) ss all))

-- the scores of the first ones, and of the others
pub any_parts : (ss : List ScorerState) (k doc : ℕ) → any_of (scores_at ss doc) ≡ either (any_of (scores_at (take k ss) doc)) (any_of (scores_at (drop k ss) doc))
any_parts ss zero doc = refl
any_parts [] (suc k) doc = refl
any_parts (s ∷ ss) (suc k) doc = any_cons (score_of s doc) (scores_at ss doc) ∙ ap (either (score_of s doc)) (any_parts ss k doc) ∙ grouped
  where
    first : List (Option ℕ)
    first = scores_at (take k ss) doc

    last : List (Option ℕ)
    last = scores_at (drop k ss) doc

    grouped : either (score_of s doc) (either (any_of first) (any_of last)) ≡ either (any_of (score_of s doc ∷ first)) (any_of last)
    grouped = ap (either (score_of s doc)) (sym (any_append first last)) ∙ sym (any_cons (score_of s doc) (first ++ last)) ∙ any_append (score_of s doc ∷ first) last

-- No scorer from a place on, up to another one, gives a document that is passed.
pub record PassesParts (from to target next : ℕ) (ss : List ScorerState) : Type 0 where
  pub low : target ≤ next
  pub up_to : next ≤ TERMINATED
  pub none : (j doc : ℕ) (s : ScorerState) → from ≤ j → j < to → slice_get ss j ≡ Some s → target ≤ doc → IsPassed next doc → score_of s doc ≡ None

none_from : (ss : List ScorerState) (k doc : ℕ) → ((j : ℕ) (s : ScorerState) → k ≤ j → j < length ss → slice_get ss j ≡ Some s → score_of s doc ≡ None) → any_of (scores_at (drop k ss) doc) ≡ None
none_from [] zero doc none = refl
none_from [] (suc k) doc none = refl
none_from (s ∷ ss) zero doc none =
    any_cons (score_of s doc) (scores_at ss doc) ∙ (λ j. either (none zero s (omega arith) (omega arith) refl j) (none_from ss zero doc (λ i t low inside at. none (suc i) t (omega (arith, low)) (omega (arith, inside)) at) j))
none_from (s ∷ ss) (suc k) doc none = none_from ss k doc (λ i t low inside at. none (suc i) t (omega (arith, low)) (omega (arith, inside)) at)

-- without the scorers from a place on a document doesn't score enough, if the first ones don't reach that together
pub passes_any : (ss : List ScorerState) (k target next least : ℕ) → AllByRecursion IsBounded ss → k ≤ length ss → (0 < k → get_or (sums_after 0 ss) (k - 1) 0 < least) → PassesParts k (length ss) target next ss
    → IsNext target least (λ (doc : ℕ). any_of (scores_at ss doc)) next
passes_any ss k target next least all inside below p = record {
  low = p.low;
  up_to = p.up_to;
  passed = λ doc from passed.
      let rest : any_of (scores_at (drop k ss) doc) ≡ None = none_from ss k doc (λ j s low within at. p.none j doc s low within at from passed) in
      let whole : any_of (scores_at ss doc) ≡ any_of (scores_at (take k ss) doc) = any_parts ss k doc ∙ ap (either (any_of (scores_at (take k ss) doc))) rest ∙ either_none (any_of (scores_at (take k ss) doc)) in
      subst (IsBelow least) (sym whole) (first k inside below doc);
}
  where
    first : (k : ℕ) → k ≤ length ss → (0 < k → get_or (sums_after 0 ss) (k - 1) 0 < least) → (doc : ℕ) → IsBelow least (any_of (scores_at (take k ss) doc))
    first zero inside below doc = tt
    first (suc k) inside below doc =
        let one : suc k - 1 ≡ k = omega arith in
        below_if_up_to (get_or (sums_after 0 ss) k 0) least (any_of (scores_at (take (suc k) ss) doc)) (subst (λ (i : ℕ). get_or (sums_after 0 ss) i 0 < least) one (below (omega arith))) (first_up_to ss k doc (omega (arith, inside)) all)

-- one scorer more
pub passes_part : (ss : List ScorerState) (k place target next found : ℕ) (s : ScorerState) → slice_get ss place ≡ Some s → PassesParts k place target next ss → IsNext target 0 (score_of s) found → PassesParts k (place + 1) target (min next found) ss
passes_part ss k place target next found s at p is = record {
  low = let one = p.low in let other = is.low in omega (arith, one, other);
  up_to = let one = p.up_to in omega (arith, one);
  none = λ j doc t low inside here from passed. by j doc t low inside here from passed (nat_lt j place) refl;
}
  where
    some_injective : (x y : ScorerState) → Some x ≡ Some y → x ≡ y
    some_injective x y is = cc

    both_passed : (doc : ℕ) → IsPassed (min next found) doc → IsPassed next doc × IsPassed found doc
    both_passed doc (inl low) = (inl (omega (arith, low)), inl (omega (arith, low)))
    both_passed doc (inr end) = let one = p.up_to in let other = is.up_to in (inr (omega (arith, end, one, other)), inr (omega (arith, end, one, other)))

    by : (j doc : ℕ) (t : ScorerState) → k ≤ j → j < place + 1 → slice_get ss j ≡ Some t → target ≤ doc → IsPassed (min next found) doc → (b : Bool) → nat_lt j place ≡ b → score_of t doc ≡ None
    by j doc t low inside here from passed true before = p.none j doc t low (ltb-true j place before) here from (both_passed doc passed).0
    by j doc t low inside here from passed false after =
        let last = ltb-false j place after in
        let same : j ≡ place = omega (arith, last, inside) in
        let one : Some t ≡ Some s = sym here ∙ ap (slice_get ss) same ∙ at in
        ap (λ (x : ScorerState). score_of x doc) (some_injective t s one) ∙ none_below (score_of s doc) (is.passed doc from (both_passed doc passed).1)

-- a document that one of some scorers doesn't give, each of them doesn't
pub each_missing : (ss : List ScorerState) (i doc : ℕ) (s : ScorerState) → slice_get ss i ≡ Some s → score_of s doc ≡ None → each_of (scores_at ss doc) ≡ None
each_missing [] i doc s at none = refl
each_missing (x ∷ ss) zero doc s at none = let same : x ≡ s = cc in ap (λ (score : Option ℕ). fold both score (scores_at ss doc)) (ap (λ (y : ScorerState). score_of y doc) same ∙ none) ∙ both_never (scores_at ss doc)
each_missing (x ∷ ss) (suc i) doc s at none = later (score_of x doc) ss i at
  where
    never : (score : Option ℕ) → both score None ≡ None
    never None = refl
    never (Some n) = refl

    later : (score : Option ℕ) (ts : List ScorerState) (j : ℕ) → slice_get ts j ≡ Some s → fold both score (scores_at ts doc) ≡ None
    later score [] j at = absurd (cc)
    later score (t ∷ ts) zero at =
        let same : t ≡ s = cc in ap (λ (u : Option ℕ). fold both u (scores_at ts doc)) (ap (both score) (ap (λ (y : ScorerState). score_of y doc) same ∙ none) ∙ never score) ∙ both_never (scores_at ts doc)
    later score (t ∷ ts) (suc j) at = later (both score (score_of t doc)) ts j at

-- ---- scorers that went on
pub keeps_same : (doc : ℕ) (s : ScorerState) → KeepsFrom doc s s
keeps_same doc s = record { alike = λ d from. refl; most = refl; depth = refl; bounds = refl; bounded = λ b. b }

pub keeps_then : (doc : ℕ) (a b c : ScorerState) → KeepsFrom doc a b → KeepsFrom doc b c → KeepsFrom doc a c
keeps_then doc a b c first second = record {
  alike = λ d from. second.alike d from ∙ first.alike d from;
  most = second.most ∙ first.most;
  depth = second.depth ∙ first.depth;
  bounds = second.bounds ∙ first.bounds;
  bounded = λ bounded. second.bounded (first.bounded bounded);
}

pub zip_same : (doc : ℕ) (ss : List ScorerState) → AllZip (KeepsFrom doc) ss ss
zip_same doc [] = tt
zip_same doc (s ∷ ss) = (keeps_same doc s, zip_same doc ss)

-- one of them went on
pub zip_set : (doc : ℕ) (olds news : List ScorerState) (i : ℕ) (x y : ScorerState) → i < length news → x ≡ get_or news i x → KeepsFrom doc x y → AllZip (KeepsFrom doc) olds news → AllZip (KeepsFrom doc) olds (set news i y)
zip_set doc [] [] i x y inside is k z = absurd (omega (arith, inside))
zip_set doc [] (n ∷ ns) i x y inside is k z = elim z [ ]
zip_set doc (o ∷ os) [] i x y inside is k z = elim z [ ]
zip_set doc (o ∷ os) (n ∷ ns) zero x y inside is k z = (keeps_then doc o n y z.0 (subst (λ (s : ScorerState). KeepsFrom doc s y) is k), z.1)
zip_set doc (o ∷ os) (n ∷ ns) (suc i) x y inside is k z = (z.0, zip_set doc os ns i x y (omega (arith, inside)) is k z.1)

-- what one of them was
pub zip_at : (doc : ℕ) (olds news : List ScorerState) (i : ℕ) (x : ScorerState) → i < length news → x ≡ get_or news i x → AllZip (KeepsFrom doc) olds news → (o : ScorerState) × (slice_get olds i ≡ Some o) × KeepsFrom doc o x
zip_at doc [] [] i x inside is z = absurd (omega (arith, inside))
zip_at doc [] (n ∷ ns) i x inside is z = elim z [ ]
zip_at doc (o ∷ os) [] i x inside is z = elim z [ ]
zip_at doc (o ∷ os) (n ∷ ns) zero x inside is z = (o, refl, subst (KeepsFrom doc o) (sym is) z.0)
zip_at doc (o ∷ os) (n ∷ ns) (suc i) x inside is z = zip_at doc os ns i x (omega (arith, inside)) is z.1

pub zip_long : (doc : ℕ) (olds news : List ScorerState) → AllZip (KeepsFrom doc) olds news → length news ≡ length olds
zip_long doc [] [] z = refl
zip_long doc [] (n ∷ ns) z = elim z [ ]
zip_long doc (o ∷ os) [] z = elim z [ ]
zip_long doc (o ∷ os) (n ∷ ns) z = ap suc (zip_long doc os ns z.1)

pub zip_scores : (doc d : ℕ) (olds news : List ScorerState) → doc ≤ d → AllZip (KeepsFrom doc) olds news → scores_at news d ≡ scores_at olds d
zip_scores doc d [] [] from z = refl
zip_scores doc d [] (n ∷ ns) from z = elim z [ ]
zip_scores doc d (o ∷ os) [] from z = elim z [ ]
zip_scores doc d (o ∷ os) (n ∷ ns) from z = λ j. z.0.alike d from j ∷ zip_scores doc d os ns from z.1 j

pub zip_most : (doc : ℕ) (olds news : List ScorerState) → AllZip (KeepsFrom doc) olds news → most_of news ≡ most_of olds
zip_most doc [] [] z = refl
zip_most doc [] (n ∷ ns) z = elim z [ ]
zip_most doc (o ∷ os) [] z = elim z [ ]
zip_most doc (o ∷ os) (n ∷ ns) z = λ j. add (z.0.most j) (zip_most doc os ns z.1 j)

pub zip_sums : (doc sum : ℕ) (olds news : List ScorerState) → AllZip (KeepsFrom doc) olds news → sums_after sum news ≡ sums_after sum olds
zip_sums doc sum [] [] z = refl
zip_sums doc sum [] (n ∷ ns) z = elim z [ ]
zip_sums doc sum (o ∷ os) [] z = elim z [ ]
zip_sums doc sum (o ∷ os) (n ∷ ns) z = ap (λ (m : ℕ). add sum m ∷ sums_after (add sum m) ns) z.0.most ∙ ap (λ (row : List ℕ). add sum o.most ∷ row) (zip_sums doc (add sum o.most) os ns z.1)

pub zip_depth : (doc : ℕ) (olds news : List ScorerState) → AllZip (KeepsFrom doc) olds news → depth_over news ≡ depth_over olds
zip_depth doc [] [] z = refl
zip_depth doc [] (n ∷ ns) z = elim z [ ]
zip_depth doc (o ∷ os) [] z = elim z [ ]
zip_depth doc (o ∷ os) (n ∷ ns) z = λ j. max (suc (z.0.depth j)) (zip_depth doc os ns z.1 j)

pub zip_bounded : (doc : ℕ) (olds news : List ScorerState) → AllZip (KeepsFrom doc) olds news → AllByRecursion IsBounded olds → AllByRecursion IsBounded news
zip_bounded doc [] [] z all = tt
zip_bounded doc [] (n ∷ ns) z all = elim z [ ]
zip_bounded doc (o ∷ os) [] z all = elim z [ ]
zip_bounded doc (o ∷ os) (n ∷ ns) z all = (z.0.bounded all.0, zip_bounded doc os ns z.1 all.1)

-- one of them is less deep than all together
pub depth_inside : (ss : List ScorerState) (i : ℕ) (x : ScorerState) → i < length ss → x ≡ get_or ss i x → suc x.depth ≤ depth_over ss
depth_inside [] i x inside is = absurd (omega (arith, inside))
depth_inside (s ∷ ss) zero x inside is = let same = ap (λ (t : ScorerState). t.depth) is in omega (arith, same)
depth_inside (s ∷ ss) (suc i) x inside is = let deep = depth_inside ss i x (omega (arith, inside)) is in omega (arith, deep)

pub depth_zipped : (doc : ℕ) (olds news : List ScorerState) (i : ℕ) (x : ScorerState) → i < length news → x ≡ get_or news i x → AllZip (KeepsFrom doc) olds news → suc x.depth ≤ depth_over olds
depth_zipped doc olds news i x inside is z = let same = zip_depth doc olds news z in let deep = depth_inside news i x inside is in omega (arith, same, deep)

-- ---- the next document
-- one of some scorers passes documents, so all together do
pub next_missing : (target next i : ℕ) (olds news : List ScorerState) (x : ScorerState) → i < length news → x ≡ get_or news i x → AllZip (KeepsFrom target) olds news → IsNext target 0 (score_of x) next → IsNext target 0 (λ (doc : ℕ). each_of (scores_at olds doc)) next
next_missing target next i olds news x inside is z n =
    let o = zip_at target olds news i x inside is z in
    record {
      low = n.low;
      up_to = n.up_to;
      passed = λ doc from passed. below_none 0 (each_of (scores_at olds doc)) (each_missing olds i doc o.0 o.1 (sym (o.2.alike doc from) ∙ none_below (score_of x doc) (n.passed doc from passed)));
    }

-- no scorer was asked yet
pub passes_none : (k target : ℕ) (ss : List ScorerState) → target ≤ TERMINATED → PassesParts k k target TERMINATED ss
passes_none k target ss up = record { low = up; up_to = omega arith; none = λ j doc s low inside at from passed. absurd (omega (arith, low, inside)) }

-- one scorer more was asked
pub passes_next : (ss news : List ScorerState) (k place target next found : ℕ) (x : ScorerState) → place < length news → x ≡ get_or news place x → AllZip (KeepsFrom target) ss news → PassesParts k place target next ss → IsNext target 0 (score_of x) found → PassesParts k (place + 1) target (min next found) ss
passes_next ss news k place target next found x inside is z p n =
    let o = zip_at target ss news place x inside is z in
    passes_part ss k place target next found o.0 o.1 p (record { low = n.low; up_to = n.up_to; passed = λ doc from passed. subst (IsBelow 0) (o.2.alike doc from) (n.passed doc from passed) })

-- ---- the score of one document
-- of the scorer at a place
pub next_score : (doc i : ℕ) (olds news : List ScorerState) (x : ScorerState) (given : Option ℕ) → i < length news → x ≡ get_or news i x → AllZip (KeepsFrom doc) olds news → given ≡ if_at_least 0 (score_of x doc) → scores_at (drop i olds) doc ≡ given ∷ scores_at (drop (suc i) olds) doc
next_score doc i olds news x given inside is z at =
    let o = zip_at doc olds news i x inside is z in
    from_place olds i o.0 o.1 (sym (o.2.alike doc (omega arith)) ∙ sym (all_at_least (score_of x doc)) ∙ sym at)
  where
    from_place : (ss : List ScorerState) (j : ℕ) (s : ScorerState) → slice_get ss j ≡ Some s → score_of s doc ≡ given → scores_at (drop j ss) doc ≡ given ∷ scores_at (drop (suc j) ss) doc
    from_place [] j s there same = absurd (cc)
    from_place (t ∷ ss) zero s there same = let one : t ≡ s = cc in ap (λ (score : Option ℕ). score ∷ scores_at ss doc) (ap (λ (u : ScorerState). score_of u doc) one ∙ same)
    from_place (t ∷ ss) (suc j) s there same = from_place ss j s there same

-- of all, from the first one on
pub each_start : (doc : ℕ) (olds news : List ScorerState) (x : ScorerState) (given : Option ℕ) → 0 < length news → x ≡ get_or news 0 x → AllZip (KeepsFrom doc) olds news → given ≡ if_at_least 0 (score_of x doc) → fold both given (scores_at (drop 1 olds) doc) ≡ each_of (scores_at olds doc)
each_start doc olds news x given inside is z at = sym (ap each_of (next_score doc 0 olds news x given inside is z at))

pub each_next : (doc i : ℕ) (olds news : List ScorerState) (x : ScorerState) (sum given : Option ℕ) → i < length news → x ≡ get_or news i x → AllZip (KeepsFrom doc) olds news → given ≡ if_at_least 0 (score_of x doc) → fold both sum (scores_at (drop i olds) doc) ≡ each_of (scores_at olds doc)
    → fold both (both sum given) (scores_at (drop (i + 1) olds) doc) ≡ each_of (scores_at olds doc)
each_next doc i olds news x sum given inside is z at all =
    let more : i + 1 ≡ suc i = omega arith in
    ap (λ (n : ℕ). fold both (both sum given) (scores_at (drop n olds) doc)) more ∙ sym (ap (fold both sum) (next_score doc i olds news x given inside is z at)) ∙ all

pub each_over : (doc i : ℕ) (olds : List ScorerState) (sum : Option ℕ) → sum ≡ None → fold both sum (scores_at (drop i olds) doc) ≡ each_of (scores_at olds doc) → None ≡ each_of (scores_at olds doc)
each_over doc i olds sum none all = sym (both_never (scores_at (drop i olds) doc)) ∙ ap (λ (s : Option ℕ). fold both s (scores_at (drop i olds) doc)) (sym none) ∙ all

-- the scorers that are left don't reach what is wanted
pub any_without : (ss : List ScorerState) (i doc bound least : ℕ) (sum : Option ℕ) → i < length ss → AllByRecursion IsBounded ss → sum ≡ any_of (scores_at (drop (suc i) ss) doc) → ((score : Option ℕ) → IsUpTo (get_or (sums_after 0 ss) i 0) score → IsUpTo bound (either score sum)) → bound < least
    → if_at_least least (any_of (scores_at ss doc)) ≡ None
any_without ss i doc bound least sum inside all is up low =
    below_at_least least (any_of (scores_at ss doc))
    (subst (IsBelow least) (ap (either (any_of (scores_at (take (suc i) ss) doc))) is ∙ sym (any_parts ss (suc i) doc))
    (below_if_up_to bound least (either (any_of (scores_at (take (suc i) ss) doc)) sum) low (up (any_of (scores_at (take (suc i) ss) doc)) (first_up_to ss i doc inside all))))

-- no scorer was asked yet
pub any_start : (ss : List ScorerState) (n doc : ℕ) → length ss ≤ n → None ≡ any_of (scores_at (drop n ss) doc)
any_start ss n doc all = sym (ap (λ (row : List ScorerState). any_of (scores_at row doc)) (drop_all n ss all))

-- one more
pub any_next : (doc i : ℕ) (olds news : List ScorerState) (x : ScorerState) (sum given : Option ℕ) → i < length news → x ≡ get_or news i x → AllZip (KeepsFrom doc) olds news → given ≡ if_at_least 0 (score_of x doc) → sum ≡ any_of (scores_at (drop (suc i) olds) doc) → either given sum ≡ any_of (scores_at (drop i olds) doc)
any_next doc i olds news x sum given inside is z at all = ap (either given) all ∙ sym (any_cons given (scores_at (drop (suc i) olds) doc)) ∙ sym (ap any_of (next_score doc i olds news x given inside is z at))
