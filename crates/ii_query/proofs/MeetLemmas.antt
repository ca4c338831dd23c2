-- How the cursors of an intersection meet.
use Rattle.std.proofs.Common.{◌≡◌, ◌≢◌, ℕ, zero, suc, ◌+◌, ◌<◌, ◌≤◌, Bool, true, false, List, [], ◌∷◌, IsPermutation, get_or, length, set, inl, inr, refl, sym, ap, subst, ◌∙◌, arith}
use Rattle.std.specs.Prelude.{map}
use Rattle.std.specs.List.{All, AllByRecursion, AllZip, list_all}
use Rattle.std.proofs.lemmas.Bool.{and_right, eq-eqb}
use Rattle.std.proofs.lemmas.Bool.Decides.{leb_tells}
use Rattle.std.proofs.lemmas.List.Sorted.{All-permutation, IsPermutation-map, IsPermutation-sym, length_permutation}
use Rattle.std.proofs.lemmas.List.Sums.{AllPass-from_list_all, list_all-from_AllPass}
use Rattle.ii_base.specs.declared.doc_id.TheConstants.{TERMINATED}
use Rattle.ii_base.specs.Entries.{Entry, document}
use Rattle.ii_docset.specs.Cursor.{IsAscending, IsSound, doc_at, from_doc}
use Rattle.ii_docset.specs.Intersection.{has_doc}
use Rattle.ii_docset.proofs.CursorLemmas.{doc_below}
use Rattle.ii_docset.proofs.IntersectionLemmas.{doc_at-from_doc, has_doc-from_doc, has_doc_below}
use Rattle.ii_query.specs.Combined.{QueryCursorState, SeekAnswer, all_have, intersection_of, picked}
use Rattle.ii_query.specs.QueryCursor.{KeptFrom, WentTo, rests}
use Rattle.ii_query.proofs.CommonLemmas.{picked_again, same_docs}
use Rattle.ii_query.proofs.MatchLaws.{intersection_has}
use Rattle.ii_query.proofs.PartsLemmas.{DoneTo, done_ends, done_next, done_stays, done_weaker, zip_weaker}
use Rattle.ii_query.proofs.PickedLemmas.{picked_alike, picked_sound}

-- A cursor was sought to a document, which it has.
pub record MetAt {T : Type 0} (went : T → T → Type 0) (doc : ℕ) (old new : QueryCursorState T) : Type 0 where
  pub kept : KeptFrom went doc old new
  pub has : has_doc new.rest doc ≡ true

-- a list has the document that it begins with
has_at : (es : List Entry) (doc : ℕ) → doc < TERMINATED → doc ≡ doc_at es → has_doc es doc ≡ true
has_at [] doc low here = absurd (omega (arith, low, here))
has_at (e ∷ es) doc low here = rw (eq-eqb e.doc doc (sym here)) refl

pub went_kept : {T : Type 0} (went : T → T → Type 0) (doc : ℕ) (old new : QueryCursorState T) → WentTo went doc old new → KeptFrom went doc old new
went_kept went doc old new w = record { alike = λ d up. ap (λ (es : List Entry). has_doc es d) w.rest ∙ has_doc-from_doc doc d old.rest up; depth = w.depth; work = w.work }

pub met_at : {T : Type 0} (went : T → T → Type 0) (doc : ℕ) (old new : QueryCursorState T) → WentTo went doc old new → doc < TERMINATED → doc ≡ doc_at new.rest → MetAt went doc old new
met_at went doc old new w low here = record { kept = went_kept went doc old new w; has = has_at new.rest doc low here }

all_met : {T : Type 0} (went : T → T → Type 0) (doc : ℕ) (olds news : List (QueryCursorState T)) → AllZip (MetAt went doc) olds news → all_have (rests news) doc ≡ true
all_met went doc [] [] all = refl
all_met went doc [] (n ∷ ns) all = elim all [ ]
all_met went doc (o ∷ os) [] all = elim all [ ]
all_met went doc (o ∷ os) (n ∷ ns) all = rw (all.0.has, all_met went doc os ns all.1) refl

-- all have the document
pub seek_met : {T : Type 0} (went : T → T → Type 0) (doc : ℕ) (olds news : List (QueryCursorState T)) → doc < TERMINATED → DoneTo (MetAt went doc) (length olds) olds news → SeekAnswer doc doc (rests news) × AllZip (KeptFrom went doc) olds news
seek_met went doc olds news low done =
    let all = done_ends (MetAt went doc) olds news done in (
      record { low = omega arith; up_to = omega (arith, low); met = λ same. all_met went doc olds news all; none = λ d up below. absurd (omega (arith, up, below)) },
      zip_weaker (MetAt went doc) (KeptFrom went doc) (λ o n m. m.kept) olds news all,
    )

one_lacks : {T : Type 0} (cs : List (QueryCursorState T)) (i : ℕ) (c : QueryCursorState T) (d : ℕ) → i < length cs → has_doc c.rest d ≡ false → all_have (rests (set cs i c)) d ≡ false
one_lacks [] i c d inside lacks = absurd (omega (arith, inside))
one_lacks (x ∷ xs) zero c d inside lacks = rw (lacks) refl
one_lacks (x ∷ xs) (suc i) c d inside lacks = and_right (has_doc x.rest d) _ (one_lacks xs i c d (omega (arith, inside)) lacks)

-- one doesn't have it
pub seek_missed : {T : Type 0} (went : T → T → Type 0) → ((c : QueryCursorState T) → AllZip went c.cursors c.cursors) → (doc bound i : ℕ) (olds news : List (QueryCursorState T)) (x y : QueryCursorState T) → doc < TERMINATED → DoneTo (MetAt went doc) i olds news → i < length news → x ≡ get_or news i x
    → WentTo went doc x y → bound ≡ doc_at y.rest → bound ≢ doc → SeekAnswer doc bound (rests (set news i y)) × AllZip (KeptFrom went doc) olds (set news i y)
seek_missed went stays doc bound i olds news x y low done inside is w here other =
    let K = KeptFrom went doc in
    let so_far = done_weaker (MetAt went doc) K (λ o n m. m.kept) i olds news done in
    let after = done_next K i olds news x y inside is (went_kept went doc x y w) so_far in
    let up : doc ≤ doc_at y.rest = subst (λ (es : List Entry). doc ≤ doc_at es) (sym w.rest) (doc_at-from_doc doc x.rest (omega (arith, low))) in
    let most = doc_below y.rest w.sound.ascending in (
      record {
        low = omega (arith, here, up);
        up_to = omega (arith, here, most);
        met = λ same. absurd (other same);
        none = λ d from below. one_lacks news i y d inside (has_doc_below d y.rest w.sound.ascending (omega (arith, below, here)));
      },
      done_stays K (λ c. record { alike = λ d above. refl; depth = refl; work = stays c }) (i + 1) olds (set news i y) after,
    )

-- what all have stays from the document on
pub all_kept : {T : Type 0} (went : T → T → Type 0) (doc : ℕ) (olds news : List (QueryCursorState T)) → AllZip (KeptFrom went doc) olds news → (d : ℕ) → doc ≤ d → all_have (rests news) d ≡ all_have (rests olds) d
all_kept went doc [] [] all d up = refl
all_kept went doc [] (n ∷ ns) all d up = elim all [ ]
all_kept went doc (o ∷ os) [] all d up = elim all [ ]
all_kept went doc (o ∷ os) (n ∷ ns) all d up = rw (all.0.alike d up, all_kept went doc os ns all.1 d up) refl

-- and so what is picked of the leader's documents
pub picked_kept : (holds alike : ℕ → Bool) (doc : ℕ) (es : List Entry) → IsSound es → doc ≡ doc_at es → ((d : ℕ) → doc ≤ d → holds d ≡ alike d) → picked holds es ≡ picked alike es
picked_kept holds alike doc es sound here same = ap (λ (docs : List ℕ). map document docs) (picked_alike holds alike doc es sound.ascending (omega (arith, here)) same)

-- the leader's document is picked
pub picked_first : (holds : ℕ → Bool) (doc : ℕ) (es : List Entry) → doc ≡ doc_at es → doc < TERMINATED → holds doc ≡ true → doc_at (picked holds es) ≡ doc_at es
picked_first holds doc [] here low is = refl
picked_first holds doc (e ∷ es) here low is = let first : holds e.doc ≡ true = ap holds (sym here) ∙ is in rw (first) refl

-- no document below a bound is picked
pub picked_past : (holds : ℕ → Bool) (doc bound : ℕ) (es : List Entry) → IsAscending es → doc ≤ doc_at es → ((d : ℕ) → doc ≤ d → d < bound → holds d ≡ false) → picked holds (from_doc bound es) ≡ picked holds es
picked_past holds doc bound [] ascend low none = refl
picked_past holds doc bound (e ∷ es) ascend low none =
    let next = ascend.0 in
    let later = picked_past holds doc bound es ascend.1 (omega (arith, low, next)) none in
    elim (leb_tells bound e.doc) [
      | inl h ↦ rw (h.0) (by later (holds e.doc) refl)
      | inr h ↦ rw (h.0, none e.doc low h.1) later
    ]
  where
    by : picked holds (from_doc bound es) ≡ picked holds es → (b : Bool) → holds e.doc ≡ b → picked holds (e ∷ from_doc bound es) ≡ picked holds (e ∷ es)
    by later true is = rw (is, later) refl
    by later false is = rw (is) later

-- whether all pass doesn't depend on their order
all_permuted : {X : Type 0} (p : X → Bool) (xs ys : List X) → IsPermutation xs ys → list_all p xs ≡ list_all p ys
all_permuted p xs ys shuffled = by (list_all p xs) (list_all p ys) refl refl
  where
    by : (a b : Bool) → list_all p xs ≡ a → list_all p ys ≡ b → list_all p xs ≡ list_all p ys
    by true b is are = is ∙ sym (list_all-from_AllPass p ys (All-permutation (λ (x : _). p x ≡ true) xs ys shuffled (AllPass-from_list_all p xs is)))
    by false true is are = list_all-from_AllPass p xs (All-permutation (λ (x : _). p x ≡ true) ys xs (IsPermutation-sym xs ys shuffled) (AllPass-from_list_all p ys are)) ∙ sym are
    by false false is are = is ∙ sym are

to_all : {X : Type 0} (P : X → Type 0) (xs : List X) → AllByRecursion P xs → All P xs
to_all P [] all k d inside = absurd (omega (arith, inside))
to_all P (x ∷ xs) all zero d inside = all.0
to_all P (x ∷ xs) all (suc k) d inside = to_all P xs all.1 k d (omega (arith, inside))

from_all : {X : Type 0} (P : X → Type 0) (xs : List X) → All P xs → AllByRecursion P xs
from_all P [] all = tt
from_all P (x ∷ xs) all = (all 0 x (omega arith), from_all P xs (λ k d inside. all (suc k) d (omega (arith, inside))))

-- what holds of each element holds in another order
pub each_permuted : {X : Type 0} (P : X → Type 0) (xs ys : List X) → IsPermutation xs ys → AllByRecursion P xs → AllByRecursion P ys
each_permuted P xs ys shuffled all = from_all P ys (All-permutation P xs ys shuffled (to_all P xs all))

permuted : {T : Type 0} (xs ys : List (QueryCursorState T)) → IsPermutation xs ys → AllByRecursion (λ (c : QueryCursorState T). IsSound c.rest) xs → AllByRecursion (λ (c : QueryCursorState T). IsSound c.rest) ys
    → intersection_of (rests ys) ≡ intersection_of (rests xs)
permuted [] [] shuffled sound also = refl
permuted [] (y ∷ ys) shuffled sound also = absurd (let many = length_permutation [] (y ∷ ys) shuffled in omega (arith, many))
permuted (x ∷ xs) [] shuffled sound also = absurd (let many = length_permutation (x ∷ xs) [] shuffled in omega (arith, many))
permuted (x ∷ xs) (y ∷ ys) shuffled sound also =
    let f = all_have (rests xs) in
    let g = all_have (rests ys) in
    let alike : (d : ℕ) → all_have (rests (x ∷ xs)) d ≡ all_have (rests (y ∷ ys)) d = λ d. all_permuted (λ (es : List Entry). has_doc es d) (rests (x ∷ xs)) (rests (y ∷ ys)) (IsPermutation-map (λ (c : QueryCursorState _). c.rest) (x ∷ xs) (y ∷ ys) shuffled) in
    let same = same_docs (picked g y.rest) (picked f x.rest) (picked_sound g y.rest also.0).ascending (picked_sound f x.rest sound.0).ascending (λ d. intersection_has y.rest (rests ys) d ∙ sym (alike d) ∙ sym (intersection_has x.rest (rests xs) d)) in
    sym (picked_again g y.rest) ∙ ap (map document) same ∙ picked_again f x.rest

-- an intersection doesn't depend on the order of its parts
pub intersection_permuted : {T : Type 0} (xs ys : List (QueryCursorState T)) → IsPermutation xs ys → AllByRecursion (λ (c : QueryCursorState T). IsSound c.rest) xs → intersection_of (rests ys) ≡ intersection_of (rests xs)
intersection_permuted xs ys shuffled sound = permuted xs ys shuffled sound (each_permuted (λ (c : QueryCursorState _). IsSound c.rest) xs ys shuffled sound)
