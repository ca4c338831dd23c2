-- How segments and their files are read one after the other.
use Rattle.std.proofs.Common.{◌≡◌, ℕ, suc, ◌+◌, Bool, ◌<◌, ◌≤◌, false, true, List, [], ◌∷◌, ◌++◌, length, get_or, drop, Some, None, Result, Ok, Err, refl, sym, ap, subst, ◌∙◌, append-nil, append_assoc, arith}
use Rattle.std.specs.Prelude.{map}
use Rattle.std.specs.List.{find}
use Rattle.std.proofs.Math.Seq.{drop-cons}
use Rattle.std.proofs.lemmas.List.{drop_all}
use Rattle.ii_store.specs.declared.faults.IndexFault.{IndexFault}
use Rattle.ii_store.specs.declared.faults.StoreFault.{StoreFault}
use Rattle.ii_store.specs.declared.faults.StoreFault.TheVariants as faults
use Rattle.ii_store.specs.declared.index_meta.FileMeta.{FileMeta}
use Rattle.ii_store.specs.declared.index_meta.SegmentMeta.{SegmentMeta}
use Rattle.ii_directory.specs.Directory.{Files}
use Rattle.ii_store.specs.Index.{◌>>=◌, Fails}
use Rattle.ii_store.specs.IndexMeta.{SegmentState, segment_view}
use Rattle.ii_segment_store.specs.Contents.{all_of}
use Rattle.ii_store.proofs.Steps.{stops}

-- the first file with a property among those from an index on

pub other_file : (p : FileMeta → Bool) (fs : List FileMeta) (i : ℕ) (d : FileMeta) → i < length fs → p (get_or fs i d) ≡ false → find p (drop (i + 1) fs) ≡ find p (drop i fs)
other_file p fs i d lt differs =
    let next : i + 1 ≡ suc i = omega arith in
    ap (λ (n : ℕ). find p (drop n fs)) next ∙ sym (ap (find p) (drop-cons fs i d lt) ∙ rw differs refl)

pub that_file : (p : FileMeta → Bool) (fs : List FileMeta) (i : ℕ) (d : FileMeta) → i < length fs → p (get_or fs i d) ≡ true → find p (drop i fs) ≡ Some (get_or fs i d)
that_file p fs i d lt same = ap (find p) (drop-cons fs i d lt) ∙ rw same refl

pub no_file : (p : FileMeta → Bool) (fs : List FileMeta) (i : ℕ) → length fs ≤ i → find p (drop i fs) ≡ None
no_file p fs i le = ap (find p) (drop_all i fs le)

-- what the segments before some others gave, and what these give
pub with_front : {X : Type 0} → List X → Result (List X) IndexFault → Result (List X) IndexFault
with_front front (Ok others) = Ok (front ++ others)
with_front front (Err fault) = Err fault

front_moves : {X : Type 0} (front : List X) (first : X) (others : Result (List X) IndexFault) → with_front front (others >>= λ os. Ok (first ∷ os)) ≡ with_front (front ++ first ∷ []) others
unfolding with_front
front_moves front first (Ok os) = ap (λ xs. Ok xs) (sym (append_assoc front (first ∷ []) os))
front_moves front first (Err fault) = refl

front_fails : {X : Type 0} (fault : StoreFault) (front : List X) (others : Result (List X) IndexFault) → Fails fault others → Fails fault (with_front front others)
unfolding with_front
front_fails (faults.Directory fault) front others failed = tt
front_fails (faults.Index fault) front others failed = rw failed refl

-- what the segments from an index on give
abbrev pub segments_from : {X : Type 0} → (SegmentState → Files → Result X IndexFault) → ℕ → List SegmentMeta → Files → Result (List X) IndexFault
segments_from of_one i ss files = all_of of_one (map segment_view (drop i ss)) files

from_cons : {X : Type 0} (of_one : SegmentState → Files → Result X IndexFault) (ss : List SegmentMeta) (i : ℕ) (s : SegmentMeta) (files : Files) → i < length ss → s ≡ get_or ss i s
    → segments_from of_one i ss files ≡ (of_one (segment_view s) files >>= λ first. segments_from of_one (suc i) ss files >>= λ others. Ok (first ∷ others))
unfolding all_of
from_cons of_one ss i s files lt is =
    let cut : drop i ss ≡ s ∷ drop (suc i) ss = drop-cons ss i s lt ∙ ap (λ (x : SegmentMeta). x ∷ drop (suc i) ss) (sym is) in
    ap (λ (xs : List SegmentMeta). all_of of_one (map segment_view xs) files) cut

pub goes_on : {X : Type 0} (of_one : SegmentState → Files → Result X IndexFault) (front : List X) (ss : List SegmentMeta) (i : ℕ) (s : SegmentMeta) (files : Files) (first : X) (all : Result (List X) IndexFault) → i < length ss → s ≡ get_or ss i s
    → of_one (segment_view s) files ≡ Ok first → with_front front (segments_from of_one i ss files) ≡ all → with_front (front ++ first ∷ []) (segments_from of_one (i + 1) ss files) ≡ all
goes_on {X} of_one front ss i s files first all lt is loaded so_far =
    let next : i + 1 ≡ suc i = omega arith in
    let rest = segments_from of_one (suc i) ss files in
    let step : segments_from of_one i ss files ≡ (rest >>= λ others. Ok (first ∷ others)) = from_cons of_one ss i s files lt is ∙ ap (λ (r : Result X IndexFault). r >>= λ f. rest >>= λ others. Ok (f ∷ others)) loaded in
    ap (λ (n : ℕ). with_front (front ++ first ∷ []) (segments_from of_one n ss files)) next ∙ sym (front_moves front first rest) ∙ ap (with_front front) (sym step) ∙ so_far

pub ends : {X : Type 0} (of_one : SegmentState → Files → Result X IndexFault) (fault : StoreFault) (front : List X) (ss : List SegmentMeta) (i : ℕ) (s : SegmentMeta) (files : Files) (all : Result (List X) IndexFault) → i < length ss → s ≡ get_or ss i s
    → Fails fault (of_one (segment_view s) files) → with_front front (segments_from of_one i ss files) ≡ all → Fails fault all
ends of_one fault front ss i s files all lt is failed so_far =
    let rest = segments_from of_one (suc i) ss files in
    let here : Fails fault (segments_from of_one i ss files) = subst (Fails fault) (sym (from_cons of_one ss i s files lt is)) (stops fault (of_one (segment_view s) files) (λ first. rest >>= λ others. Ok (first ∷ others)) failed) in
    subst (Fails fault) so_far (front_fails fault front (segments_from of_one i ss files) here)

pub is_done : {X : Type 0} (of_one : SegmentState → Files → Result X IndexFault) (front : List X) (ss : List SegmentMeta) (i : ℕ) (files : Files) (all : Result (List X) IndexFault) → length ss ≤ i → with_front front (segments_from of_one i ss files) ≡ all → all ≡ Ok front
unfolding with_front all_of
is_done of_one front ss i files all le so_far =
    let none : segments_from of_one i ss files ≡ Ok [] = ap (λ (xs : List SegmentMeta). all_of of_one (map segment_view xs) files) (drop_all i ss le) in
    sym so_far ∙ ap (with_front front) none ∙ ap (λ xs. Ok xs) (append-nil front)

pub begins : {X : Type 0} (all : Result (List X) IndexFault) → with_front [] all ≡ all
unfolding with_front
begins (Ok others) = refl
begins (Err fault) = refl
