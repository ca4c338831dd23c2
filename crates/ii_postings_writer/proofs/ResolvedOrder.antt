-- Terms that were sorted by the ranks of their paths are in the order of their keys.
use Rattle.std.proofs.Common.{◌≡◌, ℕ, ◌<◌, ◌^◌, Bool, true, false, List, [], ◌∷◌, ◌++◌, map, drop, Some, None, Option, refl, sym, ap, ◌∙◌, subst}
use Rattle.std.specs.Prelude.{MatchOption, bytes_eq, ⊤}
use Rattle.std.specs.Cmp.Lexicographic.{slice_cmp}
use Rattle.std.specs.List.{AllByRecursion, IsDistinct}
use Rattle.std.specs.List.Sorted.{IsPermutation, IsSorted, IsStrictlySortedBy}
use Rattle.std.specs.Map.{keys_of, lookup}
use Rattle.std.specs.Ordering.{nat_cmp}
use Rattle.std.proofs.lemmas.Cmp.{nat_list_eq_equiv}
use Rattle.std.proofs.lemmas.List.Sorted.{IsPermutation-map}
use Rattle.std.proofs.lemmas.List.Elements.{All-from_recursion, recursion_from_All}
use Rattle.std.proofs.lemmas.Map.Keys.{IsDistinct-IsPermutation}
use Rattle.std.proofs.lemmas.Map.Views.{All-map-IsPermutation}
use Rattle.indexmap.proofs.MapLemmas.{lookup_permutation}
use Rattle.std.proofs.lemmas.Slice.Eq.{bytes_eq-Decides}
use Rattle.ii_json.specs.PathRank.{path_ranks}
use Rattle.ii_json.specs.Paths.{AreDistinct}
use Rattle.ii_json.proofs.KeyOrder.{sorted_alike}
use Rattle.ii_recorder.specs.Recorded.{RecorderState}
use Rattle.ii_recorder.specs.declared.recorder.AnyRecorder.{AnyRecorder}
use Rattle.ii_postings_writer.specs.IndexingContext.{TermIndex, recorder_of}
use Rattle.ii_postings_writer.specs.IndexingTerm.{AreTermBytes, field_bytes}
use Rattle.ii_postings_writer.specs.ResolvedTerms.{AreClean, AreSorted, HoldIds, HoldsId, IsHeldTerm, held_cmp, is_json_field, resolved, resolved_terms}
use Rattle.ii_postings_writer.specs.SortedTerms.{seen}
use Rattle.ii_postings_writer.proofs.ResolvedLaws.{held_as_keys, resolved_alike}
use Rattle.ii_postings_writer.proofs.SortedLemmas.{found_first, found_later, sorted_distinct}

pub none_apart : (k : List ℕ) (ts : TermIndex) → AllByRecursion (λ (y : List ℕ). bytes_eq k y ≡ false) (keys_of ts) → lookup (bytes_eq k) ts ≡ None
none_apart k [] apart = refl
none_apart k (t ∷ ts) apart = rw apart.0 (none_apart k ts apart.1)

-- what holds of each term that is looked up holds of all, where no two are alike
pub held_each : (flags : List Bool) (paths : List (List ℕ)) (terms : TermIndex) → IsDistinct bytes_eq (keys_of terms) → AllByRecursion AreTermBytes (keys_of terms) → HoldIds flags paths terms
    → AllByRecursion (λ (t : List ℕ × RecorderState). IsHeldTerm flags paths t.0) terms
unfolding IsDistinct
held_each flags paths [] distinct are ids = tt
held_each flags paths (t ∷ ts) distinct are ids =
    (record { field = are.0.field; value = drop 4 t.0; small = are.0.small; is = are.0.are; ids = here }, held_each flags paths ts distinct.1 are.1 (λ field key small. later field key small (bytes_eq (field_bytes field ++ key) t.0) refl))
  where
    here : is_json_field flags are.0.field ≡ true → HoldsId paths (drop 4 t.0)
    here =
        let there = ids are.0.field (drop 4 t.0) are.0.small in
        let found : recorder_of (t ∷ ts) (field_bytes are.0.field ++ drop 4 t.0) ≡ Some t.1 = ap (recorder_of (t ∷ ts)) (sym are.0.are) ∙ found_first t ts in
        subst (λ (o : Option RecorderState). MatchOption o ⊤ (λ r. is_json_field flags are.0.field ≡ true → HoldsId paths (drop 4 t.0))) found there

    later : (field : ℕ) (key : List ℕ) → field < 2 ^ 32 → (b : Bool) → bytes_eq (field_bytes field ++ key) t.0 ≡ b → MatchOption (recorder_of ts (field_bytes field ++ key)) ⊤ (λ r. is_json_field flags field ≡ true → HoldsId paths key)
    later field key small true same =
        let is : field_bytes field ++ key ≡ t.0 = (bytes_eq-Decides (field_bytes field ++ key) t.0).0 same in
        let none : recorder_of ts (field_bytes field ++ key) ≡ None = ap (recorder_of ts) is ∙ none_apart t.0 ts distinct.0 in
        subst (λ (o : Option RecorderState). MatchOption o ⊤ (λ r. is_json_field flags field ≡ true → HoldsId paths key)) (sym none) tt
    later field key small false other =
        subst (λ (o : Option RecorderState). MatchOption o ⊤ (λ r. is_json_field flags field ≡ true → HoldsId paths key)) (found_later (field_bytes field ++ key) t ts other) (ids field key small)

seen_apart : (e : List ℕ × AnyRecorder) (es : List (List ℕ × AnyRecorder)) → AllByRecursion (λ (k : List ℕ). bytes_eq e.0 k ≡ false) (keys_of es) → AllByRecursion (λ (k : List ℕ). bytes_eq e.0 k ≡ false) (keys_of (map seen es))
seen_apart e [] apart = tt
seen_apart e (f ∷ fs) apart = (apart.0, seen_apart e fs apart.1)

pub seen_distinct : (es : List (List ℕ × AnyRecorder)) → IsDistinct bytes_eq (keys_of es) → IsDistinct bytes_eq (keys_of (map seen es))
unfolding IsDistinct
seen_distinct [] distinct = tt
seen_distinct (e ∷ es) distinct = (seen_apart e es distinct.0, seen_distinct es distinct.1)

-- What holds of each key holds where terms change places.
each_moved : (P : List ℕ → Type 0) (old new : TermIndex) → IsPermutation old new → AllByRecursion P (keys_of old) → AllByRecursion P (keys_of new)
each_moved P old new moved all = recursion_from_All P (keys_of new) (All-map-IsPermutation (λ (t : List ℕ × RecorderState). t.0) P old new moved (All-from_recursion P (keys_of old) all))

-- terms that changed places are kept as they were
pub held_moved : (flags : List Bool) (paths : List (List ℕ)) (old new : TermIndex) → IsPermutation old new → IsDistinct bytes_eq (keys_of old) → AllByRecursion AreTermBytes (keys_of old) → HoldIds flags paths old
    → AllByRecursion (λ (t : List ℕ × RecorderState). IsHeldTerm flags paths t.0) new × IsDistinct bytes_eq (keys_of new)
held_moved flags paths old new moved distinct are ids =
    let apart = IsDistinct-IsPermutation bytes_eq nat_list_eq_equiv.symm (keys_of old) (keys_of new) (IsPermutation-map (λ (t : List ℕ × RecorderState). t.0) old new moved) distinct in
    let same : (bytes : List ℕ) → recorder_of new bytes ≡ recorder_of old bytes = λ bytes. lookup_permutation nat_list_eq_equiv old new moved apart (bytes_eq bytes) (λ x y. nat_list_eq_equiv.congr bytes x y) in
    (held_each flags paths new apart (each_moved AreTermBytes old new moved are) (λ field key small. subst (λ (o : Option RecorderState). MatchOption o ⊤ (λ r. is_json_field flags field ≡ true → HoldsId paths key)) (sym (same (field_bytes field ++ key))) (ids field key small)), apart)

module _ {E : Type 0} (state : E → List ℕ × RecorderState) where
  module _ (flags : List Bool) (paths : List (List ℕ)) (unlike : AreDistinct paths) (clean : AreClean paths) where
    resolved_apart : (e : E) (es : List E) → IsHeldTerm flags paths (state e).0 → AllByRecursion (λ (t : List ℕ × RecorderState). IsHeldTerm flags paths t.0) (map state es)
        → AllByRecursion (λ (k : List ℕ). bytes_eq (state e).0 k ≡ false) (keys_of (map state es)) → AllByRecursion (λ (f : E). bytes_eq (resolved flags paths (state e).0) (resolved flags paths (state f).0) ≡ false) es
    resolved_apart e [] he hs apart = tt
    resolved_apart e (f ∷ fs) he hs apart = (resolved_alike flags paths unlike clean (state e).0 (state f).0 he hs.0 ∙ apart.0, resolved_apart e fs he hs.1 apart.1)

    resolved_distinct : (es : List E) → AllByRecursion (λ (t : List ℕ × RecorderState). IsHeldTerm flags paths t.0) (map state es) → IsDistinct bytes_eq (keys_of (map state es))
        → IsDistinct (λ (e f : E). bytes_eq (resolved flags paths (state e).0) (resolved flags paths (state f).0)) es
    unfolding IsDistinct
    resolved_distinct [] hs distinct = tt
    resolved_distinct (e ∷ es) hs distinct = (resolved_apart e es hs.0 hs.1 distinct.0, resolved_distinct es hs.1 distinct.1)

    each_held : (es : List E) → AllByRecursion (λ (t : List ℕ × RecorderState). IsHeldTerm flags paths t.0) (map state es) → AllByRecursion (λ (e : E). IsHeldTerm flags paths (state e).0) es
    each_held [] hs = tt
    each_held (e ∷ es) hs = (hs.0, each_held es hs.1)

    resolved_keys : (es : List E) → map (λ (t : List ℕ × RecorderState). t.0) (resolved_terms flags paths (map state es)) ≡ map (λ (e : E). resolved flags paths (state e).0) es
    resolved_keys [] = refl
    resolved_keys (e ∷ es) = ap (λ (ks : List (List ℕ)). resolved flags paths (state e).0 ∷ ks) (resolved_keys es)

    -- terms that were sorted so are sorted by their keys
    pub are_sorted : (es : List E) → AllByRecursion (λ (t : List ℕ × RecorderState). IsHeldTerm flags paths t.0) (map state es) → IsDistinct bytes_eq (keys_of (map state es))
        → IsSorted (λ (e f : E). held_cmp flags (path_ranks paths) (state e).0 (state f).0) es → AreSorted flags paths (map state es)
    are_sorted es hs distinct sorted =
        let by_keys = sorted_alike (λ (e : E). IsHeldTerm flags paths (state e).0) (λ (e f : E). held_cmp flags (path_ranks paths) (state e).0 (state f).0) (λ (e f : E). slice_cmp nat_cmp (resolved flags paths (state e).0) (resolved flags paths (state f).0))
        (λ e f he hf. held_as_keys flags paths clean (state e).0 (state f).0 he hf) es (each_held es hs) sorted in
        record {
          held = hs;
          distinct = distinct;
          ascending = subst (IsStrictlySortedBy (slice_cmp nat_cmp)) (sym (resolved_keys es)) (sorted_distinct (λ (e : E). resolved flags paths (state e).0) es by_keys (resolved_distinct es hs distinct));
        }
