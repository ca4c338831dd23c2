-- Keys that ascend are those of a field where they are the same.
use Rattle.std.proofs.Common.{◌≡◌, ℕ, ◌==◌, Bool, true, false, ◌||◌, List, [], ◌∷◌, map, cond, Option, Some, None, refl, sym, ap, ◌∙◌, subst, Less}
use Rattle.std.specs.Prelude.{T, bytes_eq, filter}
use Rattle.std.specs.Ordering.{is_eq, nat_cmp}
use Rattle.std.specs.Cmp.Lexicographic.{nat_list_cmp_total, slice_cmp}
use Rattle.std.specs.FinMap.{FinMap, entries-from_sorted, find, from_entries, from_sorted, get-from_entries, get-from_sorted, is_sorted, keys, nat_cmp-IsAntisymmetric, same_map, slice_cmp-IsAntisymmetric}
use Rattle.std.specs.FinMap.Entries.{below_all}
use Rattle.std.specs.List.{AllByRecursion, list_any}
use Rattle.std.specs.List.Sorted.{IsStrictlySortedBy}
use Rattle.std.proofs.lemmas.Map.Text.{is_eq-slice_cmp}
use Rattle.ii_definitions.specs.Postings.{occurs}
use Rattle.ii_definitions.specs.Tokens.{IndexToken}
use Rattle.ii_recorder.specs.TokenTerms.{field_keys}
use Rattle.ii_recorder.proofs.TokenLaws.{occurs_among}

-- keys as the entries of a set
abbrev marked : List (List ℕ) → List (List ℕ × Unit {0})
marked ks = map (λ (k : List ℕ). (k, tt)) ks

below_marked : (k : List ℕ) (ks : List (List ℕ)) → AllByRecursion (λ (y : List ℕ). slice_cmp nat_cmp k y ≡ Less) ks → below_all (slice_cmp nat_cmp) k (marked ks) ≡ true
below_marked k [] below = refl
below_marked k (y ∷ ys) below = rw (below.0, below_marked k ys below.1) refl

sorted_marked : (ks : List (List ℕ)) → IsStrictlySortedBy (slice_cmp nat_cmp) ks → is_sorted (slice_cmp nat_cmp) (marked ks) ≡ true
unfolding IsStrictlySortedBy
sorted_marked [] sorted = refl
sorted_marked (k ∷ ks) sorted = rw (below_marked k ks sorted.0, sorted_marked ks sorted.1) refl

unmarked : (ks : List (List ℕ)) → map (λ (e : List ℕ × Unit {0}). e.0) (marked ks) ≡ ks
unmarked [] = refl
unmarked (k ∷ ks) = ap (λ (us : List (List ℕ)). k ∷ us) (unmarked ks)

-- the keys of a map that was made of entries, and the keys of a map that was made of ascending keys
abbrev map_of : List (List ℕ) → FinMap (slice_cmp nat_cmp) (Unit {0})
map_of ks = from_entries {R = slice_cmp nat_cmp} (marked ks)

abbrev sorted_map_of : List (List ℕ) → FinMap (slice_cmp nat_cmp) (Unit {0})
sorted_map_of ks = from_sorted {R = slice_cmp nat_cmp} (marked ks)

keys_of_sorted : (ks : List (List ℕ)) → IsStrictlySortedBy (slice_cmp nat_cmp) ks → keys (sorted_map_of ks) ≡ ks
keys_of_sorted ks sorted = ap (map (λ (e : List ℕ × Unit {0}). e.0)) (entries-from_sorted (slice_cmp nat_cmp) (marked ks) (subst T (sym (sorted_marked ks sorted)) tt)) ∙ unmarked ks

-- whether a key has an entry
abbrev flag : Bool → Option (Unit {0})
flag b = cond b (Some tt) None

found_marked : (q : List ℕ) (ks : List (List ℕ)) → find (slice_cmp nat_cmp) q (marked ks) ≡ flag (list_any (bytes_eq q) ks)
found_marked q [] = refl
found_marked q (k ∷ ks) = by_case (bytes_eq q k) (is_eq-slice_cmp q k) (found_marked q ks)
  where
    by_case : (b : Bool) → is_eq (slice_cmp nat_cmp q k) ≡ b → find (slice_cmp nat_cmp) q (marked ks) ≡ flag (list_any (bytes_eq q) ks)
        → cond (is_eq (slice_cmp nat_cmp q k)) (Some tt) (find (slice_cmp nat_cmp) q (marked ks)) ≡ flag (b || list_any (bytes_eq q) ks)
    by_case true is rest = rw is refl
    by_case false is rest = rw is rest

-- ascending keys are those of a list with the same keys
keys_are : (ks us : List (List ℕ)) → IsStrictlySortedBy (slice_cmp nat_cmp) ks → ((q : List ℕ) → list_any (bytes_eq q) ks ≡ list_any (bytes_eq q) us) → ks ≡ keys (map_of us)
keys_are ks us sorted same =
    let maps = same_map nat_list_cmp_total (slice_cmp-IsAntisymmetric nat_cmp-IsAntisymmetric) (sorted_map_of ks) (map_of us)
    (λ q. get-from_sorted (slice_cmp nat_cmp) (marked ks) q (subst T (sym (sorted_marked ks sorted)) tt) ∙ found_marked q ks ∙ ap flag (same q) ∙ sym (found_marked q us) ∙ sym (get-from_entries nat_list_cmp_total (marked us) q)) in
    sym (keys_of_sorted ks sorted) ∙ ap keys maps

marked_tokens : (ts : List IndexToken) → map (λ (t : IndexToken). (t.key, tt)) ts ≡ marked (map (λ (t : IndexToken). t.key) ts)
marked_tokens [] = refl
marked_tokens (t ∷ ts) = ap (λ (es : List (List ℕ × Unit {0})). (t.key, tt) ∷ es) (marked_tokens ts)

-- the keys of a field are those of its tokens
field_keys_are : (field : ℕ) (ts : List IndexToken) → keys (map_of (map (λ (t : IndexToken). t.key) (filter (λ (t : IndexToken). t.field == field) ts))) ≡ field_keys field ts
field_keys_are field ts = ap (λ (es : List (List ℕ × Unit {0})). keys (from_entries {R = slice_cmp nat_cmp} es)) (sym (marked_tokens (filter (λ (t : IndexToken). t.field == field) ts)))

-- ascending keys that are exactly those that occurred
pub occurred_keys : (field : ℕ) (ts : List IndexToken) (ks : List (List ℕ)) → IsStrictlySortedBy (slice_cmp nat_cmp) ks → ((q : List ℕ) → list_any (bytes_eq q) ks ≡ occurs field q ts) → ks ≡ field_keys field ts
occurred_keys field ts ks ascending same =
    keys_are ks (map (λ (t : IndexToken). t.key) (filter (λ (t : IndexToken). t.field == field) ts)) ascending (λ q. same q ∙ occurs_among field q ts) ∙ field_keys_are field ts
