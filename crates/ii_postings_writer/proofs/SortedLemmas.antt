-- Terms in the order of their bytes.
use Rattle.std.proofs.Common.{zero-add, Some, Result, Ok, Err, IfOk, None, zero, suc, ◌+◌, ◌<◌, ◌^◌, ◌++◌, drop, filter, nat_eq, arith, ◌≡◌, ℕ, Bool, true, false, List, [], ◌∷◌, map, refl, sym, ap, ◌∙◌, subst}
use Rattle.std.proofs.Common.{Ordering, Less, Equal}
use Rattle.std.specs.Prelude.{slice_index_or, bytes_eq}
use Rattle.std.proofs.lemmas.List.Elements.{All-tail}
use Rattle.std.specs.Prelude.{All}
use Rattle.std.specs.Ordering.{is_eq}
use Rattle.ii_recorder.specs.Recorded.{RecorderState}
use Rattle.std.specs.List.{range_with_len, AllByRecursion, IsDistinct, dedup, dedup_from}
use Rattle.std.specs.List.Sorted.{IsSorted, IsStrictlySortedBy}
use Rattle.std.specs.Map.{keys_of}
use Rattle.std.proofs.lemmas.Cmp.{nat_list_cmp_total, on_total}
use Rattle.std.specs.Cmp.{nat_cmp_is}
use Rattle.std.proofs.lemmas.Cmp.{nat_list_eq_equiv}
use Rattle.std.specs.Cmp.Lexicographic.{slice_cmp}
use Rattle.std.specs.Ordering.{nat_cmp}
use Rattle.ii_postings_writer.specs.IndexingContext.{TermIndex}
use Rattle.ii_postings_writer.specs.SortedTerms.{norms_in, term_of, IsWritable, MayBeWritten, SortedTerm, terms_in}
use Rattle.ii_postings_writer.specs.IndexingTerm.{AreTermBytes, field_bytes, field_in}
use Rattle.std.specs.Map.{lookup}
use Rattle.std.proofs.lemmas.Map.Text.{is_eq-slice_cmp}
use Rattle.std.proofs.lemmas.List.Kept.{IsStrictlySortedBy-dedup, IsStrictlySortedBy-filter}
use Rattle.std.proofs.lemmas.Bool.{eqb-true}
use Rattle.std.proofs.lemmas.Map.Keys.{IsDistinct-head, IsDistinct-tail}
use Rattle.ii_io.specs.Composite.{Body}
use Rattle.std.proofs.lemmas.List.FromFn.{get_or-map-range_with_len}

module _ {K : Type 0} (E : K → K → Bool) (flips : (x y : K) → E x y ≡ E y x) where
  dedup_from_distinct : (k : K) (ks : List K) → IsDistinct E (k ∷ ks) → dedup_from E k ks ≡ k ∷ ks
  dedup_from_distinct k [] distinct = refl
  dedup_from_distinct k (y ∷ ys) distinct =
      let apart : E y k ≡ false = flips y k ∙ (IsDistinct-head E k (y ∷ ys) distinct).0 in
      rw apart (ap (λ (zs : List K). k ∷ zs) (dedup_from_distinct y ys (IsDistinct-tail E k (y ∷ ys) distinct)))

  dedup_distinct : (ks : List K) → IsDistinct E ks → dedup E ks ≡ ks
  dedup_distinct [] distinct = refl
  dedup_distinct (k ∷ ks) distinct = dedup_from_distinct k ks distinct

module _ {K L : Type 0} (c : L → L → Ordering) (f : K → L) where
  below_all : (k : K) (ks : List K) → AllByRecursion (λ (y : K). c (f k) (f y) ≡ Less) ks → AllByRecursion (λ (y : L). c (f k) y ≡ Less) (map f ks)
  below_all k [] below = tt
  below_all k (y ∷ ys) below = (below.0, below_all k ys below.1)

  -- what ascends by some part of it
  pub mapped_ascends : (ks : List K) → IsStrictlySortedBy (λ (x y : K). c (f x) (f y)) ks → IsStrictlySortedBy c (map f ks)
  unfolding IsStrictlySortedBy
  mapped_ascends [] sorted = tt
  mapped_ascends (k ∷ ks) sorted = (below_all k ks sorted.0, mapped_ascends ks sorted.1)

-- keys that are sorted and differ ascend
pub sorted_distinct : {K : Type 0} (f : K → List ℕ) (ks : List K) → IsSorted (λ (x y : K). slice_cmp nat_cmp (f x) (f y)) ks → IsDistinct (λ (x y : K). bytes_eq (f x) (f y)) ks
    → IsStrictlySortedBy (slice_cmp nat_cmp) (map f ks)
sorted_distinct {K} f ks sorted distinct =
    let strict = IsStrictlySortedBy-dedup (on_total f nat_list_cmp_total) {E = λ (x y : K). bytes_eq (f x) (f y)} (λ x y. sym (is_eq-slice_cmp (f x) (f y))) ks sorted in
    let same = dedup_distinct (λ (x y : K). bytes_eq (f x) (f y)) (λ x y. nat_list_eq_equiv.symm (f x) (f y)) ks distinct in
    mapped_ascends (slice_cmp nat_cmp) f ks (subst (λ (zs : List K). IsStrictlySortedBy (λ (x y : K). slice_cmp nat_cmp (f x) (f y)) zs) same strict)

pub nat_cmp-refl : (n : ℕ) → nat_cmp n n ≡ Equal
nat_cmp-refl n = sym (nat_cmp_is n n Equal refl)

-- a prefix of both is not compared
slice_cmp-prefix : (front xs ys : List ℕ) → slice_cmp nat_cmp (front ++ xs) (front ++ ys) ≡ slice_cmp nat_cmp xs ys
slice_cmp-prefix [] xs ys = refl
slice_cmp-prefix (n ∷ front) xs ys = rw (nat_cmp-refl n) (slice_cmp-prefix front xs ys)

pub field_of_bytes : (field : ℕ) (rest : List ℕ) → field < 2 ^ 32 → field_in (field_bytes field ++ rest) ≡ field
unfolding field_in field_bytes
field_of_bytes field rest small = omega (arith, small)

-- bytes of a term are those of their field, and the others
pub split_bytes : (bytes : List ℕ) → AreTermBytes bytes → bytes ≡ field_bytes (field_in bytes) ++ drop 4 bytes
split_bytes bytes are = are.are ∙ ap (λ (field : ℕ). field_bytes field ++ drop 4 bytes) (sym (ap field_in are.are ∙ field_of_bytes are.field (drop 4 bytes) are.small))

-- keys without the field before each
module _ (field : ℕ) where
  abbrev IsIn : List ℕ → Type 0
  IsIn bytes = bytes ≡ field_bytes field ++ drop 4 bytes

  compared : (x y : List ℕ) → IsIn x → IsIn y → slice_cmp nat_cmp (drop 4 x) (drop 4 y) ≡ slice_cmp nat_cmp x y
  compared x y is also = sym (slice_cmp-prefix (field_bytes field) (drop 4 x) (drop 4 y))
      ∙ ap (λ (u : List ℕ). slice_cmp nat_cmp u (field_bytes field ++ drop 4 y)) (sym is) ∙ ap (slice_cmp nat_cmp x) (sym also)

  below_dropped : (x : List ℕ) (ys : List (List ℕ)) → IsIn x → AllByRecursion IsIn ys → AllByRecursion (λ (y : List ℕ). slice_cmp nat_cmp x y ≡ Less) ys → AllByRecursion (λ (y : List ℕ). slice_cmp nat_cmp (drop 4 x) y ≡ Less) (map (drop 4) ys)
  below_dropped x [] is all below = tt
  below_dropped x (y ∷ ys) is all below = (compared x y is all.0 ∙ below.0, below_dropped x ys is all.1 below.1)

  dropped_ascends : (ks : List (List ℕ)) → AllByRecursion IsIn ks → IsStrictlySortedBy (slice_cmp nat_cmp) ks → IsStrictlySortedBy (slice_cmp nat_cmp) (map (drop 4) ks)
  unfolding IsStrictlySortedBy
  dropped_ascends [] all sorted = tt
  dropped_ascends (k ∷ ks) all sorted = (below_dropped k ks all.0 all.1 sorted.0, dropped_ascends ks all.1 sorted.1)

abbrev pub lies_in : ℕ → List ℕ → Bool
lies_in field bytes = nat_eq (field_in bytes) field

keys_in : (field : ℕ) (terms : TermIndex) → map (λ (t : SortedTerm). t.key) (terms_in field terms) ≡ map (drop 4) (filter (lies_in field) (keys_of terms))
keys_in field [] = refl
keys_in field (t ∷ ts) = by_case (lies_in field t.0) refl (keys_in field ts)
  where
    by_case : (b : Bool) → lies_in field t.0 ≡ b → map (λ (u : SortedTerm). u.key) (terms_in field ts) ≡ map (drop 4) (filter (lies_in field) (keys_of ts))
        → map (λ (u : SortedTerm). u.key) (terms_in field (t ∷ ts)) ≡ map (drop 4) (filter (lies_in field) (keys_of (t ∷ ts)))
    by_case true is rest = rw is (ap (λ (ks : List (List ℕ)). drop 4 t.0 ∷ ks) rest)
    by_case false is rest = rw is rest

all_in : (field : ℕ) (ks : List (List ℕ)) → AllByRecursion AreTermBytes ks → AllByRecursion (IsIn field) (filter (lies_in field) ks)
all_in field [] all = tt
all_in field (k ∷ ks) all = by_case (lies_in field k) refl (all_in field ks all.1)
  where
    by_case : (b : Bool) → lies_in field k ≡ b → AllByRecursion (IsIn field) (filter (lies_in field) ks) → AllByRecursion (IsIn field) (filter (lies_in field) (k ∷ ks))
    by_case true is rest = rw is (split_bytes k all.0 ∙ ap (λ (f : ℕ). field_bytes f ++ drop 4 k) (eqb-true (field_in k) field is), rest)
    by_case false is rest = rw is rest

-- the keys of a field ascend where all terms do
pub terms_in_ascend : (field : ℕ) (terms : TermIndex) → AllByRecursion AreTermBytes (keys_of terms) → IsStrictlySortedBy (slice_cmp nat_cmp) (keys_of terms)
    → IsStrictlySortedBy (slice_cmp nat_cmp) (map (λ (t : SortedTerm). t.key) (terms_in field terms))
terms_in_ascend field terms all sorted =
    subst (IsStrictlySortedBy (slice_cmp nat_cmp)) (sym (keys_in field terms))
    (dropped_ascends field (filter (lies_in field) (keys_of terms)) (all_in field (keys_of terms) all) (IsStrictlySortedBy-filter (slice_cmp nat_cmp) (lies_in field) (keys_of terms) sorted))

pub each_key : {V : Type 0} (f : V → RecorderState) (es : List (List ℕ × V)) → All AreTermBytes (keys_of es) → AllByRecursion AreTermBytes (keys_of (map (λ (e : List ℕ × V). (e.0, f e.1)) es))
each_key f [] all = tt
each_key f (e ∷ es) all = (all 0 e.0 (omega (arith)), each_key f es (All-tail AreTermBytes e.0 (keys_of es) all))

pub lists_ascend : (first n : ℕ) (terms : TermIndex) → AllByRecursion AreTermBytes (keys_of terms) → IsStrictlySortedBy (slice_cmp nat_cmp) (keys_of terms)
    → AllByRecursion (λ (ts : List SortedTerm). IsStrictlySortedBy (slice_cmp nat_cmp) (map (λ (t : SortedTerm). t.key) ts)) (map (λ (field : ℕ). terms_in field terms) (range_with_len first n))
lists_ascend first zero terms all sorted = tt
lists_ascend first (suc n) terms all sorted = (terms_in_ascend first terms all sorted, lists_ascend (first + 1) n terms all sorted)

pub if_both : {X E : Type 0} (r : Result X E) (P R Q : X → Type 0) → ((x : X) → P x → R x → Q x) → IfOk r P → IfOk r R → IfOk r Q
if_both (Ok x) P R Q f h k = f x h k
if_both (Err e) P R Q f h k = tt

pub bytes_same : (bytes : List ℕ) → bytes_eq bytes bytes ≡ true
bytes_same bytes = nat_list_eq_equiv.refl bytes

-- a key below all others is none of them
none_above : (k : List ℕ) (ts : TermIndex) → AllByRecursion (λ (y : List ℕ). slice_cmp nat_cmp k y ≡ Less) (keys_of ts) → lookup (bytes_eq k) ts ≡ None
none_above k [] below = refl
none_above k (t ∷ ts) below =
    let apart : bytes_eq k t.0 ≡ false = sym (is_eq-slice_cmp k t.0) ∙ ap is_eq below.0 in
    rw apart (none_above k ts below.1)

pub found_first : (t : List ℕ × RecorderState) (ts : TermIndex) → lookup (bytes_eq t.0) (t ∷ ts) ≡ Some t.1
found_first t ts = rw (bytes_same t.0) refl

pub found_later : (bytes : List ℕ) (t : List ℕ × RecorderState) (ts : TermIndex) → bytes_eq bytes t.0 ≡ false → lookup (bytes_eq bytes) (t ∷ ts) ≡ lookup (bytes_eq bytes) ts
found_later bytes t ts other = rw other refl

pub all_mapped : {X : Type 0} (P Q : X → Type 0) → ((x : X) → P x → Q x) → (xs : List X) → AllByRecursion P xs → AllByRecursion Q xs
all_mapped P Q f [] all = tt
all_mapped P Q f (x ∷ xs) all = (f x all.0, all_mapped P Q f xs all.1)

-- the fields of terms that may be written
pub fields_known : (n : ℕ) (readers : List Body) (terms : TermIndex) → AllByRecursion (λ (t : List ℕ × RecorderState). MayBeWritten n readers t.0 t.1) terms → AllByRecursion (λ (t : List ℕ × RecorderState). field_in t.0 < n) terms
fields_known n readers terms all = all_mapped (λ (t : List ℕ × RecorderState). MayBeWritten n readers t.0 t.1) (λ t. field_in t.0 < n) (λ t may. may.known) terms all

pub kept_writable : (n field : ℕ) (readers : List Body) (terms : TermIndex) → AllByRecursion (λ (t : List ℕ × RecorderState). MayBeWritten n readers t.0 t.1) terms → AllByRecursion (IsWritable (norms_in readers field)) (terms_in field terms)
kept_writable n field readers [] all = tt
kept_writable n field readers (t ∷ ts) all = by_case (lies_in field t.0) refl (kept_writable n field readers ts all.1)
  where
    by_case : (b : Bool) → lies_in field t.0 ≡ b → AllByRecursion (IsWritable (norms_in readers field)) (terms_in field ts) → AllByRecursion (IsWritable (norms_in readers field)) (terms_in field (t ∷ ts))
    by_case true is rest = rw is (subst (λ (f : ℕ). IsWritable (norms_in readers f) (term_of t)) (eqb-true (field_in t.0) field is) all.0.writable, rest)
    by_case false is rest = rw is rest

-- and the terms of each field
pub all_writable : (n count field : ℕ) (readers : List Body) (terms : TermIndex) → AllByRecursion (λ (t : List ℕ × RecorderState). MayBeWritten n readers t.0 t.1) terms → field < count
    → AllByRecursion (IsWritable (norms_in readers field)) (slice_index_or (map (λ (field : ℕ). terms_in field terms) (range_with_len 0 count)) field [])
all_writable n count field readers terms all inside =
    subst (AllByRecursion (IsWritable (norms_in readers field))) (sym (get_or-map-range_with_len (λ (f : ℕ). terms_in f terms) 0 count field field [] inside (zero-add field))) (kept_writable n field readers terms all)
