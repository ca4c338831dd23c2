-- Counts of living documents: one document, one segment and one field after the other.
use Rattle.std.proofs.Common.{inl, inr, ◌≡◌, ℕ, zero, suc, ◌+◌, ◌-◌, ◌<◌, ◌≤◌, ◌==◌, Bool, true, false, List, [], ◌∷◌, ◌++◌, get_or, length, map, refl, sym, ap, ◌∙◌, subst, arith, append_assoc, length-append, ⊎_elim}
use Rattle.std.specs.Prelude.{◌⊎◌, filter, slice_index, unwrap_or}
use Rattle.std.specs.List.{AllByRecursion, range_with_len}
use Rattle.std.proofs.lemmas.Bool.{cases_lt, eqb-false, eqb-true}
use Rattle.std.proofs.lemmas.List.{get_or_past, length-map}
use Rattle.ii_io.specs.declared.faults.Fault.{Fault}
use Rattle.ii_io.specs.declared.faults.Fault.TheVariants.{Damaged, OutOfMemory}
use Rattle.ii_io.specs.declared.faults.Part.TheVariants.{TokenCount}
use Rattle.ii_alive.specs.Alive.{num_living}
use Rattle.ii_alive.proofs.RankLemmas.{living_cons}
use Rattle.ii_counts.specs.CountsWriter.{count_at, first_counts}
use Rattle.ii_segments.specs.Segments.{is_living, living_docs}
use Rattle.ii_segments.proofs.CountLaws.{living_length, map_all}
use Rattle.ii_definitions.proofs.ListLaws.{all_drop, mapped_at}
use Rattle.ii_counts_merger.specs.CountsSources.{CountsSourceState, HasCounts, HasRows, HaveCounts, SetsRow, num_merged_docs, counts_of_source, living_row, merged_row, merged_rows, opened_counts}
use Rattle.ii_counts_merger.specs.declared.counts_source.CountsSource.{CountsSource}

-- ---- documents
module _ (alive : List Bool) (f : ℕ → ℕ) (n doc : ℕ) (low : doc < n) (before all : List ℕ) (so_far : before ++ map f (filter (is_living alive) (range_with_len doc (n - doc))) ≡ all) where
  abbrev later : List ℕ
  later = range_with_len (doc + 1) (n - (doc + 1))

  left_is : n - doc ≡ suc (n - (doc + 1))
  left_is = omega (arith, low)

  from_here : before ++ map f (filter (is_living alive) (doc ∷ later)) ≡ all
  from_here = ap (λ (k : ℕ). before ++ map f (filter (is_living alive) (range_with_len doc k))) (sym left_is) ∙ so_far

  pub next_living : is_living alive doc ≡ true → (before ++ f doc ∷ []) ++ map f (filter (is_living alive) later) ≡ all
  next_living living = append_assoc before (f doc ∷ []) (map f (filter (is_living alive) later)) ∙ (rw living at from_here)

  pub next_dead : is_living alive doc ≡ false → before ++ map f (filter (is_living alive) later) ≡ all
  next_dead dead = rw dead at from_here

-- ---- segments
each_source : (P : CountsSourceState → Type 0) (xs : List CountsSource) (i : ℕ) (x : CountsSource) → i < length xs → x ≡ get_or xs i x → AllByRecursion P (map opened_counts xs) → P (opened_counts x)
each_source P xs i x inside is all = (subst (AllByRecursion P) (mapped_at opened_counts xs i x inside is) (all_drop P i (map opened_counts xs) all)).0

pub one_damaged : (field : ℕ) (xs : List CountsSource) (i : ℕ) (x : CountsSource) (e : Fault) → i < length xs → x ≡ get_or xs i x → (e ≡ OutOfMemory) ⊎ ((e ≡ Damaged TokenCount) × ¬ HasCounts field (opened_counts x))
    → (e ≡ OutOfMemory) ⊎ ((e ≡ Damaged TokenCount) × ¬ AllByRecursion (HasCounts field) (map opened_counts xs))
one_damaged field xs i x e inside is (inl memory) = inl memory
one_damaged field xs i x e inside is (inr damaged) = inr (damaged.0, λ all. damaged.1 (each_source (HasCounts field) xs i x inside is all))

-- no more documents are alive than there are
pub few_living : (alive : List Bool) → num_living alive ≤ length alive
few_living [] = omega arith
few_living (true ∷ bs) = omega (arith, living_cons true bs, few_living bs)
few_living (false ∷ bs) = omega (arith, living_cons false bs, few_living bs)

pub row_length : (field : ℕ) (s : CountsSourceState) → length (living_row field s) ≤ length s.alive
row_length field s =
    omega (arith, length-map (living_docs s.alive) (slice_index (unwrap_or (counts_of_source field s) [])), living_length s.alive, few_living s.alive)

pub merged_length : (field : ℕ) (ss : List CountsSourceState) → length (merged_row field ss) ≡ num_merged_docs ss
merged_length field [] = refl
merged_length field (s ∷ ss) =
    omega (arith, length-append (living_row field s) (merged_row field ss), merged_length field ss, length-map (living_docs s.alive) (slice_index (unwrap_or (counts_of_source field s) [])), living_length s.alive)

-- ---- rows of fields
pub rows_next : (n place : ℕ) (ss : List CountsSourceState) (old new : List (List ℕ)) (row : List ℕ) → HasRows n place ss old → SetsRow old new place (length row) row → row ≡ merged_row place ss → HasRows n (place + 1) ss new
rows_next n place ss old new row has sets is = record {
  fields = sets.fields ∙ has.fields;
  below = λ field doc lt. at field doc lt (field == place) refl;
  after = λ field doc le. sets.others field doc (λ same lt. omega (arith, same, le)) ∙ has.after field doc (omega (arith, le));
}
  where
    own : (doc : ℕ) → count_at new place doc ≡ slice_index row doc
    own doc = ⊎_elim (λ low. sets.here doc low) (λ high. sets.others place doc (λ same low. omega (arith, low, high)) ∙ has.after place doc (omega arith) ∙ sym (get_or_past row doc 0 high)) (cases_lt doc (length row))

    at : (field doc : ℕ) → field < place + 1 → (b : Bool) → (field == place) ≡ b → count_at new field doc ≡ slice_index (merged_row field ss) doc
    at field doc lt true e =
        let last : field ≡ place = eqb-true field place e in
        ap (λ (f : ℕ). count_at new f doc) last ∙ own doc ∙ ap (λ (r : List ℕ). slice_index r doc) (is ∙ ap (λ (f : ℕ). merged_row f ss) (sym last))
    at field doc lt false e =
        let other = eqb-false field place e in
        sets.others field doc (λ same low. other same) ∙ has.below field doc (⊎_elim (λ low. low) (λ high. absurd (other (omega (arith, lt, high)))) (cases_lt field place))

pub counts_next : (place : ℕ) (ss : List CountsSourceState) → HaveCounts place ss → AllByRecursion (HasCounts place) ss → HaveCounts (place + 1) ss
counts_next place ss have here field lt = by (field == place) refl
  where
    by : (b : Bool) → (field == place) ≡ b → AllByRecursion (HasCounts field) ss
    by true e = subst (λ (f : ℕ). AllByRecursion (HasCounts f) ss) (sym (eqb-true field place e)) here
    by false e = let other = eqb-false field place e in have field (⊎_elim (λ low. low) (λ high. absurd (other (omega (arith, lt, high)))) (cases_lt field place))

pub rows_damaged : (n place : ℕ) (ss : List CountsSourceState) (e : Fault) → place < n → (e ≡ OutOfMemory) ⊎ ((e ≡ Damaged TokenCount) × ¬ AllByRecursion (HasCounts place) ss) → (e ≡ OutOfMemory) ⊎ ((e ≡ Damaged TokenCount) × ¬ HaveCounts n ss)
rows_damaged n place ss e known (inl memory) = inl memory
rows_damaged n place ss e known (inr damaged) = inr (damaged.0, λ have. damaged.1 (have place known))

-- ---- the file
shifted : (f : ℕ → ℕ) (a n : ℕ) → map f (range_with_len (a + 1) n) ≡ map (λ (i : ℕ). f (suc i)) (range_with_len a n)
shifted f a zero = refl
shifted f a (suc n) =
    let next : a + 1 ≡ suc a = omega arith in
    ap (λ (i : ℕ). f i ∷ map f (range_with_len (a + 1 + 1) n)) next ∙ ap (λ (xs : List ℕ). f (suc a) ∷ xs) (shifted f (a + 1) n)

whole_row : (row : List ℕ) → first_counts (length row) row ≡ row
whole_row [] = refl
whole_row (x ∷ row) =
    ap (λ (xs : List ℕ). x ∷ xs) (shifted (λ (i : ℕ). get_or (x ∷ row) i 0) 0 (length row) ∙ whole_row row)

rows_from : (first n : ℕ) (ss : List CountsSourceState) (rows : List (List ℕ)) → n ≡ num_merged_docs ss → ((field doc : ℕ) → field < length rows → count_at rows field doc ≡ slice_index (merged_row (first + field) ss) doc)
    → map (first_counts n) rows ≡ map (λ (field : ℕ). merged_row field ss) (range_with_len first (length rows))
rows_from first n ss [] docs each = refl
rows_from first n ss (row ∷ rows) docs each =
    let same : first + 0 ≡ first = omega arith in
    let many : length (merged_row first ss) ≡ n = merged_length first ss ∙ sym docs in
    let own : first_counts n row ≡ merged_row first ss =
    map_all (λ (doc : ℕ). get_or row doc 0) (λ (doc : ℕ). get_or (merged_row first ss) doc 0) (range_with_len 0 n) (λ doc. each 0 doc (omega arith) ∙ ap (λ (f : ℕ). slice_index (merged_row f ss) doc) same)
    ∙ ap (λ (k : ℕ). first_counts k (merged_row first ss)) (sym many) ∙ whole_row (merged_row first ss) in
    let rest = rows_from (first + 1) n ss rows docs (λ field doc lt. each (suc field) doc (omega (arith, lt)) ∙ ap (λ (f : ℕ). slice_index (merged_row f ss) doc) (omega arith)) in
    ap (λ (r : List ℕ). r ∷ map (first_counts n) rows) own ∙ ap (λ (rs : List (List ℕ)). merged_row first ss ∷ rs) rest

pub rows_are : (n docs : ℕ) (ss : List CountsSourceState) (rows : List (List ℕ)) → docs ≡ num_merged_docs ss → HasRows n n ss rows → map (first_counts docs) rows ≡ merged_rows n ss
rows_are n docs ss rows many has =
    rows_from 0 docs ss rows many (λ field doc lt. has.below field doc (omega (arith, lt, has.fields)) ∙ ap (λ (f : ℕ). slice_index (merged_row f ss) doc) (omega arith))
    ∙ ap (λ (k : ℕ). map (λ (field : ℕ). merged_row field ss) (range_with_len 0 k)) has.fields
