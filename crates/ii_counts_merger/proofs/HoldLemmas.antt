-- Counts of segments that hold tokens.
use Rattle.std.proofs.Common.{◌≡◌, ℕ, zero, suc, ◌+◌, ◌<◌, List, [], ◌∷◌, ◌++◌, length, map, Bool, Option, Some, refl, sym, ap, ◌∙◌, subst, arith}
use Rattle.std.specs.Prelude.{IfSome, IsSome, slice_get, slice_index, sum, unwrap_or}
use Rattle.std.specs.List.{flat_map, range_with_len}
use Rattle.std.specs.Option.{option_map}
use Rattle.std.proofs.lemmas.List.FromFn.{length-map-range_with_len}
use Rattle.ii_io.specs.Composite.{Body, body_of}
use Rattle.ii_base.specs.Schema.{SchemaEntry}
use Rattle.ii_counts.specs.Counts.{counts_at, written_counts}
use Rattle.ii_counts.specs.CountsWriter.{IsReadBack, count_bodies}
use Rattle.ii_definitions.specs.Postings.{doc_count, field_count}
use Rattle.ii_segments.specs.HoldCounts.{field_counts}
use Rattle.ii_segments.specs.SegmentLaws.{CountsOfSegments}
use Rattle.ii_segments.specs.Segments.{Segment, doc_counts, index_tokens, living_counts, living_docs, num_docs_of}
use Rattle.ii_counts_merger.specs.CountsSources.{CountsSourceHolds, CountsSourceState, CountsSourcesHold, HaveCounts, counts_of_source, counts_in_body, living_row, merged_row, merged_rows, merged_totals}

row_at : (F : ℕ → List ℕ) (first n k : ℕ) → k < n → slice_get (map F (range_with_len first n)) k ≡ Some (F (first + k))
row_at F first zero k low = absurd (omega (arith, low))
row_at F first (suc n) zero low = ap (λ (i : ℕ). Some (F i)) (omega arith)
row_at F first (suc n) (suc k) low = row_at F (first + 1) n k (omega (arith, low)) ∙ ap (λ (i : ℕ). Some (F i)) (omega arith)

same_bodies : (xs ys : List Body) (o : Option (List Body)) → o ≡ Some xs → o ≡ Some ys → xs ≡ ys
same_bodies xs ys o is are = inside (sym is ∙ are)
  where
    inside : ◌≡◌ {A = Option (List Body)} (Some xs) (Some ys) → xs ≡ ys
    inside e = cc

-- the counts of a field are those of its tokens
pub counts_are : (entries : List SchemaEntry) (field : ℕ) (c : CountsSourceState) (s : Segment) → field < length entries → CountsSourceHolds entries c s → counts_of_source field c ≡ Some (doc_counts (length s.alive) field s.tokens)
counts_are entries field c s known h =
    let n = length s.alive in
    let rows = field_counts entries n s.tokens in
    let row = doc_counts n field s.tokens in
    let at : slice_get rows field ≡ Some row = row_at (λ (f : ℕ). doc_counts n f s.tokens) 0 (length entries) field known ∙ ap (λ (f : ℕ). Some (doc_counts n f s.tokens)) (omega arith) in
    let bodies : c.counts ≡ count_bodies rows = same_bodies c.counts (count_bodies rows) _ h.opened_is h.counts.opened in
    let body : body_of field c.counts ≡ Some (written_counts row) = ap (body_of field) bodies ∙ h.counts.exact field ∙ ap (option_map written_counts) at in
    let back : counts_at (length row) (written_counts row) ≡ Some row = subst (λ (o : Option (List ℕ)). IfSome o IsReadBack) at (h.counts.read field) in
    let many : length row ≡ length c.alive = length-map-range_with_len (λ (doc : ℕ). doc_count doc field s.tokens) 0 n ∙ ap length (sym h.alive) in
    ap (counts_in_body (length c.alive)) body ∙ ap (λ (k : ℕ). counts_at k (written_counts row)) (sym many) ∙ back

living_same : (entries : List SchemaEntry) (field : ℕ) (c : CountsSourceState) (s : Segment) → field < length entries → CountsSourceHolds entries c s → living_row field c ≡ living_counts field s
living_same entries field c s known h =
    ap (λ (o : Option (List ℕ)). map (slice_index (unwrap_or o [])) (living_docs c.alive)) (counts_are entries field c s known h)
    ∙ ap (λ (alive : List Bool). map (slice_index (doc_counts (length s.alive) field s.tokens)) (living_docs alive)) h.alive

row_same : (entries : List SchemaEntry) (field : ℕ) (cs : List CountsSourceState) (ss : List Segment) → field < length entries → CountsSourcesHold entries cs ss → merged_row field cs ≡ flat_map (living_counts field) ss
row_same entries field [] [] known h = refl
row_same entries field [] (s ∷ ss) known h = absurd h
row_same entries field (c ∷ cs) [] known h = absurd h
row_same entries field (c ∷ cs) (s ∷ ss) known h =
    ap (λ (xs : List ℕ). xs ++ merged_row field cs) (living_same entries field c s known h.0) ∙ ap (λ (xs : List ℕ). living_counts field s ++ xs) (row_same entries field cs ss known h.1)

pub below_same : {X : Type 0} (F G : ℕ → X) (first n : ℕ) → ((k : ℕ) → k < n → F (first + k) ≡ G (first + k)) → map F (range_with_len first n) ≡ map G (range_with_len first n)
below_same F G first zero same = refl
below_same F G first (suc n) same =
    let here : F first ≡ G first = ap F (omega arith) ∙ same 0 (omega arith) ∙ ap G (omega arith) in
    let rest = below_same F G (first + 1) n (λ k low. ap F (omega arith) ∙ same (suc k) (omega (arith, low)) ∙ ap G (omega arith)) in
    ap (λ (x : _). x ∷ map F (range_with_len (first + 1) n)) here ∙ ap (λ (xs : List _). G first ∷ xs) rest

module _ (entries : List SchemaEntry) (cs : List CountsSourceState) (ss : List Segment) (law : (field : ℕ) → CountsOfSegments field ss) (h : CountsSourcesHold entries cs ss) where
  pub rows_held : merged_rows (length entries) cs ≡ field_counts entries (num_docs_of ss) (index_tokens ss)
  rows_held =
      below_same (λ (field : ℕ). merged_row field cs) (λ (field : ℕ). doc_counts (num_docs_of ss) field (index_tokens ss)) 0 (length entries) (λ field known. let same : 0 + field ≡ field = omega arith in rw same (row_same entries field cs ss known h ∙ sym (law field).counts))

  pub totals_held : merged_totals (length entries) cs ≡ map (λ (field : ℕ). field_count field (index_tokens ss)) (range_with_len 0 (length entries))
  totals_held =
      below_same (λ (field : ℕ). sum (merged_row field cs)) (λ (field : ℕ). field_count field (index_tokens ss)) 0 (length entries) (λ field known. let same : 0 + field ≡ field = omega arith in rw same (ap sum (row_same entries field cs ss known h) ∙ sym (law field).total))

-- segments that hold tokens have counts
pub have_counts : (entries : List SchemaEntry) (cs : List CountsSourceState) (ss : List Segment) → CountsSourcesHold entries cs ss → HaveCounts (length entries) cs
have_counts entries [] [] h field known = tt
have_counts entries [] (s ∷ ss) h field known = absurd h
have_counts entries (c ∷ cs) [] h field known = absurd h
have_counts entries (c ∷ cs) (s ∷ ss) h field known = (subst IsSome (sym (counts_are entries field c s known h.0)) refl, have_counts entries cs ss h.1 field known)
