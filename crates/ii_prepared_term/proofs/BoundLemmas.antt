-- Laws of the bounds of queries that are prepared.
use Rattle.std.proofs.Common.{◌≡◌, ◌∙◌, ℕ, zero, suc, ◌+◌, ◌<◌, ◌≤◌, List, [], ◌∷◌, ◌++◌, Option, Ok, ap, arith, get_or, length, max, sym, take}
use Rattle.std.specs.Option.{option_map}
use Rattle.ii_io.specs.Composite.{body_of}
use Rattle.ii_base.specs.Entries.{Entry}
use Rattle.ii_base.specs.Terms.{TermState}
use Rattle.ii_base.specs.declared.schema.index_record_option.IndexRecordOption.TheVariants.{WithFreqs}
use Rattle.ii_block_shares.specs.BlockShares.{bound_at, most_within, runs_of, share_of}
use Rattle.ii_block_shares.specs.declared.block_shares.BlockShare.{BlockShare}
use Rattle.ii_bm25.specs.Bm25.{Bm25State, bm25_share, bm25_weight}
use Rattle.ii_bm25.specs.Statistics.{Statistics, idfs_of}
use Rattle.ii_fieldnorm.specs.Readers.{Norms, norms_of_ids}
use Rattle.ii_query_parser.specs.declared.query.Query.{Query}
use Rattle.ii_query_parser.specs.Queries.{trees_of}
use Rattle.ii_reader.specs.OpenIndex.{OpenIndexState}
use Rattle.ii_scorer.specs.Combinations.{add}
use Rattle.ii_search.specs.Found.{docs_of_term}
use Rattle.ii_ranking.specs.NormIds.{id_among}
use Rattle.ii_ranking.specs.Scores.{Scored, norm_id_in, opened_or_none, scored_in}
use Rattle.ii_ranking.proofs.LeafLemmas.{ids_among}
use Rattle.ii_prepared_term.specs.PreparedQueries.{PreparedQueryState, bound_under, prepared_query_bound}
use Rattle.ii_prepared_term.specs.QueryBounds.{entry_share, greatest_listed, query_bound, term_bound, trees_bound}
use Rattle.ii_prepared_term.proofs.PreparedLemmas.{ids_same}

-- ---- the bound of a term
pub bound_opened : (index : OpenIndexState) (st : Statistics) (term : TermState) (es : List Entry) (norms : Option Norms) (w : Bm25State) (runs : List BlockShare) → docs_of_term WithFreqs index term ≡ Ok es → norms ≡ option_map norms_of_ids (body_of term.field index.fieldnorms)
    → w ≡ bm25_weight (idfs_of st (term ∷ [])) st.num_docs (st.num_tokens term.field) → runs ≡ runs_of (share_of w norms) es → (doc : ℕ) → most_within w.weight (bound_at runs doc) ≡ term_bound (scored_in index st) term doc
bound_opened index st term es norms w runs listed found made are doc =
    ap (λ (rs : List BlockShare). most_within w.weight (bound_at rs doc)) are ∙ (λ j. most_within (made j).weight (bound_at (runs_of (shares j) (entries j)) doc))
  where
    entries : es ≡ opened_or_none (docs_of_term WithFreqs index term)
    entries = sym (ap opened_or_none listed)

    share : (e : Entry) → share_of w norms e ≡ entry_share (scored_in index st) term e
    share e =
        ap (λ (id : ℕ). bm25_share w id e.term_freq) (ids_same norms e.doc ∙ ap (λ (n : Option Norms). id_among n e.doc) found ∙ ids_among (body_of term.field index.fieldnorms) e.doc)
        ∙ ap (λ (v : Bm25State). bm25_share v (norm_id_in (body_of term.field index.fieldnorms) e.doc) e.term_freq) made

    shares : share_of w norms ≡ entry_share (scored_in index st) term
    shares = λ j. λ (e : Entry). share e j

-- ---- the greatest score of a list
pub greatest_more : (docs : List (ℕ × ℕ)) (i : ℕ) (d : ℕ × ℕ) → i < length docs → d ≡ get_or docs i d → greatest_listed (take (i + 1) docs) ≡ max (greatest_listed (take i docs)) d.0
greatest_more docs i d inside is = let more : i + 1 ≡ suc i = omega arith in ap (λ (n : ℕ). greatest_listed (take n docs)) more ∙ row docs i inside is
  where
    row : (ds : List (ℕ × ℕ)) (k : ℕ) → k < length ds → d ≡ get_or ds k d → greatest_listed (take (suc k) ds) ≡ max (greatest_listed (take k ds)) d.0
    row [] k inside is = absurd (omega (arith, inside))
    row (x ∷ xs) zero inside is = let here = ap (λ (p : ℕ × ℕ). p.0) is in omega (arith, here)
    row (x ∷ xs) (suc k) inside is = let later = row xs k (omega (arith, inside)) is in omega (arith, later)

pub greatest_up : (docs : List (ℕ × ℕ)) (k : ℕ) → k < length docs → (get_or docs k (0, 0)).0 ≤ greatest_listed docs
greatest_up [] k inside = absurd (omega (arith, inside))
greatest_up (d ∷ ds) zero inside = omega arith
greatest_up (d ∷ ds) (suc k) inside = let later = greatest_up ds k (omega (arith, inside)) in omega (arith, later)

-- ---- the sum of bounds
under_more : (ps : List PreparedQueryState) (p : PreparedQueryState) (doc : ℕ) → bound_under (ps ++ p ∷ []) doc ≡ add (bound_under ps doc) (prepared_query_bound p doc)
under_more [] p doc = omega arith
under_more (q ∷ qs) p doc = let later = under_more qs p doc in omega (arith, later)

under_few : (ps : List PreparedQueryState) (doc : ℕ) → add (bound_under ps doc) 0 ≡ bound_under ps doc
under_few [] doc = omega arith
under_few (p ∷ ps) doc = omega arith

module _ (s : Scored) (all : List Query) (doc : ℕ) where
  -- no query yet
  pub bounds_first : (parts : List PreparedQueryState) → parts ≡ [] → add (bound_under parts doc) (trees_bound s (trees_of all) doc) ≡ trees_bound s (trees_of all) doc
  bounds_first parts none = ap (λ (ps : List PreparedQueryState). add (bound_under ps doc) (trees_bound s (trees_of all) doc)) none ∙ few all
    where
      few : (qs : List Query) → add 0 (trees_bound s (trees_of qs) doc) ≡ trees_bound s (trees_of qs) doc
      few [] = omega arith
      few (q ∷ qs) = omega arith

  -- one query more
  pub bounds_next : (left others : List Query) (q : Query) (parts more : List PreparedQueryState) (part : PreparedQueryState) → left ≡ q ∷ others → prepared_query_bound part doc ≡ query_bound s q doc → more ≡ parts ++ part ∷ []
      → add (bound_under parts doc) (trees_bound s (trees_of left) doc) ≡ trees_bound s (trees_of all) doc → add (bound_under more doc) (trees_bound s (trees_of others) doc) ≡ trees_bound s (trees_of all) doc
  bounds_next left others q parts more part is bound more_is so_far =
      let row = ap (λ (ps : List PreparedQueryState). bound_under ps doc) more_is ∙ under_more parts part doc in
      let rest : trees_bound s (trees_of left) doc ≡ add (query_bound s q doc) (trees_bound s (trees_of others) doc) = ap (λ (qs : List Query). trees_bound s (trees_of qs) doc) is in
      omega (arith, row, bound, rest, so_far)

  -- all of them
  pub bounds_all : (left : List Query) (parts : List PreparedQueryState) → left ≡ [] → add (bound_under parts doc) (trees_bound s (trees_of left) doc) ≡ trees_bound s (trees_of all) doc → bound_under parts doc ≡ trees_bound s (trees_of all) doc
  bounds_all left parts none so_far = sym (under_few parts doc) ∙ ap (λ (qs : List Query). add (bound_under parts doc) (trees_bound s (trees_of qs) doc)) (sym none) ∙ so_far
