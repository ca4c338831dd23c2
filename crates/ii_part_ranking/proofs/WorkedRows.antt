-- What ranking by a term reads of an index of two fields.
use Rattle.std.proofs.Common.{◌≡◌, ℕ, zero, suc, List, [], ◌∷◌, Option, None, Some, refl, subst, sym, ap, arith}
use Rattle.ii_io.specs.Composite.{Body, body_of}
use Rattle.ii_base.specs.Terms.{TermState}
use Rattle.ii_base.specs.declared.schema.index_record_option.IndexRecordOption.{IndexRecordOption}
use Rattle.ii_base.specs.declared.schema.index_record_option.IndexRecordOption.TheVariants.{Basic}
use Rattle.ii_query_parser.specs.declared.query.Query.{Query}
use Rattle.ii_query_parser.specs.declared.query.Query.TheVariants.{Term}
use Rattle.ii_query_parser.specs.Queries.{QueryTree, holds_for_all, is_within, one_term, phrase_is_within}
use Rattle.ii_query_parser.proofs.QueryLemmas.{term_tree}
use Rattle.ii_reader.specs.InvertedIndexReader.{reader_of_none}
use Rattle.ii_reader.specs.OpenIndex.{OpenIndexState}
use Rattle.ii_ranking.specs.Scores.{norm_id_in}
use Rattle.ii_warmup.specs.IndexParts.{HaveNormsFor}
use Rattle.ii_warmup.specs.Parts.{IsPartFor, IsPartOf}
use Rattle.ii_warmup.specs.QueryTerms.{tree_ranges, tree_terms}
use Rattle.ii_warmup.specs.declared.scoring.EnableScoring.TheVariants.{Enabled}
use Rattle.ii_part_ranking.specs.PartScores.{IsScoredPartFor}

abbrev sea : TermState
sea = record { field = 0; value = 115 ∷ [] }

-- an index of two empty fields with these norms
abbrev index_with : List Body → OpenIndexState
index_with norms = record { readers = reader_of_none Basic ∷ reader_of_none Basic ∷ []; fieldnorms = norms }

abbrev whole : OpenIndexState
whole = index_with (record { field = 0; bytes = 5 ∷ 9 ∷ [] } ∷ record { field = 1; bytes = 7 ∷ 7 ∷ [] } ∷ [])

abbrev part : OpenIndexState
part = index_with (record { field = 0; bytes = 5 ∷ 9 ∷ [] } ∷ [])

reader_row : (requested : List ℕ → Option IndexRecordOption) → IsPartOf requested (reader_of_none Basic) (reader_of_none Basic)
reader_row requested = record { keys = refl; docs = λ key wanted option is served. refl; option = refl; num_tokens = refl }

parts_row : (query : Query) (norms : List Body) → IsPartFor query (index_with norms) whole
parts_row query norms zero = reader_row _
parts_row query norms (suc zero) = reader_row _
parts_row query norms (suc (suc field)) = tt

norms_row : HaveNormsFor Enabled (tree_terms (one_term sea)) (tree_ranges (one_term sea)) 2 part.fieldnorms whole.fieldnorms
norms_row zero inside = refl
norms_row (suc zero) inside = refl
norms_row (suc (suc field)) inside = absurd (omega (arith, inside))

-- the norms of the term's field are enough
scored_row : IsScoredPartFor (Term sea) part whole
scored_row = record {
  parts = parts_row (Term sea) part.fieldnorms;
  norms = subst (λ (q : QueryTree). HaveNormsFor Enabled (tree_terms q) (tree_ranges q) 2 part.fieldnorms whole.fieldnorms) (sym (term_tree sea)) norms_row;
  fields = ap (holds_for_all (is_within 2) (phrase_is_within 2)) (term_tree sea);
}

no_body : (bytes : List ℕ) → None ≡ Some bytes → ⊥
no_body bytes e = absurd cc

-- without them an index isn't such a part: a document would have another norm id
bare_row : IsScoredPartFor (Term sea) (index_with []) whole → ⊥
bare_row has =
    let norms = subst (λ (q : QueryTree). HaveNormsFor Enabled (tree_terms q) (tree_ranges q) 2 [] whole.fieldnorms) (term_tree sea) has.norms in
    no_body (5 ∷ 9 ∷ []) (norms 0 (omega arith))

norm_row : (norm_id_in (body_of 0 part.fieldnorms) 1 ≡ 9) × (norm_id_in (body_of 0 []) 1 ≡ 1)
norm_row = (refl, refl)
