-- The scores of a query in an index that has what ranking by it reads of another one.
use Rattle.std.specs.Prelude.{◌≡◌, ℕ, true, length}
use Rattle.ii_bm25.specs.Statistics.{Statistics}
use Rattle.ii_query_parser.specs.declared.query.Query.{Query}
use Rattle.ii_query_parser.specs.Queries.{has_fields}
use Rattle.ii_ranking.specs.Scores.{query_damage, query_score, scored_in}
use Rattle.ii_reader.specs.OpenIndex.{OpenIndexState}
use Rattle.ii_warmup.specs.IndexParts.{HaveNormsFor}
use Rattle.ii_warmup.specs.Parts.{IsPartFor}
use Rattle.ii_warmup.specs.QueryTerms.{query_ranges, requested_terms}
use Rattle.ii_warmup.specs.declared.scoring.EnableScoring.TheVariants.{Enabled}

-- An index has of each field of another one what a query reads of it, and the norms of the fields that the query names, which the other one has.
pub record IsScoredPartFor (query : Query) (part whole : OpenIndexState) : Type 0 where
  pub parts : IsPartFor query part whole
  pub norms : HaveNormsFor Enabled (requested_terms query) (query_ranges query) (length whole.readers) part.fieldnorms whole.fieldnorms
  pub fields : has_fields (length whole.readers) query ≡ true

-- Each document scores in such an index what it scores in the other one.
abbrev pub PartsScoreTheSame : Type 0
PartsScoreTheSame = (query : Query) (part whole : OpenIndexState) (statistics : Statistics) → IsScoredPartFor query part whole
    → (doc : ℕ) → query_score (scored_in part statistics) query doc ≡ query_score (scored_in whole statistics) query doc

-- The first damage of what the scores need is the same in both.
abbrev pub PartsAreDamagedTheSame : Type 0
PartsAreDamagedTheSame = (query : Query) (part whole : OpenIndexState) → IsScoredPartFor query part whole → query_damage part query ≡ query_damage whole query
