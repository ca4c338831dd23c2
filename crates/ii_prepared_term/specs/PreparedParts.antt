-- What documents score by the parts of a query that is prepared.
use Rattle.std.specs.Prelude.{ℕ, ◌+◌, List, [], ◌∷◌, ◌++◌, Option, None, Some, if◌then◌else◌, max, min, nat_lt}
use Rattle.ii_base.specs.declared.doc_id.TheConstants.{TERMINATED}
use Rattle.ii_bm25.specs.declared.bm25.TheConstants.{SCORE_ONE}
use Rattle.ii_scorer.specs.BlockLists.{BlockList}
use Rattle.ii_scorer.specs.Combinations.{any_of, each_of, unless}
use Rattle.ii_prepared_term.specs.PreparedQueries.{bound_under, depth_under, lists_under, prepared_query_bound, prepared_query_score, scores_by}
use Rattle.ii_prepared_term.specs.PreparedScorers.{term_block_list}
use Rattle.ii_prepared_term.specs.PreparedTerms.{prepared_bound, prepared_score}
use Rattle.ii_prepared_term.specs.ScoredLists.{listed_score}
use Rattle.ii_prepared_term.specs.declared.prepared_query.PreparedParts.{PreparedParts}
use Rattle.ii_prepared_term.specs.declared.prepared_query.PreparedParts.TheVariants.{Nothing, All, Term, Listed, Each, Any, Without}

-- what a document scores by the parts of a query
abbrev pub prepared_parts_score : PreparedParts → ℕ → Option ℕ
prepared_parts_score Nothing doc = None
prepared_parts_score (All limit) doc = if nat_lt doc (min limit TERMINATED) then Some SCORE_ONE else None
prepared_parts_score (Term term) doc = prepared_score term doc
prepared_parts_score (Listed list) doc = listed_score list doc
prepared_parts_score (Each parts) doc = each_of (scores_by parts.items doc)
prepared_parts_score (Any parts) doc = any_of (scores_by parts.items doc)
prepared_parts_score (Without first other) doc = unless (prepared_query_score first.value doc) (prepared_query_score other.value doc)

-- the bound of what it scores: that of its run by a term, the greatest score of a list
abbrev pub prepared_parts_bound : PreparedParts → ℕ → ℕ
prepared_parts_bound Nothing doc = 0
prepared_parts_bound (All limit) doc = SCORE_ONE
prepared_parts_bound (Term term) doc = prepared_bound term doc
prepared_parts_bound (Listed list) doc = list.most
prepared_parts_bound (Each parts) doc = bound_under parts.items doc
prepared_parts_bound (Any parts) doc = bound_under parts.items doc
prepared_parts_bound (Without first other) doc = prepared_query_bound first.value doc

-- the lists of their terms
abbrev pub prepared_parts_lists : PreparedParts → List BlockList
prepared_parts_lists Nothing = []
prepared_parts_lists (All limit) = []
prepared_parts_lists (Term term) = term_block_list term ∷ []
prepared_parts_lists (Listed list) = []
prepared_parts_lists (Each parts) = lists_under parts.items
prepared_parts_lists (Any parts) = lists_under parts.items
prepared_parts_lists (Without first other) = first.value.lists ++ other.value.lists

-- how deep they are nested
abbrev pub prepared_parts_depth : PreparedParts → ℕ
prepared_parts_depth Nothing = 0
prepared_parts_depth (All limit) = 0
prepared_parts_depth (Term term) = 0
prepared_parts_depth (Listed list) = 0
prepared_parts_depth (Each parts) = depth_under parts.items
prepared_parts_depth (Any parts) = depth_under parts.items
prepared_parts_depth (Without first other) = max first.value.depth other.value.depth + 1
