-- The numbers of the open segments of an index that scores need, and what is ranked by them.
use Rattle.std.specs.Prelude.{◌≡◌, ℕ, ◌+◌, ◌-◌, ◌^◌, ◌==◌, ◌&&◌, Bool, true, List, [], ◌∷◌, Option, None, Some, if◌then◌else◌, is_some, length, map, min, nat_lt, unwrap_or}
use Rattle.std.specs.List.{list_all, list_any}
use Rattle.ii_io.specs.declared.faults.Part.{Part}
use Rattle.ii_io.specs.declared.faults.Part.TheVariants.{TokenCount}
use Rattle.ii_base.specs.Terms.{TermState}
use Rattle.ii_bm25.specs.Statistics.{Statistics}
use Rattle.ii_query_parser.specs.declared.query.Query.{Query}
use Rattle.ii_query_parser.specs.Queries.{has_fields}
use Rattle.ii_ranking.specs.Scores.{first_of}
use Rattle.ii_ranking.specs.Segments.{segments_scored}
use Rattle.ii_segment_search.specs.Searcher.{OpenSegmentState, total_living}
use Rattle.ii_statistics.specs.Statistics.{query_terms, ranking_damage, segments_statistics}
use Rattle.nequllpa_opening.specs.LivingTokens.{living_tokens}
use Rattle.nequllpa_searching.specs.declared.field_totals.FieldTotal.{FieldTotal}
use Rattle.nequllpa_searching.specs.declared.field_totals.FieldTotals.{FieldTotals}
use Rattle.nequllpa_opening.specs.declared.opened.Opened.{Opened}

-- the readers of a segment, and which of its documents are alive
abbrev pub open_segment : Opened → OpenSegmentState
open_segment o = record { index = o.index; alive = o.alive }

-- how many tokens the living documents of a segment have in a field, if that is known
abbrev pub tokens_in : Opened → ℕ → Option ℕ
tokens_in o field = living_tokens field o.index o.counts o.alive

-- how many tokens the living documents of segments have in a field; those of segments where this isn't known don't count
abbrev pub all_tokens : List Opened → ℕ → ℕ
all_tokens [] field = 0
all_tokens (o ∷ os) field = unwrap_or (tokens_in o field) 0 + all_tokens os field

-- the same number, at most 2^64 - 1
abbrev pub tokens_in_all : List Opened → ℕ → ℕ
tokens_in_all os field = min (2 ^ 64 - 1) (all_tokens os field)

-- the exact numbers of the living documents of segments and of their tokens
abbrev pub opened_statistics : List Opened → Statistics
opened_statistics os = segments_statistics (tokens_in_all os) (map open_segment os)

-- the living documents of segments that have a score by a query, by these numbers
abbrev pub opened_scored : List Opened → Query → List (ℕ × ℕ)
opened_scored os query = segments_scored (opened_statistics os) query 0 (map open_segment os)

-- whether it is known of each segment how many tokens its living documents have in a field
abbrev pub knows_tokens : List Opened → ℕ → Bool
knows_tokens os field = list_all (λ (o : Opened). is_some (tokens_in o field)) os

-- the damage of the numbers of tokens: TokenCount if one isn't known in the field of a term
abbrev pub tokens_damage : List Opened → List TermState → Option Part
tokens_damage os terms = if list_all (λ (t : TermState). knows_tokens os t.field) terms then None else Some TokenCount

-- the first damaged part of what the best documents of a query need: of the numbers of tokens, then of the ranking
abbrev pub best_damage : List Opened → Query → Option Part
best_damage os query = first_of (tokens_damage os (query_terms query)) (ranking_damage (map open_segment os) query)

-- whether each segment has the fields of a query, and there are fewer than 2^32 living documents
abbrev pub may_rank : Query → List Opened → Bool
may_rank query os = list_all (λ (o : Opened). has_fields (length o.index.readers) query) os && nat_lt (total_living (map open_segment os)) (2 ^ 32)

-- the segments that are ranked: all, or none if they can't be
abbrev pub rankable : Query → List Opened → List Opened
rankable query os = if may_rank query os then os else []

-- the number of the first of some totals that is of a field; none without one
abbrev pub total_of : List FieldTotal → ℕ → ℕ
total_of [] field = 0
total_of (t ∷ ts) field = if t.field == field then t.num_tokens else total_of ts field

-- the same of the totals that were counted for a query
abbrev pub totals_of : FieldTotals → ℕ → ℕ
totals_of t field = total_of t.totals.items field

-- whether one of some totals is of a field
abbrev pub has_total : List FieldTotal → ℕ → Bool
has_total ts field = list_any (λ (t : FieldTotal). t.field == field) ts

-- A total is exact.
pub record IsTotal (os : List Opened) (t : FieldTotal) : Type 0 where
  pub known : knows_tokens os t.field ≡ true
  pub counted : t.num_tokens ≡ tokens_in_all os t.field
