-- What is printed of what the scores of the best documents are made of.
use Rattle.std.specs.Prelude.{◌≡◌, ℕ, Bool, List, Some, map}
use Rattle.std.specs.List.{AllZip}
use Rattle.ii_base.specs.Schema.{SchemaEntry}
use Rattle.ii_bm25.specs.Statistics.{Statistics}
use Rattle.ii_explanation.specs.Explanations.{AreSharesAt}
use Rattle.ii_query_parser.specs.declared.query.Query.{Query}
use Rattle.ii_query_parser.specs.Queries.{tree_of}
use Rattle.ii_ranking.specs.Shares.{ShareState, total}
use Rattle.ii_segment_search.specs.Searcher.{OpenSegmentState}
use Rattle.nequllpa_searching.specs.OpenedNumbers.{open_segment, opened_statistics}
use Rattle.nequllpa_searching.specs.ShareTexts.{shares_text}
use Rattle.nequllpa_opening.specs.declared.opened.Opened.{Opened}

-- A text explains the score of a document: it prints the document's shares, and these add up to the score.
pub record IsExplained (statistics : Statistics) (query : Query) (segments : List OpenSegmentState) (is_json : Bool) (entries : List SchemaEntry) (best : ℕ × ℕ) (text : List ℕ) : Type 0 where
  pub shares : List ShareState
  pub are : AreSharesAt statistics (tree_of query) segments best.1 shares
  pub sum : total shares ≡ Some best.0
  pub prints : text ≡ shares_text is_json entries shares

-- Texts explain the scores of documents of open segments, by the exact numbers of these, one by one.
abbrev pub AreExplained : List Opened → Query → Bool → List SchemaEntry → List (ℕ × ℕ) → List (List ℕ) → Type 0
AreExplained os query is_json entries best texts = AllZip (IsExplained (opened_statistics os) query (map open_segment os) is_json entries) best texts
