-- The numbers that scores need, of segments that have what a query reads of other ones.
use Rattle.std.specs.Prelude.{◌≡◌, List}
use Rattle.std.specs.List.{AllByRecursion, AllZip}
use Rattle.ii_base.specs.Terms.{TermState}
use Rattle.ii_query_parser.specs.declared.query.Query.{Query}
use Rattle.ii_segment_search.specs.Searcher.{OpenSegmentState, total_living}
use Rattle.ii_statistics.specs.Statistics.{doc_freq_in, query_terms}
use Rattle.ii_warmup.specs.Parts.{IsPartFor}

-- Each segment has what a query reads of another one, and the same documents are alive.
abbrev pub ArePartSegments : Query → List OpenSegmentState → List OpenSegmentState → Type 0
ArePartSegments query parts whole = AllZip (λ (p w : OpenSegmentState). IsPartFor query p.index w.index × (p.alive ≡ w.alive)) parts whole

-- As many documents are alive, and as many of them have each term of the query.
abbrev pub PartsCountTheSame : Type 0
PartsCountTheSame = (query : Query) (parts whole : List OpenSegmentState) → ArePartSegments query parts whole
    → (total_living parts ≡ total_living whole) × AllByRecursion (λ (t : TermState). doc_freq_in parts t ≡ doc_freq_in whole t) (query_terms query)
