-- The documents that open segments list for a query.
use Rattle.std.specs.Prelude.{◌≡◌, ℕ, ◌<◌, Bool, List, Result, Ok, length}
use Rattle.std.specs.List.{AllByRecursion}
use Rattle.ii_io.specs.declared.faults.Part.{Part}
use Rattle.ii_base.specs.Entries.{Entry}
use Rattle.ii_base.specs.Terms.{TermState}
use Rattle.ii_docset.specs.Alive.{alive_in}
use Rattle.ii_docset.specs.Cursor.{IsAscending}
use Rattle.ii_query_parser.specs.declared.query.Query.{Query}
use Rattle.ii_query_parser.specs.declared.query.Query.TheVariants.{Term}
use Rattle.ii_search.specs.Found.{found_in}
use Rattle.ii_segment_search.specs.Searcher.{OpenSegmentState}

-- A field is one of each segment.
abbrev pub HaveField : List OpenSegmentState → ℕ → Type 0
HaveField segments field = AllByRecursion (λ (s : OpenSegmentState). field < length s.index.readers) segments

-- A number is that of the living documents of a list, which opens.
pub record CountsLiving (found : Result (List Entry) Part) (alive : List Bool) (n : ℕ) : Type 0 where
  pub es : List Entry
  pub opens : found ≡ Ok es
  pub ascending : IsAscending es
  pub many : n ≡ alive_in alive es

-- A segment lists the documents of a query, in ascending order.
pub record IsListed (query : Query) (s : OpenSegmentState) : Type 0 where
  pub es : List Entry
  pub found : found_in s.index query ≡ Ok es
  pub ascending : IsAscending es

-- Each segment lists the documents of a term.
abbrev pub IsListedInEach : List OpenSegmentState → TermState → Type 0
IsListedInEach segments term = AllByRecursion (IsListed (Term term)) segments
