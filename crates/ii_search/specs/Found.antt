-- The documents of a query in an index.
use Rattle.std.specs.Prelude.{◌≡◌, ℕ, List, [], ◌∷◌, Option, None, Some, Result, Ok, Err, filter, length, map, min, slice_get}
use Rattle.ii_io.specs.declared.faults.Fault.{Fault}
use Rattle.ii_io.specs.declared.faults.Fault.TheVariants.{OutOfMemory}
use Rattle.ii_io.specs.declared.faults.Part.{Part}
use Rattle.ii_base.specs.declared.schema.index_record_option.IndexRecordOption.{IndexRecordOption}
use Rattle.ii_base.specs.declared.schema.index_record_option.IndexRecordOption.TheVariants.{Basic, WithFreqsAndPositions}
use Rattle.ii_base.specs.Terms.{TermState}
use Rattle.ii_base.specs.declared.doc_id.TheConstants.{TERMINATED}
use Rattle.ii_docset.specs.Cursor.{IsAscending}
use Rattle.ii_base.specs.Entries.{Entry}
use Rattle.ii_docset.specs.Intersection.{has_doc}
use Rattle.ii_query.specs.Combined.{QueryCursorState, all_from, intersection_of, union_of, without}
use Rattle.ii_query.specs.Phrase.{PhrasePartState}
use Rattle.ii_query.specs.SloppyPhrase.{sloppy_docs}
use Rattle.ii_termdict.specs.Dictionary.{entry_keys, info_under}
use Rattle.ii_termstore.specs.declared.term_info.TermInfo.{TermInfo}
use Rattle.ii_definitions.specs.Tokens.{IndexToken}
use Rattle.ii_reader.specs.InvertedIndexReader.{InvertedIndexReaderState, term_of_file}
use Rattle.ii_reader.specs.OpenIndex.{OpenIndexState, all_or_first}
use Rattle.ii_query_parser.specs.declared.phrase_prefix.PhrasePrefix.{PhrasePrefix}
use Rattle.ii_query_parser.specs.declared.query.PhraseTerm.{PhraseTerm}
use Rattle.ii_query_parser.specs.declared.query.Query.{Query}
use Rattle.ii_query_parser.specs.declared.term_range.TermRange.{TermRange}
use Rattle.ii_query_parser.specs.Ranges.{in_range}
use Rattle.ii_query_parser.specs.Queries as queries
use Rattle.ii_query_parser.specs.Queries.{QueryTree, QueryTrees, matches, others_with, tree_of}

-- the documents of a term, given its term info, or the first corrupt part; none if the term is absent
abbrev pub docs_kept : IndexRecordOption → InvertedIndexReaderState → Option TermInfo → Result (List Entry) Part
docs_kept requested reader None = Ok []
docs_kept requested reader (Some info) = term_of_file reader requested info

-- the documents of a key in a field
abbrev pub docs_under : IndexRecordOption → List ℕ → Option InvertedIndexReaderState → Result (List Entry) Part
docs_under requested key None = Ok []
docs_under requested key (Some reader) = docs_kept requested reader (info_under key reader.terms)

-- the documents of a term, as far as they are requested
abbrev pub docs_of_term : IndexRecordOption → OpenIndexState → TermState → Result (List Entry) Part
docs_of_term requested index term = docs_under requested term.value (slice_get index.readers term.field)

-- the keys of a field in a range
abbrev pub keys_in : TermRange → Option InvertedIndexReaderState → List (List ℕ)
keys_in range None = []
keys_in range (Some reader) = filter (in_range range) (entry_keys reader.terms)

-- the documents of each term in a range, or the first corrupt part
abbrev pub range_lists : TermRange → Option InvertedIndexReaderState → Result (List (List Entry)) Part
range_lists range reader = all_or_first (map (λ (key : List ℕ). docs_under Basic key reader) (keys_in range reader))

-- one more term of a phrase, or the first corrupt part
abbrev pub with_part : ℕ → Result (List Entry) Part → Result (List PhrasePartState) Part → Result (List PhrasePartState) Part
with_part distance (Err part) others = Err part
with_part distance (Ok es) (Err part) = Err part
with_part distance (Ok es) (Ok others) = Ok (record { distance = distance; rest = es } ∷ others)

-- the documents of the other terms of a phrase, with their positions
abbrev pub phrase_parts_of : OpenIndexState → List PhraseTerm → Result (List PhrasePartState) Part
phrase_parts_of index [] = Ok []
phrase_parts_of index (o ∷ os) = with_part o.distance (docs_of_term WithFreqsAndPositions index o.term) (phrase_parts_of index os)

-- the documents of a phrase within a slop, or the first corrupt part
abbrev pub phrase_of : ℕ → Result (List Entry) Part → Result (List PhrasePartState) Part → Result (List Entry) Part
phrase_of slop (Err part) others = Err part
phrase_of slop (Ok es) (Err part) = Err part
phrase_of slop (Ok es) (Ok others) = Ok (sloppy_docs slop es others)

-- the documents of a phrase whose last term has a key, or the first corrupt part
abbrev pub phrase_with : OpenIndexState → PhrasePrefix → List ℕ → Result (List Entry) Part
phrase_with index p key = phrase_of 0 (docs_of_term WithFreqsAndPositions index p.first) (phrase_parts_of index (others_with p key))

-- the documents of each phrase with a term of the range as its last one, or the first corrupt part
abbrev pub phrase_prefix_lists : OpenIndexState → PhrasePrefix → Result (List (List Entry)) Part
phrase_prefix_lists index p = all_or_first (map (phrase_with index p) (keys_in p.last (slice_get index.readers p.last.prefix.field)))

-- two lists combined, or the first corrupt part
abbrev pub combined : (List Entry → List Entry → List Entry) → Result (List Entry) Part → Result (List Entry) Part → Result (List Entry) Part
combined by (Err part) other = Err part
combined by (Ok es) (Err part) = Err part
combined by (Ok es) (Ok fs) = Ok (by es fs)

-- one more list, or the first corrupt part
abbrev pub with_list : Result (List Entry) Part → Result (List (List Entry)) Part → Result (List (List Entry)) Part
with_list (Err part) others = Err part
with_list (Ok es) (Err part) = Err part
with_list (Ok es) (Ok others) = Ok (es ∷ others)

-- lists combined, or the corrupt part
abbrev pub combined_lists : (List (List Entry) → List Entry) → Result (List (List Entry)) Part → Result (List Entry) Part
combined_lists by (Err part) = Err part
combined_lists by (Ok lists) = Ok (by lists)

-- The documents of a query over the postings of an index, or the first corrupt part, in the order of the query.
abbrev mutual
  pub tree_found : OpenIndexState → QueryTree → Result (List Entry) Part
  tree_found index queries.nothing = Ok []
  tree_found index (queries.all_below n) = Ok (all_from 0 (min n TERMINATED))
  tree_found index (queries.one_term term) = docs_of_term Basic index term
  tree_found index (queries.one_phrase first others slop) = phrase_of slop (docs_of_term WithFreqsAndPositions index first) (phrase_parts_of index others)
  tree_found index (queries.one_phrase_prefix phrase) = combined_lists union_of (phrase_prefix_lists index phrase)
  tree_found index (queries.one_range range) = combined_lists union_of (range_lists range (slice_get index.readers range.prefix.field))
  tree_found index (queries.each_of qs) = combined_lists intersection_of (lists_found index qs)
  tree_found index (queries.any_of qs) = combined_lists union_of (lists_found index qs)
  tree_found index (queries.without first other) = combined without (tree_found index first) (tree_found index other)

  pub lists_found : OpenIndexState → QueryTrees → Result (List (List Entry)) Part
  lists_found index queries.no_tree = Ok []
  lists_found index (queries.tree q qs) = with_list (tree_found index q) (lists_found index qs)

-- the documents of a program's query
abbrev pub found_in : OpenIndexState → Query → Result (List Entry) Part
found_in index query = tree_found index (tree_of query)

-- Entries are of exactly the documents that match a query, in ascending order.
pub record AreMatches (query : Query) (ts : List IndexToken) (es : List Entry) : Type 0 where
  pub ascending : IsAscending es
  pub exact : (doc : ℕ) → has_doc es doc ≡ matches query ts doc

-- A cursor has exactly the documents that match; it fails only with OutOfMemory.
abbrev pub GivesMatches : {T : Type 0} → Query → List IndexToken → Result (QueryCursorState T) Fault → Type 0
GivesMatches query ts (Ok cursor) = AreMatches query ts cursor.rest
GivesMatches query ts (Err fault) = fault ≡ OutOfMemory

-- A number is that of the documents that match; it fails only with OutOfMemory.
abbrev pub GivesCount : Query → List IndexToken → Result ℕ Fault → Type 0
GivesCount query ts (Ok n) = (es : List Entry) → AreMatches query ts es → n ≡ length es
GivesCount query ts (Err fault) = fault ≡ OutOfMemory
