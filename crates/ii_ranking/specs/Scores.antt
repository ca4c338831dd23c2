-- What a document scores by a query: BM25 for terms and phrases, the sum of what matches else.
use Rattle.std.specs.Prelude.{◌≡◌, ◌⊎◌, ℕ, ◌^◌, ◌==◌, ◌<◌, Bool, ◌&&◌, List, [], ◌∷◌, Option, None, Some, Result, Ok, Err, if◌then◌else◌, filter, length, map, min, nat_le, nat_lt, slice_index_or, unwrap_or}
use Rattle.std.specs.List.{find, list_any}
use Rattle.std.specs.Option.{option_map}
use Rattle.ii_io.specs.declared.faults.Fault.{Fault}
use Rattle.ii_io.specs.declared.faults.Fault.TheVariants.{Damaged, OutOfMemory}
use Rattle.ii_io.specs.declared.faults.Part.{Part}
use Rattle.ii_io.specs.declared.faults.Part.TheVariants.{FieldNorms}
use Rattle.ii_io.specs.Composite.{body_of}
use Rattle.ii_base.specs.Entries.{Entry}
use Rattle.ii_base.specs.Schema.{SchemaEntry}
use Rattle.ii_base.specs.Terms.{TermState}
use Rattle.ii_base.specs.declared.doc_id.TheConstants.{TERMINATED}
use Rattle.ii_base.specs.declared.schema.index_record_option.IndexRecordOption.{IndexRecordOption}
use Rattle.ii_base.specs.declared.schema.index_record_option.IndexRecordOption.TheVariants.{WithFreqs, WithFreqsAndPositions}
use Rattle.ii_docset.specs.Cursor.{doc_at, from_doc}
use Rattle.ii_docset.specs.Intersection.{has_doc}
use Rattle.ii_fieldnorm.specs.Norms.{id_of_norm}
use Rattle.ii_bm25.specs.Bm25.{bm25_score, bm25_weight}
use Rattle.ii_bm25.specs.Statistics.{Statistics, idfs_of}
use Rattle.ii_bm25.specs.declared.bm25.TheConstants.{SCORE_ONE}
use Rattle.ii_query.specs.Phrase.{PhrasePartState}
use Rattle.ii_query.specs.SloppyPhrase.{stand_near}
use Rattle.ii_definitions.specs.Fields.{option_of}
use Rattle.ii_definitions.specs.Norms.{has_norms}
use Rattle.ii_definitions.specs.Postings.{doc_count, key_postings}
use Rattle.ii_definitions.specs.Tokens.{IndexToken}
use Rattle.ii_query_parser.specs.declared.phrase_prefix.PhrasePrefix.{PhrasePrefix}
use Rattle.ii_query_parser.specs.declared.query.PhraseTerm.{PhraseTerm}
use Rattle.ii_query_parser.specs.declared.query.Query.{Query}
use Rattle.ii_query_parser.specs.declared.term_range.TermRange.{TermRange}
use Rattle.ii_query_parser.specs.Queries as queries
use Rattle.ii_query_parser.specs.Queries.{QueryTree, QueryTrees, has_phrase_prefix, is_token_in, others_with, phrase_has_positions, tree_of}
use Rattle.ii_reader.specs.OpenIndex.{OpenIndexState}
use Rattle.ii_search.specs.Found.{docs_of_term, tree_found}
use Rattle.ii_scorer.specs.Combinations.{any_of, each_of, unless}

-- What scores are made of: the numbers of an index, the entries of each term, whether a document has a phrase whose last term is one of a range, or a term in a range, and the norm id of each document in a field.
pub record Scored : Type 0 where
  pub statistics : Statistics
  pub entries : IndexRecordOption → TermState → List Entry
  pub has_phrase_in : PhrasePrefix → ℕ → Bool
  pub has_in : TermRange → ℕ → Bool
  pub norm_id : ℕ → ℕ → ℕ

-- the entry of a document
abbrev pub entry_at : List Entry → ℕ → Option Entry
entry_at es doc = find (λ (e : Entry). e.doc == doc) es

-- what a document scores in a field, in which terms, or the phrase of these, occur so many times
abbrev pub score_by : Scored → List TermState → ℕ → ℕ → ℕ → ℕ
score_by s terms field doc count = bm25_score (bm25_weight (idfs_of s.statistics terms) s.statistics.num_docs (s.statistics.num_tokens field)) (s.norm_id field doc) count

-- what a document scores by a term
abbrev pub term_score : Scored → TermState → ℕ → Option ℕ
term_score s term doc = option_map (λ (e : Entry). score_by s (term ∷ []) term.field doc e.term_freq) (entry_at (s.entries WithFreqs term) doc)

-- the other terms of a phrase
abbrev pub parts_of : Scored → List PhraseTerm → List PhrasePartState
parts_of s others = map (λ (o : PhraseTerm). record { distance = o.distance; rest = s.entries WithFreqsAndPositions o.term }) others

-- how many times a phrase within a slop begins in a document
abbrev pub num_starts : ℕ → List PhrasePartState → Entry → ℕ
num_starts slop parts e = length (filter (stand_near slop parts e.doc) e.positions)

-- how many times a phrase within a slop begins in a document of its first term
abbrev pub phrase_count : ℕ → List Entry → List PhrasePartState → ℕ → ℕ
phrase_count slop es parts doc = unwrap_or (option_map (num_starts slop parts) (entry_at es doc)) 0

-- the score of a count, if something occurs
abbrev pub if_occurs : (ℕ → ℕ) → ℕ → Option ℕ
if_occurs score_of count = if count == 0 then None else Some (score_of count)

-- what a document scores by a phrase within a slop
abbrev pub phrase_score : Scored → TermState → List PhraseTerm → ℕ → ℕ → Option ℕ
phrase_score s first others slop doc =
    if_occurs (score_by s (first ∷ map (λ (o : PhraseTerm). o.term) others) first.field doc) (phrase_count slop (s.entries WithFreqsAndPositions first) (parts_of s others) doc)

-- What a document scores by a query.
abbrev mutual
  pub tree_score : Scored → QueryTree → ℕ → Option ℕ
  tree_score s queries.nothing doc = None
  tree_score s (queries.all_below n) doc = if nat_lt doc (min n TERMINATED) then Some SCORE_ONE else None
  tree_score s (queries.one_term term) doc = term_score s term doc
  tree_score s (queries.one_phrase first others slop) doc = phrase_score s first others slop doc
  tree_score s (queries.one_phrase_prefix phrase) doc = if s.has_phrase_in phrase doc then Some SCORE_ONE else None
  tree_score s (queries.one_range range) doc = if s.has_in range doc then Some SCORE_ONE else None
  tree_score s (queries.each_of qs) doc = each_of (tree_scores s qs doc)
  tree_score s (queries.any_of qs) doc = any_of (tree_scores s qs doc)
  tree_score s (queries.without first other) doc = unless (tree_score s first doc) (tree_score s other doc)

  pub tree_scores : Scored → QueryTrees → ℕ → List (Option ℕ)
  tree_scores s queries.no_tree doc = []
  tree_scores s (queries.tree q qs) doc = tree_score s q doc ∷ tree_scores s qs doc

-- what a document scores by a program's query
abbrev pub query_score : Scored → Query → ℕ → Option ℕ
query_score s query doc = tree_score s (tree_of query) doc

-- the list that opens, else none
abbrev pub opened_or_none : Result (List Entry) Part → List Entry
opened_or_none (Ok es) = es
opened_or_none (Err part) = []

-- the norm id of a document, that of the norm 1 where a field has none for it
abbrev pub norm_id_in : Option (List ℕ) → ℕ → ℕ
norm_id_in None doc = 1
norm_id_in (Some ids) doc = slice_index_or ids doc 1

-- what scores are made of in an open index
abbrev pub scored_in : OpenIndexState → Statistics → Scored
scored_in index statistics = record {
  statistics = statistics;
  entries = λ requested term. opened_or_none (docs_of_term requested index term);
  has_phrase_in = λ phrase doc. has_doc (opened_or_none (tree_found index (queries.one_phrase_prefix phrase))) doc;
  has_in = λ range doc. has_doc (opened_or_none (tree_found index (queries.one_range range))) doc;
  norm_id = λ field doc. norm_id_in (body_of field index.fieldnorms) doc;
}

-- what they are made of by the tokens of an index; phrases are found in fields with positions
abbrev pub scored_by_tokens : List SchemaEntry → List IndexToken → Statistics → Scored
scored_by_tokens entries ts statistics = record {
  statistics = statistics;
  entries = λ requested term. key_postings (option_of entries term.field) term.field term.value requested ts;
  has_phrase_in = λ phrase doc. phrase_has_positions entries phrase.first (others_with phrase phrase.last.prefix.value) && has_phrase_prefix phrase ts doc;
  has_in = λ range doc. list_any (is_token_in range doc) ts;
  norm_id = λ field doc. if has_norms entries field then id_of_norm (doc_count doc field ts) else 1;
}

-- the damage of a list, if it has one
abbrev pub damage_of : Result (List Entry) Part → Option Part
damage_of (Ok es) = None
damage_of (Err part) = Some part

-- the first of two damages
abbrev pub first_of : Option Part → Option Part → Option Part
first_of None other = other
first_of (Some part) other = Some part

-- the damage of a field's norms: no field has so many
abbrev pub norms_damage : Option (List ℕ) → Option Part
norms_damage None = None
norms_damage (Some ids) = if nat_le (2 ^ 32) (length ids) then Some FieldNorms else None

-- the first damage of what the scores of a term need: its list, then its field's norms
abbrev pub term_damage : OpenIndexState → TermState → Option Part
term_damage index term = first_of (damage_of (docs_of_term WithFreqs index term)) (norms_damage (body_of term.field index.fieldnorms))

-- the first damage of the other terms of a phrase
abbrev pub parts_damage : OpenIndexState → List PhraseTerm → Option Part
parts_damage index [] = None
parts_damage index (o ∷ os) = first_of (damage_of (docs_of_term WithFreqsAndPositions index o.term)) (parts_damage index os)

-- the first damage of what the scores of a phrase need: its lists, then its field's norms
abbrev pub phrase_damage : OpenIndexState → TermState → List PhraseTerm → Option Part
phrase_damage index first others =
    first_of (damage_of (docs_of_term WithFreqsAndPositions index first)) (first_of (parts_damage index others) (norms_damage (body_of first.field index.fieldnorms)))

-- The first damage of what the scores of a query need, in its order.
abbrev mutual
  pub tree_damage : OpenIndexState → QueryTree → Option Part
  tree_damage index queries.nothing = None
  tree_damage index (queries.all_below n) = None
  tree_damage index (queries.one_term term) = term_damage index term
  tree_damage index (queries.one_phrase first others slop) = phrase_damage index first others
  tree_damage index (queries.one_phrase_prefix phrase) = damage_of (tree_found index (queries.one_phrase_prefix phrase))
  tree_damage index (queries.one_range range) = damage_of (tree_found index (queries.one_range range))
  tree_damage index (queries.each_of qs) = trees_damage index qs
  tree_damage index (queries.any_of qs) = trees_damage index qs
  tree_damage index (queries.without first other) = first_of (tree_damage index first) (tree_damage index other)

  pub trees_damage : OpenIndexState → QueryTrees → Option Part
  trees_damage index queries.no_tree = None
  trees_damage index (queries.tree q qs) = first_of (tree_damage index q) (trees_damage index qs)

-- the first damage of what the scores of a program's query need
abbrev pub query_damage : OpenIndexState → Query → Option Part
query_damage index query = tree_damage index (tree_of query)

-- Why there are no scores: an allocation failure, or the first damage.
abbrev pub IsScoreFault : Option Part → Fault → Type 0
IsScoreFault damage fault = (fault ≡ OutOfMemory) ⊎ ((part : Part) × (fault ≡ Damaged part) × (damage ≡ Some part))

-- A cursor dropped the documents below this one, which is now its current document.
pub record IsAt (doc : ℕ) (old new : List Entry) : Type 0 where
  pub below : doc < TERMINATED
  pub current : doc_at new ≡ doc
  pub rest : new ≡ from_doc doc old
