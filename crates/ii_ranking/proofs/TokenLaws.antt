-- The scores of an index that holds tokens are those of the tokens.
use Rattle.std.proofs.Common.{◌≡◌, ◌∙◌, ℕ, ◌<◌, ◌^◌, ◌≤◌, inl, inr, Bool, true, false, List, [], ◌∷◌, Option, None, Some, IfErr, IfOk, Result, Ok, Err, Vec, Global, if◌then◌else◌, length, map, nat_lt, refl, sym, ap, subst, arith}
use Rattle.std.specs.Prelude.{IsSomeAnd, MatchOption, slice_get}
use Rattle.std.specs.List.{list_all, list_any, range_with_len}
use Rattle.std.specs.Option.{option_map}
use Rattle.std.proofs.lemmas.Bool.{and_parts, lt-leb, lt-ltb, ltb-true}
use Rattle.std.proofs.lemmas.List.{same_lists}
use Rattle.std.proofs.lemmas.List.FromFn.{get_or-map-range_with_len, length-map-range_with_len}
use Rattle.ii_io.specs.declared.faults.Fault.{Fault}
use Rattle.ii_io.specs.declared.faults.Fault.TheVariants.{OutOfMemory}
use Rattle.ii_io.specs.declared.faults.Part.{Part}
use Rattle.ii_io.specs.Composite.{body_of}
use Rattle.ii_io.specs.Faults.{OnlyMemory}
use Rattle.ii_base.specs.Entries.{Entry}
use Rattle.ii_base.specs.Schema.{SchemaEntry}
use Rattle.ii_base.specs.Terms.{TermState}
use Rattle.ii_base.specs.declared.schema.index_record_option.IndexRecordOption.{IndexRecordOption}
use Rattle.ii_base.specs.declared.schema.index_record_option.IndexRecordOption.TheVariants.{WithFreqs, WithFreqsAndPositions}
use Rattle.ii_bm25.specs.Bm25.{bm25_score, bm25_weight}
use Rattle.ii_bm25.specs.Statistics.{Statistics, idfs_of}
use Rattle.ii_bm25.specs.declared.bm25.TheConstants.{SCORE_ONE}
use Rattle.ii_docset.specs.Intersection.{has_doc}
use Rattle.ii_fieldnorm.specs.Norms.{id_of_norm}
use Rattle.ii_termstore.specs.declared.term_info.TermInfo.{TermInfo}
use Rattle.ii_termdict.specs.Dictionary.{info_under}
use Rattle.ii_query.specs.Phrase.{PhrasePartState}
use Rattle.ii_definitions.specs.Fields.{option_of}
use Rattle.ii_definitions.specs.Files.{HoldsTerm}
use Rattle.ii_definitions.specs.Norms.{has_norms, norm_ids}
use Rattle.ii_definitions.specs.Postings.{doc_count, key_postings, occurs, postings_from}
use Rattle.ii_definitions.specs.Tokens.{IndexToken}
use Rattle.ii_definitions.proofs.GroupedLaws.{none_occurs}
use Rattle.ii_reader.specs.InvertedIndexReader.{InvertedIndexReaderState}
use Rattle.ii_reader.specs.OpenIndex.{FieldReaderHolds, IndexHolds, OpenIndexState}
use Rattle.ii_reader.proofs.ReaderLemmas.{list_held}
use Rattle.ii_query_parser.specs.declared.phrase_prefix.PhrasePrefix.{PhrasePrefix}
use Rattle.ii_query_parser.specs.declared.query.PhraseTerm.{PhraseTerm}
use Rattle.ii_query_parser.specs.declared.query.Query.{Query}
use Rattle.ii_query_parser.specs.declared.query.Query.TheVariants.{Range}
use Rattle.ii_query_parser.specs.declared.term_range.TermRange.{TermRange}
use Rattle.ii_query_parser.specs.Queries as queries
use Rattle.ii_query_parser.specs.Queries.{QueryTree, QueryTrees, has_fields, hold_for_all, holds_for_all, is_token_in, is_within, others_with, phrase_is_within, tree_of}
use Rattle.ii_query_parser.proofs.QueryLemmas.{range_fields, range_matches, range_positions, range_tree}
use Rattle.ii_search.specs.Found.{docs_kept, docs_of_term, docs_under, tree_found}
use Rattle.ii_search.proofs.FoundLemmas.{gives_matches, phrase_prefix_given}
use Rattle.ii_scorer.specs.Combinations.{any_of, each_of, unless}
use Rattle.ii_ranking.specs.Scores.{IsScoreFault, Scored, damage_of, entry_at, first_of, if_occurs, norm_id_in, norms_damage, opened_or_none, parts_damage, parts_of, phrase_count, phrase_score, query_damage, query_score, scored_by_tokens, scored_in, term_score, tree_damage, tree_score, tree_scores, trees_damage}
use Rattle.ii_ranking.specs.TokenScores.{GivesBest, GivesScores, ScoresAreOfTokens, token_score}
use Rattle.ii_scorer.specs.TopDocs.{AreBest, scored_docs}
use Rattle.ii_scorer.specs.declared.top_docs.TopDocs.{TopDocs}
use Rattle.ii_scorer.proofs.TopLemmas.{scored_alike}

-- Scores of documents below a number are made of the same, for terms of the first n fields.
pub record AreAlike (n num_docs : ℕ) (a b : Scored) : Type 0 where
  pub statistics : a.statistics ≡ b.statistics
  pub entries : (requested : IndexRecordOption) (term : TermState) → term.field < n → a.entries requested term ≡ b.entries requested term
  pub has_phrase_in : (phrase : PhrasePrefix) (doc : ℕ) → phrase_is_within n phrase.first (others_with phrase phrase.last.prefix.value) ≡ true → a.has_phrase_in phrase doc ≡ b.has_phrase_in phrase doc
  pub has_in : (range : TermRange) (doc : ℕ) → range.prefix.field < n → a.has_in range doc ≡ b.has_in range doc
  pub norm_id : (field doc : ℕ) → doc < num_docs → a.norm_id field doc ≡ b.norm_id field doc

-- what a count scores, given the numbers of an index and the norm id of the document
abbrev score_with : Statistics → List TermState → ℕ → ℕ → ℕ → ℕ
score_with s terms field id count = bm25_score (bm25_weight (idfs_of s terms) s.num_docs (s.num_tokens field)) id count

module _ (n num_docs : ℕ) (a b : Scored) (alike : AreAlike n num_docs a b) (doc : ℕ) (below : doc < num_docs) where
  same_term : (term : TermState) → term.field < n → term_score a term doc ≡ term_score b term doc
  same_term term field = λ j. option_map (λ (e : Entry). score_with (alike.statistics j) (term ∷ []) term.field (alike.norm_id term.field doc below j) e.term_freq) (entry_at (alike.entries WithFreqs term field j) doc)

  pub same_parts : (others : List PhraseTerm) → list_all (λ (o : PhraseTerm). nat_lt o.term.field n) others ≡ true → parts_of a others ≡ parts_of b others
  same_parts [] fields = refl
  same_parts (o ∷ os) fields =
      let h = and_parts (nat_lt o.term.field n) (list_all (λ (p : PhraseTerm). nat_lt p.term.field n) os) fields in
      let first : a.entries WithFreqsAndPositions o.term ≡ b.entries WithFreqsAndPositions o.term = alike.entries WithFreqsAndPositions o.term (ltb-true o.term.field n h.0) in
      λ j. part o (first j) ∷ same_parts os h.1 j
    where
      part : PhraseTerm → List Entry → PhrasePartState
      part o es = record { distance = o.distance; rest = es }

  same_phrase : (first : TermState) (others : List PhraseTerm) (slop : ℕ) → phrase_is_within n first others ≡ true → phrase_score a first others slop doc ≡ phrase_score b first others slop doc
  same_phrase first others slop fields =
      let h = and_parts (nat_lt first.field n) (list_all (λ (o : PhraseTerm). nat_lt o.term.field n) others) fields in
      let field = ltb-true first.field n h.0 in
      let parts = same_parts others h.1 in
      λ j. if_occurs (score_with (alike.statistics j) (first ∷ map (λ (o : PhraseTerm). o.term) others) first.field (alike.norm_id first.field doc below j)) (phrase_count slop (alike.entries WithFreqsAndPositions first field j) (parts j) doc)

  mutual
    same_tree : (q : QueryTree) → holds_for_all (is_within n) (phrase_is_within n) q ≡ true → tree_score a q doc ≡ tree_score b q doc
    same_tree queries.nothing fields = refl
    same_tree (queries.all_below m) fields = refl
    same_tree (queries.one_term term) fields = same_term term (ltb-true term.field n fields)
    same_tree (queries.one_phrase first others slop) fields = same_phrase first others slop fields
    same_tree (queries.one_phrase_prefix phrase) fields = ap (λ (has : Bool). if has then Some SCORE_ONE else None) (alike.has_phrase_in phrase doc fields)
    same_tree (queries.one_range range) fields = ap (λ (has : Bool). if has then Some SCORE_ONE else None) (alike.has_in range doc (ltb-true range.prefix.field n fields))
    same_tree (queries.each_of qs) fields = ap each_of (same_trees qs fields)
    same_tree (queries.any_of qs) fields = ap any_of (same_trees qs fields)
    same_tree (queries.without first other) fields =
        let h = and_parts (holds_for_all (is_within n) (phrase_is_within n) first) (holds_for_all (is_within n) (phrase_is_within n) other) fields in
        λ j. unless (same_tree first h.0 j) (same_tree other h.1 j)

    same_trees : (qs : QueryTrees) → hold_for_all (is_within n) (phrase_is_within n) qs ≡ true → tree_scores a qs doc ≡ tree_scores b qs doc
    same_trees queries.no_tree fields = refl
    same_trees (queries.tree q qs) fields =
        let h = and_parts (holds_for_all (is_within n) (phrase_is_within n) q) (hold_for_all (is_within n) (phrase_is_within n) qs) fields in
        λ j. same_tree q h.0 j ∷ same_trees qs h.1 j

-- the list of a key
kept_list : (requested : IndexRecordOption) (reader : InvertedIndexReaderState) (field : ℕ) (key : List ℕ) (ts : List IndexToken) (kept : Option TermInfo)
    → MatchOption kept (occurs field key ts ≡ false) (HoldsTerm reader.option field key reader.postings reader.positions ts)
    → docs_kept requested reader kept ≡ Ok (key_postings reader.option field key requested ts)
kept_list requested reader field key ts None none = ap (λ (us : List IndexToken). Ok (postings_from reader.option requested us)) (sym (none_occurs field key ts none))
kept_list requested reader field key ts (Some info) holds = list_held reader field key requested ts info holds

under_list : (schema : List SchemaEntry) (requested : IndexRecordOption) (term : TermState) (ts : List IndexToken) (reader : Option InvertedIndexReaderState)
    → IsSomeAnd reader (λ r. FieldReaderHolds schema term.field r ts) → docs_under requested term.value reader ≡ Ok (key_postings (option_of schema term.field) term.field term.value requested ts)
under_list schema requested term ts None h = absurd h
under_list schema requested term ts (Some r) h =
    kept_list requested r term.field term.value ts (info_under term.value r.terms) (h.holds.exact term.value)
    ∙ ap (λ (option : IndexRecordOption). Ok (key_postings option term.field term.value requested ts)) h.option_is

module _ (schema : List SchemaEntry) (num_docs : ℕ) (index : OpenIndexState) (ts : List IndexToken) (holds : IndexHolds schema num_docs index ts) where
  -- the list of a term is that of its tokens
  pub held_list : (requested : IndexRecordOption) (term : TermState) → term.field < length schema → docs_of_term requested index term ≡ Ok (key_postings (option_of schema term.field) term.field term.value requested ts)
  held_list requested term field = under_list schema requested term ts (slice_get index.readers term.field) (holds.readers term.field field)

  -- A range is found, exactly the documents with a token in it.
  record FindsRange (range : TermRange) : Type 0 where
    es : List Entry
    found : tree_found index (queries.one_range range) ≡ Ok es
    exact : (doc : ℕ) → has_doc es doc ≡ list_any (is_token_in range doc) ts

  finds_range : (range : TermRange) → range.prefix.field < length schema → FindsRange range
  finds_range range field =
      let g = gives_matches schema num_docs index ts (Range range) holds (range_fields (length schema) range ∙ lt-ltb range.prefix.field (length schema) field) (range_positions schema range) in
      record {
        es = g.es;
        found = ap (tree_found index) (sym (range_tree range)) ∙ g.is;
        exact = λ doc. g.exact doc ∙ range_matches range ts doc;
      }

  held_norm : (field doc : ℕ) → doc < num_docs → norm_id_in (body_of field index.fieldnorms) doc ≡ (if has_norms schema field then id_of_norm (doc_count doc field ts) else 1)
  held_norm field doc below = ap (λ (ids : Option (List ℕ)). norm_id_in ids doc) (holds.norms field) ∙ by (has_norms schema field)
    where
      by : (kept : Bool) → norm_id_in (if kept then Some (norm_ids num_docs field ts) else None) doc ≡ (if kept then id_of_norm (doc_count doc field ts) else 1)
      by true = get_or-map-range_with_len (λ (d : ℕ). id_of_norm (doc_count d field ts)) 0 num_docs doc doc 1 below (omega arith)
      by false = refl

  pub held_alike : (statistics : Statistics) → AreAlike (length schema) num_docs (scored_in index statistics) (scored_by_tokens schema ts statistics)
  held_alike statistics = record {
    statistics = refl;
    entries = λ requested term field. ap opened_or_none (held_list requested term field);
    has_phrase_in = λ phrase doc fields. let g = phrase_prefix_given schema num_docs index ts phrase holds fields in ap (λ (r : Result (List Entry) Part). has_doc (opened_or_none r) doc) g.is ∙ g.exact doc;
    has_in = λ range doc field. let f = finds_range range field in ap (λ (r : Result (List Entry) Part). has_doc (opened_or_none r) doc) f.found ∙ f.exact doc;
    norm_id = held_norm;
  }

  -- nothing of a query is damaged
  module _ (few : num_docs < 2 ^ 32) where
    sound_norms : (field : ℕ) → norms_damage (body_of field index.fieldnorms) ≡ None
    sound_norms field = ap norms_damage (holds.norms field) ∙ by (has_norms schema field)
      where
        by : (kept : Bool) → norms_damage (if kept then Some (norm_ids num_docs field ts) else None) ≡ None
        by true = rw (length-map-range_with_len (λ (d : ℕ). id_of_norm (doc_count d field ts)) 0 num_docs, lt-leb (2 ^ 32) num_docs few) refl
        by false = refl

    sound_term : (requested : IndexRecordOption) (term : TermState) (other : Option Part) → term.field < length schema → other ≡ None → first_of (damage_of (docs_of_term requested index term)) other ≡ None
    sound_term requested term other field none = ap (λ (r : Result (List Entry) Part). first_of (damage_of r) other) (held_list requested term field) ∙ none

    sound_parts : (others : List PhraseTerm) → list_all (λ (o : PhraseTerm). nat_lt o.term.field (length schema)) others ≡ true → parts_damage index others ≡ None
    sound_parts [] fields = refl
    sound_parts (o ∷ os) fields =
        let h = and_parts (nat_lt o.term.field (length schema)) (list_all (λ (p : PhraseTerm). nat_lt p.term.field (length schema)) os) fields in
        sound_term WithFreqsAndPositions o.term (parts_damage index os) (ltb-true o.term.field (length schema) h.0) (sound_parts os h.1)

    mutual
      sound_tree : (q : QueryTree) → holds_for_all (is_within (length schema)) (phrase_is_within (length schema)) q ≡ true → tree_damage index q ≡ None
      sound_tree queries.nothing fields = refl
      sound_tree (queries.all_below m) fields = refl
      sound_tree (queries.one_term term) fields = sound_term WithFreqs term (norms_damage (body_of term.field index.fieldnorms)) (ltb-true term.field (length schema) fields) (sound_norms term.field)
      sound_tree (queries.one_phrase first others slop) fields =
          let h = and_parts (nat_lt first.field (length schema)) (list_all (λ (o : PhraseTerm). nat_lt o.term.field (length schema)) others) fields in
          let norms = norms_damage (body_of first.field index.fieldnorms) in
          sound_term WithFreqsAndPositions first (first_of (parts_damage index others) norms) (ltb-true first.field (length schema) h.0)
          (ap (λ (d : Option Part). first_of d norms) (sound_parts others h.1) ∙ sound_norms first.field)
      sound_tree (queries.one_phrase_prefix phrase) fields = ap damage_of (phrase_prefix_given schema num_docs index ts phrase holds fields).is
      sound_tree (queries.one_range range) fields = ap damage_of (finds_range range (ltb-true range.prefix.field (length schema) fields)).found
      sound_tree (queries.each_of qs) fields = sound_trees qs fields
      sound_tree (queries.any_of qs) fields = sound_trees qs fields
      sound_tree (queries.without first other) fields =
          let h = and_parts (holds_for_all (is_within (length schema)) (phrase_is_within (length schema)) first) (holds_for_all (is_within (length schema)) (phrase_is_within (length schema)) other) fields in
          ap (λ (d : Option Part). first_of d (tree_damage index other)) (sound_tree first h.0) ∙ sound_tree other h.1

      sound_trees : (qs : QueryTrees) → hold_for_all (is_within (length schema)) (phrase_is_within (length schema)) qs ≡ true → trees_damage index qs ≡ None
      sound_trees queries.no_tree fields = refl
      sound_trees (queries.tree q qs) fields =
          let h = and_parts (holds_for_all (is_within (length schema)) (phrase_is_within (length schema)) q) (hold_for_all (is_within (length schema)) (phrase_is_within (length schema)) qs) fields in
          ap (λ (d : Option Part). first_of d (trees_damage index qs)) (sound_tree q h.0) ∙ sound_trees qs h.1

pub scores_are_of_tokens : ScoresAreOfTokens
scores_are_of_tokens schema num_docs index ts statistics query doc holds fields below =
    same_tree (length schema) num_docs (scored_in index statistics) (scored_by_tokens schema ts statistics) (held_alike schema num_docs index ts holds statistics) doc below (tree_of query) fields

-- an allocation failure is the only fault
pub memory_of_none : (damage : Option Part) (fault : Fault) → damage ≡ None → IsScoreFault damage fault → fault ≡ OutOfMemory
memory_of_none damage fault none (inl memory) = memory
memory_of_none damage fault none (inr (part, told, is)) = absurd (let both : None ≡ Some part = sym none ∙ is in cc)

pub memory_alone : (schema : List SchemaEntry) (num_docs : ℕ) (index : OpenIndexState) (ts : List IndexToken) (query : Query) (fault : Fault) → IndexHolds schema num_docs index ts → num_docs < 2 ^ 32
    → has_fields (length schema) query ≡ true → IsScoreFault (query_damage index query) fault → fault ≡ OutOfMemory
memory_alone schema num_docs index ts query fault holds few fields is = memory_of_none (query_damage index query) fault (sound_tree schema num_docs index ts holds few (tree_of query) fields) is

-- the same scores below a number
pub rows_alike : (num_docs : ℕ) (f g : ℕ → Option ℕ) → ((doc : ℕ) → doc < num_docs → f doc ≡ g doc) → map f (range_with_len 0 num_docs) ≡ map g (range_with_len 0 num_docs)
rows_alike num_docs f g same =
    let many = length-map-range_with_len f 0 num_docs in
    same_lists (map f (range_with_len 0 num_docs)) (map g (range_with_len 0 num_docs)) (many ∙ sym (length-map-range_with_len g 0 num_docs))
    (λ k d inside.
    let below : k < num_docs = omega (arith, many, inside) in
    get_or-map-range_with_len f 0 num_docs k k d below (omega arith) ∙ same k below ∙ sym (get_or-map-range_with_len g 0 num_docs k k d below (omega arith)))

module _ (schema : List SchemaEntry) (held : ℕ) (index : OpenIndexState) (ts : List IndexToken) (statistics : Statistics) (query : Query) (holds : IndexHolds schema held index ts) (fields : has_fields (length schema) query ≡ true) where
  pub gives_scores : (num_docs : ℕ) (r : Result (Vec (Option ℕ) Global) Fault) → num_docs ≤ held → held < 2 ^ 32
      → IfOk r (λ scores. scores.items ≡ map (query_score (scored_in index statistics) query) (range_with_len 0 num_docs)) → IfErr r (IsScoreFault (query_damage index query))
      → GivesScores num_docs (token_score schema ts statistics query) r
  gives_scores num_docs (Ok scores) within few scored refused =
      scored ∙ rows_alike num_docs (query_score (scored_in index statistics) query) (token_score schema ts statistics query)
      (λ doc below. scores_are_of_tokens schema held index ts statistics query doc holds fields (omega (arith, within, below)))
  gives_scores num_docs (Err fault) within few scored refused = memory_alone schema held index ts query fault holds few fields refused

  -- the best of the documents
  pub gives_best : (num_docs : ℕ) (docs : TopDocs) (r : Result (Vec (ℕ × ℕ) Global) Fault) → num_docs ≤ held
      → IfOk r (λ best. AreBest docs (scored_docs num_docs (query_score (scored_in index statistics) query)) best.items) → OnlyMemory r
      → GivesBest docs (scored_docs num_docs (token_score schema ts statistics query)) r
  gives_best num_docs docs (Ok best) within are memory =
      subst (λ (row : List (ℕ × ℕ)). AreBest docs row best.items)
      (scored_alike (λ (doc : ℕ). doc) num_docs (query_score (scored_in index statistics) query) (token_score schema ts statistics query)
      (λ doc below. scores_are_of_tokens schema held index ts statistics query doc holds fields (omega (arith, within, below)))) are
  gives_best num_docs docs (Err fault) within are memory = memory
