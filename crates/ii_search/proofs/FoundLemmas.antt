-- What a query gives in an index that holds tokens.
use Rattle.std.proofs.Common.{◌≡◌, ◌∙◌, ℕ, Bool, true, false, ◌&&◌, ◌||◌, ◌==◌, not, List, [], ◌∷◌, Option, None, Some, Result, Ok, Err, inl, inr, cond, length, map, nat_eq, ◌+◌, arith, refl, sym, ap, subst}
use Rattle.std.specs.Prelude.{IsSomeAnd, MatchOption, filter, min, nat_lt, slice_get}
use Rattle.std.specs.List.{list_all, list_any}
use Rattle.std.specs.Result.{result_unwrap_or}
use Rattle.std.proofs.Math.Bool.{and-false, and-true, or-false, or_self_left}
use Rattle.std.proofs.lemmas.Bool.{and_parts, le-leb, ltb-true}
use Rattle.std.proofs.lemmas.Bool.Decides.{eqb_tells}
use Rattle.ii_io.specs.declared.faults.Fault.{Fault}
use Rattle.ii_io.specs.declared.faults.Fault.TheVariants.{OutOfMemory}
use Rattle.ii_io.specs.declared.faults.Part.{Part}
use Rattle.ii_base.specs.Schema.{SchemaEntry}
use Rattle.ii_base.specs.declared.schema.index_record_option.IndexRecordOption.{IndexRecordOption}
use Rattle.ii_base.specs.declared.schema.index_record_option.IndexRecordOption.TheVariants.{Basic, WithFreqs, WithFreqsAndPositions}
use Rattle.ii_base.specs.Options.{downgrade, has_positions}
use Rattle.ii_base.specs.Terms.{TermState}
use Rattle.ii_base.specs.declared.doc_id.TheConstants.{TERMINATED}
use Rattle.ii_docset.specs.Cursor.{IsSound}
use Rattle.ii_base.specs.Entries.{Entry}
use Rattle.ii_docset.specs.Intersection.{has_doc}
use Rattle.ii_query.specs.Combined.{all_from, all_have, intersection_of, union_of, without}
use Rattle.ii_query.specs.Phrase.{PhrasePartState, parts_have}
use Rattle.ii_query.specs.SloppyPhrase as sloppy
use Rattle.ii_query.specs.SloppyPhrase.{is_near, sloppy_docs, stand_near, ways_back}
use Rattle.ii_query.proofs.AllLemmas.{all_has}
use Rattle.ii_query.proofs.MatchLaws.{intersection_has, union_has, without_has}
use Rattle.ii_query.proofs.SloppyLemmas.{sloppy_has}
use Rattle.ii_termdict.specs.Dictionary.{entry_keys, info_under}
use Rattle.ii_termstore.specs.declared.term_info.TermInfo.{TermInfo}
use Rattle.ii_definitions.specs.Cut.{cut_entry}
use Rattle.ii_definitions.specs.Fields.{option_of}
use Rattle.ii_definitions.specs.Files.{HoldsTerm}
use Rattle.ii_definitions.specs.Postings.{grouped, is_at, key_postings, kind_of, occurs, tokens_at, with_token}
use Rattle.ii_definitions.specs.Tokens.{IndexToken}
use Rattle.ii_definitions.proofs.GroupedLaws.{none_occurs}
use Rattle.ii_reader.specs.InvertedIndexReader.{InvertedIndexReaderState, IsRefusal}
use Rattle.ii_reader.specs.OpenIndex.{FieldReaderHolds, IndexHolds, OpenIndexState, all_or_first}
use Rattle.ii_reader.proofs.ReaderLemmas.{list_held}
use Rattle.ii_query_parser.specs.declared.phrase_prefix.PhrasePrefix.{PhrasePrefix}
use Rattle.ii_query_parser.specs.declared.query.PhraseTerm.{PhraseTerm}
use Rattle.ii_query_parser.specs.declared.query.Query.{Query}
use Rattle.ii_query_parser.specs.declared.term_range.TermRange.{TermRange}
use Rattle.ii_query_parser.specs.Ranges.{in_range}
use Rattle.ii_query_parser.proofs.PhrasePrefixLemmas.{fields_of_each}
use Rattle.ii_search.proofs.PhrasePrefixMatches.{absent_key, same_with}
use Rattle.ii_search.proofs.RangeMatches.{any_alike, any_kept, key_there, range_has, tests_have}
use Rattle.ii_search.specs.Found.{AreMatches, combined, combined_lists, docs_kept, docs_of_term, docs_under, found_in, keys_in, lists_found, phrase_of, phrase_parts_of, phrase_with, range_lists, tree_found, with_list, with_part}
use Rattle.ii_query_parser.specs.Queries as queries
use Rattle.ii_query_parser.specs.Queries.{QueryTree, QueryTrees, all_match, any_matches, are_of_texts, follow_near, has_fields, has_phrase_prefix, has_phrase_within, has_positions_in, has_tree, hold_for_all, holds_for_all, is_text_key, is_token_in, is_token_of, is_within, keeps_positions, matches, others_with, phrase_has_positions, phrase_is_within, stands_near, tree_matches, tree_of}

-- a token in front of entries
with_has : (t : IndexToken) (es : List Entry) (doc : ℕ) → has_doc (with_token t es) doc ≡ (nat_eq t.doc doc || has_doc es doc)
with_has t [] doc = refl
with_has t (e ∷ es) doc = elim (eqb_tells e.doc t.doc) [
  | inl h ↦ rw (h.0, h.1) (sym (or_self_left (nat_eq t.doc doc) (has_doc es doc)))
  | inr h ↦ rw (h.0) refl
]

-- the documents of tokens that are grouped
grouped_has : (ts : List IndexToken) (doc : ℕ) → has_doc (grouped ts) doc ≡ list_any (λ (t : IndexToken). t.doc == doc) ts
grouped_has [] doc = refl
grouped_has (t ∷ ts) doc = with_has t (grouped ts) doc ∙ ap (λ (b : Bool). nat_eq t.doc doc || b) (grouped_has ts doc)

-- whatever is kept of them
cut_has : (option : IndexRecordOption) (es : List Entry) (doc : ℕ) → has_doc (map (cut_entry option) es) doc ≡ has_doc es doc
cut_has option [] doc = refl
cut_has option (e ∷ es) doc = ap (λ (b : Bool). nat_eq e.doc doc || b) (cut_has option es doc)

any_of : (p q : IndexToken → Bool) (ts : List IndexToken) → list_any p (filter q ts) ≡ list_any (λ (t : IndexToken). p t && q t) ts
any_of p q [] = refl
any_of p q (t ∷ ts) = by (q t) refl (any_of p q ts)
  where
    by : (b : Bool) → q t ≡ b → list_any p (filter q ts) ≡ list_any (λ (u : IndexToken). p u && q u) ts → list_any p (filter q (t ∷ ts)) ≡ list_any (λ (u : IndexToken). p u && q u) (t ∷ ts)
    by true is later = rw (is, and-true (p t), later) refl
    by false is later = rw (is, and-false (p t), later) refl

-- a key's postings have the documents of its tokens
term_has : (option : IndexRecordOption) (field : ℕ) (key : List ℕ) (requested : IndexRecordOption) (ts : List IndexToken) (doc : ℕ)
    → has_doc (key_postings option field key requested ts) doc ≡ list_any (λ (t : IndexToken). (t.doc == doc) && is_at field key t) ts
term_has option field key requested ts doc =
    cut_has _ (grouped (tokens_at field key ts)) doc ∙ grouped_has (tokens_at field key ts) doc ∙ any_of (λ (t : IndexToken). t.doc == doc) (is_at field key) ts

-- a key that didn't occur has none
none_has : (field : ℕ) (key : List ℕ) (ts : List IndexToken) (doc : ℕ) → occurs field key ts ≡ false → list_any (λ (t : IndexToken). (t.doc == doc) && is_at field key t) ts ≡ false
none_has field key ts doc none =
    sym (any_of (λ (t : IndexToken). t.doc == doc) (is_at field key) ts) ∙ ap (list_any (λ (t : IndexToken). t.doc == doc)) (none_occurs field key ts none)

-- Documents are found, exactly those for which this holds.
pub record Gives (found : Result (List Entry) Part) (holds : ℕ → Bool) : Type 0 where
  pub es : List Entry
  pub is : found ≡ Ok es
  pub exact : (doc : ℕ) → has_doc es doc ≡ holds doc

gives_kept : (reader : InvertedIndexReaderState) (field : ℕ) (key : List ℕ) (ts : List IndexToken) (kept : Option TermInfo)
    → MatchOption kept (occurs field key ts ≡ false) (HoldsTerm reader.option field key reader.postings reader.positions ts)
    → Gives (docs_kept Basic reader kept) (λ (doc : ℕ). list_any (λ (t : IndexToken). (t.doc == doc) && is_at field key t) ts)
gives_kept reader field key ts None none = record { es = []; is = refl; exact = λ doc. sym (none_has field key ts doc none) }
gives_kept reader field key ts (Some info) holds = record {
  es = key_postings reader.option field key Basic ts;
  is = list_held reader field key Basic ts info holds;
  exact = term_has reader.option field key Basic ts;
}

gives_under : (entries : List SchemaEntry) (field : ℕ) (key : List ℕ) (ts : List IndexToken) (reader : Option InvertedIndexReaderState)
    → IsSomeAnd reader (λ r. FieldReaderHolds entries field r ts)
    → Gives (docs_under Basic key reader) (λ (doc : ℕ). list_any (λ (t : IndexToken). (t.doc == doc) && is_at field key t) ts)
gives_under entries field key ts None h = absurd h
gives_under entries field key ts (Some r) h = gives_kept r field key ts (info_under key r.terms) (h.holds.exact key)

-- Lists are found, which have together exactly the documents for which this holds.
record GivesAny (found : Result (List (List Entry)) Part) (holds : ℕ → Bool) : Type 0 where
  lists : List (List Entry)
  is : found ≡ Ok lists
  any : (doc : ℕ) → has_doc (union_of lists) doc ≡ holds doc

gives_keys : (found : List ℕ → Result (List Entry) Part) (holds : List ℕ → ℕ → Bool) → ((key : List ℕ) → Gives (found key) (holds key)) → (keys : List (List ℕ))
    → GivesAny (all_or_first (map found keys)) (λ (doc : ℕ). list_any (λ (key : List ℕ). holds key doc) keys)
gives_keys found holds each [] = record { lists = []; is = refl; any = λ doc. refl }
gives_keys found holds each (key ∷ keys) =
    let f = each key in
    let g = gives_keys found holds each keys in
    rw (f.is, g.is) (record { lists = f.es ∷ g.lists; is = refl; any = λ doc. union_has f.es g.lists doc ∙ rw (f.exact doc, g.any doc) refl })

-- the documents of the terms in a range
gives_range : (entries : List SchemaEntry) (range : TermRange) (ts : List IndexToken) (reader : Option InvertedIndexReaderState)
    → IsSomeAnd reader (λ r. FieldReaderHolds entries range.prefix.field r ts)
    → Gives (combined_lists union_of (range_lists range reader)) (λ (doc : ℕ). list_any (is_token_in range doc) ts)
gives_range entries range ts None h = absurd h
gives_range entries range ts (Some r) h =
    let field = range.prefix.field in
    let g = gives_keys (λ (key : List ℕ). docs_under Basic key (Some r)) (λ (key : List ℕ) (doc : ℕ). list_any (λ (t : IndexToken). (t.doc == doc) && is_at field key t) ts)
    (λ key. gives_under entries field key ts (Some r) h) (filter (in_range range) (entry_keys r.terms)) in
    rw (g.is) (record {
      es = union_of g.lists;
      is = refl;
      exact = λ doc. g.any doc ∙ range_has range (entry_keys r.terms) ts doc (λ key there. key_there _ field key r.terms ts (h.holds.exact key) there);
    })

gives_without : (a b : Result (List Entry) Part) (p q : ℕ → Bool) → Gives a p → Gives b q → Gives (combined without a b) (λ (doc : ℕ). p doc && not (q doc))
gives_without a b p q f g = rw (f.is, g.is) (record { es = without f.es g.es; is = refl; exact = λ doc. without_has f.es g.es doc ∙ rw (f.exact doc, g.exact doc) refl })

-- entries of a document with a position for which something holds
abbrev pub placed_in : ℕ → (ℕ → Bool) → List Entry → Bool
placed_in doc holds es = list_any (λ (e : Entry). nat_eq e.doc doc && list_any holds e.positions) es

-- tokens of a document at such a position
abbrev pub token_in : ℕ → (ℕ → Bool) → IndexToken → Bool
token_in doc holds t = (t.doc == doc) && holds t.position

both_or : (a b c d : Bool) → ((a && (b || c)) || d) ≡ ((a && b) || ((a && c) || d))
both_or true true c d = refl
both_or true false c d = refl
both_or false b c d = refl

with_placed : (doc : ℕ) (holds : ℕ → Bool) (t : IndexToken) (es : List Entry) → placed_in doc holds (with_token t es) ≡ (token_in doc holds t || placed_in doc holds es)
with_placed doc holds t [] = ap (λ (b : Bool). (nat_eq t.doc doc && b) || false) (or-false (holds t.position))
with_placed doc holds t (e ∷ es) = elim (eqb_tells e.doc t.doc) [
  | inl h ↦ rw (h.0, h.1) (both_or (nat_eq t.doc doc) (holds t.position) (list_any holds e.positions) (placed_in doc holds es))
  | inr h ↦ rw (h.0) (ap (λ (b : Bool). (nat_eq t.doc doc && b) || placed_in doc holds (e ∷ es)) (or-false (holds t.position)))
]

grouped_placed : (doc : ℕ) (holds : ℕ → Bool) (ts : List IndexToken) → placed_in doc holds (grouped ts) ≡ list_any (token_in doc holds) ts
grouped_placed doc holds [] = refl
grouped_placed doc holds (t ∷ ts) = with_placed doc holds t (grouped ts) ∙ ap (λ (b : Bool). token_in doc holds t || b) (grouped_placed doc holds ts)

-- where positions are cut there are none
cut_placed : (doc : ℕ) (holds : ℕ → Bool) (option : IndexRecordOption) (es : List Entry) → placed_in doc holds (map (cut_entry option) es) ≡ (has_positions option && placed_in doc holds es)
cut_placed doc holds Basic [] = refl
cut_placed doc holds Basic (e ∷ es) = rw (and-false (nat_eq e.doc doc)) (cut_placed doc holds Basic es)
cut_placed doc holds WithFreqs [] = refl
cut_placed doc holds WithFreqs (e ∷ es) = rw (and-false (nat_eq e.doc doc)) (cut_placed doc holds WithFreqs es)
cut_placed doc holds WithFreqsAndPositions [] = refl
cut_placed doc holds WithFreqsAndPositions (e ∷ es) = ap (λ (b : Bool). (nat_eq e.doc doc && list_any holds e.positions) || b) (cut_placed doc holds WithFreqsAndPositions es)

-- what is kept of a key's tokens in a field, if it has positions
kept_placed : (option : IndexRecordOption) (us : List IndexToken) (b : Bool) → (us ≡ [] → b ≡ false) → (has_positions (downgrade (kind_of option us) WithFreqsAndPositions) && b) ≡ (has_positions option && (are_of_texts us && b))
kept_placed option [] b none = rw (none refl) (and-false _ ∙ sym (and-false (has_positions option)))
kept_placed option (t ∷ us) b none = by option t.of_text
  where
    by : (o : IndexRecordOption) (texts : Bool) → (has_positions (downgrade (cond texts o Basic) WithFreqsAndPositions) && b) ≡ (has_positions o && (texts && b))
    by o false = sym (and-false (has_positions o))
    by Basic true = refl
    by WithFreqs true = refl
    by WithFreqsAndPositions true = refl

swapped : (a b c : Bool) → ((a && b) && c) ≡ ((a && c) && b)
swapped true true true = refl
swapped true true false = refl
swapped true false true = refl
swapped true false false = refl
swapped false b c = refl

-- a key's postings have the positions of its tokens, if its field has positions
positions_have : (option : IndexRecordOption) (ts : List IndexToken) (term : TermState) (doc : ℕ) (holds : ℕ → Bool)
    → placed_in doc holds (key_postings option term.field term.value WithFreqsAndPositions ts) ≡ (has_positions option && (is_text_key term ts && list_any (λ (t : IndexToken). is_token_of term doc t && holds t.position) ts))
positions_have option ts term doc holds =
    let us = tokens_at term.field term.value ts in
    cut_placed doc holds _ (grouped us)
    ∙ kept_placed option us (placed_in doc holds (grouped us)) (λ none. ap (λ (vs : List IndexToken). placed_in doc holds (grouped vs)) none)
    ∙ ap (λ (b : Bool). has_positions option && (are_of_texts us && b))
    (grouped_placed doc holds us ∙ any_of (token_in doc holds) (is_at term.field term.value) ts
    ∙ any_alike (λ (t : IndexToken). token_in doc holds t && is_at term.field term.value t) (λ (t : IndexToken). is_token_of term doc t && holds t.position) ts (λ t. swapped (t.doc == doc) (holds t.position) (is_at term.field term.value t)))

-- A term's entries are found, with the positions of its tokens if these are kept.
pub record GivesPositions (keeps : Bool) (ts : List IndexToken) (term : TermState) (found : Result (List Entry) Part) : Type 0 where
  pub es : List Entry
  pub is : found ≡ Ok es
  pub exact : (doc : ℕ) (holds : ℕ → Bool) → placed_in doc holds es ≡ (keeps && (is_text_key term ts && list_any (λ (t : IndexToken). is_token_of term doc t && holds t.position) ts))

positions_kept : (reader : InvertedIndexReaderState) (term : TermState) (ts : List IndexToken) (kept : Option TermInfo)
    → MatchOption kept (occurs term.field term.value ts ≡ false) (HoldsTerm reader.option term.field term.value reader.postings reader.positions ts)
    → GivesPositions (has_positions reader.option) ts term (docs_kept WithFreqsAndPositions reader kept)
positions_kept reader term ts None none = record {
  es = [];
  is = refl;
  exact = λ doc holds. sym (ap (λ (us : List IndexToken). has_positions reader.option && (are_of_texts us && list_any (λ (t : IndexToken). is_token_of term doc t && holds t.position) ts)) (none_occurs term.field term.value ts none) ∙ and-false (has_positions reader.option));
}
positions_kept reader term ts (Some info) holds = record {
  es = key_postings reader.option term.field term.value WithFreqsAndPositions ts;
  is = list_held reader term.field term.value WithFreqsAndPositions ts info holds;
  exact = λ doc place. positions_have reader.option ts term doc place;
}

positions_under : (entries : List SchemaEntry) (term : TermState) (ts : List IndexToken) (reader : Option InvertedIndexReaderState)
    → IsSomeAnd reader (λ r. FieldReaderHolds entries term.field r ts) → GivesPositions (has_positions_in entries term) ts term (docs_under WithFreqsAndPositions term.value reader)
positions_under entries term ts None h = absurd h
positions_under entries term ts (Some r) h =
    subst (λ (keeps : Bool). GivesPositions keeps ts term (docs_under WithFreqsAndPositions term.value (Some r))) (ap has_positions h.option_is) (positions_kept r term ts (info_under term.value r.terms) (h.holds.exact term.value))

-- The other terms of a phrase are found, with their positions if the fields of all keep these.
pub record GivesParts (keeps : Bool) (ts : List IndexToken) (others : List PhraseTerm) (found : Result (List PhrasePartState) Part) : Type 0 where
  pub parts : List PhrasePartState
  pub is : found ≡ Ok parts
  pub exact : (slop back doc start : ℕ) → parts_have (is_near slop back start) parts doc ≡ (keeps && list_all (λ (o : PhraseTerm). stands_near slop back ts doc o.term (start + o.distance)) others)

both_and : (a b c d : Bool) → ((a && b) && (c && d)) ≡ ((a && c) && (b && d))
both_and true true c d = refl
both_and true false true d = refl
both_and true false false d = refl
both_and false b c d = refl

gives_part : (k l : Bool) (ts : List IndexToken) (o : PhraseTerm) (others : List PhraseTerm) (first : Result (List Entry) Part) (found : Result (List PhrasePartState) Part) → GivesPositions k ts o.term first → GivesParts l ts others found
    → GivesParts (k && l) ts (o ∷ others) (with_part o.distance first found)
gives_part k l ts o others first found f g = rw (f.is, g.is) (record {
  parts = record { distance = o.distance; rest = f.es } ∷ g.parts;
  is = refl;
  exact = λ slop back doc start.
      (λ j. f.exact doc (λ (p : ℕ). sloppy.is_within slop (start + o.distance) (p + back)) j && g.exact slop back doc start j)
      ∙ both_and k (stands_near slop back ts doc o.term (start + o.distance)) l (list_all (λ (p : PhraseTerm). stands_near slop back ts doc p.term (start + p.distance)) others);
})

gives_parts : (entries : List SchemaEntry) (n : ℕ) (index : OpenIndexState) (ts : List IndexToken) (others : List PhraseTerm) → IndexHolds entries n index ts
    → list_all (λ (o : PhraseTerm). nat_lt o.term.field (length entries)) others ≡ true → GivesParts (list_all (λ (o : PhraseTerm). has_positions_in entries o.term) others) ts others (phrase_parts_of index others)
gives_parts entries n index ts [] holds fields = record { parts = []; is = refl; exact = λ slop back doc start. refl }
gives_parts entries n index ts (o ∷ os) holds fields =
    let h = and_parts (nat_lt o.term.field (length entries)) (list_all (λ (p : PhraseTerm). nat_lt p.term.field (length entries)) os) fields in
    gives_part (has_positions_in entries o.term) (list_all (λ (p : PhraseTerm). has_positions_in entries p.term) os) ts o os _ _
    (positions_under entries o.term ts (slice_get index.readers o.term.field) (holds.readers o.term.field (ltb-true o.term.field (length entries) h.0)))
    (gives_parts entries n index ts os holds h.1)

-- the other terms are near where their tokens are
follow_parts : (keeps : Bool) (ts : List IndexToken) (others : List PhraseTerm) (found : Result (List PhrasePartState) Part) (g : GivesParts keeps ts others found) (slop doc start : ℕ) → stand_near slop g.parts doc start ≡ (keeps && follow_near slop ts doc others start)
follow_parts keeps ts others found g slop doc start =
    any_alike (λ (back : ℕ). parts_have (is_near slop back start) g.parts doc) (λ (back : ℕ). keeps && list_all (λ (o : PhraseTerm). stands_near slop back ts doc o.term (start + o.distance)) others) (ways_back slop) (λ back. g.exact slop back doc start)
    ∙ any_kept keeps (λ (back : ℕ). list_all (λ (o : PhraseTerm). stands_near slop back ts doc o.term (start + o.distance)) others) (ways_back slop)

-- something else that a test asks, in front
in_front_of_both : (a b c : Bool) → (a && (b && c)) ≡ (b && (a && c))
in_front_of_both true b c = refl
in_front_of_both false true c = refl
in_front_of_both false false c = refl

grouped_and : (a b c d : Bool) → (a && (b && (c && d))) ≡ ((a && c) && (b && d))
grouped_and true b c d = in_front_of_both b c d
grouped_and false b c d = refl

gives_phrase : (k l : Bool) (slop : ℕ) (ts : List IndexToken) (first : TermState) (others : List PhraseTerm) (a : Result (List Entry) Part) (b : Result (List PhrasePartState) Part) → GivesPositions k ts first a → GivesParts l ts others b
    → Gives (phrase_of slop a b) (λ (doc : ℕ). (k && l) && has_phrase_within slop ts doc first others)
gives_phrase k l slop ts first others a b f g = rw (f.is, g.is) (record {
  es = sloppy_docs slop f.es g.parts;
  is = refl;
  exact = λ doc.
      let of : IndexToken → Bool = is_token_of first doc in
      let follows : IndexToken → Bool = λ t. follow_near slop ts doc others t.position in
      sloppy_has slop doc f.es g.parts ∙ f.exact doc (stand_near slop g.parts doc)
      ∙ ap (λ (c : Bool). k && (is_text_key first ts && c))
      (any_alike (λ (t : IndexToken). of t && stand_near slop g.parts doc t.position) (λ (t : IndexToken). l && (of t && follows t)) ts
      (λ t. ap (λ (c : Bool). of t && c) (follow_parts l ts others b g slop doc t.position) ∙ in_front_of_both (of t) l (follows t))
      ∙ any_kept l (λ (t : IndexToken). of t && follows t) ts)
      ∙ grouped_and k (is_text_key first ts) l (list_any (λ (t : IndexToken). of t && follows t) ts);
})

-- the documents of a phrase, if the fields of its terms have positions
phrase_given : (entries : List SchemaEntry) (n : ℕ) (index : OpenIndexState) (ts : List IndexToken) (first : TermState) (others : List PhraseTerm) (slop : ℕ) → IndexHolds entries n index ts → phrase_is_within (length entries) first others ≡ true
    → Gives (phrase_of slop (docs_of_term WithFreqsAndPositions index first) (phrase_parts_of index others)) (λ (doc : ℕ). phrase_has_positions entries first others && has_phrase_within slop ts doc first others)
phrase_given entries n index ts first others slop holds fields =
    let h = and_parts (nat_lt first.field (length entries)) _ fields in
    gives_phrase (has_positions_in entries first) (list_all (λ (o : PhraseTerm). has_positions_in entries o.term) others) slop ts first others _ _
    (positions_under entries first ts (slice_get index.readers first.field) (holds.readers first.field (ltb-true first.field (length entries) h.0)))
    (gives_parts entries n index ts others holds h.1)

-- ---- a phrase whose last term is one of a range
-- the documents of the phrase with each key in the range
gives_with : (entries : List SchemaEntry) (n : ℕ) (index : OpenIndexState) (ts : List IndexToken) (p : PhrasePrefix) → IndexHolds entries n index ts → phrase_is_within (length entries) p.first (others_with p p.last.prefix.value) ≡ true
    → (key : List ℕ) → Gives (phrase_with index p key) (λ (doc : ℕ). phrase_has_positions entries p.first (others_with p p.last.prefix.value) && has_phrase_within 0 ts doc p.first (others_with p key))
gives_with entries n index ts p holds fields key =
    let same_fields = same_with (λ (f : ℕ). nat_lt f (length entries)) p key p.last.prefix.value in
    let same_positions = same_with (λ (f : ℕ). has_positions (option_of entries f)) p key p.last.prefix.value in
    let g = phrase_given entries n index ts p.first (others_with p key) 0 holds (ap (λ (b : Bool). nat_lt p.first.field (length entries) && b) same_fields ∙ fields) in
    record {
      es = g.es;
      is = g.is;
      exact = λ doc. g.exact doc ∙ ap (λ (b : Bool). (has_positions_in entries p.first && b) && has_phrase_within 0 ts doc p.first (others_with p key)) same_positions;
    }

gives_phrase_prefix : (entries : List SchemaEntry) (n : ℕ) (index : OpenIndexState) (ts : List IndexToken) (p : PhrasePrefix) (reader : Option InvertedIndexReaderState) → IndexHolds entries n index ts
    → phrase_is_within (length entries) p.first (others_with p p.last.prefix.value) ≡ true → IsSomeAnd reader (λ r. FieldReaderHolds entries p.last.prefix.field r ts)
    → Gives (combined_lists union_of (all_or_first (map (phrase_with index p) (keys_in p.last reader)))) (λ (doc : ℕ). phrase_has_positions entries p.first (others_with p p.last.prefix.value) && has_phrase_prefix p ts doc)
gives_phrase_prefix entries n index ts p None holds fields h = absurd h
gives_phrase_prefix entries n index ts p (Some r) holds fields h =
    let keeps = phrase_has_positions entries p.first (others_with p p.last.prefix.value) in
    let has : ℕ → List ℕ → Bool = λ doc key. has_phrase_within 0 ts doc p.first (others_with p key) in
    let keys = filter (in_range p.last) (entry_keys r.terms) in
    let g = gives_keys (phrase_with index p) (λ (key : List ℕ) (doc : ℕ). keeps && has doc key) (gives_with entries n index ts p holds fields) keys in
    rw (g.is) (record {
      es = union_of g.lists;
      is = refl;
      exact = λ doc. g.any doc ∙ any_kept keeps (has doc) keys
          ∙ ap (λ (b : Bool). keeps && b) (tests_have (has doc) p.last (entry_keys r.terms) ts (λ key there. key_there _ p.last.prefix.field key r.terms ts (h.holds.exact key) there) (λ key none. absent_key p ts doc key (none_has p.last.prefix.field key ts doc none)));
    })

-- the documents of a phrase with a prefix in an index that holds tokens, if the fields of its terms have positions
pub phrase_prefix_given : (entries : List SchemaEntry) (n : ℕ) (index : OpenIndexState) (ts : List IndexToken) (p : PhrasePrefix) → IndexHolds entries n index ts → phrase_is_within (length entries) p.first (others_with p p.last.prefix.value) ≡ true
    → Gives (tree_found index (queries.one_phrase_prefix p)) (λ (doc : ℕ). phrase_has_positions entries p.first (others_with p p.last.prefix.value) && has_phrase_prefix p ts doc)
phrase_prefix_given entries n index ts p holds fields =
    let all = sym (fields_of_each (length entries) p) ∙ fields in
    let later = (and_parts (nat_lt p.first.field (length entries)) _ all).1 in
    let last = (and_parts (list_all (λ (o : PhraseTerm). nat_lt o.term.field (length entries)) p.others.items) (nat_lt p.last.prefix.field (length entries)) later).1 in
    gives_phrase_prefix entries n index ts p (slice_get index.readers p.last.prefix.field) holds fields (holds.readers p.last.prefix.field (ltb-true p.last.prefix.field (length entries) last))

-- what is given under a condition that holds
given_if : (keeps : Bool) (found : Result (List Entry) Part) (holds : ℕ → Bool) → keeps ≡ true → Gives found (λ (doc : ℕ). keeps && holds doc) → Gives found holds
given_if keeps found holds is g = record { es = g.es; is = g.is; exact = λ doc. g.exact doc ∙ ap (λ (b : Bool). b && holds doc) is }

-- all documents below a number
all_below : (n doc : ℕ) → has_doc (all_from 0 n) doc ≡ nat_lt doc n
all_below n doc = let same : 0 + n ≡ n = omega arith in all_has 0 n doc ∙ rw (le-leb 0 doc (omega arith), same) refl

-- Lists are found, which have together the documents that match queries.
pub record GivesLists (ts : List IndexToken) (qs : QueryTrees) (found : Result (List (List Entry)) Part) : Type 0 where
  pub lists : List (List Entry)
  pub is : found ≡ Ok lists
  pub all : (doc : ℕ) → all_have lists doc ≡ all_match qs ts doc
  pub each : (doc : ℕ) → has_doc (intersection_of lists) doc ≡ (has_tree qs && all_match qs ts doc)
  pub any : (doc : ℕ) → has_doc (union_of lists) doc ≡ any_matches qs ts doc

gives_list : (ts : List IndexToken) (q : QueryTree) (qs : QueryTrees) (first : Result (List Entry) Part) (found : Result (List (List Entry)) Part) → Gives first (tree_matches q ts) → GivesLists ts qs found → GivesLists ts (queries.tree q qs) (with_list first found)
gives_list ts q qs first found f g =
    let all : (doc : ℕ) → all_have (f.es ∷ g.lists) doc ≡ (tree_matches q ts doc && all_match qs ts doc) = λ doc. rw (f.exact doc, g.all doc) refl in
    rw (f.is, g.is) (record {
      lists = f.es ∷ g.lists;
      is = refl;
      all = all;
      each = λ doc. intersection_has f.es g.lists doc ∙ all doc;
      any = λ doc. union_has f.es g.lists doc ∙ rw (f.exact doc, g.any doc) refl;
    })

gives_each : (ts : List IndexToken) (qs : QueryTrees) (found : Result (List (List Entry)) Part) → GivesLists ts qs found → Gives (combined_lists intersection_of found) (tree_matches (queries.each_of qs) ts)
gives_each ts qs found g = rw (g.is) (record { es = intersection_of g.lists; is = refl; exact = g.each })

gives_any : (ts : List IndexToken) (qs : QueryTrees) (found : Result (List (List Entry)) Part) → GivesLists ts qs found → Gives (combined_lists union_of found) (tree_matches (queries.any_of qs) ts)
gives_any ts qs found g = rw (g.is) (record { es = union_of g.lists; is = refl; exact = g.any })

-- an index that holds tokens gives the documents that match
mutual
  gives_tree : (entries : List SchemaEntry) (n : ℕ) (index : OpenIndexState) (ts : List IndexToken) (q : QueryTree) → IndexHolds entries n index ts
      → holds_for_all (is_within (length entries)) (phrase_is_within (length entries)) q ≡ true → holds_for_all (λ (t : TermState). true) (phrase_has_positions entries) q ≡ true → Gives (tree_found index q) (tree_matches q ts)
  gives_tree entries n index ts queries.nothing holds fields keeps = record { es = []; is = refl; exact = λ doc. refl }
  gives_tree entries n index ts (queries.all_below m) holds fields keeps = record { es = all_from 0 (min m TERMINATED); is = refl; exact = λ doc. all_below (min m TERMINATED) doc }
  gives_tree entries n index ts (queries.one_term term) holds fields keeps =
      gives_under entries term.field term.value ts (slice_get index.readers term.field) (holds.readers term.field (ltb-true term.field (length entries) fields))
  gives_tree entries n index ts (queries.one_phrase first others slop) holds fields keeps =
      given_if (phrase_has_positions entries first others) _ (λ (doc : ℕ). has_phrase_within slop ts doc first others) keeps (phrase_given entries n index ts first others slop holds fields)
  gives_tree entries n index ts (queries.one_phrase_prefix phrase) holds fields keeps =
      given_if (phrase_has_positions entries phrase.first (others_with phrase phrase.last.prefix.value)) _ (has_phrase_prefix phrase ts) keeps (phrase_prefix_given entries n index ts phrase holds fields)
  gives_tree entries n index ts (queries.one_range range) holds fields keeps =
      gives_range entries range ts (slice_get index.readers range.prefix.field) (holds.readers range.prefix.field (ltb-true range.prefix.field (length entries) fields))
  gives_tree entries n index ts (queries.each_of qs) holds fields keeps = gives_each ts qs _ (gives_lists entries n index ts qs holds fields keeps)
  gives_tree entries n index ts (queries.any_of qs) holds fields keeps = gives_any ts qs _ (gives_lists entries n index ts qs holds fields keeps)
  gives_tree entries n index ts (queries.without first other) holds fields keeps =
      let h = and_parts (holds_for_all (is_within (length entries)) (phrase_is_within (length entries)) first) _ fields in
      let k = and_parts (holds_for_all (λ (t : TermState). true) (phrase_has_positions entries) first) _ keeps in
      gives_without _ _ _ _ (gives_tree entries n index ts first holds h.0 k.0) (gives_tree entries n index ts other holds h.1 k.1)

  gives_lists : (entries : List SchemaEntry) (n : ℕ) (index : OpenIndexState) (ts : List IndexToken) (qs : QueryTrees) → IndexHolds entries n index ts
      → hold_for_all (is_within (length entries)) (phrase_is_within (length entries)) qs ≡ true → hold_for_all (λ (t : TermState). true) (phrase_has_positions entries) qs ≡ true → GivesLists ts qs (lists_found index qs)
  gives_lists entries n index ts queries.no_tree holds fields keeps = record { lists = []; is = refl; all = λ doc. refl; each = λ doc. refl; any = λ doc. refl }
  gives_lists entries n index ts (queries.tree q qs) holds fields keeps =
      let h = and_parts (holds_for_all (is_within (length entries)) (phrase_is_within (length entries)) q) _ fields in
      let k = and_parts (holds_for_all (λ (t : TermState). true) (phrase_has_positions entries) q) _ keeps in
      gives_list ts q qs _ _ (gives_tree entries n index ts q holds h.0 k.0) (gives_lists entries n index ts qs holds h.1 k.1)

pub gives_matches : (entries : List SchemaEntry) (n : ℕ) (index : OpenIndexState) (ts : List IndexToken) (query : Query) → IndexHolds entries n index ts
    → has_fields (length entries) query ≡ true → keeps_positions entries query ≡ true → Gives (found_in index query) (matches query ts)
gives_matches entries n index ts query holds fields keeps = gives_tree entries n index ts (tree_of query) holds fields keeps

-- so what is found are the documents that match
pub found_match : (entries : List SchemaEntry) (n : ℕ) (index : OpenIndexState) (ts : List IndexToken) (query : Query) (rest : List Entry) → IndexHolds entries n index ts
    → has_fields (length entries) query ≡ true → keeps_positions entries query ≡ true → found_in index query ≡ Ok rest → IsSound rest → AreMatches query ts rest
found_match entries n index ts query rest holds fields keeps found sound =
    let g = gives_matches entries n index ts query holds fields keeps in
    let same : g.es ≡ rest = ap (λ (r : Result (List Entry) Part). result_unwrap_or r []) (sym g.is ∙ found) in
    record { ascending = sound.ascending; exact = λ doc. ap (λ (es : List Entry). has_doc es doc) (sym same) ∙ g.exact doc }

-- and nothing but want of memory is in the way
pub memory_alone : (entries : List SchemaEntry) (n : ℕ) (index : OpenIndexState) (ts : List IndexToken) (query : Query) (fault : Fault) → IndexHolds entries n index ts
    → has_fields (length entries) query ≡ true → keeps_positions entries query ≡ true → IsRefusal (found_in index query) fault → fault ≡ OutOfMemory
memory_alone entries n index ts query fault holds fields keeps (inl memory) = memory
memory_alone entries n index ts query fault holds fields keeps (inr (part, is, err)) =
    let g = gives_matches entries n index ts query holds fields keeps in
    absurd (ok_is_no_err g.es part (sym g.is ∙ err))
  where
    ok_is_no_err : (es : List Entry) (part : Part) → Ok es ≡ Err part → ⊥
    ok_is_no_err es part same = absurd (cc)
