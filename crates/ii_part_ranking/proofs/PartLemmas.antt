-- An index that has what ranking by a query reads of another one has the same terms for it, with the same norms.
use Rattle.std.proofs.Common.{◌≡◌, ◌∙◌, ℕ, ◌<◌, Bool, true, false, ◌&&◌, ◌==◌, List, [], ◌∷◌, Option, None, Some, bytes_eq, eq-eqb, if◌then◌else◌, length, not, refl, sym, ap}
use Rattle.std.specs.Prelude.{nat_lt, slice_get}
use Rattle.std.specs.List.{AllByRecursion, list_all, list_any}
use Rattle.std.proofs.Math.Bool.{or-true}
use Rattle.std.proofs.lemmas.Bool.{and_parts, ltb-true}
use Rattle.std.proofs.lemmas.List.Folds.{list_all-append}
use Rattle.std.proofs.lemmas.Slice.Eq.{bytes_eq-Decides}
use Rattle.ii_io.specs.Composite.{body_of}
use Rattle.ii_base.specs.Terms.{TermState}
use Rattle.ii_base.specs.Options.{has_positions}
use Rattle.ii_base.specs.declared.schema.index_record_option.IndexRecordOption.{IndexRecordOption}
use Rattle.ii_base.specs.declared.schema.index_record_option.IndexRecordOption.TheVariants.{Basic, WithFreqs, WithFreqsAndPositions}
use Rattle.ii_definitions.proofs.ListLaws.{all_both}
use Rattle.ii_query_parser.specs.declared.phrase_prefix.PhrasePrefix.{PhrasePrefix}
use Rattle.ii_query_parser.specs.declared.query.PhraseTerm.{PhraseTerm}
use Rattle.ii_query_parser.specs.declared.query.Query.{Query}
use Rattle.ii_query_parser.specs.Queries as queries
use Rattle.ii_query_parser.specs.Queries.{QueryTree, QueryTrees, hold_for_all, holds_for_all, is_within, others_with, phrase_is_within, tree_of}
use Rattle.ii_reader.specs.InvertedIndexReader.{InvertedIndexReaderState}
use Rattle.ii_reader.specs.OpenIndex.{OpenIndexState}
use Rattle.ii_search.specs.Found.{docs_under}
use Rattle.ii_warmup.specs.Parts.{IsPartOfField}
use Rattle.ii_warmup.specs.QueryTerms.{QueryRangeState, QueryTermState, names_field, names_key, phrase_requests, query_ranges, requested_of, requested_terms, serves, tree_terms, trees_terms, with_positions}
use Rattle.ii_warmup.specs.SameFor.{SameTerm}
use Rattle.ii_warmup.proofs.SameLemmas.{parts_are_same}
use Rattle.ii_part_ranking.specs.PartScores.{IsScoredPartFor, PartsAreDamagedTheSame, PartsScoreTheSame}
use Rattle.ii_part_ranking.proofs.ScoreLemmas.{IsSameTerm, same_damage, same_score}

-- A term has one of the first n fields.
abbrev IsBelow : ℕ → QueryTermState → Type 0
IsBelow n t = t.term.field < n

later_below : (n : ℕ) (others : List PhraseTerm) → list_all (λ (o : PhraseTerm). nat_lt o.term.field n) others ≡ true → AllByRecursion (IsBelow n) (phrase_requests others)
later_below n [] within = tt
later_below n (o ∷ os) within =
    let both = and_parts (nat_lt o.term.field n) (list_all (λ (p : PhraseTerm). nat_lt p.term.field n) os) within in
    (ltb-true o.term.field n both.0, later_below n os both.1)

phrase_below : (n : ℕ) (first : TermState) (others : List PhraseTerm) → phrase_is_within n first others ≡ true → AllByRecursion (IsBelow n) (with_positions first ∷ phrase_requests others)
phrase_below n first others within =
    let both = and_parts (nat_lt first.field n) (list_all (λ (o : PhraseTerm). nat_lt o.term.field n) others) within in
    (ltb-true first.field n both.0, later_below n others both.1)

prefix_below : (n : ℕ) (phrase : PhrasePrefix) (key : List ℕ) → phrase_is_within n phrase.first (others_with phrase key) ≡ true → AllByRecursion (IsBelow n) (with_positions phrase.first ∷ phrase_requests phrase.others.items)
prefix_below n phrase key within =
    let test = λ (o : PhraseTerm). nat_lt o.term.field n in
    let last : PhraseTerm = record { distance = phrase.distance; term = record { field = phrase.last.prefix.field; value = key } } in
    let both = and_parts (nat_lt phrase.first.field n) (list_all test (others_with phrase key)) within in
    let others = and_parts (list_all test phrase.others.items) (list_all test (last ∷ [])) (sym (list_all-append test phrase.others.items (last ∷ [])) ∙ both.1) in
    (ltb-true phrase.first.field n both.0, later_below n phrase.others.items others.0)

-- the terms of a query whose fields are among the first n
module _ (n : ℕ) where
  mutual
    terms_below : (q : QueryTree) → holds_for_all (is_within n) (phrase_is_within n) q ≡ true → AllByRecursion (IsBelow n) (tree_terms q)
    terms_below queries.nothing within = tt
    terms_below (queries.all_below m) within = tt
    terms_below (queries.one_term term) within = (ltb-true term.field n within, tt)
    terms_below (queries.one_phrase first others slop) within = phrase_below n first others within
    terms_below (queries.one_phrase_prefix phrase) within = prefix_below n phrase phrase.last.prefix.value within
    terms_below (queries.one_range range) within = tt
    terms_below (queries.each_of qs) within = all_terms_below qs within
    terms_below (queries.any_of qs) within = all_terms_below qs within
    terms_below (queries.without first other) within =
        let both = and_parts (holds_for_all (is_within n) (phrase_is_within n) first) (holds_for_all (is_within n) (phrase_is_within n) other) within in
        all_both (IsBelow n) (tree_terms first) (tree_terms other) (terms_below first both.0) (terms_below other both.1)

    all_terms_below : (qs : QueryTrees) → hold_for_all (is_within n) (phrase_is_within n) qs ≡ true → AllByRecursion (IsBelow n) (trees_terms qs)
    all_terms_below queries.no_tree within = tt
    all_terms_below (queries.tree q qs) within =
        let both = and_parts (holds_for_all (is_within n) (phrase_is_within n) q) (hold_for_all (is_within n) (phrase_is_within n) qs) within in
        all_both (IsBelow n) (tree_terms q) (trees_terms qs) (terms_below q both.0) (all_terms_below qs both.1)

-- what two predicates of an item, and its place in a list, imply for each item
each_item : {A : Type 0} (P Q R : A → Type 0) (xs : List A) → ((x : A) → P x → Q x → ((test : A → Bool) → test x ≡ true → list_any test xs ≡ true) → R x)
    → AllByRecursion P xs → AllByRecursion Q xs → AllByRecursion R xs
each_item P Q R [] implies ps qs = tt
each_item {A} P Q R (x ∷ xs) implies ps qs = (
  implies x ps.0 qs.0 (λ test passes. rw passes refl),
  each_item P Q R xs (λ y p q found. implies y p q (λ test passes. rw (found test passes) (or-true (test x)))) ps.1 qs.1,
)

-- what is read of the list of a key of which something is requested
pub same_docs : (option : IndexRecordOption) → serves option Basic ≡ true → (terms : List QueryTermState) (ranges : List QueryRangeState) (field : ℕ) (key : List ℕ) (part whole : Option InvertedIndexReaderState) → IsPartOfField (requested_of terms ranges field) part whole
    → names_key Basic terms ranges field key ≡ true → docs_under option key part ≡ docs_under option key whole
same_docs option served terms ranges field key None None parts named = refl
same_docs option served terms ranges field key None (Some whole) parts named = absurd parts
same_docs option served terms ranges field key (Some part) None parts named = absurd parts
same_docs option served terms ranges field key (Some part) (Some whole) parts named = by (names_key WithFreqsAndPositions terms ranges field key) refl
  where
    by : (b : Bool) → names_key WithFreqsAndPositions terms ranges field key ≡ b → docs_under option key (Some part) ≡ docs_under option key (Some whole)
    by true all = parts.docs key WithFreqsAndPositions option (rw all refl) (or-true (not (has_positions option)))
    by false none = parts.docs key Basic option (rw (none, named) refl) served

module _ (query : Query) (part whole : OpenIndexState) (has : IsScoredPartFor query part whole) where
  abbrev terms : List QueryTermState
  terms = requested_terms query

  abbrev ranges : List QueryRangeState
  ranges = query_ranges query

  term_same : (t : QueryTermState) → SameTerm part whole t → IsBelow (length whole.readers) t → ((test : QueryTermState → Bool) → test t ≡ true → list_any test terms ≡ true) → IsSameTerm part whole t
  term_same t documents below found =
      let field = t.term.field in
      let key = t.term.value in
      let is_field = eq-eqb field field refl in
      let of_key : names_key Basic terms ranges field key ≡ true =
      rw (found (λ (u : QueryTermState). serves Basic u.option && (u.term.field == field) && bytes_eq u.term.value key) (rw (is_field, (bytes_eq-Decides key key).1 refl) refl)) refl in
      let of_field : names_field terms ranges field ≡ true = rw (found (λ (u : QueryTermState). u.term.field == field) is_field) refl in
      record {
        documents = documents;
        counts = same_docs WithFreqs refl terms ranges field key (slice_get part.readers field) (slice_get whole.readers field) (has.parts field) of_key;
        norms = has.norms field below ∙ ap (λ (named : Bool). if named then body_of field whole.fieldnorms else None) of_field;
      }

  all_same : AllByRecursion (IsSameTerm part whole) terms
  all_same =
      each_item (SameTerm part whole) (IsBelow (length whole.readers)) (IsSameTerm part whole) terms term_same
      (parts_are_same query part whole has.parts).terms (terms_below (length whole.readers) (tree_of query) has.fields)

pub parts_score_the_same : PartsScoreTheSame
parts_score_the_same query part whole statistics has doc =
    same_score part whole statistics doc (tree_of query) (all_same query part whole has) (parts_are_same query part whole has.parts).ranges

pub parts_are_damaged_the_same : PartsAreDamagedTheSame
parts_are_damaged_the_same query part whole has = same_damage part whole (tree_of query) (all_same query part whole has) (parts_are_same query part whole has.parts).ranges
