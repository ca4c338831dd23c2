-- A field whose files hold its tokens has no damages.
use Rattle.std.proofs.Common.{◌≡◌, ◌∙◌, ◌<◌, ◌≤◌, ◌==◌, ℕ, Bool, true, false, cond, List, [], ◌∷◌, Option, None, Some, Ok, refl, sym, ap, subst, arith}
use Rattle.std.specs.Prelude.{IfSome, MatchOption, bytes_eq}
use Rattle.std.specs.List.{AllByRecursion, filter_map, list_all, sum_by}
use Rattle.std.specs.List.Sorted.{IsStrictlySortedBy}
use Rattle.std.specs.Cmp.Lexicographic.{bytes_decides}
use Rattle.std.proofs.lemmas.Bool.{and_parts, eq-eqb, le-leb}
use Rattle.ii_base.specs.Entries.{Entry}
use Rattle.ii_base.specs.Options.{downgrade, has_freq}
use Rattle.ii_base.specs.Schema.{SchemaEntry}
use Rattle.ii_base.specs.declared.schema.index_record_option.IndexRecordOption.{IndexRecordOption}
use Rattle.ii_termstore.specs.declared.term_info.TermInfo.{TermInfo}
use Rattle.ii_termdict.specs.Dictionary.{TermEntry, entry_keys, info_under}
use Rattle.ii_termdict.specs.ReadBack.{AreAscending}
use Rattle.ii_definitions.specs.Files.{HoldsTerm}
use Rattle.ii_definitions.specs.JsonKeys.{is_key_of_text}
use Rattle.ii_definitions.specs.Postings.{doc_count, grouped, is_at, key_postings, kind_of, occurs, tokens_at}
use Rattle.ii_definitions.specs.Tokens.{IndexToken}
use Rattle.ii_definitions.proofs.GroupedLaws.{grouped_counted, filter_below, grouped_below}
use Rattle.ii_reader.specs.InvertedIndexReader.{InvertedIndexReaderState, ReaderHolds, term_of_file}
use Rattle.ii_reader.proofs.ReaderLemmas.{list_held}
use Rattle.ii_damage.specs.declared.damage.FieldPlaces.{FieldPlaces}
use Rattle.ii_damage.specs.Damages.{all_keep_counts, field_entries, freqs_where, keeps_counts, list_damage, may_have, stray_in, term_damage, term_damages, term_entries, num_occurrences, tokens_of_doc}
use Rattle.ii_base.proofs.OptionLemmas.{downgrade_same}
use Rattle.ii_damage.proofs.KeptLaws.{at_parts, cut_below, kind_kept, none_stray, occurs_at}
use Rattle.ii_termdict.proofs.LeastKey.{none_above}
use Rattle.ii_damage.proofs.SumLaws.{HaveKeys, cut_less, cut_same, doc_weight, grouped_weight, keys_weight, sum_equal, sum_less, sum_parts, token_weight, weight, weight_in}
use Rattle.ii_definitions.proofs.ListLaws.{all_weaker}

-- A reader has the tokens of a field, which fit its entry.
pub record IsSoundField (num_docs field : ℕ) (entry : SchemaEntry) (reader : InvertedIndexReaderState) (ts : List IndexToken) : Type 0 where
  pub option_is : reader.option ≡ entry.option
  pub holds : ReaderHolds field reader ts
  pub ascending : AreAscending (entry_keys reader.terms)
  pub below : AllByRecursion (λ (t : IndexToken). t.doc < num_docs) ts
  pub texts : AllByRecursion (λ (t : IndexToken). t.field ≡ field → t.of_text ≡ is_key_of_text entry.value_type t.key) ts

-- what a lookup of each key satisfies, each entry satisfies
pub each_by_key : (P : List ℕ → TermInfo → Type 0) (es : List TermEntry) → AreAscending (entry_keys es) → ((key : List ℕ) → IfSome (info_under key es) (P key)) → AllByRecursion (λ (e : TermEntry). P e.0 e.1) es
unfolding IsStrictlySortedBy
each_by_key P [] ascending known = tt
each_by_key P (e ∷ es) ascending known =
    let same : bytes_eq e.0 e.0 ≡ true = (bytes_decides e.0 e.0).1 refl in
    let here : IfSome (cond (bytes_eq e.0 e.0) (Some e.1) (info_under e.0 es)) (P e.0) = known e.0 in
    (rw same at here, each_by_key P es ascending.1 (λ key. later key (bytes_eq key e.0) refl))
  where
    later : (key : List ℕ) (t : Bool) → bytes_eq key e.0 ≡ t → IfSome (info_under key es) (P key)
    later key true is =
        let here : key ≡ e.0 = (bytes_decides key e.0).0 is in
        subst (λ (k : List ℕ). IfSome (info_under k es) (P k)) (sym here) (rw (none_above e.0 es ascending.0) tt)
    later key false other =
        let there : IfSome (cond (bytes_eq key e.0) (Some e.1) (info_under key es)) (P key) = known key in
        rw other at there

-- An entry of the dictionary gives the postings of its key.
abbrev pub GivesKey : ℕ → InvertedIndexReaderState → List IndexToken → TermEntry → Type 0
GivesKey field reader ts e = term_of_file reader reader.option e.1 ≡ Ok (key_postings reader.option field e.0 reader.option ts)

pub gives_keys : (num_docs field : ℕ) (entry : SchemaEntry) (reader : InvertedIndexReaderState) (ts : List IndexToken) → IsSoundField num_docs field entry reader ts → AllByRecursion (GivesKey field reader ts) reader.terms
gives_keys num_docs field entry reader ts sound =
    each_by_key (λ key info. term_of_file reader reader.option info ≡ Ok (key_postings reader.option field key reader.option ts)) reader.terms sound.ascending
    (λ key. by_look_up key (info_under key reader.terms) (sound.holds.exact key))
  where
    by_look_up : (key : List ℕ) (o : Option TermInfo) → MatchOption o (occurs field key ts ≡ false) (HoldsTerm reader.option field key reader.postings reader.positions ts)
        → IfSome o (λ info. term_of_file reader reader.option info ≡ Ok (key_postings reader.option field key reader.option ts))
    by_look_up key None none = tt
    by_look_up key (Some info) holds = list_held reader field key reader.option ts info holds

-- a list of a sound field has no document that is not in the index
key_below : (num_docs field : ℕ) (reader : InvertedIndexReaderState) (ts : List IndexToken) (key : List ℕ) → AllByRecursion (λ (t : IndexToken). t.doc < num_docs) ts
    → AllByRecursion (λ (e : Entry). e.doc < num_docs) (key_postings reader.option field key reader.option ts)
key_below num_docs field reader ts key below =
    cut_below num_docs (downgrade (kind_of reader.option (tokens_at field key ts)) reader.option) (grouped (tokens_at field key ts)) (grouped_below num_docs (tokens_at field key ts) (filter_below num_docs (is_at field key) ts below))

none_damaged : (num_docs field : ℕ) (reader : InvertedIndexReaderState) (ts : List IndexToken) (places : FieldPlaces) (e : TermEntry) → AllByRecursion (λ (t : IndexToken). t.doc < num_docs) ts → GivesKey field reader ts e
    → term_damage num_docs places reader e ≡ None
none_damaged num_docs field reader ts places e below gives =
    let none : stray_in num_docs (key_postings reader.option field e.0 reader.option ts) ≡ None = rw (none_stray num_docs (key_postings reader.option field e.0 reader.option ts) (key_below num_docs field reader ts e.0 below)) refl in
    let damage : list_damage num_docs (term_of_file reader reader.option e.1) ≡ None = rw gives (rw none refl) in
    rw damage refl

none_of : {X Y : Type 0} (f : X → Option Y) (xs : List X) → AllByRecursion (λ (x : X). f x ≡ None) xs → filter_map f xs ≡ []
none_of f [] all = refl
none_of f (x ∷ xs) all = rw (all.0, none_of f xs all.1) refl

-- no term of a sound field is damaged
pub no_term_damages : (num_docs field : ℕ) (entry : SchemaEntry) (reader : InvertedIndexReaderState) (ts : List IndexToken) (places : FieldPlaces) → IsSoundField num_docs field entry reader ts → term_damages num_docs places reader ≡ []
no_term_damages num_docs field entry reader ts places sound =
    none_of (term_damage num_docs places reader) reader.terms
    (all_weaker (GivesKey field reader ts) (λ e. term_damage num_docs places reader e ≡ None) reader.terms (λ e gives. none_damaged num_docs field reader ts places e sound.below gives) (gives_keys num_docs field entry reader ts sound))

-- each token of a sound field is under a key of its terms
keys_there : (num_docs field : ℕ) (entry : SchemaEntry) (reader : InvertedIndexReaderState) (ts : List IndexToken) → IsSoundField num_docs field entry reader ts → HaveKeys field reader.terms ts
keys_there num_docs field entry reader ts sound =
    all_weaker (λ (t : IndexToken). (t.field == field) ≡ true → occurs field t.key ts ≡ true) (λ (t : IndexToken). (t.field == field) ≡ true → (info : TermInfo) × (info_under t.key reader.terms ≡ Some info)) ts
    (λ t has is. by_look_up t.key (info_under t.key reader.terms) refl (sound.holds.exact t.key) (has is)) (occurs_at field ts)
  where
    by_look_up : (key : List ℕ) (o : Option TermInfo) → info_under key reader.terms ≡ o → MatchOption o (occurs field key ts ≡ false) (HoldsTerm reader.option field key reader.postings reader.positions ts)
        → occurs field key ts ≡ true → (info : TermInfo) × (info_under key reader.terms ≡ Some info)
    by_look_up key None is none some = absurd (let e = sym some ∙ none in cc)
    by_look_up key (Some info) is holds some = (info, is)

-- the lists of a sound field have at most its tokens
listed_less : (test : ℕ → Bool) (num_docs field : ℕ) (entry : SchemaEntry) (reader : InvertedIndexReaderState) (ts : List IndexToken) → IsSoundField num_docs field entry reader ts
    → freqs_where test (field_entries reader) ≤ sum_by (weight_in test field) ts
listed_less test num_docs field entry reader ts sound =
    let parts = sum_parts (weight test) (term_entries reader) reader.terms in
    let less : sum_by (λ (e : TermEntry). sum_by (weight test) (term_entries reader e)) reader.terms ≤ sum_by (λ (e : TermEntry). sum_by (token_weight test) (tokens_at field e.0 ts)) reader.terms =
    sum_less (λ (e : TermEntry). sum_by (weight test) (term_entries reader e)) (λ (e : TermEntry). sum_by (token_weight test) (tokens_at field e.0 ts)) reader.terms
    (all_weaker (GivesKey field reader ts) (λ (e : TermEntry). sum_by (weight test) (term_entries reader e) ≤ sum_by (token_weight test) (tokens_at field e.0 ts)) reader.terms each (gives_keys num_docs field entry reader ts sound)) in
    let keys = keys_weight test field reader.terms sound.ascending ts (keys_there num_docs field entry reader ts sound) in
    omega (arith, parts, less, keys)
  where
    each : (e : TermEntry) → GivesKey field reader ts e → sum_by (weight test) (term_entries reader e) ≤ sum_by (token_weight test) (tokens_at field e.0 ts)
    each e gives =
        let us = tokens_at field e.0 ts in
        let cut = cut_less (downgrade (kind_of reader.option us) reader.option) test (grouped us) (grouped_counted us) in
        let all = grouped_weight test us in
        let are : term_entries reader e ≡ key_postings reader.option field e.0 reader.option ts = rw gives refl in
        rw are (omega (arith, cut, all))

-- the tokens of a key of texts are all of texts
texts_at : (num_docs field : ℕ) (entry : SchemaEntry) (reader : InvertedIndexReaderState) (ts : List IndexToken) (key : List ℕ) → IsSoundField num_docs field entry reader ts → is_key_of_text entry.value_type key ≡ true
    → AllByRecursion (λ (t : IndexToken). is_at field key t ≡ true → t.of_text ≡ true) ts
texts_at num_docs field entry reader ts key sound text =
    all_weaker (λ (t : IndexToken). t.field ≡ field → t.of_text ≡ is_key_of_text entry.value_type t.key) (λ (t : IndexToken). is_at field key t ≡ true → t.of_text ≡ true) ts
    (λ t told is.
    let parts = at_parts field key t is in
    told parts.0 ∙ ap (is_key_of_text entry.value_type) parts.1 ∙ text)
    sound.texts

all_and : {X : Type 0} (p : X → Bool) (P : X → Type 0) (xs : List X) → list_all p xs ≡ true → AllByRecursion P xs → AllByRecursion (λ (x : X). (p x ≡ true) × P x) xs
all_and p P [] pass all = tt
all_and p P (x ∷ xs) pass all =
    let parts = and_parts (p x) (list_all p xs) pass in
    ((parts.0, all.0), all_and p P xs parts.1 all.1)

-- and exactly its tokens where counts are kept of each key
listed_same : (test : ℕ → Bool) (num_docs field : ℕ) (entry : SchemaEntry) (reader : InvertedIndexReaderState) (ts : List IndexToken) → IsSoundField num_docs field entry reader ts → all_keep_counts entry reader ≡ true
    → freqs_where test (field_entries reader) ≡ sum_by (weight_in test field) ts
listed_same test num_docs field entry reader ts sound kept =
    sum_parts (weight test) (term_entries reader) reader.terms
    ∙ sum_equal (λ (e : TermEntry). sum_by (weight test) (term_entries reader e)) (λ (e : TermEntry). sum_by (token_weight test) (tokens_at field e.0 ts)) reader.terms
    (all_weaker (λ (e : TermEntry). (keeps_counts entry e.0 ≡ true) × GivesKey field reader ts e) (λ (e : TermEntry). sum_by (weight test) (term_entries reader e) ≡ sum_by (token_weight test) (tokens_at field e.0 ts)) reader.terms each
    (all_and (λ (e : TermEntry). keeps_counts entry e.0) (GivesKey field reader ts) reader.terms kept (gives_keys num_docs field entry reader ts sound)))
    ∙ keys_weight test field reader.terms sound.ascending ts (keys_there num_docs field entry reader ts sound)
  where
    each : (e : TermEntry) → (keeps_counts entry e.0 ≡ true) × GivesKey field reader ts e → sum_by (weight test) (term_entries reader e) ≡ sum_by (token_weight test) (tokens_at field e.0 ts)
    each e both =
        let us = tokens_at field e.0 ts in
        let parts = and_parts (has_freq entry.option) (is_key_of_text entry.value_type e.0) both.0 in
        let kind = kind_kept reader.option field e.0 ts (texts_at num_docs field entry reader ts e.0 sound parts.1) in
        let option : downgrade (kind_of reader.option us) reader.option ≡ reader.option = ap (λ (o : IndexRecordOption). downgrade o reader.option) kind ∙ downgrade_same reader.option in
        let keeps : has_freq (downgrade (kind_of reader.option us) reader.option) ≡ true = ap has_freq option ∙ ap has_freq sound.option_is ∙ parts.0 in
        let are : term_entries reader e ≡ key_postings reader.option field e.0 reader.option ts = rw both.1 refl in
        ap (sum_by (weight test)) are ∙ cut_same (downgrade (kind_of reader.option us) reader.option) test (grouped us) keeps ∙ grouped_weight test us

-- a sound field may have its number of tokens
pub tokens_fit : (num_docs field : ℕ) (entry : SchemaEntry) (reader : InvertedIndexReaderState) (ts : List IndexToken) → IsSoundField num_docs field entry reader ts
    → may_have (all_keep_counts entry reader) reader.num_tokens (num_occurrences (field_entries reader)) ≡ true
tokens_fit num_docs field entry reader ts sound = by_kept (all_keep_counts entry reader) refl
  where
    by_kept : (b : Bool) → all_keep_counts entry reader ≡ b → may_have b reader.num_tokens (num_occurrences (field_entries reader)) ≡ true
    by_kept true kept = eq-eqb reader.num_tokens (num_occurrences (field_entries reader)) (sound.holds.counted ∙ sym (listed_same (λ _. true) num_docs field entry reader ts sound kept))
    by_kept false kept =
        let less = listed_less (λ _. true) num_docs field entry reader ts sound in
        let counted : reader.num_tokens ≡ sum_by (weight_in (λ _. true) field) ts = sound.holds.counted in
        le-leb (num_occurrences (field_entries reader)) reader.num_tokens (omega (arith, less, counted))

-- and its documents have the tokens that its lists say, where counts are kept of each key
pub doc_tokens : (num_docs field : ℕ) (entry : SchemaEntry) (reader : InvertedIndexReaderState) (ts : List IndexToken) (doc : ℕ) → IsSoundField num_docs field entry reader ts → all_keep_counts entry reader ≡ true
    → tokens_of_doc doc (field_entries reader) ≡ doc_count doc field ts
doc_tokens num_docs field entry reader ts doc sound kept = listed_same (λ d. d == doc) num_docs field entry reader ts sound kept ∙ doc_weight doc field ts
