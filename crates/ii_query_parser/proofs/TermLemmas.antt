-- The terms of words and phrases.
use Rattle.std.proofs.Common.{◌≡◌, ◌∙◌, ℕ, ◌+◌, ◌<◌, ◌≤◌, Bool, true, false, ◌&&◌, ◌||◌, true≢false, List, [], ◌∷◌, ◌++◌, append_assoc, cond, drop, eqb, get_or, length, nat_lt, Option, None, Some, Result, Ok, Err, inl, inr, refl, sym, ap, arith, subst, add-one}
use Rattle.std.specs.Prelude.{IfErr, IfOk, IfSome, OnOk, bytes_eq, option_map, position, slice_get}
use Rattle.std.specs.List.{AllByRecursion, list_all, position_from, position_or_len}
use Rattle.std.specs.Option.{option_or}
use Rattle.std.specs.Result.{result_unwrap_or}
use Rattle.std.proofs.Math.Bool.{or-true}
use Rattle.std.proofs.Math.Seq.{drop-cons}
use Rattle.std.proofs.lemmas.Bool.{and_parts, eqb-true, lt-ltb, ltb-true}
use Rattle.std.proofs.lemmas.List.{append-nil, drop_all, length-append}
use Rattle.std.proofs.lemmas.List.Folds.{list_all-append}
use Rattle.std.proofs.lemmas.List.Sums.{passes_at_first}
use Rattle.std.proofs.lemmas.Option.{get_or_from_slice_get, same_Some, slice_get_within}
use Rattle.ii_io.specs.Faults.{OnlyMemory}
use Rattle.ii_io.specs.declared.faults.Fault.{Fault}
use Rattle.ii_base.specs.declared.schema.index_record_option.IndexRecordOption.{IndexRecordOption}
use Rattle.ii_base.specs.Options.{has_positions}
use Rattle.ii_base.specs.Paths.{has_zero}
use Rattle.ii_base.specs.declared.doc_id.TheConstants.{TERMINATED}
use Rattle.ii_base.specs.Schema.{SchemaEntry}
use Rattle.ii_base.specs.Terms.{TermState}
use Rattle.ii_base.specs.Values.{text_key}
use Rattle.ii_base.specs.Words.{Word}
use Rattle.ii_base.specs.declared.schema.value_type.ValueType.{ValueType}
use Rattle.ii_base.specs.declared.schema.value_type.ValueType.TheVariants as types
use Rattle.ii_json.specs.FastValues.{fast_value_in, with_value}
use Rattle.ii_definitions.specs.Fields.{option_of}
use Rattle.ii_query_parser.specs.declared.query.PhraseTerm.{PhraseTerm}
use Rattle.ii_query_parser.specs.declared.query_parser_error.QueryParserError.{QueryParserError}
use Rattle.ii_query_parser.specs.declared.query_parser_error.QueryParserError.TheVariants as errors
use Rattle.ii_definitions.specs.Tokens.{IndexToken}
use Rattle.ii_query_grammar.specs.Trees.{Ast, Literal, leaf}
use Rattle.ii_query_grammar.specs.declared.user_input_ast.Delimiter.{Delimiter}
use Rattle.ii_query_parser.specs.declared.query.Query.{Query}
use Rattle.ii_query_parser.specs.Queries.{covers_docs, has_fields, has_positions_in, keeps_positions, matches}
use Rattle.ii_query_parser.specs.QuerySteps.{Adds, AddsIn, AddsMaybe, AddsOrKeeps, AddsText, AddsUnlessLeft, IsPhraseIn, IsRefusedAs, are_in, phrase_kept, phrase_within}
use Rattle.ii_query_parser.specs.QueryTexts.{IsWhyRefused, Means, AnalyzedFields, FieldTexts, PhraseState, Terms, TextFields, ast_matches, ast_refusal, default_terms, first_left_out, has_one, has_term, if_left_out, in_field, is_alone, joined_terms, left_out, no_prefix, none_unless, one_term, path_key, path_value, refused, some_default, some_left, stand_after, terms_after, terms_in_field, terms_of, text_terms, typed_terms, value_term, words_phrase}

-- Terms were added, and those that are left come after them; together they are all.
pub record IsJoining (entries : List SchemaEntry) (all left : Terms) (old now : List PhraseState) : Type 0 where
  pub found : List PhraseState
  pub now_is : now ≡ old ++ found
  pub within : are_in entries found ≡ true
  pub whole : all ≡ joined_terms (Ok found) left

nothing_in_front : (found : Terms) → found ≡ joined_terms (Ok []) found
nothing_in_front (Ok terms) = refl
nothing_in_front (Err e) = refl

joined_on : (first more : List PhraseState) (found : Terms) → joined_terms (Ok first) (joined_terms (Ok more) found) ≡ joined_terms (Ok (first ++ more)) found
joined_on first more (Ok terms) = ap (λ (ps : List PhraseState). Ok ps) (sym (append_assoc first more terms))
joined_on first more (Err e) = refl

pub joins_none : (entries : List SchemaEntry) (all : Terms) (old : List PhraseState) → IsJoining entries all all old old
joins_none entries all old = record { found = []; now_is = sym (append-nil old); within = refl; whole = nothing_in_front all }

pub joins_more : (entries : List SchemaEntry) (all left here rest : Terms) (old now new ts : List PhraseState) → left ≡ joined_terms here rest → IsJoining entries all left old now → here ≡ Ok ts → new ≡ now ++ ts → are_in entries ts ≡ true → IsJoining entries all rest old new
joins_more entries all left here rest old now new ts left_is j is new_is within = record {
  found = j.found ++ ts;
  now_is = new_is ∙ ap (λ (ps : List PhraseState). ps ++ ts) j.now_is ∙ append_assoc old j.found ts;
  within = list_all-append (λ (p : PhraseState). phrase_within (length entries) p && phrase_kept entries p) j.found ts ∙ rw (j.within, within) refl;
  whole = j.whole ∙ ap (joined_terms (Ok j.found)) (left_is ∙ ap (λ (terms : Terms). joined_terms terms rest) is) ∙ joined_on j.found ts rest;
}

-- Terms of the fields so far were added, and those of the other fields come after them; the first field so far that is left out is known.
pub record IsGathering (q : FieldTexts) (phrase all fields : List ℕ) (left : Option ℕ) (old now : List PhraseState) : Type 0 where
  pub joined : IsJoining q.entries (default_terms q phrase all) (default_terms q phrase fields) old now
  pub first : option_or left (first_left_out q phrase fields) ≡ first_left_out q phrase all

-- nothing was added so far
pub gathers_none : (q : FieldTexts) (phrase all : List ℕ) (old : List PhraseState) → IsGathering q phrase all all None old old
gathers_none q phrase all old = record { joined = joins_none q.entries (default_terms q phrase all) old; first = refl }

field_at : (all : List ℕ) (i field : ℕ) → i < length all → field ≡ get_or all i field → drop i all ≡ field ∷ drop (i + 1) all
field_at all i field inside is = drop-cons all i field inside ∙ rw (← is, add-one i) refl

or_on : (left here later : Option ℕ) → option_or (option_or left here) later ≡ option_or left (option_or here later)
or_on None here later = refl
or_on (Some field) here later = refl

or_none : (left : Option ℕ) → option_or left None ≡ left
or_none None = refl
or_none (Some field) = refl

-- the terms of one field more
pub gathers_more : (q : FieldTexts) (phrase all : List ℕ) (i field : ℕ) (left here more : Option ℕ) (old now new : List PhraseState) → i < length all → field ≡ get_or all i field → IsGathering q phrase all (drop i all) left old now
    → AddsUnlessLeft field (terms_in_field (in_field q field) field [] phrase) q.entries now new (Ok here) → more ≡ option_or left here → IsGathering q phrase all (drop (i + 1) all) more old new
gathers_more q phrase all i field left here more old now new inside at g ((ts, is, new_is, within), here_is) more_is =
    let terms = terms_in_field (in_field q field) field [] phrase in
    record {
      joined = joins_more q.entries (default_terms q phrase all) _ (left_out terms) _ old now new ts (ap (default_terms q phrase) (field_at all i field inside at)) g.joined is new_is within;
      first =
          ap (λ (o : Option ℕ). option_or o (first_left_out q phrase (drop (i + 1) all))) (more_is ∙ ap (option_or left) here_is)
          ∙ or_on left (if_left_out field terms) (first_left_out q phrase (drop (i + 1) all))
          ∙ ap (λ (fields : List ℕ). option_or left (first_left_out q phrase fields)) (sym (field_at all i field inside at)) ∙ g.first;
    }

some_defaults : (q : FieldTexts) (phrase all : List ℕ) (i : ℕ) → i < length all → some_default q phrase all ≡ some_left (first_left_out q phrase all) (default_terms q phrase all)
some_defaults q phrase [] i inside = absurd (omega arith)
some_defaults q phrase (field ∷ fields) i inside = refl

pub why_joined : (first : List PhraseState) (terms others all : Terms) (e : QueryParserError) → all ≡ joined_terms (Ok first) (joined_terms terms others) → IsWhyRefused (refused terms) e → IsWhyRefused (refused all) e
why_joined first terms others all e is (inl memory) = inl memory
why_joined first (Err f) others all e is (inr why) = inr (ap refused is ∙ why)
why_joined first (Ok ts) others all e is (inr why) = absurd (cc)

why_left : (left : Option ℕ) (terms : Terms) (e : QueryParserError) → IsWhyRefused (refused terms) e → IsWhyRefused (refused (some_left left terms)) e
why_left left terms e (inl memory) = inl memory
why_left left (Err f) e (inr why) = inr why
why_left left (Ok ts) e (inr why) = absurd (cc)

pub why_of : (refusal : Option QueryParserError) (old new : List PhraseState) (e : QueryParserError) → IsRefusedAs refusal old new e → IsWhyRefused refusal e
why_of refusal old new e (inl memory) = inl memory
why_of refusal old new e (inr why) = inr why.0

pub adds_of : (terms : Terms) (entries : List SchemaEntry) (old new : List PhraseState) (r : Result (Unit {0}) QueryParserError) → AddsOrKeeps terms entries old new r → Adds terms entries old new r
adds_of terms entries old new (Ok done) adds = adds
adds_of terms entries old new (Err e) why = why_of (refused terms) old new e why

-- a field whose terms are refused
pub gathers_refused : (q : FieldTexts) (phrase all : List ℕ) (i field : ℕ) (left : Option ℕ) (old now new : List PhraseState) (e : QueryParserError) → i < length all → field ≡ get_or all i field → IsGathering q phrase all (drop i all) left old now
    → IsRefusedAs (refused (left_out (terms_in_field (in_field q field) field [] phrase))) now new e → IsWhyRefused (refused (some_default q phrase all)) e
gathers_refused q phrase all i field left old now new e inside here g why =
    subst (λ (terms : Terms). IsWhyRefused (refused terms) e) (sym (some_defaults q phrase all i inside))
    (why_left (first_left_out q phrase all) (default_terms q phrase all) e
    (why_joined g.joined.found (left_out (terms_in_field (in_field q field) field [] phrase)) (default_terms q phrase (drop (i + 1) all)) (default_terms q phrase all) e
    (g.joined.whole ∙ ap (λ (fields : List ℕ). joined_terms (Ok g.joined.found) (default_terms q phrase fields)) (field_at all i field inside here)) (why_of _ now new e why)))

gathered : (q : FieldTexts) (phrase all : List ℕ) (i : ℕ) (left : Option ℕ) (old now : List PhraseState) → length all ≤ i → (g : IsGathering q phrase all (drop i all) left old now) → default_terms q phrase all ≡ Ok g.joined.found
gathered q phrase all i left old now end g =
    g.joined.whole ∙ ap (λ (fields : List ℕ). joined_terms (Ok g.joined.found) (default_terms q phrase fields)) (drop_all i all end) ∙ ap (λ (ps : List PhraseState). Ok ps) (append-nil g.joined.found)

left_some : (left : Option ℕ) (found old now : List PhraseState) → now ≡ old ++ found → (length now ≡ length old → ⊥) → some_left left (Ok found) ≡ Ok found
left_some left [] old now is more = absurd (more (ap (λ (ps : List PhraseState). length ps) (is ∙ append-nil old)))
left_some left (t ∷ ts) old now is more = refl

-- all fields were looked at
pub gathers_all : (q : FieldTexts) (phrase all : List ℕ) (i : ℕ) (left : Option ℕ) (old now : List PhraseState) → 0 < length all → length all ≤ i → (length now ≡ length old → ⊥) → IsGathering q phrase all (drop i all) left old now → Adds (some_default q phrase all) q.entries old now (Ok tt)
gathers_all q phrase all i left old now some end more g =
    let j = g.joined in
    (j.found, some_defaults q phrase all 0 some ∙ ap (some_left (first_left_out q phrase all)) (gathered q phrase all i left old now end g) ∙ left_some (first_left_out q phrase all) j.found old now j.now_is more, j.now_is, j.within)

none_found : (found old now : List PhraseState) → now ≡ old ++ found → length now ≡ length old → found ≡ []
none_found [] old now is same = refl
none_found (t ∷ ts) old now is same = absurd (omega (arith, same, ap (λ (ps : List PhraseState). length ps) is, length-append old (t ∷ ts)))

-- no field has terms
nothing_gathered : (q : FieldTexts) (phrase all : List ℕ) (i : ℕ) (left : Option ℕ) (old now : List PhraseState) → 0 < length all → length all ≤ i → length now ≡ length old → IsGathering q phrase all (drop i all) left old now
    → some_default q phrase all ≡ none_unless left
nothing_gathered q phrase all i left old now some end same g =
    let none = none_found g.joined.found old now g.joined.now_is same in
    some_defaults q phrase all 0 some
    ∙ ap (some_left (first_left_out q phrase all)) (gathered q phrase all i left old now end g ∙ ap (λ (ps : List PhraseState). Ok ps) none)
    ∙ ap none_unless (sym g.first ∙ ap (λ (fields : List ℕ). option_or left (first_left_out q phrase fields)) (drop_all i all end) ∙ or_none left)

pub gathers_nothing : (q : FieldTexts) (phrase all : List ℕ) (i : ℕ) (left : Option ℕ) (old now : List PhraseState) (r : Result (Unit {0}) QueryParserError) → 0 < length all → length all ≤ i → length now ≡ length old → IsGathering q phrase all (drop i all) left old now
    → OnOk r (none_unless left ≡ Ok []) → IfErr r (λ (e : QueryParserError). none_unless left ≡ Err e) → Adds (some_default q phrase all) q.entries old now r
gathers_nothing q phrase all i left old now (Ok done) some end same g none why =
    let j = g.joined in
    let nothing = none_found j.found old now j.now_is same in
    ([], nothing_gathered q phrase all i left old now some end same g ∙ none, j.now_is ∙ ap (λ (ps : List PhraseState). old ++ ps) nothing, refl)
gathers_nothing q phrase all i left old now (Err e) some end same g none why = inr (ap refused (nothing_gathered q phrase all i left old now some end same g ∙ why))

typed_same : (analyze : List ℕ → List Word) (entries : List SchemaEntry) (field : ℕ) (keeps expand_dots : Bool) (path phrase : List ℕ) (t : ValueType)
    → typed_terms (record { analyze = analyze; entries = [] }) field keeps expand_dots path phrase t ≡ typed_terms (record { analyze = analyze; entries = entries }) field keeps expand_dots path phrase t
typed_same analyze entries field keeps expand_dots path phrase types.Str = refl
typed_same analyze entries field keeps expand_dots path phrase types.U64 = refl
typed_same analyze entries field keeps expand_dots path phrase types.I64 = refl
typed_same analyze entries field keeps expand_dots path phrase types.Bool = refl
typed_same analyze entries field keeps expand_dots path phrase types.Date = refl
typed_same analyze entries field keeps expand_dots path phrase types.Bytes = refl
typed_same analyze entries field keeps expand_dots path phrase types.IpAddr = refl
typed_same analyze entries field keeps expand_dots path phrase types.Json = refl

-- terms of a field that is there
others_within : (n field : ℕ) (os : List PhraseTerm) → field < n → AllByRecursion (λ (o : PhraseTerm). o.term.field ≡ field) os → list_all (λ (o : PhraseTerm). nat_lt o.term.field n) os ≡ true
others_within n field [] inside all = refl
others_within n field (o ∷ os) inside all = let here = all.0 in rw (lt-ltb o.term.field n (omega (arith, here, inside))) (others_within n field os inside all.1)

-- and of one that keeps positions
kept_in : (entries : List SchemaEntry) (field : ℕ) (e : SchemaEntry) (t : TermState) → slice_get entries field ≡ Some e → t.field ≡ field → has_positions e.option ≡ true → has_positions_in entries t ≡ true
kept_in entries field e t here is keeps = ap (λ (f : ℕ). has_positions (option_of entries f)) is ∙ rw here keeps

others_kept : (entries : List SchemaEntry) (field : ℕ) (e : SchemaEntry) (os : List PhraseTerm) → slice_get entries field ≡ Some e → has_positions e.option ≡ true → AllByRecursion (λ (o : PhraseTerm). o.term.field ≡ field) os
    → list_all (λ (o : PhraseTerm). has_positions_in entries o.term) os ≡ true
others_kept entries field e [] here keeps all = refl
others_kept entries field e (o ∷ os) here keeps all = rw (kept_in entries field e o.term here all.0 keeps) (others_kept entries field e os here keeps all.1)

phrase_in : (entries : List SchemaEntry) (field : ℕ) (e : SchemaEntry) (p : PhraseState) → slice_get entries field ≡ Some e → IsPhraseIn field (has_positions e.option) p → (phrase_within (length entries) p && phrase_kept entries p) ≡ true
phrase_in entries field e p here is =
    let inside = slice_get_within entries field e here in
    let first = is.first in
    let within : phrase_within (length entries) p ≡ true = rw (lt-ltb p.first.field (length entries) (omega (arith, first, inside))) (others_within (length entries) field p.others inside is.others) in
    rw within (kept (has_positions e.option) refl (is_alone p) refl is.kept)
  where
    kept : (k : Bool) → has_positions e.option ≡ k → (a : Bool) → is_alone p ≡ a → (has_positions e.option || is_alone p) ≡ true → phrase_kept entries p ≡ true
    kept k keeps true alone either = rw alone refl
    kept true keeps false alone either = rw (alone, kept_in entries field e p.first here is.first keeps) (others_kept entries field e p.others here keeps is.others)
    kept false keeps false alone either = absurd (true≢false (sym (rw (keeps, alone) at either)))

within_by : (entries : List SchemaEntry) (field : ℕ) (e : SchemaEntry) (ts : List PhraseState) → slice_get entries field ≡ Some e → AllByRecursion (IsPhraseIn field (has_positions e.option)) ts → are_in entries ts ≡ true
within_by entries field e [] here all = refl
within_by entries field e (t ∷ ts) here all = rw (phrase_in entries field e t here all.0) (within_by entries field e ts here all.1)

adds_by : (terms : Terms) (entries : List SchemaEntry) (field : ℕ) (e : SchemaEntry) (old new : List PhraseState) (r : Result (Unit {0}) QueryParserError) → slice_get entries field ≡ Some e → AddsIn terms field (has_positions e.option) old new r → AddsOrKeeps terms entries old new r
adds_by terms entries field e old new (Ok done) here (ts, terms_is, new_is, all) = (ts, terms_is, new_is, within_by entries field e ts here all)
adds_by terms entries field e old new (Err error) here why = why

-- the terms of a field that is indexed
pub entry_adds : (analyze : List ℕ → List Word) (entries : List SchemaEntry) (field : ℕ) (path phrase : List ℕ) (e : SchemaEntry) (t : ValueType) (option : IndexRecordOption) (expand_dots : Bool) (old new : List PhraseState) (r : Result (Unit {0}) QueryParserError)
    → slice_get entries field ≡ Some e → e.is_indexed ≡ true → t ≡ e.value_type → option ≡ e.option → expand_dots ≡ e.expands_dots
    → AddsIn (typed_terms (record { analyze = analyze; entries = [] }) field (has_positions option) expand_dots path phrase t) field (has_positions option) old new r
    → AddsOrKeeps (terms_in_field (record { analyze = analyze; entries = entries }) field path phrase) entries old new r
entry_adds analyze entries field path phrase e t option expand_dots old new r here indexed type_is option_is dots_is adds =
    subst (λ (terms : Terms). AddsOrKeeps terms entries old new r)
    (typed_same analyze entries field (has_positions e.option) expand_dots path phrase t
    ∙ rw (type_is, dots_is, here, indexed) refl)
    (adds_by _ entries field e old new r here (subst (λ (o : IndexRecordOption). AddsIn (typed_terms (record { analyze = analyze; entries = [] }) field (has_positions o) expand_dots path phrase t) field (has_positions o) old new r) option_is adds))

after_fields : (prefix : TermState) (first : ℕ) (ws : List Word) → AllByRecursion (λ (o : PhraseTerm). o.term.field ≡ prefix.field) (terms_after prefix first ws)
after_fields prefix first [] = tt
after_fields prefix first (w ∷ ws) = (refl, after_fields prefix first ws)

-- The terms of a phrase are of a field.
abbrev pub IsOfField : ℕ → PhraseState → Type 0
IsOfField field p = (p.first.field ≡ field) × AllByRecursion (λ (o : PhraseTerm). o.term.field ≡ field) p.others

words_field : (prefix : TermState) (ws : List Word) (p : PhraseState) → words_phrase prefix ws ≡ Some p → IsOfField prefix.field p
words_field prefix [] p is = absurd (cc)
words_field prefix (w ∷ ws) p is = by (stand_after w.position ws) refl is
  where
    by : (b : Bool) → stand_after w.position ws ≡ b → words_phrase prefix (w ∷ ws) ≡ Some p → IsOfField prefix.field p
    by true after is = subst (IsOfField prefix.field) (same_Some _ p (rw after at is)) (refl, after_fields prefix w.position ws)
    by false after is = absurd (let none = rw after at is in cc)

alone_in : (field : ℕ) (keeps : Bool) (t : TermState) → t.field ≡ field → IsPhraseIn field keeps (one_term t)
alone_in field keeps t is = record { first = is; others = tt; kept = or-true keeps }

ok_is : (a b : List PhraseState) (x : Terms) → x ≡ Ok a → x ≡ Ok b → a ≡ b
ok_is a b x first other = ap (λ (r : Terms). result_unwrap_or r []) (sym first ∙ other)

-- the term of a value that was read, or the fault of reading it
pub value_adds : {B : Type 0} (field : ℕ) (keeps : Bool) (key : B → List ℕ) (read : Option B) (error : QueryParserError) (term : Result (Option TermState) Fault) (old new : List PhraseState) (r : Result (Unit {0}) QueryParserError)
    → IfOk term (λ (t : Option TermState). t ≡ option_map (λ (b : B). record { field = field; value = key b }) read) → OnlyMemory term → IfOk term (λ (t : Option TermState). AddsMaybe t error old new r) → IfErr term (λ (fault : Fault). r ≡ Err (errors.Fault fault))
    → AddsIn (value_term field error (option_map key read)) field keeps old new r
value_adds field keeps key None error (Ok t) old new (Ok done) is memory adds refused = absurd (rw is at adds)
value_adds field keeps key None error (Ok t) old new (Err e) is memory adds refused = let told = rw is at adds in inr (ap (λ (x : QueryParserError). Some x) (sym told.0), told.1)
value_adds field keeps key (Some b) error (Ok t) old new (Ok done) is memory adds refused = (one_term (record { field = field; value = key b }) ∷ [], refl, (rw is at adds), (alone_in field keeps (record { field = field; value = key b }) refl, tt))
value_adds field keeps key (Some b) error (Ok t) old new (Err e) is memory adds refused = inl (rw is at adds)
value_adds field keeps key read error (Err fault) old new (Err e) is memory adds refused = inl (cc)
value_adds field keeps key read error (Err fault) old new (Ok done) is memory adds refused = absurd (cc)

-- and that of bytes, which are their own key
pub bytes_add : (field : ℕ) (keeps : Bool) (read : Option (List ℕ)) (error : QueryParserError) (term : Result (Option TermState) Fault) (old new : List PhraseState) (r : Result (Unit {0}) QueryParserError)
    → IfOk term (λ (t : Option TermState). t ≡ option_map (λ (k : List ℕ). record { field = field; value = k }) read) → OnlyMemory term → IfOk term (λ (t : Option TermState). AddsMaybe t error old new r) → IfErr term (λ (fault : Fault). r ≡ Err (errors.Fault fault))
    → AddsIn (value_term field error read) field keeps old new r
bytes_add field keeps read error term old new r is memory adds refused =
    subst (λ (o : Option (List ℕ)). AddsIn (value_term field error o) field keeps old new r) (same read) (value_adds field keeps (λ k. k) read error term old new r is memory adds refused)
  where
    same : (o : Option (List ℕ)) → option_map (λ (k : List ℕ). k) o ≡ o
    same None = refl
    same (Some k) = refl

-- what a text is looked up by is of its field
text_in : (field : ℕ) (keeps : Bool) (value : Option TermState) (ws : List Word) (words : Option PhraseState) (ts : List PhraseState) → IfSome value (λ t. t.field ≡ field) → ((p : PhraseState) → words ≡ Some p → IsOfField field p) → text_terms field keeps value ws words ≡ Ok ts
    → AllByRecursion (IsPhraseIn field keeps) ts
text_in field keeps None [] None ts of_value of_words is = subst (AllByRecursion (IsPhraseIn field keeps)) (ok_is [] ts _ refl is) tt
text_in field keeps None (w ∷ ws) None ts of_value of_words is = absurd (cc)
text_in field keeps (Some v) ws None ts of_value of_words is = subst (AllByRecursion (IsPhraseIn field keeps)) (ok_is _ ts _ refl is) (alone_in field keeps v of_value, tt)
text_in field keeps value ws (Some p) ts of_value of_words is = by (keeps || is_alone p) refl (of_words p refl) value of_value is
  where
    by : (b : Bool) → (keeps || is_alone p) ≡ b → IsOfField field p → (v : Option TermState) → IfSome v (λ t. t.field ≡ field) → text_terms field keeps v ws (Some p) ≡ Ok ts → AllByRecursion (IsPhraseIn field keeps) ts
    by true kept of_field None of_v is = subst (AllByRecursion (IsPhraseIn field keeps)) (ok_is _ ts _ refl (rw kept at is)) (record { first = of_field.0; others = of_field.1; kept = kept }, tt)
    by true kept of_field (Some v) of_v is = subst (AllByRecursion (IsPhraseIn field keeps)) (ok_is _ ts _ refl (rw kept at is)) (alone_in field keeps v of_v, (record { first = of_field.0; others = of_field.1; kept = kept }, tt))
    by false kept of_field v of_v is = absurd (let none = rw kept at is in cc)

text_adds : (field : ℕ) (keeps : Bool) (value : Option TermState) (ws : List Word) (words : Option PhraseState) (old new : List PhraseState) (r : Result (Unit {0}) QueryParserError) → IfSome value (λ t. t.field ≡ field) → ((p : PhraseState) → words ≡ Some p → IsOfField field p)
    → AddsText (text_terms field keeps value ws words) old new r → AddsIn (text_terms field keeps value ws words) field keeps old new r
text_adds field keeps value ws words old new (Ok done) of_value of_words (ts, is, new_is) = (ts, is, new_is, text_in field keeps value ws words ts of_value of_words is)
text_adds field keeps value ws words old new (Err e) of_value of_words why = why

-- the terms of a text in a field of texts
pub str_adds : (q : TextFields) (field : ℕ) (keeps expand_dots : Bool) (path phrase : List ℕ) (old new : List PhraseState) (r : Result (Unit {0}) QueryParserError)
    → AddsText (text_terms field keeps None (q.analyze phrase) (words_phrase (record { field = field; value = [] }) (q.analyze phrase))) old new r → AddsIn (typed_terms q field keeps expand_dots path phrase types.Str) field keeps old new r
str_adds q field keeps expand_dots path phrase old new r adds = text_adds field keeps None (q.analyze phrase) _ old new r tt (words_field (record { field = field; value = [] }) (q.analyze phrase)) adds

value_field : (field : ℕ) (key : List ℕ) (o : Option (List ℕ)) → IfSome (option_map (λ (v : List ℕ). record { field = field; value = key ++ v }) o) (λ (t : TermState). t.field ≡ field)
value_field field key None = tt
value_field field key (Some v) = refl

-- the terms at a path
pub json_adds : (q : TextFields) (field : ℕ) (keeps expand_dots : Bool) (path phrase : List ℕ) (start prefix : TermState) (value : Option TermState) (words : Option PhraseState) (old new : List PhraseState) (r : Result (Unit {0}) QueryParserError)
    → has_zero path ≡ false → start ≡ record { field = field; value = path_key expand_dots path } → value ≡ option_map (with_value start) (fast_value_in phrase) → prefix ≡ record { field = start.field; value = start.value ++ text_key [] }
    → words ≡ words_phrase prefix (q.analyze phrase) → AddsText (text_terms field keeps value (q.analyze phrase) words) old new r → AddsIn (typed_terms q field keeps expand_dots path phrase types.Json) field keeps old new r
json_adds q field keeps expand_dots path phrase start prefix value words old new r no_zero start_is value_is prefix_is words_are adds =
    let at : TermState = record { field = field; value = path_key expand_dots path ++ text_key [] } in
    let prefix_at : prefix ≡ at = rw (prefix_is, start_is) refl in
    let value_at : value ≡ path_value field expand_dots path phrase = rw (value_is, start_is) refl in
    let words_at : words ≡ words_phrase at (q.analyze phrase) = words_are ∙ ap (λ (t : TermState). words_phrase t (q.analyze phrase)) prefix_at in
    let all = text_adds field keeps (path_value field expand_dots path phrase) (q.analyze phrase) (words_phrase at (q.analyze phrase)) old new r (value_field field (path_key expand_dots path) (fast_value_in phrase)) (words_field at (q.analyze phrase))
    (subst (λ (v : Option TermState). AddsText (text_terms field keeps v (q.analyze phrase) (words_phrase at (q.analyze phrase))) old new r) value_at
    (subst (λ (w : Option PhraseState). AddsText (text_terms field keeps value (q.analyze phrase) w) old new r) words_at adds)) in
    rw no_zero all

-- a path that has byte 0 in it
pub zero_refused : (q : TextFields) (field : ℕ) (keeps expand_dots : Bool) (path phrase : List ℕ) (terms : List PhraseState) → has_zero path ≡ true → IsRefusedAs (refused (typed_terms q field keeps expand_dots path phrase types.Json)) terms terms (errors.UnsupportedPath field)
zero_refused q field keeps expand_dots path phrase terms has = inr (rw has refl, refl)

entry_at : (entries : List SchemaEntry) (i : ℕ) (e : SchemaEntry) → slice_get entries i ≡ Some e → drop i entries ≡ e ∷ drop (i + 1) entries
entry_at entries i e here =
    drop-cons entries i e (slice_get_within entries i e here) ∙ rw (get_or_from_slice_get entries i e e here, add-one) refl

-- the field of a name is here, or later
pub named_here : (entries : List SchemaEntry) (name : List ℕ) (i : ℕ) (e : SchemaEntry) → slice_get entries i ≡ Some e → bytes_eq e.name name ≡ true
    → position_from (λ (x : SchemaEntry). bytes_eq x.name name) i (drop i entries) ≡ Some i
named_here entries name i e here is = ap (position_from (λ (x : SchemaEntry). bytes_eq x.name name) i) (entry_at entries i e here) ∙ rw is refl

pub named_later : (entries : List SchemaEntry) (name : List ℕ) (i : ℕ) (e : SchemaEntry) → slice_get entries i ≡ Some e → bytes_eq e.name name ≡ false
    → position_from (λ (x : SchemaEntry). bytes_eq x.name name) i (drop i entries) ≡ position_from (λ (x : SchemaEntry). bytes_eq x.name name) (i + 1) (drop (i + 1) entries)
named_later entries name i e here is = ap (position_from (λ (x : SchemaEntry). bytes_eq x.name name) i) (entry_at entries i e here) ∙ rw is refl

-- what a number under a condition says
pub some_if : (t : Bool) (n i : ℕ) → cond t (Some n) None ≡ Some i → (t ≡ true) × (n ≡ i)
some_if true n i e = (refl, cc)
some_if false n i e = absurd (cc)

-- where the first dot of a name stands
pub dot_at : (name : List ℕ) (i : ℕ) → position (λ b. eqb b 46) name ≡ Some i → (i < length name) × (get_or name i 0 ≡ 46)
dot_at name i is =
    let found = some_if (nat_lt (position_or_len (λ b. eqb b 46) name) (length name)) (position_or_len (λ b. eqb b 46) name) i is in
    let inside = ltb-true (position_or_len (λ b. eqb b 46) name) (length name) found.0 in
    (rw found.1 at inside, eqb-true (get_or name i 0) 46 (rw found.1 at (passes_at_first (λ b. eqb b 46) name 0 inside)))

all_split : (f g : PhraseState → Bool) (ps : List PhraseState) → list_all (λ (p : PhraseState). f p && g p) ps ≡ true → (list_all f ps ≡ true) × (list_all g ps ≡ true)
all_split f g [] all = (refl, refl)
all_split f g (p ∷ ps) all =
    let parts = and_parts (f p && g p) (list_all (λ (x : PhraseState). f x && g x) ps) all in
    let here = and_parts (f p) (g p) parts.0 in
    let later = all_split f g ps parts.1 in
    (rw here.0 later.0, rw here.1 later.1)

-- what terms mean that a tree is looked up by
pub terms_mean : (q : AnalyzedFields) (ast : Ast) (delimiter : Delimiter) (found : Terms) (query : Query) (terms : List PhraseState) → ast_refusal q ast ≡ refused found → ((ts : List IndexToken) (doc : ℕ) → ast_matches q ast ts doc ≡ has_one delimiter ts doc found)
    → Adds found q.texts.entries [] terms (Ok tt) → ((ts : List IndexToken) (doc : ℕ) → matches query ts doc ≡ has_term delimiter ts doc terms)
    → ((n : ℕ) → has_fields n query ≡ list_all (phrase_within n) terms) → ((entries : List SchemaEntry) → keeps_positions entries query ≡ list_all (phrase_kept entries) terms) → ((n : ℕ) → covers_docs n query ≡ true) → Means q ast query
terms_mean q ast delimiter found query terms taken exact (ts, is, new_is, within) means fields positions covers =
    let all = all_split (phrase_within (length q.texts.entries)) (phrase_kept q.texts.entries) ts within in
    record {
      taken = taken ∙ ap refused is;
      exact = λ tokens doc. means tokens doc ∙ ap (has_term delimiter tokens doc) new_is ∙ sym (exact tokens doc ∙ ap (has_one delimiter tokens doc) is);
      fields = fields (length q.texts.entries) ∙ ap (list_all (phrase_within (length q.texts.entries))) new_is ∙ all.0;
      positions = positions q.texts.entries ∙ ap (list_all (phrase_kept q.texts.entries)) new_is ∙ all.1;
      covers = covers TERMINATED;
    }

-- what a word or a phrase means
pub leaf_means : (q : AnalyzedFields) (l : Literal) (query : Query) (terms : List PhraseState) → Adds (terms_of q l) q.texts.entries [] terms (Ok tt) → ((ts : List IndexToken) (doc : ℕ) → matches query ts doc ≡ has_term l.delimiter ts doc terms)
    → ((n : ℕ) → has_fields n query ≡ list_all (phrase_within n) terms) → ((entries : List SchemaEntry) → keeps_positions entries query ≡ list_all (phrase_kept entries) terms) → ((n : ℕ) → covers_docs n query ≡ true) → Means q (leaf l) query
leaf_means q l query terms adds means fields positions covers = terms_mean q (leaf l) l.delimiter (terms_of q l) query terms refl (λ ts doc. refl) adds means fields positions covers

-- Each of the terms before a place may be a prefix.
pub record ArePrefixes (entries : List SchemaEntry) (terms : List PhraseState) (i : ℕ) : Type 0 where
  pub left : no_prefix entries terms ≡ no_prefix entries (drop i terms)
  pub alone : list_all is_alone terms ≡ list_all is_alone (drop i terms)
