-- Files that hold tokens which fit have no damages.
use Rattle.std.proofs.Common.{◌≡◌, ◌∙◌, ◌+◌, ◌<◌, ◌==◌, ℕ, zero, suc, Bool, true, false, not, List, [], ◌∷◌, length, nat_lt, Option, None, Some, Ok, Err, refl, sym, ap, subst, arith}
use Rattle.std.specs.Prelude.{IfOk, Result, Vec, is_some, slice_get, get_or}
use Rattle.std.specs.List.{AllByRecursion, enumerate_from, find, flat_map, range_with_len}
use Rattle.std.specs.declared.alloc.Global.{Global}
use Rattle.std.specs.List.Sorted.{IsStrictlySortedBy}
use Rattle.std.specs.Option.{option_map}
use Rattle.std.proofs.lemmas.Bool.{eq-eqb}
use Rattle.std.proofs.lemmas.List.Concat.{flat_map-cons}
use Rattle.std.proofs.lemmas.List.Folds.{find-append}
use Rattle.std.proofs.lemmas.List.FromFn.{get_or-map-range_with_len, length-map-range_with_len}
use Rattle.ii_base.proofs.AsciiLemmas.{range_more}
use Rattle.ii_io.specs.declared.faults.Fault.{Fault}
use Rattle.ii_io.specs.declared.faults.Part.{Part}
use Rattle.ii_io.specs.Composite.{Body, body_of, composite, table_of}
use Rattle.ii_base.specs.Entries.{Entry}
use Rattle.ii_base.specs.Schema.{SchemaEntry, keeps_norms}
use Rattle.ii_base.specs.declared.schema.index_record_option.IndexRecordOption.{IndexRecordOption}
use Rattle.ii_fieldnorm.specs.Norms.{id_of_norm}
use Rattle.ii_termdict.specs.Dictionary.{dictionary, entry_keys}
use Rattle.ii_termdict.specs.ReadBack.{AreAscending}
use Rattle.ii_termdict.proofs.OrderLemmas.{keys_are_ascending}
use Rattle.ii_definitions.specs.Fields.{option_of}
use Rattle.ii_definitions.specs.Files.{HoldTokens, HoldsField}
use Rattle.ii_definitions.specs.Norms.{HoldNorms, has_norms, norm_file, norm_ids}
use Rattle.ii_definitions.specs.JsonKeys.{is_key_of_text}
use Rattle.ii_definitions.specs.Postings.{doc_count, field_count}
use Rattle.ii_definitions.specs.Tokens.{IndexToken}
use Rattle.ii_definitions.proofs.GroupedLaws.{no_field}
use Rattle.ii_reader.specs.InvertedIndexReader.{InvertedIndexReaderState, reader_of_none}
use Rattle.ii_directory.specs.declared.name.Kind.{Kind}
use Rattle.ii_damage.specs.declared.damage.ByteRange.{ByteRange}
use Rattle.ii_damage.specs.Bodies.{body_in}
use Rattle.ii_damage.specs.Damages.{FoundDamageState, IndexFiles, all_keep_counts, bytes_of_field, damages_of, field_damages, field_entries, field_reader, is_other_norm, norm_damage, norms_damage, other_norm, field_places, reader_damages, reader_in, table_damages, token_damage, tokens_of_doc}
use Rattle.ii_damage.specs.Fits.{AllFit, Fits}
use Rattle.ii_reader.proofs.IndexLemmas.{no_body}
use Rattle.ii_damage.proofs.SoundFields.{IsSoundField, doc_tokens, no_term_damages, tokens_fit}
use Rattle.ii_definitions.proofs.ListLaws.{all_weaker}

-- what is made of something is made of something
some_mapped : {A B : Type 0} (f : A → B) (o : Option A) (b : B) → option_map f o ≡ Some b → is_some o ≡ true
some_mapped f None b is = absurd (cc)
some_mapped f (Some a) b is = refl

-- a file with bodies has a valid table
valid_table : (file : List ℕ) (bodies : List Body) → composite file ≡ Some bodies → is_some (table_of file) ≡ true
valid_table file bodies is = some_mapped _ (table_of file) bodies is

-- where no number of a range passes, none is found
none_in_range : (p : ℕ → Bool) (n : ℕ) → ((d : ℕ) → d < n → p d ≡ false) → find p (range_with_len 0 n) ≡ None
none_in_range p zero none = refl
none_in_range p (suc n) none =
    ap (find p) (range_more 0 n) ∙ find-append p (range_with_len 0 n) ((0 + n) ∷ []) ∙ rw (none_in_range p n (λ d low. none d (omega (arith, low)))) (last (0 + n) (omega arith))
  where
    last : (d : ℕ) → d < suc n → find p (d ∷ []) ≡ None
    last d low = rw (none d low) refl

-- the norms of a field are those of its documents
norms_same : (num_docs field : ℕ) (ts : List IndexToken) (es : List Entry) → ((doc : ℕ) → tokens_of_doc doc es ≡ doc_count doc field ts) → other_norm num_docs (norm_ids num_docs field ts) es ≡ None
norms_same num_docs field ts es same = none_in_range (is_other_norm (norm_ids num_docs field ts) es) num_docs each
  where
    each : (doc : ℕ) → doc < num_docs → is_other_norm (norm_ids num_docs field ts) es doc ≡ false
    each doc low =
        let there : get_or (norm_ids num_docs field ts) doc 0 ≡ id_of_norm (doc_count doc field ts) = get_or-map-range_with_len (λ (d : ℕ). id_of_norm (doc_count d field ts)) 0 num_docs doc doc 0 low (omega arith) in
        let equal : get_or (norm_ids num_docs field ts) doc 0 ≡ id_of_norm (tokens_of_doc doc es) = there ∙ ap id_of_norm (sym (same doc)) in
        ap not (eq-eqb (get_or (norm_ids num_docs field ts) doc 0) (id_of_norm (tokens_of_doc doc es)) equal)

norms_fit : (num_docs field : ℕ) (place : ByteRange) (ts : List IndexToken) (es : List Entry) (kept : Bool) → (kept ≡ true → (doc : ℕ) → tokens_of_doc doc es ≡ doc_count doc field ts)
    → norms_damage num_docs field place kept es (Some (norm_ids num_docs field ts)) ≡ None
norms_fit num_docs field place ts es true same =
    let many : (length (norm_ids num_docs field ts) == num_docs) ≡ true = eq-eqb (length (norm_ids num_docs field ts)) num_docs (length-map-range_with_len (λ (d : ℕ). id_of_norm (doc_count d field ts)) 0 num_docs) in
    rw (many, norms_same num_docs field ts es (same refl)) refl
norms_fit num_docs field place ts es false same =
    let many : (length (norm_ids num_docs field ts) == num_docs) ≡ true = eq-eqb (length (norm_ids num_docs field ts)) num_docs (length-map-range_with_len (λ (d : ℕ). id_of_norm (doc_count d field ts)) 0 num_docs) in
    rw many refl

no_norm_damage : (entries : List SchemaEntry) (files : IndexFiles) (ts : List IndexToken) (field : ℕ) (entry : SchemaEntry) (reader : InvertedIndexReaderState) → HoldNorms entries files.num_docs files.fieldnorms ts
    → slice_get entries field ≡ Some entry → IsSoundField files.num_docs field entry reader ts → norm_damage files field entry reader ≡ None
no_norm_damage entries files ts field entry reader norms at sound = by_norms (keeps_norms entry) refl
  where
    by_norms : (b : Bool) → keeps_norms entry ≡ b → norm_damage files field entry reader ≡ None
    by_norms false none = rw none refl
    by_norms true keeps =
        let has : has_norms entries field ≡ true = rw at keeps in
        let body : body_of field (norm_file entries files.num_docs ts) ≡ Some (norm_ids files.num_docs field ts) = rw has at (norms.exact field) in
        let in_file : body_in field (composite files.fieldnorms) ≡ Some (norm_ids files.num_docs field ts) = ap (body_in field) norms.opened ∙ body in
        let fit = norms_fit files.num_docs field (bytes_of_field field files.fieldnorms) ts (field_entries reader) (all_keep_counts entry reader) (λ kept doc. doc_tokens files.num_docs field entry reader ts doc sound kept) in
        rw (keeps, valid_table files.fieldnorms (norm_file entries files.num_docs ts) norms.opened, in_file) fit

no_token_damage : (files : IndexFiles) (ts : List IndexToken) (field : ℕ) (entry : SchemaEntry) (reader : InvertedIndexReaderState) → IsSoundField files.num_docs field entry reader ts → token_damage files field entry reader ≡ None
no_token_damage files ts field entry reader sound = rw (tokens_fit files.num_docs field entry reader ts sound) refl

-- a sound field has no damages
no_reader_damages : (entries : List SchemaEntry) (files : IndexFiles) (ts : List IndexToken) (field : ℕ) (entry : SchemaEntry) (reader : InvertedIndexReaderState)
    → HoldTokens (option_of entries) files.terms files.postings files.positions ts → HoldNorms entries files.num_docs files.fieldnorms ts
    → slice_get entries field ≡ Some entry → IsSoundField files.num_docs field entry reader ts → reader_damages files field entry reader ≡ []
no_reader_damages entries files ts field entry reader hold norms at sound =
    rw (
      no_term_damages files.num_docs field entry reader ts (field_places files field) sound,
      valid_table files.terms hold.term_bodies hold.opened_terms,
      no_token_damage files ts field entry reader sound,
      no_norm_damage entries files ts field entry reader norms at sound,
    )
    refl

-- The bodies of a field give a reader of its tokens.
abbrev GivesSound : ℕ → ℕ → SchemaEntry → List IndexToken → Result InvertedIndexReaderState (Kind × Part) → Type 0
GivesSound num_docs field entry ts found = (reader : InvertedIndexReaderState) × (found ≡ Ok reader) × IsSoundField num_docs field entry reader ts

none_ascending : AreAscending []
unfolding IsStrictlySortedBy
none_ascending = tt

ascending : (terms : List ℕ) (es : _) → dictionary terms ≡ Ok es → AreAscending (entry_keys es)
ascending terms es is = rw is at (keys_are_ascending terms (rw is refl))

sound_bodies : (num_docs field : ℕ) (entry : SchemaEntry) (ts : List IndexToken) (t p q : Option (List ℕ)) → AllByRecursion (λ (u : IndexToken). u.doc < num_docs) ts
    → AllByRecursion (λ (u : IndexToken). u.field ≡ field → u.of_text ≡ is_key_of_text entry.value_type u.key) ts
    → is_some t ≡ nat_lt 0 (field_count field ts) → is_some p ≡ nat_lt 0 (field_count field ts) → is_some q ≡ nat_lt 0 (field_count field ts)
    → ((terms postings positions : List ℕ) → t ≡ Some terms → p ≡ Some postings → q ≡ Some positions → HoldsField entry.option field terms postings positions ts)
    → GivesSound num_docs field entry ts (reader_in entry.option t p q)
sound_bodies num_docs field entry ts None p q below texts has_t has_p has_q held =
    let none = no_body (field_count field ts) has_t in
    (reader_of_none entry.option, refl, record { option_is = refl; holds = record { counted = sym none; exact = λ key. no_field field key ts none }; ascending = none_ascending; below = below; texts = texts })
sound_bodies num_docs field entry ts (Some t) None q below texts has_t has_p has_q held = absurd (let e = has_t ∙ sym has_p in cc)
sound_bodies num_docs field entry ts (Some t) (Some p) None below texts has_t has_p has_q held = absurd (let e = has_t ∙ sym has_q in cc)
sound_bodies num_docs field entry ts (Some t) (Some p) (Some q) below texts has_t has_p has_q held =
    let holds = held t p q refl refl refl in
    let reader : InvertedIndexReaderState = record (reader_of_none entry.option) { terms = holds.entries; postings = holds.postings_body; positions = q; num_tokens = field_count field ts } in
    let found : reader_in entry.option (Some t) (Some p) (Some q) ≡ Ok reader = rw (holds.sorted, holds.counted) refl in
    (reader, found, record { option_is = refl; holds = record { counted = refl; exact = holds.exact }; ascending = ascending t holds.entries holds.sorted; below = below; texts = texts })

texts_of : (entries : List SchemaEntry) (num_docs field : ℕ) (entry : SchemaEntry) (ts : List IndexToken) → slice_get entries field ≡ Some entry → AllFit entries num_docs ts
    → AllByRecursion (λ (u : IndexToken). u.field ≡ field → u.of_text ≡ is_key_of_text entry.value_type u.key) ts
texts_of entries num_docs field entry ts at fit =
    all_weaker (Fits entries num_docs) (λ (u : IndexToken). u.field ≡ field → u.of_text ≡ is_key_of_text entry.value_type u.key) ts
    (λ u fits same.
    let there : slice_get entries u.field ≡ Some entry = ap (slice_get entries) same ∙ at in
    rw there at fits.kind)
    fit

sound_reader : (entries : List SchemaEntry) (files : IndexFiles) (ts : List IndexToken) (field : ℕ) (entry : SchemaEntry) → HoldTokens (option_of entries) files.terms files.postings files.positions ts → AllFit entries files.num_docs ts
    → slice_get entries field ≡ Some entry → GivesSound files.num_docs field entry ts (field_reader files field entry.option)
sound_reader entries files ts field entry hold fit at =
    let option : option_of entries field ≡ entry.option = rw at refl in
    let has = hold.present field in
    let found = sound_bodies files.num_docs field entry ts (body_of field hold.term_bodies) (body_of field hold.postings_bodies) (body_of field hold.positions_bodies)
    (all_weaker (Fits entries files.num_docs) (λ (u : IndexToken). u.doc < files.num_docs) ts (λ u fits. fits.below) fit) (texts_of entries files.num_docs field entry ts at fit) has.0 has.1 has.2
    (λ t p q in_terms in_postings in_positions. subst (λ (o : IndexRecordOption). HoldsField o field t p q ts) option (hold.fields field t p q in_terms in_postings in_positions)) in
    rw (hold.opened_terms, hold.opened_postings, hold.opened_positions) found

no_field_damages : (entries : List SchemaEntry) (files : IndexFiles) (ts : List IndexToken) (field : ℕ) (entry : SchemaEntry) → HoldTokens (option_of entries) files.terms files.postings files.positions ts
    → HoldNorms entries files.num_docs files.fieldnorms ts → AllFit entries files.num_docs ts → slice_get entries field ≡ Some entry → field_damages files (field, entry) ≡ []
no_field_damages entries files ts field entry hold norms fit at =
    let (reader, found, sound) = sound_reader entries files ts field entry hold fit at in
    rw found (no_reader_damages entries files ts field entry reader hold norms at sound)

none_of_fields : (f : ℕ × SchemaEntry → List FoundDamageState) (n : ℕ) (entries : List SchemaEntry) → ((i : ℕ) (e : SchemaEntry) → slice_get entries i ≡ Some e → f (n + i, e) ≡ []) → flat_map f (enumerate_from n entries) ≡ []
none_of_fields f n [] each = refl
none_of_fields f n (e ∷ es) each =
    let zero_more : n + 0 ≡ n = omega arith in
    let first : f (n, e) ≡ [] = subst (λ (k : ℕ). f (k, e) ≡ []) zero_more (each 0 e refl) in
    let later : (i : ℕ) (g : SchemaEntry) → slice_get es i ≡ Some g → f (n + 1 + i, g) ≡ [] =
    λ i g at.
    let one : n + suc i ≡ n + 1 + i = omega arith in
    subst (λ (k : ℕ). f (k, g) ≡ []) one (each (suc i) g at) in
    flat_map-cons f (n, e) (enumerate_from (n + 1) es) ∙ rw (first, none_of_fields f (n + 1) es later) refl

no_table_damages : (files : IndexFiles) → is_some (table_of files.terms) ≡ true → is_some (table_of files.postings) ≡ true → is_some (table_of files.positions) ≡ true → is_some (table_of files.fieldnorms) ≡ true → table_damages files ≡ []
no_table_damages files terms postings positions norms = rw (terms, postings, positions, norms) refl

-- what holds tokens that fit has no damages
pub sound_files : (entries : List SchemaEntry) (files : IndexFiles) (ts : List IndexToken) → HoldTokens (option_of entries) files.terms files.postings files.positions ts
    → HoldNorms entries files.num_docs files.fieldnorms ts → AllFit entries files.num_docs ts → damages_of entries files ≡ []
sound_files entries files ts hold norms fit =
    let tables = no_table_damages files (valid_table files.terms hold.term_bodies hold.opened_terms) (valid_table files.postings hold.postings_bodies hold.opened_postings)
    (valid_table files.positions hold.positions_bodies hold.opened_positions) (valid_table files.fieldnorms (norm_file entries files.num_docs ts) norms.opened) in
    let fields = none_of_fields (field_damages files) 0 entries (λ i e at. each i e at) in
    rw (tables, fields) refl
  where
    each : (i : ℕ) (e : SchemaEntry) → slice_get entries i ≡ Some e → field_damages files (0 + i, e) ≡ []
    each i e at =
        let same : i ≡ 0 + i = omega arith in
        subst (λ (k : ℕ). field_damages files (k, e) ≡ []) same (no_field_damages entries files ts i e hold norms fit at)

-- so what finds the damages of such files finds none
pub finds_nothing : (entries : List SchemaEntry) (files seen : IndexFiles) (result : Result (Vec FoundDamageState Global) Fault) → seen ≡ files → IfOk result (λ found. found.items ≡ damages_of entries seen) → (ts : List IndexToken)
    → HoldTokens (option_of entries) files.terms files.postings files.positions ts → HoldNorms entries files.num_docs files.fieldnorms ts → AllFit entries files.num_docs ts → IfOk result (λ found. found.items ≡ [])
finds_nothing entries files seen (Ok found) same is ts hold norms fit = is ∙ ap (damages_of entries) same ∙ sound_files entries files ts hold norms fit
finds_nothing entries files seen (Err fault) same is ts hold norms fit = tt
