-- Opening the fields of an index.
use Rattle.std.proofs.Common.{◌≡◌, ◌∙◌, ◌+◌, ◌^◌, ◌<◌, ◌≤◌, ◌++◌, ◌∷◌, [], ℕ, zero, suc, inl, inr, Bool, true, false, List, get_or, Option, None, Some, Ok, Err, length, map, nat_lt, is_some, refl, sym, ap, subst, arith}
use Rattle.std.specs.Prelude.{◌⊎◌, ◌↔◌, Result, IfErr, IfOk, IsErrOf, IsOkAnd, IsSome, IsSomeAnd, if◌then◌else◌, ok_or, slice_get, slice_index}
use Rattle.std.specs.Option.{option_map}
use Rattle.std.specs.List.{enumerate_from}
use Rattle.std.proofs.lemmas.List.{append_assoc}
use Rattle.std.proofs.lemmas.List.FromFn.{get_or-map-range_with_len, length-map-range_with_len}
use Rattle.std.proofs.lemmas.Bool.{ltb-false}
use Rattle.ii_io.specs.declared.faults.Fault.{Fault}
use Rattle.ii_io.specs.declared.faults.Fault.TheVariants.{Damaged, OutOfMemory}
use Rattle.ii_io.specs.declared.faults.Part.{Part}
use Rattle.ii_io.specs.declared.faults.Part.TheVariants.{Composite, FieldNorms}
use Rattle.ii_io.specs.Parts.{◌>>=◌}
use Rattle.ii_io.specs.Composite.{Body, body_of, composite}
use Rattle.ii_io.specs.Numbers.{number_at}
use Rattle.ii_base.specs.Schema.{SchemaEntry}
use Rattle.ii_base.specs.declared.schema.index_record_option.IndexRecordOption.{IndexRecordOption}
use Rattle.ii_definitions.specs.Tokens.{IndexToken}
use Rattle.ii_definitions.specs.Fields.{option_of}
use Rattle.ii_definitions.specs.Postings.{doc_count, field_count}
use Rattle.ii_definitions.specs.Files.{HoldTokens, HoldsField}
use Rattle.ii_definitions.specs.Norms.{HoldNorms, has_norms, norm_file, norm_ids}
use Rattle.ii_fieldnorm.specs.Norms.{id_of_norm}
use Rattle.ii_fieldnorm.specs.Readers.{Norms, norms_of_ids}
use Rattle.ii_reader.specs.InvertedIndexReader.{InvertedIndexReaderState, IsRefusal, ReaderHolds, reader_of_none}
use Rattle.ii_reader.specs.OpenIndex.{AnswersNorms, FieldReaderHolds, GivesNorms, GivesReaders, IndexBodies, IndexHolds, NormsHold, ReadersHold, all_or_first, field_readers, OpenIndexState, index_bodies, index_of_files, index_of_terms, reader_if, reader_of_field}
use Rattle.ii_definitions.proofs.GroupedLaws.{no_field}

-- a list before what others give
abbrev pub in_front : {A : Type 0} → List A → Result (List A) Part → Result (List A) Part
in_front done (Ok others) = Ok (done ++ others)
in_front done (Err part) = Err part

pub in_front_of_none : {A : Type 0} (all : Result (List A) Part) → all ≡ in_front [] all
in_front_of_none (Ok xs) = refl
in_front_of_none (Err part) = refl

in_front_of : {A : Type 0} (done : List A) (x : A) (others : Result (List A) Part) → in_front done (others >>= λ (xs : List A). Ok (x ∷ xs)) ≡ in_front (done ++ x ∷ []) others
in_front_of done x (Ok others) = ap Ok (sym (append_assoc done (x ∷ []) others))
in_front_of done x (Err part) = refl

-- one more of them
pub one_more : {A : Type 0} (all : Result (List A) Part) (done : List A) (found : Result A Part) (others : List (Result A Part)) (x : A) → all ≡ in_front done (all_or_first (found ∷ others)) → found ≡ Ok x
    → all ≡ in_front (done ++ x ∷ []) (all_or_first others)
one_more all done found others x is given = is ∙ (rw given (in_front_of done x (all_or_first others)))

length_more : {A : Type 0} (found : Result A Part) (others : Result (List A) Part) (n : ℕ) (xs : List A) → ((ys : List A) → others ≡ Ok ys → length ys ≡ n)
    → (found >>= λ (x : A). others >>= λ (ys : List A). Ok (x ∷ ys)) ≡ Ok xs → length xs ≡ suc n
length_more (Ok x) (Ok ys) n xs more is = let e : x ∷ ys ≡ xs = cc in rw (← e) (ap suc (more ys refl))
length_more (Ok x) (Err part) n xs more is = absurd (cc)
length_more (Err part) others n xs more is = absurd (cc)

-- as many readers as fields
readers_length : {A : Type 0} (give : ℕ × SchemaEntry → Result A Part) (n : ℕ) (entries : List SchemaEntry) (xs : List A) → all_or_first (map give (enumerate_from n entries)) ≡ Ok xs → length xs ≡ length entries
readers_length give n [] xs is = let e : [] ≡ xs = cc in rw (← e) refl
readers_length give n (e ∷ es) xs is =
    length_more (give (n, e)) (all_or_first (map give (enumerate_from (n + 1) es))) (length es) xs (λ ys. readers_length give (n + 1) es ys) is

pub many_fields : (bodies : IndexBodies) (entries : List SchemaEntry) (readers : List InvertedIndexReaderState) → field_readers bodies entries ≡ Ok readers → length readers ≡ length entries
many_fields bodies entries readers is = readers_length (λ (f : ℕ × SchemaEntry). reader_of_field bodies f.0 f.1.option) 0 entries readers is

-- the readers of three files, or the first part that fails
abbrev three_files : List ℕ → List ℕ → List ℕ → List SchemaEntry → Result (List InvertedIndexReaderState) Part
three_files terms postings positions entries = index_bodies terms postings positions >>= λ (bodies : IndexBodies). field_readers bodies entries

-- what is well
abbrev fine : {A : Type 0} → A → Result A Part
fine x = Ok x

-- the index of bodies, norms and readers
abbrev with_parts : Result IndexBodies Part → Result (List Body) Part → (IndexBodies → Result (List InvertedIndexReaderState) Part) → Result OpenIndexState Part
with_parts tables norms read = tables >>= λ (bodies : IndexBodies). norms >>= λ (fieldnorms : List Body). read bodies >>= λ (readers : List InvertedIndexReaderState). Ok (record { readers = readers; fieldnorms = fieldnorms })

abbrev with_readers : List Body → Result (List InvertedIndexReaderState) Part → Result OpenIndexState Part
with_readers fieldnorms found = found >>= λ (readers : List InvertedIndexReaderState). Ok (record { readers = readers; fieldnorms = fieldnorms })

-- what an opened index holds
opened_parts : (tables : Result IndexBodies Part) (norms : Result (List Body) Part) (read : IndexBodies → Result (List InvertedIndexReaderState) Part) (index : OpenIndexState)
    → with_parts tables norms read ≡ Ok index → ((tables >>= read) ≡ Ok index.readers) × (norms ≡ Ok index.fieldnorms)
opened_parts (Err part) norms read index is = absurd (cc)
opened_parts (Ok bodies) (Err part) read index is = absurd (cc)
opened_parts (Ok bodies) (Ok fieldnorms) read index is = by (read bodies) is
  where
    inside : (i : OpenIndexState) → fine i ≡ Ok index → i ≡ index
    inside i e = cc

    by : (found : Result (List InvertedIndexReaderState) Part) → with_readers fieldnorms found ≡ Ok index → (found ≡ Ok index.readers) × (fine fieldnorms ≡ Ok index.fieldnorms)
    by (Err part) is = absurd (cc)
    by (Ok readers) is =
        let same = inside (record { readers = readers; fieldnorms = fieldnorms }) is in
        (ap (λ (i : OpenIndexState). fine i.readers) same, ap (λ (i : OpenIndexState). fine i.fieldnorms) same)

parts_of : (terms postings positions fieldnorms : List ℕ) (entries : List SchemaEntry) (index : OpenIndexState) → index_of_files terms postings positions fieldnorms entries ≡ Ok index
    → (three_files terms postings positions entries ≡ Ok index.readers) × (ok_or (composite fieldnorms) Composite ≡ Ok index.fieldnorms)
parts_of terms postings positions fieldnorms entries index is =
    opened_parts (index_bodies terms postings positions) (ok_or (composite fieldnorms) Composite) (λ bodies. field_readers bodies entries) index is

norms_of : (norms : Option (List Body)) (bodies : List Body) → ok_or norms Composite ≡ Ok bodies → norms ≡ Some bodies
norms_of None bodies is = absurd (cc)
norms_of (Some found) bodies is = ap Some (inside is)
  where
    inside : fine found ≡ Ok bodies → found ≡ bodies
    inside e = cc

many_after : (tables : Result IndexBodies Part) (entries : List SchemaEntry) (readers : List InvertedIndexReaderState) → (tables >>= λ (bodies : IndexBodies). field_readers bodies entries) ≡ Ok readers → length readers ≡ length entries
many_after (Ok bodies) entries readers is = many_fields bodies entries readers is
many_after (Err part) entries readers is = absurd (cc)

pub many_readers : (terms postings positions fieldnorms : List ℕ) (entries : List SchemaEntry) (index : OpenIndexState) → index_of_files terms postings positions fieldnorms entries ≡ Ok index → length index.readers ≡ length entries
many_readers terms postings positions fieldnorms entries index is =
    many_after (index_bodies terms postings positions) entries index.readers (parts_of terms postings positions fieldnorms entries index is).0

-- a body that is not above 0 is 0
pub no_body : (n : ℕ) → false ≡ nat_lt 0 n → n ≡ 0
no_body n e = let none = ltb-false 0 n (sym e) in omega (arith, none)

-- A reader has this option, and the tokens of a field.
abbrev HasTokens : ℕ → IndexRecordOption → List IndexToken → InvertedIndexReaderState → Type 0
HasTokens field option ts reader = (reader.option ≡ option) × ReaderHolds field reader ts

-- a field without tokens
none_held : (field : ℕ) (option : IndexRecordOption) (ts : List IndexToken) → field_count field ts ≡ 0 → ReaderHolds field (reader_of_none option) ts
none_held field option ts none = record { counted = sym none; exact = λ key. no_field field key ts none }

bodies_held : (field : ℕ) (option : IndexRecordOption) (ts : List IndexToken) (terms postings positions : List ℕ) → HoldsField option field terms postings positions ts
    → IsOkAnd (reader_if option (Some terms) (Some postings) (Some positions)) (HasTokens field option ts)
bodies_held field option ts terms postings positions holds =
    rw (holds.sorted, holds.counted) (refl, record { counted = refl; exact = holds.exact })

-- the bodies that a field has in three files
field_held : (field : ℕ) (option : IndexRecordOption) (ts : List IndexToken) (t p q : Option (List ℕ)) → is_some t ≡ nat_lt 0 (field_count field ts) → is_some p ≡ nat_lt 0 (field_count field ts) → is_some q ≡ nat_lt 0 (field_count field ts)
    → ((terms postings positions : List ℕ) → t ≡ Some terms → p ≡ Some postings → q ≡ Some positions → HoldsField option field terms postings positions ts)
    → IsOkAnd (reader_if option t p q) (HasTokens field option ts)
field_held field option ts None p q has_t has_p has_q held = (refl, none_held field option ts (no_body (field_count field ts) has_t))
field_held field option ts (Some t) None q has_t has_p has_q held = absurd (let e = has_t ∙ sym has_p in cc)
field_held field option ts (Some t) (Some p) None has_t has_p has_q held = absurd (let e = has_t ∙ sym has_q in cc)
field_held field option ts (Some t) (Some p) (Some q) has_t has_p has_q held = bodies_held field option ts t p q (held t p q refl refl refl)

and_more : {A : Type 0} (P : A → Type 0) (Q R : List A → Type 0) (found : Result A Part) (others : Result (List A) Part) → IsOkAnd found P → IsOkAnd others Q → ((x : A) (xs : List A) → P x → Q xs → R (x ∷ xs))
    → IsOkAnd (found >>= λ (x : A). others >>= λ (xs : List A). Ok (x ∷ xs)) R
and_more P Q R (Ok x) (Ok xs) first rest both = both x xs first rest
and_more P Q R (Ok x) (Err part) first rest both = absurd rest
and_more P Q R (Err part) others first rest both = absurd first

one_held : (P : ℕ → InvertedIndexReaderState → Type 0) (n : ℕ) (m : ℕ) (reader : InvertedIndexReaderState) (others : List InvertedIndexReaderState) → P n reader
    → ((i : ℕ) → i < m → IsSomeAnd (slice_get others i) (P (n + 1 + i))) → (i : ℕ) → i < suc m → IsSomeAnd (slice_get (reader ∷ others) i) (P (n + i))
one_held P n m reader others first rest zero within = let e : n ≡ n + 0 = omega arith in subst (λ (k : ℕ). P k reader) e first
one_held P n m reader others first rest (suc i) within =
    let e : n + 1 + i ≡ n + suc i = omega arith in
    let less : i < m = omega (arith, within) in
    subst (λ (k : ℕ). IsSomeAnd (slice_get others i) (P k)) e (rest i less)

-- the fields of a schema, each of which gives a reader of its tokens
fields_held : (P : ℕ → InvertedIndexReaderState → Type 0) (give : ℕ × SchemaEntry → Result InvertedIndexReaderState Part) (n : ℕ) (entries : List SchemaEntry)
    → ((i : ℕ) (e : SchemaEntry) → slice_get entries i ≡ Some e → IsOkAnd (give (n + i, e)) (P (n + i)))
    → IsOkAnd (all_or_first (map give (enumerate_from n entries))) (λ readers. (i : ℕ) → i < length entries → IsSomeAnd (slice_get readers i) (P (n + i)))
fields_held P give n [] each = λ i within. absurd (omega (arith, within))
fields_held P give n (e ∷ es) each =
    let zero_more : n + 0 ≡ n = omega arith in
    let first : IsOkAnd (give (n, e)) (P n) = subst (λ (k : ℕ). IsOkAnd (give (k, e)) (P k)) zero_more (each 0 e refl) in
    let later : (i : ℕ) (f : SchemaEntry) → slice_get es i ≡ Some f → IsOkAnd (give (n + 1 + i, f)) (P (n + 1 + i)) =
    λ i f at.
    let one : n + suc i ≡ n + 1 + i = omega arith in
    subst (λ (k : ℕ). IsOkAnd (give (k, f)) (P k)) one (each (suc i) f at) in
    and_more (P n) (λ readers. (i : ℕ) → i < length es → IsSomeAnd (slice_get readers i) (P (n + 1 + i))) (λ readers. (i : ℕ) → i < suc (length es) → IsSomeAnd (slice_get readers i) (P (n + i)))
    (give (n, e)) (all_or_first (map give (enumerate_from (n + 1) es))) first (fields_held P give (n + 1) es later) (λ reader others. one_held P n (length es) reader others)

also_ok : {A : Type 0} (found : Result A Part) (P Q : A → Type 0) → IsOkAnd found P → ((x : A) → P x → Q x) → IsOkAnd found Q
also_ok (Ok x) P Q held more = more x held
also_ok (Err part) P Q held more = absurd held

field_in : (entries : List SchemaEntry) (terms postings positions : List ℕ) (ts : List IndexToken) (h : HoldTokens (option_of entries) terms postings positions ts) (i : ℕ) (e : SchemaEntry) → slice_get entries i ≡ Some e
    → IsOkAnd (reader_if e.option (body_of i h.term_bodies) (body_of i h.postings_bodies) (body_of i h.positions_bodies)) (λ reader. FieldReaderHolds entries i reader ts)
field_in entries terms postings positions ts h i e at =
    let option : option_of entries i ≡ e.option = rw at refl in
    let has = h.present i in
    also_ok _ (HasTokens i e.option ts) (λ reader. FieldReaderHolds entries i reader ts)
    (field_held i e.option ts (body_of i h.term_bodies) (body_of i h.postings_bodies) (body_of i h.positions_bodies) has.0 has.1 has.2
    (λ t p q in_terms in_postings in_positions. subst (λ (o : IndexRecordOption). HoldsField o i t p q ts) option (h.fields i t p q in_terms in_postings in_positions)))
    (λ reader has. record { option_is = has.0 ∙ sym option; holds = has.1 })

-- files that hold tokens are opened
index_held : (entries : List SchemaEntry) (terms postings positions : List ℕ) (ts : List IndexToken) → HoldTokens (option_of entries) terms postings positions ts
    → IsOkAnd (three_files terms postings positions entries) (λ readers. ReadersHold entries readers ts)
index_held entries terms postings positions ts h =
    let bodies : IndexBodies = record { terms = h.term_bodies; postings = h.postings_bodies; positions = h.positions_bodies } in
    let each : (i : ℕ) (e : SchemaEntry) → slice_get entries i ≡ Some e → IsOkAnd (reader_of_field bodies (0 + i) e.option) (λ reader. FieldReaderHolds entries (0 + i) reader ts) =
    λ i e at.
    let same : i ≡ 0 + i = omega arith in
    subst (λ (k : ℕ). IsOkAnd (reader_of_field bodies k e.option) (λ reader. FieldReaderHolds entries k reader ts)) same (field_in entries terms postings positions ts h i e at) in
    let all = fields_held (λ field reader. FieldReaderHolds entries field reader ts) (λ (f : ℕ × SchemaEntry). reader_of_field bodies f.0 f.1.option) 0 entries each in
    rw (h.opened_terms, h.opened_postings, h.opened_positions)
    (also_ok (field_readers bodies entries) (λ readers. (i : ℕ) → i < length entries → IsSomeAnd (slice_get readers i) (λ reader. FieldReaderHolds entries (0 + i) reader ts)) (λ readers. ReadersHold entries readers ts) all
    (λ readers held i within.
    let same : 0 + i ≡ i = omega arith in
    subst (λ (k : ℕ). IsSomeAnd (slice_get readers i) (λ reader. FieldReaderHolds entries k reader ts)) same (held i within)))

gives_ok : (found : Result (List InvertedIndexReaderState) Part) (entries : List SchemaEntry) (ts : List IndexToken) (readers : List InvertedIndexReaderState) → found ≡ Ok readers → IsOkAnd found (λ rs. ReadersHold entries rs ts) → ReadersHold entries readers ts
gives_ok found entries ts readers is held = rw is at held

-- what opening them answers
pub opened_holds : (entries : List SchemaEntry) (terms postings positions fieldnorms : List ℕ) (ts : List IndexToken) (index : OpenIndexState) → HoldTokens (option_of entries) terms postings positions ts
    → index_of_files terms postings positions fieldnorms entries ≡ Ok index → ReadersHold entries index.readers ts
opened_holds entries terms postings positions fieldnorms ts index holds is =
    gives_ok _ entries ts index.readers (parts_of terms postings positions fieldnorms entries index is).0 (index_held entries terms postings positions ts holds)

gives_err : (tables : Result IndexBodies Part) (norms : Option (List Body)) (read : IndexBodies → Result (List InvertedIndexReaderState) Part) (P : List InvertedIndexReaderState → Type 0) (fault : Fault)
    → IsRefusal (with_parts tables (ok_or norms Composite) read) fault → IsOkAnd (tables >>= read) P → IsSome norms → fault ≡ OutOfMemory
gives_err tables norms read P fault (inl memory) held some = memory
gives_err (Err part) norms read P fault (inr failed) held some = absurd held
gives_err (Ok bodies) None read P fault (inr failed) held some = absurd (cc)
gives_err (Ok bodies) (Some fieldnorms) read P fault (inr (part, damaged, failed)) held some = by (read bodies) failed held
  where
    by : (found : Result (List InvertedIndexReaderState) Part) → with_readers fieldnorms found ≡ Err part → IsOkAnd found P → fault ≡ OutOfMemory
    by (Ok readers) failed held = absurd (cc)
    by (Err other) failed held = absurd held

pub refused_holds : (entries : List SchemaEntry) (terms postings positions fieldnorms : List ℕ) (ts : List IndexToken) (fault : Fault) → HoldTokens (option_of entries) terms postings positions ts → IsSome (composite fieldnorms)
    → IsRefusal (index_of_files terms postings positions fieldnorms entries) fault → fault ≡ OutOfMemory
refused_holds entries terms postings positions fieldnorms ts fault holds some refused =
    gives_err (index_bodies terms postings positions) (composite fieldnorms) (λ bodies. field_readers bodies entries) (λ readers. ReadersHold entries readers ts) fault refused (index_held entries terms postings positions ts holds) some

-- the norms of an index that was opened
pub opened_norms : (entries : List SchemaEntry) (terms postings positions fieldnorms : List ℕ) (num_docs : ℕ) (ts : List IndexToken) (index : OpenIndexState) → HoldNorms entries num_docs fieldnorms ts
    → index_of_files terms postings positions fieldnorms entries ≡ Ok index → NormsHold entries num_docs index.fieldnorms ts
opened_norms entries terms postings positions fieldnorms num_docs ts index holds is =
    let found = norms_of (composite fieldnorms) index.fieldnorms (parts_of terms postings positions fieldnorms entries index is).1 in
    let same : norm_file entries num_docs ts ≡ index.fieldnorms = inside (sym holds.opened ∙ found) in
    λ field. ap (body_of field) (sym same) ∙ holds.exact field
  where
    inside : Some (norm_file entries num_docs ts) ≡ Some index.fieldnorms → norm_file entries num_docs ts ≡ index.fieldnorms
    inside e = cc

-- a byte of norms is that of its document
norm_at : (xs : List ℕ) (doc : ℕ) → doc < length xs → slice_index xs doc ≡ get_or xs doc 0
norm_at [] doc within = absurd (omega (arith, within))
norm_at (x ∷ xs) zero within = refl
norm_at (x ∷ xs) (suc doc) within = norm_at xs doc (omega (arith, within))

answers : (num_docs field : ℕ) (ts : List IndexToken) → AnswersNorms num_docs field ts (norms_of_ids (norm_ids num_docs field ts))
answers num_docs field ts =
    let many = length-map-range_with_len (λ (doc : ℕ). id_of_norm (doc_count doc field ts)) 0 num_docs in
    record {
      num_docs_is = many;
      each = λ doc within. norm_at (norm_ids num_docs field ts) doc (omega (arith, within, many)) ∙ get_or-map-range_with_len (λ (doc : ℕ). id_of_norm (doc_count doc field ts)) 0 num_docs doc doc 0 within (omega arith);
    }

-- what is read of the norms of a field
norms_found : (entries : List SchemaEntry) (num_docs field : ℕ) (bodies : List Body) (ts : List IndexToken) (found : Option Norms) → NormsHold entries num_docs bodies ts → found ≡ option_map norms_of_ids (body_of field bodies)
    → GivesNorms entries num_docs field ts (Ok found)
norms_found entries num_docs field bodies ts found holds is = by (has_norms entries field) refl (is ∙ ap (option_map norms_of_ids) (holds field))
  where
    by : (has : Bool) → has_norms entries field ≡ has → found ≡ option_map norms_of_ids (if has then Some (norm_ids num_docs field ts) else None) → GivesNorms entries num_docs field ts (Ok found)
    by false none is = rw is none
    by true some is = rw is (some, answers num_docs field ts)

norms_refused_by : (entries : List SchemaEntry) (num_docs field : ℕ) (bodies : List Body) (ts : List IndexToken) (fault : Fault) → num_docs < 2 ^ 32 → NormsHold entries num_docs bodies ts
    → (fault ≡ Damaged FieldNorms → IsSomeAnd (body_of field bodies) (λ ids. 2 ^ 32 ≤ length ids)) → (fault ≡ OutOfMemory) ⊎ (fault ≡ Damaged FieldNorms) → fault ≡ OutOfMemory
norms_refused_by entries num_docs field bodies ts fault few holds long (inl memory) = memory
norms_refused_by entries num_docs field bodies ts fault few holds long (inr damaged) =
    absurd (by (has_norms entries field) (subst (λ (o : Option (List ℕ)). IsSomeAnd o (λ ids. 2 ^ 32 ≤ length ids)) (holds field) (long damaged)))
  where
    by : (has : Bool) → IsSomeAnd (if has then Some (norm_ids num_docs field ts) else None) (λ ids. 2 ^ 32 ≤ length ids) → ⊥
    by false h = h
    by true h = omega (arith, few, h, length-map-range_with_len (λ (doc : ℕ). id_of_norm (doc_count doc field ts)) 0 num_docs)

-- what a field of them answers
pub norms_answered : (entries : List SchemaEntry) (num_docs field : ℕ) (bodies : List Body) (ts : List IndexToken) (answer : Result (Option Norms) Fault) → num_docs < 2 ^ 32 → NormsHold entries num_docs bodies ts
    → IfOk answer (λ norms. norms ≡ option_map norms_of_ids (body_of field bodies)) → (IsErrOf answer (Damaged FieldNorms) ↔ IsSomeAnd (body_of field bodies) (λ ids. 2 ^ 32 ≤ length ids))
    → IfErr answer (λ e. (e ≡ OutOfMemory) ⊎ (e ≡ Damaged FieldNorms)) → GivesNorms entries num_docs field ts answer
norms_answered entries num_docs field bodies ts (Ok found) few holds is long only = norms_found entries num_docs field bodies ts found holds is
norms_answered entries num_docs field bodies ts (Err fault) few holds is long only =
    norms_refused_by entries num_docs field bodies ts fault few holds (λ damaged. long.0 (ap (λ (f : Fault). Err f) damaged)) only

-- from the four tables to the readers
pub index_then : (terms postings positions fieldnorms : List ℕ) (entries : List SchemaEntry) (bodies : IndexBodies) (norms : List Body) (readers : List InvertedIndexReaderState)
    → index_bodies terms postings positions ≡ Ok bodies → composite fieldnorms ≡ Some norms → field_readers bodies entries ≡ Ok readers
    → index_of_files terms postings positions fieldnorms entries ≡ Ok (record { readers = readers; fieldnorms = norms })
index_then terms postings positions fieldnorms entries bodies norms readers tables opened is = rw (tables, opened, is) refl

pub tables_refused : (terms postings positions fieldnorms : List ℕ) (entries : List SchemaEntry) (fault : Fault) → IsRefusal (index_bodies terms postings positions) fault → IsRefusal (index_of_files terms postings positions fieldnorms entries) fault
tables_refused terms postings positions fieldnorms entries fault (inl memory) = inl memory
tables_refused terms postings positions fieldnorms entries fault (inr (part, damaged, failed)) = inr (part, damaged, rw failed refl)

pub norms_refused : (terms postings positions fieldnorms : List ℕ) (entries : List SchemaEntry) (bodies : IndexBodies) (fault : Fault) → index_bodies terms postings positions ≡ Ok bodies
    → IsRefusal (ok_or (composite fieldnorms) Composite) fault → IsRefusal (index_of_files terms postings positions fieldnorms entries) fault
norms_refused terms postings positions fieldnorms entries bodies fault tables (inl memory) = inl memory
norms_refused terms postings positions fieldnorms entries bodies fault tables (inr (part, damaged, failed)) = inr (part, damaged, rw (tables, failed) refl)

pub fields_refused : (terms postings positions fieldnorms : List ℕ) (entries : List SchemaEntry) (bodies : IndexBodies) (norms : List Body) (fault : Fault) → index_bodies terms postings positions ≡ Ok bodies
    → composite fieldnorms ≡ Some norms → IsRefusal (field_readers bodies entries) fault → IsRefusal (index_of_files terms postings positions fieldnorms entries) fault
fields_refused terms postings positions fieldnorms entries bodies norms fault tables opened (inl memory) = inl memory
fields_refused terms postings positions fieldnorms entries bodies norms fault tables opened (inr (part, damaged, failed)) = inr (part, damaged, rw (tables, opened, failed) refl)

-- a composite file without bodies
pub no_bodies : composite (0 ∷ 0 ∷ 0 ∷ 0 ∷ []) ≡ Some []
unfolding number_at
no_bodies = refl

-- a file of norms without bodies gives an index without norms
pub without_norms : (terms postings positions fieldnorms : List ℕ) (entries : List SchemaEntry) → composite fieldnorms ≡ Some [] → index_of_files terms postings positions fieldnorms entries ≡ index_of_terms terms postings positions entries
without_norms terms postings positions fieldnorms entries none = ap (λ (n : Option (List Body)). with_parts (index_bodies terms postings positions) (ok_or n Composite) (λ bodies. field_readers bodies entries)) none

-- readers and norms are an index
pub index_holds : (entries : List SchemaEntry) (n : ℕ) (ts : List IndexToken) (r : Result OpenIndexState Fault) → GivesReaders entries ts r → IfOk r (λ index. NormsHold entries n index.fieldnorms ts)
    → IfOk r (λ index. IndexHolds entries n index ts)
index_holds entries n ts (Ok index) readers norms = record { readers = readers; norms = norms }
index_holds entries n ts (Err e) readers norms = tt
