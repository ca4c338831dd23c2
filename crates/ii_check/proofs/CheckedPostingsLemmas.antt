-- Laws of postings that were validated.
use Rattle.std.proofs.Common.{◌≡◌, ℕ, zero, suc, ◌*◌, ◌/◌, ◌%◌, ◌<◌, ◌≤◌, Bool, true, false, ◌&&◌, List, [], length, drop, Option, Some, None, Result, Ok, Err, refl, sym, ap, ◌∙◌, arith, is_some, length-drop, nat_lt, nat_le, if◌then◌else◌}
use Rattle.std.specs.Prelude.{IsOk, is_ok}
use Rattle.std.specs.List.{list_all}
use Rattle.std.proofs.lemmas.Bool.{and_parts}
use Rattle.std.proofs.Math.Bool.{and-false}
use Rattle.std.specs.Result.{result_unwrap_or}
use Rattle.ii_base.specs.declared.schema.index_record_option.IndexRecordOption.{IndexRecordOption}
use Rattle.ii_base.specs.declared.schema.index_record_option.IndexRecordOption.TheVariants.{Basic}
use Rattle.ii_base.specs.Options.{has_freq, has_positions}
use Rattle.ii_io.specs.StepLemmas.{step-some, needs-some, some-same}
use Rattle.ii_io.specs.Vints.{u32s_at, u64_at}
use Rattle.ii_io.specs.declared.faults.Part.{Part}
use Rattle.ii_io.specs.declared.faults.Part.TheVariants.{Documents, Frequencies}
use Rattle.ii_base.specs.declared.doc_id.TheConstants.{TERMINATED}
use Rattle.ii_codes.specs.SortedVints.{sorted_vints_at}
use Rattle.ii_codes.specs.BlockDecoder.{BlockDecoderState}
use Rattle.ii_layout.specs.SkipList.{SkipEntry, SkipList, IsSplit, skip_list, skip_list_at, skip_info_of, block_place, entry_size, entries_at}
use Rattle.ii_layout.specs.SkipReader.{SkipReaderState, reader_at}
use Rattle.ii_layout.specs.Documents.{last_doc_before, documents_at}
use Rattle.ii_layout.specs.Written.{block_of}
use Rattle.ii_layout.specs.Frequencies.{freqs_at, has_freqs, freqs_if}
use Rattle.ii_layout.specs.Postings.{Postings, postings}
use Rattle.ii_layout.proofs.DocumentLemmas.{documents_ascend, length-documents_at, rest_of_documents}
use Rattle.ii_layout.proofs.FrequencyLemmas.{freqs_fit, freqs_before, block_of_freqs, rest_of_freqs}
use Rattle.ii_check.specs.declared.freq_reading_option.FreqReadingOption.{FreqReadingOption}
use Rattle.ii_check.specs.FreqReading.{reading_by, reading_of_none, freq_reading_of}
use Rattle.ii_check.specs.Check.{HoldsRow}
use Rattle.ii_check.specs.CheckedPostings.{CheckedPostingsState, IsChecked, AreGiven, HasDocuments, IsAtBlock, IsSkipData, Loads, LoadsFreqs, LoadsBlock, given, is_read, no_postings}
use Rattle.ii_check.proofs.CheckLemmas.{many_entries}
use Rattle.ii_check.proofs.LoadLemmas.{loads, loads_freqs, keeps_freqs}

-- What was asked for, and where its skip list lies.
pub record Asked : Type 0 where
  pub recorded : IndexRecordOption
  pub requested : IndexRecordOption
  pub doc_freq : ℕ
  pub bytes : List ℕ
  pub skip_info : IndexRecordOption
  pub entries : ℕ
  pub body : ℕ

abbrev pub asked : IndexRecordOption → IndexRecordOption → ℕ → List ℕ → IndexRecordOption → ℕ → ℕ → Asked
asked recorded requested doc_freq bytes skip_info entries body = record { recorded = recorded; requested = requested; doc_freq = doc_freq; bytes = bytes; skip_info = skip_info; entries = entries; body = body }

abbrev pub skip_of : Asked → SkipList
skip_of a = skip_list_at a.skip_info (a.doc_freq / 128) a.bytes a.entries a.body

-- whether counts are read, where these bytes are after the documents
abbrev pub reads : Asked → List ℕ → Bool
reads a after = has_freq a.requested && has_freqs (skip_of a) after

abbrev pub given_by : Asked → Postings
given_by a = given a.recorded a.requested a.doc_freq a.bytes

-- the state of what was checked
abbrev pub state_by : Asked → FreqReadingOption → CheckedPostingsState
state_by a reading = record { recorded = a.recorded; requested = a.requested; doc_freq = a.doc_freq; postings = given_by a; freq_reading = reading }

abbrev pub Checks : Asked → FreqReadingOption → Type 0
Checks a reading = IsChecked a.recorded a.requested a.doc_freq a.bytes a.skip_info a.entries a.body reading

-- All parts were found.
pub record Found (a : Asked) (docs after : List ℕ) (freqs : Option (List ℕ)) : Type 0 where
  pub split : IsSplit a.recorded (a.doc_freq / 128) a.bytes a.skip_info a.entries a.body
  pub documents : documents_at (skip_of a) (a.doc_freq % 128) ≡ Some (docs, after)
  pub freqs_are : freqs_if (reads a after) (skip_of a) (a.doc_freq % 128) after ≡ Some freqs

abbrev pub found_postings : Asked → List ℕ → List ℕ → Option (List ℕ) → Postings
found_postings a docs after freqs = record { skip = skip_of a; docs = docs; after = after; freqs = freqs }

postings_are : (a : Asked) (docs after : List ℕ) (freqs : Option (List ℕ)) → Found a docs after freqs → postings a.recorded a.requested a.doc_freq a.bytes ≡ Ok (found_postings a docs after freqs)
postings_are a docs after freqs f = rw (f.split.skip, f.documents, f.freqs_are) refl

given_is : (a : Asked) (p : Postings) → postings a.recorded a.requested a.doc_freq a.bytes ≡ Ok p → given_by a ≡ p
unfolding given
given_is a p e = ap (λ (r : Result Postings Part). result_unwrap_or r no_postings) e

pub given_found : (a : Asked) (docs after : List ℕ) (freqs : Option (List ℕ)) → Found a docs after freqs → given_by a ≡ found_postings a docs after freqs
given_found a docs after freqs f = given_is a (found_postings a docs after freqs) (postings_are a docs after freqs f)

pub is_checked : (a : Asked) (docs after : List ℕ) (freqs : Option (List ℕ)) (reading : FreqReadingOption) → Found a docs after freqs → reading ≡ freq_reading_of a.requested (found_postings a docs after freqs) → Checks a reading
is_checked a docs after freqs reading f reading_is =
    let all = postings_are a docs after freqs f in
    let same = given_found a docs after freqs f in
    record { split = f.split; there = all ∙ ap Ok (sym same); reading_is = reading_is ∙ ap (freq_reading_of a.requested) (sym same) }

-- damage of the parts
pub no_documents : (a : Asked) → IsSplit a.recorded (a.doc_freq / 128) a.bytes a.skip_info a.entries a.body → documents_at (skip_of a) (a.doc_freq % 128) ≡ None → postings a.recorded a.requested a.doc_freq a.bytes ≡ Err Documents
no_documents a split none = rw (split.skip, none) refl

no_freqs_cases : (a : Asked) (docs after : List ℕ) → IsSplit a.recorded (a.doc_freq / 128) a.bytes a.skip_info a.entries a.body → documents_at (skip_of a) (a.doc_freq % 128) ≡ Some (docs, after)
    → freqs_if (reads a after) (skip_of a) (a.doc_freq % 128) after ≡ None → postings a.recorded a.requested a.doc_freq a.bytes ≡ Err Frequencies
no_freqs_cases a docs after split documents none = rw (split.skip, documents, none) refl

missing_cases : (t : Bool) (skip : SkipList) (n : ℕ) (after : List ℕ) (o : Option (List ℕ)) → t ≡ true → freqs_at skip n after ≡ o → is_some o ≡ false → freqs_if t skip n after ≡ None
missing_cases true skip n after None read e none = rw e refl
missing_cases true skip n after (Some fs) read e none = absurd (cc)
missing_cases false skip n after o read e none = absurd (cc)

pub no_freqs : (a : Asked) (docs after : List ℕ) → IsSplit a.recorded (a.doc_freq / 128) a.bytes a.skip_info a.entries a.body → documents_at (skip_of a) (a.doc_freq % 128) ≡ Some (docs, after) → reads a after ≡ true
    → is_some (freqs_at (skip_of a) (a.doc_freq % 128) after) ≡ false → postings a.recorded a.requested a.doc_freq a.bytes ≡ Err Frequencies
no_freqs a docs after split documents read none = no_freqs_cases a docs after split documents (missing_cases (reads a after) (skip_of a) (a.doc_freq % 128) after (freqs_at (skip_of a) (a.doc_freq % 128) after) read refl none)

-- counts are read where they were requested and are there
pub read_flag : (recorded requested there : Bool) → is_read (reading_by recorded requested (recorded && there)) ≡ (requested && (recorded && there))
read_flag false true there = refl
read_flag false false there = refl
read_flag true false there = refl
read_flag true true true = refl
read_flag true true false = refl

-- counts that aren't read, and counts that are
pub not_read : (t : Bool) (skip : SkipList) (n : ℕ) (after : List ℕ) → t ≡ false → freqs_if t skip n after ≡ Some None
not_read false skip n after e = refl
not_read true skip n after e = absurd (cc)

read_cases : (t : Bool) (skip : SkipList) (n : ℕ) (after : List ℕ) (o : Option (List ℕ)) → t ≡ true → freqs_at skip n after ≡ o → is_some o ≡ true → freqs_if t skip n after ≡ Some o
read_cases true skip n after (Some fs) read e some = rw e refl
read_cases true skip n after None read e some = absurd (cc)
read_cases false skip n after o read e some = absurd (cc)

pub are_read : (t : Bool) (skip : SkipList) (n : ℕ) (after : List ℕ) → t ≡ true → is_some (freqs_at skip n after) ≡ true → freqs_if t skip n after ≡ Some (freqs_at skip n after)
are_read t skip n after read some = read_cases t skip n after (freqs_at skip n after) read refl some

if_some : (t : Bool) (skip : SkipList) (n : ℕ) (after fs : List ℕ) → freqs_if t skip n after ≡ Some (Some fs) → freqs_at skip n after ≡ Some fs
if_some false skip n after fs e = absurd (let none = some-same e in cc)
if_some true skip n after fs e =
    let found = step-some (freqs_at skip n after) _ (Some fs) e in
    found.1 ∙ some-same found.2

if_flag : (t : Bool) (skip : SkipList) (n : ℕ) (after : List ℕ) (o : Option (List ℕ)) → freqs_if t skip n after ≡ Some o → is_some o ≡ t
if_flag false skip n after o e = ap is_some (sym (some-same e))
if_flag true skip n after o e =
    let found = step-some (freqs_at skip n after) _ o e in
    ap is_some (sym (some-same found.2))

-- What was checked was found.
abbrev pub Finds : Asked → Type 0
Finds a = (docs : List ℕ) × (after : List ℕ) × (freqs : Option (List ℕ)) × Found a docs after freqs

freqs_cases : (a : Asked) (docs after : List ℕ) (o : Option (Option (List ℕ))) → IsOk (postings a.recorded a.requested a.doc_freq a.bytes) → IsSplit a.recorded (a.doc_freq / 128) a.bytes a.skip_info a.entries a.body
    → documents_at (skip_of a) (a.doc_freq % 128) ≡ Some (docs, after) → freqs_if (reads a after) (skip_of a) (a.doc_freq % 128) after ≡ o → Finds a
freqs_cases a docs after None known split documents e =
    let none = no_freqs_cases a docs after split documents e in
    absurd (let err = rw none at known in cc)
freqs_cases a docs after (Some freqs) known split documents e = (docs, after, freqs, record { split = split; documents = documents; freqs_are = e })

found_cases : (a : Asked) (o : Option (List ℕ × List ℕ)) → IsOk (postings a.recorded a.requested a.doc_freq a.bytes) → IsSplit a.recorded (a.doc_freq / 128) a.bytes a.skip_info a.entries a.body → documents_at (skip_of a) (a.doc_freq % 128) ≡ o → Finds a
found_cases a None known split e =
    let none = no_documents a split e in
    absurd (let err = rw none at known in cc)
found_cases a (Some (docs, after)) known split e = freqs_cases a docs after (freqs_if (reads a after) (skip_of a) (a.doc_freq % 128) after) known split e refl

-- all parts of what is known to give postings are there
pub finds_known : (a : Asked) → IsOk (postings a.recorded a.requested a.doc_freq a.bytes) → IsSplit a.recorded (a.doc_freq / 128) a.bytes a.skip_info a.entries a.body → Finds a
finds_known a known split = found_cases a (documents_at (skip_of a) (a.doc_freq % 128)) known split refl

finds : (a : Asked) (reading : FreqReadingOption) → Checks a reading → Finds a
finds a reading c = finds_known a (ap is_ok c.there) c.split

-- entries that hold term frequencies have the shape that the field records
info_cases : (t : Bool) (recorded : IndexRecordOption) → has_freq (if t then Basic else recorded) ≡ true → (if t then Basic else recorded) ≡ recorded
info_cases true recorded has = absurd (cc)
info_cases false recorded has = refl

shape_is : (recorded : IndexRecordOption) (blocks : ℕ) (bytes : List ℕ) (skip : SkipList) → skip_list recorded blocks bytes ≡ Some skip → has_freq skip.skip_info ≡ true → skip.skip_info ≡ recorded
shape_is recorded zero bytes skip e has = ap (λ (s : SkipList). s.skip_info) (sym (some-same e))
shape_is recorded (suc more) bytes skip e has =
    let len = step-some (u64_at bytes) _ skip e in
    let whole = needs-some (nat_le len.0.0 (length len.0.1)) _ skip len.2 in
    let enough = needs-some (nat_le (entry_size (skip_info_of recorded (suc more) len.0.0) * suc more) len.0.0) _ skip whole.1 in
    let narrow = needs-some (list_all (λ (e : SkipEntry). nat_le e.tf_num_bits 32) (entries_at (skip_info_of recorded (suc more) len.0.0) (suc more) len.0.1)) _ skip enough.1 in
    let info = ap (λ (s : SkipList). s.skip_info) (sym (some-same narrow.1)) in
    info ∙ info_cases (nat_lt len.0.0 (8 * suc more)) recorded (ap has_freq (sym info) ∙ has)

shape_read : (a : Asked) (docs after : List ℕ) (freqs : Option (List ℕ)) → Found a docs after freqs → is_some freqs ≡ true → a.skip_info ≡ a.recorded
shape_read a docs after freqs f some =
    let flag = sym (if_flag (reads a after) (skip_of a) (a.doc_freq % 128) after freqs f.freqs_are) ∙ some in
    let both = and_parts (has_freq a.requested) (has_freqs (skip_of a) after) flag in
    let has = and_parts (has_freq a.skip_info) _ both.1 in
    shape_is a.recorded (a.doc_freq / 128) a.bytes (skip_of a) f.split.skip has.0

given_by_found : (a : Asked) (reading : FreqReadingOption) (docs after : List ℕ) (freqs : Option (List ℕ)) → Found a docs after freqs → reading ≡ freq_reading_of a.requested (found_postings a docs after freqs)
    → AreGiven (record { recorded = a.recorded; requested = a.requested; doc_freq = a.doc_freq; postings = found_postings a docs after freqs; freq_reading = reading })
given_by_found a reading docs after freqs f reading_is =
    let n = a.doc_freq % 128 in
    record {
      entries = many_entries a.skip_info (a.doc_freq / 128) (drop a.entries a.bytes) (drop a.body a.bytes);
      documents = f.documents;
      freqs = λ fs e. if_some (reads a after) (skip_of a) n after fs (f.freqs_are ∙ ap (λ (o : Option (List ℕ)). Some o) e);
      read = if_flag (reads a after) (skip_of a) n after freqs f.freqs_are ∙ sym (ap is_read reading_is ∙ read_flag (has_freq a.skip_info) (has_freq a.requested) _);
      shape = shape_read a docs after freqs f;
    }

pub are_given : (a : Asked) (reading : FreqReadingOption) → Checks a reading → AreGiven (state_by a reading)
are_given a reading c =
    let (docs, after, freqs, f) = finds a reading c in
    let same = given_found a docs after freqs f in
    rw same (given_by_found a reading docs after freqs f (c.reading_is ∙ ap (freq_reading_of a.requested) same))

pub given_body : (a : Asked) (reading : FreqReadingOption) → Checks a reading → (given_by a).skip.body ≡ drop a.body a.bytes
given_body a reading c =
    let (docs, after, freqs, f) = finds a reading c in
    ap (λ (p : Postings). p.skip.body) (given_found a docs after freqs f)

pub given_skip : (a : Asked) (reading : FreqReadingOption) → Checks a reading → (given_by a).skip ≡ skip_of a
given_skip a reading c =
    let (docs, after, freqs, f) = finds a reading c in
    ap (λ (p : Postings). p.skip) (given_found a docs after freqs f)

-- the bytes from the entries on
pub is_skip_data : (a : Asked) (reading : FreqReadingOption) (bytes : List ℕ) → Checks a reading → bytes ≡ drop a.entries a.bytes → IsSkipData (state_by a reading) bytes
is_skip_data a reading bytes c e =
    let skip = given_skip a reading c in
    let room = c.split.room in
    let size = length-drop a.entries a.bytes in
    let enough : entry_size a.skip_info * (a.doc_freq / 128) ≤ length bytes = rw e (omega arith) in
    record {
      enough = rw skip enough;
      entries = ap (λ (s : SkipList). s.entries) skip ∙ (λ j. entries_at (ap (λ (s : SkipList). s.skip_info) (sym skip) j) (a.doc_freq / 128) (sym e j));
    }

pub has_room : (a : Asked) (reading : FreqReadingOption) (skip_data : List ℕ) → Checks a reading → IsSkipData (state_by a reading) skip_data → entry_size a.skip_info * (a.doc_freq / 128) ≤ length skip_data
has_room a reading skip_data c d =
    let info : a.skip_info ≡ (given_by a).skip.skip_info = sym (ap (λ (s : SkipList). s.skip_info) (given_skip a reading c)) in
    rw info d.enough

-- a reader that begins there
pub begins : (a : Asked) (reading : FreqReadingOption) (skip_data : List ℕ) (reader : SkipReaderState) → Checks a reading → IsSkipData (state_by a reading) skip_data
    → reader ≡ reader_at a.skip_info a.doc_freq (entries_at a.skip_info (a.doc_freq / 128) skip_data) 0 → IsAtBlock (state_by a reading) reader
begins a reading skip_data reader c d e =
    let skip = given_skip a reading c in
    let info : a.skip_info ≡ (given_by a).skip.skip_info = sym (ap (λ (s : SkipList). s.skip_info) skip) in
    let entries = ap (λ (i : IndexRecordOption). entries_at i (a.doc_freq / 128) skip_data) info ∙ sym d.entries in
    let first : reader.block ≡ 0 = ap (λ (r : SkipReaderState). r.block) e in
    record { reader = e ∙ (λ j. reader_at (info j) a.doc_freq (entries j) (sym first j)); within = omega arith }

pub has_documents : (p : CheckedPostingsState) → AreGiven p → HasDocuments p
has_documents p g =
    let skip = p.postings.skip in
    let n = p.doc_freq % 128 in
    let size = length-documents_at skip n p.postings.docs p.postings.after g.documents in
    let entries = g.entries in
    record {
      ascending = documents_ascend skip n p.postings.docs p.postings.after g.documents;
      many = omega arith;
      entries = g.entries;
      freqs = λ fs e.
          let fit = freqs_fit skip n p.postings.after fs (g.freqs fs e) in
          let many = fit.many in
          record { many = omega arith; low = fit.low };
      read = g.read;
      sums = λ fs e has i within. freqs_before skip n i p.postings.after fs (g.freqs fs e) (ap has_positions (g.shape (ap is_some e)) ∙ has) (omega arith);
      bounds = λ fs e i within. (block_of_freqs skip n i p.postings.after fs (g.freqs fs e) (omega arith)).bound_is;
    }

-- the decoders that are left of the check of a short list
short_docs : (p : CheckedPostingsState) (docs docs' : BlockDecoderState) → AreGiven p → p.doc_freq < 128 → HoldsRow (sorted_vints_at 0 p.doc_freq p.postings.skip.body) TERMINATED docs docs' → Loads p.postings.docs 0 TERMINATED docs docs'
short_docs p docs docs' g few row =
    let skip = p.postings.skip in
    let n = p.doc_freq % 128 in
    let entries = g.entries in
    let end : 0 ≡ length skip.entries = omega arith in
    let number : p.doc_freq ≡ n = omega arith in
    let rest = rest_of_documents skip n 0 p.postings.docs p.postings.after g.documents (omega arith) end in
    let here : sorted_vints_at 0 p.doc_freq skip.body ≡ Some (block_of p.postings.docs 0, p.postings.after) =
    ap (λ (k : ℕ). sorted_vints_at 0 k skip.body) number ∙ ap (λ (k : ℕ). sorted_vints_at (last_doc_before skip.entries k) n (drop (block_place skip.entries k) skip.body)) end ∙ rest
    in
    loads (sorted_vints_at 0 p.doc_freq skip.body) p.postings.docs p.postings.after 0 TERMINATED docs docs' row here

short_freqs : (p : CheckedPostingsState) (freqs freqs' : BlockDecoderState) (t : Bool) → AreGiven p → p.doc_freq < 128 → is_read p.freq_reading ≡ t
    → (t ≡ true → HoldsRow (u32s_at p.doc_freq p.postings.after) 1 freqs freqs') → (t ≡ false → freqs' ≡ freqs) → LoadsFreqs p.postings.freqs 0 freqs freqs'
short_freqs p freqs freqs' true g few read counts none =
    let skip = p.postings.skip in
    let n = p.doc_freq % 128 in
    let entries = g.entries in
    let end : 0 ≡ length skip.entries = omega arith in
    let number : p.doc_freq ≡ n = omega arith in
    loads_freqs p.postings.freqs 0 freqs freqs' (g.read ∙ read)
    (λ fs e.
    let rest = rest_of_freqs skip n 0 p.postings.after fs (g.freqs fs e) (omega arith) end in
    loads (u32s_at p.doc_freq p.postings.after) fs rest.0 0 1 freqs freqs' (counts refl) (ap (λ (k : ℕ). u32s_at k p.postings.after) number ∙ rest.1))
short_freqs p freqs freqs' false g few read counts none = keeps_freqs p.postings.freqs 0 freqs freqs' (g.read ∙ read) (none refl)

pub short_loads : (p : CheckedPostingsState) (docs docs' freqs freqs' : BlockDecoderState) (t : Bool) → AreGiven p → p.doc_freq < 128 → HoldsRow (sorted_vints_at 0 p.doc_freq p.postings.skip.body) TERMINATED docs docs' → is_read p.freq_reading ≡ t
    → (t ≡ true → HoldsRow (u32s_at p.doc_freq p.postings.after) 1 freqs freqs') → (t ≡ false → freqs' ≡ freqs) → LoadsBlock p.postings 0 docs docs' freqs freqs'
short_loads p docs docs' freqs freqs' t g few row read counts none =
    record { docs_are = short_docs p docs docs' g few row; freqs_are = short_freqs p freqs freqs' t g few read counts none }

-- no bytes give no documents
abbrev pub asked_nothing : IndexRecordOption → IndexRecordOption → Asked
asked_nothing recorded requested = record { recorded = recorded; requested = requested; doc_freq = 0; bytes = []; skip_info = recorded; entries = 0; body = 0 }

none_read : (recorded requested : IndexRecordOption) → reads (asked_nothing recorded requested) [] ≡ false
none_read recorded requested = rw (and-false (has_freq recorded)) (and-false (has_freq requested))

empty_found : (recorded requested : IndexRecordOption) → Found (asked_nothing recorded requested) [] [] None
empty_found recorded requested = record { split = record { skip = refl; room = omega arith; within = omega arith }; documents = refl; freqs_are = not_read (reads (asked_nothing recorded requested) []) (skip_of (asked_nothing recorded requested)) 0 [] (none_read recorded requested) }

reading_none : (recorded requested : IndexRecordOption) → reading_of_none recorded requested ≡ freq_reading_of requested (found_postings (asked_nothing recorded requested) [] [] None)
reading_none recorded requested = ap (reading_by (has_freq recorded) (has_freq requested)) (sym (and-false (has_freq recorded)))

pub empty_checked : (recorded requested : IndexRecordOption) → Checks (asked_nothing recorded requested) (reading_of_none recorded requested)
empty_checked recorded requested = is_checked (asked_nothing recorded requested) [] [] None (reading_of_none recorded requested) (empty_found recorded requested) (reading_none recorded requested)

pub empty_given : (recorded requested : IndexRecordOption) → given_by (asked_nothing recorded requested) ≡ found_postings (asked_nothing recorded requested) [] [] None
empty_given recorded requested = given_found (asked_nothing recorded requested) [] [] None (empty_found recorded requested)

pub empty_has : (recorded requested : IndexRecordOption) → HasDocuments (state_by (asked_nothing recorded requested) (reading_of_none recorded requested))
empty_has recorded requested = has_documents _ (are_given (asked_nothing recorded requested) (reading_of_none recorded requested) (empty_checked recorded requested))
