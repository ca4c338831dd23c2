-- What is read for a query of files that hold tokens.
use Rattle.std.proofs.Common.{inl, inr, ◌≡◌, ◌∙◌, ℕ, ◌<◌, ◌≤◌, true, List, Option, None, Some, Result, Ok, Err, get_or, length, refl, sym, ap, subst, arith}
use Rattle.std.specs.Prelude.{◌⊎◌, ok_or, slice_get}
use Rattle.std.proofs.lemmas.Option.{slice_get_within, slice_get_cases}
use Rattle.ii_io.specs.Composite.{body_of}
use Rattle.ii_io.specs.Parts.{◌>>=◌}
use Rattle.ii_io.specs.declared.faults.Fault.TheVariants.{Damaged, Limit, OutOfMemory}
use Rattle.ii_io.specs.declared.faults.LimitName.TheVariants.{Offset}
use Rattle.ii_io.specs.declared.faults.Part.{Part}
use Rattle.ii_io.specs.declared.faults.Part.TheVariants.{TokenCount}
use Rattle.ii_base.specs.Schema.{SchemaEntry}
use Rattle.ii_base.specs.declared.schema.index_record_option.IndexRecordOption.{IndexRecordOption}
use Rattle.ii_file_slice.specs.declared.faults.FileFault.{FileFault}
use Rattle.ii_file_slice.specs.declared.faults.FileFault.TheVariants.{Index}
use Rattle.ii_termstore.specs.declared.term_info.TermInfo.{TermInfo}
use Rattle.ii_termdict.specs.Dictionary.{TermEntry, dictionary, entry_keys, info_under}
use Rattle.ii_termdict.specs.ReadBack.{AreAscending}
use Rattle.ii_termdict.proofs.OrderLemmas.{keys_are_ascending}
use Rattle.ii_termdict.proofs.ReadBackLemmas.{none_ascend}
use Rattle.ii_definitions.specs.Fields.{option_of}
use Rattle.ii_definitions.specs.Files.{HoldTokens, HoldsTerm}
use Rattle.ii_definitions.specs.Norms.{HoldNorms}
use Rattle.ii_definitions.specs.Tokens.{IndexToken}
use Rattle.ii_reader.specs.InvertedIndexReader.{InvertedIndexReaderState, reader_of_none, reader_over}
use Rattle.ii_reader.specs.OpenIndex.{FieldReaderHolds, IndexBodies, IndexHolds, OpenIndexState, field_readers, index_of_files, reader_if}
use Rattle.ii_reader.proofs.IndexLemmas.{many_readers, opened_holds, opened_norms, refused_holds}
use Rattle.ii_query_parser.specs.declared.query.Query.{Query}
use Rattle.ii_warmup.specs.IndexParts.{HoldIndex, IsWarmupFault, requests}
use Rattle.ii_warmup.specs.Warmup.{all_lie, all_sound, do_ranges_lie}
use Rattle.ii_warmup.proofs.IndexPartLemmas.{index_of_bodies, reader_at}
use Rattle.ii_warmup.proofs.KnownLemmas.{known_parts}
use Rattle.ii_promises.proofs.TermInfoLaws.{AreSoundEntries, each_entry, each_wanted, sound_entries, term_lies, wanted_sound}

-- ---- files that hold tokens are an index
-- Files open as an index that holds tokens.
pub record OpenAs (entries : List SchemaEntry) (num_docs : ℕ) (terms postings positions fieldnorms : List ℕ) (ts : List IndexToken) : Type 0 where
  pub index : OpenIndexState
  pub index_is : index_of_files terms postings positions fieldnorms entries ≡ Ok index
  pub holds : IndexHolds entries num_docs index ts

pub open_as : (entries : List SchemaEntry) (num_docs : ℕ) (terms postings positions fieldnorms : List ℕ) (ts : List IndexToken) → HoldTokens (option_of entries) terms postings positions ts → HoldNorms entries num_docs fieldnorms ts
    → OpenAs entries num_docs terms postings positions fieldnorms ts
open_as entries num_docs terms postings positions fieldnorms ts tokens norms = by (index_of_files terms postings positions fieldnorms entries) refl
  where
    by : (found : Result OpenIndexState Part) → index_of_files terms postings positions fieldnorms entries ≡ found → OpenAs entries num_docs terms postings positions fieldnorms ts
    by (Ok index) is = record {
      index = index;
      index_is = is;
      holds = record { readers = opened_holds entries terms postings positions fieldnorms ts index tokens is; norms = opened_norms entries terms postings positions fieldnorms num_docs ts index norms is };
    }
    by (Err part) is = absurd (let memory : Damaged part ≡ OutOfMemory = refused_holds entries terms postings positions fieldnorms ts (Damaged part) tokens (rw norms.opened refl) (inr (part, refl, is)) in cc)

-- the bytes of the files are known
pub hold_index : (entries : List SchemaEntry) (terms postings positions fieldnorms : List ℕ) (index : OpenIndexState) → index_of_files terms postings positions fieldnorms entries ≡ Ok index
    → HoldIndex (Some terms) (Some postings) (Some positions) (Some fieldnorms) entries index
hold_index entries terms postings positions fieldnorms index is = record {
  terms_bytes = terms;
  postings_bytes = postings;
  positions_bytes = positions;
  norms_bytes = fieldnorms;
  terms_are = refl;
  postings_are = refl;
  positions_are = refl;
  norms_are = refl;
  index_is = is;
}

-- ---- the dictionaries of its readers
-- The terms of a reader ascend, and their infos are sound.
pub record HasDictionary (reader : InvertedIndexReaderState) : Type 0 where
  pub ascending : AreAscending (entry_keys reader.terms)
  pub sound : AreSoundEntries reader.terms

abbrev fine : InvertedIndexReaderState → Result InvertedIndexReaderState Part
fine reader = Ok reader

inside : {x y : InvertedIndexReaderState} → fine x ≡ Ok y → x ≡ y
inside is = cc

-- the terms of bytes
of_bytes : (t : List ℕ) (entries : List TermEntry) (reader : InvertedIndexReaderState) → dictionary t ≡ Ok entries → reader.terms ≡ entries → HasDictionary reader
of_bytes t entries reader opened same = record {
  ascending =
      let all = rw opened at (keys_are_ascending t (rw opened refl)) in
      subst (λ (es : List TermEntry). AreAscending (entry_keys es)) (sym same) all;
  sound = subst AreSoundEntries (sym same) (sound_entries t entries opened);
}

by_dictionary : (t p q : List ℕ) (option : IndexRecordOption) (reader : InvertedIndexReaderState) (found : Result (List TermEntry) Part) → dictionary t ≡ found
    → (found >>= λ (entries : List TermEntry). ok_or (reader_over entries p q option) TokenCount) ≡ Ok reader → HasDictionary reader
by_dictionary t p q option reader (Err part) opened is = absurd (cc)
by_dictionary t p q option reader (Ok entries) opened is = by (reader_over entries p q option) refl is
  where
    by : (o : Option InvertedIndexReaderState) → reader_over entries p q option ≡ o → ok_or o TokenCount ≡ Ok reader → HasDictionary reader
    by None over is = absurd (cc)
    by (Some other) over is =
        let same : other ≡ reader = inside is in
        of_bytes t entries reader opened (known_parts entries (Some p) (Some q) option reader (over ∙ ap (λ (r : InvertedIndexReaderState). Some r) same)).terms_are

by_bodies : (option : IndexRecordOption) (t p q : Option (List ℕ)) (reader : InvertedIndexReaderState) → reader_if option t p q ≡ Ok reader → HasDictionary reader
by_bodies option None p q reader is = subst HasDictionary (inside {x = reader_of_none option} is) (record { ascending = none_ascend; sound = tt })
by_bodies option (Some t) None q reader is = absurd (cc)
by_bodies option (Some t) (Some p) None reader is = absurd (cc)
by_bodies option (Some t) (Some p) (Some q) reader is = by_dictionary t p q option reader (dictionary t) refl is

-- the reader of a field
field_dictionary : (bodies : IndexBodies) (entries : List SchemaEntry) (readers : List InvertedIndexReaderState) (field : ℕ) (reader : InvertedIndexReaderState) → field_readers bodies entries ≡ Ok readers
    → field < length entries → slice_get readers field ≡ Some reader → HasDictionary reader
field_dictionary bodies entries readers field reader is within there = by (slice_get_cases entries field).1
  where
    by : ((entry : SchemaEntry) × (field < length entries) × (slice_get entries field ≡ Some entry) × (get_or entries field entry ≡ entry)) ⊎ ((length entries ≤ field) × (slice_get entries field ≡ None)) → HasDictionary reader
    by (inr past) = absurd (omega (arith, within, past.0))
    by (inl (entry, below, here, given)) =
        let at = reader_at bodies entries readers field entry is here in
        let same : at.item ≡ reader = let both = sym at.there ∙ there in cc in
        by_bodies entry.option (body_of field bodies.terms) (body_of field bodies.postings) (body_of field bodies.positions) reader (at.given ∙ ap fine same)

-- ---- what a query requests of it can be read
module _ (entries : List SchemaEntry) (num_docs : ℕ) (terms postings positions fieldnorms : List ℕ) (ts : List IndexToken) (o : OpenAs entries num_docs terms postings positions fieldnorms ts) where
  within_fields : (field : ℕ) (reader : InvertedIndexReaderState) → slice_get o.index.readers field ≡ Some reader → field < length entries
  within_fields field reader there =
      let many = many_readers terms postings positions fieldnorms entries o.index o.index_is in
      let within = slice_get_within o.index.readers field reader there in
      omega (arith, many, within)

  dictionary_of : (field : ℕ) (reader : InvertedIndexReaderState) → slice_get o.index.readers field ≡ Some reader → HasDictionary reader
  dictionary_of field reader there =
      let files = index_of_bodies (Some terms) (Some postings) (Some positions) (Some fieldnorms) entries o.index (hold_index entries terms postings positions fieldnorms o.index o.index_is) in
      field_dictionary files.bodies entries o.index.readers field reader files.readers (within_fields field reader there) there

  -- the ranges of the requested terms of a field
  lies_all : (requested : List ℕ → Option IndexRecordOption) (field : ℕ) (reader : InvertedIndexReaderState) → slice_get o.index.readers field ≡ Some reader → all_lie requested reader ≡ true
  lies_all requested field reader there =
      let held : FieldReaderHolds entries field reader ts = rw there at (o.holds.readers field (within_fields field reader there)) in
      let of_key : (key : List ℕ) (info : TermInfo) → info_under key reader.terms ≡ Some info → (option : IndexRecordOption) → do_ranges_lie reader.option reader.postings reader.positions (record { key = key; info = info; option = option }) ≡ true =
      λ key info found option.
      let term : HoldsTerm reader.option field key reader.postings reader.positions ts info = rw found at (held.holds.exact key) in
      term_lies reader.option reader.postings reader.positions (record { key = key; info = info; option = option }) term.postings_range term.positions_range in
      each_wanted (do_ranges_lie reader.option reader.postings reader.positions) requested reader.terms
      (each_entry (λ key info. (option : IndexRecordOption) → do_ranges_lie reader.option reader.postings reader.positions (record { key = key; info = info; option = option }) ≡ true) reader.terms (dictionary_of field reader there).ascending of_key)

  short_all : (requested : List ℕ → Option IndexRecordOption) (field : ℕ) (reader : InvertedIndexReaderState) → slice_get o.index.readers field ≡ Some reader → all_sound requested reader.terms ≡ true
  short_all requested field reader there = wanted_sound requested reader.terms (dictionary_of field reader there).sound

  -- so reading it fails only for memory and a limit
  pub warmup_fault : (query : Query) (e : FileFault) → IsWarmupFault (requests query) o.index.readers e → (e ≡ Index OutOfMemory) ⊎ (e ≡ Index (Limit Offset))
  warmup_fault query e (inl memory) = inl memory
  warmup_fault query e (inr (inl limit)) = inr limit
  warmup_fault query e (inr (inr (inl range))) =
      let outside = range.1 in
      let all = lies_all (requests query outside.field) outside.field outside.reader outside.there in
      absurd (let both = sym all ∙ outside.fails in cc)
  warmup_fault query e (inr (inr (inr long))) =
      let outside = long.1 in
      let all = short_all (requests query outside.field) outside.field outside.reader outside.there in
      absurd (let both = sym all ∙ outside.fails in cc)
