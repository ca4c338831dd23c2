-- What an open index returns for the tokens that it has.
use Rattle.std.proofs.Common.{inl, inr, ◌≡◌, ◌∙◌, ◌<◌, ◌≤◌, ◌^◌, ℕ, false, List, [], Option, Some, None, Result, Ok, Err, length, map, refl, ap, subst}
use Rattle.std.specs.Prelude.{◌⊎◌, IfErr, IfOk, IsTrue, MatchOption, slice_get}
use Rattle.ii_io.specs.declared.faults.Fault.{Fault}
use Rattle.ii_io.specs.declared.faults.Fault.TheVariants.{OutOfMemory}
use Rattle.ii_base.specs.Schema.{SchemaEntry}
use Rattle.ii_base.specs.Words.{Word}
use Rattle.ii_base.specs.declared.schema.index_record_option.IndexRecordOption.{IndexRecordOption}
use Rattle.ii_fieldnorm.specs.Norms.{id_of_norm}
use Rattle.ii_fieldnorm.specs.Readers.{Norms, id_of_doc}
use Rattle.ii_definitions.specs.Fields.{option_of}
use Rattle.ii_definitions.specs.Norms.{has_norms}
use Rattle.ii_definitions.specs.Postings.{doc_count, key_postings, occurs}
use Rattle.ii_definitions.specs.Tokens.{IndexToken, tokens_of}
use Rattle.ii_definitions.specs.IndexCalls.{call_of}
use Rattle.ii_indexing.specs.Refusals.{calls_fault}
use Rattle.ii_definitions.specs.declared.index_call.IndexCall.{IndexCall}
use Rattle.ii_indexing.specs.RamFiles.{IsRamFault}
use Rattle.ii_ram.proofs.NoTokens.{no_tokens_no_limit}
use Rattle.ii_reader.specs.InvertedIndexReader.{GivesPostings, InvertedIndexReaderState, ReaderHolds}
use Rattle.ii_reader.specs.OpenIndex.{FieldReaderHolds, GivesNorms, GivesReaders, IndexHolds, OpenIndexState}
use Rattle.ii_reader.specs.SegmentPostings.{SegmentPostingsState}

-- the postings of a key
pub found_is : (entries : List SchemaEntry) (n : ℕ) (index : OpenIndexState) (ts : List IndexToken) (field : ℕ) (key : List ℕ) (requested : IndexRecordOption) (reader : InvertedIndexReaderState) (answer : Result (Option SegmentPostingsState) Fault)
    → field < length entries → IndexHolds entries n index ts → slice_get index.readers field ≡ Some reader
    → ((f : ℕ) (tokens : List IndexToken) → ReaderHolds f reader tokens → GivesPostings reader.option f key requested tokens answer)
    → IfOk answer (λ found. MatchOption found (occurs field key ts ≡ false) (λ cursor. IsTrue (occurs field key ts) × (cursor.rest ≡ key_postings (option_of entries field) field key requested ts)))
found_is entries n index ts field key requested reader answer below holds at gives =
    let held : FieldReaderHolds entries field reader ts = rw at at (holds.readers field below) in
    by answer held.option_is (gives field ts held.holds)
  where
    by : (a : Result (Option SegmentPostingsState) Fault) → reader.option ≡ option_of entries field → GivesPostings reader.option field key requested ts a
        → IfOk a (λ found. MatchOption found (occurs field key ts ≡ false) (λ cursor. IsTrue (occurs field key ts) × (cursor.rest ≡ key_postings (option_of entries field) field key requested ts)))
    by (Ok None) option g = g
    by (Ok (Some cursor)) option g = (g.0, g.1 ∙ ap (λ (o : IndexRecordOption). key_postings o field key requested ts) option)
    by (Err fault) option g = tt

-- a lookup fails only with `OutOfMemory`
pub refused_alone : (entries : List SchemaEntry) (n : ℕ) (index : OpenIndexState) (ts : List IndexToken) (field : ℕ) (key : List ℕ) (requested : IndexRecordOption) (reader : InvertedIndexReaderState) (answer : Result (Option SegmentPostingsState) Fault)
    → field < length entries → IndexHolds entries n index ts → slice_get index.readers field ≡ Some reader
    → ((f : ℕ) (tokens : List IndexToken) → ReaderHolds f reader tokens → GivesPostings reader.option f key requested tokens answer)
    → IfErr answer (λ e. e ≡ OutOfMemory)
refused_alone entries n index ts field key requested reader answer below holds at gives =
    let held : FieldReaderHolds entries field reader ts = rw at at (holds.readers field below) in
    by answer (gives field ts held.holds)
  where
    by : (a : Result (Option SegmentPostingsState) Fault) → GivesPostings reader.option field key requested ts a → IfErr a (λ e. e ≡ OutOfMemory)
    by (Ok found) g = tt
    by (Err fault) g = g

-- so it is where what was indexed may be refused as well
pub refused_is : (entries : List SchemaEntry) (n : ℕ) (ts : List IndexToken) (answer : Result (Option SegmentPostingsState) Fault) → IfErr answer (λ e. e ≡ OutOfMemory) → IfErr answer (λ e. (e ≡ OutOfMemory) ⊎ IsRamFault entries n ts e)
refused_is entries n ts (Ok found) memory = tt
refused_is entries n ts (Err fault) memory = inl memory

-- the norm of a document
pub norm_is : (entries : List SchemaEntry) (n field doc id : ℕ) (ts : List IndexToken) (answer : Option Norms) (norms : Norms) → doc < n → answer ≡ Some norms → GivesNorms entries n field ts (Ok answer) → id ≡ id_of_doc norms doc
    → IsTrue (has_norms entries field) × (id ≡ id_of_norm (doc_count doc field ts))
norm_is entries n field doc id ts answer norms below is gives id_is =
    let known = subst (λ (o : Option Norms). GivesNorms entries n field ts (Ok o)) is gives in
    (known.0, id_is ∙ known.1.each doc below)

-- opening files of tokens is refused for memory alone
pub memory_alone : (entries : List SchemaEntry) (ts : List IndexToken) (answer : Result OpenIndexState Fault) → GivesReaders entries ts answer → IfErr answer (λ fault. fault ≡ OutOfMemory)
memory_alone entries ts (Ok index) readers = tt
memory_alone entries ts (Err fault) readers = readers

-- why an index of no calls is refused
pub memory_of_no_calls : (analyze : List ℕ → List Word) (entries : List SchemaEntry) (n : ℕ) (calls : List IndexCall) (answer : Result OpenIndexState Fault) → calls ≡ [] → length entries < 2 ^ 32 → n ≤ 2147483647
    → (calls_fault analyze (option_of entries) [] (map (call_of entries) calls) ≡ None → IfErr answer (λ e. (e ≡ OutOfMemory) ⊎ IsRamFault entries n (tokens_of analyze (map (call_of entries) calls)) e)) → IfErr answer (λ e. e ≡ OutOfMemory)
memory_of_no_calls analyze entries n calls (Ok index) none few low fault = tt
memory_of_no_calls analyze entries n calls (Err e) none few low fault =
    by_case (subst (λ (cs : List IndexCall). calls_fault analyze (option_of entries) [] (map (call_of entries) cs) ≡ None → (e ≡ OutOfMemory) ⊎ IsRamFault entries n (tokens_of analyze (map (call_of entries) cs)) e) none fault refl)
  where
    by_case : (e ≡ OutOfMemory) ⊎ IsRamFault entries n [] e → e ≡ OutOfMemory
    by_case (inl memory) = memory
    by_case (inr limit) = absurd (no_tokens_no_limit entries n e few low limit)
