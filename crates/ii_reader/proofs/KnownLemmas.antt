-- Terms that are known to open.
use Rattle.std.proofs.Common.{◌≡◌, ◌<◌, ◌+◌, ◌++◌, ◌∙◌, ℕ, zero, suc, subst, take, drop, Bool, true, false, List, [], ◌∷◌, length, map, Option, None, Some, Ok, Err, refl, sym, ap, arith}
use Rattle.std.specs.Prelude.{Result, IfSome, IsOk, IsSomeAnd, MatchOption, is_ok, ok_or, slice_get, slice_index_or, slice_set}
use Rattle.std.specs.List.{All}
use Rattle.std.specs.Option.{option_map}
use Rattle.std.proofs.lemmas.Bool.{and_parts}
use Rattle.std.proofs.lemmas.List.Elements.{All-map}
use Rattle.std.proofs.lemmas.Option.{slice_get-map}
use Rattle.ii_io.specs.declared.faults.Part.{Part}
use Rattle.ii_io.specs.declared.faults.Part.TheVariants.{Positions}
use Rattle.ii_io.specs.Parts.{◌>>=◌}
use Rattle.ii_base.specs.declared.schema.index_record_option.IndexRecordOption.{IndexRecordOption}
use Rattle.ii_base.specs.Options.{downgrade, has_positions}
use Rattle.ii_base.specs.Entries.{Entry}
use Rattle.ii_layout.specs.Postings.{Postings, postings}
use Rattle.ii_layout.specs.TermList.{deltas_if, docs_and_freqs, list_of, term_list}
use Rattle.ii_termstore.specs.declared.term_info.TermInfo.{TermInfo}
use Rattle.ii_termdict.specs.Dictionary.{info_under}
use Rattle.ii_definitions.specs.Tokens.{IndexToken}
use Rattle.ii_definitions.specs.Postings.{occurs}
use Rattle.ii_definitions.specs.Files.{HoldsTerm, bytes_in}
use Rattle.ii_reader.specs.InvertedIndexReader.{AllOpen, InvertedIndexReaderState, IsTrusted, ReaderHolds, docs_of_file, given_if, if_they_lie, lies_in, ranges_lie, reads_positions, term_of_file, trusted_reader}
use Rattle.ii_base.specs.Schema.{SchemaEntry}
use Rattle.ii_reader.specs.OpenIndex.{FieldReaderHolds, ReadersHold}
use Rattle.ii_reader.proofs.ReaderLemmas.{list_held, term_list_given}

-- what comes first is well where all is
first_known : {A B : Type 0} (found : Result A Part) (f : A → Result B Part) → IsOk (found >>= f) → IsOk found
first_known (Ok x) f known = refl
first_known (Err part) f known = absurd (cc)

pub postings_known : (recorded requested : IndexRecordOption) (n : ℕ) (bytes : List ℕ) → IsOk (docs_and_freqs recorded requested n bytes) → IsOk (postings recorded requested n bytes)
postings_known recorded requested n bytes known = first_known (postings recorded requested n bytes) (λ (p : Postings). Ok (p.docs, p.freqs)) known

-- what is left of a term's list once its documents and counts are there
abbrev pub with_deltas : Bool → Option (List ℕ) → List ℕ × Option (List ℕ) → Result (List Entry) Part
with_deltas t positions read = ok_or (deltas_if t read.1 positions) Positions >>= λ (deltas : Option (List ℕ)). Ok (list_of read.0 read.1 deltas)

pub docs_known : (recorded requested : IndexRecordOption) (n : ℕ) (bytes : List ℕ) (positions : Option (List ℕ)) → IsOk (term_list recorded requested n bytes positions) → IsOk (docs_and_freqs recorded requested n bytes)
docs_known recorded requested n bytes positions known = first_known (docs_and_freqs recorded requested n bytes) (with_deltas (has_positions (downgrade recorded requested)) positions) known

-- so its ranges lie in the bodies
pub lie_known : {A : Type 0} (t : Bool) (found : Result A Part) → IsOk (if_they_lie t found) → (t ≡ true) × IsOk found
lie_known true found known = (refl, known)
lie_known false found known = absurd (cc)

pub docs_lie : (bytes : List ℕ) (recorded requested : IndexRecordOption) (info : TermInfo) → IsOk (docs_of_file bytes recorded requested info) → IsOk (docs_and_freqs recorded requested info.doc_freq (bytes_in bytes info.postings_range))
docs_lie bytes recorded requested info known = (lie_known (lies_in bytes info.postings_range) _ known).1

-- the list of a term from the bytes that are handed over
pub list_known : (reader : InvertedIndexReaderState) (requested : IndexRecordOption) (info : TermInfo) → IsOk (term_of_file reader requested info)
    → IsOk (term_list reader.option requested info.doc_freq (bytes_in reader.postings info.postings_range) (given_if (reads_positions reader requested) (bytes_in reader.positions info.positions_range)))
list_known reader requested info known =
    let given = term_list_given reader.option requested info.doc_freq (bytes_in reader.postings info.postings_range) (bytes_in reader.positions info.positions_range) (reads_positions reader requested) refl in
    rw given (lie_known (ranges_lie reader requested info) _ known).1

-- its documents and counts open as well
pub file_docs_known : (reader : InvertedIndexReaderState) (requested : IndexRecordOption) (info : TermInfo) → IsOk (term_of_file reader requested info) → IsOk (docs_of_file reader.postings reader.option requested info)
file_docs_known reader requested info known =
    let lie = lie_known (ranges_lie reader requested info) _ known in
    let postings = and_parts (lies_in reader.postings info.postings_range) _ lie.0 in
    rw postings.0 (docs_known reader.option requested info.doc_freq (bytes_in reader.postings info.postings_range) (Some (bytes_in reader.positions info.positions_range)) lie.1)

-- what is known of a key
pub key_known : (reader : InvertedIndexReaderState) (key : List ℕ) (requested : IndexRecordOption) (info : TermInfo) → AllOpen reader → Some info ≡ info_under key reader.terms → IsOk (term_of_file reader requested info)
key_known reader key requested info all is = subst (λ (o : Option TermInfo). IfSome o (λ info. IsOk (term_of_file reader requested info))) (sym is) (all key requested)

pub key_docs_known : (reader : InvertedIndexReaderState) (key : List ℕ) (requested : IndexRecordOption) (info : TermInfo) → AllOpen reader → Some info ≡ info_under key reader.terms → IsOk (docs_of_file reader.postings reader.option requested info)
key_docs_known reader key requested info all is = file_docs_known reader requested info (key_known reader key requested info all is)

-- the terms of a reader that has the tokens of a field
held_cases : (reader : InvertedIndexReaderState) (field : ℕ) (key : List ℕ) (requested : IndexRecordOption) (ts : List IndexToken) (o : Option TermInfo) → MatchOption o (occurs field key ts ≡ false) (HoldsTerm reader.option field key reader.postings reader.positions ts)
    → IfSome o (λ info. IsOk (term_of_file reader requested info))
held_cases reader field key requested ts None held = tt
held_cases reader field key requested ts (Some info) held = ap is_ok (list_held reader field key requested ts info held)

pub held_open : (reader : InvertedIndexReaderState) (field : ℕ) (ts : List IndexToken) → ReaderHolds field reader ts → AllOpen reader
held_open reader field ts holds key requested = held_cases reader field key requested ts (info_under key reader.terms) (holds.exact key)

-- the readers of an index that has tokens
at_place : {A : Type 0} (P : A → Type 0) (xs : List A) (k : ℕ) (d : A) → k < length xs → IsSomeAnd (slice_get xs k) P → P (slice_index_or xs k d)
at_place P [] k d within there = absurd (omega arith)
at_place P (x ∷ xs) zero d within there = there
at_place P (x ∷ xs) (suc k) d within there = at_place P xs k d (omega arith) there

held_reader : (entries : List SchemaEntry) (field : ℕ) (ts : List IndexToken) (o : Option InvertedIndexReaderState) → IsSomeAnd o (λ reader. FieldReaderHolds entries field reader ts) → IsSomeAnd o AllOpen
held_reader entries field ts None held = absurd held
held_reader entries field ts (Some reader) held = held_open reader field ts held.holds

pub readers_open : (entries : List SchemaEntry) (readers : List InvertedIndexReaderState) (ts : List IndexToken) → ReadersHold entries readers ts → length readers ≡ length entries → All AllOpen readers
readers_open entries readers ts holds many k d within =
    at_place AllOpen readers k d within (held_reader entries k ts (slice_get readers k) (holds k (omega (arith, many, within))))

-- readers that hold tokens hold them when they are trusted
trusted_holds : (entries : List SchemaEntry) (field : ℕ) (ts : List IndexToken) (o : Option InvertedIndexReaderState) → IsSomeAnd o (λ reader. FieldReaderHolds entries field reader ts)
    → IsSomeAnd (option_map trusted_reader o) (λ reader. FieldReaderHolds entries field reader ts)
trusted_holds entries field ts None held = absurd held
trusted_holds entries field ts (Some reader) held = record { option_is = held.option_is; holds = record { counted = held.holds.counted; exact = held.holds.exact } }

pub readers_trusted : (entries : List SchemaEntry) (readers : List InvertedIndexReaderState) (ts : List IndexToken) → ReadersHold entries readers ts → ReadersHold entries (map trusted_reader readers) ts
readers_trusted entries readers ts holds = λ field within.
    rw (slice_get-map trusted_reader readers field) (trusted_holds entries field ts (slice_get readers field) (holds field within))

pub all_trusted : (readers : List InvertedIndexReaderState) → All IsTrusted (map trusted_reader readers)
all_trusted readers = All-map IsTrusted trusted_reader readers (λ k d within. refl)

-- readers of which the first k are trusted, one after the other
abbrev pub trusted_to : ℕ → List InvertedIndexReaderState → List InvertedIndexReaderState
trusted_to k readers = map trusted_reader (take k readers) ++ drop k readers

pub next_is : (k : ℕ) (readers : List InvertedIndexReaderState) (d : InvertedIndexReaderState) → k < length readers → slice_index_or (trusted_to k readers) k d ≡ slice_index_or readers k d
next_is k [] d within = absurd (omega arith)
next_is zero (r ∷ rs) d within = refl
next_is (suc k) (r ∷ rs) d within = next_is k rs d (omega arith)

set_next : (k : ℕ) (readers : List InvertedIndexReaderState) (d : InvertedIndexReaderState) → k < length readers → slice_set (trusted_to k readers) k (trusted_reader (slice_index_or readers k d)) ≡ trusted_to (suc k) readers
set_next k [] d within = absurd (omega arith)
set_next zero (r ∷ rs) d within = refl
set_next (suc k) (r ∷ rs) d within = ap (λ (l : List InvertedIndexReaderState). trusted_reader r ∷ l) (set_next k rs d (omega arith))

pub trusted_next : (k : ℕ) (readers items : List InvertedIndexReaderState) (d new : InvertedIndexReaderState) → k < length readers → items ≡ trusted_to k readers → new ≡ trusted_reader (slice_index_or items k d) → slice_set items k new ≡ trusted_to (k + 1) readers
trusted_next k readers items d new within is trusted =
    let item : slice_index_or items k d ≡ slice_index_or readers k d = ap (λ (l : List InvertedIndexReaderState). slice_index_or l k d) is ∙ next_is k readers d within in
    let one : suc k ≡ k + 1 = omega arith in
    (λ j. slice_set (is j) k ((trusted ∙ ap trusted_reader item) j)) ∙ set_next k readers d within ∙ ap (λ (n : ℕ). trusted_to n readers) one
