-- What an opened list is, and what was decoded to validate it.
use Rattle.std.proofs.Common.{◌≡◌, ℕ, ◌+◌, ◌*◌, ◌/◌, ◌^◌, ◌<◌, ◌≤◌, Bool, true, false, Option, Some, None, List, Result, Ok, Err, length, nat_lt, refl, sym, ap, ◌∙◌, arith, subst}
use Rattle.std.specs.Prelude.{IfNone, IfOk, IfSome, IsSomeAnd, OnErr, OnOk, if◌then◌else◌, slice_get}
use Rattle.std.specs.List.{All, sum}
use Rattle.std.proofs.lemmas.Bool.{lt-ltb}
use Rattle.ii_io.specs.declared.faults.Fault.{Fault}
use Rattle.ii_base.specs.declared.schema.index_record_option.IndexRecordOption.{IndexRecordOption}
use Rattle.ii_layout.specs.PositionReader.{deltas_of}
use Rattle.ii_termdict.specs.Dictionary.{info_under}
use Rattle.ii_termstore.specs.declared.term_info.TermInfo.{TermInfo}
use Rattle.ii_check.specs.declared.freq_reading_option.FreqReadingOption.{FreqReadingOption}
use Rattle.ii_check.specs.declared.validation.Validation.{Validation}
use Rattle.ii_check.specs.declared.validation.Validation.TheVariants.{Complete, Skipped}
use Rattle.ii_check.specs.CheckedBlocks.{BlockCounts, blocks_checked, counts_checked, num_blocks}
use Rattle.ii_check.specs.CheckedPositions.{ChecksPositions, PositionCounts, no_position_blocks}
use Rattle.ii_check.specs.CheckedPostings.{is_read}
use Rattle.ii_reader.specs.InvertedIndexReader.{InvertedIndexReaderState, IsTrusted, OpensTerm, term_of_file, trusted_reader}
use Rattle.ii_reader.specs.SegmentPostings.{SegmentPostingsState}
use Rattle.ii_promises.proofs.CheckingLaws.{field_is}

-- what holds after success and after an error
pub either : {T E P Q R : Type 0} (r : Result T E) → (P → R) → (Q → R) → OnOk r P → OnErr r Q → R
either (Ok x) f g p q = f p
either (Err e) f g p q = g q

-- These blocks are at most those of a list.
abbrev pub AreFew : ℕ → BlockCounts → Type 0
AreFew n counts = (counts.docs ≤ (n + 127) / 128) × (counts.freqs ≤ (n + 127) / 128)

-- There are none.
abbrev pub AreNone : BlockCounts → Type 0
AreNone counts = (counts.docs ≡ 0) × (counts.freqs ≡ 0)

blocks_by : (n : ℕ) (t : Bool) → (if t then 0 else num_blocks n) ≤ (n + 127) / 128
blocks_by n true = omega arith
blocks_by n false = omega arith

freqs_by : (n : ℕ) (t : Bool) → (if t then blocks_checked Complete n else 0) ≤ (n + 127) / 128
freqs_by n true = blocks_by n (nat_lt n 128)
freqs_by n false = omega arith

pub few : (reading : FreqReadingOption) (n : ℕ) (counts : BlockCounts) → counts ≡ counts_checked Complete reading n → AreFew n counts
few reading n counts is = subst (AreFew n) (sym is) (blocks_by n (nat_lt n 128), freqs_by n (is_read reading))

no_freqs : (n : ℕ) (t : Bool) → blocks_checked Complete n ≡ 0 → (if t then blocks_checked Complete n else 0) ≡ 0
no_freqs n true none = none
no_freqs n false none = refl

pub none_of_short : (reading : FreqReadingOption) (n : ℕ) (counts : BlockCounts) → n < 128 → counts ≡ counts_checked Complete reading n → AreNone counts
none_of_short reading n counts short is =
    let none : blocks_checked Complete n ≡ 0 = ap (λ (t : Bool). if t then 0 else num_blocks n) (lt-ltb n 128 short) in
    subst AreNone (sym is) (none, no_freqs n (is_read reading) none)

-- Nothing was decoded to validate a cursor's list and its positions.
abbrev pub IsUnchecked : SegmentPostingsState → Type 0
IsUnchecked cursor = (cursor.checked.docs ≡ 0) × (cursor.checked.freqs ≡ 0) × (cursor.positions_checked.docs ≡ 0) × (cursor.positions_checked.freqs ≡ 0) × (cursor.positions_checked.positions ≡ 0)

pub none_of_known : (n : ℕ) (positions : Option (List ℕ)) (cursor : SegmentPostingsState) → cursor.checked ≡ counts_checked Skipped cursor.freq_reading n → ChecksPositions Skipped n positions no_position_blocks cursor.positions_checked → IsUnchecked cursor
none_of_known n positions cursor is same =
    (ap (λ (c : BlockCounts). c.docs) is, ap (λ (c : BlockCounts). c.freqs) is, ap (λ (c : PositionCounts). c.docs) same, ap (λ (c : PositionCounts). c.freqs) same, ap (λ (c : PositionCounts). c.positions) same)

-- what was decoded to validate positions
pub few_by_lists : (n : ℕ) (positions : Option (List ℕ)) (c : PositionCounts) → ChecksPositions Complete n positions no_position_blocks c → (c.docs ≤ n / 128 + 2) × (c.freqs ≤ n / 128 + 2)
few_by_lists n None c same = subst (λ (c : PositionCounts). (c.docs ≤ n / 128 + 2) × (c.freqs ≤ n / 128 + 2)) (sym same) (omega arith, omega arith)
few_by_lists n (Some bytes) c checks = by_sum (nat_lt (sum (deltas_of bytes)) (2 ^ 32)) refl
  where
    by_sum : (t : Bool) → nat_lt (sum (deltas_of bytes)) (2 ^ 32) ≡ t → (c.docs ≤ n / 128 + 2) × (c.freqs ≤ n / 128 + 2)
    by_sum true small = let docs = rw small at checks.docs in let freqs = rw small at checks.freqs in (omega arith, omega arith)
    by_sum false large = let docs = rw large at checks.docs in let freqs = rw large at checks.freqs in (omega arith, omega arith)

pub few_positions : (n : ℕ) (positions : Option (List ℕ)) (c : PositionCounts) → ChecksPositions Complete n positions no_position_blocks c → IfSome positions (λ bytes. c.positions ≤ 2 * (length (deltas_of bytes) / 128) + 2)
few_positions n None c same = tt
few_positions n (Some bytes) c checks = by_sum (nat_lt (sum (deltas_of bytes)) (2 ^ 32)) refl
  where
    by_sum : (t : Bool) → nat_lt (sum (deltas_of bytes)) (2 ^ 32) ≡ t → c.positions ≤ 2 * (length (deltas_of bytes) / 128) + 2
    by_sum true small = let positions = rw small at checks.positions in omega arith
    by_sum false large = let positions = rw large at checks.positions in omega arith

pub none_by_positions : (positions : Option (List ℕ)) (c : PositionCounts) → c ≡ no_position_blocks → IfSome positions (λ bytes. c.positions ≤ 2 * (length (deltas_of bytes) / 128) + 2)
none_by_positions None c none = tt
none_by_positions (Some bytes) c none = let no = ap (λ (c : PositionCounts). c.positions) none in omega arith

pub few_of_small : (n : ℕ) (positions : Option (List ℕ)) (c : PositionCounts) → ChecksPositions Complete n positions no_position_blocks c
    → IfSome positions (λ bytes. sum (deltas_of bytes) < 2 ^ 32 → (c.docs ≤ 1) × (c.freqs ≤ 1) × (c.positions ≤ length (deltas_of bytes) / 128))
few_of_small n None c same = tt
few_of_small n (Some bytes) c checks = λ low.
    let small = lt-ltb (sum (deltas_of bytes)) (2 ^ 32) low in
    let docs = rw small at checks.docs in
    let freqs = rw small at checks.freqs in
    let positions = rw small at checks.positions in
    (omega arith, omega arith, omega arith)

-- a lookup by a trusted reader
trusted_cursor : (validation : Validation) (reader : InvertedIndexReaderState) (requested : IndexRecordOption) (info : TermInfo) (cursor : SegmentPostingsState) → validation ≡ Skipped → OpensTerm validation reader requested info cursor → IsUnchecked cursor
trusted_cursor validation reader requested info cursor skipped opens =
    none_of_known info.doc_freq None cursor (opens.checked ∙ ap (λ (v : Validation). counts_checked v cursor.freq_reading info.doc_freq) skipped) (rw skipped at opens.positions_checked)

trusted_cases : (validation : Validation) (reader : InvertedIndexReaderState) (requested : IndexRecordOption) (o : Option TermInfo) (answer : Result (Option SegmentPostingsState) Fault) → validation ≡ Skipped
    → IfSome o (λ info. IfOk answer (λ found. IsSomeAnd found (OpensTerm validation reader requested info))) → IfSome o (λ info. IfOk answer (λ found. IsSomeAnd found (λ cursor. IsUnchecked cursor)))
trusted_cases validation reader requested None answer skipped opens = tt
trusted_cases validation reader requested (Some info) (Err fault) skipped opens = tt
trusted_cases validation reader requested (Some info) (Ok None) skipped opens = absurd opens
trusted_cases validation reader requested (Some info) (Ok (Some cursor)) skipped opens = trusted_cursor validation reader requested info cursor skipped opens

pub trusted_lookup : (reader : InvertedIndexReaderState) (key : List ℕ) (requested : IndexRecordOption) (answer : Result (Option SegmentPostingsState) Fault) → IsTrusted reader
    → IfSome (info_under key reader.terms) (λ info. IfOk answer (λ found. IsSomeAnd found (OpensTerm reader.validation reader requested info))) → IfSome (info_under key reader.terms) (λ info. IfOk answer (λ found. IsSomeAnd found (λ cursor. IsUnchecked cursor)))
trusted_lookup reader key requested answer trusted opens = trusted_cases reader.validation reader requested (info_under key reader.terms) answer trusted opens

-- the same if the term isn't known to be there
found_cases : (P : SegmentPostingsState → Type 0) (o : Option TermInfo) (answer : Result (Option SegmentPostingsState) Fault) → IfNone o (answer ≡ Ok None) → IfSome o (λ info. IfOk answer (λ found. IsSomeAnd found P)) → IfOk answer (λ found. IfSome found P)
found_cases P None answer none some = rw none tt
found_cases P (Some info) (Err fault) none some = tt
found_cases P (Some info) (Ok None) none some = absurd some
found_cases P (Some info) (Ok (Some cursor)) none some = some

pub trusted_found : (reader : InvertedIndexReaderState) (key : List ℕ) (requested : IndexRecordOption) (answer : Result (Option SegmentPostingsState) Fault) → IsTrusted reader → IfNone (info_under key reader.terms) (answer ≡ Ok None)
    → IfSome (info_under key reader.terms) (λ info. IfOk answer (λ found. IsSomeAnd found (OpensTerm reader.validation reader requested info))) → IfOk answer (λ found. IfSome found (λ cursor. IsUnchecked cursor))
trusted_found reader key requested answer trusted none opens = found_cases (λ cursor. IsUnchecked cursor) (info_under key reader.terms) answer none (trusted_lookup reader key requested answer trusted opens)

-- what a lookup decodes
first_cases : (validation : Validation) (reader : InvertedIndexReaderState) (requested : IndexRecordOption) (o : Option TermInfo) (answer : Result (Option SegmentPostingsState) Fault)
    → IfSome o (λ info. IfOk answer (λ found. IsSomeAnd found (OpensTerm validation reader requested info)))
    → IfSome o (λ info. IfOk answer (λ found. IsSomeAnd found (λ cursor. (cursor.doc_decodes ≤ 1) × (cursor.freq_decodes ≤ 1) × (cursor.position_decodes ≤ 1))))
first_cases validation reader requested None answer opens = tt
first_cases validation reader requested (Some info) (Err fault) opens = tt
first_cases validation reader requested (Some info) (Ok None) opens = absurd opens
first_cases validation reader requested (Some info) (Ok (Some cursor)) opens = (opens.doc_decodes, opens.freq_decodes, opens.position_decodes)

pub first_found : (reader : InvertedIndexReaderState) (key : List ℕ) (requested : IndexRecordOption) (answer : Result (Option SegmentPostingsState) Fault) → IfNone (info_under key reader.terms) (answer ≡ Ok None)
    → IfSome (info_under key reader.terms) (λ info. IfOk answer (λ found. IsSomeAnd found (OpensTerm reader.validation reader requested info)))
    → IfOk answer (λ found. IfSome found (λ cursor. (cursor.doc_decodes ≤ 1) × (cursor.freq_decodes ≤ 1) × (cursor.position_decodes ≤ 1)))
first_found reader key requested answer none opens =
    found_cases (λ cursor. (cursor.doc_decodes ≤ 1) × (cursor.freq_decodes ≤ 1) × (cursor.position_decodes ≤ 1)) (info_under key reader.terms) answer none (first_cases reader.validation reader requested (info_under key reader.terms) answer opens)

-- the list of a term that a trusted reader opens
list_cases : (reader : InvertedIndexReaderState) (requested : IndexRecordOption) (o : Option TermInfo) (answer : Result (Option SegmentPostingsState) Fault)
    → IfSome o (λ info. IfOk answer (λ found. IsSomeAnd found (OpensTerm Skipped (trusted_reader reader) requested info))) → IfSome o (λ info. IfOk answer (λ found. IsSomeAnd found (λ cursor. term_of_file reader requested info ≡ Ok cursor.rest)))
list_cases reader requested None answer opens = tt
list_cases reader requested (Some info) (Err fault) opens = tt
list_cases reader requested (Some info) (Ok None) opens = absurd opens
list_cases reader requested (Some info) (Ok (Some cursor)) opens = opens.list

pub opened_list : (reader : InvertedIndexReaderState) (key : List ℕ) (requested : IndexRecordOption) (answer : Result (Option SegmentPostingsState) Fault)
    → IfSome (info_under key reader.terms) (λ info. IfOk answer (λ found. IsSomeAnd found (OpensTerm Skipped (trusted_reader reader) requested info)))
    → IfSome (info_under key reader.terms) (λ info. IfOk answer (λ found. IsSomeAnd found (λ cursor. term_of_file reader requested info ≡ Ok cursor.rest)))
opened_list reader key requested answer opens = list_cases reader requested (info_under key reader.terms) answer opens

-- the reader of a field, of readers each of which is trusted
pub field_trusted : (readers : List InvertedIndexReaderState) (field : ℕ) (reader : InvertedIndexReaderState) → All IsTrusted readers → slice_get readers field ≡ Some reader → IsTrusted reader
field_trusted readers field reader all at = field_is IsTrusted readers field reader all at
