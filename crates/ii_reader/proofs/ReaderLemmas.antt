-- Reading a term of a file.
use Rattle.std.proofs.Common.{not, inl, ◌∙◌, ◌/◌, ◌%◌, ◌&&◌, ◌≡◌, ◌≤◌, ℕ, inr, Bool, true, false, List, Option, None, Some, nat_le, Ok, Err, length, drop, refl, sym, ap, [], ◌∷◌}
use Rattle.std.specs.Prelude.{◌↔◌, IsErrOf, Result, ok_or, unwrap_or, filter}
use Rattle.ii_io.specs.declared.faults.Fault.{Fault}
use Rattle.ii_io.specs.declared.faults.LayoutFault.{LayoutFault}
use Rattle.ii_io.specs.declared.faults.LayoutFault.TheVariants as layout
use Rattle.ii_io.specs.declared.faults.Part.{Part}
use Rattle.ii_io.specs.declared.faults.Part.TheVariants.{Range, Skip, Documents, Frequencies, Positions}
use Rattle.ii_io.specs.Faults.{as_fault}
use Rattle.ii_io.specs.Parts.{◌>>=◌, part_of}
use Rattle.ii_io.specs.Numbers.{number_at}
use Rattle.ii_base.specs.declared.schema.index_record_option.IndexRecordOption.{IndexRecordOption}
use Rattle.ii_base.specs.Options.{downgrade, has_freq, has_positions}
use Rattle.ii_layout.specs.SkipList.{SkipList, skip_list}
use Rattle.ii_layout.specs.Documents.{documents_at}
use Rattle.ii_layout.specs.Frequencies.{freqs_if, has_freqs}
use Rattle.ii_layout.specs.Postings.{Postings}
use Rattle.ii_layout.specs.TermList.{deltas_if, docs_and_freqs, list_of, term_list}
use Rattle.std.specs.List.{list_any}
use Rattle.ii_definitions.specs.Tokens.{IndexToken}
use Rattle.ii_definitions.specs.Postings.{is_at, key_postings, occurs}
use Rattle.std.proofs.lemmas.Bool.{leb-true}
use Rattle.std.specs.Option.{option_map}
use Rattle.std.specs.Result.{result_unwrap_or}
use Rattle.ii_base.specs.Entries.{Entry}
use Rattle.ii_termstore.specs.declared.term_info.TermInfo.{TermInfo}
use Rattle.ii_check.specs.declared.validation.Validation.{Validation}
use Rattle.ii_definitions.specs.Files.{HoldsTerm, bytes_in}
use Rattle.ii_io.specs.declared.faults.Fault.TheVariants.{Damaged, OutOfMemory}
use Rattle.std.proofs.lemmas.Bool.{le-leb}
use Rattle.ii_reader.specs.InvertedIndexReader.{InvertedIndexReaderState, IsRefusal, OpensTerm, given_if, ranges_lie, reads_positions, term_of_file}
use Rattle.ii_reader.specs.SegmentPostings.{OpensList, SegmentPostingsState}
use Rattle.std.proofs.Math.Bool.{or-true}

front : (bytes : List ℕ) (n : ℕ) (rest : List ℕ) (b : Bool) → nat_le 8 (length bytes) ≡ b → number_at 8 bytes ≡ Some (n, rest) → (rest ≡ drop 8 bytes) × (8 ≤ length bytes)
unfolding number_at
front bytes n rest true long found =
    let read = rw long at found in
    (sym (ap (λ (o : Option (ℕ × List ℕ)). unwrap_or (option_map (λ (f : ℕ × List ℕ). f.1) o) []) read), leb-true 8 (length bytes) long)
front bytes n rest false short found = absurd (let read = rw short at found in cc)

-- the number that bytes begin with, and what comes after it
pub number_front : (bytes : List ℕ) (n : ℕ) (rest : List ℕ) → number_at 8 bytes ≡ Some (n, rest) → (rest ≡ drop 8 bytes) × (8 ≤ length bytes)
number_front bytes n rest found = front bytes n rest (nat_le 8 (length bytes)) refl found

-- positions that aren't read may be left out
pub term_list_given : (recorded requested : IndexRecordOption) (n : ℕ) (postings positions : List ℕ) (b : Bool) → has_positions (downgrade recorded requested) ≡ b
    → term_list recorded requested n postings (given_if b positions) ≡ term_list recorded requested n postings (Some positions)
term_list_given recorded requested n postings positions true reads = refl
term_list_given recorded requested n postings positions false reads = rw reads refl

bind_other : {A B : Type 0} (found : Result A Part) (f : A → Result B Part) (p : Part) → (found ≡ Err p → ⊥) → ((x : A) → f x ≡ Err p → ⊥) → (found >>= f) ≡ Err p → ⊥
bind_other (Ok x) f p first then is = then x is
bind_other (Err q) f p first then is = first (cc)

ok_or_other : {A : Type 0} (found : Option A) (q p : Part) → (q ≡ p → ⊥) → ok_or found q ≡ Err p → ⊥
ok_or_other (Some x) q p other is = absurd (cc)
ok_or_other None q p other is = other (cc)

ok_other : {A : Type 0} (x : A) (p : Part) → Ok x ≡ Err p → ⊥
ok_other x p is = absurd (cc)

skip_other : Skip ≡ Range → ⊥
skip_other is = absurd (cc)

documents_other : Documents ≡ Range → ⊥
documents_other is = absurd (cc)

frequencies_other : Frequencies ≡ Range → ⊥
frequencies_other is = absurd (cc)

positions_other : Positions ≡ Range → ⊥
positions_other is = absurd (cc)

-- no part of a term's bytes is its range
pub docs_no_range : (recorded requested : IndexRecordOption) (n : ℕ) (bytes : List ℕ) → docs_and_freqs recorded requested n bytes ≡ Err Range → ⊥
docs_no_range recorded requested n bytes =
    bind_other {A = Postings} _ _ Range
    (bind_other {A = SkipList} _ _ Range (ok_or_other (skip_list recorded (n / 128) bytes) Skip Range skip_other)
    (λ skip. bind_other {A = List ℕ × List ℕ} _ _ Range (ok_or_other (documents_at skip (n % 128)) Documents Range documents_other)
    (λ found. bind_other {A = Option (List ℕ)} _ _ Range (ok_or_other (freqs_if (has_freq requested && has_freqs skip found.1) skip (n % 128) found.1) Frequencies Range frequencies_other)
    (λ freqs. ok_other {A = Postings} _ Range))))
    (λ p. ok_other (p.docs, p.freqs) Range)

pub list_no_range : (recorded requested : IndexRecordOption) (n : ℕ) (bytes : List ℕ) (positions : Option (List ℕ)) → term_list recorded requested n bytes positions ≡ Err Range → ⊥
list_no_range recorded requested n bytes positions =
    bind_other {A = List ℕ × Option (List ℕ)} _ _ Range (docs_no_range recorded requested n bytes)
    (λ read. bind_other {A = Option (List ℕ)} _ _ Range (ok_or_other (deltas_if (has_positions (downgrade recorded requested)) read.1 positions) Positions Range positions_other)
    (λ deltas. ok_other (list_of read.0 read.1 deltas) Range))

none_more : {A : Type 0} (p : A → Bool) (x : A) (xs : List A) (b : Bool) → p x ≡ b → (list_any p xs ≡ false → filter p xs ≡ []) → list_any p (x ∷ xs) ≡ false → filter p (x ∷ xs) ≡ []
none_more p x xs true e others none = absurd (let h = rw e at none in cc)
none_more p x xs false e others none = let h = rw e at none in rw e (others h)

none_found : {A : Type 0} (p : A → Bool) (xs : List A) → list_any p xs ≡ false → filter p xs ≡ []
none_found p [] none = refl
none_found p (x ∷ xs) none = none_more p x xs (p x) refl (none_found p xs) none

-- a key that didn't occur has no postings
pub none_listed : (option : IndexRecordOption) (field : ℕ) (key : List ℕ) (requested : IndexRecordOption) (ts : List IndexToken) → occurs field key ts ≡ false
    → 0 ≡ length (key_postings option field key requested ts)
none_listed option field key requested ts none = rw (none_found (is_at field key) ts none) refl

-- the first part that fails, as a fault
pub refused_by : {A : Type 0} (found : Result A Part) (fault : LayoutFault) → found ≡ Err (part_of fault) → IsRefusal found (as_fault fault)
refused_by found (layout.Damaged part) is = inr (part, refl, is)

-- and no such fault is that of ranges that lie in the bodies
pub no_range : {A T : Type 0} (lie : Bool) (found : Result A Part) (fault : LayoutFault) → lie ≡ true → found ≡ Err (part_of fault) → (found ≡ Err Range → ⊥) → IsErrOf {T = T} {E = Fault} (Err (as_fault fault)) (Damaged Range) ↔ (lie ≡ false)
no_range lie found (layout.Damaged part) there is other = (λ same. absurd (other (let part_is : part ≡ Range = cc in is ∙ ap Err part_is)), λ gone. absurd (cc))

-- the list of a term whose ranges lie in the bodies, from the bytes that are handed over
pub file_list : (reader : InvertedIndexReaderState) (requested : IndexRecordOption) (info : TermInfo) (found : Result (List Entry) Part) → ranges_lie reader requested info ≡ true
    → term_list reader.option requested info.doc_freq (bytes_in reader.postings info.postings_range) (given_if (reads_positions reader requested) (bytes_in reader.positions info.positions_range)) ≡ found
    → term_of_file reader requested info ≡ found
file_list reader requested info found lie is =
    let given = term_list_given reader.option requested info.doc_freq (bytes_in reader.postings info.postings_range) (bytes_in reader.positions info.positions_range) (reads_positions reader requested) refl in
    rw lie (sym given ∙ is)

lies_from : (bytes : List ℕ) (start end : ℕ) → start ≤ end → end ≤ length bytes → (nat_le start end && nat_le end (length bytes)) ≡ true
lies_from bytes start end forward within = rw (le-leb start end forward, le-leb end (length bytes) within) refl

pub ranges_held : (reader : InvertedIndexReaderState) (field : ℕ) (key : List ℕ) (requested : IndexRecordOption) (ts : List IndexToken) (info : TermInfo)
    → HoldsTerm reader.option field key reader.postings reader.positions ts info → ranges_lie reader requested info ≡ true
ranges_held reader field key requested ts info holds =
    let postings = lies_from reader.postings info.postings_range.start info.postings_range.end holds.postings_range.0 holds.postings_range.1 in
    let positions = lies_from reader.positions info.positions_range.start info.positions_range.end holds.positions_range.0 holds.positions_range.1 in
    rw (postings, positions) (or-true (not (reads_positions reader requested)))

-- a term that is held gives the postings of its key
pub list_held : (reader : InvertedIndexReaderState) (field : ℕ) (key : List ℕ) (requested : IndexRecordOption) (ts : List IndexToken) (info : TermInfo)
    → HoldsTerm reader.option field key reader.postings reader.positions ts info → term_of_file reader requested info ≡ Ok (key_postings reader.option field key requested ts)
list_held reader field key requested ts info holds = rw (ranges_held reader field key requested ts info holds) (holds.lists requested)

-- a term is opened by the list of its bytes
pub opens_term : (validation : Validation) (reader : InvertedIndexReaderState) (requested : IndexRecordOption) (info : TermInfo) (cursor : SegmentPostingsState) → ranges_lie reader requested info ≡ true
    → OpensList validation reader.option requested info.doc_freq (bytes_in reader.postings info.postings_range) (given_if (reads_positions reader requested) (bytes_in reader.positions info.positions_range)) cursor → OpensTerm validation reader requested info cursor
opens_term validation reader requested info cursor lie opened =
    record {
      list = file_list reader requested info _ lie opened.list;
      doc_freq = opened.doc_freq_is;
      many = opened.many;
      reading = opened.reading;
      bounds = opened.bounds;
      first = opened.first;
      doc_blocks = opened.doc_blocks;
      freq_blocks = opened.freq_blocks;
      doc_decodes = opened.doc_decodes;
      freq_decodes = opened.freq_decodes;
      entries_read = opened.entries_read;
      position_decodes = opened.position_decodes;
      checked = opened.checked;
      positions_checked = opened.positions_checked;
    }

pub list_is : (reader : InvertedIndexReaderState) (field : ℕ) (key : List ℕ) (requested : IndexRecordOption) (ts : List IndexToken) (info : TermInfo) (rest : List Entry)
    → HoldsTerm reader.option field key reader.postings reader.positions ts info → term_of_file reader requested info ≡ Ok rest → rest ≡ key_postings reader.option field key requested ts
list_is reader field key requested ts info rest holds found =
    ap (λ (r : Result (List Entry) Part). result_unwrap_or r []) (sym found ∙ list_held reader field key requested ts info holds)

-- so reading it fails only with `OutOfMemory`
pub memory_alone : (reader : InvertedIndexReaderState) (field : ℕ) (key : List ℕ) (requested : IndexRecordOption) (ts : List IndexToken) (info : TermInfo) (fault : Fault)
    → HoldsTerm reader.option field key reader.postings reader.positions ts info → IsRefusal (term_of_file reader requested info) fault → fault ≡ OutOfMemory
memory_alone reader field key requested ts info fault holds (inl memory) = memory
memory_alone reader field key requested ts info fault holds (inr (part, is, found)) = absurd (ok_other _ part (sym (list_held reader field key requested ts info holds) ∙ found))
