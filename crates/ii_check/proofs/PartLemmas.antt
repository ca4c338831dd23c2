-- The parts of a term's postings, as validation finds them.
use Rattle.std.proofs.Common.{◌≡◌, ℕ, ◌/◌, ◌%◌, ◌<◌, true, false, ◌&&◌, ◌||◌, List, length, drop, Option, Some, None, nat_lt, refl, sym, ap, ◌∙◌, is_some}
use Rattle.ii_base.specs.Options.{has_freq}
use Rattle.ii_io.specs.Vints.{u32s_at}
use Rattle.ii_io.specs.StepLemmas.{some-same}
use Rattle.ii_base.specs.declared.doc_id.TheConstants.{TERMINATED}
use Rattle.ii_codes.specs.SortedVints.{sorted_vints_at}
use Rattle.ii_codes.specs.BlockDecoder.{BlockDecoderState}
use Rattle.ii_layout.specs.SkipList.{SkipList, IsSplit}
use Rattle.ii_layout.specs.Documents.{documents_at}
use Rattle.ii_layout.specs.Frequencies.{freqs_at, has_freqs}
use Rattle.ii_layout.specs.Postings.{Postings}
use Rattle.ii_check.specs.declared.freq_reading_option.FreqReadingOption.{FreqReadingOption}
use Rattle.ii_check.specs.FreqReading.{reading_by}
use Rattle.ii_check.specs.Check.{HoldsRow, skip_list_of}
use Rattle.ii_check.specs.CheckedPostings.{LoadsBlock, is_read}
use Rattle.ii_check.proofs.CheckLemmas.{many_entries, bytes_after}
use Rattle.ii_check.proofs.CheckedPostingsLemmas.{Asked, skip_of, reads, given_by, state_by, Checks, Found, given_found, given_body, is_checked, are_given, read_flag, not_read, are_read, short_loads}

-- Documents were found, and it was decided whether counts are read.
pub record Looked (a : Asked) (skip : SkipList) (after : List ℕ) (reading : FreqReadingOption) : Type 0 where
  pub skip_is : skip ≡ skip_of a
  pub split : IsSplit a.recorded (a.doc_freq / 128) a.bytes a.skip_info a.entries a.body
  pub docs : List ℕ
  pub documents : documents_at (skip_of a) (a.doc_freq % 128) ≡ Some (docs, after)
  pub reading_is : reading ≡ reading_by (has_freq a.skip_info) (has_freq a.requested) (has_freqs (skip_of a) after)

docs_found : (o : Option (List ℕ × List ℕ)) (after : List ℕ) → Some after ≡ bytes_after o → (docs : List ℕ) × (o ≡ Some (docs, after))
docs_found None after e = absurd (cc)
docs_found (Some (docs, found)) after e = (docs, ap (λ (rest : List ℕ). Some (docs, rest)) (sym (some-same e)))

pub looked : (a : Asked) (skip_data body after : List ℕ) (reading : FreqReadingOption) → IsSplit a.recorded (a.doc_freq / 128) a.bytes a.skip_info a.entries a.body → skip_data ≡ drop a.entries a.bytes → body ≡ drop a.body a.bytes
    → Some after ≡ bytes_after (documents_at (skip_list_of a.skip_info (a.doc_freq / 128) skip_data body) (a.doc_freq % 128))
    → reading ≡ reading_by (has_freq a.skip_info) (has_freq a.requested) (has_freq a.skip_info && (nat_lt 0 (a.doc_freq / 128) || nat_lt 0 (length after)))
    → Looked a (skip_list_of a.skip_info (a.doc_freq / 128) skip_data body) after reading
looked a skip_data body after reading split skip_data_is body_is found reading_is =
    let skip_is : skip_list_of a.skip_info (a.doc_freq / 128) skip_data body ≡ skip_of a = λ j. skip_list_of a.skip_info (a.doc_freq / 128) (skip_data_is j) (body_is j) in
    let docs = docs_found (documents_at (skip_of a) (a.doc_freq % 128)) after (found ∙ ap (λ (s : SkipList). bytes_after (documents_at s (a.doc_freq % 128))) skip_is) in
    let blocks = many_entries a.skip_info (a.doc_freq / 128) (drop a.entries a.bytes) (drop a.body a.bytes) in
    record {
      skip_is = skip_is;
      split = split;
      docs = docs.0;
      documents = docs.1;
      reading_is = reading_is ∙ ap (λ (n : ℕ). reading_by (has_freq a.skip_info) (has_freq a.requested) (has_freq a.skip_info && (nat_lt 0 n || nat_lt 0 (length after)))) (sym blocks);
    }

pub flag : (a : Asked) (skip : SkipList) (after : List ℕ) (reading : FreqReadingOption) → Looked a skip after reading → is_read reading ≡ reads a after
flag a skip after reading l = ap is_read l.reading_is ∙ read_flag (has_freq a.skip_info) (has_freq a.requested) _

-- counts that aren't read, and counts that are
pub unread_found : (a : Asked) (skip : SkipList) (after : List ℕ) (reading : FreqReadingOption) (l : Looked a skip after reading) → is_read reading ≡ false → Found a l.docs after None
unread_found a skip after reading l unread =
    record { split = l.split; documents = l.documents; freqs_are = not_read (reads a after) (skip_of a) (a.doc_freq % 128) after (sym (flag a skip after reading l) ∙ unread) }

pub read_found : (a : Asked) (skip : SkipList) (after : List ℕ) (reading : FreqReadingOption) (l : Looked a skip after reading) → is_read reading ≡ true → is_some (freqs_at skip (a.doc_freq % 128) after) ≡ true
    → Found a l.docs after (freqs_at (skip_of a) (a.doc_freq % 128) after)
read_found a skip after reading l read some =
    let there = ap (λ (s : SkipList). is_some (freqs_at s (a.doc_freq % 128) after)) (sym l.skip_is) ∙ some in
    record { split = l.split; documents = l.documents; freqs_are = are_read (reads a after) (skip_of a) (a.doc_freq % 128) after (sym (flag a skip after reading l) ∙ read) there }

pub checked : (a : Asked) (skip : SkipList) (after : List ℕ) (reading : FreqReadingOption) (freqs : Option (List ℕ)) (l : Looked a skip after reading) → Found a l.docs after freqs → Checks a reading
checked a skip after reading freqs l f = is_checked a l.docs after freqs reading f l.reading_is

-- What decoders hold after the check of a short list.
pub record HoldShort (a : Asked) (body after : List ℕ) (reading : FreqReadingOption) (docs docs' freqs freqs' : BlockDecoderState) : Type 0 where
  pub few : a.doc_freq < 128
  pub body_is : body ≡ drop a.body a.bytes
  pub row : HoldsRow (sorted_vints_at 0 a.doc_freq body) TERMINATED docs docs'
  pub read : is_read reading ≡ true → HoldsRow (u32s_at a.doc_freq after) 1 freqs freqs'
  pub unread : is_read reading ≡ false → freqs' ≡ freqs

pub loaded_short : (a : Asked) (skip : SkipList) (body after : List ℕ) (reading : FreqReadingOption) (found : Option (List ℕ)) (docs docs' freqs freqs' : BlockDecoderState) (l : Looked a skip after reading) → Found a l.docs after found
    → HoldShort a body after reading docs docs' freqs freqs' → LoadsBlock (given_by a) 0 docs docs' freqs freqs'
loaded_short a skip body after reading found docs docs' freqs freqs' l f h =
    let c = checked a skip after reading found l f in
    let same = given_found a l.docs after found f in
    let after_is : after ≡ (given_by a).after = sym (ap (λ (p : Postings). p.after) same) in
    let body_is : body ≡ (given_by a).skip.body = h.body_is ∙ sym (given_body a reading c) in
    short_loads (state_by a reading) docs docs' freqs freqs' (is_read reading) (are_given a reading c) h.few (rw body_is at h.row) refl (λ yes. rw after_is at h.read yes) h.unread
