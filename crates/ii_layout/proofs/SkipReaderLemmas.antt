-- Entries as a reader finds them.
use Rattle.std.proofs.Common.{◌≡◌, ℕ, suc, ◌+◌, ◌*◌, ◌/◌, ◌%◌, ◌<◌, ◌≤◌, Bool, min, max, nat_lt, List, length, take, drop, Some, refl, sym, ap, ◌∙◌, arith}
use Rattle.std.proofs.lemmas.Bool.{le-leb, lt-leb, lt-ltb, le-ltb, eq-eqb, ne_eqb}
use Rattle.std.proofs.lemmas.List.{take_all}
use Rattle.std.proofs.lemmas.List.Sums.{sum_by_more}
use Rattle.std.proofs.lemmas.List.FromFn.{length-map-range_with_len, get_or-map-range_with_len}
use Rattle.std.specs.List.{sum_by}
use Rattle.ii_base.specs.declared.schema.index_record_option.IndexRecordOption.{IndexRecordOption}
use Rattle.ii_layout.specs.declared.skip.BlockInfo.{BlockInfo}
use Rattle.ii_layout.specs.declared.skip.BlockInfo.TheVariants.{VInt}
use Rattle.ii_layout.specs.SkipList.{SkipEntry, no_entry, entry_at, entry_size, entries_at, block_size, block_place, tf_sum_before}
use Rattle.ii_layout.specs.Documents.{skip_entry, last_doc_before}
use Rattle.ii_layout.specs.SkipReader.{SkipReaderState, block_info_of, packed_size_of, tf_sum_of, reader_at}
use Rattle.byteorder.specs.Endian.{little_number}
use Rattle.ii_io.specs.Numbers.{little_endian, number_at}
use Rattle.ii_io.specs.NumberLemmas.{number_at-some}
use Rattle.ii_io.specs.StepLemmas.{some-same}
use Rattle.ii_base.specs.declared.doc_id.TheConstants.{TERMINATED}

-- the number in the four bytes at the front
pub number_front : (n : ℕ) (bytes : List ℕ) → n ≡ little_number 4 bytes → 4 ≤ length bytes → n ≡ little_endian (take 4 bytes)
unfolding number_at
number_front n bytes e h =
    let read : number_at 4 bytes ≡ Some (little_endian (take 4 bytes), drop 4 bytes) = rw (le-leb 4 (length bytes) h) refl in
    let same = some-same (sym (number_at-some 4 bytes h) ∙ read) in
    e ∙ ap (λ (p : ℕ × List ℕ). p.0) same

-- what is summed up over the entries before a block, and with it
sum_next : (size : SkipEntry → ℕ) (shape : IndexRecordOption) (blocks i : ℕ) (bytes : List ℕ) → i < blocks
    → sum_by size (take (i + 1) (entries_at shape blocks bytes)) ≡ sum_by size (take i (entries_at shape blocks bytes)) + size (skip_entry (entries_at shape blocks bytes) i)
sum_next size shape blocks i bytes h =
    let many = length-map-range_with_len (λ k. entry_at shape (drop (entry_size shape * k) bytes)) 0 blocks in
    sum_by_more size (entries_at shape blocks bytes) i no_entry (omega arith)

before_next : (entries : List SkipEntry) (i : ℕ) → last_doc_before entries (i + 1) ≡ (skip_entry entries i).last_doc
before_next entries i = let next : i + 1 ≡ suc i = omega arith in rw next refl

-- What a reader knows at a full block, as it goes on past a block of that size and that sum of counts.
pub record Advances (old : SkipReaderState) (size tf_sum : ℕ) (entries : List SkipEntry) : Type 0 where
  pub last_is : old.last_doc_in_block ≡ last_doc_before entries (old.block + 1)
  pub offset_is : old.byte_offset + size ≡ block_place entries (old.block + 1)
  pub position_is : old.position_offset + tf_sum ≡ tf_sum_before entries (old.block + 1)
  pub read : old.entries_read ≡ old.block + 1

pub advances : (old : SkipReaderState) (size tf_sum : ℕ) (bytes : List ℕ)
    → old ≡ reader_at old.skip_info old.doc_freq (entries_at old.skip_info (old.doc_freq / 128) bytes) old.block → old.block < old.doc_freq / 128
    → size ≡ packed_size_of old.block_info → tf_sum ≡ tf_sum_of old.block_info
    → Advances old size tf_sum (entries_at old.skip_info (old.doc_freq / 128) bytes)
advances old size tf_sum bytes same within size_is sum_is =
    let here = lt-ltb old.block (old.doc_freq / 128) within in
    let low = le-leb old.block (old.doc_freq / 128) (omega arith) in
    let last_is = rw here at (ap (λ (r : SkipReaderState). r.last_doc_in_block) same) in
    let offset_is = rw low at (ap (λ (r : SkipReaderState). r.byte_offset) same) in
    let position_is = ap (λ (r : SkipReaderState). r.position_offset) same in
    let info_is = rw here at (ap (λ (r : SkipReaderState). r.block_info) same) in
    let read_is = ap (λ (r : SkipReaderState). r.entries_read) same in
    let all = size_is ∙ ap packed_size_of info_is in
    let whole = sum_is ∙ ap tf_sum_of info_is in
    let next = sum_next block_size old.skip_info (old.doc_freq / 128) old.block bytes within in
    let next_sum = sum_next (λ (e : SkipEntry). e.tf_sum) old.skip_info (old.doc_freq / 128) old.block bytes within in
    record {
      last_is = last_is ∙ sym (before_next (entries_at old.skip_info (old.doc_freq / 128) bytes) old.block);
      offset_is = omega arith;
      position_is = omega arith;
      read = omega arith;
    }

-- the reader after it moved to a block, given the block's last document and info, after some reads
abbrev pub gone_on : SkipReaderState → ℕ → ℕ → ℕ → BlockInfo → ℕ → SkipReaderState
gone_on old size tf_sum last info read =
    record { skip_info = old.skip_info; doc_freq = old.doc_freq; block = old.block + 1; last_doc_in_block = last; last_doc_in_previous_block = old.last_doc_in_block; byte_offset = old.byte_offset + size; position_offset = old.position_offset + tf_sum; block_info = info; entries_read = read }

-- to the documents after the full blocks
pub advanced_rest : (old : SkipReaderState) (size tf_sum : ℕ) (entries : List SkipEntry) → Advances old size tf_sum entries → old.block + 1 ≡ old.doc_freq / 128
    → gone_on old size tf_sum TERMINATED (VInt (old.doc_freq % 128)) old.entries_read ≡ reader_at old.skip_info old.doc_freq entries (min (old.block + 1) (old.doc_freq / 128 + 1))
advanced_rest old size tf_sum entries a e =
    let here : min (old.block + 1) (old.doc_freq / 128 + 1) ≡ old.block + 1 = omega arith in
    let none = le-ltb (old.block + 1) (old.doc_freq / 128) (omega arith) in
    let low = le-leb (old.block + 1) (old.doc_freq / 128) (omega arith) in
    let same = eq-eqb (old.block + 1) (old.doc_freq / 128) e in
    let read = a.read in
    let count : old.entries_read ≡ min (old.block + 1 + 1) (old.doc_freq / 128) = omega arith in
    rw (here, none, low, same, a.last_is, a.offset_is, a.position_is, count) refl

-- to another full block
pub advanced_full : (old : SkipReaderState) (size tf_sum last read : ℕ) (info : BlockInfo) (bytes : List ℕ) → Advances old size tf_sum (entries_at old.skip_info (old.doc_freq / 128) bytes) → old.block + 1 < old.doc_freq / 128
    → last ≡ (entry_at old.skip_info (drop (entry_size old.skip_info * (old.block + 1)) bytes)).last_doc → info ≡ block_info_of (entry_at old.skip_info (drop (entry_size old.skip_info * (old.block + 1)) bytes))
    → read ≡ old.entries_read + 1 → gone_on old size tf_sum last info read ≡ reader_at old.skip_info old.doc_freq (entries_at old.skip_info (old.doc_freq / 128) bytes) (min (old.block + 1) (old.doc_freq / 128 + 1))
advanced_full old size tf_sum last read info bytes a h last_is info_is read_is =
    let here : min (old.block + 1) (old.doc_freq / 128 + 1) ≡ old.block + 1 = omega arith in
    let more = lt-ltb (old.block + 1) (old.doc_freq / 128) h in
    let low = le-leb (old.block + 1) (old.doc_freq / 128) (omega arith) in
    let before = a.read in
    let count : read ≡ min (old.block + 1 + 1) (old.doc_freq / 128) = omega arith in
    let entry = get_or-map-range_with_len (λ k. entry_at old.skip_info (drop (entry_size old.skip_info * k) bytes)) 0 (old.doc_freq / 128) (old.block + 1) (old.block + 1) no_entry h (omega arith) in
    rw (here, more, low, entry, last_is, info_is, count, a.last_is, a.offset_is, a.position_is) refl

-- after the documents that follow the full blocks, and further
sum_of_all : (shape : IndexRecordOption) (blocks i j : ℕ) (bytes : List ℕ) → blocks ≤ i → blocks ≤ j → tf_sum_before (entries_at shape blocks bytes) i ≡ tf_sum_before (entries_at shape blocks bytes) j
sum_of_all shape blocks i j bytes h k =
    let many = length-map-range_with_len (λ n. entry_at shape (drop (entry_size shape * n) bytes)) 0 blocks in
    ap (sum_by (λ (e : SkipEntry). e.tf_sum)) (take_all i (entries_at shape blocks bytes) (omega arith) ∙ sym (take_all j (entries_at shape blocks bytes) (omega arith)))

pub advanced_end : (old : SkipReaderState) (bytes : List ℕ) → old ≡ reader_at old.skip_info old.doc_freq (entries_at old.skip_info (old.doc_freq / 128) bytes) old.block
    → old.doc_freq / 128 ≤ old.block → old.block ≤ old.doc_freq / 128 + 1
    → record { skip_info = old.skip_info; doc_freq = old.doc_freq; block = old.doc_freq / 128 + 1; last_doc_in_block = TERMINATED; last_doc_in_previous_block = old.last_doc_in_block; byte_offset = 18446744073709551615; position_offset = old.position_offset; block_info = VInt 0; entries_read = old.entries_read }
    ≡ reader_at old.skip_info old.doc_freq (entries_at old.skip_info (old.doc_freq / 128) bytes) (min (old.block + 1) (old.doc_freq / 128 + 1))
advanced_end old bytes same past within =
    let here : min (old.block + 1) (old.doc_freq / 128 + 1) ≡ old.doc_freq / 128 + 1 = omega arith in
    let gone = le-ltb old.block (old.doc_freq / 128) past in
    let last = rw gone at (ap (λ (r : SkipReaderState). r.last_doc_in_block) same) in
    let position = ap (λ (r : SkipReaderState). r.position_offset) same ∙ sum_of_all old.skip_info (old.doc_freq / 128) old.block (old.doc_freq / 128 + 1) bytes past (omega arith) in
    let read = ap (λ (r : SkipReaderState). r.entries_read) same in
    let count : old.entries_read ≡ min (old.doc_freq / 128 + 1 + 1) (old.doc_freq / 128) = omega arith in
    let none = le-ltb (old.doc_freq / 128 + 1) (old.doc_freq / 128) (omega arith) in
    let high = lt-leb (old.doc_freq / 128 + 1) (old.doc_freq / 128) (omega arith) in
    let other = ne_eqb (old.doc_freq / 128 + 1) (old.doc_freq / 128) (λ e. absurd (omega arith)) in
    rw (here, none, high, other, last, position, count) refl

-- What a reader returns at a full block, at the block of vints, and after it.
pub record AtFullBlock (reader : SkipReaderState) (entries : List SkipEntry) (i : ℕ) : Type 0 where
  pub info : reader.block_info ≡ block_info_of (skip_entry entries i)
  pub last : reader.last_doc_in_block ≡ (skip_entry entries i).last_doc
  pub before : reader.last_doc_in_previous_block ≡ last_doc_before entries i
  pub offset : reader.byte_offset ≡ block_place entries i

pub at_full_block : (reader : SkipReaderState) (skip_info : IndexRecordOption) (doc_freq i : ℕ) (entries : List SkipEntry) → reader ≡ reader_at skip_info doc_freq entries i → i < doc_freq / 128 → AtFullBlock reader entries i
at_full_block reader skip_info doc_freq i entries e h =
    let here = lt-ltb i (doc_freq / 128) h in
    let low = le-leb i (doc_freq / 128) (omega arith) in
    record {
      info = rw here at (ap (λ (r : SkipReaderState). r.block_info) e);
      last = rw here at (ap (λ (r : SkipReaderState). r.last_doc_in_block) e);
      before = rw low at (ap (λ (r : SkipReaderState). r.last_doc_in_previous_block) e);
      offset = rw low at (ap (λ (r : SkipReaderState). r.byte_offset) e);
    }

pub record AtVInts (reader : SkipReaderState) (entries : List SkipEntry) (i n : ℕ) : Type 0 where
  pub info : reader.block_info ≡ VInt n
  pub before : reader.last_doc_in_previous_block ≡ last_doc_before entries i
  pub offset : reader.byte_offset ≡ block_place entries i

pub at_vints : (reader : SkipReaderState) (skip_info : IndexRecordOption) (doc_freq i : ℕ) (entries : List SkipEntry) → reader ≡ reader_at skip_info doc_freq entries i → i ≡ doc_freq / 128 → AtVInts reader entries i (doc_freq % 128)
at_vints reader skip_info doc_freq i entries e h =
    let past = le-ltb i (doc_freq / 128) (omega arith) in
    let low = le-leb i (doc_freq / 128) (omega arith) in
    let same = eq-eqb i (doc_freq / 128) h in
    record {
      info = rw (past, same) at (ap (λ (r : SkipReaderState). r.block_info) e);
      before = rw low at (ap (λ (r : SkipReaderState). r.last_doc_in_previous_block) e);
      offset = rw low at (ap (λ (r : SkipReaderState). r.byte_offset) e);
    }

pub record AtEnd (reader : SkipReaderState) : Type 0 where
  pub info : reader.block_info ≡ VInt 0
  pub offset : reader.byte_offset ≡ 18446744073709551615

pub at_end : (reader : SkipReaderState) (skip_info : IndexRecordOption) (doc_freq i : ℕ) (entries : List SkipEntry) → reader ≡ reader_at skip_info doc_freq entries i → doc_freq / 128 < i → AtEnd reader
at_end reader skip_info doc_freq i entries e h =
    let past = le-ltb i (doc_freq / 128) (omega arith) in
    let high = lt-leb i (doc_freq / 128) h in
    let other = ne_eqb i (doc_freq / 128) (λ same. absurd (omega arith)) in
    record {
      info = rw (past, other) at (ap (λ (r : SkipReaderState). r.block_info) e);
      offset = rw high at (ap (λ (r : SkipReaderState). r.byte_offset) e);
    }

-- A reader that seeks, from block i on.
pub record IsSeeking (target : ℕ) (old now : SkipReaderState) (entries : List SkipEntry) (moved : Bool) : Type 0 where
  pub at : now ≡ reader_at old.skip_info old.doc_freq entries now.block
  pub forward : old.block ≤ now.block
  pub within : now.block ≤ max old.block (old.doc_freq / 128)
  pub passed : (j : ℕ) → old.block ≤ j → j < now.block → (skip_entry entries j).last_doc < target
  pub moved_is : moved ≡ nat_lt old.block now.block
