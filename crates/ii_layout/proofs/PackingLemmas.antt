-- What a serializer keeps of documents, and what it writes.
use Rattle.std.proofs.Common.{◌≡◌, ℕ, zero, suc, ◌+◌, ◌*◌, ◌/◌, ◌%◌, ◌<◌, ◌≤◌, true, List, [], ◌∷◌, ◌++◌, length, take, drop, get_or, refl, sym, ap, ◌∙◌, arith, length-append, true, false, Result, Ok, Err, is_err, OnOk, Option}
use Rattle.std.specs.Prelude.{IsErrOf, ◌↔◌}
use Rattle.std.proofs.lemmas.List.{flat_map_more, take_all, drop_at, get_or-append-add}
use Rattle.std.specs.List.{flat_map, range_with_len, sum}
use Rattle.ii_base.specs.declared.schema.index_record_option.IndexRecordOption.{IndexRecordOption}
use Rattle.ii_base.specs.declared.schema.index_record_option.IndexRecordOption.TheVariants.{Basic, WithFreqs, WithFreqsAndPositions}
use Rattle.ii_io.specs.Numbers.{le_bytes}
use Rattle.ii_io.specs.NumberLemmas.{length_le_bytes}
use Rattle.ii_io.specs.declared.faults.Fault.{Fault}
use Rattle.ii_io.specs.declared.faults.Fault.TheVariants.{Limit}
use Rattle.ii_io.specs.declared.faults.LimitName.TheVariants.{Offset}
use Rattle.ii_io.specs.CountingWriter.{CountingWriterState, Wrote, Writes, IsFull}
use Rattle.ii_io.proofs.WriteSteps.{Wrote-trans, full_after, writes_then, writes_refused_by, writes_went}
use Rattle.ii_io.specs.Vints.{vint_u64}
use Rattle.ii_base.specs.Entries.{are_documents}
use Rattle.ii_codes.specs.Blocks.{least_first, sorted_entries, sorted_width, sorted_bytes}
use Rattle.ii_codes.specs.Sums.{DoNotFall}
use Rattle.ii_base.specs.Options.{has_freq}
use Rattle.ii_codes.specs.SortedVints.{sorted_vints}
use Rattle.ii_codes.specs.UnsortedVints.{unsorted_vints}
use Rattle.ii_codes.proofs.BlockLaws.{entries_from-le, length-entries_from}
use Rattle.ii_codes.proofs.WidthLemmas.{least_width-least}
use Rattle.ii_fieldnorm.specs.Readers.{Norms}
use Rattle.ii_layout.specs.SkipList.{entry_size}
use Rattle.ii_layout.specs.Written.{block_of, last_before, bound_bytes, code_of_width, entry_of_block, freq_part, packed_freqs, rest_bytes, entry_bytes, block_bytes, skip_bytes}
use Rattle.ii_layout.specs.PostingsSerializer.{CountedDocs, joined, written_docs, KeptBlocks, kept_of, kept_more, AreWhole, ArePacked, IsOpenBlock, IsFullBlock, sized}
use Rattle.ii_layout.proofs.BlockDocs.{full_block, rest_falls, block_of-append, last_before-append}
use Rattle.ii_base.proofs.AsciiLemmas.{range_more}

-- documents need fewer than 32 bits
pub narrow : (last : ℕ) (block : List ℕ) → IsFullBlock last block → sorted_width last block < 32
narrow last block b =
    let many = b.many in
    let size = length-entries_from 1 (least_first true last) block in
    let least = least_width-least (sorted_entries true last block) 31 (λ k within. let low = b.low k (omega arith) in let below = entries_from-le 1 (least_first true last) block k in omega arith) in
    omega arith

pub flat_map-same : (f g : ℕ → List ℕ) (a n : ℕ) → ((k : ℕ) → k < a + n → g k ≡ f k) → flat_map g (range_with_len a n) ≡ flat_map f (range_with_len a n)
flat_map-same f g a zero same = refl
flat_map-same f g a (suc n) same =
    let first = same a (omega arith) in
    let others = flat_map-same f g (a + 1) n (λ k h. same k (omega arith)) in
    λ i. first i ++ others i

pub flat_map-range : (f : ℕ → List ℕ) (n : ℕ) → flat_map f (range_with_len 0 (suc n)) ≡ flat_map f (range_with_len 0 n) ++ f n
flat_map-range f n =
    let last : 0 + n ≡ n = omega arith in
    ap (flat_map f) (range_more 0 n ∙ ap (λ (k : ℕ). range_with_len 0 n ++ k ∷ []) last) ∙ sym (flat_map_more f [] (range_with_len 0 n) n)

pub entry_bytes-append : (norms : Option Norms) (skip_info : IndexRecordOption) (term more : CountedDocs) (i : ℕ) → 128 * i + 128 ≤ length term.docs → length term.freqs ≡ length term.docs
    → entry_bytes norms skip_info (term.docs ++ more.docs) (term.freqs ++ more.freqs) i ≡ entry_bytes norms skip_info term.docs term.freqs i
entry_bytes-append norms skip_info term more i whole even =
    let last = last_before-append term.docs more.docs i (omega arith) in
    let docs = block_of-append term.docs more.docs i whole in
    let freqs = block_of-append term.freqs more.freqs i (omega arith) in
    λ j. entry_of_block (last j) (docs j) ++ freq_part norms skip_info (docs j) (freqs j)

pub block_bytes-append : (skip_info : IndexRecordOption) (term more : CountedDocs) (i : ℕ) → 128 * i + 128 ≤ length term.docs → length term.freqs ≡ length term.docs
    → block_bytes skip_info (term.docs ++ more.docs) (term.freqs ++ more.freqs) i ≡ block_bytes skip_info term.docs term.freqs i
block_bytes-append skip_info term more i whole even =
    let last = last_before-append term.docs more.docs i (omega arith) in
    let docs = block_of-append term.docs more.docs i whole in
    let freqs = block_of-append term.freqs more.freqs i (omega arith) in
    λ j. sorted_bytes (last j) (docs j) ++ packed_freqs skip_info (freqs j)

-- what is kept of blocks stays where more documents come after them
pub entries-append : (norms : Option Norms) (skip_info : IndexRecordOption) (term more : CountedDocs) → AreWhole term
    → flat_map (entry_bytes norms skip_info (term.docs ++ more.docs) (term.freqs ++ more.freqs)) (range_with_len 0 (length term.docs / 128)) ≡ (kept_of norms skip_info term).skip
entries-append norms skip_info term more whole =
    let all = whole.whole in
    flat_map-same (entry_bytes norms skip_info term.docs term.freqs) (entry_bytes norms skip_info (term.docs ++ more.docs) (term.freqs ++ more.freqs)) 0 (length term.docs / 128)
    (λ k h. entry_bytes-append norms skip_info term more k (omega arith) whole.even)

pub blocks-append : (norms : Option Norms) (skip_info : IndexRecordOption) (term more : CountedDocs) → AreWhole term
    → flat_map (block_bytes skip_info (term.docs ++ more.docs) (term.freqs ++ more.freqs)) (range_with_len 0 (length term.docs / 128)) ≡ (kept_of norms skip_info term).postings
blocks-append norms skip_info term more whole =
    let all = whole.whole in
    flat_map-same (block_bytes skip_info term.docs term.freqs) (block_bytes skip_info (term.docs ++ more.docs) (term.freqs ++ more.freqs)) 0 (length term.docs / 128)
    (λ k h. block_bytes-append skip_info term more k (omega arith) whole.even)

-- complete blocks, and documents after them
all_blocks : (docs : List ℕ) → length docs % 128 ≡ 0 → length docs ≡ 128 * (length docs / 128)
all_blocks docs h = omega arith

pub block_of-last : (docs block : List ℕ) (n : ℕ) → length docs ≡ 128 * n → length block ≡ 128 → block_of (docs ++ block) n ≡ block
block_of-last docs block n all many =
    ap (λ (xs : List ℕ). take 128 xs) (drop_at docs block (128 * n) all) ∙ take_all 128 block (omega arith)

-- a block that comes after others may be packed
pub next_block : (norms : Option Norms) (skip_info : IndexRecordOption) (term : CountedDocs) (block : List ℕ) (kept : KeptBlocks) → ArePacked norms skip_info term kept → length block ≡ 128
    → are_documents (term.docs ++ block) ≡ true → IsFullBlock kept.last_doc block
next_block norms skip_info term block kept p many h =
    let docs = term.docs in
    let all = all_blocks term.docs p.whole.whole in
    let size = length-append term.docs block in
    let full = full_block (term.docs ++ block) (length term.docs / 128) h (omega arith) in
    let same_last = last_before-append term.docs block (length term.docs / 128) (omega arith) in
    let same_block = block_of-last term.docs block (length term.docs / 128) all many in
    let now = rw (same_last, same_block) at full in
    rw p.kept_is now

-- what is kept of a block more
abbrev kept_at : Option Norms → IndexRecordOption → CountedDocs → ℕ → KeptBlocks
kept_at norms skip_info term m =
    record {
      last_doc = last_before term.docs m;
      skip = flat_map (entry_bytes norms skip_info term.docs term.freqs) (range_with_len 0 m);
      postings = flat_map (block_bytes skip_info term.docs term.freqs) (range_with_len 0 m);
    }

kept_is_more : (norms : Option Norms) (skip_info : IndexRecordOption) (term block : CountedDocs) → AreWhole term → length block.docs ≡ 128 → length block.freqs ≡ 128
    → kept_of norms skip_info (joined term block) ≡ kept_more norms skip_info (kept_of norms skip_info term) block
kept_is_more norms skip_info term block whole many counted =
    let all = all_blocks term.docs whole.whole in
    let even = whole.even in
    let size = length-append term.docs block.docs in
    let next : length (term.docs ++ block.docs) / 128 ≡ suc (length term.docs / 128) = omega arith in
    let same_last = last_before-append term.docs block.docs (length term.docs / 128) (omega arith) in
    let same_docs = block_of-last term.docs block.docs (length term.docs / 128) all many in
    let same_freqs = block_of-last term.freqs block.freqs (length term.docs / 128) (omega arith) counted in
    let place : 128 * (length term.docs / 128) + 127 ≡ length term.docs + 127 = omega arith in
    let end : last_before (term.docs ++ block.docs) (suc (length term.docs / 128)) ≡ get_or block.docs 127 0 =
    ap (λ (i : ℕ). get_or (term.docs ++ block.docs) i 0) place ∙ get_or-append-add term.docs block.docs 127 0
    in
    let entries = flat_map-range (entry_bytes norms skip_info (term.docs ++ block.docs) (term.freqs ++ block.freqs)) (length term.docs / 128)
    ∙ (λ j. entries-append norms skip_info term block whole j ++ (entry_of_block (same_last j) (same_docs j) ++ freq_part norms skip_info (same_docs j) (same_freqs j)))
    in
    let blocks = flat_map-range (block_bytes skip_info (term.docs ++ block.docs) (term.freqs ++ block.freqs)) (length term.docs / 128)
    ∙ (λ j. blocks-append norms skip_info term block whole j ++ (sorted_bytes (same_last j) (same_docs j) ++ packed_freqs skip_info (same_freqs j)))
    in
    ap (λ (m : ℕ). kept_at norms skip_info (joined term block) m) next
    ∙ (λ j. record { last_doc = end j; skip = entries j; postings = blocks j })

pub packed_more : (norms : Option Norms) (skip_info : IndexRecordOption) (term block : CountedDocs) (kept : KeptBlocks) → ArePacked norms skip_info term kept → length block.docs ≡ 128 → length block.freqs ≡ 128
    → ArePacked norms skip_info (joined term block) (kept_more norms skip_info kept block)
packed_more norms skip_info term block kept p many counted =
    let whole = p.whole.whole in
    let even = p.whole.even in
    record {
      whole = record { whole = omega (arith, length-append term.docs block.docs); even = omega (arith, length-append term.docs block.docs, length-append term.freqs block.freqs) };
      kept_is = ap (λ (k : KeptBlocks). kept_more norms skip_info k block) p.kept_is ∙ sym (kept_is_more norms skip_info term block p.whole many counted);
    }

pub packed_by : (norms : Option Norms) (skip_info : IndexRecordOption) (term block new : CountedDocs) (kept kept' : KeptBlocks) → ArePacked norms skip_info term kept → length block.docs ≡ 128 → length block.freqs ≡ 128
    → new ≡ joined term block → kept' ≡ kept_more norms skip_info kept block → ArePacked norms skip_info new kept'
packed_by norms skip_info term block new kept kept' p many counted new_is kept_is = rw (new_is, kept_is) (packed_more norms skip_info term block kept p many counted)

-- the documents after the blocks don't descend
pub rest_after : (norms : Option Norms) (skip_info : IndexRecordOption) (term : CountedDocs) (rest : List ℕ) (kept : KeptBlocks) → ArePacked norms skip_info term kept
    → are_documents (term.docs ++ rest) ≡ true → DoNotFall kept.last_doc rest
rest_after norms skip_info term rest kept p h =
    let all = all_blocks term.docs p.whole.whole in
    let same_last = last_before-append term.docs rest (length term.docs / 128) (omega arith) in
    let after = rw (drop_at term.docs rest (128 * (length term.docs / 128)) all, same_last) at (rest_falls (term.docs ++ rest) (length term.docs / 128) h) in
    rw p.kept_is after

-- a skip list has as many bytes for each block
length-freq_part : (norms : Option Norms) (skip_info : IndexRecordOption) (docs freqs : List ℕ) → 5 + length (freq_part norms skip_info docs freqs) ≡ entry_size skip_info
length-freq_part norms Basic docs freqs = refl
length-freq_part norms WithFreqs docs freqs = refl
length-freq_part norms WithFreqsAndPositions docs freqs =
    let four = length_le_bytes 4 (sum freqs) in
    omega (arith, length-append (le_bytes 4 (sum freqs)) (bound_bytes norms docs freqs))

length-entry_bytes : (norms : Option Norms) (skip_info : IndexRecordOption) (docs freqs : List ℕ) (i : ℕ) → length (entry_bytes norms skip_info docs freqs i) ≡ entry_size skip_info
length-entry_bytes norms skip_info docs freqs i =
    let four = length_le_bytes 4 (get_or (block_of docs i) 127 0) in
    let code = code_of_width (sorted_width (last_before docs i) (block_of docs i)) in
    let others = length-freq_part norms skip_info (block_of docs i) (block_of freqs i) in
    let front = length-append (le_bytes 4 (get_or (block_of docs i) 127 0)) (code ∷ []) in
    omega (arith, length-append (entry_of_block (last_before docs i) (block_of docs i)) (freq_part norms skip_info (block_of docs i) (block_of freqs i)))

length-rows : (f : ℕ → List ℕ) (size a n : ℕ) → ((k : ℕ) → length (f k) ≡ size) → length (flat_map f (range_with_len a n)) ≡ size * n
length-rows f size a zero h = omega arith
length-rows f size a (suc n) h =
    let ih = length-rows f size (a + 1) n h in
    let one = h a in
    let more : size * suc n ≡ size + size * n = omega arith in
    omega (arith, length-append (f a) (flat_map f (range_with_len (a + 1) n)))

pub length-entries : (norms : Option Norms) (skip_info : IndexRecordOption) (docs freqs : List ℕ) (n : ℕ)
    → length (flat_map (entry_bytes norms skip_info docs freqs) (range_with_len 0 n)) ≡ entry_size skip_info * n
length-entries norms skip_info docs freqs n = length-rows (entry_bytes norms skip_info docs freqs) (entry_size skip_info) 0 n (length-entry_bytes norms skip_info docs freqs)

entry_size-some : (skip_info : IndexRecordOption) (m : ℕ) → 0 < entry_size skip_info * suc m
entry_size-some Basic m = omega arith
entry_size-some WithFreqs m = omega arith
entry_size-some WithFreqsAndPositions m = omega arith

sized_some : (bytes : List ℕ) (size : ℕ) → length bytes ≡ size → 0 < size → vint_u64 size ++ bytes ≡ sized bytes
sized_some [] size e some = absurd (omega arith)
sized_some (b ∷ bs) size e some = ap (λ (k : ℕ). vint_u64 k ++ b ∷ bs) (sym e)

pub skip_bytes-sized : (norms : Option Norms) (skip_info : IndexRecordOption) (docs freqs : List ℕ) (n : ℕ)
    → skip_bytes norms skip_info docs freqs n ≡ sized (flat_map (entry_bytes norms skip_info docs freqs) (range_with_len 0 n))
skip_bytes-sized norms skip_info docs freqs zero = refl
skip_bytes-sized norms skip_info docs freqs (suc m) =
    sized_some (flat_map (entry_bytes norms skip_info docs freqs) (range_with_len 0 (suc m))) (entry_size skip_info * suc m) (length-entries norms skip_info docs freqs (suc m)) (entry_size-some skip_info m)

-- what is written of blocks and fewer documents after them
abbrev in_parts : Option Norms → IndexRecordOption → CountedDocs → ℕ → List ℕ
in_parts norms skip_info term m =
    skip_bytes norms skip_info term.docs term.freqs m ++ flat_map (block_bytes skip_info term.docs term.freqs) (range_with_len 0 m)
    ++ rest_bytes skip_info (last_before term.docs m) (drop (128 * m) term.docs) (drop (128 * m) term.freqs)

pub written_is : (norms : Option Norms) (skip_info : IndexRecordOption) (term rest : CountedDocs) (kept : KeptBlocks) → ArePacked norms skip_info term kept → IsOpenBlock skip_info rest
    → written_docs norms skip_info (joined term rest) ≡ sized kept.skip ++ kept.postings ++ rest_bytes skip_info kept.last_doc rest.docs rest.freqs
written_is norms skip_info term rest kept p r =
    let few = r.few in
    let even = p.whole.even in
    let all = all_blocks term.docs p.whole.whole in
    let size = length-append term.docs rest.docs in
    let blocks : length (term.docs ++ rest.docs) / 128 ≡ length term.docs / 128 = omega arith in
    let list = skip_bytes-sized norms skip_info (term.docs ++ rest.docs) (term.freqs ++ rest.freqs) (length term.docs / 128)
    ∙ ap sized (entries-append norms skip_info term rest p.whole ∙ ap (λ (k : KeptBlocks). k.skip) (sym p.kept_is))
    in
    let bytes = blocks-append norms skip_info term rest p.whole ∙ ap (λ (k : KeptBlocks). k.postings) (sym p.kept_is) in
    let end = last_before-append term.docs rest.docs (length term.docs / 128) (omega arith) ∙ ap (λ (k : KeptBlocks). k.last_doc) (sym p.kept_is) in
    let docs_after = drop_at term.docs rest.docs (128 * (length term.docs / 128)) all in
    let freqs_after = drop_at term.freqs rest.freqs (128 * (length term.docs / 128)) (omega arith) in
    ap (in_parts norms skip_info (joined term rest)) blocks
    ∙ (λ j. list j ++ bytes j ++ rest_bytes skip_info (end j) (docs_after j) (freqs_after j))

-- the written parts, by the bytes that the calls borrowed
pub written_lent : (norms : Option Norms) (skip_info : IndexRecordOption) (term rest : CountedDocs) (kept : KeptBlocks) (entries middle : List ℕ) → ArePacked norms skip_info term kept → IsOpenBlock skip_info rest
    → entries ≡ kept.skip → middle ≡ kept.postings → written_docs norms skip_info (joined term rest) ≡ sized entries ++ middle ++ rest_bytes skip_info kept.last_doc rest.docs rest.freqs
written_lent norms skip_info term rest kept entries middle p r entries_are middle_is =
    written_is norms skip_info term rest kept p r ∙ sym (λ j. sized (entries_are j) ++ middle_is j ++ rest_bytes skip_info kept.last_doc rest.docs rest.freqs)

-- documents that are written, and their counts
pub rest_written : (skip_info : IndexRecordOption) (last : ℕ) (rest lent : CountedDocs) (docs freqs : List ℕ) → true ≡ has_freq skip_info → lent.docs ≡ rest.docs → lent.freqs ≡ rest.freqs
    → docs ≡ sorted_vints last lent.docs → freqs ≡ unsorted_vints lent.freqs → rest_bytes skip_info last rest.docs rest.freqs ≡ docs ++ freqs
rest_written skip_info last rest lent docs freqs has docs_lent freqs_lent docs_are freqs_are =
    rw (← has, docs_are, freqs_are, docs_lent, freqs_lent) refl

-- three parts that are written one after the other
pub first_refused : (a b : CountingWriterState) (xs ys zs : List ℕ) (result : Result (Unit {0}) Fault) → true ≡ is_err result → Writes a b xs result → Writes a b (xs ++ ys ++ zs) result
first_refused a b xs ys zs result refused first = writes_refused_by a b (xs ++ ys) zs result refused (writes_refused_by a b xs ys result refused first)

pub second_refused : (a b c : CountingWriterState) (xs ys zs : List ℕ) (one result : Result (Unit {0}) Fault) → false ≡ is_err one → Writes a b xs one → true ≡ is_err result → Writes b c ys result → Writes a c (xs ++ ys ++ zs) result
second_refused a b c xs ys zs one result went first refused second =
    writes_refused_by a c (xs ++ ys) zs result refused (writes_then a b c xs ys result (writes_went a b xs one went first) second)

pub two_went : (a b c : CountingWriterState) (xs ys : List ℕ) (one two : Result (Unit {0}) Fault) → false ≡ is_err one → Writes a b xs one → false ≡ is_err two → Writes b c ys two → Wrote a c (xs ++ ys)
two_went a b c xs ys one two went first went_too second = Wrote-trans a b c xs ys (writes_went a b xs one went first) (writes_went b c ys two went_too second)

pub fits_cases : (a c : CountingWriterState) (xs ys : List ℕ) (result : Result (Unit {0}) Fault) → Wrote a c xs → OnOk result (¬ IsFull c (length ys)) → OnOk result (¬ IsFull a (length (xs ++ ys)))
fits_cases a c xs ys (Err e) front fits = tt
fits_cases a c xs ys (Ok v) front fits = λ full. fits (full_after a c xs (length ys) (length (xs ++ ys)) front (omega (arith, length-append xs ys)) full)

pub fits_by : (c : CountingWriterState) (n : ℕ) (result : Result (Unit {0}) Fault) → (IsErrOf result (Limit Offset) ↔ IsFull c n) → OnOk result (¬ IsFull c n)
fits_by c n (Err e) limit = tt
fits_by c n (Ok v) limit = λ full. let given = limit.1 full in absurd (cc)

-- a skip list after its number
pub sized_is : (skip front : List ℕ) → 0 < length skip → front ≡ vint_u64 (length skip) → sized skip ≡ front ++ skip
sized_is [] front some e = absurd (omega arith)
sized_is (x ∷ xs) front some e = ap (λ (f : List ℕ). f ++ x ∷ xs) (sym e)
