-- Laws of the search in the block that a cursor holds.
use Rattle.std.proofs.Common.{◌≡◌, ℕ, ◌+◌, ◌-◌, ◌*◌, ◌/◌, ◌<◌, ◌≤◌, Bool, true, false, not, List, length, drop, get_or, nat_lt, refl, sym, ap, ◌∙◌, arith, length-take, length-drop}
use Rattle.std.specs.List.Sorted.{IsNonDecreasing}
use Rattle.std.proofs.lemmas.Bool.{ltb-true, ltb-false}
use Rattle.std.proofs.lemmas.List.{get_or_past, get_or_default, length-replicate}
use Rattle.std.proofs.lemmas.List.Filters.{length-filter_both}
use Rattle.ii_base.specs.declared.doc_id.TheConstants.{TERMINATED}
use Rattle.ii_codes.specs.BlockDecoder.{BlockDecoderState}
use Rattle.ii_codes.specs.Search.{count_below}
use Rattle.ii_codes.proofs.SearchLemmas.{low_below, high_above}
use Rattle.ii_base.specs.Entries.{are_documents}
use Rattle.ii_layout.specs.Written.{block_of}
use Rattle.ii_layout.proofs.BlockDocs.{document_low, get_or-block_of}
use Rattle.ii_check.specs.CheckedPostings.{HoldsBlock}
use Rattle.ii_reader.specs.BlockSegmentPostings.{IsBelow, doc_in_block}
use Rattle.ii_reader.proofs.BlockLemmas.{doc_held}
use Rattle.ii_reader.proofs.SeekLemmas.{rises}

-- What is known of the block in which a target is looked for.
pub record IsSearched (target : ℕ) (docs : List ℕ) (block : ℕ) (decoder : BlockDecoderState) : Type 0 where
  pub held : HoldsBlock docs block TERMINATED decoder
  pub ascending : are_documents docs ≡ true
  pub up_to : target ≤ TERMINATED
  pub last : block < length docs / 128 → target ≤ get_or docs (128 * block + 127) 0

-- a decoder that holds a block has 128 entries
size_held : (docs : List ℕ) (block : ℕ) (decoder : BlockDecoderState) → HoldsBlock docs block TERMINATED decoder → (length decoder.output ≡ 128) × (length (block_of docs block) ≤ 128)
size_held docs block decoder h =
    let many = h.many in
    let size = length-take 128 (drop (128 * block) docs) in
    let front = ap length h.held in
    let taken = length-take decoder.output_len decoder.output in
    let behind : length (drop decoder.output_len decoder.output) ≡ 128 - decoder.output_len = ap length h.filled ∙ length-replicate (128 - decoder.output_len) TERMINATED in
    let dropped = length-drop decoder.output_len decoder.output in
    (omega arith, omega arith)

-- each entry is the document there, or the end
entry_is : (docs : List ℕ) (block i : ℕ) (decoder : BlockDecoderState) → HoldsBlock docs block TERMINATED decoder → i < 128 → get_or decoder.output i 0 ≡ doc_in_block docs block i
entry_is docs block i decoder h inside = doc_held docs block i (get_or decoder.output i 0) decoder h inside refl

doc_inside : (docs : List ℕ) (block i : ℕ) → i < length (block_of docs block) → i < 128 → doc_in_block docs block i ≡ get_or docs (128 * block + i) 0
doc_inside docs block i inside few = sym (get_or_default (block_of docs block) i 0 TERMINATED inside) ∙ get_or-block_of docs block i few

doc_past : (docs : List ℕ) (block i : ℕ) → length (block_of docs block) ≤ i → doc_in_block docs block i ≡ TERMINATED
doc_past docs block i past = get_or_past (block_of docs block) i TERMINATED past

in_list : (docs : List ℕ) (block i : ℕ) → i < length (block_of docs block) → 128 * block + i < length docs
in_list docs block i inside =
    let size = length-take 128 (drop (128 * block) docs) in
    let left = length-drop (128 * block) docs in
    omega arith

-- the entries don't fall
order_cases : (docs : List ℕ) (block i j : ℕ) (s t : Bool) → are_documents docs ≡ true → i ≤ j → j < 128 → nat_lt i (length (block_of docs block)) ≡ s → nat_lt j (length (block_of docs block)) ≡ t → doc_in_block docs block i ≤ doc_in_block docs block j
order_cases docs block i j s true h order few first second =
    let inside = ltb-true j (length (block_of docs block)) second in
    let low = doc_inside docs block i (omega arith) (omega arith) in
    let high = doc_inside docs block j inside few in
    let up = rises docs (128 * block + i) (128 * block + j) h (omega arith) (in_list docs block j inside) in
    omega arith
order_cases docs block i j true false h order few first second =
    let inside = ltb-true i (length (block_of docs block)) first in
    let low = doc_inside docs block i inside (omega arith) in
    let below = document_low docs (128 * block + i) h (in_list docs block i inside) in
    let high = doc_past docs block j (ltb-false j (length (block_of docs block)) second) in
    omega arith
order_cases docs block i j false false h order few first second =
    let low = doc_past docs block i (ltb-false i (length (block_of docs block)) first) in
    let high = doc_past docs block j (ltb-false j (length (block_of docs block)) second) in
    omega arith

pub entries_rise : (docs : List ℕ) (block : ℕ) (decoder : BlockDecoderState) → HoldsBlock docs block TERMINATED decoder → are_documents docs ≡ true → IsNonDecreasing decoder.output
entries_rise docs block decoder h up =
    λ i j d order inside.
    let size = (size_held docs block decoder h).0 in
    let first = sym (get_or_default decoder.output i 0 d (omega arith)) ∙ entry_is docs block i decoder h (omega arith) in
    let second = sym (get_or_default decoder.output j 0 d inside) ∙ entry_is docs block j decoder h (omega arith) in
    let up = order_cases docs block i j (nat_lt i (length (block_of docs block))) (nat_lt j (length (block_of docs block))) up order (omega arith) refl refl in
    omega arith

-- the target isn't above the last entry
last_cases : (target : ℕ) (docs : List ℕ) (block : ℕ) (decoder : BlockDecoderState) (t : Bool) → IsSearched target docs block decoder → nat_lt 127 (length (block_of docs block)) ≡ t → target ≤ get_or decoder.output 127 0
last_cases target docs block decoder true s test =
    let inside = ltb-true 127 (length (block_of docs block)) test in
    let there = in_list docs block 127 inside in
    let here = entry_is docs block 127 decoder s.held (omega arith) ∙ doc_inside docs block 127 inside (omega arith) in
    let enough = s.last (omega arith) in
    omega arith
last_cases target docs block decoder false s test =
    let here = entry_is docs block 127 decoder s.held (omega arith) ∙ doc_past docs block 127 (ltb-false 127 (length (block_of docs block)) test) in
    let up = s.up_to in
    omega arith

pub last_high : (target : ℕ) (docs : List ℕ) (block : ℕ) (decoder : BlockDecoderState) → IsSearched target docs block decoder → target ≤ get_or decoder.output 127 0
last_high target docs block decoder s = last_cases target docs block decoder (nat_lt 127 (length (block_of docs block))) s refl

-- the count of entries below the target is that of documents of the block
few_below : (target : ℕ) (values : List ℕ) → count_below target values ≤ length values
few_below target values =
    let both = length-filter_both (λ (v : ℕ). nat_lt v target) (λ (v : ℕ). not (nat_lt v target)) (λ v. refl) values in
    omega arith

within_cases : (target : ℕ) (docs : List ℕ) (block : ℕ) (decoder : BlockDecoderState) (t : Bool) → IsSearched target docs block decoder → nat_lt (length (block_of docs block)) (count_below target decoder.output) ≡ t → count_below target decoder.output ≤ length (block_of docs block)
within_cases target docs block decoder false s test = ltb-false (length (block_of docs block)) (count_below target decoder.output) test
within_cases target docs block decoder true s test =
    let n = length (block_of docs block) in
    let past = ltb-true n (count_below target decoder.output) test in
    let size = (size_held docs block decoder s.held).0 in
    let few = few_below target decoder.output in
    let low = low_below target decoder.output n (entries_rise docs block decoder s.held s.ascending) past in
    let here = entry_is docs block n decoder s.held (omega arith) ∙ doc_past docs block n (omega arith) in
    let up = s.up_to in
    absurd (omega arith)

pub counted_below : (target : ℕ) (docs : List ℕ) (block : ℕ) (decoder : BlockDecoderState) → IsSearched target docs block decoder → IsBelow target (block_of docs block) (count_below target decoder.output)
counted_below target docs block decoder s =
    let within = within_cases target docs block decoder (nat_lt (length (block_of docs block)) (count_below target decoder.output)) s refl in
    let sizes = size_held docs block decoder s.held in
    let size = sizes.0 in
    let most = sizes.1 in
    let up = entries_rise docs block decoder s.held s.ascending in
    record {
      within = within;
      before = λ n inside.
          let here = entry_is docs block n decoder s.held (omega arith) ∙ sym (get_or_default (block_of docs block) n 0 TERMINATED (omega arith)) in
          let low = low_below target decoder.output n up inside in
          omega arith;
      there = λ inside.
          let here = entry_is docs block (count_below target decoder.output) decoder s.held (omega arith) ∙ sym (get_or_default (block_of docs block) (count_below target decoder.output) 0 TERMINATED inside) in
          let high = high_above target decoder.output (count_below target decoder.output) up (omega arith) (omega arith) in
          omega arith;
    }
