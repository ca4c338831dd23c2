-- Laws of the frequencies of a term, block by block.
use Rattle.std.proofs.Common.{◌≡◌, ℕ, zero, suc, ◌+◌, ◌*◌, ◌^◌, ◌<◌, ◌≤◌, Bool, true, false, List, [], ◌∷◌, ◌++◌, length, take, drop, get_or, Some, nat_le, nat_lt, refl, sym, ap, ◌∙◌, arith, length-append}
use Rattle.std.specs.List.{concat, sum}
use Rattle.std.proofs.Math.Seq.{take-add}
use Rattle.std.proofs.lemmas.Bool.{eqb-true}
use Rattle.std.proofs.lemmas.List.Sums.{sum_by_more, sum_by-append}
use Rattle.ii_base.specs.declared.schema.index_record_option.IndexRecordOption.{IndexRecordOption}
use Rattle.ii_base.specs.declared.schema.index_record_option.IndexRecordOption.TheVariants.{Basic, WithFreqs, WithFreqsAndPositions}
use Rattle.ii_base.specs.Options.{has_positions}
use Rattle.std.proofs.lemmas.List.Folds.{list_all-append}
use Rattle.ii_io.specs.Steps.{needs}
use Rattle.ii_io.specs.StepLemmas.{needs-some, step-some, some-same}
use Rattle.ii_io.specs.Vints.{groups_at, u32_at, u32s_at}
use Rattle.ii_codes.specs.Packed.{unpacked}
use Rattle.ii_codes.specs.Sums.{fit_u32}
use Rattle.ii_codes.specs.Blocks.{unsorted_block_at, unsorted_values}
use Rattle.ii_codes.proofs.PackedLemmas.{length-entries_in}
use Rattle.ii_layout.specs.Each.{each}
use Rattle.ii_layout.specs.SkipList.{SkipEntry, SkipList, no_entry, block_place, tf_sum_before}
use Rattle.ii_layout.specs.Documents.{skip_entry}
use Rattle.ii_layout.specs.Frequencies.{bounds_counts, has_sum, block_freqs, freqs_at}
use Rattle.ii_layout.specs.SkipReader.{max_tf_of_code}
use Rattle.ii_layout.specs.Written.{block_of}
use Rattle.ii_layout.proofs.DocumentLemmas.{each_gives, AreWhole, length-concat, concat_block, last_block}

-- A given number of 32-bit values.
pub record Fit (n : ℕ) (values : List ℕ) : Type 0 where
  pub many : length values ≡ n
  pub low : fit_u32 values ≡ true

length-unsorted_values : (minus_one : Bool) (es : List ℕ) → length (unsorted_values minus_one es) ≡ length es
length-unsorted_values true [] = refl
length-unsorted_values true (e ∷ es) = ap suc (length-unsorted_values true es)
length-unsorted_values false es = refl

pub block_fits : (minus_one : Bool) (w : ℕ) (bytes vs rest : List ℕ) → unsorted_block_at minus_one w bytes ≡ Some (vs, rest) → Fit 128 vs
unfolding unsorted_block_at unpacked
block_fits minus_one w bytes vs rest e =
    let first = step-some (needs (nat_le w 32)) _ (vs, rest) e in
    let second = step-some (needs (nat_le (16 * w) (length bytes))) _ (vs, rest) first.2 in
    let third = needs-some (fit_u32 (unsorted_values minus_one (unpacked w bytes))) _ (vs, rest) second.2 in
    let found = ap (λ (p : List ℕ × List ℕ). p.0) (some-same third.1) in
    record {
      many = ap length (sym found) ∙ length-unsorted_values minus_one (unpacked w bytes) ∙ length-entries_in 8 w 128 bytes;
      low = ap fit_u32 (sym found) ∙ third.0;
    }

number_fits : (bytes rest : List ℕ) (v : ℕ) → u32_at bytes ≡ Some (v, rest) → nat_lt v (2 ^ 32) ≡ true
unfolding u32_at
number_fits bytes rest v e =
    let found = step-some (groups_at 5 bytes) _ (v, rest) e in
    let low = needs-some (nat_lt found.0.0 (2 ^ 32)) _ (v, rest) found.2 in
    ap (λ (n : ℕ). nat_lt n (2 ^ 32)) (sym (ap (λ (p : ℕ × List ℕ). p.0) (some-same low.1))) ∙ low.0

pub row_fits : (n : ℕ) (bytes vs rest : List ℕ) → u32s_at n bytes ≡ Some (vs, rest) → Fit n vs
row_fits zero bytes vs rest e =
    let none = ap (λ (p : List ℕ × List ℕ). p.0) (some-same e) in
    record { many = ap length (sym none); low = ap fit_u32 (sym none) }
row_fits (suc n) bytes vs rest e =
    let first = step-some (u32_at bytes) _ (vs, rest) e in
    let others = step-some (u32s_at n first.0.1) _ (vs, rest) first.2 in
    let whole = ap (λ (p : List ℕ × List ℕ). p.0) (some-same others.2) in
    let ih = row_fits n first.0.1 others.0.0 others.0.1 others.1 in
    let low = number_fits bytes first.0.1 first.0.0 first.1 in
    let both : fit_u32 (first.0.0 ∷ others.0.0) ≡ true = rw (low, ih.low) refl in
    record { many = ap length (sym whole) ∙ ap suc ih.many; low = ap fit_u32 (sym whole) ∙ both }

-- What holds for the frequencies of a valid block.
pub record StandFreqs (skip : SkipList) (i : ℕ) (freqs : List ℕ) : Type 0 where
  pub after : List ℕ
  pub read : unsorted_block_at (skip_entry skip.entries i).strict_delta (skip_entry skip.entries i).tf_num_bits (drop (16 * (skip_entry skip.entries i).doc_num_bits) (drop (block_place skip.entries i) skip.body)) ≡ Some (freqs, after)
  pub sum_is : has_sum skip.skip_info (skip_entry skip.entries i).tf_sum freqs ≡ true
  pub bound_is : bounds_counts (max_tf_of_code (skip_entry skip.entries i).block_wand_term_freq) freqs ≡ true

stand_freqs : (skip : SkipList) (i : ℕ) (freqs : List ℕ) → block_freqs skip i ≡ Some freqs → StandFreqs skip i freqs
stand_freqs skip i freqs e =
    let found = step-some (unsorted_block_at (skip_entry skip.entries i).strict_delta (skip_entry skip.entries i).tf_num_bits (drop (16 * (skip_entry skip.entries i).doc_num_bits) (drop (block_place skip.entries i) skip.body))) _ freqs e in
    let sum = needs-some (has_sum skip.skip_info (skip_entry skip.entries i).tf_sum found.0.0) _ freqs found.2 in
    let bound = needs-some (bounds_counts (max_tf_of_code (skip_entry skip.entries i).block_wand_term_freq) found.0.0) _ freqs sum.1 in
    let same = some-same bound.1 in
    record {
      after = found.0.1;
      read = found.1 ∙ ap (λ (vs : List ℕ). Some (vs, found.0.1)) same;
      sum_is = ap (has_sum skip.skip_info (skip_entry skip.entries i).tf_sum) (sym same) ∙ sum.0;
      bound_is = ap (bounds_counts (max_tf_of_code (skip_entry skip.entries i).block_wand_term_freq)) (sym same) ∙ bound.0;
    }

-- each row has the given number of 32-bit values
abbrev AllFit : List (List ℕ) → Type 0
AllFit blocks = (i : ℕ) → i < length blocks → Fit 128 (get_or blocks i [])

all_fit : (skip : SkipList) (n : ℕ) (blocks : List (List ℕ)) → each (block_freqs skip) n ≡ Some blocks → AllFit blocks
all_fit skip n blocks e i h =
    let all = each_gives (block_freqs skip) n blocks e in
    let many = all.many in
    let here = stand_freqs skip i (get_or blocks i []) (all.at i (omega arith)) in
    block_fits _ _ _ (get_or blocks i []) here.after here.read

concat_low : (blocks : List (List ℕ)) → AllFit blocks → fit_u32 (concat blocks) ≡ true
concat_low [] h = refl
concat_low (b ∷ bs) h =
    let first = (h 0 (omega arith)).low in
    let others = concat_low bs (λ i below. h (suc i) (omega arith)) in
    list_all-append (λ v. nat_lt v (2 ^ 32)) b (concat bs) ∙ rw (first, others) refl

-- What holds for valid frequencies.
record Stand (skip : SkipList) (n : ℕ) (after freqs : List ℕ) : Type 0 where
  blocks : List (List ℕ)
  rest : List ℕ
  left : List ℕ
  read : each (block_freqs skip) (length skip.entries) ≡ Some blocks
  rest_read : u32s_at n after ≡ Some (rest, left)
  freqs_are : freqs ≡ concat blocks ++ rest

stand : (skip : SkipList) (n : ℕ) (after freqs : List ℕ) → freqs_at skip n after ≡ Some freqs → Stand skip n after freqs
stand skip n after freqs e =
    let blocks = step-some (each (block_freqs skip) (length skip.entries)) _ freqs e in
    let rest = step-some (u32s_at n after) _ freqs blocks.2 in
    record { blocks = blocks.0; rest = rest.0.0; left = rest.0.1; read = blocks.1; rest_read = rest.1; freqs_are = sym (some-same rest.2) }

whole : (skip : SkipList) (n : ℕ) (after freqs : List ℕ) (s : Stand skip n after freqs) → AreWhole s.blocks
whole skip n after freqs s = λ i h. (all_fit skip (length skip.entries) s.blocks s.read i h).many

-- Valid frequencies are as many as the documents, have 32 bits, and lie in their blocks.
pub freqs_fit : (skip : SkipList) (n : ℕ) (after freqs : List ℕ) → freqs_at skip n after ≡ Some freqs → Fit (128 * length skip.entries + n) freqs
freqs_fit skip n after freqs e =
    let s = stand skip n after freqs e in
    let many = (each_gives (block_freqs skip) (length skip.entries) s.blocks s.read).many in
    let blocks = length-concat s.blocks (whole skip n after freqs s) in
    let rest = row_fits n after s.rest s.left s.rest_read in
    let rest_many = rest.many in
    let low = concat_low s.blocks (all_fit skip (length skip.entries) s.blocks s.read) in
    let rest_low = rest.low in
    record {
      many = ap length s.freqs_are ∙ omega (arith, length-append (concat s.blocks) s.rest);
      low = ap fit_u32 s.freqs_are ∙ list_all-append (λ v. nat_lt v (2 ^ 32)) (concat s.blocks) s.rest ∙ rw (low, rest_low) refl;
    }

pub block_of_freqs : (skip : SkipList) (n i : ℕ) (after freqs : List ℕ) → freqs_at skip n after ≡ Some freqs → i < length skip.entries → StandFreqs skip i (block_of freqs i)
block_of_freqs skip n i after freqs e h =
    let s = stand skip n after freqs e in
    let all = each_gives (block_freqs skip) (length skip.entries) s.blocks s.read in
    let many = all.many in
    let here : block_of freqs i ≡ get_or s.blocks i [] = ap (λ (fs : List ℕ). block_of fs i) s.freqs_are ∙ concat_block i s.blocks s.rest (whole skip n after freqs s) (omega arith) in
    rw here (stand_freqs skip i (get_or s.blocks i []) (all.at i h))

pub rest_of_freqs : (skip : SkipList) (n i : ℕ) (after freqs : List ℕ) → freqs_at skip n after ≡ Some freqs → n < 128 → i ≡ length skip.entries → (left : List ℕ) × (u32s_at n after ≡ Some (block_of freqs i, left))
rest_of_freqs skip n i after freqs e few end =
    let s = stand skip n after freqs e in
    let many = (each_gives (block_freqs skip) (length skip.entries) s.blocks s.read).many in
    let size = (row_fits n after s.rest s.left s.rest_read).many in
    let here : block_of freqs i ≡ s.rest = ap (λ (fs : List ℕ). block_of fs i) s.freqs_are ∙ last_block i s.blocks s.rest (whole skip n after freqs s) (end ∙ sym many) (omega arith) in
    (s.left, rw here s.rest_read)

-- the counts of all blocks before a block, by the sums of the entries
told_sum : (skip_info : IndexRecordOption) (tf_sum : ℕ) (freqs : List ℕ) → has_positions skip_info ≡ true → has_sum skip_info tf_sum freqs ≡ true → sum freqs ≡ tf_sum
told_sum Basic tf_sum freqs has e = absurd (cc)
told_sum WithFreqs tf_sum freqs has e = absurd (cc)
told_sum WithFreqsAndPositions tf_sum freqs has e = eqb-true (sum freqs) tf_sum e

pub freqs_before : (skip : SkipList) (n i : ℕ) (after freqs : List ℕ) → freqs_at skip n after ≡ Some freqs → has_positions skip.skip_info ≡ true → i ≤ length skip.entries → tf_sum_before skip.entries i ≡ sum (take (128 * i) freqs)
freqs_before skip n zero after freqs e has within = refl
freqs_before skip n (suc i) after freqs e has within =
    let earlier = freqs_before skip n i after freqs e has (omega arith) in
    let here = told_sum skip.skip_info (skip_entry skip.entries i).tf_sum (block_of freqs i) has (block_of_freqs skip n i after freqs e (omega arith)).sum_is in
    let next : suc i ≡ i + 1 = omega arith in
    let more = ap (tf_sum_before skip.entries) next ∙ sum_by_more (λ (e : SkipEntry). e.tf_sum) skip.entries i no_entry (omega arith) in
    let place : 128 * suc i ≡ 128 * i + 128 = omega arith in
    let parted = ap (λ (k : ℕ). sum (take k freqs)) place ∙ ap sum (take-add (128 * i) 128 freqs) ∙ sum_by-append (λ (x : ℕ). x) (take (128 * i) freqs) (block_of freqs i) in
    more ∙ omega arith ∙ sym parted
