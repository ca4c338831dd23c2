-- Laws of the complete validation of a term's frequencies.
use Rattle.std.proofs.Common.{◌≡◌, ℕ, suc, ◌+◌, ◌*◌, ◌/◌, ◌<◌, Bool, true, false, List, [], ◌∷◌, ◌++◌, length, drop, Option, Some, None, nat_lt, refl, sym, ap, ◌∙◌, arith, is_some}
use Rattle.std.specs.List.{concat}
use Rattle.ii_base.specs.declared.schema.index_record_option.IndexRecordOption.{IndexRecordOption}
use Rattle.ii_io.specs.Steps.{◌>>=◌, needs}
use Rattle.ii_io.specs.Vints.{u32s_at}
use Rattle.ii_codes.specs.Blocks.{unsorted_block_at}
use Rattle.ii_layout.specs.Each.{each}
use Rattle.ii_layout.specs.declared.skip.BlockInfo.TheVariants.{BitPacked}
use Rattle.ii_layout.specs.SkipList.{SkipList, block_place}
use Rattle.ii_layout.specs.SkipReader.{SkipReaderState, reader_at}
use Rattle.ii_layout.specs.Frequencies.{bounds_counts, has_sum, block_freqs, freqs_at}
use Rattle.ii_layout.proofs.PositionLemmas.{each_none}
use Rattle.ii_layout.proofs.SkipReaderLemmas.{at_full_block}
use Rattle.ii_check.specs.Check.{block_freqs_in}
use Rattle.ii_check.proofs.CheckLemmas.{Told}

-- What is known of the counts of the blocks before block i.
abbrev pub AreCheckedTo : SkipList → ℕ → Type 0
AreCheckedTo skip i = (blocks : List (List ℕ)) × (each (block_freqs skip) i ≡ Some blocks)

-- a reader at a full block determines its term frequencies
pub freqs_here : (skip : SkipList) (reader : SkipReaderState) (doc_freq i offset : ℕ) (here : List ℕ) → reader ≡ reader_at skip.skip_info doc_freq skip.entries i → i < doc_freq / 128 → Told skip reader offset here
    → block_freqs_in skip.skip_info reader.block_info here ≡ block_freqs skip i
freqs_here skip reader doc_freq i offset here e h told =
    let at = at_full_block reader skip.skip_info doc_freq i skip.entries e h in
    let bytes : here ≡ drop (block_place skip.entries i) skip.body = told.here_is ∙ ap (λ (k : ℕ). drop k skip.body) (told.offset_is ∙ at.offset) in
    λ j. block_freqs_in skip.skip_info (at.info j) (bytes j)

next_cases : (skip : SkipList) (i : ℕ) (o : Option (List ℕ)) → AreCheckedTo skip i → block_freqs skip i ≡ o → is_some o ≡ true → AreCheckedTo skip (i + 1)
next_cases skip i None c e some = absurd (cc)
next_cases skip i (Some freqs) c e some =
    let one : suc i ≡ i + 1 = omega arith in
    (c.0 ++ freqs ∷ [], ap (each (block_freqs skip)) (sym one) ∙ (rw (c.1, e) refl))

-- one more block, or one that is missing
pub freqs_next : (skip : SkipList) (i : ℕ) → AreCheckedTo skip i → is_some (block_freqs skip i) ≡ true → AreCheckedTo skip (i + 1)
freqs_next skip i c some = next_cases skip i (block_freqs skip i) c refl some

fail_cases : (skip : SkipList) (i n : ℕ) (after : List ℕ) (o : Option (List ℕ)) → i < length skip.entries → block_freqs skip i ≡ o → is_some o ≡ false → false ≡ is_some (freqs_at skip n after)
fail_cases skip i n after None h e none =
    let all = each_none (block_freqs skip) i (length skip.entries) (nat_lt (i + 1) (length skip.entries)) e h refl in
    rw all refl
fail_cases skip i n after (Some freqs) h e none = absurd (cc)

pub freqs_fail : (skip : SkipList) (i n : ℕ) (after : List ℕ) → i < length skip.entries → is_some (block_freqs skip i) ≡ false → false ≡ is_some (freqs_at skip n after)
freqs_fail skip i n after h none = fail_cases skip i n after (block_freqs skip i) h refl none

rest_cases : (blocks : List (List ℕ)) (o : Option (List ℕ × List ℕ)) → is_some o ≡ is_some (o >>= λ rest. Some (concat blocks ++ rest.0))
rest_cases blocks None = refl
rest_cases blocks (Some rest) = refl

pub freqs_all : (skip : SkipList) (i n : ℕ) (after : List ℕ) → i ≡ length skip.entries → AreCheckedTo skip i → is_some (u32s_at n after) ≡ is_some (freqs_at skip n after)
freqs_all skip i n after end c =
    let read : each (block_freqs skip) (length skip.entries) ≡ Some c.0 = ap (each (block_freqs skip)) (sym end) ∙ c.1 in
    rw read (rest_cases c.0 (u32s_at n after))

bound_cases : (t : Bool) (freqs : List ℕ) → t ≡ is_some (needs t >>= λ _. Some freqs)
bound_cases true freqs = refl
bound_cases false freqs = refl

-- A block whose counts were read isn't there where its sum is wrong; else it is where they are bounded.
pub block_refused : (skip_info : IndexRecordOption) (w f tf_sum norm tf : ℕ) (s : Bool) (bytes freqs rest : List ℕ) → Some (freqs, rest) ≡ unsorted_block_at s f (drop (16 * w) bytes)
    → has_sum skip_info tf_sum freqs ≡ false → false ≡ is_some (block_freqs_in skip_info (BitPacked w s f tf_sum norm tf) bytes)
block_refused skip_info w f tf_sum norm tf s bytes freqs rest read sum = rw (← read, sum) refl

pub block_there : (skip_info : IndexRecordOption) (w f tf_sum norm tf : ℕ) (s t : Bool) (bytes freqs rest : List ℕ) → Some (freqs, rest) ≡ unsorted_block_at s f (drop (16 * w) bytes)
    → has_sum skip_info tf_sum freqs ≡ true → bounds_counts tf freqs ≡ t → t ≡ is_some (block_freqs_in skip_info (BitPacked w s f tf_sum norm tf) bytes)
block_there skip_info w f tf_sum norm tf s t bytes freqs rest read sum bound = rw (← read, sum, bound) (bound_cases t freqs)
