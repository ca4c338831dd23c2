-- What is gathered from terms, block by block.
use Rattle.std.proofs.Common.{◌≡◌, ℕ, zero, suc, ◌+◌, ◌*◌, ◌/◌, ◌^◌, ◌<◌, ◌≤◌, List, [], ◌∷◌, ◌++◌, length, take, drop, Result, Ok, Err, ⊎_elim, refl, sym, ap, ◌∙◌, arith, length-append, length-drop}
use Rattle.std.specs.Prelude.{OnOk}
use Rattle.std.specs.List.{range_with_len}
use Rattle.std.proofs.lemmas.Bool.{cases_lt}
use Rattle.ii_io.specs.declared.faults.Fault.{Fault}
use Rattle.std.proofs.lemmas.List.{append-nil, take-append-le, drop-append-le, take_all, drop_all}
use Rattle.std.proofs.lemmas.List.Concat.{length-flat_map}
use Rattle.ii_io.specs.Numbers.{le_bytes}
use Rattle.ii_codes.specs.Bits.{bits_bytes}
use Rattle.ii_termstore.specs.declared.term_info.TermInfo.{TermInfo}
use Rattle.ii_termstore.specs.declared.term_info_store.block_meta.TermInfoBlockMeta.{TermInfoBlockMeta as Meta}
use Rattle.ii_termstore.specs.TermInfos.{HasLengths, IsInRange}
use Rattle.ii_termstore.specs.TermStore.{meta_bytes, block_count}
use Rattle.ii_termstore.specs.Written.{HaveLengths, info_in, first_of, meta_for, block_row, terms_of_block, bits_of_block, offset_of, meta_at_block, metas_bytes, blocks_bytes, written_store}
use Rattle.ii_termstore.specs.ReadBack.{AreJoined, AreStorable}
use Rattle.ii_termstore.specs.TermInfoStoreWriter.{AreGathered, AreSound, open_meta, open_bits}
use Rattle.ii_termstore.proofs.WriterLemmas.{flat_more}
use Rattle.ii_termstore.proofs.PieceLemmas.{pieces_same}

-- full blocks stay where terms are added
block_stays : (infos more : List TermInfo) (b : ℕ) → 256 * b + 256 ≤ length infos → terms_of_block (infos ++ more) b ≡ terms_of_block infos b
block_stays infos more b full =
    let front = drop-append-le (256 * b) infos more (omega arith) in
    let size = length-drop (256 * b) infos in
    ap (take 256) front ∙ take-append-le 256 (drop (256 * b) infos) more (omega arith)

bits_stay : (infos more : List TermInfo) (b : ℕ) → 256 * b + 256 ≤ length infos → bits_of_block (infos ++ more) b ≡ bits_of_block infos b
unfolding bits_of_block
bits_stay infos more b full = rw (block_stays infos more b full) refl

blocks_stay : (infos more : List TermInfo) (b : ℕ) → 256 * b ≤ length infos → blocks_bytes (infos ++ more) b ≡ blocks_bytes infos b
blocks_stay infos more b full = pieces_same (bits_of_block (infos ++ more)) (bits_of_block infos) b (λ k within. bits_stay infos more k (omega arith))

-- where the bits of a block begin
offset_is : (infos : List TermInfo) (b : ℕ) → offset_of infos b ≡ length (blocks_bytes infos b)
offset_is infos b = sym (length-flat_map (bits_of_block infos) (range_with_len 0 b))

meta_stays : (infos more : List TermInfo) (b : ℕ) → 256 * b + 256 ≤ length infos → meta_at_block (infos ++ more) b ≡ meta_at_block infos b
unfolding meta_at_block
meta_stays infos more b full =
    let offset = offset_is (infos ++ more) b ∙ ap length (blocks_stay infos more b (omega arith)) ∙ sym (offset_is infos b) in
    rw (block_stays infos more b full, offset) refl

metas_stay : (infos more : List TermInfo) (b : ℕ) → 256 * b ≤ length infos → metas_bytes (infos ++ more) b ≡ metas_bytes infos b
metas_stay infos more b full =
    pieces_same (λ k. meta_bytes (meta_at_block (infos ++ more) k)) (λ k. meta_bytes (meta_at_block infos k)) b (λ k within. ap meta_bytes (meta_stays infos more k (omega arith)))

-- the open block, of terms that are not nothing
open_meta_is : (offset : ℕ) (is : List TermInfo) → 0 < length is → open_meta offset is ≡ meta_bytes (meta_for offset (first_of is) (drop 1 is))
open_meta_is offset [] some = absurd (omega arith)
open_meta_is offset (i ∷ is) some = refl

open_bits_is : (is : List TermInfo) → 0 < length is → open_bits is ≡ bits_bytes (block_row (meta_for 0 (first_of is) (drop 1 is)) (drop 1 is))
open_bits_is [] some = absurd (omega arith)
open_bits_is (i ∷ is) some = refl

last_bits : (infos : List TermInfo) (b : ℕ) → 256 * b < length infos → length infos ≤ 256 * b + 256 → bits_of_block infos b ≡ open_bits (drop (256 * b) infos)
unfolding bits_of_block
last_bits infos b some few =
    let size = length-drop (256 * b) infos in
    let whole = take_all 256 (drop (256 * b) infos) (omega arith) in
    rw whole (sym (open_bits_is (drop (256 * b) infos) (omega arith)))

last_meta : (infos : List TermInfo) (b : ℕ) → 256 * b < length infos → length infos ≤ 256 * b + 256 → meta_bytes (meta_at_block infos b) ≡ open_meta (length (blocks_bytes infos b)) (drop (256 * b) infos)
unfolding meta_at_block
last_meta infos b some few =
    let size = length-drop (256 * b) infos in
    let whole = take_all 256 (drop (256 * b) infos) (omega arith) in
    rw (whole, offset_is infos b) (sym (open_meta_is (length (blocks_bytes infos b)) (drop (256 * b) infos) (omega arith)))

-- one block more
blocks_next : (infos : List TermInfo) (b : ℕ) → 256 * b < length infos → length infos ≤ 256 * b + 256 → blocks_bytes infos (b + 1) ≡ blocks_bytes infos b ++ open_bits (drop (256 * b) infos)
blocks_next infos b some few = flat_more (bits_of_block infos) b ∙ ap (λ (bs : List ℕ). blocks_bytes infos b ++ bs) (last_bits infos b some few)

metas_next : (infos : List TermInfo) (b : ℕ) → 256 * b < length infos → length infos ≤ 256 * b + 256
    → metas_bytes infos (b + 1) ≡ metas_bytes infos b ++ open_meta (length (blocks_bytes infos b)) (drop (256 * b) infos)
metas_next infos b some few = flat_more (λ k. meta_bytes (meta_at_block infos k)) b ∙ ap (λ (bs : List ℕ). metas_bytes infos b ++ bs) (last_meta infos b some few)

-- What was gathered, as the code names its parts.
pub record Gathered : Type 0 where
  pub num_terms : ℕ
  pub block_metas : List ℕ
  pub block_bits : List ℕ
  pub open_block : List TermInfo

abbrev pub Holds : List TermInfo → Gathered → Type 0
Holds infos g = AreGathered infos g.num_terms g.block_metas g.block_bits g.open_block

-- a term more in the open block
pub gathered_more : (infos : List TermInfo) (info : TermInfo) (g : Gathered) → Holds infos g → length g.open_block + 1 < 256
    → AreGathered (infos ++ info ∷ []) (g.num_terms + 1) g.block_metas g.block_bits (g.open_block ++ info ∷ [])
gathered_more infos info g h few =
    let more = info ∷ [] in
    let size = ap length h.rest ∙ length-drop (256 * (length infos / 256)) infos in
    let all = length-append infos (info ∷ []) in
    let same : length (infos ++ info ∷ []) / 256 ≡ length infos / 256 = omega arith in
    let count = h.count in
    record {
      count = omega arith;
      metas = rw same (h.metas ∙ sym (metas_stay infos (info ∷ []) (length infos / 256) (omega arith)));
      bits = rw same (h.bits ∙ sym (blocks_stay infos (info ∷ []) (length infos / 256) (omega arith)));
      rest = rw same (ap (λ (is : List TermInfo). is ++ info ∷ []) h.rest ∙ sym (drop-append-le (256 * (length infos / 256)) infos (info ∷ []) (omega arith)));
    }

-- a term that fills the open block
pub gathered_full : (infos : List TermInfo) (info : TermInfo) (g : Gathered) → Holds infos g → length g.open_block + 1 ≡ 256
    → AreGathered (infos ++ info ∷ []) (g.num_terms + 1) (g.block_metas ++ open_meta (length g.block_bits) (g.open_block ++ info ∷ [])) (g.block_bits ++ open_bits (g.open_block ++ info ∷ [])) []
gathered_full infos info g h full =
    let b = length infos / 256 in
    let size = ap length h.rest ∙ length-drop (256 * (length infos / 256)) infos in
    let all = length-append infos (info ∷ []) in
    let next : length (infos ++ info ∷ []) / 256 ≡ length infos / 256 + 1 = omega arith in
    let count = h.count in
    let last = ap (λ (is : List TermInfo). is ++ info ∷ []) h.rest ∙ sym (drop-append-le (256 * (length infos / 256)) infos (info ∷ []) (omega arith)) in
    let bits = h.bits ∙ sym (blocks_stay infos (info ∷ []) (length infos / 256) (omega arith)) in
    let metas = h.metas ∙ sym (metas_stay infos (info ∷ []) (length infos / 256) (omega arith)) in
    record {
      count = omega arith;
      metas = rw (next, last, bits, metas) (sym (metas_next (infos ++ info ∷ []) (length infos / 256) (omega arith) (omega arith)));
      bits = rw (next, last, bits) (sym (blocks_next (infos ++ info ∷ []) (length infos / 256) (omega arith) (omega arith)));
      rest = sym (drop_all (256 * (length (infos ++ info ∷ []) / 256)) (infos ++ info ∷ []) (omega arith));
    }

-- the first of some terms
first_has_lengths : (is : List TermInfo) → 0 < length is → HaveLengths is → HasLengths (first_of is)
first_has_lengths [] some h = absurd (omega arith)
first_has_lengths (i ∷ is) some h = h 0 (omega arith)

pub meta_has_lengths : (offset : ℕ) (is : List TermInfo) (m : Meta) → m ≡ meta_for offset (first_of is) (drop 1 is) → 0 < length is → HaveLengths is → HasLengths m.ref_term_info
unfolding meta_for
meta_has_lengths offset is m e some h = let first = ap (λ (m : Meta). m.ref_term_info) e in rw first (first_has_lengths is some h)

-- where a block begins says nothing of its bits
bits_anywhere : (offset : ℕ) (first : TermInfo) (others : List TermInfo) → block_row (meta_for offset first others) others ≡ block_row (meta_for 0 first others) others
unfolding meta_for
bits_anywhere offset first others = refl

pub open_bits_by : (offset : ℕ) (is : List TermInfo) (m : Meta) → m ≡ meta_for offset (first_of is) (drop 1 is) → 0 < length is → bits_bytes (block_row m (drop 1 is)) ≡ open_bits is
open_bits_by offset is m e some =
    ap (λ (m : Meta). bits_bytes (block_row m (drop 1 is))) e ∙ ap bits_bytes (bits_anywhere offset (first_of is) (drop 1 is)) ∙ sym (open_bits_is is some)

-- the store of what was gathered
pub gathered_written : (infos : List TermInfo) (g : Gathered) → Holds infos g
    → ((le_bytes 8 (39 * block_count g.num_terms) ++ le_bytes 8 g.num_terms) ++ (g.block_metas ++ open_meta (length g.block_bits) g.open_block)) ++ (g.block_bits ++ open_bits g.open_block) ≡ written_store infos
unfolding written_store
gathered_written infos g h =
    let b = length infos / 256 in
    ⊎_elim
    (λ some.
    let blocks : block_count (length infos) ≡ length infos / 256 + 1 = omega arith in
    let metas = metas_next infos (length infos / 256) some (omega arith) in
    let bits = blocks_next infos (length infos / 256) some (omega arith) in
    rw (h.count, h.metas, h.bits, h.rest, blocks, metas, bits) refl)
    (λ none.
    let blocks : block_count (length infos) ≡ length infos / 256 = omega arith in
    let all = drop_all (256 * (length infos / 256)) infos none in
    rw (h.count, h.metas, h.bits, h.rest, blocks, all, append-nil (metas_bytes infos (length infos / 256)), append-nil (blocks_bytes infos (length infos / 256))) refl)
    (cases_lt (256 * (length infos / 256)) (length infos))

pub gathered_storable : (infos : List TermInfo) (g : Gathered) → Holds infos g → AreSound infos → g.num_terms < 2 ^ 64 → length g.block_bits < 2 ^ 64 → AreStorable infos
gathered_storable infos g h sound few small =
    let count = h.count in
    record { few = omega arith; bits = rw (← h.bits) small; lengths = sound.lengths; ranges = sound.ranges }

-- one term more
pushed_each : (P : TermInfo → Type 0) (infos : List TermInfo) (i : TermInfo) → ((k : ℕ) → k < length infos → P (info_in infos k)) → P i → (k : ℕ) → k < length (infos ++ i ∷ []) → P (info_in (infos ++ i ∷ []) k)
pushed_each P [] i h last zero within = last
pushed_each P [] i h last (suc k) within = absurd (omega arith)
pushed_each P (x ∷ xs) i h last zero within = h 0 (omega arith)
pushed_each P (x ∷ xs) i h last (suc k) within = pushed_each P xs i (λ j below. h (suc j) (omega arith)) last k (omega arith)

pub sound_more : (infos : List TermInfo) (i : TermInfo) → AreSound infos → HasLengths i → IsInRange i → AreJoined (infos ++ i ∷ []) → AreSound (infos ++ i ∷ [])
sound_more infos i h lengths range joined = record { lengths = pushed_each HasLengths infos i h.lengths lengths; ranges = pushed_each IsInRange infos i h.ranges range; joined = joined }

pub open_meta_by : (offset : ℕ) (is : List TermInfo) (m : Meta) → m ≡ meta_for offset (first_of is) (drop 1 is) → 0 < length is → meta_bytes m ≡ open_meta offset is
open_meta_by offset is m e some = ap meta_bytes e ∙ sym (open_meta_is offset is some)

pub gathered_flushed : (infos : List TermInfo) (info : TermInfo) (old new : Gathered) (full : List TermInfo) (count : ℕ) (result : Result (Unit {0}) Fault) → Holds infos old → full ≡ old.open_block ++ info ∷ [] → length full ≡ 256
    → count ≡ old.num_terms + 1 → OnOk result (new.block_metas ≡ old.block_metas ++ open_meta (length old.block_bits) full) → OnOk result (new.block_bits ≡ old.block_bits ++ open_bits full)
    → OnOk result ((new.open_block ≡ []) × (new.num_terms ≡ count)) → OnOk result (Holds (infos ++ info ∷ []) new)
gathered_flushed infos info old new full count (Ok u) h e size more metas bits terms =
    let many = ap length e ∙ length-append old.open_block (info ∷ []) in
    rw (metas, bits, terms.0, terms.1, e, more) (gathered_full infos info old h (omega arith))
gathered_flushed infos info old new full count (Err f) h e size more metas bits terms = tt
