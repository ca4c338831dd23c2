-- Laws of the blocks that a cursor decoded.
use Rattle.std.proofs.Common.{◌≡◌, ℕ, zero, suc, ◌+◌, ◌<◌, ◌≤◌, ◌⊎◌, inl, inr, true, false, List, [], ◌∷◌, ◌++◌, length, get_or, Option, None, Some, is_some, refl, sym, ap, ◌∙◌, append-nil, arith}
use Rattle.std.specs.List.{AllByRecursion}
use Rattle.std.proofs.lemmas.List.{append_assoc}
use Rattle.ii_codes.specs.BlockDecoder.{BlockDecoderState}
use Rattle.ii_layout.specs.Written.{block_of}
use Rattle.ii_check.specs.CheckedPostings.{HoldsBlock, LoadsFreqs, new_decoder}
use Rattle.ii_check.specs.DecodedBlocks.{AreDecoded, AscendWithin, DecodesAllowed, DecodesLast, DecodesLater, LogsFreqs, logged}

-- a decoder that holds a block adds it
pub logs : (values : List ℕ) (block padding : ℕ) (decoder : BlockDecoderState) (old new : List ℕ) → HoldsBlock values block padding decoder → new ≡ old ++ logged block decoder.output_len → new ≡ old ++ logged block (length (block_of values block))
logs values block padding decoder old new holds is = is ∙ ap (λ (n : ℕ). old ++ logged block n) holds.many

-- term frequencies that are read, and those that aren't
pub logs_freqs : (o : Option (List ℕ)) (block : ℕ) (old new : List ℕ) (before decoder : BlockDecoderState) → is_some o ≡ true → LoadsFreqs o block before decoder → new ≡ old ++ logged block decoder.output_len → LogsFreqs o block old new
logs_freqs None block old new before decoder some loads is = absurd (cc)
logs_freqs (Some fs) block old new before decoder some loads is = logs fs block 1 decoder old new loads.holds is

pub logs_no_freqs : (o : Option (List ℕ)) (block : ℕ) (old new : List ℕ) → is_some o ≡ false → new ≡ old → LogsFreqs o block old new
logs_no_freqs None block old new none same = same
logs_no_freqs (Some fs) block old new none same = absurd (cc)

-- those of the first block, from a new decoder
pub logs_first : (o : Option (List ℕ)) (old new : List ℕ) (decoder : BlockDecoderState) → LoadsFreqs o 0 (new_decoder 1) decoder → new ≡ old ++ logged 0 decoder.output_len → LogsFreqs o 0 old new
logs_first None old new decoder loads is = is ∙ ap (λ (d : BlockDecoderState). old ++ logged 0 d.output_len) loads ∙ append-nil old
logs_first (Some fs) old new decoder loads is = logs fs 0 1 decoder old new loads.holds is

-- a range of blocks in a longer one
pub ascend_wider : (first last first' last' : ℕ) (bs : List ℕ) → first' ≤ first → last ≤ last' → AscendWithin first last bs → AscendWithin first' last' bs
ascend_wider first last first' last' [] low high ascend = tt
ascend_wider first last first' last' (b ∷ bs) low high ascend =
    let from = ascend.0 in
    let to = ascend.1 in
    (omega arith, omega arith, ascend_wider (b + 1) last (b + 1) last' bs (omega arith) high ascend.2)

-- blocks and later ones
pub ascend_on : (first middle last : ℕ) (bs cs : List ℕ) → first ≤ middle + 1 → middle ≤ last → AscendWithin first middle bs → AscendWithin (middle + 1) last cs → AscendWithin first last (bs ++ cs)
ascend_on first middle last [] cs low high ascend later = ascend_wider (middle + 1) last first last cs low (omega arith) later
ascend_on first middle last (b ∷ bs) cs low high ascend later =
    let from = ascend.0 in
    let to = ascend.1 in
    (from, omega arith, ascend_on (b + 1) middle last bs cs (omega arith) high ascend.2 later)

-- no block is there twice
pub ascend_bounds : (first last : ℕ) (bs : List ℕ) (i : ℕ) → AscendWithin first last bs → i < length bs → (first ≤ get_or bs i 0) × (get_or bs i 0 ≤ last)
ascend_bounds first last [] i ascend inside = absurd (omega arith)
ascend_bounds first last (b ∷ bs) zero ascend inside = (ascend.0, ascend.1)
ascend_bounds first last (b ∷ bs) (suc i) ascend inside =
    let from = ascend.0 in
    let later = ascend_bounds (b + 1) last bs i ascend.2 (omega arith) in
    let low = later.0 in
    (omega arith, later.1)

pub ascend_strictly : (first last : ℕ) (bs : List ℕ) (i j : ℕ) → AscendWithin first last bs → i < j → j < length bs → get_or bs i 0 < get_or bs j 0
ascend_strictly first last [] i j ascend order inside = absurd (omega arith)
ascend_strictly first last (b ∷ bs) i zero ascend order inside = absurd (omega arith)
ascend_strictly first last (b ∷ bs) zero (suc j) ascend order inside =
    let later = ascend_bounds (b + 1) last bs j ascend.2 (omega arith) in
    let low = later.0 in
    omega arith
ascend_strictly first last (b ∷ bs) (suc i) (suc j) ascend order inside = ascend_strictly (b + 1) last bs i j ascend.2 (omega arith) (omega arith)

-- a run of moves decodes later blocks
pub later_none : (block : ℕ) (blocks : List ℕ) → DecodesLater block block blocks blocks
later_none block blocks = record { added = []; are = sym (append-nil blocks); ascend = tt }

pub later_still : (old new : ℕ) (blocks blocks' : List ℕ) → blocks' ≡ blocks → DecodesLater old new blocks blocks'
later_still old new blocks blocks' same = record { added = []; are = same ∙ sym (append-nil blocks); ascend = tt }

pub later_on : (i j k : ℕ) (bs cs ds : List ℕ) → i ≤ j → j ≤ k → DecodesLater i j bs cs → DecodesLater j k cs ds → DecodesLater i k bs ds
later_on i j k bs cs ds low high first second =
    record {
      added = first.added ++ second.added;
      are = second.are ∙ ap (λ (l : List ℕ). l ++ second.added) first.are ∙ append_assoc bs first.added second.added;
      ascend = ascend_on (i + 1) j k first.added second.added (omega arith) high first.ascend second.ascend;
    }

-- one that is the last
pub later_last : (old new : ℕ) (blocks blocks' : List ℕ) → DecodesLast old new blocks blocks' → DecodesLater old new blocks blocks'
later_last old new blocks blocks' (inl same) = later_still old new blocks blocks' same
later_last old new blocks blocks' (inr on) = let more = on.0 in record { added = new ∷ []; are = on.1; ascend = (omega arith, omega arith, tt) }

-- what was decoded up to a block, and later
pub decoded_on : (old new decodes decodes' : ℕ) (blocks blocks' : List ℕ) → old ≤ new → AreDecoded old decodes blocks → DecodesLater old new blocks blocks' → length blocks' ≡ decodes' → AreDecoded new decodes' blocks'
decoded_on old new decodes decodes' blocks blocks' forward was later many =
    record { many = many; ascend = rw later.are (ascend_on 0 old new blocks later.added (omega arith) forward was.ascend later.ascend) }

-- all of a list
pub all_append : (P : ℕ → Type 0) (bs cs : List ℕ) → AllByRecursion P bs → AllByRecursion P cs → AllByRecursion P (bs ++ cs)
all_append P [] cs first second = second
all_append P (b ∷ bs) cs first second = (first.0, all_append P bs cs first.1 second)

pub all_at : (P : ℕ → Type 0) (bs : List ℕ) (i : ℕ) → AllByRecursion P bs → i < length bs → P (get_or bs i 0)
all_at P [] i all inside = absurd (omega arith)
all_at P (b ∷ bs) zero all inside = all.0
all_at P (b ∷ bs) (suc i) all inside = all_at P bs i all.1 (omega arith)

-- the same of blocks that are allowed
pub allowed_on : (P : ℕ → Type 0) (i j k : ℕ) (bs cs ds : List ℕ) → i ≤ j → j ≤ k → DecodesAllowed P i j bs cs → DecodesAllowed P j k cs ds → DecodesAllowed P i k bs ds
unfolding later_on
allowed_on P i j k bs cs ds low high first second =
    record { later = later_on i j k bs cs ds low high first.later second.later; only = all_append P first.later.added second.later.added first.only second.only }

pub allowed_none : (P : ℕ → Type 0) (block : ℕ) (blocks : List ℕ) → DecodesAllowed P block block blocks blocks
unfolding later_none
allowed_none P block blocks = record { later = later_none block blocks; only = tt }

pub allowed_last : (P : ℕ → Type 0) (old new : ℕ) (blocks blocks' : List ℕ) → P new → DecodesLast old new blocks blocks' → DecodesAllowed P old new blocks blocks'
unfolding later_still later_last
allowed_last P old new blocks blocks' allowed (inl same) = record { later = later_still old new blocks blocks' same; only = tt }
allowed_last P old new blocks blocks' allowed (inr on) = record { later = later_last old new blocks blocks' (inr on); only = (allowed, tt) }

pub allowed_weaker : (P Q : ℕ → Type 0) (old new : ℕ) (blocks blocks' : List ℕ) → ((b : ℕ) → old < b → b ≤ new → P b → Q b) → DecodesAllowed P old new blocks blocks' → DecodesAllowed Q old new blocks blocks'
allowed_weaker P Q old new blocks blocks' weaker d = record { later = d.later; only = each (old + 1) d.later.added (omega arith) d.later.ascend d.only }
  where
    each : (first : ℕ) (bs : List ℕ) → old < first → AscendWithin first new bs → AllByRecursion P bs → AllByRecursion Q bs
    each first [] low ascend all = tt
    each first (b ∷ bs) low ascend all = let from = ascend.0 in (weaker b (omega arith) ascend.1 all.0, each (b + 1) bs (omega arith) ascend.2 all.1)
