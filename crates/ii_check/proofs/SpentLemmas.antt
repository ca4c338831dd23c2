-- What validating positions decodes.
use Rattle.std.proofs.Common.{◌≡◌, ℕ, zero, suc, ◌+◌, ◌*◌, ◌/◌, ◌^◌, ◌<◌, ◌≤◌, Bool, true, false, List, [], length, take, nat_lt, Option, None, Some, is_some, unwrap_or, refl, ap, arith, length-take}
use Rattle.std.specs.List.{sum}
use Rattle.ii_codes.specs.BlockDecoder.{BlockDecoderState, decodes_of}
use Rattle.ii_layout.specs.PositionReader.{DecodesEachOnce, PositionReaderState, block_kept, deltas_of}
use Rattle.ii_layout.specs.Positions.{position_deltas}
use Rattle.ii_layout.specs.Written.{block_of}
use Rattle.ii_check.specs.CheckedPositions.{ChecksBytes, ChecksDeltas, PositionCounts, SpendsTo}
use Rattle.ii_check.specs.CheckedPostings.{Loads, LoadsFreqs}

-- a reader that goes on
spends_kept : (before place n : ℕ) (old new : PositionReaderState) → SpendsTo before place old → DecodesEachOnce place (suc n) old new → new.block ≡ block_kept old.block place (suc n) → SpendsTo before (place + suc n) new
spends_kept before zero n old new s d kept =
    let nothing = s.nothing refl in
    let once = d.once (omega arith) in
    record {
      nothing = λ e. absurd (omega arith);
      decodes = λ on. omega arith;
      block = λ on. omega arith;
    }
spends_kept before (suc place) n old new s d kept =
    let some = s.decodes (omega arith) in
    let at = s.block (omega arith) in
    let forward = d.forward (omega arith) in
    record {
      nothing = λ e. absurd (omega arith);
      decodes = λ on. omega arith;
      block = λ on. omega arith;
    }

pub spends_on : (before place n next : ℕ) (old new : PositionReaderState) → SpendsTo before place old → 0 < n → DecodesEachOnce place n old new → new.block ≡ block_kept old.block place n → next ≡ place + n → SpendsTo before next new
spends_on before place zero next old new s some d kept is = absurd (omega arith)
spends_on before place (suc n) next old new s some d kept is = rw is (spends_kept before place n old new s d kept)

-- one that reads into the front of a buffer
pub spends_read : (before start done count place next : ℕ) (buffer : List ℕ) (old new : PositionReaderState) → SpendsTo before (start + done) old → 0 < count → length buffer ≡ 128 → count ≤ 128 → place ≡ done
    → DecodesEachOnce (start + place) (length (take count buffer)) old new → new.block ≡ block_kept old.block (start + place) (length (take count buffer)) → next ≡ start + (done + count) → SpendsTo before next new
spends_read before start done count place next buffer old new s some size few place_is d kept is =
    let many = length-take count buffer in
    let whole : length (take count buffer) ≡ count = omega arith in
    spends_on before (start + place) count next old new (rw place_is s) some (rw whole at d) (rw whole at kept) (omega arith)

-- a reader of all deltas
pub spends_all : (before place n : ℕ) (reader : PositionReaderState) → SpendsTo before place reader → place ≤ n → reader.decodes ≤ before + n / 128 + 1
spends_all before zero n reader s low =
    let nothing = s.nothing refl in
    omega arith
spends_all before (suc place) n reader s low =
    let some = s.decodes (omega arith) in
    let at = s.block (omega arith) in
    omega arith

-- a block is decoded at most once
pub decodes_most : (n : ℕ) → decodes_of n ≤ 1
decodes_most zero = omega arith
decodes_most (suc n) = omega arith

pub one_block : (values : List ℕ) (block padding : ℕ) (old new : BlockDecoderState) → Loads values block padding old new → new.decodes ≤ old.decodes + 1
one_block values block padding old new loads =
    let more = loads.decodes in
    let one = decodes_most (length (block_of values block)) in
    omega arith

pub one_freqs : (o : Option (List ℕ)) (block : ℕ) (old new : BlockDecoderState) → LoadsFreqs o block old new → new.decodes ≤ old.decodes + 1
one_freqs None block old new loads = let same = ap (λ (d : BlockDecoderState). d.decodes) loads in omega arith
one_freqs (Some fs) block old new loads = one_block fs block 1 old new loads

-- the deltas that bytes hold
deltas_are : (bytes deltas : List ℕ) → position_deltas bytes ≡ Some deltas → deltas_of bytes ≡ deltas
unfolding deltas_of
deltas_are bytes deltas e = ap (λ (o : Option (List ℕ)). unwrap_or o []) e

-- what is decoded if the sum of the deltas is small, and if it isn't
pub checks_small : (n : ℕ) (bytes deltas : List ℕ) (old new : PositionCounts) → position_deltas bytes ≡ Some deltas → nat_lt (sum deltas) (2 ^ 32) ≡ true → new.docs ≡ old.docs → new.freqs ≡ old.freqs
    → new.positions ≤ old.positions + length deltas / 128 → ChecksDeltas 0 n (deltas_of bytes) old new
checks_small n bytes deltas old new read small docs freqs few =
    rw (deltas_are bytes deltas read) (record { docs = omega arith; freqs = omega arith; positions = rw small few })

pub checks_large : (n : ℕ) (bytes deltas : List ℕ) (old new : PositionCounts) → position_deltas bytes ≡ Some deltas → nat_lt (sum deltas) (2 ^ 32) ≡ false → new.docs ≤ old.docs + n / 128 + 1 → new.freqs ≤ old.freqs + n / 128 + 1
    → new.positions ≤ old.positions + 2 * (length deltas / 128) + 2 → ChecksDeltas 0 n (deltas_of bytes) old new
checks_large n bytes deltas old new read large docs freqs few =
    rw (deltas_are bytes deltas read) (record { docs = rw large (omega arith); freqs = rw large (omega arith); positions = rw large (omega arith) })

-- the last block of documents and term frequencies beside them
checks_one : (n : ℕ) (deltas : List ℕ) (old middle new : PositionCounts) (t : Bool) → nat_lt (sum deltas) (2 ^ 32) ≡ t → middle.docs ≤ old.docs + 1 → middle.freqs ≤ old.freqs + 1 → middle.positions ≡ old.positions
    → ChecksDeltas 0 n deltas middle new → ChecksDeltas 1 n deltas old new
checks_one n deltas old middle new true small docs freqs positions checks =
    let a = rw small at checks.docs in
    let b = rw small at checks.freqs in
    let d = checks.positions in
    record { docs = rw small (omega arith); freqs = rw small (omega arith); positions = omega arith }
checks_one n deltas old middle new false large docs freqs positions checks =
    let a = rw large at checks.docs in
    let b = rw large at checks.freqs in
    let d = checks.positions in
    record { docs = rw large (omega arith); freqs = rw large (omega arith); positions = omega arith }

pub checks_more : (n : ℕ) (positions : Option (List ℕ)) (old middle new : PositionCounts) → is_some positions ≡ true → middle.docs ≤ old.docs + 1 → middle.freqs ≤ old.freqs + 1 → middle.positions ≡ old.positions
    → ChecksBytes 0 n positions middle new → ChecksBytes 1 n positions old new
checks_more n None old middle new some docs freqs same checks = absurd (cc)
checks_more n (Some bytes) old middle new some docs freqs same checks = checks_one n (deltas_of bytes) old middle new (nat_lt (sum (deltas_of bytes)) (2 ^ 32)) refl docs freqs same checks
