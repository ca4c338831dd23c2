-- Laws of the sum of a term's deltas, block by block.
use Rattle.std.proofs.Common.{◌≡◌, ℕ, ◌+◌, ◌-◌, ◌*◌, ◌^◌, ◌<◌, ◌≤◌, Bool, true, false, List, ◌++◌, length, take, drop, get_or, nat_lt, nat_le, Some, is_some, refl, sym, ap, ◌∙◌, arith, length-drop}
use Rattle.std.specs.List.{sum}
use Rattle.std.proofs.Math.Seq.{take-add}
use Rattle.std.proofs.lemmas.Bool.{ltb-true, ltb-false, le-ltb, le-leb, lt-leb}
use Rattle.std.proofs.lemmas.List.{take_all, take-append-drop}
use Rattle.std.proofs.lemmas.List.Sums.{sum_by-append}
use Rattle.ii_io.specs.StepLemmas.{some-same}
use Rattle.ii_layout.specs.Positions.{place_by_widths}
use Rattle.ii_layout.specs.PositionReader.{KeepsBlock, deltas_of, deltas_at_block}
use Rattle.ii_layout.specs.Written.{block_of}
use Rattle.ii_layout.proofs.PositionLemmas.{kept_at, length-cut, place_more}

-- A number of blocks were summed, and the next one is at this place.
pub record SumsUp (deltas widths : List ℕ) (block place total : ℕ) : Type 0 where
  pub place_is : place ≡ place_by_widths widths block
  pub total_is : total ≡ sum (take (128 * block) deltas)
  pub small : total < 2 ^ 32

pub sum-append : (xs ys : List ℕ) → sum (xs ++ ys) ≡ sum xs + sum ys
sum-append xs ys = sum_by-append (λ (n : ℕ). n) xs ys

pub sum_next : (deltas : List ℕ) (block : ℕ) → sum (take (128 * (block + 1)) deltas) ≡ sum (take (128 * block) deltas) + sum (block_of deltas block)
sum_next deltas block =
    let place : 128 * (block + 1) ≡ 128 * block + 128 = omega arith in
    ap (λ (n : ℕ). sum (take n deltas)) place ∙ ap sum (take-add (128 * block) 128 deltas) ∙ sum-append (take (128 * block) deltas) (block_of deltas block)

pub sum_whole : (deltas : List ℕ) (n : ℕ) → sum deltas ≡ sum (take n deltas) + sum (drop n deltas)
sum_whole deltas n = ap sum (sym (take-append-drop n deltas)) ∙ sum-append (take n deltas) (drop n deltas)

-- the sum of all deltas by that of the full blocks and of the others
pub sum_ends : (deltas : List ℕ) (blocks rest : ℕ) → length deltas ≡ 128 * blocks + rest → rest < 128 → sum deltas ≡ sum (take (128 * blocks) deltas) + sum (block_of deltas blocks)
sum_ends deltas blocks rest len few =
    let left = length-drop (128 * blocks) deltas in
    let all : block_of deltas blocks ≡ drop (128 * blocks) deltas = take_all 128 (drop (128 * blocks) deltas) (omega arith) in
    sum_whole deltas (128 * blocks) ∙ ap (λ (xs : List ℕ). sum (take (128 * blocks) deltas) + sum xs) (sym all)

-- The blocks of deltas as they are read from widths and bytes that were cut out.
pub record AreBlocks (deltas ws bs : List ℕ) (blocks rest : ℕ) : Type 0 where
  pub reads : (i : ℕ) → i ≤ blocks → deltas_at_block (record { widths = ws; body = bs }) i ≡ Some (block_of deltas i)
  pub widths : length ws ≡ blocks
  pub len : length deltas ≡ 128 * blocks + rest
  pub few : rest < 128

pub are_blocks : (bytes ws bs anchors held : List ℕ) (widths body stride block place rest : ℕ) → KeepsBlock bytes widths body stride anchors block place held rest → ws ≡ take (body - widths) (drop widths bytes) → bs ≡ drop body bytes
    → AreBlocks (deltas_of bytes) ws bs (body - widths) rest
are_blocks bytes ws bs anchors held widths body stride block place rest k ws_are bs_are =
    record {
      reads = λ i low. kept_at bytes ws bs anchors held widths body stride block place rest i k ws_are bs_are low;
      widths = ap length ws_are ∙ length-cut bytes widths body k.there.order k.there.within;
      len = k.len;
      few = k.few;
    }

-- a block is there
pub there_is : (deltas ws bs : List ℕ) (blocks rest i : ℕ) → AreBlocks deltas ws bs blocks rest → i ≤ length ws → is_some (deltas_at_block (record { widths = ws; body = bs }) i) ≡ true
there_is deltas ws bs blocks rest i a low = let many = a.widths in ap is_some (a.reads i (omega arith))

row_sum : (deltas ws bs row : List ℕ) (blocks rest i n : ℕ) → AreBlocks deltas ws bs blocks rest → i ≤ length ws → Some row ≡ deltas_at_block (record { widths = ws; body = bs }) i → n ≡ sum row → n ≡ sum (block_of deltas i)
row_sum deltas ws bs row blocks rest i n a low read is = let many = a.widths in is ∙ ap sum (some-same (read ∙ a.reads i (omega arith)))

pub next_sum : (deltas ws bs row : List ℕ) (blocks rest block place total n size : ℕ) → AreBlocks deltas ws bs blocks rest → SumsUp deltas ws block place total → block < length ws → Some row ≡ deltas_at_block (record { widths = ws; body = bs }) block → n ≡ sum row
    → total + n < 2 ^ 32 → size ≡ 16 * get_or ws block 0 → SumsUp deltas ws (block + 1) (place + size) (total + n)
next_sum deltas ws bs row blocks rest block place total n size a s low read is small size_is =
    let here = row_sum deltas ws bs row blocks rest block n a (omega arith) read is in
    let before = s.total_is in
    let more = sum_next deltas block in
    let place_is = s.place_is in
    record { place_is = omega (arith, place_more ws block low); total_is = omega arith; small = small }

-- a sum that is too large already
pub large_sum : (deltas ws bs row : List ℕ) (blocks rest block place total n : ℕ) → AreBlocks deltas ws bs blocks rest → SumsUp deltas ws block place total → block < length ws → Some row ≡ deltas_at_block (record { widths = ws; body = bs }) block → n ≡ sum row
    → 4294967295 < total + n → false ≡ nat_lt (sum deltas) 4294967296
large_sum deltas ws bs row blocks rest block place total n a s low read is large =
    let here = row_sum deltas ws bs row blocks rest block n a (omega arith) read is in
    let before = s.total_is in
    let more = sum_next deltas block in
    let all = sum_whole deltas (128 * (block + 1)) in
    sym (le-ltb (sum deltas) 4294967296 (omega arith))

small_cases : (a b : ℕ) (t : Bool) → a ≡ b → nat_lt b 4294967296 ≡ t → nat_le a 4294967295 ≡ nat_lt b 4294967296
small_cases a b true e test =
    let low = ltb-true b 4294967296 test in
    le-leb a 4294967295 (omega arith) ∙ sym test
small_cases a b false e test =
    let high = ltb-false b 4294967296 test in
    lt-leb a 4294967295 (omega arith) ∙ sym test

-- the sum of all deltas
pub last_sum : (deltas ws row : List ℕ) (blocks rest block place total n most : ℕ) → length ws ≡ blocks → length deltas ≡ 128 * blocks + rest → rest < 128 → SumsUp deltas ws block place total → block ≡ length ws → row ≡ block_of deltas block → n ≡ sum row
    → most ≡ 4294967295 → nat_le (total + n) most ≡ nat_lt (sum deltas) 4294967296
last_sum deltas ws row blocks rest block place total n most widths len few s end read is most_is =
    let before = s.total_is in
    let here : n ≡ sum (block_of deltas block) = is ∙ ap sum read in
    let size : length deltas ≡ 128 * block + rest = omega arith in
    let ends = sum_ends deltas block rest size few in
    rw most_is (small_cases (total + n) (sum deltas) (nat_lt (sum deltas) 4294967296) (omega arith) refl)

pub last_read : (deltas ws bs row : List ℕ) (blocks rest block place total n most : ℕ) → AreBlocks deltas ws bs blocks rest → SumsUp deltas ws block place total → block ≡ length ws → Some row ≡ deltas_at_block (record { widths = ws; body = bs }) (length ws) → n ≡ sum row
    → most ≡ 4294967295 → nat_le (total + n) most ≡ nat_lt (sum deltas) 4294967296
last_read deltas ws bs row blocks rest block place total n most a s end read is most_is =
    let many = a.widths in
    let here = some-same (read ∙ a.reads (length ws) (omega arith)) ∙ ap (block_of deltas) (sym end) in
    last_sum deltas ws row blocks rest block place total n most a.widths a.len a.few s end here is most_is
