-- What a serializer of positions keeps of deltas, and what it writes.
use Rattle.std.proofs.Common.{◌≡◌, ℕ, suc, ◌+◌, ◌-◌, ◌*◌, ◌/◌, ◌^◌, ◌<◌, ◌≤◌, false, true, List, [], ◌∷◌, ◌++◌, map, length, take, drop, get_or, unwrap_or, Result, is_err, Option, Some, refl, sym, ap, ◌∙◌, arith, append_assoc, length-append}
use Rattle.std.proofs.Math.Seq.{take-add}
use Rattle.std.proofs.lemmas.List.{take_all, drop_at, length-drop, append-nil}
use Rattle.std.proofs.lemmas.List.FromFn.{length-map-range_with_len, map-range_with_len_more}
use Rattle.std.specs.List.{concat, flat_map, range_with_len, AllByRecursion}
use Rattle.std.specs.Option.{option_map}
use Rattle.ii_io.specs.CountingWriter.{CountingWriterState, Writes}
use Rattle.ii_io.proofs.WriteSteps.{writes_both, writes_refused_by}
use Rattle.ii_io.specs.Vints.{vint_u64}
use Rattle.ii_io.specs.declared.faults.Fault.{Fault}
use Rattle.ii_codes.specs.Blocks.{unsorted_width, unsorted_bytes}
use Rattle.ii_codes.specs.UnsortedVints.{unsorted_vints}
use Rattle.ii_layout.specs.Each.{each}
use Rattle.ii_layout.specs.Positions.{block_deltas, position_deltas, written_positions}
use Rattle.ii_layout.specs.PositionSerializer.{blocks_of, deltas_in, PacksDeltas}
use Rattle.ii_layout.specs.Written.{block_of}
use Rattle.ii_layout.proofs.BlockDocs.{block_of-append}
use Rattle.ii_layout.proofs.PackingLemmas.{flat_map-same, flat_map-range, block_of-last}
use Rattle.ii_layout.proofs.PositionLaws.{blocks_read, reads_positions_back}
use Rattle.ii_layout.proofs.ReadBackLemmas.{map-same, blocks_are, fit_by}

-- rows of 32 bits, one after the other
fit_both : (xs ys : List ℕ) → AllByRecursion (λ v. v < 2 ^ 32) xs → AllByRecursion (λ v. v < 2 ^ 32) ys → AllByRecursion (λ v. v < 2 ^ 32) (xs ++ ys)
fit_both [] ys h k = k
fit_both (x ∷ xs) ys h k = (h.0, fit_both xs ys h.1 k)

none_in : deltas_in [] [] ≡ []
unfolding deltas_in
none_in = refl

packs_none : PacksDeltas (deltas_in [] []) [] []
packs_none = rw none_in (record { whole = refl; fit = tt; widths_are = refl; body_is = refl })

-- what is kept of no deltas
pub empty_in : (widths body : List ℕ) → widths ≡ [] → body ≡ [] → deltas_in widths body ≡ []
empty_in widths body e f = rw (e, f) none_in

pub packs_empty : (widths body : List ℕ) → widths ≡ [] → body ≡ [] → PacksDeltas (deltas_in widths body) widths body
packs_empty widths body e f = rw (e, f) packs_none

-- what is kept determines the deltas
pub deltas_in-is : (deltas widths body : List ℕ) → PacksDeltas deltas widths body → deltas_in widths body ≡ deltas
unfolding deltas_in
deltas_in-is deltas widths body p =
    let whole = p.whole in
    let all : 128 * (length deltas / 128) ≡ length deltas = omega arith in
    let body_is : body ≡ blocks_of deltas ++ [] = p.body_is ∙ sym (append-nil (blocks_of deltas)) in
    let read = blocks_read deltas p.fit [] (length deltas / 128) (omega arith) in
    let found = (λ j. each (block_deltas (record { widths = p.widths_are j; body = body_is j })) (length (p.widths_are j))) ∙ read in
    ap (λ (o : Option (List (List ℕ))). unwrap_or (option_map concat o) []) found ∙ blocks_are deltas (length deltas / 128) ∙ take_all (128 * (length deltas / 128)) deltas (omega arith)

-- deltas after leave widths and blocks as they are
widths-append : (deltas more : List ℕ) (n : ℕ) → 128 * n ≤ length deltas
    → map (λ i. unsorted_width false (block_of (deltas ++ more) i)) (range_with_len 0 n) ≡ map (λ i. unsorted_width false (block_of deltas i)) (range_with_len 0 n)
widths-append deltas more n whole =
    map-same (λ i. unsorted_width false (block_of deltas i)) (λ i. unsorted_width false (block_of (deltas ++ more) i)) 0 n (λ k h. ap (unsorted_width false) (block_of-append deltas more k (omega arith)))

blocks-append : (deltas more : List ℕ) (n : ℕ) → 128 * n ≤ length deltas
    → flat_map (λ i. unsorted_bytes false (block_of (deltas ++ more) i)) (range_with_len 0 n) ≡ flat_map (λ i. unsorted_bytes false (block_of deltas i)) (range_with_len 0 n)
blocks-append deltas more n whole =
    flat_map-same (λ i. unsorted_bytes false (block_of deltas i)) (λ i. unsorted_bytes false (block_of (deltas ++ more) i)) 0 n (λ k h. ap (unsorted_bytes false) (block_of-append deltas more k (omega arith)))

-- a block more
packs_more : (deltas block widths body : List ℕ) → PacksDeltas deltas widths body → length block ≡ 128 → AllByRecursion (λ v. v < 2 ^ 32) block
    → PacksDeltas (deltas ++ block) (widths ++ unsorted_width false block ∷ []) (body ++ unsorted_bytes false block)
packs_more deltas block widths body p many fit =
    let whole = p.whole in
    let n = length deltas / 128 in
    let size = length-append deltas block in
    let all : length deltas ≡ 128 * (length deltas / 128) = omega arith in
    let next : length (deltas ++ block) / 128 ≡ suc (length deltas / 128) = omega arith in
    let one : suc (length deltas / 128) ≡ length deltas / 128 + 1 = omega arith in
    let last = block_of-last deltas block (length deltas / 128) all many in
    let width = map-range_with_len_more (λ i. unsorted_width false (block_of (deltas ++ block) i)) 0 (length deltas / 128) (length deltas / 128) (omega arith) in
    record {
      whole = omega arith;
      fit = fit_both deltas block p.fit fit;
      widths_are = (λ j. p.widths_are j ++ unsorted_width false block ∷ [])
          ∙ sym (ap (λ (m : ℕ). map (λ i. unsorted_width false (block_of (deltas ++ block) i)) (range_with_len 0 m)) (next ∙ one) ∙ width
          ∙ (λ j. widths-append deltas block (length deltas / 128) (omega arith) j ++ unsorted_width false (last j) ∷ []));
      body_is = (λ j. p.body_is j ++ unsorted_bytes false block)
          ∙ sym (ap (λ (m : ℕ). flat_map (λ i. unsorted_bytes false (block_of (deltas ++ block) i)) (range_with_len 0 m)) next ∙ flat_map-range (λ i. unsorted_bytes false (block_of (deltas ++ block) i)) (length deltas / 128)
          ∙ (λ j. blocks-append deltas block (length deltas / 128) (omega arith) j ++ unsorted_bytes false (last j)));
    }

-- The same of what was kept, and of what is kept then.
pub record PushesBlock (block widths body widths' body' : List ℕ) : Type 0 where
  pub packed : PacksDeltas (deltas_in widths body) widths body
  pub many : length block ≡ 128
  pub fit : (k : ℕ) → get_or block k 0 < 2 ^ 32
  pub widths_are : widths' ≡ widths ++ unsorted_width false block ∷ []
  pub body_is : body' ≡ body ++ unsorted_bytes false block

pushes : (block widths body widths' body' : List ℕ) → PushesBlock block widths body widths' body' → PacksDeltas (deltas_in widths body ++ block) widths' body'
pushes block widths body widths' body' p =
    let fit = fit_by block (λ k h. p.fit k) in
    rw (p.widths_are, p.body_is) (packs_more (deltas_in widths body) block widths body p.packed p.many fit)

pub pushed_are : (block widths body widths' body' : List ℕ) → PushesBlock block widths body widths' body' → deltas_in widths' body' ≡ deltas_in widths body ++ block
pushed_are block widths body widths' body' p = deltas_in-is (deltas_in widths body ++ block) widths' body' (pushes block widths body widths' body' p)

pub pushed_packs : (block widths body widths' body' : List ℕ) → PushesBlock block widths body widths' body' → PacksDeltas (deltas_in widths' body') widths' body'
pushed_packs block widths body widths' body' p = rw (pushed_are block widths body widths' body' p) (pushes block widths body widths' body' p)

-- what is written of what is kept, and of fewer deltas than a block has
many_blocks : (deltas widths body rest : List ℕ) → PacksDeltas deltas widths body → length rest < 128 → length (deltas ++ rest) / 128 ≡ length deltas / 128
many_blocks deltas widths body rest p few = let whole = p.whole in omega (arith, length-append deltas rest)

length-widths : (deltas widths body : List ℕ) → PacksDeltas deltas widths body → length widths ≡ length deltas / 128
length-widths deltas widths body p = ap length p.widths_are ∙ length-map-range_with_len (λ i. unsorted_width false (block_of deltas i)) 0 (length deltas / 128)

written_of_packed : (deltas widths body rest : List ℕ) (n : ℕ) → PacksDeltas deltas widths body → length rest < 128 → n ≡ length widths
    → written_positions (deltas ++ rest) ≡ vint_u64 n ++ widths ++ body ++ unsorted_vints rest
written_of_packed deltas widths body rest n p few n_is =
    let whole = p.whole in
    let many = many_blocks deltas widths body rest p few in
    let count : length deltas / 128 ≡ n = sym (n_is ∙ length-widths deltas widths body p) in
    let after = drop_at deltas rest (128 * (length deltas / 128)) (omega arith) in
    ap (λ (m : ℕ). vint_u64 m ++ map (λ i. unsorted_width false (block_of (deltas ++ rest) i)) (range_with_len 0 m) ++ flat_map (λ i. unsorted_bytes false (block_of (deltas ++ rest) i)) (range_with_len 0 m)
    ++ unsorted_vints (drop (128 * m) (deltas ++ rest))) many
    ∙ (λ j. vint_u64 (count j) ++ (widths-append deltas rest (length deltas / 128) (omega arith) ∙ sym p.widths_are) j ++ (blocks-append deltas rest (length deltas / 128) (omega arith) ∙ sym p.body_is) j ++ unsorted_vints (after j))

-- and it gives these deltas
pub holds_packed : (deltas widths body rest : List ℕ) → PacksDeltas deltas widths body → length rest < 128 → ((k : ℕ) → get_or rest k 0 < 2 ^ 32) → length widths < 2 ^ 64
    → position_deltas (written_positions (deltas ++ rest)) ≡ Some (deltas ++ rest)
holds_packed deltas widths body rest p few fit low =
    let many = many_blocks deltas widths body rest p few in
    let size = length-widths deltas widths body p in
    reads_positions_back (deltas ++ rest) (fit_both deltas rest p.fit (fit_by rest (λ k h. fit k))) (omega arith)

-- how it is written
pub writes_packed : (a b c : CountingWriterState) (widths body rest bytes : List ℕ) (n : ℕ) (first result : Result (Unit {0}) Fault) → PacksDeltas (deltas_in widths body) widths body → length rest < 128 → n ≡ length widths
    → false ≡ is_err first → Writes a b (vint_u64 n ++ widths ++ body) first → bytes ≡ unsorted_vints rest → Writes b c bytes result → Writes a c (written_positions (deltas_in widths body ++ rest)) result
writes_packed a b c widths body rest bytes n first result p few n_is went h bytes_are k =
    rw (written_of_packed (deltas_in widths body) widths body rest n p few n_is) (writes_both a b c (vint_u64 n ++ widths ++ body) (unsorted_vints rest) first result went h (rw bytes_are at k))

pub refuses_packed : (a b : CountingWriterState) (widths body rest : List ℕ) (n : ℕ) (result : Result (Unit {0}) Fault) → PacksDeltas (deltas_in widths body) widths body → length rest < 128 → n ≡ length widths
    → true ≡ is_err result → Writes a b (vint_u64 n ++ widths ++ body) result → Writes a b (written_positions (deltas_in widths body ++ rest)) result
refuses_packed a b widths body rest n result p few n_is refused h =
    rw (written_of_packed (deltas_in widths body) widths body rest n p few n_is) (writes_refused_by a b (vint_u64 n ++ widths ++ body) (unsorted_vints rest) result refused h)

-- deltas that fill a block from a place on, and those that are left
pub filled_more : (packed block deltas packed' block' filled before : List ℕ) (done n : ℕ) → packed ++ block ≡ before ++ take done deltas → filled ≡ block ++ take n (take (length deltas - done) (drop done deltas)) → packed' ++ block' ≡ packed ++ filled
    → packed' ++ block' ≡ before ++ take (done + n) deltas
filled_more packed block deltas packed' block' filled before done n so_far filled_is kept =
    let whole = take_all (length deltas - done) (drop done deltas) (omega (arith, length-drop done deltas)) in
    kept ∙ ap (λ (xs : List ℕ). packed ++ xs) (filled_is ∙ ap (λ (xs : List ℕ). block ++ take n xs) whole) ∙ sym (append_assoc packed block (take n (drop done deltas)))
    ∙ ap (λ (xs : List ℕ). xs ++ take n (drop done deltas)) so_far ∙ append_assoc before (take done deltas) (take n (drop done deltas))
    ∙ ap (λ (xs : List ℕ). before ++ xs) (sym (take-add done n deltas))
