-- The tables of files, and their blocks.
use Rattle.std.proofs.Common.{◌≡◌, ℕ, zero, suc, ◌+◌, ◌-◌, ◌*◌, ◌/◌, ◌%◌, ◌<◌, ◌≤◌, ◌==◌, ◌&&◌, bytes_eq, min, true, List, [], ◌∷◌, ◌++◌, map, length, take, drop, get_or, refl, sym, ap, ◌∙◌, append-nil, append_assoc, arith, rules}
use Rattle.std.specs.Int.{div_ceil, w64, to_le_bytes}
use Rattle.std.specs.List.{range_with_len}
use Rattle.std.proofs.lemmas.Bool.Decides.{nat_tests}
use Rattle.std.proofs.lemmas.Grind.{div_ceil_times, flat_map-append}
use Rattle.std.proofs.lemmas.List.{drop-append-le, length-append, length-drop, length-take-le, take-append-le, take_at, take_min}
use Rattle.std.proofs.lemmas.List.FromFn.{get_or-map-range_with_len, length-map-range_with_len, map-range_with_len_more}
use Rattle.std.proofs.lemmas.Slice.Eq.{bytes_eq-Decides}
use Rattle.std.proofs.Math.Seq.{drop-append-add, take-add}
use Rattle.sha2.specs.Sha256.{sha256}
use Rattle.ii_directory.specs.declared.name.SegmentComponent.{SegmentComponent}
use Rattle.ii_store.specs.FileDigest.{block_checksum, blocks, blocks_digest, checksum_bytes}
use Rattle.ii_store.specs.declared.file_digest.FileDigest.TheVariants as digests
use Rattle.ii_store.specs.declared.index_meta.FileMeta.{FileMeta}
use Rattle.ii_store.specs.IndexMeta.{file_meta}
use Rattle.ii_block_file.specs.BlockTable.{BlockTableState, file_block, lists_checksum, is_table, num_file_blocks, block_table_of}

-- std's rounded quotient is the number of blocks
pub blocks_divide : (n : ℕ) → div_ceil n 4096 ≡ num_file_blocks n
blocks_divide n =
    let (most, least) = div_ceil_times n 4096 (search rules) in
    omega (arith, most, least)

-- a block, cut out as the program does
pub block_is : (k n : ℕ) (file : List ℕ) → n ≡ min 4096 (length file - k * 4096) → take (k * 4096 + n - k * 4096) (drop (k * 4096) file) ≡ file_block k file
block_is k n file least =
    let rest = drop (k * 4096) file in
    let all : k * 4096 + n - k * 4096 ≡ n = omega arith in
    ap (λ m. take m rest) (all ∙ least ∙ ap (min 4096) (sym (length-drop (k * 4096) file))) ∙ take_min 4096 rest

-- the checksums of some blocks, and of the next one
pub next_checksum : (f : ℕ → List ℕ) (n : ℕ) → checksum_bytes (map f (range_with_len 0 (n + 1))) ≡ checksum_bytes (map f (range_with_len 0 n)) ++ to_le_bytes w64 (block_checksum (f n))
next_checksum f n =
    let one = λ (block : List ℕ). to_le_bytes w64 (block_checksum block) in
    ap checksum_bytes (map-range_with_len_more f 0 n n (omega arith)) ∙ flat_map-append one (map f (range_with_len 0 n)) (f n ∷ []) ∙ ap (λ bs. checksum_bytes (map f (range_with_len 0 n)) ++ bs) (append-nil (one (f n)))

eight_each : (bs : List (List ℕ)) → length (checksum_bytes bs) ≡ 8 * length bs
eight_each [] = refl
eight_each (b ∷ bs) = length-append (to_le_bytes w64 (block_checksum b)) (checksum_bytes bs) ∙ ap (λ n. 8 + n) (eight_each bs) ∙ omega arith

-- eight bytes for each block
pub num_bytes : (f : ℕ → List ℕ) (n : ℕ) → length (checksum_bytes (map f (range_with_len 0 n))) ≡ 8 * n
num_bytes f n = eight_each (map f (range_with_len 0 n)) ∙ ap (λ m. 8 * m) (length-map-range_with_len f 0 n)

-- the checksum at a place
checksum_here : (bs : List (List ℕ)) (k : ℕ) (d : List ℕ) → k < length bs → take 8 (drop (8 * k) (checksum_bytes bs)) ≡ to_le_bytes w64 (block_checksum (get_or bs k d))
checksum_here [] k d inside = absurd (omega (arith, inside))
checksum_here (b ∷ bs) zero d inside = take_at (to_le_bytes w64 (block_checksum b)) (checksum_bytes bs) 8 refl
checksum_here (b ∷ bs) (suc k) d inside =
    let on : 8 * suc k ≡ 8 + 8 * k = omega arith in
    ap (λ n. take 8 (drop n (checksum_bytes (b ∷ bs)))) on ∙ ap (take 8) (drop-append-add (to_le_bytes w64 (block_checksum b)) (checksum_bytes bs) (8 * k)) ∙ checksum_here bs k d (omega (arith, inside))

same_bytes : (a b : List ℕ) → a ≡ b → bytes_eq a b ≡ true
same_bytes a b = (bytes_eq-Decides a b).1

-- a file has the checksums of its own table
pub own_block : (file : List ℕ) (k : ℕ) → k < num_file_blocks (length file) → lists_checksum (block_table_of file) k (file_block k file) ≡ true
own_block file k inside =
    let n = num_file_blocks (length file) in
    let at = λ (j : ℕ). file_block j file in
    let here = checksum_here (blocks 4096 file) k [] (omega (arith, inside, length-map-range_with_len at 0 n)) in
    let block : get_or (blocks 4096 file) k [] ≡ file_block k file = get_or-map-range_with_len at 0 n k k [] inside (omega arith) in
    same_bytes _ _ (here ∙ ap (λ b. to_le_bytes w64 (block_checksum b)) block)

equal_is : (a b : ℕ) → a ≡ b → (a == b) ≡ true
equal_is a b e = grind (arith, nat_tests)

-- a file's table is the one that its digest is of
pub own_table : (file : List ℕ) → is_table (length file) (digests.Blocks (blocks_digest 4096 file)) (block_table_of file).bytes ≡ true
unfolding blocks_digest
own_table file =
    let bytes = (block_table_of file).bytes in
    let n = num_file_blocks (length file) in
    ap (λ b. b && bytes_eq (sha256 bytes) (sha256 bytes)) (equal_is (length bytes) (8 * n) (num_bytes (λ k. file_block k file) n)) ∙ same_bytes (sha256 bytes) (sha256 bytes) refl

-- what `meta` says of a file with a table
abbrev pub meta_of_table : SegmentComponent → BlockTableState → FileMeta
meta_of_table component t = record { component = component; len = t.len; digest = digests.Blocks (sha256 t.bytes) }

-- what `meta` says of a file is what it says of its table
pub own_meta : (component : SegmentComponent) (file : List ℕ) (t : BlockTableState) → t ≡ block_table_of file → meta_of_table component t ≡ file_meta component file
unfolding blocks_digest
own_meta component file t own = ap (meta_of_table component) own

-- items that are the same one by one
same_items : {A : Type 0} (f h : ℕ → A) (n : ℕ) → ((k : ℕ) → k < n → f k ≡ h k) → map f (range_with_len 0 n) ≡ map h (range_with_len 0 n)
same_items f h zero each = refl
same_items f h (suc n) each =
    let one : suc n ≡ n + 1 = omega arith in
    ap (λ k. map f (range_with_len 0 k)) one ∙ map-range_with_len_more f 0 n n (omega arith) ∙ (λ i. same_items f h n (λ k low. each k (omega (arith, low))) i ++ each n (omega arith) i ∷ [])
    ∙ sym (map-range_with_len_more h 0 n n (omega arith)) ∙ ap (λ k. map h (range_with_len 0 k)) (sym one)

-- as many items as two lists have together, made by one function
joined_items : {A : Type 0} (f g h : ℕ → A) (n m : ℕ) → ((k : ℕ) → k < n → f k ≡ h k) → ((k : ℕ) → k < m → g k ≡ h (n + k)) → map f (range_with_len 0 n) ++ map g (range_with_len 0 m) ≡ map h (range_with_len 0 (n + m))
joined_items f g h n zero first second = append-nil (map f (range_with_len 0 n)) ∙ same_items f h n first ∙ ap (λ k. map h (range_with_len 0 k)) (omega arith)
joined_items f g h n (suc m) first second =
    let xs = map f (range_with_len 0 n) in
    let ys = map g (range_with_len 0 m) in
    let one : suc m ≡ m + 1 = omega arith in
    ap (λ k. xs ++ map g (range_with_len 0 k)) one ∙ ap (λ zs. xs ++ zs) (map-range_with_len_more g 0 m m (omega arith)) ∙ sym (append_assoc xs ys (g m ∷ []))
    ∙ (λ i. joined_items f g h n m first (λ k low. second k (omega (arith, low))) i ++ second m (omega arith) i ∷ [])
    ∙ sym (map-range_with_len_more h 0 (n + m) (n + m) (omega arith)) ∙ ap (λ k. map h (range_with_len 0 k)) (omega arith)

-- a block that lies in the first bytes
early_block : (a b : List ℕ) (n : ℕ) → length a ≡ n * 4096 → (k : ℕ) → k < n → file_block k a ≡ file_block k (a ++ b)
early_block a b n long k low =
    let rest = drop (k * 4096) a in
    sym (ap (take 4096) (drop-append-le (k * 4096) a b (omega (arith, long, low))) ∙ take-append-le 4096 rest b (omega (arith, long, low, length-drop (k * 4096) a)))

-- a block that lies in the bytes after them
late_block : (a b : List ℕ) (n : ℕ) → length a ≡ n * 4096 → (k : ℕ) → k < num_file_blocks (length b) → file_block k b ≡ file_block (n + k) (a ++ b)
late_block a b n long k low =
    let at : (n + k) * 4096 ≡ length a + k * 4096 = omega (arith, long) in
    sym (ap (λ m. take 4096 (drop m (a ++ b))) at ∙ ap (take 4096) (drop-append-add a b (k * 4096)))

-- the blocks of bytes that begin with whole blocks
joined_blocks : (a b : List ℕ) (n : ℕ) → length a ≡ n * 4096 → blocks 4096 a ++ blocks 4096 b ≡ blocks 4096 (a ++ b)
joined_blocks a b n long =
    let many : num_file_blocks (length a) ≡ n = omega (arith, long) in
    let all : n + num_file_blocks (length b) ≡ num_file_blocks (length (a ++ b)) = omega (arith, long, length-append a b) in
    ap (λ k. map (λ j. file_block j a) (range_with_len 0 k) ++ blocks 4096 b) many
    ∙ joined_items (λ j. file_block j a) (λ j. file_block j b) (λ j. file_block j (a ++ b)) n (num_file_blocks (length b)) (early_block a b n long) (late_block a b n long)
    ∙ ap (λ k. map (λ j. file_block j (a ++ b)) (range_with_len 0 k)) all

-- the checksums of the first blocks, and of the part after them
pub next_checksums : (file : List ℕ) (from len : ℕ) → from % 4096 ≡ 0 → from + len ≤ length file → checksum_bytes (blocks 4096 (take from file)) ++ checksum_bytes (blocks 4096 (take len (drop from file))) ≡ checksum_bytes (blocks 4096 (take (from + len) file))
next_checksums file from len whole within =
    let first = take from file in
    let second = take len (drop from file) in
    let one = λ (block : List ℕ). to_le_bytes w64 (block_checksum block) in
    let long : length first ≡ from / 4096 * 4096 = omega (arith, whole, length-take-le from file (omega (arith, within))) in
    sym (flat_map-append one (blocks 4096 first) (blocks 4096 second)) ∙ ap checksum_bytes (joined_blocks first second (from / 4096) long) ∙ ap (λ bytes. checksum_bytes (blocks 4096 bytes)) (sym (take-add from len file))

-- eight bytes were appended for each block of a part
pub appended_count : (old new part : List ℕ) (len : ℕ) → length part ≡ len → new ≡ old ++ checksum_bytes (blocks 4096 part) → length new ≡ length old + 8 * num_file_blocks len
appended_count old new part len long grown =
    ap length grown ∙ length-append old (checksum_bytes (blocks 4096 part)) ∙ ap (λ n. length old + n) (num_bytes (λ k. file_block k part) (num_file_blocks (length part))) ∙ ap (λ n. length old + 8 * num_file_blocks n) long

-- ---- a file that is read in parts of 64 blocks

-- a part before the last one begins within the file
pub part_begins : (place end len : ℕ) → end ≡ div_ceil len 262144 → place < end → place * 262144 < len
part_begins place end len divided low =
    let (most, least) = div_ceil_times len 262144 (search rules) in
    omega (arith, most, least, divided, low)

-- all parts make up the file
pub all_parts : (place end len : ℕ) → end ≡ div_ceil len 262144 → end ≤ place → min (place * 262144) len ≡ len
all_parts place end len divided all =
    let (most, least) = div_ceil_times len 262144 (search rules) in
    omega (arith, most, least, divided, all)

-- the checksums of the blocks of one more part
pub more_blocks : (place part : ℕ) → 8 * num_file_blocks (place * 262144) + 8 * num_file_blocks part ≡ 8 * num_file_blocks (place * 262144 + part)
more_blocks place part = omega arith
