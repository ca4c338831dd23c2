-- The words of alive bits, and their counts.
use Rattle.std.proofs.Common.{◌≡◌, ℕ, zero, suc, ◌+◌, ◌-◌, ◌*◌, ◌/◌, ◌%◌, ◌^◌, ◌<◌, ◌≤◌, ◌≢◌, min, below_more, Bool, true, false, cond, not, List, [], ◌∷◌, ◌++◌, length, get_or, set, take, drop, nat_eq, refl, sym, ap, ◌∙◌, arith, ⊎_elim}
use Rattle.std.specs.Prelude.{Some}
use Rattle.std.specs.Int.RustNames.{bit_and, count_ones}
use Rattle.std.specs.List.{flat_map, list_all}
use Rattle.std.proofs.lemmas.Bool.{cases_lt}
use Rattle.std.proofs.lemmas.Nat.{and_mask, one_shl}
use Rattle.std.proofs.lemmas.Nat.Bits.{shr_and_one}
use Rattle.std.proofs.lemmas.List.{append-nil, at_drop_more, drop-set-lt, drop-take, drop_all, get_or-take, get_or_append_left, get_or_push, get_or_read, length-set, length-take, length-take-le, set-get_or, take-append-drop, take-set-le, take-take, take_all, take_more}
use Rattle.std.proofs.lemmas.List.Concat.{flat_map-append}
use Rattle.std.proofs.lemmas.List.Folds.{sum_by-replicate}
use Rattle.std.proofs.lemmas.List.Sums.{count_by-le-length, sum_by-append, sum_by-set, sum_by-take-drop, sum_by_more}
use Rattle.ii_io.specs.Numbers.{AreBytes, le_bytes}
use Rattle.ii_alive.specs.Alive.{num_living, rank}
use Rattle.ii_alive.specs.AliveBits.{AreAliveWords, AreBlockCounts, word_bits}
use Rattle.ii_alive.specs.AliveBytes.{alive_bytes, bits_of, byte_bits, num_words}
use Rattle.ii_alive.proofs.BitLemmas.{at_least, bits_of-clear, get_or-bits_of, ones-bits_of}
use Rattle.ii_alive.proofs.FlagLemmas.{alive_of-bits, enough_words, has_one_encoding, none_from}
use Rattle.ii_alive.proofs.WordLemmas.{byte_bits-le_bytes, get_or-bits_in, length-bits_in, set-bits_in, take-bits_in}

abbrev one : Bool → ℕ
one b = cond b 1 0

pub none_living : (bs : List Bool) → list_all not bs ≡ true → num_living bs ≡ 0
none_living bs none = ap num_living (none_from bs none) ∙ sum_by-replicate one (length bs) false ∙ omega arith

-- a rank is at most the document
pub rank_le : (alive : List Bool) (doc : ℕ) → doc ≤ length alive → rank alive doc ≤ doc
rank_le alive doc within = omega (arith, count_by-le-length (λ (b : Bool). b) (take doc alive), length-take-le doc alive within)

-- the rank of the next document
pub rank_next : (alive : List Bool) (doc : ℕ) → doc < length alive → rank alive (doc + 1) ≡ rank alive doc + one (get_or alive doc false)
rank_next alive doc within = sum_by_more one alive doc false within

-- a search for a rank ends between neighbours
pub selected : (alive : List Bool) (low high n : ℕ) → low < high → high - low ≤ 1 → high ≤ length alive → rank alive low ≤ n → n < rank alive high
    → (get_or alive low false ≡ true) × (rank alive low ≡ n)
selected alive low high n order near within before after =
    let next : high ≡ low + 1 = omega arith in
    let step = rank_next alive low (omega arith) in
    let beyond : n < rank alive (low + 1) = let same = ap (rank alive) next in omega (arith, same) in
    by (get_or alive low false) refl (omega (arith, step, beyond))
  where
    by : (b : Bool) → get_or alive low false ≡ b → n < rank alive low + one (get_or alive low false) → (get_or alive low false ≡ true) × (rank alive low ≡ n)
    by true living more = (living, let flag = ap one living in omega (arith, more, flag, before))
    by false dead more = absurd (let flag = ap one dead in omega (arith, more, flag, before))

pub select_starts : (alive : List Bool) (n docs : ℕ) → docs ≡ length alive → n < num_living alive → (0 < docs) × (docs ≤ length alive) × (0 ≤ n) × (n < rank alive docs)
select_starts alive n docs size some =
    let all : rank alive docs ≡ num_living alive = ap num_living (take_all docs alive (omega arith)) in
    (omega (arith, count_by-le-length (λ (b : Bool). b) alive), omega arith, omega arith, omega (arith, all))

-- counts that were lowered in place
pub counts_as_written : (len : ℕ) (new old : List ℕ) → length new ≡ length old → len ≡ length old → take len (new ++ drop (length new) old) ≡ new
counts_as_written len new old size all =
    ap (λ (l : List ℕ). take len (new ++ l)) (drop_all (length new) old (omega arith))
    ∙ ap (take len) (append-nil new)
    ∙ take_all len new (omega arith)

pub take_of_set : {A : Type 0} (n : ℕ) (xs : List A) (i : ℕ) (a : A) → take n (set xs i a) ≡ set (take n xs) i a
take_of_set zero xs i a = refl
take_of_set (suc n) [] i a = refl
take_of_set (suc n) (x ∷ xs) zero a = refl
take_of_set (suc n) (x ∷ xs) (suc i) a = ap (λ (l : List _). x ∷ l) (take_of_set n xs i a)

-- the bits of some words, and of the next ones
pub split_words : (words : List ℕ) (start place : ℕ) → start ≤ place
    → num_living (word_bits (take place words)) ≡ num_living (word_bits (take start words)) + num_living (word_bits (take (place - start) (drop start words)))
split_words words start place within =
    let next = take (place - start) (drop start words) in
    let end : start + (place - start) ≡ place = omega arith in
    let all : take place words ≡ take start words ++ next =
    sym (take-append-drop start (take place words))
    ∙ ap (λ (l : List ℕ). l ++ drop start (take place words)) (take-take start place words within)
    ∙ ap (λ (m : ℕ). take start words ++ drop start (take m words)) (sym end)
    ∙ ap (λ (l : List ℕ). take start words ++ l) (drop-take start (place - start) words) in
    ap num_living (ap word_bits all ∙ flat_map-append (bits_of 64) (take start words) next)
    ∙ sum_by-append one (word_bits (take start words)) (word_bits next)

-- the bits of one word more
pub ones_more : (words : List ℕ) (i : ℕ) → i < length words → get_or words i 0 < 2 ^ 64
    → num_living (word_bits (take (i + 1) words)) ≡ num_living (word_bits (take i words)) + count_ones (get_or words i 0)
ones_more words i here fits =
    let w = get_or words i 0 in
    let below : w % 2 ^ 64 ≡ w = omega arith in
    ap (λ (l : List ℕ). num_living (word_bits l)) (take_more words i 0 here)
    ∙ ap num_living (flat_map-append (bits_of 64) (take i words) (w ∷ []))
    ∙ sum_by-append one (word_bits (take i words)) (bits_of 64 w ++ [])
    ∙ ap (λ (l : List Bool). num_living (word_bits (take i words)) + num_living l) (append-nil (bits_of 64 w))
    ∙ ap (λ (m : ℕ). num_living (word_bits (take i words)) + m) (ones-bits_of 64 w ∙ ap count_ones below)

-- words before a place have at most the bits of all
pub ones_before : (words : List ℕ) (i : ℕ) → num_living (word_bits (take i words)) ≤ num_living (word_bits words)
ones_before words i =
    let all = ap (λ (l : List ℕ). num_living (word_bits l)) (take-append-drop i words) in
    let both = ap num_living (flat_map-append (bits_of 64) (take i words) (drop i words)) in
    omega (arith, all, both, sum_by-append one (word_bits (take i words)) (word_bits (drop i words)))

-- the words of one block more
pub block_more : (words : List ℕ) (block end living ones : ℕ) → end ≡ min (length words) (block * 8 + 8) → block * 8 ≤ length words
    → living ≡ num_living (word_bits (take (8 * block) words)) → ones ≡ num_living (word_bits (take (end - block * 8) (drop (block * 8) words)))
    → living + ones ≡ num_living (word_bits (take (8 * (block + 1)) words))
block_more words block end living ones ends within before counted =
    let turned : 8 * block ≡ block * 8 = omega arith in
    let start : living ≡ num_living (word_bits (take (block * 8) words)) = before ∙ ap (λ (m : ℕ). num_living (word_bits (take m words))) turned in
    let all : take end words ≡ take (8 * (block + 1)) words =
    ⊎_elim
    (λ (long : block * 8 + 8 < length words). ap (λ (m : ℕ). take m words) (let same : end ≡ 8 * (block + 1) = omega arith in same))
    (λ (short : length words ≤ block * 8 + 8). take_all end words (omega arith) ∙ sym (take_all (8 * (block + 1)) words (omega arith)))
    (cases_lt (block * 8 + 8) (length words)) in
    omega (arith, start, counted, split_words words (block * 8) end (omega arith), ap (λ (l : List ℕ). num_living (word_bits l)) all)

pub pushed_count : (words counts : List ℕ) (block living : ℕ) → length counts ≡ block
    → ((k : ℕ) → k < block → get_or counts k 0 ≡ num_living (word_bits (take (8 * k) words))) → living ≡ num_living (word_bits (take (8 * block) words))
    → (k : ℕ) → k < block + 1 → get_or (counts ++ living ∷ []) k 0 ≡ num_living (word_bits (take (8 * k) words))
pushed_count words counts block living size before last =
    below_more (λ (k : ℕ). get_or (counts ++ living ∷ []) k 0 ≡ num_living (word_bits (take (8 * k) words))) block
    (λ k early. get_or_append_left counts (living ∷ []) 0 k (omega arith) ∙ before k early)
    (get_or_push counts living 0 block size ∙ last)

-- the bytes of the words before a place, of that word and of those after it
pub words_around : (words : List ℕ) (i : ℕ) → i < length words
    → flat_map (le_bytes 8) (take i words) ++ (le_bytes 8 (get_or words i 0) ++ flat_map (le_bytes 8) (drop (i + 1) words)) ≡ flat_map (le_bytes 8) words
words_around words i here =
    ap (λ (l : List ℕ). flat_map (le_bytes 8) (take i words) ++ l) (sym (at_drop_more (flat_map (le_bytes 8)) words i 0 here))
    ∙ sym (flat_map-append (le_bytes 8) (take i words) (drop i words))
    ∙ ap (flat_map (le_bytes 8)) (take-append-drop i words)

-- one bit less
living_less : (words : List ℕ) (w r : ℕ) → r < 64 → w < length words → get_or words w 0 / 2 ^ r % 2 ≡ 1
    → num_living (word_bits (set words w (get_or words w 0 - 2 ^ r))) + 1 ≡ num_living (word_bits words)
living_less words w r within here living =
    let x = get_or words w 0 in
    let place = 64 * w + r in
    let bits = word_bits words in
    let cleared : word_bits (set words w (x - 2 ^ r)) ≡ set bits place false = set-bits_in 64 words w r (x - 2 ^ r) within here (bits_of-clear 64 x r living) in
    let flag : get_or bits place false ≡ true = get_or-bits_in 64 words w r within here ∙ get_or-bits_of 64 x r within ∙ ap (λ (m : ℕ). nat_eq m 1) living in
    let counted : num_living (set bits place false) + one (get_or bits place false) ≡ num_living bits + 0 = sum_by-set one bits place false false (omega (arith, length-bits_in 64 words)) in
    let lost : one (get_or bits place false) ≡ 1 = ap one flag in
    let same = ap num_living cleared in
    omega (arith, counted, lost, same)

are_both : (xs ys : List ℕ) → AreBytes xs → AreBytes ys → AreBytes (xs ++ ys)
are_both [] ys first second = second
are_both (x ∷ xs) ys first second = (first.0, are_both xs ys first.1 second)

are_le_bytes : (j n : ℕ) → AreBytes (le_bytes j n)
unfolding le_bytes
are_le_bytes zero n = tt
are_le_bytes (suc j) n = (omega arith, are_le_bytes j (n / 256))

are_words : (words : List ℕ) → AreBytes (flat_map (le_bytes 8) words)
are_words [] = tt
are_words (w ∷ ws) = are_both (le_bytes 8 w) (flat_map (le_bytes 8) ws) (are_le_bytes 8 w) (are_words ws)

bits_of_le_bytes : (words : List ℕ) → byte_bits (flat_map (le_bytes 8) words) ≡ word_bits words
bits_of_le_bytes [] = refl
bits_of_le_bytes (w ∷ ws) =
    flat_map-append (bits_of 8) (le_bytes 8 w) (flat_map (le_bytes 8) ws)
    ∙ ap (λ (l : List Bool). l ++ byte_bits (flat_map (le_bytes 8) ws)) (byte_bits-le_bytes 8 w)
    ∙ ap (λ (l : List Bool). bits_of 64 w ++ l) (bits_of_le_bytes ws)

lower_bits : (x r : ℕ) → r < 64 → bit_and x (1 * 2 ^ r % 2 ^ 64 - 1) ≡ x % 2 ^ r
lower_bits x r within = ap (λ (m : ℕ). bit_and x (m - 1)) (one_shl r 64 within) ∙ and_mask x r

module _ (n : ℕ) (words : List ℕ) (are : AreAliveWords n words) where
  abbrev view : List Bool
  view = take n (word_bits words)

  size_of_bits : length (word_bits words) ≡ 64 * num_words n
  size_of_bits = length-bits_in 64 words ∙ ap (λ (m : ℕ). 64 * m) are.size

  -- there is a flag for each document
  pub length_of_view : length view ≡ n
  length_of_view = length-take-le n (word_bits words) (omega (arith, size_of_bits, enough_words n))

  pub doc_within : (now : List Bool) (doc : ℕ) → view ≡ now → doc < length now → doc < n
  doc_within now doc is within = omega (arith, ap length is, length_of_view)

  pub doc_before : (now : List Bool) (doc : ℕ) → view ≡ now → doc ≤ length now → doc ≢ n → doc < n
  doc_before now doc is within other = omega (arith, ap length is, length_of_view)

  -- bits after the last document are none
  pub living_of_view : num_living view ≡ num_living (word_bits words)
  living_of_view = omega (arith, sum_by-take-drop one (word_bits words) n, none_living (drop n (word_bits words)) are.unused)

  pub living_le : num_living (word_bits words) ≤ n
  living_le = omega (arith, living_of_view, count_by-le-length (λ (b : Bool). b) view, length_of_view)

  pub word_of_doc : (doc : ℕ) → doc < n → doc / 64 < length words
  word_of_doc doc within = omega (arith, are.size, enough_words n)

  pub flag_of_doc : (doc : ℕ) → doc < n → get_or view doc false ≡ nat_eq (get_or words (doc / 64) 0 / 2 ^ (doc % 64) % 2) 1
  flag_of_doc doc within =
      let place : doc ≡ 64 * (doc / 64) + doc % 64 = omega arith in
      get_or-take n (word_bits words) doc false within
      ∙ ap (λ (m : ℕ). get_or (word_bits words) m false) place
      ∙ get_or-bits_in 64 words (doc / 64) (doc % 64) (omega arith) (word_of_doc doc within)
      ∙ get_or-bits_of 64 (get_or words (doc / 64) 0) (doc % 64) (omega arith)

  -- the rank of a document, by its word
  pub rank_of_doc : (doc : ℕ) → doc < n → rank view doc ≡ num_living (word_bits (take (doc / 64) words)) + count_ones (get_or words (doc / 64) 0 % 2 ^ (doc % 64))
  rank_of_doc doc within =
      let w = doc / 64 in
      let r = doc % 64 in
      let x = get_or words w 0 in
      let place : doc ≡ 64 * w + r = omega arith in
      ap num_living (take-take doc n (word_bits words) (omega arith) ∙ ap (λ (m : ℕ). take m (word_bits words)) place ∙ take-bits_in 64 words w r (omega arith) (word_of_doc doc within))
      ∙ sum_by-append one (word_bits (take w words)) (bits_of r x)
      ∙ ap (λ (m : ℕ). num_living (word_bits (take w words)) + m) (ones-bits_of r x)

  pub rank_of_end : rank view n ≡ num_living (word_bits words)
  rank_of_end = ap num_living (take-take n n (word_bits words) (omega arith)) ∙ living_of_view

  pub block_of_doc : (counts : List ℕ) (doc : ℕ) → AreBlockCounts words counts → doc < n → doc / 64 / 8 < length counts
  block_of_doc counts doc blocks within = omega (arith, blocks.size, word_of_doc doc within)

  pub rank_of_doc_le : (doc : ℕ) → doc ≤ n → rank view doc ≤ doc
  rank_of_doc_le doc within = rank_le view doc (omega (arith, length_of_view))

  -- the count of a block, the words of the block before the document's, and the lower bits of that word
  pub rank_by_block : (counts : List ℕ) (doc : ℕ) → AreBlockCounts words counts → doc < n
      → get_or counts (doc / 64 / 8) 0 + num_living (word_bits (take (doc / 64 - doc / 64 / 8 * 8) (drop (doc / 64 / 8 * 8) words))) + count_ones (get_or words (doc / 64) 0 % 2 ^ (doc % 64))
      ≡ rank view doc
  rank_by_block counts doc blocks within =
      let w = doc / 64 in
      let b = doc / 64 / 8 in
      let turned : 8 * b ≡ b * 8 = omega arith in
      let counted : get_or counts b 0 ≡ num_living (word_bits (take (b * 8) words)) =
      blocks.before b (omega (arith, blocks.size, word_of_doc doc within)) ∙ ap (λ (m : ℕ). num_living (word_bits (take m words))) turned in
      omega (arith, counted, split_words words (b * 8) w (omega arith), rank_of_doc doc within)

  -- the same sum, as it is read
  pub rank_as_read : (counts : List ℕ) (doc count in_block word : ℕ) → AreBlockCounts words counts → doc < n
      → count ≡ get_or counts (doc / 64 / 8) count → word ≡ get_or words (doc / 64) word
      → in_block ≡ num_living (word_bits (take (doc / 64 - doc / 64 / 8 * 8) (drop (doc / 64 / 8 * 8) words)))
      → count + in_block + count_ones (bit_and word (1 * 2 ^ (doc % 64) % 2 ^ 64 - 1)) ≡ rank view doc
  rank_as_read counts doc count in_block word blocks within counted read counted_in_block =
      let known_count : count ≡ get_or counts (doc / 64 / 8) 0 = get_or_read counts (doc / 64 / 8) count (block_of_doc counts doc blocks within) counted 0 in
      let known_word : word ≡ get_or words (doc / 64) 0 = get_or_read words (doc / 64) word (word_of_doc doc within) read 0 in
      let lower : count_ones (bit_and word (1 * 2 ^ (doc % 64) % 2 ^ 64 - 1)) ≡ count_ones (get_or words (doc / 64) 0 % 2 ^ (doc % 64)) =
      ap count_ones (lower_bits word (doc % 64) (omega arith) ∙ ap (λ (m : ℕ). m % 2 ^ (doc % 64)) known_word) in
      omega (arith, known_count, counted_in_block, lower, rank_by_block counts doc blocks within)

  pub in_block_le : (doc : ℕ) → doc < n → num_living (word_bits (take (doc / 64 - doc / 64 / 8 * 8) (drop (doc / 64 / 8 * 8) words))) ≤ doc
  in_block_le doc within = omega (arith, split_words words (doc / 64 / 8 * 8) (doc / 64) (omega arith), rank_of_doc doc within, rank_of_doc_le doc (omega arith))

  -- the bytes of the words are those of the flags
  pub bytes_of_words : flat_map (le_bytes 8) words ≡ alive_bytes view
  bytes_of_words =
      let bytes = flat_map (le_bytes 8) words in
      let bits = bits_of_le_bytes words in
      let size : length bytes ≡ 8 * num_words n = omega (arith, length-bits_in 8 bytes, ap length bits, size_of_bits) in
      let unused : list_all not (drop n (byte_bits bytes)) ≡ true = ap (λ (l : List Bool). list_all not (drop n l)) bits ∙ are.unused in
      has_one_encoding n bytes view (are_words words) (alive_of-bits n bytes size unused ∙ ap (λ (l : List Bool). Some (take n l)) bits)

  pub size_of_bytes : length (alive_bytes view) ≡ 8 * num_words n
  size_of_bytes =
      let bytes = flat_map (le_bytes 8) words in
      omega (arith, ap length bytes_of_words, length-bits_in 8 bytes, ap length (bits_of_le_bytes words), size_of_bits)

  -- a document that is killed
  module _ (doc : ℕ) (within : doc < n) where
    abbrev word : ℕ
    word = get_or words (doc / 64) 0

    abbrev killed : List ℕ
    killed = set words (doc / 64) (word - 2 ^ (doc % 64))

    word_as_read : (x : ℕ) → x ≡ get_or words (doc / 64) x → x ≡ word
    word_as_read x read = get_or_read words (doc / 64) x (word_of_doc doc within) read 0

    -- the word as it is read, whose bit is tested
    pub dead_as_read : (x : ℕ) → x ≡ get_or words (doc / 64) x → bit_and (x / 2 ^ (doc % 64)) 1 ≡ 0 → word / 2 ^ (doc % 64) % 2 ≡ 0
    dead_as_read x read dead = ap (λ (m : ℕ). m / 2 ^ (doc % 64) % 2) (sym (word_as_read x read)) ∙ sym (shr_and_one x (doc % 64)) ∙ dead

    pub living_as_read : (x : ℕ) → x ≡ get_or words (doc / 64) x → (bit_and (x / 2 ^ (doc % 64)) 1 ≡ 0 → ⊥) → word / 2 ^ (doc % 64) % 2 ≡ 1
    living_as_read x read living =
        let bit = shr_and_one x (doc % 64) in
        let same : word / 2 ^ (doc % 64) % 2 ≡ x / 2 ^ (doc % 64) % 2 = ap (λ (m : ℕ). m / 2 ^ (doc % 64) % 2) (sym (word_as_read x read)) in
        let some : x / 2 ^ (doc % 64) % 2 ≢ 0 = λ none. living (bit ∙ none) in
        omega (arith, same, some)

    pub bit_le_word : (x : ℕ) → x ≡ get_or words (doc / 64) x → (bit_and (x / 2 ^ (doc % 64)) 1 ≡ 0 → ⊥) → 1 * 2 ^ (doc % 64) % 2 ^ 64 ≤ x
    bit_le_word x read living =
        omega (arith, at_least word (2 ^ (doc % 64)) (living_as_read x read living), one_shl (doc % 64) 64 (omega arith), word_as_read x read)

    pub killed_as_read : (x : ℕ) → x ≡ get_or words (doc / 64) x → set words (doc / 64) (x - 1 * 2 ^ (doc % 64) % 2 ^ 64) ≡ killed
    killed_as_read x read =
        ap (λ (m : ℕ). set words (doc / 64) (x - m)) (one_shl (doc % 64) 64 (omega arith)) ∙ ap (λ (m : ℕ). set words (doc / 64) (m - 2 ^ (doc % 64))) (word_as_read x read)

    pub unchanged_view : word / 2 ^ (doc % 64) % 2 ≡ 0 → view ≡ set view doc false
    unchanged_view dead =
        let flag : get_or view doc false ≡ false = flag_of_doc doc within ∙ ap (λ (m : ℕ). nat_eq m 1) dead in
        sym (ap (set view doc) (sym flag) ∙ set-get_or view doc false)

    module _ (living : word / 2 ^ (doc % 64) % 2 ≡ 1) where
      bits_of_killed : word_bits killed ≡ set (word_bits words) doc false
      bits_of_killed =
          let place : 64 * (doc / 64) + doc % 64 ≡ doc = omega arith in
          set-bits_in 64 words (doc / 64) (doc % 64) (word - 2 ^ (doc % 64)) (omega arith) (word_of_doc doc within) (bits_of-clear 64 word (doc % 64) living)
          ∙ ap (λ (m : ℕ). set (word_bits words) m false) place

      pub view_of_killed : take n (word_bits killed) ≡ set view doc false
      view_of_killed = ap (take n) bits_of_killed ∙ take_of_set n (word_bits words) doc false

      pub killed_words : AreAliveWords n killed
      killed_words = record {
        size = length-set words (doc / 64) (word - 2 ^ (doc % 64)) ∙ are.size;
        unused = ap (λ (l : List Bool). list_all not (drop n l)) bits_of_killed ∙ ap (list_all not) (drop-set-lt n (word_bits words) doc false within) ∙ are.unused;
      }

      -- one document less, in each prefix of the words that has the document's
      pub one_less : (count : ℕ) → doc / 64 < count → num_living (word_bits (take count killed)) + 1 ≡ num_living (word_bits (take count words))
      one_less count after =
          let w = doc / 64 in
          let r = doc % 64 in
          let same : get_or (take count words) w 0 ≡ word = get_or-take count words w 0 after in
          let here : w < length (take count words) = omega (arith, length-take count words, word_of_doc doc within) in
          let less = living_less (take count words) w r (omega arith) here (ap (λ (m : ℕ). m / 2 ^ r % 2) same ∙ living) in
          let cut : take count killed ≡ set (take count words) w (get_or (take count words) w 0 - 2 ^ r) =
          take_of_set count words w (word - 2 ^ r) ∙ ap (λ (m : ℕ). set (take count words) w (m - 2 ^ r)) (sym same) in
          ap (λ (l : List ℕ). num_living (word_bits l) + 1) cut ∙ less

      pub same_before : (count : ℕ) → count ≤ doc / 64 → num_living (word_bits (take count killed)) ≡ num_living (word_bits (take count words))
      same_before count before = ap (λ (l : List ℕ). num_living (word_bits l)) (take-set-le count words (doc / 64) (word - 2 ^ (doc % 64)) before)

      pub one_less_all : num_living (word_bits killed) + 1 ≡ num_living (word_bits words)
      one_less_all = living_less words (doc / 64) (doc % 64) (omega arith) (word_of_doc doc within) living

      pub counts_positive : (counts : List ℕ) → AreBlockCounts words counts → (k : ℕ) → doc / 64 / 8 + 1 ≤ k → k < length counts → 0 < get_or counts k 0
      counts_positive counts blocks k after here = omega (arith, blocks.before k here, one_less (8 * k) (omega arith))

      -- the counts, of which those of later blocks are lowered
      pub killed_counts : (counts lowered : List ℕ) → AreBlockCounts words counts → length lowered ≡ length counts
          → ((k : ℕ) → k < doc / 64 / 8 + 1 → get_or lowered k 0 ≡ get_or counts k 0)
          → ((k : ℕ) → doc / 64 / 8 + 1 ≤ k → k < length counts → get_or lowered k 0 + 1 ≡ get_or counts k 0)
          → AreBlockCounts killed lowered
      killed_counts counts lowered blocks size before after = record {
        size = omega (arith, size, blocks.size, length-set words (doc / 64) (word - 2 ^ (doc % 64)));
        before = λ k here.
            let counted : get_or counts k 0 ≡ num_living (word_bits (take (8 * k) words)) = blocks.before k (omega (arith, size)) in
            ⊎_elim
            (λ (early : k < doc / 64 / 8 + 1). before k early ∙ counted ∙ sym (same_before (8 * k) (omega arith)))
            (λ (late : doc / 64 / 8 + 1 ≤ k). omega (arith, after k late (omega (arith, size)), counted, one_less (8 * k) (omega arith)))
            (cases_lt k (doc / 64 / 8 + 1));
      }
