-- A term of a store, read of the meta and the bits of its block.
use Rattle.std.proofs.Common.{◌≡◌, ◌∙◌, ℕ, zero, suc, ◌+◌, ◌-◌, ◌*◌, ◌/◌, ◌%◌, ◌<◌, ◌≤◌, Bool, true, false, ◌||◌, List, None, Option, Some, drop, eqb, length, map, nat_le, take, refl, sym, ap, subst, arith}
use Rattle.std.specs.Prelude.{IfSome, IsSome, IsSomeAnd, slice_get, unwrap_or}
use Rattle.std.specs.List.{range_with_len}
use Rattle.std.specs.Option.{option_map}
use Rattle.std.proofs.Math.Bool.{or-true}
use Rattle.std.proofs.Math.Nat.{mul-le-mul_right, suc-mul}
use Rattle.std.proofs.lemmas.Bool.{eqb-true, le-leb, leb-true, lt-leb, lt-ltb, ne_eqb}
use Rattle.std.proofs.lemmas.List.{drop-drop, length-drop, length-take-le, take-append-drop}
use Rattle.std.proofs.lemmas.List.FromFn.{length-map-range_with_len}
use Rattle.ii_io.specs.Steps.{◌>>=◌, needs}
use Rattle.ii_io.specs.StepLemmas.{needs-some, some-same, step-some}
use Rattle.ii_io.specs.Numbers.{little_endian, number_at}
use Rattle.ii_codes.specs.Packed.{bits_in}
use Rattle.ii_codes.proofs.PackedLaws.{bits_in-append}
use Rattle.ii_termstore.specs.declared.term_info.TermInfo.{TermInfo}
use Rattle.ii_termstore.specs.declared.term_info_store.block_meta.TermInfoBlockMeta.{TermInfoBlockMeta as Meta}
use Rattle.ii_termstore.specs.TermInfos.{is_sound}
use Rattle.ii_termstore.specs.TermStore.{are_blocks, at_start, bits_len, bits_lie, block_bits, block_count, block_info, block_meta_at, block_terms, doc_freq_at, has_block, is_block, later_info, meta_at, meta_size, positions_number, postings_number, sound_term, store_parts, term_bits, term_info_at, term_store}
use Rattle.ii_termdict_slice.specs.Slices.{HasBits, HasMeta, HasStoreAt}
use Rattle.ii_termstore.proofs.ListLemmas.{all_at}
use Rattle.ii_termstore.proofs.StoreLemmas.{block_parts, block_within, stored_at, term_info_at-is, term_within}

-- bits of the first bytes
bits_front : (bs : List ℕ) (len place n : ℕ) → len ≤ length bs → place + n ≤ len * 8 → bits_in 8 (take len bs) place n ≡ bits_in 8 bs place n
bits_front bs len place n fits within =
    let size = length-take-le len bs fits in
    let whole = take-append-drop len bs in
    sym (ap (λ (xs : List ℕ). bits_in 8 xs place n) (sym whole) ∙ bits_in-append 8 (take len bs) (drop len bs) place n (omega arith) (rw size within))

-- the last bit of a term before another one of its block
place_within : (m : Meta) (terms k : ℕ) → k ≤ terms - 1 → k * term_bits m ≤ (terms - 1) * term_bits m
place_within m terms k h = mul-le-mul_right (term_bits m) h

-- What the bits of a block say when they are read alone.
pub record IsRead (m : Meta) (terms : ℕ) (bits read : List ℕ) : Type 0 where
  pub fits : bits_len m terms ≤ length (drop m.offset bits)
  pub read_is : read ≡ take (bits_len m terms) (drop m.offset bits)

postings_same : (m : Meta) (terms k : ℕ) (bits read : List ℕ) → IsRead m terms bits read → 0 < k → k ≤ terms → postings_number (at_start m) read k ≡ postings_number m bits k
postings_same m terms k bits read r some within =
    let up = place_within m terms (k - 1) (omega (arith, some, within)) in
    rw r.read_is (bits_front (drop m.offset bits) (bits_len m terms) ((k - 1) * term_bits m) m.postings_offset_nbits r.fits (omega (arith, up)))

positions_same : (m : Meta) (terms k : ℕ) (bits read : List ℕ) → IsRead m terms bits read → 0 < k → k ≤ terms → positions_number (at_start m) read k ≡ positions_number m bits k
positions_same m terms k bits read r some within =
    let up = place_within m terms (k - 1) (omega (arith, some, within)) in
    rw r.read_is (bits_front (drop m.offset bits) (bits_len m terms) ((k - 1) * term_bits m + m.postings_offset_nbits) m.positions_offset_nbits r.fits (omega (arith, up)))

doc_freq_same : (m : Meta) (terms k : ℕ) (bits read : List ℕ) → IsRead m terms bits read → 0 < k → k < terms → doc_freq_at (at_start m) read k ≡ doc_freq_at m bits k
doc_freq_same m terms (suc k) bits read r some within =
    let up = place_within m terms (suc k) (omega (arith, within)) in
    let next = suc-mul k (term_bits m) in
    let back : suc k - 1 ≡ k = omega arith in
    rw (r.read_is, back) (bits_front (drop m.offset bits) (bits_len m terms) (k * term_bits m + m.postings_offset_nbits + m.positions_offset_nbits) m.doc_freq_nbits r.fits (omega (arith, up, next)))
doc_freq_same m terms zero bits read r some within = absurd (omega arith)

not_first : (k : ℕ) → 0 < k → eqb k 0 ≡ false
not_first k h = ne_eqb k 0 (λ e. absurd (omega arith))

-- a term after the first
info_same : (m : Meta) (terms k : ℕ) (bits read : List ℕ) → IsRead m terms bits read → 0 < k → k < terms → block_info (at_start m) read k ≡ block_info m bits k
unfolding later_info
info_same m terms k bits read r some within =
    rw (
      not_first k some,
      doc_freq_same m terms k bits read r some within,
      postings_same m terms k bits read r some (omega (arith, within)),
      postings_same m terms (k + 1) bits read r (omega arith) (omega (arith, within)),
      positions_same m terms k bits read r some (omega (arith, within)),
      positions_same m terms (k + 1) bits read r (omega arith) (omega (arith, within)),
    ) refl

-- whether the bits that were read suffice
read_lies : (m : Meta) (terms : ℕ) (bits read : List ℕ) → IsRead m terms bits read → bits_lie (at_start m) terms (length read) ≡ true
read_lies m terms bits read r =
    let size : length read ≡ bits_len m terms = ap length r.read_is ∙ length-take-le (bits_len m terms) (drop m.offset bits) r.fits in
    let enough : 8 * 0 + block_bits m terms ≤ 8 * length read = omega (arith, size) in
    rw (le-leb (8 * 0 + block_bits m terms) (8 * length read) enough) (or-true (nat_le terms 1 || eqb (block_bits m terms) 0))

-- a term after the first of a valid block, read of the block's bits alone
pub term_same : (m : Meta) (terms k : ℕ) (bits read : List ℕ) → is_block m terms bits ≡ true → terms ≤ 256 → 0 < k → k < terms → IsRead m terms bits read → sound_term (at_start m) terms read k ≡ Some (block_info m bits k)
term_same m terms k bits read valid few some within r =
    let parts = block_parts m terms bits valid in
    let sound = all_at (λ i. is_sound (block_info m bits i)) terms k within parts.2 in
    rw (le-leb terms 256 few, lt-ltb k terms within, parts.0, read_lies m terms bits read r, info_same m terms k bits read r some within, sound) refl

-- the bits of a valid block lie within all bits
pub bits_fit : (m : Meta) (terms : ℕ) (bits : List ℕ) → is_block m terms bits ≡ true → 1 < terms → bits_len m terms ≤ length (drop m.offset bits)
bits_fit m terms bits valid many = by (eqb (block_bits m terms) 0) refl
  where
    by : (b : Bool) → eqb (block_bits m terms) 0 ≡ b → bits_len m terms ≤ length (drop m.offset bits)
    by true is = let none = eqb-true (block_bits m terms) 0 is in omega (arith, none)
    by false is =
        let lies = (block_parts m terms bits valid).1 in
        let more = lt-leb terms 1 many in
        let least : 8 * m.offset + block_bits m terms ≤ 8 * length bits = leb-true (8 * m.offset + block_bits m terms) (8 * length bits) (rw (more, is) at lies) in
        omega (arith, least, length-drop m.offset bits)

-- What the bytes of a store of n terms hold.
pub record HasBlocks (n : ℕ) (store : List ℕ) : Type 0 where
  pub room : 16 + meta_size * block_count n ≤ length store
  pub blocks : are_blocks n (drop 16 store) (drop (16 + meta_size * block_count n) store) ≡ true
  pub infos : term_store store ≡ Some (map (term_info_at (drop 16 store) (drop (16 + meta_size * block_count n) store)) (range_with_len 0 n))

number_parts : (k : ℕ) (bs : List ℕ) (a : ℕ × List ℕ) → number_at k bs ≡ Some a → (k ≤ length bs) × (a.1 ≡ drop k bs)
unfolding number_at
number_parts k bs a is =
    let both = needs-some (nat_le k (length bs)) (λ _. Some (little_endian (take k bs), drop k bs)) a is in
    (leb-true k (length bs) both.0, ap (λ (p : ℕ × List ℕ). p.1) (sym (some-same both.1)))

-- the parts of a store
store_inverse : (store : List ℕ) (parts : ℕ × List ℕ × List ℕ) → store_parts store ≡ Some parts
    → (16 + meta_size * block_count parts.0 ≤ length store) × (parts.1 ≡ drop 16 store) × (parts.2 ≡ drop (16 + meta_size * block_count parts.0) store)
unfolding store_parts
store_inverse store parts is =
    let first = step-some (number_at 8 store) (λ (l : ℕ × List ℕ). number_at 8 l.1 >>= λ (t : ℕ × List ℕ). needs (eqb l.0 (meta_size * block_count t.0)) >>= λ _. needs (nat_le l.0 (length t.1)) >>= λ _. Some (t.0, t.1, drop l.0 t.1)) parts is in
    let l = first.0 in
    let second = step-some (number_at 8 l.1) (λ (t : ℕ × List ℕ). needs (eqb l.0 (meta_size * block_count t.0)) >>= λ _. needs (nat_le l.0 (length t.1)) >>= λ _. Some (t.0, t.1, drop l.0 t.1)) parts first.2 in
    let t = second.0 in
    let third = needs-some (eqb l.0 (meta_size * block_count t.0)) (λ _. needs (nat_le l.0 (length t.1)) >>= λ _. Some (t.0, t.1, drop l.0 t.1)) parts second.2 in
    let fourth = needs-some (nat_le l.0 (length t.1)) (λ _. Some (t.0, t.1, drop l.0 t.1)) parts third.1 in
    let same : (t.0, t.1, drop l.0 t.1) ≡ parts = some-same fourth.1 in
    let len = eqb-true l.0 (meta_size * block_count t.0) third.0 in
    let room = leb-true l.0 (length t.1) fourth.0 in
    let one = number_parts 8 store l first.1 in
    let two = number_parts 8 l.1 t second.1 in
    let metas : t.1 ≡ drop 16 store = two.1 ∙ ap (drop 8) one.1 ∙ drop-drop 8 8 store in
    let size = ap length metas ∙ length-drop 16 store in
    let long : 16 ≤ length store = omega (arith, one.0, two.0, ap length one.1, length-drop 8 store) in
    let bits : drop l.0 t.1 ≡ drop (16 + meta_size * block_count t.0) store = ap (drop l.0) metas ∙ drop-drop l.0 16 store ∙ ap (λ (k : ℕ). drop (16 + k) store) len in
    subst (λ (p : ℕ × List ℕ × List ℕ). (16 + meta_size * block_count p.0 ≤ length store) × (p.1 ≡ drop 16 store) × (p.2 ≡ drop (16 + meta_size * block_count p.0) store)) same
    (omega (arith, len, room, size, long), metas, bits)

some_and : {A : Type 0} {P : A → Type 0} (o : Option A) → IsSomeAnd o P → (x : A) × (o ≡ Some x) × P x
some_and None h = absurd h
some_and (Some x) h = (x, refl, h)

-- the blocks of a store of n terms
pub has_blocks : (n : ℕ) (store : List ℕ) → IsSomeAnd (term_store store) (λ infos. length infos ≡ n) → HasBlocks n store
unfolding term_store
has_blocks n store h =
    let found = some_and (term_store store) h in
    let infos = found.0 in
    let first = step-some (store_parts store) (λ (p : ℕ × List ℕ × List ℕ). needs (are_blocks p.0 p.1 p.2) >>= λ _. Some (map (term_info_at p.1 p.2) (range_with_len 0 p.0))) infos found.1 in
    let p = first.0 in
    let valid = needs-some (are_blocks p.0 p.1 p.2) (λ _. Some (map (term_info_at p.1 p.2) (range_with_len 0 p.0))) infos first.2 in
    let parts = store_inverse store p first.1 in
    let all : map (term_info_at p.1 p.2) (range_with_len 0 p.0) ≡ infos = some-same valid.1 in
    let many : p.0 ≡ n = sym (length-map-range_with_len (term_info_at p.1 p.2) 0 p.0) ∙ ap length all ∙ found.2 in
    subst (λ (k : ℕ). HasBlocks k store) many (record {
      room = parts.0;
      blocks = subst (λ (bits : List ℕ). are_blocks p.0 (drop 16 store) bits ≡ true) parts.2 (subst (λ (metas : List ℕ). are_blocks p.0 metas p.2 ≡ true) parts.1 valid.0);
      infos = found.1 ∙ ap (λ (xs : List TermInfo). Some xs) (sym all ∙ rw (parts.1, parts.2) refl);
    })

-- the bits of a store of n terms that begins at a place of bytes
abbrev bits_of : ℕ → ℕ → List ℕ → List ℕ
bits_of n store bs = drop (16 + meta_size * block_count n) (drop store bs)

-- a meta, if one is read
abbrev meta_in : List ℕ → Option Meta
meta_in bs = option_map (λ (f : Meta × List ℕ). f.0) (meta_at bs)

-- the place of the meta of a term's block
meta_place : (ord store : ℕ) (bs : List ℕ) → drop (meta_size * (ord / 256)) (drop 16 (drop store bs)) ≡ drop (store + 16 + meta_size * (ord / 256)) bs
meta_place ord store bs = ap (drop (meta_size * (ord / 256))) (drop-drop 16 store bs) ∙ drop-drop (meta_size * (ord / 256)) (store + 16) bs

-- the block of a term is valid
block_valid : (n ord store : ℕ) (bs : List ℕ) → HasStoreAt store n bs → ord < n → has_block (drop 16 (drop store bs)) (bits_of n store bs) n (ord / 256) ≡ true
block_valid n ord store bs held within =
    all_at (has_block (drop 16 (drop store bs)) (bits_of n store bs) n) (block_count n) (ord / 256) (block_within ord n within) (has_blocks n (drop store bs) held).blocks

-- the meta of a term's block lies within the bytes
pub has_meta : (n ord store : ℕ) (bs : List ℕ) → HasStoreAt store n bs → ord < n → HasMeta (store + 16 + meta_size * (ord / 256)) bs
unfolding block_meta_at
has_meta n ord store bs held within =
    let blocks = has_blocks n (drop store bs) held in
    let b = block_within ord n within in
    record {
      room = omega (arith, blocks.room, b, length-drop store bs);
      meta = rw (← meta_place ord store bs) (by (meta_at (drop (meta_size * (ord / 256)) (drop 16 (drop store bs)))) (block_valid n ord store bs held within));
    }
  where
    by : (o : Option (Meta × List ℕ)) → unwrap_or (option_map (λ m. is_block m (block_terms n (ord / 256)) (bits_of n store bs)) (option_map (λ (f : Meta × List ℕ). f.0) o)) false ≡ true → IsSome o
    by None valid = absurd (cc)
    by (Some m) valid = refl

-- a block with this meta is valid
pub block_is : (n ord store : ℕ) (bs : List ℕ) (m : Meta) → HasStoreAt store n bs → ord < n → meta_in (drop (store + 16 + meta_size * (ord / 256)) bs) ≡ Some m → is_block m (block_terms n (ord / 256)) (bits_of n store bs) ≡ true
unfolding block_meta_at
block_is n ord store bs m held within found =
    let valid = block_valid n ord store bs held within in
    let here : meta_in (drop (meta_size * (ord / 256)) (drop 16 (drop store bs))) ≡ Some m = ap meta_in (meta_place ord store bs) ∙ found in
    rw here at valid

-- a term of a store, by its block
term_there : (n ord store : ℕ) (bs : List ℕ) (m : Meta) (info : TermInfo) → HasStoreAt store n bs → ord < n → meta_in (drop (store + 16 + meta_size * (ord / 256)) bs) ≡ Some m → info ≡ block_info m (bits_of n store bs) (ord % 256)
    → IfSome (term_store (drop store bs)) (λ infos. slice_get infos ord ≡ Some info)
unfolding block_meta_at
term_there n ord store bs m info held within found is =
    let blocks = has_blocks n (drop store bs) held in
    let metas = drop 16 (drop store bs) in
    let meta : Some m ≡ meta_in (drop (meta_size * (ord / 256)) metas) = sym (ap meta_in (meta_place ord store bs) ∙ found) in
    rw blocks.infos (stored_at n ord metas (bits_of n store bs) info within (is ∙ sym (term_info_at-is metas (bits_of n store bs) ord m meta)))

-- the first term of a block
pub first_there : (n ord store : ℕ) (bs : List ℕ) (m : Meta) → HasStoreAt store n bs → ord < n → meta_in (drop (store + 16 + meta_size * (ord / 256)) bs) ≡ Some m → ord % 256 ≡ 0
    → IfSome (term_store (drop store bs)) (λ infos. slice_get infos ord ≡ Some m.ref_term_info)
first_there n ord store bs m held within found first = term_there n ord store bs m m.ref_term_info held within found (rw first refl)

-- the bits of a later term's block lie within the bytes
pub has_bits : (n ord store : ℕ) (bs : List ℕ) (m : Meta) → HasStoreAt store n bs → ord < n → meta_in (drop (store + 16 + meta_size * (ord / 256)) bs) ≡ Some m → 0 < ord % 256
    → (bits_len m (block_terms n (ord / 256)) ≤ length (drop m.offset (bits_of n store bs))) × HasBits (store + (16 + meta_size * block_count n)) m (block_terms n (ord / 256)) bs
has_bits n ord store bs m held within found later =
    let blocks = has_blocks n (drop store bs) held in
    let terms = block_terms n (ord / 256) in
    let inside = term_within ord n within in
    let fits = bits_fit m terms (bits_of n store bs) (block_is n ord store bs m held within found) (omega (arith, inside, later)) in
    (fits, λ some. omega (arith, fits, some, blocks.room, length-drop m.offset (bits_of n store bs), length-drop (16 + meta_size * block_count n) (drop store bs), length-drop store bs))

-- the bits that were read, as those of the store
bits_place : (n store offset : ℕ) (bs : List ℕ) → drop offset (bits_of n store bs) ≡ drop (store + (16 + meta_size * block_count n) + offset) bs
bits_place n store offset bs = ap (drop offset) (drop-drop (16 + meta_size * block_count n) store bs) ∙ drop-drop offset (store + (16 + meta_size * block_count n)) bs

-- what the bits of its block say of a later term
later_is : (n ord store : ℕ) (bs read : List ℕ) (m : Meta) → HasStoreAt store n bs → ord < n → meta_in (drop (store + 16 + meta_size * (ord / 256)) bs) ≡ Some m → 0 < ord % 256
    → read ≡ take (bits_len m (block_terms n (ord / 256))) (drop (store + (16 + meta_size * block_count n) + m.offset) bs) → sound_term (at_start m) (block_terms n (ord / 256)) read (ord % 256) ≡ Some (block_info m (bits_of n store bs) (ord % 256))
later_is n ord store bs read m held within found later is =
    let terms = block_terms n (ord / 256) in
    let fits = (has_bits n ord store bs m held within found later).0 in
    term_same m terms (ord % 256) (bits_of n store bs) read (block_is n ord store bs m held within found) (omega arith) later (term_within ord n within)
    (record { fits = fits; read_is = is ∙ ap (take (bits_len m terms)) (sym (bits_place n store m.offset bs)) })

pub later_there : (n ord store : ℕ) (bs read : List ℕ) (m : Meta) (info : TermInfo) → HasStoreAt store n bs → ord < n → meta_in (drop (store + 16 + meta_size * (ord / 256)) bs) ≡ Some m → 0 < ord % 256
    → read ≡ take (bits_len m (block_terms n (ord / 256))) (drop (store + (16 + meta_size * block_count n) + m.offset) bs) → Some info ≡ sound_term (at_start m) (block_terms n (ord / 256)) read (ord % 256)
    → IfSome (term_store (drop store bs)) (λ infos. slice_get infos ord ≡ Some info)
later_there n ord store bs read m info held within found later is given = term_there n ord store bs m info held within found (some-same (given ∙ later_is n ord store bs read m held within found later is))

pub later_missing : (n ord store : ℕ) (bs read : List ℕ) (m : Meta) → HasStoreAt store n bs → ord < n → meta_in (drop (store + 16 + meta_size * (ord / 256)) bs) ≡ Some m → 0 < ord % 256
    → read ≡ take (bits_len m (block_terms n (ord / 256))) (drop (store + (16 + meta_size * block_count n) + m.offset) bs) → None ≡ sound_term (at_start m) (block_terms n (ord / 256)) read (ord % 256) → ⊥
later_missing n ord store bs read m held within found later is none = let there = none ∙ later_is n ord store bs read m held within found later is in cc
