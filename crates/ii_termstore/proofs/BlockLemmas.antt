-- What is read from a block.
use Rattle.ii_termstore.proofs.ListLemmas.{not_all}
use Rattle.std.specs.List.{list_all, range_with_len}
use Rattle.std.proofs.Common.{◌≡◌, ◌≤◌, ◌∙◌, ℕ, zero, suc, ◌+◌, ◌-◌, ◌*◌, ◌^◌, ◌<◌, Bool, true, false, ◌&&◌, List, length, Option, Some, None, eqb, nat_le, nat_lt, refl, sym, arith, ⊎_elim}
use Rattle.std.proofs.Math.Bool.{and_comm}
use Rattle.std.proofs.Math.Nat.{mul-le-mul_right, suc-mul}
use Rattle.std.proofs.lemmas.Bool.{ne_eqb, cases_lt, le-leb, lt-leb, leb-true}
use Rattle.std.specs.Prelude.{if◌then◌else◌, is_some}
use Rattle.std.specs.declared.ops.Range.{Range}
use Rattle.ii_io.specs.StepLemmas.{some-same}
use Rattle.ii_codes.specs.Packed.{bits_in}
use Rattle.ii_termstore.specs.declared.term_info.TermInfo.{TermInfo}
use Rattle.ii_termstore.specs.declared.term_info_store.block_meta.TermInfoBlockMeta.{TermInfoBlockMeta as Meta}
use Rattle.ii_termstore.specs.TermInfos.{is_short, is_sound}
use Rattle.ii_termstore.specs.TermStore.{term_bits, block_bits, postings_number, positions_number, doc_freq_at, later_info, block_info, is_block, widths_fit, bits_lie}

pub no_bits : (row : List ℕ) (place width : ℕ) → width ≡ 0 → 0 ≡ bits_in 8 row place width
unfolding bits_in
no_bits row place width e = rw e refl

-- the numbers of a term that isn't the last place of its block lie in its bytes
pub term_lies : (m : Meta) (terms size k : ℕ) → bits_lie m terms size ≡ true → 0 < k → k < terms → 0 < m.doc_freq_nbits → 8 * m.offset + k * term_bits m ≤ 8 * size
term_lies m terms size k lie some within wide =
    let up : k * term_bits m ≤ (terms - 1) * term_bits m = mul-le-mul_right (term_bits m) (omega arith) in
    let one : 1 * term_bits m ≤ k * term_bits m = mul-le-mul_right (term_bits m) (omega arith) in
    let more = lt-leb terms 1 (omega arith) in
    let bits = ne_eqb (block_bits m terms) 0 (λ (e : (terms - 1) * term_bits m + m.postings_offset_nbits + m.positions_offset_nbits ≡ 0). absurd (omega arith)) in
    let least : 8 * m.offset + ((terms - 1) * term_bits m + m.postings_offset_nbits + m.positions_offset_nbits) ≤ 8 * size = leb-true (8 * m.offset + block_bits m terms) (8 * size) (rw (more, bits) at lie) in
    omega arith

-- the range after a first offset, as the code tests it
abbrev pub range_test : ℕ → ℕ → ℕ → Bool
range_test f s e = nat_le s e && nat_lt (e - s) (2 ^ 32) && nat_lt (f + e) (2 ^ 64)

abbrev pub ranged : ℕ → ℕ → ℕ → Option (Range ℕ)
ranged f s e = if range_test f s e then Some (record { start = f + s; end = f + e }) else None

abbrev short_range : Range ℕ → Option (Range ℕ)
short_range r = if is_short r then Some r else None

le_shifted : (f s e : ℕ) → nat_le (f + s) (f + e) ≡ nat_le s e
le_shifted f s e = ⊎_elim
    (λ below. rw (lt-leb s e below, lt-leb (f + s) (f + e) (omega arith)) refl)
    (λ above. rw (le-leb s e above, le-leb (f + s) (f + e) (omega arith)) refl)
    (cases_lt e s)

ranged_is : (f s e : ℕ) → ranged f s e ≡ short_range (record { start = f + s; end = f + e })
ranged_is f s e =
    let size : f + e - (f + s) ≡ e - s = omega arith in
    rw (le_shifted f s e, size) refl

-- what two ranges make of a term
sound_cases : (i : TermInfo) (r t : Range ℕ) (b c : Bool) → Some r ≡ (if b then Some i.postings_range else None) → Some t ≡ (if c then Some i.positions_range else None)
    → Some (record { doc_freq = i.doc_freq; postings_range = r; positions_range = t }) ≡ (if b && c then Some i else None)
sound_cases i r t true true h k = rw (some-same h, some-same k) refl
sound_cases i r t true false h k = absurd (cc)
sound_cases i r t false c h k = absurd (cc)

none_cases : (i : TermInfo) (r : Range ℕ) (b c : Bool) → None ≡ (if b then Some r else None) → None ≡ (if b && c then Some i else None)
none_cases i r true c h = absurd (cc)
none_cases i r false c h = refl

not_first : (k : ℕ) → 0 < k → eqb k 0 ≡ false
not_first k h = ne_eqb k 0 (λ e. absurd (omega arith))

-- a term after the first, by its numbers
later_is : (m : Meta) (bits : List ℕ) (k : ℕ) → 0 < k → block_info m bits k ≡ later_info m bits k
later_is m bits k some = rw (not_first k some) refl

-- what the code answers for a term after the first
pub term_found : (m : Meta) (bits : List ℕ) (k : ℕ) (r t : Range ℕ) → 0 < k → Some r ≡ ranged m.ref_term_info.postings_range.start (postings_number m bits k) (postings_number m bits (k + 1))
    → Some t ≡ ranged m.ref_term_info.positions_range.start (positions_number m bits k) (positions_number m bits (k + 1))
    → Some (record { doc_freq = doc_freq_at m bits k; postings_range = r; positions_range = t }) ≡ (if is_sound (block_info m bits k) then Some (block_info m bits k) else None)
unfolding later_info
term_found m bits k r t some h j =
    rw (later_is m bits k some)
    (sound_cases (later_info m bits k) r t (is_short (later_info m bits k).postings_range) (is_short (later_info m bits k).positions_range)
    (h ∙ ranged_is m.ref_term_info.postings_range.start (postings_number m bits k) (postings_number m bits (k + 1)))
    (j ∙ ranged_is m.ref_term_info.positions_range.start (positions_number m bits k) (positions_number m bits (k + 1))))

pub term_none_first : (m : Meta) (bits : List ℕ) (k : ℕ) → 0 < k → None ≡ ranged m.ref_term_info.postings_range.start (postings_number m bits k) (postings_number m bits (k + 1))
    → None ≡ (if is_sound (block_info m bits k) then Some (block_info m bits k) else None)
unfolding later_info
term_none_first m bits k some h =
    rw (later_is m bits k some)
    (none_cases (later_info m bits k) (later_info m bits k).postings_range (is_short (later_info m bits k).postings_range) (is_short (later_info m bits k).positions_range)
    (h ∙ ranged_is m.ref_term_info.postings_range.start (postings_number m bits k) (postings_number m bits (k + 1))))

pub term_none_second : (m : Meta) (bits : List ℕ) (k : ℕ) → 0 < k → None ≡ ranged m.ref_term_info.positions_range.start (positions_number m bits k) (positions_number m bits (k + 1))
    → None ≡ (if is_sound (block_info m bits k) then Some (block_info m bits k) else None)
unfolding later_info
term_none_second m bits k some h =
    rw (later_is m bits k some, and_comm (is_short (later_info m bits k).postings_range) (is_short (later_info m bits k).positions_range))
    (none_cases (later_info m bits k) (later_info m bits k).positions_range (is_short (later_info m bits k).positions_range) (is_short (later_info m bits k).postings_range)
    (h ∙ ranged_is m.ref_term_info.positions_range.start (positions_number m bits k) (positions_number m bits (k + 1))))

-- what a block's check answers
pub block-wide : (m : Meta) (terms : ℕ) (bits : List ℕ) → widths_fit m ≡ false → false ≡ is_block m terms bits
unfolding is_block
block-wide m terms bits h = rw h refl

pub block-lies_not : (m : Meta) (terms : ℕ) (bits : List ℕ) → widths_fit m ≡ true → bits_lie m terms (length bits) ≡ false → false ≡ is_block m terms bits
unfolding is_block
block-lies_not m terms bits w h = rw (w, h) refl

pub block-unsound : (m : Meta) (terms k : ℕ) (bits : List ℕ) → k < terms → widths_fit m ≡ true → bits_lie m terms (length bits) ≡ true → is_sound (block_info m bits k) ≡ false → false ≡ is_block m terms bits
unfolding is_block
block-unsound m terms k bits h w l fails = rw (w, l, not_all (λ k. is_sound (block_info m bits k)) terms k h fails) refl

pub block-sound : (m : Meta) (terms : ℕ) (bits : List ℕ) → widths_fit m ≡ true → bits_lie m terms (length bits) ≡ true → list_all (λ k. is_sound (block_info m bits k)) (range_with_len 0 terms) ≡ true
    → true ≡ is_block m terms bits
unfolding is_block
block-sound m terms bits w l h = rw (w, l, h) refl

-- what the test of one term says
pub sound-some : (i j : TermInfo) → (if is_sound i then Some i else None) ≡ Some j → (is_sound i ≡ true) × (j ≡ i)
sound-some i j h = some_cases i j (is_sound i) refl h
  where
    some_cases : (i j : TermInfo) (b : Bool) → is_sound i ≡ b → (if b then Some i else None) ≡ Some j → (is_sound i ≡ true) × (j ≡ i)
    some_cases i j true e h = (e, sym (some-same h))
    some_cases i j false e h = absurd (cc)

pub sound-none : (i : TermInfo) → (if is_sound i then Some i else None) ≡ None → is_sound i ≡ false
sound-none i h = none_of i (is_sound i) refl h
  where
    none_of : (i : TermInfo) (b : Bool) → is_sound i ≡ b → (if b then Some i else None) ≡ None → is_sound i ≡ false
    none_of i true e h = absurd (cc)
    none_of i false e h = e

pub is_some-sound : (i : TermInfo) (r : Option TermInfo) → r ≡ (if is_sound i then Some i else None) → is_some r ≡ is_sound i
is_some-sound i r h = rw h (test_of i (is_sound i))
  where
    test_of : (i : TermInfo) (b : Bool) → is_some (if b then Some i else None) ≡ b
    test_of i true = refl
    test_of i false = refl

-- as the code adds up the place of a term's documents
pub after_places : (m : Meta) (k : ℕ) → 0 < k → (k - 1) * term_bits m + (m.postings_offset_nbits + m.positions_offset_nbits) + m.doc_freq_nbits ≡ k * term_bits m
after_places m zero h = absurd (omega arith)
after_places m (suc k) h =
    let back : suc k - 1 ≡ k = omega arith in
    rw (back, suc-mul k (term_bits m)) (omega arith)
