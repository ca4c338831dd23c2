-- The numbers of a block, read from its bits.
use Rattle.std.proofs.Common.{◌≡◌, ℕ, suc, ◌+◌, ◌-◌, ◌*◌, ◌^◌, ◌<◌, ◌≤◌, List, [], ◌++◌, length, take, drop, refl, sym, ap, ◌∙◌, arith, ⊎_elim, append_assoc, length-append}
use Rattle.std.specs.List.{flat_map}
use Rattle.std.proofs.lemmas.Bool.{cases_lt}
use Rattle.std.proofs.lemmas.List.{append-nil, length-take-le}
use Rattle.ii_codes.specs.Packed.{bits_in}
use Rattle.ii_codes.specs.Bits.{low_bits, bits_bytes, ReadsFromItsPlace}
use Rattle.ii_termstore.specs.declared.term_info.TermInfo.{TermInfo}
use Rattle.ii_termstore.specs.declared.term_info_store.block_meta.TermInfoBlockMeta.{TermInfoBlockMeta as Meta}
use Rattle.ii_termstore.specs.TermInfos.{term_info_from}
use Rattle.ii_termstore.specs.TermStore.{term_bits, postings_at, positions_start, doc_freq_at, later_info}
use Rattle.ii_termstore.specs.Written.{term_row, block_row, info_in, last_of, postings_after, positions_after, postings_end, positions_end, FitsWidths, EndsFit, HaveLengths}
use Rattle.ii_codes.proofs.BitsLemmas.{length-low_bits}
use Rattle.ii_termstore.proofs.PackLemmas.{length-rows, last_of-get_or}
use Rattle.ii_termstore.proofs.ListLemmas.{flat_around}

-- Two numbers are at a place, one after the other, in the widths of a block.
pub record StandAt (m : Meta) (bits : List ℕ) (place p q : ℕ) : Type 0 where
  pub postings : bits_in 8 bits place m.postings_offset_nbits ≡ p
  pub positions : bits_in 8 bits (place + m.postings_offset_nbits) m.positions_offset_nbits ≡ q

two_stand : (law : ReadsFromItsPlace) (m : Meta) (p q : ℕ) (front after row rest : List ℕ)
    → row ≡ ((front ++ low_bits m.postings_offset_nbits p) ++ low_bits m.positions_offset_nbits q) ++ after
    → p < 2 ^ m.postings_offset_nbits → q < 2 ^ m.positions_offset_nbits → StandAt m (bits_bytes row ++ rest) (length front) p q
two_stand law m p q front after row rest e fits fits_too =
    let low = low_bits m.postings_offset_nbits p in
    let high = low_bits m.positions_offset_nbits q in
    let other = e ∙ append_assoc (front ++ low_bits m.postings_offset_nbits p) (low_bits m.positions_offset_nbits q) after in
    let second : length front + m.postings_offset_nbits ≡ length (front ++ low_bits m.postings_offset_nbits p) =
    omega (arith, length-append front (low_bits m.postings_offset_nbits p), length-low_bits m.postings_offset_nbits p) in
    record {
      postings =
          ap (λ (xs : List ℕ). bits_in 8 (bits_bytes xs ++ rest) (length front) m.postings_offset_nbits) other
          ∙ law front (high ++ after) rest m.postings_offset_nbits p fits;
      positions =
          ap (λ (xs : List ℕ). bits_in 8 (bits_bytes xs ++ rest) (length front + m.postings_offset_nbits) m.positions_offset_nbits) e
          ∙ ap (λ (n : ℕ). bits_in 8 (bits_bytes (((front ++ low) ++ high) ++ after) ++ rest) n m.positions_offset_nbits) second
          ∙ law (front ++ low) after rest m.positions_offset_nbits q fits_too;
    }

term_shape : (a p q d g e f : List ℕ) → (((a ++ ((p ++ q) ++ d)) ++ g) ++ e) ++ f ≡ (((a ++ p) ++ q) ++ d) ++ ((g ++ e) ++ f)
term_shape a p q d g e f = simp append_assoc

-- the row of a block, around term j
abbrev front_of : Meta → List TermInfo → ℕ → List ℕ
front_of m others j = flat_map (term_row m) (take j others)

abbrev after_term : Meta → List TermInfo → ℕ → List ℕ
after_term m others j =
    (flat_map (term_row m) (drop (j + 1) others) ++ low_bits m.postings_offset_nbits (postings_end m.ref_term_info others))
    ++ low_bits m.positions_offset_nbits (positions_end m.ref_term_info others)

row_around : (m : Meta) (others : List TermInfo) (j : ℕ) → j < length others → block_row m others
    ≡ (((front_of m others j ++ low_bits m.postings_offset_nbits (postings_after m.ref_term_info (info_in others j)))
    ++ low_bits m.positions_offset_nbits (positions_after m.ref_term_info (info_in others j))) ++ low_bits m.doc_freq_nbits (info_in others j).doc_freq)
    ++ after_term m others j
row_around m others j h =
    let first = low_bits m.postings_offset_nbits (postings_end m.ref_term_info others) in
    let second = low_bits m.positions_offset_nbits (positions_end m.ref_term_info others) in
    ap (λ (xs : List ℕ). (xs ++ first) ++ second) (flat_around (term_row m) others j (term_info_from 0 0 0 0 0) h)
    ∙ term_shape (front_of m others j) (low_bits m.postings_offset_nbits (postings_after m.ref_term_info (info_in others j)))
    (low_bits m.positions_offset_nbits (positions_after m.ref_term_info (info_in others j))) (low_bits m.doc_freq_nbits (info_in others j).doc_freq)
    (flat_map (term_row m) (drop (j + 1) others)) first second

length-front_of : (m : Meta) (others : List TermInfo) (j : ℕ) → j ≤ length others → length (front_of m others j) ≡ j * term_bits m
length-front_of m others j h = length-rows m (take j others) ∙ ap (λ (n : ℕ). n * term_bits m) (length-take-le j others h)

pub term_stands : (law : ReadsFromItsPlace) (m : Meta) (others : List TermInfo) (j : ℕ) (rest : List ℕ) → j < length others → FitsWidths m (info_in others j)
    → StandAt m (bits_bytes (block_row m others) ++ rest) (j * term_bits m) (postings_after m.ref_term_info (info_in others j)) (positions_after m.ref_term_info (info_in others j))
term_stands law m others j rest h fits =
    let front = front_of m others j in
    let p = low_bits m.postings_offset_nbits (postings_after m.ref_term_info (info_in others j)) in
    let q = low_bits m.positions_offset_nbits (positions_after m.ref_term_info (info_in others j)) in
    let d = low_bits m.doc_freq_nbits (info_in others j).doc_freq in
    rw (length-front_of m others j (omega arith)) at
    (two_stand law m (postings_after m.ref_term_info (info_in others j)) (positions_after m.ref_term_info (info_in others j))
    (front_of m others j) (d ++ after_term m others j) (block_row m others) rest
    (row_around m others j h ∙ append_assoc ((front ++ p) ++ q) d (after_term m others j)) fits.postings fits.positions)

pub doc_freq_stands : (law : ReadsFromItsPlace) (m : Meta) (others : List TermInfo) (j : ℕ) (rest : List ℕ) → j < length others → FitsWidths m (info_in others j)
    → bits_in 8 (bits_bytes (block_row m others) ++ rest) (j * term_bits m + m.postings_offset_nbits + m.positions_offset_nbits) m.doc_freq_nbits ≡ (info_in others j).doc_freq
doc_freq_stands law m others j rest h fits =
    let front = front_of m others j in
    let p = low_bits m.postings_offset_nbits (postings_after m.ref_term_info (info_in others j)) in
    let q = low_bits m.positions_offset_nbits (positions_after m.ref_term_info (info_in others j)) in
    let d = low_bits m.doc_freq_nbits (info_in others j).doc_freq in
    let size = length-append ((front ++ p)) q ∙ ap (λ (n : ℕ). n + length q) (length-append front p) in
    let parts : length ((front ++ p) ++ q) ≡ j * term_bits m + m.postings_offset_nbits + m.positions_offset_nbits =
    size ∙ ap (λ (n : ℕ). n + length p + length q) (length-front_of m others j (omega arith))
    ∙ ap (λ (n : ℕ). j * term_bits m + n + length q) (length-low_bits m.postings_offset_nbits (postings_after m.ref_term_info (info_in others j)))
    ∙ ap (λ (n : ℕ). j * term_bits m + m.postings_offset_nbits + n) (length-low_bits m.positions_offset_nbits (positions_after m.ref_term_info (info_in others j)))
    in
    ap (λ (xs : List ℕ). bits_in 8 (bits_bytes xs ++ rest) (j * term_bits m + m.postings_offset_nbits + m.positions_offset_nbits) m.doc_freq_nbits) (row_around m others j h)
    ∙ ap (λ (n : ℕ). bits_in 8 (bits_bytes ((((front ++ p) ++ q) ++ d) ++ after_term m others j) ++ rest) n m.doc_freq_nbits) (sym parts)
    ∙ law ((front ++ p) ++ q) (after_term m others j) rest m.doc_freq_nbits (info_in others j).doc_freq fits.doc_freq

pub ends_stand : (law : ReadsFromItsPlace) (m : Meta) (others : List TermInfo) (rest : List ℕ) → EndsFit m others
    → StandAt m (bits_bytes (block_row m others) ++ rest) (length others * term_bits m) (postings_end m.ref_term_info others) (positions_end m.ref_term_info others)
ends_stand law m others rest fits =
    rw (length-rows m others) at
    (two_stand law m (postings_end m.ref_term_info others) (positions_end m.ref_term_info others) (flat_map (term_row m) others) [] (block_row m others) rest
    (sym (append-nil (block_row m others))) fits.postings fits.positions)

-- The terms of a block after its first: each begins where the one before it ends, and not before the first.
pub record Follow (first : TermInfo) (others : List TermInfo) : Type 0 where
  pub postings : (j : ℕ) → suc j < length others → (info_in others (suc j)).postings_range.start ≡ (info_in others j).postings_range.end
  pub positions : (j : ℕ) → suc j < length others → (info_in others (suc j)).positions_range.start ≡ (info_in others j).positions_range.end
  pub postings_above : (j : ℕ) → j < length others → first.postings_range.start ≤ (info_in others j).postings_range.start
  pub positions_above : (j : ℕ) → j < length others → first.positions_range.start ≤ (info_in others j).positions_range.start
  pub lengths : HaveLengths others

-- where term j ends
pub next_stands : (law : ReadsFromItsPlace) (m : Meta) (others : List TermInfo) (j : ℕ) (rest : List ℕ) → j < length others → ((k : ℕ) → k < length others → FitsWidths m (info_in others k))
    → EndsFit m others → Follow m.ref_term_info others
    → StandAt m (bits_bytes (block_row m others) ++ rest) (suc j * term_bits m) ((info_in others j).postings_range.end - m.ref_term_info.postings_range.start)
    ((info_in others j).positions_range.end - m.ref_term_info.positions_range.start)
next_stands law m others j rest h fits ends follow =
    ⊎_elim
    (λ more.
    let next = term_stands law m others (suc j) rest more (fits (suc j) more) in
    record {
      postings = next.postings ∙ ap (λ (n : ℕ). n - m.ref_term_info.postings_range.start) (follow.postings j more);
      positions = next.positions ∙ ap (λ (n : ℕ). n - m.ref_term_info.positions_range.start) (follow.positions j more);
    })
    (λ last.
    let next = ends_stand law m others rest ends in
    let size : length others ≡ suc j = omega arith in
    let place : length others - 1 ≡ j = omega arith in
    let end : last_of m.ref_term_info others ≡ info_in others j =
    sym (last_of-get_or m.ref_term_info others (term_info_from 0 0 0 0 0) (omega arith)) ∙ ap (info_in others) place in
    record {
      postings =
          ap (λ (n : ℕ). bits_in 8 (bits_bytes (block_row m others) ++ rest) (n * term_bits m) m.postings_offset_nbits) (sym size) ∙ next.postings
          ∙ ap (λ (i : TermInfo). i.postings_range.end - m.ref_term_info.postings_range.start) end;
      positions =
          ap (λ (n : ℕ). bits_in 8 (bits_bytes (block_row m others) ++ rest) (n * term_bits m + m.postings_offset_nbits) m.positions_offset_nbits) (sym size) ∙ next.positions
          ∙ ap (λ (i : TermInfo). i.positions_range.end - m.ref_term_info.positions_range.start) end;
    })
    (cases_lt (suc j) (length others))

-- what is read of two numbers at a place
at_place : (m : Meta) (bits seen : List ℕ) (k j p q : ℕ) → drop m.offset bits ≡ seen → k - 1 ≡ j → StandAt m seen (j * term_bits m) p q
    → (postings_at m bits k ≡ m.ref_term_info.postings_range.start + p) × (positions_start m bits k ≡ m.ref_term_info.positions_range.start + q)
at_place m bits seen k j p q e b s = (
  ap (λ (xs : List ℕ). m.ref_term_info.postings_range.start + bits_in 8 xs ((k - 1) * term_bits m) m.postings_offset_nbits) e
      ∙ ap (λ (n : ℕ). m.ref_term_info.postings_range.start + bits_in 8 seen (n * term_bits m) m.postings_offset_nbits) b
      ∙ ap (λ (n : ℕ). m.ref_term_info.postings_range.start + n) s.postings,
  ap (λ (xs : List ℕ). m.ref_term_info.positions_range.start + bits_in 8 xs ((k - 1) * term_bits m + m.postings_offset_nbits) m.positions_offset_nbits) e
      ∙ ap (λ (n : ℕ). m.ref_term_info.positions_range.start + bits_in 8 seen (n * term_bits m + m.postings_offset_nbits) m.positions_offset_nbits) b
      ∙ ap (λ (n : ℕ). m.ref_term_info.positions_range.start + n) s.positions,
)

doc_freq_place : (m : Meta) (bits seen : List ℕ) (k j d : ℕ) → drop m.offset bits ≡ seen → k - 1 ≡ j
    → bits_in 8 seen (j * term_bits m + m.postings_offset_nbits + m.positions_offset_nbits) m.doc_freq_nbits ≡ d → doc_freq_at m bits k ≡ d
doc_freq_place m bits seen k j d e b s =
    ap (λ (xs : List ℕ). bits_in 8 xs ((k - 1) * term_bits m + m.postings_offset_nbits + m.positions_offset_nbits) m.doc_freq_nbits) e
    ∙ ap (λ (n : ℕ). bits_in 8 seen (n * term_bits m + m.postings_offset_nbits + m.positions_offset_nbits) m.doc_freq_nbits) b ∙ s

above : (a x : ℕ) → a ≤ x → a + (x - a) ≡ x
above a x h = omega arith

same_info : (i : TermInfo) (d a b p q : ℕ) → d ≡ i.doc_freq → a ≡ i.postings_range.start → b ≡ i.postings_range.end → p ≡ i.positions_range.start → q ≡ i.positions_range.end → term_info_from d a b p q ≡ i
same_info i d a b p q e f g h k = rw (e, f, g, h, k) refl

-- a term after the first is read back
pub later_is : (law : ReadsFromItsPlace) (m : Meta) (others : List TermInfo) (bits rest : List ℕ) (j : ℕ) → j < length others → drop m.offset bits ≡ bits_bytes (block_row m others) ++ rest
    → ((k : ℕ) → k < length others → FitsWidths m (info_in others k)) → EndsFit m others → Follow m.ref_term_info others → later_info m bits (suc j) ≡ info_in others j
unfolding later_info
later_is law m others bits rest j h e fits ends follow =
    let seen = bits_bytes (block_row m others) ++ rest in
    let i = info_in others j in
    let back : suc j - 1 ≡ j = omega arith in
    let forth : suc j + 1 - 1 ≡ suc j = omega arith in
    let begin = at_place m bits (bits_bytes (block_row m others) ++ rest) (suc j) j (postings_after m.ref_term_info (info_in others j)) (positions_after m.ref_term_info (info_in others j)) e back
    (term_stands law m others j rest h (fits j h)) in
    let end = at_place m bits (bits_bytes (block_row m others) ++ rest) (suc j + 1) (suc j) ((info_in others j).postings_range.end - m.ref_term_info.postings_range.start)
    ((info_in others j).positions_range.end - m.ref_term_info.positions_range.start) e forth (next_stands law m others j rest h fits ends follow) in
    let count = doc_freq_place m bits (bits_bytes (block_row m others) ++ rest) (suc j) j (info_in others j).doc_freq e back (doc_freq_stands law m others j rest h (fits j h)) in
    let low = follow.postings_above j h in
    let low_too = follow.positions_above j h in
    let lengths = follow.lengths j h in
    let forward = lengths.postings in
    let forward_too = lengths.positions in
    same_info (info_in others j) (doc_freq_at m bits (suc j)) (postings_at m bits (suc j)) (postings_at m bits (suc j + 1)) (positions_start m bits (suc j)) (positions_start m bits (suc j + 1)) count
    (begin.0 ∙ above m.ref_term_info.postings_range.start (info_in others j).postings_range.start low)
    (end.0 ∙ above m.ref_term_info.postings_range.start (info_in others j).postings_range.end (omega arith))
    (begin.1 ∙ above m.ref_term_info.positions_range.start (info_in others j).positions_range.start low_too)
    (end.1 ∙ above m.ref_term_info.positions_range.start (info_in others j).positions_range.end (omega arith))
