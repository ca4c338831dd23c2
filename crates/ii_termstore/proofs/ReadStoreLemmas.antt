-- A written store reads back.
use Rattle.std.proofs.Common.{◌≡◌, ℕ, zero, suc, ◌+◌, ◌-◌, ◌*◌, ◌/◌, ◌%◌, ◌^◌, ◌<◌, ◌≤◌, true, false, ◌||◌, List, [], ◌∷◌, ◌++◌, length, drop, map, get_or, max, nat_le, eqb, Some, refl, sym, ap, ◌∙◌, arith, length-append, length-drop}
use Rattle.std.specs.List.{range_with_len}
use Rattle.std.proofs.lemmas.Bool.{le-leb, lt-ltb, eq-eqb, ne_eqb}
use Rattle.std.proofs.lemmas.List.{drop_at, length-take, get_or-take, get_or-drop}
use Rattle.std.proofs.lemmas.List.Concat.{length-flat_map}
use Rattle.std.proofs.lemmas.List.FromFn.{fill_by_all}
use Rattle.ii_io.specs.Numbers.{le_bytes}
use Rattle.ii_io.specs.NumberLemmas.{reads_what_is_written}
use Rattle.ii_codes.specs.Packed.{num_bits, HoldsFromLeastWidth}
use Rattle.ii_codes.specs.Bits.{bits_bytes, ReadsFromItsPlace}
use Rattle.ii_termstore.specs.declared.term_info.TermInfo.{TermInfo}
use Rattle.ii_termstore.specs.declared.term_info_store.block_meta.TermInfoBlockMeta.{TermInfoBlockMeta as Meta}
use Rattle.ii_termstore.specs.TermInfos.{term_info_from, is_sound, postings_len, positions_len, HasLengths, IsInRange}
use Rattle.ii_termstore.specs.TermStore.{meta_bytes, term_bits, block_bits, block_info, block_count, block_terms, is_block, block_meta_at, has_block, term_info_at, store_parts, are_blocks, term_store}
use Rattle.ii_termstore.specs.TermStoreLemmas.{length_meta_bytes, reads_meta_back}
use Rattle.ii_termstore.specs.Written.{first_of, last_of, largest, postings_after, positions_after, postings_end, positions_end, meta_for, block_row, terms_of_block, bits_of_block, offset_of, meta_at_block, metas_bytes, blocks_bytes, written_store, info_in, FitsBlock}
use Rattle.ii_termstore.specs.ReadBack.{AreJoined, AreStorable, ReadsStoreBack}
use Rattle.ii_codes.proofs.BitsLemmas.{length-bits_bytes}
use Rattle.ii_termstore.proofs.PackLemmas.{length-block_row}
use Rattle.ii_termstore.proofs.WriterLemmas.{first_is, terms_fit, ends_fit}
use Rattle.ii_termstore.proofs.PieceLemmas.{piece_at, length-pieces, pieces_le}
use Rattle.ii_termstore.proofs.ListLemmas.{append_assoc-five, all_pass}
use Rattle.ii_termstore.proofs.RowLemmas.{Follow, later_is}
use Rattle.std.proofs.Math.Bool.{or-true}

-- A number has as many bits as it takes.
bits_fit : (law : HoldsFromLeastWidth) (n : ℕ) → n < 2 ^ 64 → n < 2 ^ num_bits n
bits_fit law n small =
    let width : max (num_bits n) 0 ≡ num_bits n = omega arith in
    let fits = (law (max (num_bits n) 0) (n ∷ []) (one_below n (2 ^ 64) small)).1 (omega arith) 0 (omega arith) in
    rw width at fits
  where
    one_below : (n bound : ℕ) → n < bound → (k : ℕ) → k < length (n ∷ []) → get_or (n ∷ []) k 0 < bound
    one_below n bound h zero within = h
    one_below n bound h (suc k) within = absurd (omega arith)

bits_few : (law : HoldsFromLeastWidth) (n w : ℕ) → n < 2 ^ 64 → n < 2 ^ w → num_bits n ≤ w
bits_few law n w small h =
    let width : max (num_bits n) 0 ≡ num_bits n = omega arith in
    let few = (law w (n ∷ []) (one_below n (2 ^ 64) small)).0 (one_below n (2 ^ w) h) in
    rw width at few
  where
    one_below : (n bound : ℕ) → n < bound → (k : ℕ) → k < length (n ∷ []) → get_or (n ∷ []) k 0 < bound
    one_below n bound h zero within = h
    one_below n bound h (suc k) within = absurd (omega arith)

largest_below : {X : Type 0} (f : X → ℕ) (xs : List X) (d : X) (bound : ℕ) → 0 < bound → ((k : ℕ) → k < length xs → f (get_or xs k d) < bound) → largest (map f xs) < bound
largest_below f [] d bound some h = some
largest_below f (x ∷ xs) d bound some h =
    let first = h 0 (omega arith) in
    let ih = largest_below f xs d bound some (λ k within. h (suc k) (omega arith)) in
    omega arith

last_in : (P : TermInfo → Type 0) (first : TermInfo) (others : List TermInfo) → P first → ((k : ℕ) → k < length others → P (info_in others k)) → P (last_of first others)
last_in P first [] h each = h
last_in P first (i ∷ is) h each = last_in P i is (each 0 (omega arith)) (λ k within. each (suc k) (omega arith))

-- What is known of terms that are written.
record IsGood (i : TermInfo) : Type 0 where
  pub lengths : HasLengths i
  pub range : IsInRange i

good_at : (infos : List TermInfo) → AreStorable infos → (k : ℕ) → k < length infos → IsGood (info_in infos k)
good_at infos h k within = record { lengths = h.lengths k within; range = h.ranges k within }

sound : (i : TermInfo) → IsGood i → is_sound i ≡ true
sound i h =
    let lengths = h.lengths in
    let range = h.range in
    rw (
      le-leb i.postings_range.start i.postings_range.end lengths.postings,
      lt-ltb (postings_len i) (2 ^ 32) lengths.postings_short,
      lt-ltb i.postings_range.end (2 ^ 64) range.postings,
      le-leb i.positions_range.start i.positions_range.end lengths.positions,
      lt-ltb (positions_len i) (2 ^ 32) lengths.positions_short,
      lt-ltb i.positions_range.end (2 ^ 64) range.positions,
    ) refl

-- no term begins before an earlier one
rises : (infos : List TermInfo) → AreStorable infos → AreJoined infos → (i m : ℕ) → i + m < length infos
    → ((info_in infos i).postings_range.start ≤ (info_in infos (i + m)).postings_range.start) × ((info_in infos i).positions_range.start ≤ (info_in infos (i + m)).positions_range.start)
rises infos h j i zero within = let same : i + 0 ≡ i = omega arith in rw same (omega arith, omega arith)
rises infos h j i (suc m) within =
    let ih = rises infos h j i m (omega arith) in
    let next : i + suc m ≡ suc (i + m) = omega arith in
    let lengths = h.lengths (i + m) (omega arith) in
    let forward = lengths.postings in
    let forward_too = lengths.positions in
    let first = j.postings (i + m) (omega arith) in
    let second = j.positions (i + m) (omega arith) in
    let below = ih.0 in
    let below_too = ih.1 in
    rw next (omega arith, omega arith)

-- each term takes fewer than 2 ^ 32 bytes
spans : (infos : List TermInfo) → AreStorable infos → AreJoined infos → (i m : ℕ) → i + m < length infos
    → ((info_in infos (i + m)).postings_range.start ≤ (info_in infos i).postings_range.start + m * 4294967296)
    × ((info_in infos (i + m)).positions_range.start ≤ (info_in infos i).positions_range.start + m * 4294967296)
spans infos h j i zero within = let same : i + 0 ≡ i = omega arith in rw same (omega arith, omega arith)
spans infos h j i (suc m) within =
    let ih = spans infos h j i m (omega arith) in
    let next : i + suc m ≡ suc (i + m) = omega arith in
    let lengths = h.lengths (i + m) (omega arith) in
    let short = lengths.postings_short in
    let short_too = lengths.positions_short in
    let first = j.postings (i + m) (omega arith) in
    let second = j.positions (i + m) (omega arith) in
    let below = ih.0 in
    let below_too = ih.1 in
    rw next (omega arith, omega arith)

-- What is known of a term after another of its block.
record IsNear (first i : TermInfo) : Type 0 where
  pub lengths : HasLengths i
  pub count : i.doc_freq < 2 ^ 32
  pub postings : i.postings_range.end < first.postings_range.start + 2 ^ 56
  pub positions : i.positions_range.end < first.positions_range.start + 2 ^ 56

near_at : (infos : List TermInfo) → AreStorable infos → AreJoined infos → (i m : ℕ) → m < 256 → i + m < length infos → IsNear (info_in infos i) (info_in infos (i + m))
near_at infos h joined i m few within =
    let span = spans infos h joined i m within in
    let low = span.0 in
    let low_too = span.1 in
    let lengths = h.lengths (i + m) within in
    let short = lengths.postings_short in
    let short_too = lengths.positions_short in
    let range = h.ranges (i + m) within in
    let count = range.doc_freq in
    record { lengths = lengths; count = omega arith; postings = omega arith; positions = omega arith }

-- the terms of a block
abbrev others_of : List TermInfo → ℕ → List TermInfo
others_of infos b = drop 1 (terms_of_block infos b)

length-others : (infos : List TermInfo) (b : ℕ) → 256 * b < length infos → length (others_of infos b) ≡ block_terms (length infos) b - 1
length-others infos b h = omega (arith, length-drop 1 (terms_of_block infos b), length-take 256 (drop (256 * b) infos), length-drop (256 * b) infos)

other_is : (infos : List TermInfo) (b j : ℕ) → 256 * b < length infos → j < length (others_of infos b) → info_in (others_of infos b) j ≡ info_in infos (256 * b + suc j)
other_is infos b j h within =
    let size = length-others infos b h in
    let place : 256 * b + (1 + j) ≡ 256 * b + suc j = omega arith in
    get_or-drop 1 (terms_of_block infos b) j (term_info_from 0 0 0 0 0) ∙ get_or-take 256 (drop (256 * b) infos) (1 + j) (term_info_from 0 0 0 0 0) (omega arith)
    ∙ get_or-drop (256 * b) infos (1 + j) (term_info_from 0 0 0 0 0) ∙ ap (info_in infos) place

other_near : (infos : List TermInfo) → AreStorable infos → AreJoined infos → (b : ℕ) → 256 * b < length infos → (k : ℕ) → k < length (others_of infos b)
    → IsNear (info_in infos (256 * b)) (info_in (others_of infos b) k)
other_near infos h joined b start k within =
    let size = length-others infos b start in
    rw (other_is infos b k start within) (near_at infos h joined (256 * b) (suc k) (omega arith) (omega arith))

follows : (infos : List TermInfo) → AreStorable infos → AreJoined infos → (b : ℕ) → 256 * b < length infos → Follow (info_in infos (256 * b)) (others_of infos b)
follows infos h joined b start =
    let size = length-others infos b start in
    record {
      postings = λ j within.
          let here = other_is infos b j start (omega arith) in
          let next = other_is infos b (suc j) start within in
          let place : 256 * b + suc (suc j) ≡ suc (256 * b + suc j) = omega arith in
          rw (here, next, place) (joined.postings (256 * b + suc j) (omega arith));
      positions = λ j within.
          let here = other_is infos b j start (omega arith) in
          let next = other_is infos b (suc j) start within in
          let place : 256 * b + suc (suc j) ≡ suc (256 * b + suc j) = omega arith in
          rw (here, next, place) (joined.positions (256 * b + suc j) (omega arith));
      postings_above = λ j within. rw (other_is infos b j start within) (rises infos h joined (256 * b) (suc j) (omega arith)).0;
      positions_above = λ j within. rw (other_is infos b j start within) (rises infos h joined (256 * b) (suc j) (omega arith)).1;
      lengths = λ j within. let near = other_near infos h joined b start j within in near.lengths;
    }

-- What the meta of a block has: its first term, widths that fit, and where its bits begin.
record IsMetaOf (infos : List TermInfo) (b : ℕ) (m : Meta) : Type 0 where
  pub offset : m.offset ≡ offset_of infos b
  pub first : m.ref_term_info ≡ info_in infos (256 * b)
  pub doc_freq : m.doc_freq_nbits ≤ 32
  pub postings : m.postings_offset_nbits ≤ 56
  pub positions : m.positions_offset_nbits ≤ 56
  pub fits : FitsBlock m (others_of infos b)
  pub bits : bits_of_block infos b ≡ bits_bytes (block_row m (others_of infos b))

-- What holds for the largest numbers of a block.
record AreLow (first : TermInfo) (others : List TermInfo) : Type 0 where
  pub doc_freq : largest (map (λ (i : TermInfo). i.doc_freq) others) < 2 ^ 32
  pub postings : max (largest (map (postings_after first) others)) (postings_end first others) < 2 ^ 56
  pub positions : max (largest (map (positions_after first) others)) (positions_end first others) < 2 ^ 56

are_low : (first : TermInfo) (others : List TermInfo) → IsNear first first → ((k : ℕ) → k < length others → IsNear first (info_in others k)) → AreLow first others
are_low first others itself each =
    let last = last_in (IsNear first) first others itself each in
    let last_low = last.postings in
    let last_low_too = last.positions in
    let starts = largest_below (postings_after first) others (term_info_from 0 0 0 0 0) (2 ^ 56) (omega arith)
    (λ k within.
    let known = each k within in
    let lengths = known.lengths in
    let forward = lengths.postings in
    let low = known.postings in
    omega arith) in
    let starts_too = largest_below (positions_after first) others (term_info_from 0 0 0 0 0) (2 ^ 56) (omega arith)
    (λ k within.
    let known = each k within in
    let lengths = known.lengths in
    let forward = lengths.positions in
    let low = known.positions in
    omega arith) in
    record {
      doc_freq = largest_below (λ (i : TermInfo). i.doc_freq) others (term_info_from 0 0 0 0 0) (2 ^ 32) (omega arith) (λ k within. let known = each k within in known.count);
      postings = omega arith;
      positions = omega arith;
    }

meta_is : (widths : HoldsFromLeastWidth) (infos : List TermInfo) (b : ℕ) → AreLow (first_of (terms_of_block infos b)) (others_of infos b) → IsMetaOf infos b (meta_at_block infos b)
unfolding meta_at_block meta_for bits_of_block
meta_is widths infos b low =
    let a = low.doc_freq in
    let p = low.postings in
    let q = low.positions in
    let first = first_of (terms_of_block infos b) in
    let counts = largest (map (λ (i : TermInfo). i.doc_freq) (others_of infos b)) in
    let starts = max (largest (map (postings_after (first_of (terms_of_block infos b))) (others_of infos b))) (postings_end (first_of (terms_of_block infos b)) (others_of infos b)) in
    let starts_too = max (largest (map (positions_after (first_of (terms_of_block infos b))) (others_of infos b))) (positions_end (first_of (terms_of_block infos b)) (others_of infos b)) in
    record {
      offset = refl;
      first = first_is infos b;
      doc_freq = bits_few widths counts 32 (omega arith) a;
      postings = bits_few widths starts 56 (omega arith) p;
      positions = bits_few widths starts_too 56 (omega arith) q;
      fits = record { doc_freq = bits_fit widths counts (omega arith); postings = bits_fit widths starts (omega arith); positions = bits_fit widths starts_too (omega arith) };
      bits = refl;
    }

-- The metas and bits of a store: those of block b, and what follows.
abbrev metas_and : List TermInfo → List ℕ → List ℕ
metas_and infos bits = metas_bytes infos (block_count (length infos)) ++ bits

abbrev bits_and : List TermInfo → List ℕ → List ℕ
bits_and infos rest = blocks_bytes infos (block_count (length infos)) ++ rest

first_good : (infos : List TermInfo) → AreStorable infos → (b : ℕ) → 256 * b < length infos → IsGood (first_of (terms_of_block infos b))
first_good infos h b start = rw (first_is infos b) (good_at infos h (256 * b) start)

meta_known : (widths : HoldsFromLeastWidth) (infos : List TermInfo) → AreStorable infos → AreJoined infos → (b : ℕ) → 256 * b < length infos → IsMetaOf infos b (meta_at_block infos b)
meta_known widths infos h joined b start =
    let place : 256 * b + 0 ≡ 256 * b = omega arith in
    let itself = rw place at (near_at infos h joined (256 * b) 0 (omega arith) (omega arith)) in
    let low = are_low (info_in infos (256 * b)) (others_of infos b) itself (other_near infos h joined b start) in
    meta_is widths infos b (rw (first_is infos b) low)

-- Where the bits of block b begin.
offset_small : (infos : List TermInfo) → AreStorable infos → (b : ℕ) → 256 * b < length infos → offset_of infos b < 256 ^ 8
offset_small infos h b start =
    let place = length-flat_map (bits_of_block infos) (range_with_len 0 b) in
    let full : b + (length infos / 256 - b) ≡ length infos / 256 = omega arith in
    let low = rw full at (pieces_le (bits_of_block infos) b (length infos / 256 - b)) in
    let bits = h.bits in
    omega arith

-- the meta of block b is read back
meta_read : (widths : HoldsFromLeastWidth) (infos : List TermInfo) (bits : List ℕ) → AreStorable infos → AreJoined infos → (b : ℕ) → b < block_count (length infos)
    → block_meta_at (metas_and infos bits) b ≡ Some (meta_at_block infos b)
unfolding block_meta_at
meta_read widths infos bits h joined b within =
    let start : 256 * b < length infos = omega arith in
    let known = meta_known widths infos h joined b start in
    let place : 39 * b ≡ length (metas_bytes infos b) =
    (let swapped : 39 * b ≡ b * 39 = omega arith in swapped ∙ sym (length-pieces (λ b. meta_bytes (meta_at_block infos b)) 39 b (λ k. length_meta_bytes (meta_at_block infos k)))) in
    let piece = piece_at (λ b. meta_bytes (meta_at_block infos b)) (block_count (length infos)) b (39 * b) bits within place in
    let good = first_good infos h b start in
    let same : (meta_at_block infos b).ref_term_info ≡ first_of (terms_of_block infos b) = known.first ∙ sym (first_is infos b) in
    let offset = known.offset in
    let small = offset_small infos h b start in
    let back = reads_meta_back (meta_at_block infos b) piece.0 (omega arith) (rw same good.range) (rw same good.lengths) in
    rw (piece.1, back) refl

-- a term of block b is read back
term_read : (law : ReadsFromItsPlace) (infos : List TermInfo) (rest : List ℕ) → AreStorable infos → AreJoined infos → (b : ℕ) (m : Meta) → 256 * b < length infos → IsMetaOf infos b m
    → (k : ℕ) → k < block_terms (length infos) b → block_info m (bits_and infos rest) k ≡ info_in infos (256 * b + k)
term_read law infos rest h joined b m start known zero within =
    let place : 256 * b + 0 ≡ 256 * b = omega arith in
    rw place known.first
term_read law infos rest h joined b m start known (suc j) within =
    let size = length-others infos b start in
    let there : j < length (others_of infos b) = omega arith in
    let later : eqb (suc j) 0 ≡ false = ne_eqb (suc j) 0 (λ e. absurd (omega arith)) in
    let place : m.offset ≡ length (blocks_bytes infos b) = known.offset ∙ sym (length-flat_map (bits_of_block infos) (range_with_len 0 b)) in
    let piece = piece_at (bits_of_block infos) (block_count (length infos)) b m.offset rest (omega arith) place in
    let seen = piece.1 ∙ ap (λ (xs : List ℕ). xs ++ piece.0) known.bits in
    let follow : Follow m.ref_term_info (others_of infos b) = rw known.first (follows infos h joined b start) in
    let read = later_is law m (others_of infos b) (bits_and infos rest) piece.0 j there seen (terms_fit m (others_of infos b) known.fits) (ends_fit m (others_of infos b) known.fits) follow in
    rw later (read ∙ other_is infos b j start there)

-- block b is valid
block_read : (law : ReadsFromItsPlace) (infos : List TermInfo) (rest : List ℕ) → AreStorable infos → AreJoined infos → (b : ℕ) (m : Meta) → 256 * b < length infos → IsMetaOf infos b m
    → is_block m (block_terms (length infos) b) (bits_and infos rest) ≡ true
unfolding is_block
block_read law infos rest h joined b m start known =
    let terms = block_terms (length infos) b in
    let d = known.doc_freq in
    let p = known.postings in
    let q = known.positions in
    let size = length-others infos b start in
    let place : m.offset ≡ length (blocks_bytes infos b) = known.offset ∙ sym (length-flat_map (bits_of_block infos) (range_with_len 0 b)) in
    let piece = piece_at (bits_of_block infos) (block_count (length infos)) b m.offset rest (omega arith) place in
    let whole = piece.2 in
    let bytes = ap length known.bits ∙ length-bits_bytes (block_row m (others_of infos b)) in
    let row = length-block_row m (others_of infos b) ∙ ap (λ (n : ℕ). n * term_bits m + m.postings_offset_nbits + m.positions_offset_nbits) size in
    let lie = le-leb (8 * m.offset + block_bits m (block_terms (length infos) b)) (8 * length (bits_and infos rest)) (omega arith) in
    let all = all_pass (λ k. is_sound (block_info m (bits_and infos rest) k)) (block_terms (length infos) b)
    (λ k within. rw (term_read law infos rest h joined b m start known k within) (sound (info_in infos (256 * b + k)) (good_at infos h (256 * b + k) (omega arith)))) in
    rw (
      le-leb m.doc_freq_nbits 32 d,
      le-leb m.postings_offset_nbits 56 p,
      le-leb m.positions_offset_nbits 56 q,
      lie,
      or-true (nat_le (block_terms (length infos) b) 1 || eqb (block_bits m (block_terms (length infos) b)) 0),
      all,
    ) refl

parts_read : (infos : List TermInfo) (rest : List ℕ) → AreStorable infos
    → store_parts (written_store infos ++ rest) ≡ Some (length infos, metas_and infos (bits_and infos rest), bits_and infos rest)
unfolding store_parts written_store
parts_read infos rest h =
    let few = h.few in
    let n = length infos in
    let blocks = block_count (length infos) in
    let metas = metas_bytes infos (block_count (length infos)) in
    let size : length (metas_bytes infos (block_count (length infos))) ≡ 39 * block_count (length infos) =
    (let swapped : block_count (length infos) * 39 ≡ 39 * block_count (length infos) = omega arith in
    length-pieces (λ b. meta_bytes (meta_at_block infos b)) 39 (block_count (length infos)) (λ k. length_meta_bytes (meta_at_block infos k)) ∙ swapped) in
    let shape = append_assoc-five (le_bytes 8 (39 * block_count (length infos))) (le_bytes 8 (length infos)) (metas_bytes infos (block_count (length infos))) (blocks_bytes infos (block_count (length infos))) rest in
    let first = reads_what_is_written 8 (39 * block_count (length infos)) (le_bytes 8 (length infos) ++ metas_and infos (bits_and infos rest)) (omega arith) in
    let second = reads_what_is_written 8 (length infos) (metas_and infos (bits_and infos rest)) (omega arith) in
    let same = eq-eqb (39 * block_count (length infos)) (39 * block_count (length infos)) refl in
    let there = le-leb (39 * block_count (length infos)) (length (metas_and infos (bits_and infos rest)))
    (omega (arith, length-append (metas_bytes infos (block_count (length infos))) (bits_and infos rest))) in
    let after = drop_at (metas_bytes infos (block_count (length infos))) (bits_and infos rest) (39 * block_count (length infos)) size in
    rw (shape, first, second, same, there, after) refl

-- The law of a store.
pub reads_store_back : ReadsFromItsPlace → HoldsFromLeastWidth → ReadsStoreBack
unfolding term_store term_info_at
reads_store_back law widths infos rest h joined =
    let metas = metas_and infos (bits_and infos rest) in
    let bits = bits_and infos rest in
    let stand : are_blocks (length infos) (metas_and infos (bits_and infos rest)) (bits_and infos rest) ≡ true =
    all_pass (has_block (metas_and infos (bits_and infos rest)) (bits_and infos rest) (length infos)) (block_count (length infos))
    (λ b within.
    let start : 256 * b < length infos = omega arith in
    rw (meta_read widths infos (bits_and infos rest) h joined b within) (block_read law infos rest h joined b (meta_at_block infos b) start (meta_known widths infos h joined b start))) in
    let each : infos ≡ map (term_info_at (metas_and infos (bits_and infos rest)) (bits_and infos rest)) (range_with_len 0 (length infos)) =
    fill_by_all (term_info_at (metas_and infos (bits_and infos rest)) (bits_and infos rest)) infos (length infos) (term_info_from 0 0 0 0 0) refl
    (λ i within.
    let start : 256 * (i / 256) < length infos = omega arith in
    let place : 256 * (i / 256) + i % 256 ≡ i = omega arith in
    rw (meta_read widths infos (bits_and infos rest) h joined (i / 256) (omega arith))
    (sym (term_read law infos rest h joined (i / 256) (meta_at_block infos (i / 256)) start (meta_known widths infos h joined (i / 256) start) (i % 256) (omega arith) ∙ ap (info_in infos) place))) in
    rw (parts_read infos rest h, stand) (ap (λ (is : List TermInfo). Some is) (sym each))
