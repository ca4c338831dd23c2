-- The meta of a block, read of its own bytes.
use Rattle.std.proofs.Common.{◌≡◌, ◌∙◌, ℕ, ◌+◌, ◌≤◌, Bool, true, false, List, None, Option, Some, drop, length, take, refl, sym, ap, arith}
use Rattle.std.specs.Prelude.{IsSome}
use Rattle.std.specs.Option.{option_map}
use Rattle.std.proofs.lemmas.Bool.{le-leb}
use Rattle.std.proofs.lemmas.List.{drop-take, length-drop, length-take-le, take-take}
use Rattle.ii_io.specs.Numbers.{little_endian, number_at}
use Rattle.ii_io.specs.Steps.{◌>>=◌, needs}
use Rattle.ii_termstore.specs.declared.term_info.TermInfo.{TermInfo}
use Rattle.ii_termstore.specs.declared.term_info_store.block_meta.TermInfoBlockMeta.{TermInfoBlockMeta as Meta}
use Rattle.ii_termstore.specs.TermInfos.{info_at}
use Rattle.ii_termstore.specs.TermStore.{meta_at}

-- a number at the front of enough bytes
pub number_whole : (k : ℕ) (bs : List ℕ) → k ≤ length bs → number_at k bs ≡ Some (little_endian (take k bs), drop k bs)
unfolding number_at
number_whole k bs h = rw (le-leb k (length bs) h) refl

-- a number at the front of the first bytes
pub number_front : (k m : ℕ) (bs : List ℕ) → k + m ≤ length bs → number_at k (take (k + m) bs) ≡ Some (little_endian (take k bs), take m (drop k bs))
number_front k m bs h =
    let size = length-take-le (k + m) bs h in
    let enough : k ≤ length (take (k + m) bs) = omega (arith, size, h) in
    number_whole k (take (k + m) bs) enough ∙ rw (take-take k (k + m) bs (omega arith), drop-take k m bs) refl

-- the widths after the first term
widths_front : (a b : Bool) (offset : ℕ) (first : TermInfo) (bs : List ℕ) → 3 ≤ length bs
    → option_map (λ (f : Meta × List ℕ). f.0) ((needs a >>= λ _. needs b >>= λ _. Some (first, take 3 bs)) >>= λ (i : TermInfo × List ℕ). number_at 1 i.1 >>= λ d. number_at 1 d.1 >>= λ p. number_at 1 p.1 >>= λ q. Some (record { offset = offset; ref_term_info = i.0; doc_freq_nbits = d.0; postings_offset_nbits = p.0; positions_offset_nbits = q.0 }, q.1))
    ≡ option_map (λ (f : Meta × List ℕ). f.0) ((needs a >>= λ _. needs b >>= λ _. Some (first, bs)) >>= λ (i : TermInfo × List ℕ). number_at 1 i.1 >>= λ d. number_at 1 d.1 >>= λ p. number_at 1 p.1 >>= λ q. Some (record { offset = offset; ref_term_info = i.0; doc_freq_nbits = d.0; postings_offset_nbits = p.0; positions_offset_nbits = q.0 }, q.1))
widths_front true true offset first bs h =
    let one = length-drop 1 bs in
    let two = length-drop 1 (drop 1 bs) in
    rw (number_front 1 2 bs h, number_front 1 1 (drop 1 bs) (omega (arith, h, one)), number_front 1 0 (drop 1 (drop 1 bs)) (omega (arith, h, one, two)), number_whole 1 bs (omega (arith, h)), number_whole 1 (drop 1 bs) (omega (arith, h, one)), number_whole 1 (drop 1 (drop 1 bs)) (omega (arith, h, one, two))) refl
widths_front true false offset first bs h = refl
widths_front false b offset first bs h = refl

-- the meta in the first 39 bytes
pub meta_front : (bs : List ℕ) → 39 ≤ length bs → option_map (λ (f : Meta × List ℕ). f.0) (meta_at (take 39 bs)) ≡ option_map (λ (f : Meta × List ℕ). f.0) (meta_at bs)
unfolding meta_at info_at
meta_front bs h =
    let bs1 = drop 8 bs in
    let bs2 = drop 4 bs1 in
    let bs3 = drop 8 bs2 in
    let bs4 = drop 4 bs3 in
    let bs5 = drop 8 bs4 in
    let l1 = length-drop 8 bs in
    let l2 = length-drop 4 bs1 in
    let l3 = length-drop 8 bs2 in
    let l4 = length-drop 4 bs3 in
    let l5 = length-drop 8 bs4 in
    let l6 = length-drop 4 bs5 in
    let f0 = number_front 8 31 bs h in
    let f1 = number_front 4 27 bs1 (omega (arith, h, l1)) in
    let f2 = number_front 8 19 bs2 (omega (arith, h, l1, l2)) in
    let f3 = number_front 4 15 bs3 (omega (arith, h, l1, l2, l3)) in
    let f4 = number_front 8 7 bs4 (omega (arith, h, l1, l2, l3, l4)) in
    let f5 = number_front 4 3 bs5 (omega (arith, h, l1, l2, l3, l4, l5)) in
    let w0 = number_whole 8 bs (omega (arith, h)) in
    let w1 = number_whole 4 bs1 (omega (arith, h, l1)) in
    let w2 = number_whole 8 bs2 (omega (arith, h, l1, l2)) in
    let w3 = number_whole 4 bs3 (omega (arith, h, l1, l2, l3)) in
    let w4 = number_whole 8 bs4 (omega (arith, h, l1, l2, l3, l4)) in
    let w5 = number_whole 4 bs5 (omega (arith, h, l1, l2, l3, l4, l5)) in
    rw (f0, f1, f2, f3, f4, f5, w0, w1, w2, w3, w4, w5) (widths_front _ _ _ _ (drop 4 bs5) (omega (arith, h, l1, l2, l3, l4, l5, l6)))

-- a meta that is read of its own bytes
pub meta_read : (read bs rest : List ℕ) (m : Meta) → 39 ≤ length bs → read ≡ take 39 bs → Some (m, rest) ≡ meta_at read → option_map (λ (f : Meta × List ℕ). f.0) (meta_at bs) ≡ Some m
meta_read read bs rest m long is found =
    sym (meta_front bs long) ∙ ap (λ (xs : List ℕ). option_map (λ (f : Meta × List ℕ). f.0) (meta_at xs)) (sym is) ∙ ap (option_map (λ (f : Meta × List ℕ). f.0)) (sym found)

pub meta_missing : (read bs : List ℕ) → 39 ≤ length bs → read ≡ take 39 bs → None ≡ meta_at read → IsSome (meta_at bs) → ⊥
meta_missing read bs long is none there =
    by (meta_at bs) there (ap (option_map (λ (f : Meta × List ℕ). f.0)) none ∙ ap (λ (xs : List ℕ). option_map (λ (f : Meta × List ℕ). f.0) (meta_at xs)) is ∙ meta_front bs long)
  where
    by : (o : Option (Meta × List ℕ)) → IsSome o → None ≡ option_map (λ (f : Meta × List ℕ). f.0) o → ⊥
    by None there same = absurd (cc)
    by (Some f) there same = cc
