-- Length parts of the norms.
use Rattle.std.proofs.Common.{◌≡◌, ⊎_elim, ℕ, ◌+◌, ◌*◌, ◌/◌, ◌^◌, ◌<◌, ◌≤◌, get_or, ap, arith}
use Rattle.std.specs.Prelude.{max}
use Rattle.std.proofs.lemmas.Bool.{cases_lt}
use Rattle.std.proofs.lemmas.List.{get_or_past}
use Rattle.std.proofs.lemmas.List.FromFn.{get_or-map-range_with_len, length-map-range_with_len}
use Rattle.std.proofs.lemmas.Nat.{le-div, mul-le}
use Rattle.std.proofs.Math.Nat.{eq-or-lt_of_le}
use Rattle.ii_fieldnorm.specs.Norms.{norm_of_id}
use Rattle.ii_fieldnorm.proofs.NormLemmas.{norm_of_id-lt}
use Rattle.ii_bm25.specs.Bm25.{Bm25State, bm25_score, share}
use Rattle.ii_bm25.specs.Lengths.{AreLengths, length_part, lengths_from}
use Rattle.ii_bm25.proofs.ScoreLemmas.{div_rises, rises_and_falls, share_below}

norms_rise : (id longer : ℕ) → id ≤ longer → longer < 256 → norm_of_id id ≤ norm_of_id longer
norms_rise id longer order within = ⊎_elim
    (λ same. let e = ap norm_of_id same in omega (arith, e))
    (λ less. let lt = norm_of_id-lt id longer less within in omega arith)
    (eq-or-lt_of_le order)

least : (t more : ℕ) → 0 < t → 0 < (3 * t + more) * 2 ^ 20 / (10 * t)
least t more some = le-div 1 ((3 * t + more) * 2 ^ 20) (10 * t) (omega arith) (omega arith)

pub part_some : (norm tokens docs : ℕ) → 0 < length_part norm tokens docs
part_some norm tokens docs = let some = least (max 1 tokens) (9 * norm * docs) (omega arith) in omega (arith, some)

pub part_few : (norm tokens docs : ℕ) → length_part norm tokens docs < 2 ^ 36
part_few norm tokens docs = omega arith

longer_top : (t n m docs : ℕ) → n ≤ m → (3 * t + 9 * n * docs) * 2 ^ 20 ≤ (3 * t + 9 * m * docs) * 2 ^ 20
longer_top t n m docs order = let more = mul-le (9 * n) docs (9 * m) docs (omega arith) (omega arith) in omega (arith, more)

pub part_rises : (n m tokens docs : ℕ) → n ≤ m → length_part n tokens docs ≤ length_part m tokens docs
part_rises n m tokens docs order =
    let more = div_rises ((3 * max 1 tokens + 9 * n * docs) * 2 ^ 20) ((3 * max 1 tokens + 9 * m * docs) * 2 ^ 20) (10 * max 1 tokens) (omega arith) (longer_top (max 1 tokens) n m docs order) in
    omega (arith, more)

module _ (tokens docs : ℕ) where
  abbrev part : ℕ → ℕ
  part id = length_part (norm_of_id id) tokens docs

  at_id : (id : ℕ) → id < 256 → get_or (lengths_from 256 tokens docs) id 1 ≡ part id
  at_id id within = get_or-map-range_with_len (λ (k : ℕ). length_part (norm_of_id k) tokens docs) 0 256 id id 1 within (omega arith)

  pub are_lengths : AreLengths (lengths_from 256 tokens docs)
  are_lengths = record {
    all = length-map-range_with_len (λ (k : ℕ). length_part (norm_of_id k) tokens docs) 0 256;
    some = λ id. ⊎_elim
        (λ within. let e = at_id id within in let s = part_some (norm_of_id id) tokens docs in omega arith)
        (λ past. let e = get_or_past (lengths_from 256 tokens docs) id 1 (omega (arith, past, length-map-range_with_len (λ (k : ℕ). length_part (norm_of_id k) tokens docs) 0 256)) in omega arith)
        (cases_lt id 256);
    few = λ id within. let e = at_id id within in let f = part_few (norm_of_id id) tokens docs in omega arith;
    rise = λ id longer order within.
        let e = at_id id (omega arith) in
        let f = at_id longer within in
        let r = part_rises (norm_of_id id) (norm_of_id longer) tokens docs (norms_rise id longer order within) in
        omega arith;
  }

-- a score is below its weight's greatest share, and below that of a block

module _ (w : Bm25State) (lengths : AreLengths w.lengths) where
  weighed_below : (weight part : ℕ) → part < 2 ^ 28 → weight * part / 2 ^ 12 ≤ weight * 2 ^ 16
  weighed_below weight part below =
      let more = mul-le weight part weight (2 ^ 28) (omega arith) (omega arith) in
      let up = div_rises (weight * part) (weight * 2 ^ 28) (2 ^ 12) (omega arith) more in
      let whole : weight * 2 ^ 28 / 2 ^ 12 ≡ weight * 2 ^ 16 = omega arith in
      omega arith

  pub never_above : (id count : ℕ) → bm25_score w id count ≤ w.weight * 2 ^ 16
  never_above id count = weighed_below w.weight (share count (get_or w.lengths id 1)) (share_below count (get_or w.lengths id 1) (lengths.some id))

  pub block_bounds : (least id count most : ℕ) → least ≤ id → id < 256 → count ≤ most → bm25_score w id count ≤ bm25_score w least most
  block_bounds least id count most low within few =
      rises_and_falls.bounds w.weight count most (get_or w.lengths least 1) (get_or w.lengths id 1) (lengths.some least) few (lengths.rise least id low within)
