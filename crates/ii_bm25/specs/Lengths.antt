-- The length part of a score, for each field norm.
use Rattle.std.specs.Prelude.{◌≡◌, ℕ, ◌+◌, ◌-◌, ◌*◌, ◌/◌, ◌^◌, ◌<◌, ◌≤◌, List, get_or, length, map, max, min}
use Rattle.std.specs.List.{range_with_len}
use Rattle.ii_fieldnorm.specs.Norms.{norm_of_id}

-- k1 * (1 - b + b * dl / avgdl), in 2^-20, by a norm, the tokens of the field and the documents
abbrev pub length_part : ℕ → ℕ → ℕ → ℕ
length_part fieldnorm num_tokens num_docs = min (2 ^ 36 - 1) ((3 * max 1 num_tokens + 9 * fieldnorm * num_docs) * 2 ^ 20 / (10 * max 1 num_tokens))

-- the length parts of the norms of the first ids
abbrev pub lengths_from : ℕ → ℕ → ℕ → List ℕ
lengths_from ids num_tokens num_docs = map (λ (id : ℕ). length_part (norm_of_id id) num_tokens num_docs) (range_with_len 0 ids)

-- These are length parts of all norms: they never fall.
pub record AreLengths (lengths : List ℕ) : Type 0 where
  pub all : length lengths ≡ 256
  pub some : (id : ℕ) → 0 < get_or lengths id 1
  pub few : (id : ℕ) → id < 256 → get_or lengths id 1 < 2 ^ 36
  pub rise : (id longer : ℕ) → id ≤ longer → longer < 256 → get_or lengths id 1 ≤ get_or lengths longer 1
