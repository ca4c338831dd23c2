-- Documents in blocks.
use Rattle.std.proofs.Common.{◌≡◌, ℕ, zero, suc, ◌+◌, ◌*◌, ◌<◌, ◌≤◌, true, List, [], ◌∷◌, ◌++◌, length, take, drop, get_or, nat_le, nat_lt, refl, ap, ◌∙◌, arith}
use Rattle.std.proofs.lemmas.Bool.{ltb-true, leb-true}
use Rattle.std.proofs.lemmas.List.{get_or-take, get_or-drop, get_or_append_left, drop-append-le, take-append-le, length-take-le, length-drop}
use Rattle.ii_base.specs.declared.doc_id.TheConstants.{TERMINATED}
use Rattle.ii_base.specs.Entries.{ascend_from, are_documents}
use Rattle.ii_base.proofs.AscentLemmas.{and_parts}
use Rattle.ii_codes.proofs.SortedVintLemmas.{falls_by}
use Rattle.ii_codes.specs.Sums.{DoNotFall}
use Rattle.ii_layout.specs.Written.{block_of, last_before}
use Rattle.ii_layout.specs.PostingsSerializer.{IsFullBlock}

ascend_parts : (least d : ℕ) (ds : List ℕ) → ascend_from least (d ∷ ds) ≡ true → (least ≤ d) × (d < TERMINATED) × (ascend_from (d + 1) ds ≡ true)
ascend_parts least d ds h =
    let parts = and_parts (nat_le least d) (nat_lt d TERMINATED) (ascend_from (d + 1) ds) h in
    (leb-true least d parts.0, ltb-true d TERMINATED parts.1, parts.2)

ascend_low : (least : ℕ) (docs : List ℕ) (k : ℕ) → ascend_from least docs ≡ true → k < length docs → get_or docs k 0 < TERMINATED
ascend_low least [] k h within = absurd (omega arith)
ascend_low least (d ∷ ds) zero h within = (ascend_parts least d ds h).1
ascend_low least (d ∷ ds) (suc k) h within = ascend_low (d + 1) ds k (ascend_parts least d ds h).2 (omega arith)

ascend_more : (least : ℕ) (docs : List ℕ) (k : ℕ) → ascend_from least docs ≡ true → suc k < length docs → get_or docs k 0 < get_or docs (suc k) 0
ascend_more least [] k h within = absurd (omega arith)
ascend_more least (d ∷ []) k h within = absurd (omega arith)
ascend_more least (d ∷ e ∷ ds) zero h within =
    let above = (ascend_parts (d + 1) e ds (ascend_parts least d (e ∷ ds) h).2).0 in
    omega arith
ascend_more least (d ∷ e ∷ ds) (suc k) h within = ascend_more (d + 1) (e ∷ ds) k (ascend_parts least d (e ∷ ds) h).2 (omega arith)

-- each document is below the end, and below the next one
pub document_low : (docs : List ℕ) (k : ℕ) → are_documents docs ≡ true → k < length docs → get_or docs k 0 < TERMINATED
document_low docs k h within = ascend_low 0 docs k h within

pub document_more : (docs : List ℕ) (j k : ℕ) → k ≡ j + 1 → are_documents docs ≡ true → k < length docs → get_or docs j 0 < get_or docs k 0
document_more docs j k e h within =
    let next : k ≡ suc j = omega arith in
    rw next (ascend_more 0 docs j h (omega arith))

-- the last document before a block is below each one of it
last_below : (docs : List ℕ) (i : ℕ) → are_documents docs ≡ true → 128 * i < length docs → 0 < last_before docs i → last_before docs i < get_or docs (128 * i) 0
last_below docs zero h within some = absurd (omega arith)
last_below docs (suc i) h within some = document_more docs (128 * i + 127) (128 * suc i) (omega arith) h within

pub get_or-block_of : (docs : List ℕ) (i k : ℕ) → k < 128 → get_or (block_of docs i) k 0 ≡ get_or docs (128 * i + k) 0
get_or-block_of docs i k h = get_or-take 128 (drop (128 * i) docs) k 0 h ∙ get_or-drop (128 * i) docs k 0

pub length-block_of : (docs : List ℕ) (i : ℕ) → 128 * i + 128 ≤ length docs → length (block_of docs i) ≡ 128
length-block_of docs i whole = length-take-le 128 (drop (128 * i) docs) (omega (arith, length-drop (128 * i) docs))

-- a block of documents may be packed
pub full_block : (docs : List ℕ) (i : ℕ) → are_documents docs ≡ true → 128 * i + 128 ≤ length docs → IsFullBlock (last_before docs i) (block_of docs i)
full_block docs i h whole =
    let many = length-block_of docs i whole in
    record {
      many = many;
      ascending = λ k within.
          let here = get_or-block_of docs i k (omega arith) in
          let next = get_or-block_of docs i (k + 1) (omega arith) in
          let more = document_more docs (128 * i + k) (128 * i + (k + 1)) (omega arith) h (omega arith) in
          omega arith;
      after = λ some.
          let here = get_or-block_of docs i 0 (omega arith) in
          let first : 128 * i + 0 ≡ 128 * i = omega arith in
          let below = last_below docs i h (omega arith) some in
          rw (here, first) below;
      low = λ k within.
          let here = get_or-block_of docs i k within in
          let below = document_low docs (128 * i + k) h (omega arith) in
          omega arith;
    }

before_next : (docs : List ℕ) (i : ℕ) → are_documents docs ≡ true → 128 * i < length docs → last_before docs i ≤ get_or docs (128 * i) 0
before_next docs zero h within = omega arith
before_next docs (suc i) h within = let more = document_more docs (128 * i + 127) (128 * suc i) (omega arith) h within in omega arith

-- the documents after the first i blocks don't descend
pub rest_falls : (docs : List ℕ) (i : ℕ) → are_documents docs ≡ true → DoNotFall (last_before docs i) (drop (128 * i) docs)
rest_falls docs i h =
    let size = length-drop (128 * i) docs in
    falls_by (last_before docs i) (drop (128 * i) docs)
    (λ some.
    let here = get_or-drop (128 * i) docs 0 0 in
    let first : 128 * i + 0 ≡ 128 * i = omega arith in
    rw (here, first) (before_next docs i h (omega arith)))
    (λ k within.
    let here = get_or-drop (128 * i) docs k 0 in
    let next = get_or-drop (128 * i) docs (suc k) 0 in
    let more = document_more docs (128 * i + k) (128 * i + suc k) (omega arith) h (omega arith) in
    omega arith)

-- documents after leave blocks as they are
pub block_of-append : (docs more : List ℕ) (i : ℕ) → 128 * i + 128 ≤ length docs → block_of (docs ++ more) i ≡ block_of docs i
block_of-append docs more i whole =
    ap (λ (xs : List ℕ). take 128 xs) (drop-append-le (128 * i) docs more (omega arith))
    ∙ take-append-le 128 (drop (128 * i) docs) more (omega (arith, length-drop (128 * i) docs))

pub last_before-append : (docs more : List ℕ) (i : ℕ) → 128 * i ≤ length docs → last_before (docs ++ more) i ≡ last_before docs i
last_before-append docs more zero whole = refl
last_before-append docs more (suc i) whole = get_or_append_left docs more 0 (128 * i + 127) (omega arith)
