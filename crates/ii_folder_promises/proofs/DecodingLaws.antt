-- Which blocks a search decodes, in plain numbers.
use Rattle.std.proofs.Common.{◌≡◌, ◌⊎◌, inl, inr, ℕ, ◌+◌, ◌<◌, ◌≤◌, ◌/◌, List, [], ◌∷◌, Option, arith, length, subst, sym, true}
use Rattle.std.specs.List.{AllByRecursion, AllZip, Contains}
use Rattle.std.proofs.lemmas.List.Elements.{All-contains, All-from_recursion, Contains-append_cases}
use Rattle.std.proofs.lemmas.List.{length-append}
use Rattle.ii_check.specs.DecodedBlocks.{AscendWithin, DecodesAllowed, DecodesLater}
use Rattle.ii_scorer.specs.BlockLists.{BlockList, HasFirstFrom, ReadsOnly, num_below}
use Rattle.ii_scorer.specs.BestDocs.{IsNeeded, Numbering, NumbersComeAfter}
use Rattle.ii_scorer.specs.Scorers.{ScorerState, doc_bound, score_of}
use Rattle.ii_scorer.specs.TopDocs.{scored_docs}
use Rattle.ii_scorer.specs.TopNComputer.{num_reaching}

-- as many blocks as there is room for
ascend_few : (first last : ℕ) (blocks : List ℕ) → first ≤ last + 1 → AscendWithin first last blocks → length blocks + first ≤ last + 1
ascend_few first last [] low up = omega (arith, low)
ascend_few first last (b ∷ bs) low up =
    let above = up.0 in
    let within = up.1 in
    let later = ascend_few (b + 1) last bs (omega (arith, within)) up.2 in
    omega (arith, above, later)

few_more : (old new : ℕ) (before after : List ℕ) → old ≤ new → DecodesLater old new before after → length after + old ≤ length before + new
few_more old new before after forward d =
    let few = ascend_few (old + 1) new d.added (omega (arith, forward)) d.ascend in
    let many : length after ≡ length before + length d.added = subst (λ (bs : List ℕ). length bs ≡ length before + length d.added) (sym d.are) (length-append before d.added) in
    omega (arith, few, many)

pub once : (P : ℕ → Type 0) (olds news : List BlockList) → ReadsOnly P olds news
    → AllZip (λ (old new : BlockList). (length new.doc_blocks + old.block ≤ length old.doc_blocks + new.block) × (length new.freq_blocks + old.block ≤ length old.freq_blocks + new.block)) olds news
once P [] [] reads = tt
once P [] (b ∷ ys) reads = elim reads [ ]
once P (a ∷ xs) [] reads = elim reads [ ]
once P (a ∷ xs) (b ∷ ys) reads = ((few_more a.block b.block a.doc_blocks b.doc_blocks reads.0.forward reads.0.doc_blocks.later, few_more a.block b.block a.freq_blocks b.freq_blocks reads.0.forward reads.0.freq_blocks.later), once P xs ys reads.1)

-- all documents below a number, each by its own
abbrev pub all_docs : ℕ → Numbering
all_docs num_docs = record { num_docs = num_docs; counts = λ (doc : ℕ). true; number = λ (doc : ℕ). doc }

pub of_none : (num_docs : ℕ) → NumbersComeAfter [] (all_docs num_docs)
of_none num_docs = record { after = λ doc inside. All-from_recursion (λ (a : ℕ × ℕ). a.1 < doc) [] tt; apart = λ doc later up inside counts. up }

-- where fewer than are wanted reach a bound, fewer than the limit do
pub few_needed : (num_docs limit top : ℕ) (s : ScorerState) → top ≤ limit → (doc : ℕ) → IsNeeded [] (all_docs num_docs) s top doc → num_reaching (doc_bound s doc) (scored_docs doc (score_of s)) < limit
few_needed num_docs limit top s few doc needed = omega (arith, few, needed)

module _ (limit : ℕ) (bound : ℕ → ℕ) (score : ℕ → Option ℕ) where
  -- a block has the first document from one on, before which few score as much as its bound
  abbrev pub Pays : List ℕ → ℕ → Type 0
  Pays docs block = (doc : ℕ) × (num_below doc docs < length docs) × (block ≡ num_below doc docs / 128) × (num_reaching (bound doc) (scored_docs doc score) < limit)

  module _ (P : ℕ → Type 0) (few : (doc : ℕ) → P doc → num_reaching (bound doc) (scored_docs doc score) < limit) where
    pays : (docs : List ℕ) (old new : ℕ) (before after : List ℕ) → DecodesAllowed (HasFirstFrom P docs) old new before after → (block : ℕ) → Contains after block → Contains before block ⊎ Pays docs block
    pays docs old new before after d block has = elim (Contains-append_cases before d.later.added block (subst (λ (bs : List ℕ). Contains bs block) d.later.are has)) [
      | inl first ↦ inl first
      | inr added ↦ inr (let h : HasFirstFrom P docs block = All-contains (HasFirstFrom P docs) d.later.added block (All-from_recursion (HasFirstFrom P docs) d.later.added d.only) added in (h.doc, h.inside, h.here, few h.doc h.allowed))
    ]

    pub documents_pay : (olds news : List BlockList) → ReadsOnly P olds news → AllZip (λ (old new : BlockList). (block : ℕ) → Contains new.doc_blocks block → Contains old.doc_blocks block ⊎ Pays old.docs block) olds news
    documents_pay [] [] reads = tt
    documents_pay [] (b ∷ ys) reads = elim reads [ ]
    documents_pay (a ∷ xs) [] reads = elim reads [ ]
    documents_pay (a ∷ xs) (b ∷ ys) reads = (pays a.docs a.block b.block a.doc_blocks b.doc_blocks reads.0.doc_blocks, documents_pay xs ys reads.1)

    pub frequencies_pay : (olds news : List BlockList) → ReadsOnly P olds news → AllZip (λ (old new : BlockList). (block : ℕ) → Contains new.freq_blocks block → Contains old.freq_blocks block ⊎ Pays old.docs block) olds news
    frequencies_pay [] [] reads = tt
    frequencies_pay [] (b ∷ ys) reads = elim reads [ ]
    frequencies_pay (a ∷ xs) [] reads = elim reads [ ]
    frequencies_pay (a ∷ xs) (b ∷ ys) reads = (pays a.docs a.block b.block a.freq_blocks b.freq_blocks reads.0.freq_blocks, frequencies_pay xs ys reads.1)

-- ---- where nothing was read yet
all_zero : (first : ℕ) (blocks : List ℕ) → AscendWithin first 0 blocks → AllByRecursion (λ (b : ℕ). b ≡ 0) blocks
all_zero first [] up = tt
all_zero first (b ∷ bs) up = (let within = up.1 in omega (arith, within), all_zero (b + 1) bs up.2)

pub only_first : (blocks : List ℕ) → AscendWithin 0 0 blocks → (block : ℕ) → Contains blocks block → block ≡ 0
only_first blocks up block has = All-contains (λ (b : ℕ). b ≡ 0) blocks block (All-from_recursion (λ (b : ℕ). b ≡ 0) blocks (all_zero 0 blocks up)) has
