-- Worked rows: which block has the first document from another one on, and what may be decoded.
use Rattle.std.proofs.Common.{◌≡◌, ◌<◌, ◌≤◌, ℕ, [], ◌∷◌, arith, refl, subst}
use Rattle.std.specs.List.{range_with_len}
use Rattle.ii_scorer.specs.BlockLists.{HasFirstFrom, ReadsWhere, num_below}

-- of the documents 3, 5 and 9 two are below 9, and three below 10
pub row_below : num_below 9 (3 ∷ 5 ∷ 9 ∷ []) ≡ 2
row_below = refl

pub row_all_below : num_below 10 (3 ∷ 5 ∷ 9 ∷ []) ≡ 3
row_all_below = refl

-- of 200 documents in a row from 1000 on the one from 1150 on is in block 1, and that from 1127 on in block 0
pub row_later : HasFirstFrom (λ (doc : ℕ). doc ≡ 1150) (range_with_len 1000 200) 1
row_later = record { doc = 1150; allowed = refl; inside = omega arith; here = refl }

pub row_first : HasFirstFrom (λ (doc : ℕ). doc ≡ 1127) (range_with_len 1000 200) 0
row_first = record { doc = 1127; allowed = refl; inside = omega arith; here = refl }

-- no block has a document from 1200 on
pub row_none : HasFirstFrom (λ (doc : ℕ). doc ≡ 1200) (range_with_len 1000 200) 1 → 201 ≤ 200
row_none has = subst (λ (doc : ℕ). num_below doc (range_with_len 1000 200) < 200) has.allowed has.inside

-- block 1 was decoded for the documents from 1150 on, of documents and not of term frequencies
pub row_reads : ReadsWhere (λ (doc : ℕ). doc ≡ 1150) (record { docs = range_with_len 1000 200; block = 0; doc_blocks = 0 ∷ []; freq_blocks = [] }) (record { docs = range_with_len 1000 200; block = 1; doc_blocks = 0 ∷ 1 ∷ []; freq_blocks = [] })
row_reads = record {
  docs = refl;
  forward = omega arith;
  doc_blocks = record { later = record { added = 1 ∷ []; are = refl; ascend = (omega arith, omega arith, tt) }; only = (row_later, tt) };
  freq_blocks = record { later = record { added = []; are = refl; ascend = tt }; only = tt };
}
