-- Laws of the blocks that are decoded of lists.
use Rattle.std.proofs.Common.{◌≡◌, ◌∙◌, ℕ, List, [], ◌∷◌, ◌++◌, arith, refl, subst}
use Rattle.ii_check.specs.DecodedBlocks.{DecodesAllowed}
use Rattle.ii_check.proofs.DecodedBlocksLaws.{allowed_none, allowed_on, allowed_weaker}
use Rattle.ii_scorer.specs.BlockLists.{BlockList, HasFirstFrom, ReadsOnly, ReadsWhere}

-- ---- one list
pub reads_none : (P : ℕ → Type 0) (l : BlockList) → ReadsWhere P l l
reads_none P l = record {
  docs = refl;
  forward = omega arith;
  doc_blocks = allowed_none (HasFirstFrom P l.docs) l.block l.doc_blocks;
  freq_blocks = allowed_none (HasFirstFrom P l.docs) l.block l.freq_blocks;
}

pub reads_on : (P : ℕ → Type 0) (a b c : BlockList) → ReadsWhere P a b → ReadsWhere P b c → ReadsWhere P a c
reads_on P a b c first second = record {
  docs = second.docs ∙ first.docs;
  forward = let one = first.forward in let other = second.forward in omega (arith, one, other);
  doc_blocks = allowed_on (HasFirstFrom P a.docs) a.block b.block c.block a.doc_blocks b.doc_blocks c.doc_blocks first.forward second.forward first.doc_blocks
      (subst (λ (docs : List ℕ). DecodesAllowed (HasFirstFrom P docs) b.block c.block b.doc_blocks c.doc_blocks) first.docs second.doc_blocks);
  freq_blocks = allowed_on (HasFirstFrom P a.docs) a.block b.block c.block a.freq_blocks b.freq_blocks c.freq_blocks first.forward second.forward first.freq_blocks
      (subst (λ (docs : List ℕ). DecodesAllowed (HasFirstFrom P docs) b.block c.block b.freq_blocks c.freq_blocks) first.docs second.freq_blocks);
}

pub first_weaker : (P Q : ℕ → Type 0) → ((doc : ℕ) → P doc → Q doc) → (docs : List ℕ) (block : ℕ) → HasFirstFrom P docs block → HasFirstFrom Q docs block
first_weaker P Q weaker docs block has = record { doc = has.doc; allowed = weaker has.doc has.allowed; inside = has.inside; here = has.here }

pub reads_weaker : (P Q : ℕ → Type 0) → ((doc : ℕ) → P doc → Q doc) → (a b : BlockList) → ReadsWhere P a b → ReadsWhere Q a b
reads_weaker P Q weaker a b reads = record {
  docs = reads.docs;
  forward = reads.forward;
  doc_blocks = allowed_weaker (HasFirstFrom P a.docs) (HasFirstFrom Q a.docs) a.block b.block a.doc_blocks b.doc_blocks (λ block low high has. first_weaker P Q weaker a.docs block has) reads.doc_blocks;
  freq_blocks = allowed_weaker (HasFirstFrom P a.docs) (HasFirstFrom Q a.docs) a.block b.block a.freq_blocks b.freq_blocks (λ block low high has. first_weaker P Q weaker a.docs block has) reads.freq_blocks;
}

-- ---- some lists
pub all_none : (P : ℕ → Type 0) (ls : List BlockList) → ReadsOnly P ls ls
all_none P [] = tt
all_none P (l ∷ ls) = (reads_none P l, all_none P ls)

pub all_on : (P : ℕ → Type 0) (xs ys zs : List BlockList) → ReadsOnly P xs ys → ReadsOnly P ys zs → ReadsOnly P xs zs
all_on P [] [] zs first second = second
all_on P [] (b ∷ ys) zs first second = elim first [ ]
all_on P (a ∷ xs) [] zs first second = elim first [ ]
all_on P (a ∷ xs) (b ∷ ys) [] first second = elim second [ ]
all_on P (a ∷ xs) (b ∷ ys) (c ∷ zs) first second = (reads_on P a b c first.0 second.0, all_on P xs ys zs first.1 second.1)

pub all_weaker : (P Q : ℕ → Type 0) → ((doc : ℕ) → P doc → Q doc) → (xs ys : List BlockList) → ReadsOnly P xs ys → ReadsOnly Q xs ys
all_weaker P Q weaker [] [] reads = tt
all_weaker P Q weaker [] (b ∷ ys) reads = elim reads [ ]
all_weaker P Q weaker (a ∷ xs) [] reads = elim reads [ ]
all_weaker P Q weaker (a ∷ xs) (b ∷ ys) reads = (reads_weaker P Q weaker a b reads.0, all_weaker P Q weaker xs ys reads.1)

-- lists one after the other
pub all_append : (P : ℕ → Type 0) (xs ys zs ws : List BlockList) → ReadsOnly P xs ys → ReadsOnly P zs ws → ReadsOnly P (xs ++ zs) (ys ++ ws)
all_append P [] [] zs ws first second = second
all_append P [] (b ∷ ys) zs ws first second = elim first [ ]
all_append P (a ∷ xs) [] zs ws first second = elim first [ ]
all_append P (a ∷ xs) (b ∷ ys) zs ws first second = (first.0, all_append P xs ys zs ws first.1 second)

-- where there are none, there are none later, and nothing is read
pub all_gone : (P : ℕ → Type 0) (xs ys : List BlockList) → xs ≡ [] → ReadsOnly P xs ys → ys ≡ []
all_gone P [] [] none reads = refl
all_gone P [] (b ∷ ys) none reads = elim reads [ ]
all_gone P (a ∷ xs) ys none reads = absurd (cc)

pub all_unread : (P Q : ℕ → Type 0) (xs ys : List BlockList) → xs ≡ [] → ReadsOnly P xs ys → ReadsOnly Q xs ys
all_unread P Q [] [] none reads = tt
all_unread P Q [] (b ∷ ys) none reads = elim reads [ ]
all_unread P Q (a ∷ xs) ys none reads = absurd (cc)
