-- An entry of a posting list: a document, its term frequency, and the positions of the term in it.
use Rattle.std.specs.Prelude.{ℕ, ◌+◌, Bool, true, ◌&&◌, List, [], ◌∷◌, map, nat_lt, nat_le}
use Rattle.ii_base.specs.declared.doc_id.TheConstants.{TERMINATED}

pub record Entry : Type 0 where
  pub doc : ℕ
  pub term_freq : ℕ
  pub positions : List ℕ

-- the entry of a document alone: term frequency 1 and no positions
abbrev pub document : ℕ → Entry
document d = record { doc = d; term_freq = 1; positions = [] }

-- the entry of a document and its term frequency
abbrev pub counted : ℕ → ℕ → Entry
counted d n = record { doc = d; term_freq = n; positions = [] }

-- whether numbers ascend strictly, are at least `least`, and are less than `TERMINATED`
abbrev pub ascend_from : ℕ → List ℕ → Bool
ascend_from least [] = true
ascend_from least (d ∷ ds) = nat_le least d && nat_lt d TERMINATED && ascend_from (d + 1) ds

-- whether these are documents in strictly ascending order, all less than `TERMINATED`
abbrev pub are_documents : List ℕ → Bool
are_documents docs = ascend_from 0 docs

-- the documents of entries
abbrev pub docs_of : List Entry → List ℕ
docs_of es = map (λ (e : Entry). e.doc) es
