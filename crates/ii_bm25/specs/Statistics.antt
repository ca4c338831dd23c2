-- What is known of an index when its documents are scored.
use Rattle.std.specs.Prelude.{ℕ, ◌-◌, ◌^◌, List, map, min}
use Rattle.std.specs.List.{sum}
use Rattle.ii_base.specs.Terms.{TermState}
use Rattle.ii_bm25.specs.Bm25.{idf}

-- the numbers of documents, of tokens in each field, and of documents with each key of a field
pub record Statistics : Type 0 where
  pub num_docs : ℕ
  pub num_tokens : ℕ → ℕ
  pub doc_freq : ℕ → List ℕ → ℕ

-- the idf of a term
abbrev pub idf_of : Statistics → TermState → ℕ
idf_of s t = idf (s.doc_freq t.field t.value) s.num_docs

-- the sum of the idf of terms, at most 2^64 - 1
abbrev pub idfs_of : Statistics → List TermState → ℕ
idfs_of s ts = min (2 ^ 64 - 1) (sum (map (idf_of s) ts))
