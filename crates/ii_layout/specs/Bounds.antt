-- The bounds of a full block, kept in its skip entry so that a reader can skip the block.
use Rattle.std.specs.Prelude.{ℕ, List, map, min, max, fold, IfSome, Option, Some, None}
use Rattle.ii_fieldnorm.specs.Readers.{Norms, CoversDoc, id_of_doc}
use Rattle.ii_layout.specs.SkipReader.{code_of_max_tf}

-- the least byte, or 255 of none
abbrev pub least : List ℕ → ℕ
least ids = fold min 255 ids

-- the greatest term frequency, or 0 of none
abbrev pub greatest : List ℕ → ℕ
greatest freqs = fold max 0 freqs

-- the least norm id of documents, or 0 without norms, a lower bound of all ids
abbrev pub fieldnorm_bound : Option Norms → List ℕ → ℕ
fieldnorm_bound None docs = 0
fieldnorm_bound (Some norms) docs = least (map (id_of_doc norms) docs)

-- the greatest term frequency, at most 255, or 0 without norms, which is no bound
abbrev pub term_freq_bound : Option Norms → List ℕ → ℕ
term_freq_bound None freqs = 0
term_freq_bound (Some norms) freqs = code_of_max_tf (greatest freqs)

-- The norms, if there are any, cover a document.
abbrev pub Covers : Option Norms → ℕ → Type 0
Covers norms doc = IfSome norms (λ n. CoversDoc n doc)
