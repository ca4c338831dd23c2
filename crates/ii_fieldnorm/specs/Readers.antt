-- The model of a field norms reader: one byte per document, or one byte for all.
use Rattle.std.specs.Prelude.{ℕ, ◌<◌, ◌⊎◌, List, [], length, slice_index, unwrap_or, IsSome, Option, Some, None}
use Rattle.ii_fieldnorm.specs.declared.reader.ReaderImplEnum.{ReaderImplEnum}
use Rattle.ii_fieldnorm.specs.declared.reader.ReaderImplEnum.TheVariants.{FromData, Const}

pub record Norms : Type 0 where
  pub num_docs : ℕ
  pub ids : List ℕ
  pub constant : Option ℕ

-- the field norms with these ids, one per document
abbrev pub norms_of_ids : List ℕ → Norms
norms_of_ids ids = record { num_docs = length ids; ids = ids; constant = None }

-- the model of a reader over bytes, or of a constant
abbrev pub read_norms : ReaderImplEnum → Norms
read_norms (FromData bytes) = norms_of_ids bytes
read_norms (Const num_docs id) = record { num_docs = num_docs; ids = []; constant = Some id }

-- A constant covers every document.
abbrev pub CoversDoc : Norms → ℕ → Type 0
CoversDoc norms doc = IsSome norms.constant ⊎ (doc < norms.num_docs)

-- the id of a document
abbrev pub id_of_doc : Norms → ℕ → ℕ
id_of_doc norms doc = unwrap_or norms.constant (slice_index norms.ids doc)
