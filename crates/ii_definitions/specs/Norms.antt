-- The content of the file of norms.
use Rattle.std.specs.Prelude.{◌≡◌, ℕ, Bool, false, if◌then◌else◌, List, map, None, Some, slice_get, unwrap_or}
use Rattle.std.specs.List.{range_with_len}
use Rattle.std.specs.Option.{option_map}
use Rattle.ii_io.specs.Composite.{Body, body_of, composite, written_composite}
use Rattle.ii_base.specs.Schema.{SchemaEntry, keeps_norms}
use Rattle.ii_fieldnorm.specs.Buffers.{norm_fields}
use Rattle.ii_fieldnorm.specs.Norms.{id_of_norm}
use Rattle.ii_definitions.specs.Tokens.{IndexToken}
use Rattle.ii_definitions.specs.Postings.{doc_count}

-- whether a field of a schema has norms
abbrev pub has_norms : List SchemaEntry → ℕ → Bool
has_norms entries field = unwrap_or (option_map keeps_norms (slice_get entries field)) false

-- the norms of a field: for each document the byte of its number of tokens
abbrev pub norm_ids : ℕ → ℕ → List IndexToken → List ℕ
norm_ids num_docs field ts = map (λ (doc : ℕ). id_of_norm (doc_count doc field ts)) (range_with_len 0 num_docs)

-- the body of a field with norms
abbrev pub norm_body : ℕ → List IndexToken → ℕ → Body
norm_body num_docs ts field = record { field = field; bytes = norm_ids num_docs field ts }

-- the bodies of the fields with norms, in the order of the fields
abbrev pub norm_file : List SchemaEntry → ℕ → List IndexToken → List Body
norm_file entries num_docs ts = map (norm_body num_docs ts) (norm_fields entries)

-- A file holds the written norms of exactly the fields with norms, which read back from it.
pub record HoldNorms (entries : List SchemaEntry) (num_docs : ℕ) (bytes : List ℕ) (ts : List IndexToken) : Type 0 where
  pub written : bytes ≡ written_composite (norm_file entries num_docs ts)
  pub opened : composite bytes ≡ Some (norm_file entries num_docs ts)
  pub exact : (field : ℕ) → body_of field (norm_file entries num_docs ts) ≡ (if has_norms entries field then Some (norm_ids num_docs field ts) else None)
