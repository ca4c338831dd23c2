-- The documents that are added to an index.
use Rattle.std.specs.Prelude.{◌≡◌, ◌+◌, ⊤, ℕ, true, List, [], ◌++◌, Option, None, Some, length, map, replicate, if◌then◌else◌}
use Rattle.ii_base.specs.Schema.{SchemaEntry}
use Rattle.ii_base.specs.Words.{Word}
use Rattle.ii_definitions.specs.Tokens.{IndexToken}
use Rattle.ii_directory.specs.Directory.{Files}
use Rattle.ii_schema_text.specs.SchemaText.{TextSchemaState}
use Rattle.ii_segments.specs.Segments.{Segment, index_tokens, num_docs_of}
use Rattle.ii_documents.specs.declared.floats.FloatNumbers.TheVariants as floats
use Rattle.nequllpa_indexing.specs.Documents.{DocumentsState, no_records}
use Rattle.nequllpa_indexing.specs.FieldTokens.{tokens_by}
use Rattle.nequllpa_merging.specs.Joins.{HoldsIndex}

-- no documents, of the fields of a schema, with their lines if it stores them, and with unknown keys as it says
abbrev pub no_documents : TextSchemaState → DocumentsState
no_documents s = record { schema = s.schema; num_docs = 0; calls = []; stored = s.stored; lines = no_records s.stored; unknown_keys = s.unknown_keys; floats = floats.Refuse; skipped_floats = 0 }

-- If lines are stored, there is one for each document.
abbrev pub HaveLines : ℕ → Option (List (List ℕ)) → Type 0
HaveLines n None = ⊤
HaveLines n (Some lines) = length lines ≡ n

-- the segment of documents, all of which are alive
abbrev pub segment_of : (ℕ → List ℕ → List Word) → DocumentsState → Segment
segment_of words d = record { alive = replicate d.num_docs true; tokens = tokens_by words d.calls }

-- Segments have this number of living documents, and these are their tokens.
pub record HaveTokens (n : ℕ) (ts : List IndexToken) (ss : List Segment) : Type 0 where
  pub num_docs : num_docs_of ss ≡ n
  pub tokens : index_tokens ss ≡ ts

-- The files of a directory hold an index of this number of documents, with these tokens.
pub record HoldsIndexOf (entries : List SchemaEntry) (files : Files) (n : ℕ) (ts : List IndexToken) : Type 0 where
  pub segments : List Segment
  pub holds : HoldsIndex entries files segments
  pub have : HaveTokens n ts segments

-- a token of a document that comes after n others
abbrev pub after : ℕ → IndexToken → IndexToken
after n t = record t { doc = n + t.doc }

-- tokens of n documents, and those of documents that come after them
abbrev pub with_tokens : ℕ → List IndexToken → List IndexToken → List IndexToken
with_tokens n ts us = ts ++ map (after n) us
