-- The last opened document of each field, and the norms of earlier documents.
use Rattle.std.specs.Prelude.{◌≡◌, ℕ, ◌<◌, ◌≤◌, Bool, ◌==◌, min, if◌then◌else◌, List, [], get_or, is_some, length, map, slice_get, ⊤, MatchOption, IfSome, Option, None, Some}
use Rattle.std.specs.Option.{option_map}
use Rattle.ii_io.specs.Composite.{Body, body_of}
use Rattle.ii_fieldnorm.specs.Buffers.{Buffers, buffer_of, recorded}
use Rattle.ii_fieldnorm.specs.Norms.{id_of_norm}
use Rattle.ii_definitions.specs.Tokens.{IndexToken, Piece, begin_after, text_at}
use Rattle.ii_definitions.specs.Postings.{doc_count}
use Rattle.ii_recorder.specs.Recorded.{u32_max}
use Rattle.ii_indexing.specs.Refusals.{group_count}
use Rattle.ii_indexing.specs.declared.open_documents.OpenDocument.{OpenDocument}

-- The open document of each field, and the norms so far.
pub record OpenDocumentsState : Type 0 where
  pub documents : List OpenDocument
  pub norms : Buffers

-- a document without tokens
abbrev pub empty_document : ℕ → OpenDocument
empty_document doc = record { doc = doc; num_tokens = 0; end_position = 0; norm = 0 }

-- the state of a document that isn't below the open one
abbrev pub document_at : ℕ → OpenDocument → OpenDocument
document_at doc d = if d.doc == doc then d else empty_document doc

-- The norms of a field are those of the documents below `before`; a missing norm is 0.
abbrev pub HasNorms : ℕ → List IndexToken → ℕ → List ℕ → Type 0
HasNorms field ts before ids = (doc : ℕ) → doc < before → get_or ids doc 0 ≡ id_of_norm (doc_count doc field ts)

-- A field's open document after pieces and their tokens: its texts' end and size, all tokens, earlier norms.
pub record Tells (field : ℕ) (ps : List Piece) (ts : List IndexToken) (d : OpenDocument) (ids : Option (List ℕ)) : Type 0 where
  pub begin : (doc : ℕ) → d.doc ≤ doc → begin_after ps (text_at doc field [] []) ≡ (document_at doc d).end_position
  pub group : (doc : ℕ) → d.doc ≤ doc → group_count ps (text_at doc field [] []) ≡ (document_at doc d).num_tokens
  pub count : (doc : ℕ) → d.doc ≤ doc → min (doc_count doc field ts) u32_max ≡ (document_at doc d).norm
  pub norms : IfSome ids (HasNorms field ts d.doc)

-- `Tells` holds for each field.
abbrev pub TellsAll : List Piece → List IndexToken → OpenDocumentsState → Type 0
TellsAll ps ts s = (field : ℕ) (d : OpenDocument) → slice_get s.documents field ≡ Some d → Tells field ps ts d (buffer_of field s.norms)

-- No open document is above `doc`.
abbrev pub ReachTo : ℕ → OpenDocumentsState → Type 0
ReachTo doc s = (field : ℕ) (d : OpenDocument) → slice_get s.documents field ≡ Some d → d.doc ≤ doc

-- Norms are kept only for documents before the open one.
abbrev pub AreBehind : OpenDocumentsState → Type 0
AreBehind s = (field : ℕ) (d : OpenDocument) → slice_get s.documents field ≡ Some d → IfSome (buffer_of field s.norms) (λ ids. length ids ≤ d.doc)

-- for each field, whether it has norms
abbrev pub with_norms : Buffers → List Bool
with_norms buffers = map is_some buffers

-- the norms of a field after that of its open document was recorded
abbrev pub closed_norms : Option OpenDocument → Option (List ℕ) → Option (List ℕ)
closed_norms None ids = ids
closed_norms (Some d) ids = option_map (recorded d.doc d.norm) ids

-- The norms of these documents were recorded in their fields.
abbrev pub AreClosed : List OpenDocument → Buffers → Buffers → Type 0
AreClosed documents old new = (field : ℕ) → buffer_of field new ≡ closed_norms (slice_get documents field) (buffer_of field old)

-- Each field that has norms has `num_docs` of them.
abbrev pub HaveNormsOf : ℕ → List Body → Type 0
HaveNormsOf num_docs readers = (field : ℕ) → MatchOption (body_of field readers) ⊤ (λ ids. length ids ≡ num_docs)
