-- What a call stores, and why it is refused, by the one text or value that it has.
use Rattle.std.proofs.Common.{◌≡◌, ℕ, List, [], ◌∷◌, ◌++◌, ◌≤◌, ◌∙◌, Some, None, Ok, Err, inl, arith, append-nil, Option, Result, ap, refl, sym, subst}
use Rattle.std.specs.Prelude.{IfErr, MatchOption, ⊤}
use Rattle.std.proofs.lemmas.Grind.{flat_map-append}
use Rattle.ii_base.specs.Entries.{Entry as DocEntry}
use Rattle.ii_recorder.specs.Recorded.{RecorderState}
use Rattle.ii_postings_writer.specs.IndexingContext.{EndsBy, recorder_of}
use Rattle.ii_io.specs.declared.faults.Fault.{Fault}
use Rattle.ii_io.specs.declared.faults.Fault.TheVariants.{OutOfMemory}
use Rattle.ii_base.specs.Schema.{SchemaEntry}
use Rattle.ii_base.specs.Words.{Word}
use Rattle.ii_base.specs.declared.schema.value_type.ValueType.{ValueType}
use Rattle.ii_base.specs.declared.schema.value_type.ValueType.TheVariants.{Str}
use Rattle.ii_definitions.specs.Fields.{option_of}
use Rattle.ii_definitions.specs.Tokens.{Call, Piece, call_pieces, pieces_of, text, text_at, value, value_at, words}
use Rattle.ii_definitions.specs.IndexCalls.{Takes}
use Rattle.ii_indexing.specs.IndexedTerms.{TakesTexts, TakesValue}
use Rattle.ii_indexing.specs.Indexer.{EndsAt, IndexedFieldsState, StoresAll, StoresPieces}
use Rattle.ii_indexing.specs.Refusals.{content_fault, piece_fault, pieces_fault}
use Rattle.ii_json.specs.LeafVisit.{IsRefusedBy}
use Rattle.ii_indexing.proofs.FieldLists.{IsPlain, one_fault, takes_text, takes_value}
use Rattle.ii_indexing.proofs.KnownLaws.{no_path_more}

-- A call to a field of a type is stored.
abbrev pub CallStored : (List ℕ → List Word) → IndexedFieldsState → IndexedFieldsState → Call → ValueType → Type 0
CallStored analyze old new c t = (entries : List SchemaEntry) (ps : List Piece) → Takes entries c.field t → StoresAll entries old ps → StoresAll entries new (ps ++ call_pieces analyze c)

-- It is refused by the cause that the definitions give.
abbrev pub CallRefused : {T : Type 0} → (List ℕ → List Word) → IndexedFieldsState → Result T Fault → Call → ValueType → Type 0
CallRefused analyze old result c t =
    (entries : List SchemaEntry) (ps : List Piece) → Takes entries c.field t → StoresAll entries old ps → IsRefusedBy (content_fault analyze (option_of entries c.field) ps c c.content) result

-- What is known of a text, and of a value.
abbrev pub TextStored : IndexedFieldsState → IndexedFieldsState → ℕ → ℕ → List ℕ → List ℕ → List Word → Type 0
TextStored old new doc field held prefix ws =
    (entries : List SchemaEntry) (ps : List Piece) → TakesTexts entries old.indexed.paths field held prefix → StoresPieces entries old ps → StoresPieces entries new (ps ++ text_at doc field prefix ws ∷ [])

abbrev pub ValueStored : IndexedFieldsState → IndexedFieldsState → ℕ → ℕ → List ℕ → List ℕ → Type 0
ValueStored old new doc field held key =
    (entries : List SchemaEntry) (ps : List Piece) → TakesValue entries old.indexed.paths field held key → StoresPieces entries old ps → StoresPieces entries new (ps ++ value_at doc field key ∷ [])

abbrev pub TextRefused : {T : Type 0} → IndexedFieldsState → Result T Fault → ℕ → ℕ → List ℕ → List ℕ → List Word → Type 0
TextRefused old result doc field held prefix ws =
    (entries : List SchemaEntry) (ps : List Piece) → TakesTexts entries old.indexed.paths field held prefix → StoresPieces entries old ps → IsRefusedBy (piece_fault (option_of entries field) ps (text_at doc field prefix ws)) result

abbrev pub ValueRefused : {T : Type 0} → IndexedFieldsState → Result T Fault → ℕ → ℕ → List ℕ → List ℕ → Type 0
ValueRefused old result doc field held key =
    (entries : List SchemaEntry) (ps : List Piece) → TakesValue entries old.indexed.paths field held key → StoresPieces entries old ps → IsRefusedBy (piece_fault (option_of entries field) ps (value_at doc field key)) result

-- a piece without a path makes none known
pub all_stored : (entries : List SchemaEntry) (old new : IndexedFieldsState) (ps : List Piece) (p : Piece) → p.path ≡ None → new.indexed.paths ≡ old.indexed.paths → StoresAll entries old ps
    → StoresPieces entries new (ps ++ p ∷ []) → StoresAll entries new (ps ++ p ∷ [])
all_stored entries old new ps p none same stored pieces = record { pieces = pieces; known = same ∙ stored.known ∙ sym (no_path_more ps p none) }

-- So it is for any key of which this is held.
abbrev pub ValueHeld : IndexedFieldsState → IndexedFieldsState → ℕ → ℕ → List ℕ → Type 0
ValueHeld old new doc field held = (entries : List SchemaEntry) (ps : List Piece) (key : List ℕ) → TakesValue entries old.indexed.paths field held key → StoresPieces entries old ps → StoresPieces entries new (ps ++ value_at doc field key ∷ [])

abbrev pub HeldRefused : {T : Type 0} → IndexedFieldsState → Result T Fault → ℕ → ℕ → List ℕ → Type 0
HeldRefused old result doc field held =
    (entries : List SchemaEntry) (ps : List Piece) (key : List ℕ) → TakesValue entries old.indexed.paths field held key → StoresPieces entries old ps → IsRefusedBy (piece_fault (option_of entries field) ps (value_at doc field key)) result

module _ (analyze : List ℕ → List Word) (old new : IndexedFieldsState) (doc field : ℕ) where
  pub text_call : (t : List ℕ) → TextStored old new doc field [] [] (analyze t) → new.indexed.paths ≡ old.indexed.paths → CallStored analyze old new (record { doc = doc; field = field; content = text t }) Str
  text_call t h same entries ps takes stored = all_stored entries old new ps (text_at doc field [] (analyze t)) refl same stored (h entries ps (takes_text entries field takes old.indexed.paths) stored.pieces)

  pub words_call : (ws : List Word) → TextStored old new doc field [] [] ws → new.indexed.paths ≡ old.indexed.paths → CallStored analyze old new (record { doc = doc; field = field; content = words ws }) Str
  words_call ws h same entries ps takes stored = all_stored entries old new ps (text_at doc field [] ws) refl same stored (h entries ps (takes_text entries field takes old.indexed.paths) stored.pieces)

  pub value_call : (key : List ℕ) (t : ValueType) → IsPlain t → ValueStored old new doc field key key → new.indexed.paths ≡ old.indexed.paths → CallStored analyze old new (record { doc = doc; field = field; content = value key }) t
  value_call key t plain h same entries ps takes stored = all_stored entries old new ps (value_at doc field key) refl same stored (h entries ps (takes_value entries field t takes plain old.indexed.paths key) stored.pieces)

module _ {T : Type 0} (analyze : List ℕ → List Word) (old : IndexedFieldsState) (result : Result T Fault) (doc field : ℕ) where
  of_text : (entries : List SchemaEntry) (ps : List Piece) (ws : List Word) → Takes entries field Str → TextRefused old result doc field [] [] ws → StoresAll entries old ps
      → IsRefusedBy (pieces_fault (option_of entries field) ps (text_at doc field [] ws ∷ [])) result
  of_text entries ps ws takes h stored = subst (λ (f : Option Fault). IsRefusedBy f result) (one_fault (option_of entries field) ps (text_at doc field [] ws)) (h entries ps (takes_text entries field takes old.indexed.paths) stored.pieces)

  pub text_call_refused : (t : List ℕ) → TextRefused old result doc field [] [] (analyze t) → CallRefused analyze old result (record { doc = doc; field = field; content = text t }) Str
  text_call_refused t h entries ps takes stored = of_text entries ps (analyze t) takes h stored

  pub words_call_refused : (ws : List Word) → TextRefused old result doc field [] [] ws → CallRefused analyze old result (record { doc = doc; field = field; content = words ws }) Str
  words_call_refused ws h entries ps takes stored = of_text entries ps ws takes h stored

  pub value_call_refused : (key : List ℕ) (t : ValueType) → IsPlain t → ValueRefused old result doc field key key → CallRefused analyze old result (record { doc = doc; field = field; content = value key }) t
  value_call_refused key t plain h entries ps takes stored =
      subst (λ (f : Option Fault). IsRefusedBy f result) (one_fault (option_of entries field) ps (value_at doc field key)) (h entries ps (takes_value entries field t takes plain old.indexed.paths key) stored.pieces)

-- the pieces of one more call
pub pieces_with : (analyze : List ℕ → List Word) (calls : List Call) (c : Call) → pieces_of analyze (calls ++ c ∷ []) ≡ pieces_of analyze calls ++ call_pieces analyze c
pieces_with analyze calls c = flat_map-append (call_pieces analyze) calls (c ∷ []) ∙ ap (λ (ps : List Piece). pieces_of analyze calls ++ ps) (append-nil (call_pieces analyze c))

-- what ends by a document ends by a later one
ends_by_later : (last doc : ℕ) → last ≤ doc → (found : Option RecorderState) → MatchOption found ⊤ (EndsBy last) → MatchOption found ⊤ (EndsBy doc)
ends_by_later last doc up None h = h
ends_by_later last doc up (Some r) h = record { ascending = h.ascending; last = by r.pending h.last }
  where
    by : (p : Option DocEntry) → MatchOption p ⊥ (λ (e : DocEntry). e.doc ≤ last) → MatchOption p ⊥ (λ (e : DocEntry). e.doc ≤ doc)
    by None b = b
    by (Some e) b = omega (arith, b, up)

pub ends_later : (last doc : ℕ) (s : IndexedFieldsState) → last ≤ doc → EndsAt last s → EndsAt doc s
ends_later last doc s up h = record {
  documents = h.documents;
  terms = λ bytes. ends_by_later last doc up (recorder_of s.indexed.terms bytes) (h.terms bytes);
  reach = λ field d is. omega (arith, h.reach field d is, up);
  paths = h.paths;
  paths_reach = λ field o is. omega (arith, h.paths_reach field o is, up);
}

-- what fails only with `OutOfMemory`
pub refused_for_memory : {T : Type 0} (cause : Option Fault) (result : Result T Fault) → cause ≡ None → IfErr result (λ e. e ≡ OutOfMemory) → IsRefusedBy cause result
refused_for_memory cause (Ok x) none only = none
refused_for_memory cause (Err e) none only = inl only
