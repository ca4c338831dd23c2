-- Lines that replace documents: the key of a line, and the last line of each key.
use Rattle.std.specs.Prelude.{◌≡◌, ◌⊎◌, ⊤, ℕ, ◌==◌, Bool, List, [], ◌∷◌, ◌++◌, Vec, bytes_eq, filter, length, map, nat_le, ok_or, reverse, string_bytes, if◌then◌else◌, Option, None, Some, Result, Ok, Err}
use Rattle.std.specs.List.{list_any}
use Rattle.std.specs.Option.{option_and_then, option_map}
use Rattle.std.specs.Str.{IsTrimAscii}
use Rattle.std.specs.declared.alloc.Global.{Global}
use Rattle.ii_base.specs.Terms.{TermState}
use Rattle.ii_base.specs.Words.{Word}
use Rattle.ii_definitions.specs.Tokens.{Call, Content, IndexToken, leaves, max_token_len, text, value, words}
use Rattle.ii_documents.specs.JsonLines.{Refusal, line_calls_by, told_of_line}
use Rattle.ii_documents.specs.declared.faults.LineFault.{LineFault}
use Rattle.ii_documents.specs.declared.faults.LineFault.TheVariants.{OutOfMemory}
use Rattle.nequllpa_indexing.specs.Documents.{AddsLine, DocumentsState, IsLineFault}
use Rattle.nequllpa_indexing.specs.declared.faults.InputFault.TheVariants.{Line, NotUtf8}
use Rattle.nequllpa_indexing.specs.declared.faults.LineRefusal.{LineRefusal}
use Rattle.nequllpa_indexing.specs.declared.faults.LineRefusal.TheVariants.{Input, NoKey}
use Rattle.nequllpa_indexing.specs.declared.keyed_lines.KeyedLine.{KeyedLine}

-- ---- the key of a line
-- the only item of a list
abbrev pub only_of : {A : Type 0} → List A → Option A
only_of [] = None
only_of (x ∷ []) = Some x
only_of (x ∷ y ∷ ys) = None

-- the text of a word that is short enough to be indexed
abbrev pub short_word : Word → Option (List ℕ)
short_word w = if nat_le (length w.text) max_token_len then Some w.text else None

-- the key of what a call indexes: the only word of a text, or the bytes of a value
abbrev pub content_key : (List ℕ → List Word) → Content → Option (List ℕ)
content_key analyze (text t) = option_and_then short_word (only_of (analyze t))
content_key analyze (words ws) = None
content_key analyze (value key) = Some key
content_key analyze (leaves ls) = None

-- the key of a document in a field: that of its only call in the field
abbrev pub key_of_calls : (ℕ → List ℕ → List Word) → ℕ → List Call → Option (List ℕ)
key_of_calls analyze field calls = option_and_then (λ (c : Call). content_key (analyze c.field) c.content) (only_of (filter (λ (c : Call). c.field == field) calls))

-- the keys of the tokens in a field
abbrev pub token_keys : ℕ → List IndexToken → List (List ℕ)
token_keys field ts = map (λ (t : IndexToken). t.key) (filter (λ (t : IndexToken). t.field == field) ts)

-- Why a line has no key: it isn't UTF-8, is no document, or its document has no key.
pub data KeyRefusal : Type 0 where
  not_utf8 : KeyRefusal
  no_document : Refusal → KeyRefusal
  no_key : KeyRefusal

-- the key of a document, given the calls of its line
abbrev pub key_or_refusal : (ℕ → List ℕ → List Word) → ℕ → Result (List Call) Refusal → Result (List ℕ) KeyRefusal
key_or_refusal analyze field (Ok calls) = ok_or (key_of_calls analyze field calls) no_key
key_or_refusal analyze field (Err refusal) = Err (no_document refusal)

-- the key of a line in a field, by the documents that it would be added to
abbrev pub line_key : (ℕ → List ℕ → List Word) → DocumentsState → ℕ → List ℕ → Result (List ℕ) KeyRefusal
line_key analyze s field line = key_or_refusal analyze field (line_calls_by s.unknown_keys s.floats s.schema 0 line)

-- ---- lines with keys
-- a line and its key
pub record KeyedLineState : Type 0 where
  pub key : List ℕ
  pub text : List ℕ

-- the lines that were taken, with their keys in a field
pub record KeyedLinesState : Type 0 where
  pub field : ℕ
  pub lines : List KeyedLineState

-- the model of a line with its key
abbrev pub line_view : KeyedLine → KeyedLineState
line_view line = record { key = line.key.items; text = string_bytes line.text }

-- the lines, and one more with its key; or why it has none
abbrev pub with_line : KeyedLinesState → List ℕ → Result (List ℕ) KeyRefusal → Result KeyedLinesState KeyRefusal
with_line s line (Ok key) = Ok (record { field = s.field; lines = s.lines ++ (record { key = key; text = line }) ∷ [] })
with_line s line (Err refusal) = Err refusal

-- the lines, and a text as one more; the same lines if it is empty; or why it isn't taken
abbrev pub with_text : (ℕ → List ℕ → List Word) → DocumentsState → KeyedLinesState → List ℕ → Result KeyedLinesState KeyRefusal
with_text analyze s old [] = Ok old
with_text analyze s old (b ∷ bs) = with_line old (b ∷ bs) (line_key analyze s old.field (b ∷ bs))

-- what a refusal says about a line, if it isn't an allocation failure
abbrev pub told_of_refusal : LineRefusal → Option KeyRefusal
told_of_refusal (Input NotUtf8) = Some not_utf8
told_of_refusal (Input (Line fault)) = option_map no_document (told_of_line fault)
told_of_refusal NoKey = Some no_key

-- A refusal says nothing about the line, or that this is its result.
abbrev pub TellsOfKey : {Y : Type 0} → Option KeyRefusal → Result Y KeyRefusal → Type 0
TellsOfKey None wanted = ⊤
TellsOfKey (Some refusal) wanted = wanted ≡ Err refusal

-- The result of a call, by a view, is as expected unless an allocation failed.
abbrev pub AnswersWithKey : {X Y : Type 0} → (X → Y) → Result X LineRefusal → Result Y KeyRefusal → Type 0
AnswersWithKey view (Ok x) wanted = wanted ≡ Ok (view x)
AnswersWithKey view (Err e) wanted = TellsOfKey (told_of_refusal e) wanted

-- A line without the white space around it was taken with its key, is empty, or was refused.
pub record TakesLine (analyze : ℕ → List ℕ → List Word) (s : DocumentsState) (old new : KeyedLinesState) (line : List ℕ) (result : Result (Unit {0}) LineRefusal) : Type 0 where
  pub text : List ℕ
  pub trimmed : IsTrimAscii line text
  pub taken : AnswersWithKey (λ _. new) result (with_text analyze s old text)

-- ---- the last line of each key
-- whether a line has a key
abbrev pub line_has_key : List ℕ → KeyedLineState → Bool
line_has_key key line = bytes_eq key line.key

-- the lines of which no later one has the same key
abbrev pub last_of_each_key : List KeyedLineState → List KeyedLineState
last_of_each_key [] = []
last_of_each_key (line ∷ later) = if list_any (line_has_key line.key) later then last_of_each_key later else line ∷ last_of_each_key later

-- the texts of lines
abbrev pub line_texts : List KeyedLineState → List (List ℕ)
line_texts lines = map (λ (line : KeyedLineState). line.text) lines

-- the terms of the keys of lines
abbrev pub key_terms : ℕ → List KeyedLineState → List TermState
key_terms field lines = map (λ (line : KeyedLineState). record { field = field; value = line.key }) lines

-- Lines were added to documents, one after the other.
abbrev pub AddsLines : DocumentsState → DocumentsState → List (List ℕ) → Type 0
AddsLines old new [] = new ≡ old
AddsLines old new (line ∷ later) = (next : DocumentsState) × AddsLine old next line × AddsLines next new later

-- The first of some lines isn't added to documents.
abbrev pub IsFirstFault : LineFault → DocumentsState → List (List ℕ) → Type 0
IsFirstFault fault s [] = ⊥
IsFirstFault fault s (line ∷ later) = IsLineFault fault s line

-- Lines were added to documents up to one that is refused, or an allocation failed.
pub record StopsAdding (fault : LineFault) (old new : DocumentsState) (lines : List (List ℕ)) : Type 0 where
  pub done : List (List ℕ)
  pub rest : List (List ℕ)
  pub all : lines ≡ done ++ rest
  pub added : AddsLines old new done
  pub why : (fault ≡ OutOfMemory) ⊎ IsFirstFault fault new rest

-- Keys are those of some lines, and of these lines the last one of each key is kept, in reverse order.
pub record KeepsLast (lines : List KeyedLineState) (keys : List (Vec ℕ Global)) (kept : List KeyedLine) : Type 0 where
  pub keys_are : (key : List ℕ) → list_any (λ (k : Vec ℕ Global). bytes_eq key k.items) keys ≡ list_any (line_has_key key) lines
  pub kept_are : map line_view (reverse kept) ≡ last_of_each_key lines
