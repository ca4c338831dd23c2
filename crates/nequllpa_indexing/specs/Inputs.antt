-- What a line of an input holds, given as bytes.
use Rattle.std.specs.Prelude.{◌≡◌, ◌≢◌, ℕ, Bool, true, false, List, [], Result, Ok, Err}
use Rattle.std.specs.Str.{IsTrimAscii}
use Rattle.nequllpa_indexing.specs.Documents.{AddsLine, DocumentsState, IsLineFault}
use Rattle.nequllpa_indexing.specs.declared.faults.InputFault.{InputFault}
use Rattle.nequllpa_indexing.specs.declared.faults.InputFault.TheVariants.{Line, NotUtf8}

-- A text was added as a line, is empty, or was refused.
abbrev pub AddsTrimmed : DocumentsState → DocumentsState → List ℕ → Result Bool InputFault → Type 0
AddsTrimmed old new text (Ok true) = AddsLine old new text
AddsTrimmed old new text (Ok false) = (text ≡ []) × (new ≡ old)
AddsTrimmed old new text (Err NotUtf8) = ⊥
AddsTrimmed old new text (Err (Line fault)) = (text ≢ []) × (new ≡ old) × IsLineFault fault old text

-- A line without the white space around it was added, is empty, or was refused.
pub record AddsInput (old new : DocumentsState) (line : List ℕ) (result : Result Bool InputFault) : Type 0 where
  pub text : List ℕ
  pub trimmed : IsTrimAscii line text
  pub added : AddsTrimmed old new text result
