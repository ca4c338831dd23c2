-- What is stored of documents, and the file of it.
use Rattle.std.specs.Prelude.{◌≡◌, ◌⊎◌, ◌^◌, ◌<◌, ◌∷◌, ◌++◌, [], ⊤, ℕ, IsSomeAnd, List, length, map, Option, None, Some, option_map, String, Vec, string_bytes}
use Rattle.std.specs.List.{AllByRecursion}
use Rattle.std.specs.declared.alloc.Global.{Global}
use Rattle.ii_io.specs.declared.faults.Fault.{Fault}
use Rattle.ii_io.specs.declared.faults.Fault.TheVariants.{Limit, OutOfMemory}
use Rattle.ii_io.specs.declared.faults.LimitName.TheVariants.{Offset}
use Rattle.ii_doc_store.specs.StoreFormat.{store_bytes}
use Rattle.ii_doc_store.specs.StoreReader.{HoldsDocuments}

-- the bytes of what is stored, if something is
abbrev pub lines_view : Option (Vec (String Global) Global) → Option (List (List ℕ))
lines_view lines = option_map (λ v. map string_bytes v.items) lines

-- Each record is short enough to be stored.
abbrev pub AreShort : List (List ℕ) → Type 0
AreShort lines = AllByRecursion (λ (line : List ℕ). length line < 2 ^ 31) lines

-- If something is stored, it is a short record for each document.
abbrev pub AreLinesOf : ℕ → Option (List (List ℕ)) → Type 0
AreLinesOf num_docs None = ⊤
AreLinesOf num_docs (Some lines) = (length lines ≡ num_docs) × AreShort lines

-- Records are these and one more, if something is stored.
abbrev pub HasOneMore : Option (List (List ℕ)) → Option (List (List ℕ)) → Type 0
HasOneMore None new = new ≡ None
HasOneMore (Some rs) new = (r : List ℕ) × (new ≡ Some (rs ++ r ∷ []))

-- Bytes are the store of lines, and give them back.
pub record IsStoreOf (bytes : List ℕ) (lines : List (List ℕ)) : Type 0 where
  pub is : bytes ≡ store_bytes lines
  pub holds : HoldsDocuments bytes lines

-- A file is the store of lines, if they are stored; else there is none.
abbrev pub StoresLines : Option (List (List ℕ)) → Option (List ℕ) → Type 0
StoresLines None file = file ≡ None
StoresLines (Some lines) file = IsSomeAnd file (λ bytes. IsStoreOf bytes lines)

-- A file can't be written to memory.
abbrev pub IsOutputFault : Fault → Type 0
IsOutputFault fault = (fault ≡ OutOfMemory) ⊎ (fault ≡ Limit Offset)

-- Why the file of lines can't be written: an allocation failed, or it would be too long.
abbrev pub IsLinesFault : Option (List (List ℕ)) → Fault → Type 0
IsLinesFault None fault = ⊥
IsLinesFault (Some lines) fault = IsOutputFault fault
