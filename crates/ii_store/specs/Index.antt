-- The format of a `meta` file, and the index that the files of a folder hold.
use Rattle.std.specs.Prelude.{◌≡◌, ℕ, ◌==◌, not, List, [], ◌∷◌, ◌++◌, length, take, drop, bytes_eq, get_or, nat_lt, Option, None, Some, Result, Ok, Err, ⊤, if◌then◌else◌}
use Rattle.std.specs.Int.{w32, w64, from_le_bytes, to_le_bytes}
use Rattle.sha2.specs.Sha256.{sha256}
use Rattle.ii_directory.specs.declared.name.Slot.{Slot}
use Rattle.ii_directory.specs.declared.name.Slot.TheVariants.{First, Second}
use Rattle.ii_directory.specs.declared.name.Kind.{Kind}
use Rattle.ii_directory.specs.declared.name.Kind.TheVariants.{Schema, Terms, Postings, Positions, FieldNorms}
use Rattle.ii_directory.specs.declared.name.Name.TheVariants.{Meta, File}
use Rattle.ii_store.specs.declared.faults.IndexFault.{IndexFault}
use Rattle.ii_store.specs.declared.faults.IndexFault.TheVariants.{NoIndex, OtherVersion, DamagedMeta, Missing, WrongLength, WrongChecksum}
use Rattle.ii_store.specs.declared.faults.StoreFault.{StoreFault}
use Rattle.ii_store.specs.declared.faults.StoreFault.TheVariants as faults
use Rattle.ii_store.specs.declared.stored_index.StoredIndex.{StoredIndex}
use Rattle.ii_directory.specs.Directory.{Files}
use Rattle.ii_directory.specs.Names.{slot_number}

-- an index, independent of memory
pub record Index : Type 0 where
  pub num_docs : ℕ
  pub schema : List ℕ
  pub terms : List ℕ
  pub postings : List ℕ
  pub positions : List ℕ
  pub fieldnorms : List ℕ

-- the model of an index in memory
abbrev pub view : StoredIndex → Index
view s = record {
  num_docs = s.num_docs;
  schema = s.schema.items;
  terms = s.terms.items;
  postings = s.postings.items;
  positions = s.positions.items;
  fieldnorms = s.fieldnorms.items;
}

-- the bytes of one kind
abbrev pub bytes_of_file : Index → Kind → List ℕ
bytes_of_file i Schema = i.schema
bytes_of_file i Terms = i.terms
bytes_of_file i Postings = i.postings
bytes_of_file i Positions = i.positions
bytes_of_file i FieldNorms = i.fieldnorms

-- the first bytes of a `meta` file, "nequllpa"
unfoldable pub format : List ℕ
format = 110 ∷ 101 ∷ 113 ∷ 117 ∷ 108 ∷ 108 ∷ 112 ∷ 97 ∷ []

-- the entry of a file: its length and checksum
unfoldable pub entry : List ℕ → List ℕ
entry bytes = to_le_bytes w64 (length bytes) ++ sha256 bytes

-- the bytes before the entries
unfoldable pub head : Slot → ℕ → List ℕ
head slot num_docs = format ++ to_le_bytes w32 1 ++ slot_number slot ∷ to_le_bytes w32 num_docs

-- the offset of a file's entry in a `meta` file
abbrev pub meta_entry_at : Kind → ℕ
meta_entry_at Schema = 17
meta_entry_at Terms = 57
meta_entry_at Postings = 97
meta_entry_at Positions = 137
meta_entry_at FieldNorms = 177

-- a `meta` file without its checksum
unfoldable pub meta_body : Slot → Index → List ℕ
meta_body slot i = head slot i.num_docs ++ entry i.schema ++ entry i.terms ++ entry i.postings ++ entry i.positions ++ entry i.fieldnorms

-- a `meta` file
unfoldable pub meta_file : Slot → Index → List ℕ
meta_file slot i = meta_body slot i ++ sha256 (meta_body slot i)

-- the slot that a `meta` file names
unfoldable pub slot_in : List ℕ → Slot
slot_in meta = if get_or meta 12 0 == 1 then Second else First

-- the slot in use; without `meta` the first slot is free
abbrev pub used_slot : Option (List ℕ) → Slot
used_slot None = Second
used_slot (Some meta) = slot_in meta

infixl 10 ◌>>=◌
-- sequences two steps, and stops at the first fault
abbrev pub ◌>>=◌ : {A B : Type 0} → Result A IndexFault → (A → Result B IndexFault) → Result B IndexFault
(Ok x) >>= f = f x
(Err e) >>= f = Err e

-- the version of a `meta` file, of any version
unfoldable pub version_in : List ℕ → Result ℕ IndexFault
version_in meta =
    if nat_lt (length meta) 12 then Err DamagedMeta
    else if not (bytes_eq (take 8 meta) format) then Err DamagedMeta
    else Ok (from_le_bytes w32 (take 4 (drop 8 meta)))

-- the number of documents in a `meta` file of this version
unfoldable pub whole_num_docs_in : List ℕ → Result ℕ IndexFault
whole_num_docs_in meta =
    if not (length meta == 249) then Err DamagedMeta
    else if not (bytes_eq (drop 217 meta) (sha256 (take 217 meta))) then Err DamagedMeta
    else Ok (from_le_bytes w32 (take 4 (drop 13 meta)))

-- the number of documents in a valid `meta` file
unfoldable pub num_docs_in : List ℕ → Result ℕ IndexFault
num_docs_in meta = do
  version ← version_in meta
  if not (version == 1) then Err (OtherVersion version) else whole_num_docs_in meta

-- the bytes of a file that matches its entry
unfoldable pub file_in : Kind → List ℕ → Option (List ℕ) → Result (List ℕ) IndexFault
file_in kind entry None = Err (Missing kind)
file_in kind entry (Some bytes) =
    if not (bytes_eq (take 8 entry) (to_le_bytes w64 (length bytes))) then Err (WrongLength kind)
    else if not (bytes_eq (take 32 (drop 8 entry)) (sha256 bytes)) then Err (WrongChecksum kind)
    else Ok bytes

-- the index that a `meta` file and the files of its slot hold
unfoldable pub index_at : List ℕ → Option (List ℕ) → Option (List ℕ) → Option (List ℕ) → Option (List ℕ) → Option (List ℕ) → Result Index IndexFault
index_at meta a b c d e = do
  num_docs ← num_docs_in meta
  schema ← file_in Schema (drop (meta_entry_at Schema) meta) a
  terms ← file_in Terms (drop (meta_entry_at Terms) meta) b
  postings ← file_in Postings (drop (meta_entry_at Postings) meta) c
  positions ← file_in Positions (drop (meta_entry_at Positions) meta) d
  fieldnorms ← file_in FieldNorms (drop (meta_entry_at FieldNorms) meta) e
  Ok (record { num_docs = num_docs; schema = schema; terms = terms; postings = postings; positions = positions; fieldnorms = fieldnorms })

-- the index of a `meta` file, if there is one, and of the files of a slot
abbrev pub index_in : Option (List ℕ) → (Kind → Option (List ℕ)) → Result Index IndexFault
index_in None files = Err NoIndex
index_in (Some meta) files = index_at meta (files Schema) (files Terms) (files Postings) (files Positions) (files FieldNorms)

-- the index that the files of a folder hold, or the first fault
unfoldable pub index_of : Files → Result Index IndexFault
index_of files = index_in (files Meta) (λ kind. files (File (used_slot (files Meta)) kind))

-- the fault is the expected one, unless a directory call or an allocation failed
abbrev pub Fails : {Y : Type 0} → StoreFault → Result Y IndexFault → Type 0
Fails (faults.Directory fault) wanted = ⊤
Fails (faults.Index fault) wanted = wanted ≡ Err fault

-- the result, by its view, is the expected one, unless a directory call or an allocation failed
abbrev pub AnswersFromFiles : {X Y : Type 0} → (X → Y) → Result X StoreFault → Result Y IndexFault → Type 0
AnswersFromFiles view (Ok x) wanted = wanted ≡ Ok (view x)
AnswersFromFiles view (Err e) wanted = Fails e wanted
