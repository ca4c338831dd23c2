-- The remains of an index whose `meta` is valid: its current files, and how they differ from the saved ones.
use Rattle.std.specs.Prelude.{ℕ, List, [], drop, unwrap_or, Option, None, Some, Result, Ok, Err}
use Rattle.std.specs.Result.{result_err}
use Rattle.ii_directory.specs.declared.name.Kind.{Kind}
use Rattle.ii_directory.specs.declared.name.Kind.TheVariants.{Schema, Terms, Postings, Positions, FieldNorms}
use Rattle.ii_directory.specs.declared.name.Name.TheVariants.{Meta, File}
use Rattle.ii_store.specs.declared.faults.IndexFault.{IndexFault}
use Rattle.ii_store.specs.declared.faults.IndexFault.TheVariants.{NoIndex}
use Rattle.ii_store.specs.declared.salvaged_index.SalvagedFile.{SalvagedFile}
use Rattle.ii_store.specs.declared.salvaged_index.SalvagedIndex.{SalvagedIndex}
use Rattle.ii_directory.specs.Directory.{Files}
use Rattle.ii_store.specs.Index.{Index, ◌>>=◌, meta_entry_at, file_in, num_docs_in, used_slot}

-- the bytes of a file, and its fault
pub record SalvagedFileState : Type 0 where
  pub bytes : List ℕ
  pub fault : Option IndexFault

-- the number of documents in a `meta` file, and each file of its slot
pub record SalvagedIndexState : Type 0 where
  pub num_docs : ℕ
  pub schema : SalvagedFileState
  pub terms : SalvagedFileState
  pub postings : SalvagedFileState
  pub positions : SalvagedFileState
  pub fieldnorms : SalvagedFileState

-- the model of a file in memory
abbrev pub file_view : SalvagedFile → SalvagedFileState
file_view f = record { bytes = f.bytes.items; fault = f.fault }

-- the model of a salvaged index in memory
abbrev pub salvaged_view : SalvagedIndex → SalvagedIndexState
salvaged_view i = record {
  num_docs = i.num_docs;
  schema = file_view i.schema;
  terms = file_view i.terms;
  postings = file_view i.postings;
  positions = file_view i.positions;
  fieldnorms = file_view i.fieldnorms;
}

-- the file of one kind
abbrev pub file_of : SalvagedIndexState → Kind → SalvagedFileState
file_of i Schema = i.schema
file_of i Terms = i.terms
file_of i Postings = i.postings
file_of i Positions = i.positions
file_of i FieldNorms = i.fieldnorms

-- the bytes of all files as an index
abbrev pub salvaged_bytes : SalvagedIndexState → Index
salvaged_bytes i = record {
  num_docs = i.num_docs;
  schema = i.schema.bytes;
  terms = i.terms.bytes;
  postings = i.postings.bytes;
  positions = i.positions.bytes;
  fieldnorms = i.fieldnorms.bytes;
}

-- a file that is as it was saved
abbrev pub sound_file : List ℕ → SalvagedFileState
sound_file bytes = record { bytes = bytes; fault = None }

-- all files of an index, as they were saved
abbrev pub sound_index : Index → SalvagedIndexState
sound_index i = record {
  num_docs = i.num_docs;
  schema = sound_file i.schema;
  terms = sound_file i.terms;
  postings = sound_file i.postings;
  positions = sound_file i.positions;
  fieldnorms = sound_file i.fieldnorms;
}

-- all bytes of a file, none if it is missing, and how it differs from its entry in `meta`
unfoldable pub salvaged_in : Kind → List ℕ → Option (List ℕ) → SalvagedFileState
salvaged_in kind entry found = record { bytes = unwrap_or found []; fault = result_err (file_in kind entry found) }

-- the remains of the index that a `meta` file and the files of its slot hold
unfoldable pub salvaged_at : List ℕ → (Kind → Option (List ℕ)) → Result SalvagedIndexState IndexFault
salvaged_at meta files = do
  num_docs ← num_docs_in meta
  Ok (record {
    num_docs = num_docs;
    schema = salvaged_in Schema (drop (meta_entry_at Schema) meta) (files Schema);
    terms = salvaged_in Terms (drop (meta_entry_at Terms) meta) (files Terms);
    postings = salvaged_in Postings (drop (meta_entry_at Postings) meta) (files Postings);
    positions = salvaged_in Positions (drop (meta_entry_at Positions) meta) (files Positions);
    fieldnorms = salvaged_in FieldNorms (drop (meta_entry_at FieldNorms) meta) (files FieldNorms);
  })

-- the remains of the index of a `meta` file, if there is one
abbrev pub salvaged_by : Option (List ℕ) → (Kind → Option (List ℕ)) → Result SalvagedIndexState IndexFault
salvaged_by None files = Err NoIndex
salvaged_by (Some meta) files = salvaged_at meta files

-- the remains of the index of a folder, or the fault of its `meta`
unfoldable pub salvaged : Files → Result SalvagedIndexState IndexFault
salvaged files = salvaged_by (files Meta) (λ kind. files (File (used_slot (files Meta)) kind))
