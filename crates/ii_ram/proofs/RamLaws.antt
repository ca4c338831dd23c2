-- What is written to files in memory, and why it can't be.
use Rattle.std.proofs.Common.{inl, ◌≡◌, ℕ, List, [], Option, Some, None, Result, Ok, Err, sym, ap, ◌∙◌, subst}
use Rattle.std.specs.Prelude.{◌⊎◌, IfErr, IfOk, length}
use Rattle.std.specs.List.{All}
use Rattle.std.specs.Io.KnownBytes.{Appends}
use Rattle.ii_io.specs.declared.faults.Fault.{Fault}
use Rattle.ii_io.specs.declared.faults.Fault.TheVariants.{OutOfMemory}
use Rattle.ii_base.specs.Schema.{SchemaEntry}
use Rattle.ii_definitions.specs.Tokens.{IndexToken}
use Rattle.ii_indexing.specs.IndexFiles.{WroteIndex}
use Rattle.ii_indexing.specs.declared.index_writers.IndexWriters.{IndexWriters}
use Rattle.ii_reader.specs.OpenIndex.{GivesReaders, IndexHolds, NormsHold, OpenIndexState, trusted_index}
use Rattle.ii_reader.specs.InvertedIndexReader.{AllOpen, IsRefusal}
use Rattle.ii_reader.proofs.KnownLemmas.{readers_open, readers_trusted}
use Rattle.ii_indexing.specs.RamFiles.{empty_files}
use Rattle.ii_io.specs.declared.faults.Part.{Part}
use Rattle.ii_ram.specs.OpenedFiles.{OpensFiles}

pub appended : (bytes : List ℕ) (o : Option (List ℕ)) → Appends (Some []) o bytes → o ≡ Some bytes
appended bytes None h = absurd h
appended bytes (Some ys) h = ap (λ (xs : List ℕ). Some xs) h

-- the four files in memory
pub in_ram : {W : Type 0} (entries : List SchemaEntry) (n : ℕ) (old new : IndexWriters W) (ts : List IndexToken) → old ≡ empty_files → (w : WroteIndex entries n old new ts)
    → (new.terms.contents ≡ Some w.terms.terms) × (new.postings.contents ≡ Some w.terms.postings) × (new.positions.contents ≡ Some w.terms.positions) × (new.fieldnorms.contents ≡ Some w.norms.fieldnorms)
in_ram {W} entries n old new ts empty w = (
  appended w.terms.terms new.terms.contents (subst (λ (o : Option (List ℕ)). Appends o new.terms.contents w.terms.terms) (ap (λ (f : IndexWriters W). f.terms.contents) empty) w.terms.wrote_terms.appends),
  appended w.terms.postings new.postings.contents (subst (λ (o : Option (List ℕ)). Appends o new.postings.contents w.terms.postings) (ap (λ (f : IndexWriters W). f.postings.contents) empty) w.terms.wrote_postings.appends),
  appended w.terms.positions new.positions.contents (subst (λ (o : Option (List ℕ)). Appends o new.positions.contents w.terms.positions) (ap (λ (f : IndexWriters W). f.positions.contents) empty) w.terms.wrote_positions.appends),
  appended w.norms.fieldnorms new.fieldnorms.contents (subst (λ (o : Option (List ℕ)). Appends o new.fieldnorms.contents w.norms.fieldnorms) (ap (λ (f : IndexWriters W). f.fieldnorms.contents) empty) w.norms.wrote.appends),
)

-- what opening them gives: the readers, with the norms
abbrev pub GivesAll : List SchemaEntry → ℕ → List IndexToken → Result OpenIndexState Fault → Type 0
GivesAll entries n ts r = GivesReaders entries ts r × IfOk r (λ index. NormsHold entries n index.fieldnorms ts)

-- an index that was opened and is trusted
pub index_holds : (entries : List SchemaEntry) (n : ℕ) (ts : List IndexToken) (index : OpenIndexState) → GivesAll entries n ts (Ok index) → IndexHolds entries n (trusted_index index) ts
index_holds entries n ts index h = record { readers = readers_trusted entries index.readers ts h.0; norms = h.1 }

-- each term of an index that was just written opens
pub all_open : (entries : List SchemaEntry) (n : ℕ) (ts : List IndexToken) (index : OpenIndexState) (r : Result OpenIndexState Fault) → r ≡ Ok index → GivesAll entries n ts r → length index.readers ≡ length entries → All AllOpen index.readers
all_open entries n ts index r is gives many =
    readers_open entries index.readers ts (subst (λ (r : Result OpenIndexState Fault). GivesAll entries n ts r) is gives).0 many

pub readers_fault : (entries : List SchemaEntry) (ts : List IndexToken) (P : Fault → Type 0) (r : Result OpenIndexState Fault) → GivesReaders entries ts r → IfErr r (λ e. (e ≡ OutOfMemory) ⊎ P e)
readers_fault entries ts P (Ok index) h = tt
readers_fault entries ts P (Err e) h = inl h

-- a file that was taken out of its writer
pub same_file : (bytes items known : List ℕ) (o : Option (List ℕ)) → bytes ≡ items → Some items ≡ o → o ≡ Some known → known ≡ bytes
same_file bytes items known o taken now is = sym (inside (now ∙ is)) ∙ sym taken
  where
    inside : Some items ≡ Some known → items ≡ known
    inside e = cc

-- how files open
pub opens_files : (files : Result OpenIndexState Part) (r : Result OpenIndexState Fault) → IfOk r (λ index. files ≡ Ok index) → IfErr r (IsRefusal files) → OpensFiles files r
opens_files files (Ok index) ok err = ok
opens_files files (Err fault) ok err = err
