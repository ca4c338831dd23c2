-- How files in memory open.
use Rattle.std.specs.Prelude.{◌≡◌, Result, Ok, Err}
use Rattle.ii_io.specs.declared.faults.Fault.{Fault}
use Rattle.ii_io.specs.declared.faults.Part.{Part}
use Rattle.ii_reader.specs.InvertedIndexReader.{IsRefusal}
use Rattle.ii_reader.specs.OpenIndex.{OpenIndexState}

-- Opening files gives their index, or fails with their first corrupt part or `OutOfMemory`.
abbrev pub OpensFiles : Result OpenIndexState Part → Result OpenIndexState Fault → Type 0
OpensFiles files (Ok index) = files ≡ Ok index
OpensFiles files (Err fault) = IsRefusal files fault
