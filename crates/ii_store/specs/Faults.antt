-- Faults of directories and of indexes, combined.
use Rattle.ii_directory.specs.declared.faults.DirectoryFault.{DirectoryFault}
use Rattle.ii_store.specs.declared.faults.IndexFault.{IndexFault}
use Rattle.ii_store.specs.declared.faults.StoreFault.{StoreFault}
use Rattle.ii_store.specs.declared.faults.StoreFault.TheVariants as faults
use Rattle.ii_directory.specs.Directory.{IsRefusal}

-- a directory fault
abbrev pub of_directory : DirectoryFault → StoreFault
of_directory fault = faults.Directory fault

-- an index fault
abbrev pub of_index : IndexFault → StoreFault
of_index fault = faults.Index fault

-- the system refused a call
abbrev pub IsRefused : StoreFault → Type 0
IsRefused (faults.Directory fault) = IsRefusal fault
IsRefused (faults.Index fault) = ⊥
