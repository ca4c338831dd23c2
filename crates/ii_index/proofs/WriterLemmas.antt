-- The documents of a writer.
use Rattle.std.proofs.Common.{◌≡◌, Result, Ok}
use Rattle.ii_store.specs.declared.faults.IndexFault.{IndexFault}
use Rattle.ii_store.specs.IndexMeta.{MetaState}
use Rattle.ii_index.specs.declared.faults.IndexError.{IndexError}
use Rattle.ii_index.specs.declared.faults.IndexError.TheVariants as faults
use Rattle.ii_index.specs.Index.{IsOpenFault, IsSchemaFault}

-- what a list has is no schema
pub open_fault : (list : Result MetaState IndexFault) (m : MetaState) (e : IndexError) → list ≡ Ok m → IsSchemaFault m.schema e → IsOpenFault list e
open_fault list m faults.IndexAlreadyExists is why = why
open_fault list m faults.SchemaBytes is why = (m, is, why)
open_fault list m (faults.Schema fault) is why = (m, is, why)
open_fault list m (faults.Store fault) is why = absurd why
open_fault list m (faults.Commit fault) is why = why
open_fault list m (faults.Merge fault) is why = why
open_fault list m (faults.Segment place fault) is why = why
open_fault list m (faults.NoCounts place) is why = why
open_fault list m faults.TooManyDocuments is why = why
open_fault list m (faults.Documents fault) is why = why
open_fault list m (faults.Document fault) is why = why
open_fault list m faults.Uncommitted is why = why
