use Rattle.std.proofs.Common.{◌≡◌, ◌*◌, ◌-◌, ◌++◌, length}
use Rattle.ii_doc_store.specs.StoreReader.{checkpoints_in}
use Rattle.ii_doc_store.proofs.reader.read_checkpoints.Given as goal

-- what was read, and what is still to be read
abbrev pub invariant-loop : goal.invariant-loop
invariant-loop l = (l.checkpoints.items ++ checkpoints_in (l.count - l.counter) l.rest ≡ checkpoints_in l.count l.index) × (length l.rest ≡ 44 * (l.count - l.counter))
