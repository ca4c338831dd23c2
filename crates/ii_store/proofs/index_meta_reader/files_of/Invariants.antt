use Rattle.std.proofs.Common.{◌≡◌, ◌-◌}
use Rattle.ii_store.specs.IndexMeta.{file_at, items_at}
use Rattle.ii_store.proofs.ListLoop.{with_front}
use Rattle.ii_store.proofs.index_meta_reader.files_of.Given as goal

-- what was read, and what is still to be read, is all of it
abbrev pub invariant-loop : goal.invariant-loop
invariant-loop l = with_front l.files.items (items_at (file_at l.version) (l.count - l.counter) l.rest) ≡ items_at (file_at l.version) l.count l.bytes
