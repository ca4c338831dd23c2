use Rattle.std.proofs.Common.{◌≡◌, ◌-◌, ◌++◌, length, map}
use Rattle.std.specs.Prelude.{filter}
use Rattle.std.specs.List.{range_with_len}
use Rattle.ii_fieldnorm.specs.Readers.{id_of_doc}
use Rattle.ii_segments.specs.Segments.{is_living, living_docs}
use Rattle.ii_merger.proofs.norms.push_living_ids.Given as goal

abbrev pub invariant-loop-doc : goal.invariant-loop-doc
invariant-loop-doc l = l.ids.items ++ map (id_of_doc l.norms) (filter (is_living l.alive) (range_with_len l.doc (length l.alive - l.doc))) ≡ l.fn.ids.items ++ map (id_of_doc l.norms) (living_docs l.alive)
