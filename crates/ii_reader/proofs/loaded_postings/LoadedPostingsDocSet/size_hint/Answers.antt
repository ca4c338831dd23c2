use Rattle.std.proofs.Common.{arith, drop}
use Rattle.std.proofs.lemmas.List.{length-drop}
use Rattle.ii_reader.proofs.LoadedLemmas.{length-entries_held}
use Rattle.ii_reader.proofs.loaded_postings.LoadedPostingsDocSet.size_hint.Goals as goal

pub returns-clause-enough : goal.returns-clause-enough
returns-clause-enough c =
    let l = c.self.inside in
    let many = length-entries_held (drop l.cursor l.doc_ids.items) (drop l.cursor l.position_offsets.items) l.positions.items in
    let left = length-drop l.cursor l.doc_ids.items in
    let few = c.self.invariant.few in
    let size = c.len.ensures in
    rw (← c.self.view_is) (omega (arith, many, left, few, size))
