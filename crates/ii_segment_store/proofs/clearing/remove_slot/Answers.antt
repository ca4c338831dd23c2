use Rattle.ii_directory.specs.declared.name.Kind.TheVariants.{Schema}
use Rattle.ii_directory.specs.declared.name.Name.TheVariants.{File}
use Rattle.ii_directory.specs.Directory.{IsPut}
use Rattle.std.specs.Prelude.{None}
use Rattle.ii_directory.proofs.Elapsing.{at_ok}
use Rattle.ii_segment_store.specs.Commits.{KeepsButSlot}
use Rattle.ii_segment_store.proofs.ClearLaws.{slot_keeps, slot_time}
use Rattle.ii_segment_store.proofs.clearing.remove_slot.Goals as goal

pub returns-clause-keeps : goal.returns-clause-keeps
returns-clause-keeps g c = λ known.
    let d = g.D.Directory in
    let old = d.seen c.args.directory.now in
    let mid = d.seen c.remove_lists.new.directory in
    let new = d.seen c.remove.new.self in
    at_ok (IsPut (File c.args.slot Schema) None mid new) (KeepsButSlot c.args.slot old new) c.remove.result
    (λ put. slot_keeps c.args.slot Schema old mid new (c.in_ok-remove_lists.ensures.keeps known) put.elsewhere) (c.remove.ensures.removed (c.in_ok-remove_lists.ensures.known known))

pub returns-clause-time : goal.returns-clause-time
returns-clause-time g c = λ known.
    let d = g.D.Directory in
    slot_time d.moment d.left_since d.seen c.args.directory.now c.remove_lists.new.directory c.remove.new.self c.args.slot c.args.slot Schema (c.in_ok-remove_lists.ensures.keeps known) (c.remove_lists.ensures.time known)
    (c.remove.ensures.time (c.in_ok-remove_lists.ensures.known known))
