use Rattle.ii_directory.specs.declared.name.Slot.TheVariants.{First, Second}
use Rattle.ii_segment_store.proofs.ClearLaws.{both_time}
use Rattle.ii_segment_store.proofs.clearing.remove_both.Goals as goal

pub returns-clause-time : goal.returns-clause-time
returns-clause-time g c = λ known.
    let d = g.D.Directory in
    both_time d.moment d.left_since d.seen c.args.directory.now c.remove_slot.new.directory c.remove_slot-2.new.directory First Second (c.in_ok-remove_slot.ensures.keeps known) (c.remove_slot.ensures.time known)
    (c.remove_slot-2.ensures.time (c.in_ok-remove_slot.ensures.known known))
