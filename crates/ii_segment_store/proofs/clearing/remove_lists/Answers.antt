use Rattle.std.proofs.Common.{refl}
use Rattle.ii_directory.specs.declared.name.Kind.TheVariants.{Positions, Postings, Terms}
use Rattle.ii_directory.proofs.Elapsing.{elapses_none}
use Rattle.ii_segment_store.specs.Commits.{KeepsButSlot}
use Rattle.ii_segment_store.proofs.ClearLaws.{slot_keeps, slot_time}
use Rattle.ii_segment_store.proofs.clearing.remove_lists.Goals as goal

pub returns-in_err-remove-3-clause-time : goal.returns-in_err-remove-3-clause-time
returns-in_err-remove-3-clause-time g c = λ known.
    let d = g.D.Directory in
    let slot = c.args.slot in
    let old = c.args.directory.now in
    let one = c.remove.new.self in
    let two = c.remove-2.new.self in
    let known_1 = c.in_ok-remove.ensures.known known in
    let known_2 = c.in_ok-remove-2.ensures.known known_1 in
    let none : KeepsButSlot slot (d.seen old) (d.seen old) = λ name other. refl in
    let keeps_1 = slot_keeps slot Terms (d.seen old) (d.seen old) (d.seen one) none (c.in_ok-remove.ensures.removed known).elsewhere in
    let keeps_2 = slot_keeps slot Postings (d.seen old) (d.seen one) (d.seen two) keeps_1 (c.in_ok-remove-2.ensures.removed known_1).elsewhere in
    let time_1 = slot_time d.moment d.left_since d.seen old old one slot slot Terms none (elapses_none d.moment d.left_since old (KeepsButSlot slot (d.seen old))) (c.remove.ensures.time known) in
    let time_2 = slot_time d.moment d.left_since d.seen old one two slot slot Postings keeps_1 time_1 (c.remove-2.ensures.time known_1) in
    slot_time d.moment d.left_since d.seen old two c.remove-3.new.self slot slot Positions keeps_2 time_2 (c.remove-3.ensures.time known_2)
