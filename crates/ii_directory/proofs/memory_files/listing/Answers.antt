use Rattle.std.proofs.Common.{[], subst, sym, take}
use Rattle.std.specs.Prelude.{map}
use Rattle.std.proofs.lemmas.List.{take_all}
use Rattle.ii_directory.specs.MemoryFiles.{Lists, files_after, target}
use Rattle.ii_directory.proofs.ListingLaws.{lists_all, lists_none, targets_more}
use Rattle.ii_directory.proofs.memory_files.listing.Goals as goal

pub loop-change-init : goal.loop-change-init
loop-change-init c = subst (λ names. Lists (files_after c.args.changes.now) [] names) (sym c.new-names.ensures.items) (lists_none (files_after c.args.changes.now))

pub loop-change-preserved : goal.loop-change-preserved
loop-change-preserved c =
    let files = files_after c.args.changes.now in
    subst (λ targets. Lists files targets c.push_if_there.new.names.items)
    (targets_more c.args.changes.now c.loop-change.change-index c.change-item.result c.target.result c.loop-change-test.true c.change-item.is c.target.ensures)
    (c.in_ok-push_if_there.ensures.lists (map target (take c.loop-change.change-index c.args.changes.now)) c.loop-change.invariant)

pub returns-clause-listed : goal.returns-clause-listed
returns-clause-listed c =
    let files = files_after c.args.changes.now in
    lists_all c.args.changes.now c.loop-change.names.items
    (subst (λ changes. Lists files (map target changes) c.loop-change.names.items) (take_all c.loop-change.change-index c.args.changes.now c.loop-change-test.false) c.loop-change.invariant)
