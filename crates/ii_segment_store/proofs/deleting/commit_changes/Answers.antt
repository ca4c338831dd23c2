use Rattle.ii_segment_store.proofs.CommitLaws.{holds_none, leaves_index}
use Rattle.ii_segment_store.proofs.deleting.commit_changes.Goals as goal

pub returns-in-Err-clause-leaves_one : goal.returns-in-Err-clause-leaves_one
returns-in-Err-clause-leaves_one g c = λ known.
    let d = g.D.Directory in
    let old = c.args.directory.now in
    leaves_index d.moment d.left_since d.seen old (λ f left. g.met.D.Directory.only_now old f known left) old _ (holds_none d.moment d.left_since d.seen old _)

pub returns-in-Some-clause-leaves_one : goal.returns-in-Some-clause-leaves_one
returns-in-Some-clause-leaves_one g c = λ known.
    let d = g.D.Directory in
    let old = c.args.directory.now in
    leaves_index d.moment d.left_since d.seen old (λ f left. g.met.D.Directory.only_now old f known left) old _ (holds_none d.moment d.left_since d.seen old _)

pub returns-clause-leaves_one : goal.returns-clause-leaves_one
returns-clause-leaves_one g c = λ known.
    let d = g.D.Directory in
    let old = c.args.directory.now in
    leaves_index d.moment d.left_since d.seen old (λ f left. g.met.D.Directory.only_now old f known left) c.change_list.new.directory _ (c.change_list.ensures.time known)
