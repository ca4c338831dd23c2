use Rattle.ii_segment_store.specs.Contents.{index_contents}
use Rattle.ii_segment_store.proofs.CommitLaws.{holds_none, leaves_index}
use Rattle.ii_segment_store.proofs.committing.upgrade.Goals as goal

pub returns-in-Ok-clause-leaves_same : goal.returns-in-Ok-clause-leaves_same
returns-in-Ok-clause-leaves_same g c = λ known.
    let d = g.D.Directory in
    let old = c.args.directory.now in
    let wanted = index_contents (d.seen old) in
    leaves_index d.moment d.left_since d.seen old (λ f left. g.met.D.Directory.only_now old f known left) old wanted (holds_none d.moment d.left_since d.seen old wanted)

pub returns-in-Err-clause-leaves_same : goal.returns-in-Err-clause-leaves_same
returns-in-Err-clause-leaves_same g c = λ known.
    let d = g.D.Directory in
    let old = c.args.directory.now in
    let wanted = index_contents (d.seen old) in
    leaves_index d.moment d.left_since d.seen old (λ f left. g.met.D.Directory.only_now old f known left) old wanted (holds_none d.moment d.left_since d.seen old wanted)

pub returns-in-Err-load-clause-leaves_same : goal.returns-in-Err-load-clause-leaves_same
returns-in-Err-load-clause-leaves_same g c = λ known.
    let d = g.D.Directory in
    let old = c.args.directory.now in
    let wanted = index_contents (d.seen old) in
    leaves_index d.moment d.left_since d.seen old (λ f left. g.met.D.Directory.only_now old f known left) old wanted (holds_none d.moment d.left_since d.seen old wanted)

pub returns-in-Ok-upgrade_from-clause-leaves_same : goal.returns-in-Ok-upgrade_from-clause-leaves_same
returns-in-Ok-upgrade_from-clause-leaves_same g c = λ known.
    let d = g.D.Directory in
    let old = c.args.directory.now in
    let new = c.upgrade_from.new.directory in
    leaves_index d.moment d.left_since d.seen old (λ f left. g.met.D.Directory.only_now old f known left) new (index_contents (d.seen old)) (c.upgrade_from.ensures.time known)

pub returns-in-Err-upgrade_from-clause-leaves_same : goal.returns-in-Err-upgrade_from-clause-leaves_same
returns-in-Err-upgrade_from-clause-leaves_same g c = λ known.
    let d = g.D.Directory in
    let old = c.args.directory.now in
    let new = c.upgrade_from.new.directory in
    leaves_index d.moment d.left_since d.seen old (λ f left. g.met.D.Directory.only_now old f known left) new (index_contents (d.seen old)) (c.upgrade_from.ensures.time known)
