use Rattle.std.proofs.Common.{◌≡◌}
use Rattle.ii_store.specs.IndexMeta.{MetaState, meta_view}
use Rattle.ii_segment_store.specs.Contents.{index_contents, list_contents}
use Rattle.ii_segment_store.specs.Pending.{FollowsFlags, IsPending, begun}
use Rattle.ii_segment_store.proofs.PendingLaws.{begun_contents, begun_follows, begun_pending, ok_is}
use Rattle.ii_segment_store.proofs.pending.PendingSegments.begin.Goals as goal

pub returns-in-Ok-clause-pending : goal.returns-in-Ok-clause-pending
returns-in-Ok-clause-pending g c = λ known.
    let files = g.D.Directory.seen c.args.directory.now in
    let m = meta_view c.in-Ok.list in
    ok_is (λ (p : MetaState). IsPending p files) (begun m) c.of_list.result c.of_list.ensures.list (begun_pending m files (c.in-Ok.ensures.answers known))

pub returns-in-Ok-clause-holds : goal.returns-in-Ok-clause-holds
returns-in-Ok-clause-holds g c = λ known.
    let files = g.D.Directory.seen c.args.directory.now in
    let m = meta_view c.in-Ok.list in
    ok_is (λ (p : MetaState). list_contents p files ≡ index_contents files) (begun m) c.of_list.result c.of_list.ensures.list (begun_contents m files (c.in-Ok.ensures.answers known))

pub returns-in-Ok-clause-follows : goal.returns-in-Ok-clause-follows
returns-in-Ok-clause-follows g c = λ known.
    let files = g.D.Directory.seen c.args.directory.now in
    let m = meta_view c.in-Ok.list in
    ok_is (λ (p : MetaState). FollowsFlags p files) (begun m) c.of_list.result c.of_list.ensures.list (begun_follows m files (c.in-Ok.ensures.answers known))
