use Rattle.std.proofs.Common.{⊎_elim, map}
use Rattle.ii_store.specs.IndexMeta.{meta_view}
use Rattle.ii_segment_store.specs.Sources.{source_contents}
use Rattle.ii_segment_store.specs.NewSegments.{new_contents}
use Rattle.nequllpa_merging.proofs.JoinLemmas.{joined_same, kept_same, last_held}
use Rattle.nequllpa_merging.proofs.joining.merge_last.Goals as goal

pub returns-in-Ok-replace_last-clause-same : goal.returns-in-Ok-replace_last-clause-same
returns-in-Ok-replace_last-clause-same g c = λ known ss holds.
    let old = g.D.Directory.seen c.args.directory.now in
    let new = g.D.Directory.seen c.replace_last.new.directory in
    let m = meta_view c.in-Ok.list in
    let entries = c.args.schema.now in
    let listed = c.in-Ok.ensures.answers known in
    let last = last_held entries c.args.first old m ss (map (source_contents g.D.File.ReadAt.bytes) c.in-Ok-open_last.last.items) listed (c.in-Ok-open_last.ensures.answers known) holds in
    joined_same c.merge_keeps.ensures entries c.args.first old new m ss (new_contents c.in-Ok-merge_segments.segment) listed holds (c.in-Ok-merge_segments.ensures.holds known (c.in-Ok-open_last.ensures.known known) _ last) (c.in-Ok-replace_last.ensures.replaced known)

pub returns-in-Ok-replace_last-clause-leaves_same : goal.returns-in-Ok-replace_last-clause-leaves_same
returns-in-Ok-replace_last-clause-leaves_same g c = λ known ss holds files left.
    let old = g.D.Directory.seen c.args.directory.now in
    let m = meta_view c.in-Ok.list in
    let entries = c.args.schema.now in
    let listed = c.in-Ok.ensures.answers known in
    let last = last_held entries c.args.first old m ss (map (source_contents g.D.File.ReadAt.bytes) c.in-Ok-open_last.last.items) listed (c.in-Ok-open_last.ensures.answers known) holds in
    ⊎_elim (λ same. kept_same entries old files ss same holds)
    (λ written. joined_same c.merge_keeps.ensures entries c.args.first old files m ss (new_contents c.in-Ok-merge_segments.segment) listed holds (c.in-Ok-merge_segments.ensures.holds known (c.in-Ok-open_last.ensures.known known) _ last) written)
    ((c.replace_last.ensures.leaves_one known).each files left)

pub returns-clause-leaves_same : goal.returns-clause-leaves_same
returns-clause-leaves_same g c = λ known ss holds files left.
    let old = g.D.Directory.seen c.args.directory.now in
    let m = meta_view c.in-Ok.list in
    let entries = c.args.schema.now in
    let listed = c.in-Ok.ensures.answers known in
    let last = last_held entries c.args.first old m ss (map (source_contents g.D.File.ReadAt.bytes) c.in-Ok-open_last.last.items) listed (c.in-Ok-open_last.ensures.answers known) holds in
    ⊎_elim (λ same. kept_same entries old files ss same holds)
    (λ written. joined_same c.merge_keeps.ensures entries c.args.first old files m ss (new_contents c.in-Ok-merge_segments.segment) listed holds (c.in-Ok-merge_segments.ensures.holds known (c.in-Ok-open_last.ensures.known known) _ last) written)
    ((c.replace_last.ensures.leaves_one known).each files left)
