use Rattle.std.proofs.Common.{◌≡◌, Ok}
use Rattle.ii_directory.specs.declared.name.Name.TheVariants.{Meta}
use Rattle.ii_store.specs.IndexMeta.{meta_view}
use Rattle.ii_store.specs.Segments.{KeepsOtherFiles, index_with, list_in, segments_of}
use Rattle.ii_store.proofs.CommitLaws.{leaves_list, replaced_index}
use Rattle.ii_directory.proofs.Elapsing.{both_ok}
use Rattle.ii_store.proofs.segments.commit.Goals as goal

pub returns-clause-index : goal.returns-clause-index
returns-clause-index g c = λ known.
    let d = g.D.Directory in
    let m = meta_view c.args.new.now in
    let old = d.seen c.args.directory.now in
    let new = d.seen c.replace_list.new.directory in
    both_ok (list_in (new Meta) ≡ Ok m) (KeepsOtherFiles old new) (segments_of new ≡ index_with m old) c.replace_list.result (replaced_index m old new) (c.replace_list.ensures.listed known) (c.replace_list.ensures.keeps known)

pub returns-clause-leaves_one : goal.returns-clause-leaves_one
returns-clause-leaves_one g c = λ known.
    let d = g.D.Directory in
    leaves_list d.moment d.left_since d.seen c.args.directory.now (meta_view c.args.new.now) (λ f left. g.met.D.Directory.only_now c.args.directory.now f known left) c.replace_list.new.directory (c.replace_list.ensures.time known)
