use Rattle.std.proofs.Common.{ap, subst, ◌∙◌}
use Rattle.std.specs.List.{count_by}
use Rattle.ii_directory.specs.declared.name.Name.TheVariants.{Meta}
use Rattle.ii_directory.specs.Directory.{Elapses}
use Rattle.ii_store.specs.Collect.{CountsGarbage, HasNoGarbage, IsCollected, KeepsOthers, is_garbage}
use Rattle.ii_store.specs.IndexMeta.{meta_view}
use Rattle.ii_store.specs.Segments.{list_in}
use Rattle.ii_store.proofs.CollectLaws.{collected_all, kept_index, one_list, same_list}
use Rattle.ii_store.proofs.collect.collect.Goals as goal

pub returns-in_err-removed-clause-leaves_same : goal.returns-in_err-removed-clause-leaves_same
returns-in_err-removed-clause-leaves_same g c = λ known.
    let d = g.D.Directory in
    same_list d.moment d.left_since d.seen c.args.directory.now (λ f left. g.met.D.Directory.only_now c.args.directory.now f known left) (meta_view c.in_ok-meta.meta) c.remove_garbage.new.directory (c.in_ok-meta.ensures.answers known) (c.remove_garbage.ensures.time known)

pub returns-clause-removed : goal.returns-clause-removed
returns-clause-removed g c = λ known m is.
    let d = g.D.Directory in
    let old = d.seen c.args.directory.now in
    let new = d.seen c.remove_garbage.new.directory in
    let same = one_list (meta_view c.in_ok-meta.meta) m (list_in (old Meta)) (c.in_ok-meta.ensures.answers known) is in
    let collected = subst (λ ns. IsCollected (meta_view c.in_ok-meta.meta) ns old new) c.as_slice.ensures.value (c.in_ok-removed.ensures.collected known) in
    subst (λ n. HasNoGarbage n new) same (collected_all (meta_view c.in_ok-meta.meta) c.in_ok-names.names.items old new (c.in_ok-names.ensures.listed known) collected)

pub returns-clause-keeps : goal.returns-clause-keeps
returns-clause-keeps g c = λ known m is.
    let d = g.D.Directory in
    let old = d.seen c.args.directory.now in
    let new = d.seen c.remove_garbage.new.directory in
    let same = one_list (meta_view c.in_ok-meta.meta) m (list_in (old Meta)) (c.in_ok-meta.ensures.answers known) is in
    let collected = c.in_ok-removed.ensures.collected known in
    subst (λ n. KeepsOthers n old new) same collected.kept

pub returns-clause-same : goal.returns-clause-same
returns-clause-same g c = λ known.
    let d = g.D.Directory in
    let collected = c.in_ok-removed.ensures.collected known in
    kept_index (meta_view c.in_ok-meta.meta) (d.seen c.args.directory.now) (d.seen c.remove_garbage.new.directory) (c.in_ok-meta.ensures.answers known) collected.kept

pub returns-clause-count : goal.returns-clause-count
returns-clause-count g c = λ known m is.
    let d = g.D.Directory in
    let old = d.seen c.args.directory.now in
    let same = one_list (meta_view c.in_ok-meta.meta) m (list_in (old Meta)) (c.in_ok-meta.ensures.answers known) is in
    subst (λ n. CountsGarbage n old c.in_ok-removed.removed) same
    (c.in_ok-names.names.items, c.in_ok-names.ensures.listed known, c.in_ok-removed.ensures.count ∙ ap (count_by (is_garbage (meta_view c.in_ok-meta.meta))) c.as_slice.ensures.value)

pub returns-clause-leaves_same : goal.returns-clause-leaves_same
returns-clause-leaves_same g c = λ known.
    let d = g.D.Directory in
    same_list d.moment d.left_since d.seen c.args.directory.now (λ f left. g.met.D.Directory.only_now c.args.directory.now f known left) (meta_view c.in_ok-meta.meta) c.remove_garbage.new.directory (c.in_ok-meta.ensures.answers known) (c.remove_garbage.ensures.time known)

pub returns-in_err-removed-clause-leaves_others : goal.returns-in_err-removed-clause-leaves_others
returns-in_err-removed-clause-leaves_others g c = λ known m is.
    let d = g.D.Directory in
    let old = c.args.directory.now in
    let new = c.remove_garbage.new.directory in
    let same = one_list (meta_view c.in_ok-meta.meta) m (list_in (d.seen old Meta)) (c.in_ok-meta.ensures.answers known) is in
    subst (λ n. Elapses (d.moment old) (d.moment new) (d.left_since old) (d.left_since new) (KeepsOthers n (d.seen old))) same (c.remove_garbage.ensures.time known)

pub returns-clause-leaves_others : goal.returns-clause-leaves_others
returns-clause-leaves_others g c = λ known m is.
    let d = g.D.Directory in
    let old = c.args.directory.now in
    let new = c.remove_garbage.new.directory in
    let same = one_list (meta_view c.in_ok-meta.meta) m (list_in (d.seen old Meta)) (c.in_ok-meta.ensures.answers known) is in
    subst (λ n. Elapses (d.moment old) (d.moment new) (d.left_since old) (d.left_since new) (KeepsOthers n (d.seen old))) same (c.remove_garbage.ensures.time known)
