use Rattle.std.proofs.Common.{List, Some, ap, subst, sym, ◌∙◌, Bool}
use Rattle.ii_alive.specs.AliveBytes.{alive_bytes}
use Rattle.ii_directory.specs.declared.name.Name.TheVariants.{Segment}
use Rattle.ii_directory.specs.declared.name.SegmentComponent.TheVariants.{Alive}
use Rattle.ii_directory.specs.Directory.{IsPut}
use Rattle.ii_store.specs.IndexMeta.{SegmentState, segment_view}
use Rattle.ii_segment_store.specs.Changes.{IsChangedTo, with_flags}
use Rattle.ii_segment_store.proofs.ChangeLaws.{flagged_reads}
use Rattle.ii_segment_store.proofs.deleting.flag_segment.Goals as goal

pub returns-clause-changed : goal.returns-clause-changed
returns-clause-changed g c = λ known.
    let d = g.D.Directory in
    let s = segment_view c.args.segment.now in
    let docs = c.args.docs.now in
    let generation = c.args.generation in
    let old = d.seen c.args.directory.now in
    let new = d.seen c.put_flags.new.directory in
    let put = subst (λ (flags : List Bool). IsPut (Segment s.id (Alive generation)) (Some (alive_bytes flags)) old new) c.delete_docs.ensures (c.in_ok-put_flags.ensures.put known) in
    subst (λ (t : SegmentState). IsChangedTo docs generation s t old new) (sym (c.in_ok-put_flags.ensures.listed ∙ ap (with_flags s generation) c.delete_docs.ensures))
    (flagged_reads docs s generation c.in_ok-alive.alive old new c.requires.later (c.in_ok-alive.ensures.answers known) put)
