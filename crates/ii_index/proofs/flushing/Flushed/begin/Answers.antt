use Rattle.std.proofs.Common.{◌≡◌, ◌∙◌, ap, length, refl, sym}
use Rattle.std.proofs.lemmas.List.{length-map}
use Rattle.ii_index.specs.Index.{FlushedState}
use Rattle.ii_index.proofs.PendingLemmas.{none_flushed}
use Rattle.ii_index.proofs.flushing.Flushed.begin.Goals as goal
use Rattle.ii_store.specs.IndexMeta.{MetaState, segment_view}

pub returns-in-Ok-clause-none : goal.returns-in-Ok-clause-none
returns-in-Ok-clause-none g c = λ known entries.
    let x : FlushedState = record { list = c.in-Ok.list; first = length c.as_slice-first.result.now; num_docs = 0 } in
    let many : length c.as_slice-first.result.now ≡ length c.in-Ok.list.segments = ap length c.as_slice-first.ensures.value
    ∙ sym (length-map c.list.result.now.segments.items segment_view)
    ∙ ap (λ (m : MetaState). length m.segments) c.list.ensures in
    none_flushed entries (g.D.Directory.seen c.args.directory.now) x (c.in-Ok.ensures.pending known) (c.in-Ok.ensures.follows known) many refl (c.in-Ok.ensures.holds known)
