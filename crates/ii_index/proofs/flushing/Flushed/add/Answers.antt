use Rattle.std.proofs.Common.{◌≡◌, ◌∙◌, ◌+◌, [], ◌∷◌, ◌++◌, ap, arith, refl, subst, sym}
use Rattle.ii_alive.specs.Alive.{num_living}
use Rattle.ii_alive.proofs.RankLemmas.{all_living}
use Rattle.ii_segment_store.specs.Contents.{files_contents}
use Rattle.ii_index.specs.Index.{FlushedState}
use Rattle.ii_index.specs.Pending.{HoldsFlushed}
use Rattle.ii_index.proofs.PendingLemmas.{one_flushed}
use Rattle.ii_index.proofs.flushing.Flushed.add.Goals as goal

pub returns-in-Ok-clause-holds : goal.returns-in-Ok-clause-holds
returns-in-Ok-clause-holds g c = λ known entries ss s held own.
    let old = g.D.Directory.seen c.args.directory.now in
    let new = g.D.Directory.seen c.add.new.directory in
    let files = c.args.segment.now in
    let x : FlushedState = record { list = c.self.inside.list; first = c.self.inside.first; num_docs = c.self.inside.num_docs } in
    let y : FlushedState = record { list = c.in-Ok.list; first = c.self.inside.first; num_docs = c.self.inside.num_docs + files.num_docs } in
    let living : num_living s.alive ≡ files.num_docs = ap num_living (sym own.holds.alive) ∙ all_living files.num_docs in
    let many : y.num_docs ≡ x.num_docs + num_living s.alive = omega (arith, living) in
    subst (λ (z : FlushedState). HoldsFlushed entries old z ss → HoldsFlushed entries new y (ss ++ s ∷ [])) c.self.view_is
    (λ h. one_flushed entries old new x y ss (files_contents files) s h own (c.in-Ok.ensures.pending known h.pending) (c.in-Ok.ensures.follows known h.follows) refl many (c.in-Ok.ensures.holds known h.pending.below)
    (c.in-Ok.ensures.same known h.pending)) held
