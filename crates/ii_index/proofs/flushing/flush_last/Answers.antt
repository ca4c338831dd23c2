use Rattle.std.proofs.Common.{◌≡◌, arith, inl, refl}
use Rattle.ii_segment_store.proofs.CommitLaws.{holds_none, leaves_index}
use Rattle.ii_tokenizers.specs.Tokenizers.{analyzed_in}
use Rattle.ii_index.proofs.PendingLemmas.{without_last}
use Rattle.ii_index.proofs.flushing.flush_last.Goals as goal

pub returns-in-Ok-clause-written : goal.returns-in-Ok-clause-written
returns-in-Ok-clause-written g c = λ known k us pending.
    let s = c.args.schema.now in
    let none : c.args.documents.num_docs ≡ 0 = omega (arith, c.num_docs.ensures.number, c.if-num_docs-gt0.false) in
    record {
      segments = pending.segments;
      flushed = c.in-Ok.ensures.holds known s.schema pending.segments pending.holds;
      have = without_last (analyzed_in s.tokenizers) c.args.documents pending.segments none k us pending.have;
    }

pub returns-in-Ok-clause-list : goal.returns-in-Ok-clause-list
returns-in-Ok-clause-list g c = λ known.
    let none : c.args.documents.num_docs ≡ 0 = omega (arith, c.num_docs.ensures.number, c.if-num_docs-gt0.false) in
    (c.in-Ok.flushed.list, c.in-Ok.ensures.list known, inl (none, refl))

pub returns-in-Ok-clause-leaves_same : goal.returns-in-Ok-clause-leaves_same
returns-in-Ok-clause-leaves_same g c = λ known k us pending.
    let d = g.D.Directory in
    let old = c.args.directory.now in
    leaves_index d.moment d.left_since d.seen old (λ f left. g.met.D.Directory.only_now old f known left) old _ (holds_none d.moment d.left_since d.seen old _)

pub returns-clause-leaves_same : goal.returns-clause-leaves_same
returns-clause-leaves_same g c = λ known k us pending.
    let d = g.D.Directory in
    let old = c.args.directory.now in
    leaves_index d.moment d.left_since d.seen old (λ f left. g.met.D.Directory.only_now old f known left) old _ (holds_none d.moment d.left_since d.seen old _)
