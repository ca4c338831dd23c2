use Rattle.std.proofs.Common.{[], ◌∷◌, ◌++◌, inr, refl}
use Rattle.ii_segment_store.specs.Contents.{files_contents}
use Rattle.ii_segment_store.specs.Pending.{with_next}
use Rattle.ii_segment_store.proofs.CommitLaws.{holds_none, leaves_index}
use Rattle.ii_tokenizers.specs.Tokenizers.{analyzed_in}
use Rattle.ii_index.specs.Segments.{segment_of}
use Rattle.ii_index.proofs.PendingLemmas.{written_segment}
use Rattle.ii_index.proofs.flushing.flush_documents.Goals as goal

pub returns-in-Err-clause-leaves_same : goal.returns-in-Err-clause-leaves_same
returns-in-Err-clause-leaves_same g c = λ known k us pending.
    let d = g.D.Directory in
    let old = c.args.directory.now in
    leaves_index d.moment d.left_since d.seen old (λ f left. g.met.D.Directory.only_now old f known left) old _ (holds_none d.moment d.left_since d.seen old _)

pub returns-in-Err-begun-clause-leaves_same : goal.returns-in-Err-begun-clause-leaves_same
returns-in-Err-begun-clause-leaves_same g c = λ known k us pending.
    let d = g.D.Directory in
    let old = c.args.directory.now in
    leaves_index d.moment d.left_since d.seen old (λ f left. g.met.D.Directory.only_now old f known left) old _ (holds_none d.moment d.left_since d.seen old _)

pub returns-in-Ok-add-clause-written : goal.returns-in-Ok-add-clause-written
returns-in-Ok-add-clause-written g c = λ known k us pending.
    let s = c.args.schema.now in
    let own = written_segment s c.args.documents.schema c.tokenizers.result.now c.args.documents c.in-Ok.segment c.requires.schema c.tokenizers.ensures c.in-Ok.ensures.counted c.in-Ok.ensures.holds in
    record {
      segments = pending.segments ++ segment_of (analyzed_in s.tokenizers) c.args.documents ∷ [];
      flushed = c.in-Ok-add.ensures.holds known s.schema pending.segments (segment_of (analyzed_in s.tokenizers) c.args.documents) (c.in-Ok-begun.ensures.holds known s.schema pending.segments pending.holds) own;
      have = pending.have;
    }

pub returns-in-Ok-add-clause-list : goal.returns-in-Ok-add-clause-list
returns-in-Ok-add-clause-list g c = λ known.
    let s = c.args.schema.now in
    let own = written_segment s c.args.documents.schema c.tokenizers.result.now c.args.documents c.in-Ok.segment c.requires.schema c.tokenizers.ensures c.in-Ok.ensures.counted c.in-Ok.ensures.holds in
    (c.in-Ok-begun.flushed.list, c.in-Ok-begun.ensures.list known, inr (files_contents c.in-Ok.segment, own.holds, c.in-Ok-add.ensures.list))

pub returns-in-Ok-add-clause-same : goal.returns-in-Ok-add-clause-same
returns-in-Ok-add-clause-same g c = λ known k us pending.
    let entries = c.args.schema.now.schema in
    c.in-Ok-add.ensures.same known entries pending.segments (c.in-Ok-begun.ensures.holds known entries pending.segments pending.holds)

pub returns-in-Ok-add-clause-leaves_same : goal.returns-in-Ok-add-clause-leaves_same
returns-in-Ok-add-clause-leaves_same g c = λ known k us pending.
    let entries = c.args.schema.now.schema in
    c.add.ensures.leaves_same known entries pending.segments (c.in-Ok-begun.ensures.holds known entries pending.segments pending.holds)

pub returns-clause-leaves_same : goal.returns-clause-leaves_same
returns-clause-leaves_same g c = λ known k us pending.
    let entries = c.args.schema.now.schema in
    c.add.ensures.leaves_same known entries pending.segments (c.in-Ok-begun.ensures.holds known entries pending.segments pending.holds)

pub returns-clause-fault : goal.returns-clause-fault
returns-clause-fault g c = λ known.
    let s = c.args.schema.now in
    let own = written_segment s c.args.documents.schema c.tokenizers.result.now c.args.documents c.in-Ok.segment c.requires.schema c.tokenizers.ensures c.in-Ok.ensures.counted c.in-Ok.ensures.holds in
    let contents = files_contents c.in-Ok.segment in
    let p = with_next c.in-Ok-begun.flushed.list contents in
    inr (p, (c.in-Ok-begun.flushed.list, c.in-Ok-begun.ensures.list known, inr (contents, own.holds, refl)), c.in-Err-add.ensures.fault)
