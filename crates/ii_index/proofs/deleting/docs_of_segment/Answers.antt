use Rattle.std.proofs.Common.{inl, inr, length, refl}
use Rattle.ii_segment_store.specs.Contents.{segment_contents}
use Rattle.ii_index.proofs.DeleteLemmas.{all_reached, files_reached}
use Rattle.ii_index.proofs.ReachLemmas.{no_counts, no_docs, some_counts, some_docs}
use Rattle.ii_index.proofs.deleting.docs_of_segment.Goals as goal
use Rattle.ii_index.specs.declared.deletes.Scope.TheVariants.{Committed}

pub returns-then-is_empty-clause-docs : goal.returns-then-is_empty-clause-docs
returns-then-is_empty-clause-docs c = record {
  docs_are = files_reached Committed c.args.schema.now c.args.deletes.now (segment_contents c.args.segment) c.in-Ok.index c.in-Ok-docs_reached.docs.items c.in-Ok.ensures.ok c.in-Ok-docs_reached.ensures.docs;
  counted = inl (no_docs c.in-Ok-docs_reached.docs.items c.as_slice.result.now c.is_empty.result c.as_slice.ensures.value c.is_empty.ensures c.if-is_empty.true);
  reached = λ s h doc. all_reached Committed c.args.schema.now (length s.alive) c.in-Ok.index s.tokens c.args.deletes.now c.in-Ok-docs_reached.docs.items (c.in-Ok.ensures.holds (length s.alive) s.tokens h.lists h.norms) c.requires c.in-Ok-docs_reached.ensures.docs doc;
}

pub returns-then-not-has_counts-clause-fault : goal.returns-then-not-has_counts-clause-fault
returns-then-not-has_counts-clause-fault c =
    let docs = c.in-Ok-docs_reached.docs.items in (
      refl,
      no_counts c.args.segment.files.counts c.is_some-has_counts.result c.is_some-has_counts.ensures c.if-not-has_counts.true,
      docs,
      files_reached Committed c.args.schema.now c.args.deletes.now (segment_contents c.args.segment) c.in-Ok.index docs c.in-Ok.ensures.ok c.in-Ok-docs_reached.ensures.docs,
      some_docs docs c.as_slice.result.now c.is_empty.result c.as_slice.ensures.value c.is_empty.ensures c.if-is_empty.false,
    )

pub returns-clause-docs : goal.returns-clause-docs
returns-clause-docs c = record {
  docs_are = files_reached Committed c.args.schema.now c.args.deletes.now (segment_contents c.args.segment) c.in-Ok.index c.in-Ok-docs_reached.docs.items c.in-Ok.ensures.ok c.in-Ok-docs_reached.ensures.docs;
  counted = inr (some_counts c.args.segment.files.counts c.is_some-has_counts.result c.is_some-has_counts.ensures c.if-not-has_counts.false);
  reached = λ s h doc. all_reached Committed c.args.schema.now (length s.alive) c.in-Ok.index s.tokens c.args.deletes.now c.in-Ok-docs_reached.docs.items (c.in-Ok.ensures.holds (length s.alive) s.tokens h.lists h.norms) c.requires c.in-Ok-docs_reached.ensures.docs doc;
}
