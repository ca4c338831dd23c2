use Rattle.std.proofs.Common.{OnOk, arith, ap, subst}
use Rattle.ii_base.specs.declared.schema.index_record_option.IndexRecordOption.{IndexRecordOption}
use Rattle.ii_postings_writer.specs.IndexingContext.{IsRecorded}
use Rattle.ii_postings_writer.specs.IndexingTerm.{term_bytes}
use Rattle.ii_postings_writer.specs.PostingsWriter.{PostingsWriterState}
use Rattle.ii_postings_writer.proofs.TermIndexLemmas.{on_ok}
use Rattle.ii_postings_writer.proofs.TextLaws.{records_subscribed}
use Rattle.ii_postings_writer.proofs.json_postings_writer.JsonPostingsWriterPostingsWriter.subscribe.Goals as goal

pub returns-clause-tokens : goal.returns-clause-tokens
returns-clause-tokens c =
    let recorded = subst (λ (o : IndexRecordOption). OnOk c.record.result (IsRecorded o c.args.doc c.args.pos (term_bytes c.args.term.now) c.args.ctx.now.term_index c.record.new.terms))
    (ap (λ (s : PostingsWriterState). s.value_option) c.self.view_is) c.record.ensures.recorded in
    on_ok c.record.result _ _ (records_subscribed c.args.self.now.value_option c.args.doc c.args.pos c.args.term.now c.args.ctx.now.term_index c.record.new.terms (omega (arith, c.field_id-field.type_inv, c.field_id-field.ensures, c.field.ensures))) recorded
