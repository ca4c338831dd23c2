use Rattle.std.proofs.Common.{arith}
use Rattle.ii_postings_writer.proofs.TermIndexLemmas.{on_ok}
use Rattle.ii_postings_writer.proofs.TextLaws.{records_subscribed}
use Rattle.ii_postings_writer.proofs.postings_writer.SpecializedPostingsWriterPostingsWriter.subscribe.Goals as goal

pub returns-clause-tokens : goal.returns-clause-tokens
returns-clause-tokens c =
    on_ok c.record-2.result _ _ (records_subscribed c.args.self.now.value_option c.args.doc c.args.pos c.args.term.now c.args.ctx.now.term_index c.record-2.new.terms (omega (arith, c.field.type_inv, c.field.ensures))) (rw (← c.record.view_is) c.record-2.ensures.recorded)
