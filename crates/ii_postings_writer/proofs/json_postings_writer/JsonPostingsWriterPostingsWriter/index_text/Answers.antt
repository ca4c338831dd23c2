use Rattle.std.proofs.Common.{ap, subst, refl}
use Rattle.ii_base.specs.declared.schema.index_record_option.IndexRecordOption.{IndexRecordOption}
use Rattle.ii_json.specs.LeafVisit.{IsRefusedBy}
use Rattle.ii_postings_writer.specs.PostingsWriter.{PostingsWriterState, text_fault, text_piece}
use Rattle.ii_postings_writer.proofs.TermIndexLemmas.{on_ok}
use Rattle.ii_postings_writer.proofs.TextLaws.{tokens_as}
use Rattle.ii_postings_writer.proofs.json_postings_writer.JsonPostingsWriterPostingsWriter.index_text.Goals as goal

pub returns-clause-tokens : goal.returns-clause-tokens
returns-clause-tokens g c =
    let w = c.self.inside.str_posting_writer in
    let old = ap (λ (s : PostingsWriterState). s.option) c.self.view_is in
    let count = ap (λ (s : PostingsWriterState). s.total_num_tokens) c.self.view_is in
    on_ok c.index_text.result _ _
    (λ h kind ts known. tokens_as kind _ _ c.index_text.new.self _ _ refl refl (h kind ts (tokens_as kind _ _ c.args.self.now w ts old count known)))
    c.index_text.ensures.tokens

pub returns-clause-refused : goal.returns-clause-refused
returns-clause-refused g c kind ts known =
    let w = c.self.inside.str_posting_writer in
    let words = g.S.TokenStream.to_come c.args.token_stream.now in
    let p = text_piece c.args.doc_id c.args.term_buffer.now words in
    let old = ap (λ (s : PostingsWriterState). s.option) c.self.view_is in
    let count = ap (λ (s : PostingsWriterState). s.total_num_tokens) c.self.view_is in
    subst (λ (o : IndexRecordOption). IsRefusedBy (text_fault o p c.args.indexing_position.now ts) c.index_text.result) old
    (c.index_text.ensures.refused kind ts (tokens_as kind p c.args.ctx.now.term_index c.args.self.now w ts old count known))
