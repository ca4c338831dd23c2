use Rattle.std.proofs.Common.{◌≡◌, length}
use Rattle.ii_postings_writer.specs.PostingsWriter.{text_piece, text_state}
use Rattle.ii_postings_writer.proofs.TextLaws.{IsIndexing}
use Rattle.ii_postings_writer.proofs.postings_writer.SpecializedPostingsWriterPostingsWriter.index_text.Given as goal

abbrev pub invariant-loop-token_stream : goal.invariant-loop-token_stream
invariant-loop-token_stream g l = record {
  indexing : IsIndexing (text_piece l.doc_id l.fn.term_buffer (g.S.TokenStream.to_come l.fn.token_stream)) l.begin (g.S.TokenStream.to_come l.fn.token_stream) (g.S.TokenStream.to_come l.token_stream)
      (text_state l.fn.ctx.term_index l.fn.self l.fn.indexing_position) (text_state l.ctx.term_index l.self l.indexing_position);
  same : l.term_buffer ≡ l.fn.term_buffer;
  paths : l.ctx.path_to_unordered_id ≡ l.fn.ctx.path_to_unordered_id;
}

abbrev pub decreases-loop-token_stream : goal.decreases-loop-token_stream
decreases-loop-token_stream g l = length (g.S.TokenStream.to_come l.token_stream)
