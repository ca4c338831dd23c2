use Rattle.std.proofs.Common.{rules, ◌≡◌, ◌∷◌, drop, sym, ap, ◌∙◌, subst, Some, None, [], refl, true, false, inr}
use Rattle.std.specs.Prelude.{slice_get}
use Rattle.std.proofs.lemmas.Result.{err_from_is_err_and}
use Rattle.ii_base.specs.Words.{seen_word}
use Rattle.ii_definitions.specs.Tokens.{kept_words}
use Rattle.ii_io.specs.declared.faults.Fault.TheVariants.{Limit}
use Rattle.ii_io.specs.declared.faults.LimitName.TheVariants as limit
use Rattle.ii_postings_writer.specs.IndexingTerm.{IndexingTermState}
use Rattle.ii_postings_writer.specs.PostingsWriter.{IndexesWords, RefusesWords, text_piece, text_state}
use Rattle.ii_postings_writer.proofs.TextLaws.{first_of, gap_after, next_word, text_ends, was_err, was_ok, word_refused, words_refused}
use Rattle.ii_postings_writer.proofs.postings_writer.SpecializedPostingsWriterPostingsWriter.index_text.Goals as goal

pub loop-token_stream-preserved : goal.loop-token_stream-preserved
loop-token_stream-preserved g c =
    let all = g.S.TokenStream.to_come c.args.token_stream.now in
    let rest = g.S.TokenStream.to_come c.loop-token_stream.token_stream in
    let begin = c.args.indexing_position.now.end_position in
    let w = seen_word c.token-token.result in
    let first : slice_get rest 0 ≡ Some w = sym (c.loop-token_stream-test.ensures.current refl) ∙ c.token-token.ensures in
    let parts : rest ≡ w ∷ g.S.TokenStream.to_come c.advance.new.self = first_of rest w first ∙ ap (λ ws. w ∷ ws) (sym c.loop-token_stream-test.ensures.rest) in
    let mid = text_state c.loop-token_stream.ctx.term_index c.loop-token_stream.self c.loop-token_stream.indexing_position in
    let now = text_state c.index_word.new.terms c.index_word.new.self c.index_word.new.at in
    let one : IndexesWords (text_piece c.args.doc_id c.args.term_buffer.now all) begin (kept_words (w ∷ [])) mid now =
    subst (λ (t : IndexingTermState). IndexesWords (text_piece c.args.doc_id t all) begin (kept_words (w ∷ [])) mid now) c.loop-token_stream.invariant.same (c.in_ok-index_word.ensures.indexed all) in
    record {
      indexing = next_word (text_piece c.args.doc_id c.args.term_buffer.now all) begin all rest (g.S.TokenStream.to_come c.advance.new.self) w (text_state c.args.ctx.now.term_index c.args.self.now c.args.indexing_position.now) mid now c.loop-token_stream.invariant.indexing parts one;
      same = c.in_ok-index_word.ensures.same_term ∙ c.loop-token_stream.invariant.same;
      paths = c.loop-token_stream.invariant.paths;
    }

pub returns-in_err-index_word-clause-refused : goal.returns-in_err-index_word-clause-refused
returns-in_err-index_word-clause-refused g c kind ts known =
    let all = g.S.TokenStream.to_come c.args.token_stream.now in
    let rest = g.S.TokenStream.to_come c.loop-token_stream.token_stream in
    let begin = c.args.indexing_position.now.end_position in
    let p = text_piece c.args.doc_id c.args.term_buffer.now all in
    let w = seen_word c.token-token.result in
    let first : slice_get rest 0 ≡ Some w = sym (c.loop-token_stream-test.ensures.current refl) ∙ c.token-token.ensures in
    let parts : rest ≡ w ∷ drop 1 rest = first_of rest w first in
    let mid = text_state c.loop-token_stream.ctx.term_index c.loop-token_stream.self c.loop-token_stream.indexing_position in
    let e = err_from_is_err_and c.from_residual.result c.from_residual.ensures.1 in
    let fault = c.in_err-index_word.field-0.0 in
    let refused : RefusesWords p begin (kept_words (w ∷ [])) mid fault =
    subst (λ (t : IndexingTermState). RefusesWords (text_piece c.args.doc_id t all) begin (kept_words (w ∷ [])) mid fault) c.loop-token_stream.invariant.same (c.in_err-index_word.ensures.refused all) in
    let words : RefusesWords p begin (kept_words all) (text_state c.args.ctx.now.term_index c.args.self.now c.args.indexing_position.now) fault =
    word_refused p begin all rest (drop 1 rest) w (text_state c.args.ctx.now.term_index c.args.self.now c.args.indexing_position.now) mid fault c.loop-token_stream.invariant.indexing parts refused in
    rw (e.1, e.2) (words_refused c.args.self.now.option p c.args.indexing_position.now ts fault (words kind ts known))

pub returns-in_err-indexing_position-clause-refused : goal.returns-in_err-indexing_position-clause-refused
returns-in_err-indexing_position-clause-refused g c kind ts known =
    let words = g.S.TokenStream.to_come c.args.token_stream.now in
    let p = text_piece c.args.doc_id c.args.term_buffer.now words in
    let at = c.args.indexing_position.now in
    let now = c.loop-token_stream in
    let indexed : IndexesWords p at.end_position (kept_words words) (text_state c.args.ctx.now.term_index c.args.self.now at) (text_state now.ctx.term_index now.self now.indexing_position) = search rules in
    let over = was_err _ _ _ _ c.in_err-indexing_position.ensures in
    let e = err_from_is_err_and c.from_residual-in_err-indexing_position.result c.from_residual-in_err-indexing_position.ensures.1 in
    rw (e.1, e.2, over.1) (inr (text_ends c.args.self.now.option p at ts (Some (Limit limit.Position)) (indexed.tokens kind ts known).1 (gap_after at.end_position now.indexing_position.end_position words true indexed.end_position over.0)))

pub returns-clause-tokens : goal.returns-clause-tokens
returns-clause-tokens g c kind ts known =
    let words = g.S.TokenStream.to_come c.args.token_stream.now in
    let at = c.args.indexing_position.now in
    let now = c.loop-token_stream in
    let indexed : IndexesWords (text_piece c.args.doc_id c.args.term_buffer.now words) at.end_position (kept_words words) (text_state c.args.ctx.now.term_index c.args.self.now at) (text_state now.ctx.term_index now.self now.indexing_position) = search rules in
    (indexed.tokens kind ts known).0

pub returns-clause-refused : goal.returns-clause-refused
returns-clause-refused g c kind ts known =
    let words = g.S.TokenStream.to_come c.args.token_stream.now in
    let p = text_piece c.args.doc_id c.args.term_buffer.now words in
    let at = c.args.indexing_position.now in
    let now = c.loop-token_stream in
    let indexed : IndexesWords p at.end_position (kept_words words) (text_state c.args.ctx.now.term_index c.args.self.now at) (text_state now.ctx.term_index now.self now.indexing_position) = search rules in
    let fits = was_ok _ _ _ _ c.in_ok-indexing_position.ensures in
    text_ends c.args.self.now.option p at ts None (indexed.tokens kind ts known).1 (gap_after at.end_position now.indexing_position.end_position words false indexed.end_position fits.0)
