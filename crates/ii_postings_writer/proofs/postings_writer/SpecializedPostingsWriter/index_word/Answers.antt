use Rattle.std.proofs.Common.{rules, ◌≡◌, ◌∙◌, ◌<◌, ◌^◌, arith, ap, length, max, true, []}
use Rattle.std.specs.Prelude.{nat_le}
use Rattle.std.proofs.lemmas.Result.{err_from_is_err_and}
use Rattle.ii_base.specs.Words.{seen_word}
use Rattle.ii_definitions.specs.Tokens.{max_token_len}
use Rattle.ii_json.specs.LeafVisit.{IsRefusedBy}
use Rattle.ii_postings_writer.specs.IndexingContext.{IsRecorded}
use Rattle.ii_postings_writer.specs.PostingsWriter.{IndexesKept, PostingsWriterState, kept_fault, text_piece, text_state, word_bytes}
use Rattle.ii_postings_writer.proofs.RecordsLaws.{all_end}
use Rattle.ii_postings_writer.proofs.TextLaws.{counted_fault, err_with, fitting_fault, one_refused, one_word, was_ok}
use Rattle.ii_postings_writer.proofs.postings_writer.SpecializedPostingsWriter.index_word.Goals as goal

pub returns-clause-indexed : goal.returns-clause-indexed
returns-clause-indexed c =
    let w = seen_word c.args.token.now in
    let term = c.args.term.now in
    let low : term.field < 2 ^ 32 = omega (arith, c.field.type_inv, c.field.ensures) in
    let keep : nat_le (length c.args.token.now.text.now) max_token_len ≡ true = grind (arith, c.if-token-gt-MAX_TOKEN_LEN.false) in
    let option = c.self.inside.option in
    let was : PostingsWriterState = record { option = option; value_option = option; total_num_tokens = c.self.inside.total_num_tokens } in
    let now : PostingsWriterState = record { option = option; value_option = option; total_num_tokens = c.in_ok-total_num_tokens.total_num_tokens } in
    let old = text_state c.args.terms.now was c.args.at.now in
    let new = text_state c.record.new.self now (record { num_tokens = c.in_ok-num_tokens.num_tokens; end_position = c.max-at.result }) in
    let p = text_piece c.args.doc term [] in
    let placed = was_ok _ _ _ _ c.in_ok-position.ensures.refused in
    let fits = was_ok _ _ _ _ c.in_ok-num_tokens.ensures in
    let counts = was_ok _ _ _ _ c.in_ok-total_num_tokens.ensures in
    let cause = fitting_fault p c.args.begin w old placed.0 fits.0 ∙ counted_fault option was.total_num_tokens c.args.doc _ (word_bytes p w) c.args.terms.now counts.0 in
    let refused : IsRefusedBy (kept_fault p c.args.begin w old) c.record.result =
    rw (cause, ← c.in_ok-position.ensures.ok.0, ← c.as_bytes.ensures.value) (rw (c.serialized_term.ensures.bytes, c.in_ok-add_bytes.ensures.ok) at c.record.ensures.refused) in
    let recorded : IsRecorded option c.args.doc _ (word_bytes p w) c.args.terms.now c.record.new.self =
    rw (← c.in_ok-position.ensures.ok.0, ← c.as_bytes.ensures.value) (rw (c.serialized_term.ensures.bytes, c.in_ok-add_bytes.ensures.ok) at c.in_ok-record.ensures.ok) in
    let h : IndexesKept p c.args.begin w old new = record {
      recorded = recorded;
      ends = all_end option c.args.doc _ (word_bytes p w) c.args.terms.now c.record.new.self recorded c.requires.ends c.requires.low;
      writer = ap (λ n. record was { total_num_tokens = n }) counts.1;
      num_tokens = fits.1;
      end_position = c.max-at.ensures ∙ ap (max c.args.at.now.end_position) c.in_ok-position.ensures.ok.1;
    } in
    rw (← c.self.view_is, keep) (λ words. one_word c.args.doc term words c.args.begin w old new low c.requires.ends (search (rules, refused)) h)

pub returns-in_err-record-clause-refused : goal.returns-in_err-record-clause-refused
returns-in_err-record-clause-refused c =
    let w = seen_word c.args.token.now in
    let term = c.args.term.now in
    let low : term.field < 2 ^ 32 = omega (arith, c.field.type_inv, c.field.ensures) in
    let keep : nat_le (length c.args.token.now.text.now) max_token_len ≡ true = grind (arith, c.if-token-gt-MAX_TOKEN_LEN.false) in
    let option = c.self.inside.option in
    let was : PostingsWriterState = record { option = option; value_option = option; total_num_tokens = c.self.inside.total_num_tokens } in
    let old = text_state c.args.terms.now was c.args.at.now in
    let p = text_piece c.args.doc term [] in
    let placed = was_ok _ _ _ _ c.in_ok-position.ensures.refused in
    let fits = was_ok _ _ _ _ c.in_ok-num_tokens.ensures in
    let counts = was_ok _ _ _ _ c.in_ok-total_num_tokens.ensures in
    let cause = fitting_fault p c.args.begin w old placed.0 fits.0 ∙ counted_fault option was.total_num_tokens c.args.doc _ (word_bytes p w) c.args.terms.now counts.0 in
    let err = err_from_is_err_and c.from_residual-in_err-record.result c.from_residual-in_err-record.ensures.1 in
    let refused : IsRefusedBy (kept_fault p c.args.begin w old) c.from_residual-in_err-record.result =
    rw (err.1, err.2, cause, ← c.in_ok-position.ensures.ok.0, ← c.as_bytes.ensures.value) (rw (c.serialized_term.ensures.bytes, c.in_ok-add_bytes.ensures.ok) at c.in_err-record.ensures.refused) in
    rw (← c.self.view_is, keep) (err_with (kept_fault p c.args.begin w old) c.from_residual-in_err-record.result _ refused (λ e cause words. one_refused c.args.doc term words c.args.begin w old e low c.requires.ends cause))
