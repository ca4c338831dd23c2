use Rattle.std.proofs.Common.{◌≡◌, ℕ, ◌+◌, ◌-◌, drop, length, arith, rules, sym, subst}
use Rattle.std.specs.Prelude.{◌==◌}
use Rattle.std.specs.List.{prefix_len}
use Rattle.std.specs.Str.{IsCharBoundary}
use Rattle.std.proofs.lemmas.Bool.{and_parts, eqb-true}
use Rattle.std.proofs.lemmas.List.Folds.{length-prefix_len}
use Rattle.ii_base.specs.AsciiWords.{begins_run, is_word_byte, run_at}
use Rattle.ii_base.proofs.AsciiLemmas.{cut_after_run, cut_before_run, run_within}
use Rattle.ii_base.proofs.tokenizer.ascii_tokenizer.run_token.Goals as goal

pub range-requires-clause-start_boundary : goal.range-requires-clause-start_boundary
range-requires-clause-start_boundary c =
    let text = c.args.text.now in
    let start = c.args.start in
    let begins = (and_parts (begins_run text start) (c.args.end == start + length (run_at text start)) c.requires).0 in
    λ _. cut_before_run text start c.utf8.text begins

pub range-requires-clause-end_boundary : goal.range-requires-clause-end_boundary
range-requires-clause-end_boundary c =
    let text = c.args.text.now in
    let start = c.args.start in
    let parts = and_parts (begins_run text start) (c.args.end == start + length (run_at text start)) c.requires in
    let ends : c.args.end ≡ start + length (run_at text start) = eqb-true _ _ parts.1 in
    let within = run_within text start parts.0 in
    subst (λ (n : ℕ). IsCharBoundary text n) (sym ends) (cut_after_run text start (omega (arith, within)))

pub returns : goal.returns
returns c =
    let text = c.args.text.now in
    let start = c.args.start in
    let parts = and_parts (begins_run text start) (c.args.end == start + length (run_at text start)) c.requires in
    let ends : c.args.end ≡ start + length (run_at text start) = eqb-true _ _ parts.1 in
    let len = length-prefix_len is_word_byte (drop start text) in
    let count : c.args.end - start ≡ prefix_len is_word_byte (drop start text) = omega (arith, ends, len) in
    search (rules, ends, count)
