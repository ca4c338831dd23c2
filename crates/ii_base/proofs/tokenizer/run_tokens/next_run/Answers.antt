use Rattle.std.proofs.Common.{◌≡◌, ℕ, ◌+◌, ◌-◌, ◌≤◌, Bool, true, List, ◌∷◌, drop, take, sym, ap, ◌∙◌, arith}
use Rattle.std.specs.Char.{is_ascii_alphanumeric}
use Rattle.std.specs.List.{list_any, prefix_len, slice_range}
use Rattle.std.proofs.lemmas.Bool.{le-ltb, lt-ltb}
use Rattle.ii_base.specs.Parts.{is_word_character, part_word, part_words}
use Rattle.ii_base.specs.RunTokens.{words_to_come}
use Rattle.ii_base.specs.Words.{remove_long}
use Rattle.ii_base.proofs.RunLemmas.{no_more, run_size}
use Rattle.ii_base.proofs.RunTokenLemmas.{long_run, run_ends, short_run, silent_run, some_run}
use Rattle.ii_base.proofs.tokenizer.run_tokens.next_run.Goals as goal
use Rattle.ii_base.proofs.tokenizer.run_tokens.next_run.Goals.{then-has_letter_or_digit+else-end-start, else-has_letter_or_digit}

-- whether the bytes of a run have a letter or a digit
tells : (text bytes : List ℕ) (start k : ℕ) (told : Bool) → bytes ≡ text → told ≡ list_any is_ascii_alphanumeric (take k (drop start bytes)) → list_any is_ascii_alphanumeric (take k (drop start text)) ≡ told
tells text bytes start k told same is = sym (is ∙ ap (λ (bs : List ℕ). list_any is_ascii_alphanumeric (take k (drop start bs))) same)

pub returns-then-end-start-clause-some : goal.returns-then-end-start-clause-some
returns-then-end-start-clause-some c =
    let text = c.args.text.now in
    let start = c.loop-start.start in
    let n = c.run_len.result in
    let p = c.loop-start.passed in
    let size : n ≡ prefix_len is_word_character (drop start text) = run_size text c.as_bytes.result.now start n c.as_bytes.ensures.value c.run_len.ensures in
    let has : list_any is_ascii_alphanumeric (take (start + n - start) (drop start text)) ≡ true = tells text c.as_bytes-in-loop-start.result.now start (start + n - start) c.has_letter_or_digit.result c.as_bytes-in-loop-start.ensures.value c.has_letter_or_digit.ensures ∙ c.if-has_letter_or_digit.true in
    let some = some_run c.args.limit text start n p c.requires.ascii size has in
    let order : p ≤ start = c.loop-start.invariant.1 in
    let before : p ≡ p + 1 - 1 = omega arith in
    record {
      some = omega (arith, some);
      within = run_ends c.args.limit text start n p c.requires.ascii size (omega (arith, c.loop-start-test.true));
      few = omega (arith, some, order);
      first =
          sym c.loop-start.invariant.0
          ∙ short_run c.args.limit text start n p c.requires.ascii size has (lt-ltb n c.args.limit (omega (arith, c.if-end-start.true)))
          ∙ ap (λ (k : ℕ). part_word k (record { offset = start; characters = slice_range text start (start + n) }) ∷ words_to_come c.args.limit text (p + 1) (start + n + 1)) before;
    }

pub loop-start-preserved : goal.loop-start-preserved
loop-start-preserved c =
    let text = c.args.text.now in
    let start = c.loop-start.start in
    let n = c.run_len.result in
    let p = c.loop-start.passed in
    let size : n ≡ prefix_len is_word_character (drop start text) = run_size text c.as_bytes.result.now start n c.as_bytes.ensures.value c.run_len.ensures in
    let told = tells text c.as_bytes-in-loop-start.result.now start (start + n - start) c.has_letter_or_digit.result c.as_bytes-in-loop-start.ensures.value c.has_letter_or_digit.ensures in
    let within = run_ends c.args.limit text start n p c.requires.ascii size (omega (arith, c.loop-start-test.true)) in
    let order : p ≤ start = c.loop-start.invariant.1 in
    elim c.if-has_letter_or_digit.branch [
      | then-has_letter_or_digit+else-end-start w ↦
          let has = told ∙ w.if-has_letter_or_digit.true in
          let some = some_run c.args.limit text start n p c.requires.ascii size has in (
            ap (λ (k : ℕ). words_to_come c.args.limit text k (start + n + 1)) w.passed-is ∙ long_run c.args.limit text start n p c.requires.ascii size has (le-ltb n c.args.limit (omega (arith, w.if-end-start.false))) ∙ c.loop-start.invariant.0,
            omega (arith, w.passed-is, order),
            omega (arith, within),
          )
      | else-has_letter_or_digit w ↦ (
        ap (λ (k : ℕ). words_to_come c.args.limit text k (start + n + 1)) w.passed-is ∙ silent_run c.args.limit text start n p c.requires.ascii size (told ∙ w.if-has_letter_or_digit.false) ∙ c.loop-start.invariant.0,
        omega (arith, w.passed-is, order),
        omega (arith, within),
      )
    ]

pub returns-clause-none : goal.returns-clause-none
returns-clause-none c = λ none.
    sym c.loop-start.invariant.0 ∙ ap (λ ps. remove_long c.args.limit (part_words c.loop-start.passed ps)) (no_more c.loop-start.start c.loop-start.start c.args.text.now (omega (arith, c.loop-start-test.false)))
