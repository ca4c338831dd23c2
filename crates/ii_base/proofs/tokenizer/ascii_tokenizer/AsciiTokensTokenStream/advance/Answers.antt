use Rattle.std.proofs.Common.{◌≡◌, ℕ, ◌+◌, ◌-◌, List, true, false, nat_lt, refl, drop, length, length-drop, take, take_all, arith, rules, sym, ap, ◌∙◌}
use Rattle.std.proofs.lemmas.Bool.{lt-ltb}
use Rattle.std.specs.List.{slice_get, take_while}
use Rattle.ii_base.specs.AsciiWords.{begins_run, is_word_byte, run_at, words_from}
use Rattle.ii_base.specs.Words.{Word}
use Rattle.ii_base.proofs.AsciiLemmas.{cut_after_run, is_run_here, run_within, words_after_run, words_past, words_skip, words_take}
use Rattle.ii_base.proofs.tokenizer.ascii_tokenizer.AsciiTokensTokenStream.advance.Goals as goal
use Rattle.ii_base.proofs.tokenizer.ascii_tokenizer.AsciiTokensTokenStream.advance.Goals.{then-loop-at-test+else-not-begins_run, else-loop-at-test}

pub returns-clause-rest : goal.returns-clause-rest
returns-clause-rest c =
    let text = c.args.self.now.text.now in
    let at = c.loop-at.at in
    let bytes = c.as_bytes-2.ensures.value in
    let begins : begins_run text at ≡ true = elim c.loop-at-test.branch [ then-loop-at-test+else-not-begins_run w ↦ search rules | else-loop-at-test w ↦ search rules ] in
    let within = run_within text at begins in
    let left = length-drop at text in
    let all = take_all (length text - at) (drop at text) (omega (arith, left)) in
    let len : c.run_len.result ≡ length (run_at text at) = c.run_len.ensures ∙ ap (λ (t : List ℕ). length (take_while is_word_byte (take (length t - at) (drop at t)))) bytes ∙ ap (λ (t : List ℕ). length (take_while is_word_byte t)) all in
    let ends = (cut_after_run text at (omega (arith, within))).0 in
    ap (λ (n : ℕ). words_from text (c.args.self.now.passed + 1) (at + n)) len
    ∙ words_after_run text (c.args.self.now.passed + 1) at begins ends
    ∙ ap (drop 1) (sym (words_take text c.args.self.now.passed at begins) ∙ c.loop-at.invariant.1)

pub loop-at-preserved : goal.loop-at-preserved
loop-at-preserved c =
    let text = c.args.self.now.text.now in
    let out : begins_run text c.loop-at.at ≡ false = search rules in
    (omega arith, words_skip text c.args.self.now.passed c.loop-at.at (omega arith) out ∙ c.loop-at.invariant.1)

pub returns-clause-found : goal.returns-clause-found
returns-clause-found c =
    let text = c.args.self.now.text.now in
    let at = c.loop-at.at in
    let begins : begins_run text at ≡ true = elim c.loop-at-test.branch [ then-loop-at-test+else-not-begins_run w ↦ search rules | else-loop-at-test w ↦ search rules ] in
    let first = sym (words_take text c.args.self.now.passed at begins) ∙ c.loop-at.invariant.1 in
    sym (lt-ltb 0 (length (words_from text c.args.self.now.passed c.args.self.now.end)) (omega (arith, ap length first)))

pub returns-clause-current : goal.returns-clause-current
returns-clause-current c = λ found.
    let text = c.args.self.now.text.now in
    let at = c.loop-at.at in
    let bytes = c.as_bytes-2.ensures.value in
    let begins : begins_run text at ≡ true = elim c.loop-at-test.branch [ then-loop-at-test+else-not-begins_run w ↦ search rules | else-loop-at-test w ↦ search rules ] in
    let left = length-drop at text in
    let all = take_all (length text - at) (drop at text) (omega (arith, left)) in
    let len : c.run_len.result ≡ length (run_at text at) = c.run_len.ensures ∙ ap (λ (t : List ℕ). length (take_while is_word_byte (take (length t - at) (drop at t)))) bytes ∙ ap (λ (t : List ℕ). length (take_while is_word_byte t)) all in
    let passed : c.args.self.now.passed + 1 - 1 ≡ c.args.self.now.passed = omega arith in
    rw (is_run_here text at c.run_len.result begins len, passed) (ap (λ (ws : List Word). slice_get ws 0) (sym (words_take text c.args.self.now.passed at begins) ∙ c.loop-at.invariant.1))

pub returns-then-at-text-clause-found : goal.returns-then-at-text-clause-found
returns-then-at-text-clause-found c =
    let none = words_past c.args.self.now.text.now c.args.self.now.passed c.loop-at.at (omega arith) in
    ap (λ (ws : List Word). nat_lt 0 (length ws)) (sym none ∙ c.loop-at.invariant.1)

pub returns-then-at-text-clause-rest : goal.returns-then-at-text-clause-rest
returns-then-at-text-clause-rest c =
    let none = words_past c.args.self.now.text.now c.args.self.now.passed c.loop-at.at (omega arith) in
    rw (← c.loop-at.invariant.1, none) refl
