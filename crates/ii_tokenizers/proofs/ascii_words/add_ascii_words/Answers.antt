use Rattle.std.proofs.Common.{refl, ◌≡◌, ◌+◌, ◌++◌, ◌∙◌, ap, arith, drop, length, sym, append-nil, length-drop, List, ℕ}
use Rattle.std.proofs.lemmas.List.Sums.{prefix_len-le-length}
use Rattle.std.specs.List.{prefix_len}
use Rattle.ii_base.specs.Parts.{Part, is_word_character, part_words}
use Rattle.ii_base.proofs.RunLemmas.{no_more, run_size}
use Rattle.ii_tokenizers.proofs.RunLemmas.{run_step}
use Rattle.ii_tokenizers.proofs.ascii_words.add_ascii_words.Goals as goal

pub loop-start-preserved : goal.loop-start-preserved
loop-start-preserved c =
    let text = c.args.text.now in
    let ends : c.run_len.result ≡ prefix_len is_word_character (drop c.loop-start.start text) = run_size text c.as_bytes.result.now c.loop-start.start c.run_len.result c.as_bytes.ensures.value c.run_len.ensures in (
      run_step (c.loop-start.tokens) (c.add_run.new.tokens) (length c.loop-start.tokens) (length c.add_run.new.tokens) c.args.at c.loop-start.start (c.loop-start.start + c.run_len.result) text c.range.result.now c.requires.ascii
          (ap (λ (n : ℕ). c.loop-start.start + n) ends) c.range.ensures.value c.in_ok-add_run.ensures.ok refl refl
          ∙ c.loop-start.invariant.0,
      omega (arith, ends, prefix_len-le-length is_word_character (drop c.loop-start.start text), length-drop c.loop-start.start text, c.loop-start-test.true),
    )

pub returns-clause-ok : goal.returns-clause-ok
returns-clause-ok c =
    let words = c.loop-start.tokens in
    let none = no_more (c.args.at + c.loop-start.start) c.loop-start.start c.args.text.now (omega (arith, c.loop-start-test.false)) in
    sym (append-nil words) ∙ ap (λ (ps : List Part). words ++ part_words (length c.loop-start.tokens) ps) (sym none) ∙ c.loop-start.invariant.0
