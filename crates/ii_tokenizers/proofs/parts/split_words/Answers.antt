use Rattle.std.proofs.Common.{◌≡◌, ◌⊎◌, ◌++◌, ◌∙◌, ap, arith, length, refl, subst, sym, List, ℕ}
use Rattle.ii_base.specs.Parts.{part_words}
use Rattle.ii_tokenizers.specs.Analyzers.{rule_parts}
use Rattle.ii_tokenizers.specs.Stretches.{IsBehindSpace}
use Rattle.std.proofs.lemmas.Str.{IsCharBoundary-start}
use Rattle.ii_tokenizers.proofs.StretchLemmas.{stretch_boundary, stretch_step, stretches_end}
use Rattle.ii_tokenizers.proofs.parts.split_words.Goals as goal

pub loop-start-init : goal.loop-start-init
loop-start-init c = (rw c.in_ok-tokens.ensures.ok refl, IsCharBoundary-start c.args.text.now c.utf8.text)

pub loop-start-preserved : goal.loop-start-preserved
loop-start-preserved c =
    let cut : (c.stretch_end-end.result ≡ length c.args.text.now) ⊎ IsBehindSpace c.args.text.now c.stretch_end-end.result = subst (λ (bs : List ℕ). (c.stretch_end-end.result ≡ length bs) ⊎ IsBehindSpace bs c.stretch_end-end.result) c.as_bytes.ensures.value c.stretch_end-end.ensures.cut in
    let added = c.in_ok-add_stretch.ensures.ok ∙ ap (λ (bs : List ℕ). c.loop-start.tokens ++ part_words (length c.loop-start.tokens) (rule_parts c.loop-start.start bs)) c.range.ensures.value in (
      stretch_step c.loop-start.tokens c.add_stretch.new.tokens c.args.text.now c.loop-start.start c.stretch_end-end.result c.utf8.text c.loop-start.invariant.1 c.stretch_end-end.ensures.after cut added
          ∙ c.loop-start.invariant.0,
      stretch_boundary c.args.text.now c.stretch_end-end.result cut,
    )

pub returns-clause-ok : goal.returns-clause-ok
returns-clause-ok c = sym (stretches_end c.loop-start.tokens c.args.text.now c.loop-start.start (omega (arith, c.loop-start-test.false))) ∙ c.loop-start.invariant.0
