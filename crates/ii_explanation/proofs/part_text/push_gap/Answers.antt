use Rattle.std.proofs.Common.{◌∙◌, ◌++◌, List, ℕ, ap, append_assoc, codes, sym}
use Rattle.std.specs.List.{repeat}
use Rattle.std.specs.String.{string_bytes}
use Rattle.ii_explanation.proofs.PartTextLemmas.{repeat_more}
use Rattle.ii_explanation.proofs.part_text.push_gap.Goals as goal

pub loop-preserved : goal.loop-preserved
loop-preserved c =
    let begun = string_bytes c.args.text.now in
    let gap = codes " ?" in
    c.in_ok-push_str.ensures.bytes ∙ ap (λ (text : List ℕ). text ++ gap) c.loop.invariant ∙ append_assoc begun (repeat c.loop.counter gap) gap ∙ ap (λ (text : List ℕ). begun ++ text) (sym (repeat_more c.loop.counter gap))
