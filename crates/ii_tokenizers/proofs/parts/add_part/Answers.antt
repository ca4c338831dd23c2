use Rattle.std.proofs.Common.{ℕ, ◌<◌, ◌+◌, ◌∷◌, ◌++◌, [], List, ap, arith, length, sym, ◌∙◌}
use Rattle.std.proofs.lemmas.Bool.{eqb-false, eqb-true}
use Rattle.std.proofs.lemmas.List.{append-nil}
use Rattle.ii_base.specs.Words.{Word}
use Rattle.ii_tokenizers.proofs.PartLemmas.{empty_part, ok_then, one_part}
use Rattle.ii_tokenizers.proofs.parts.add_part.Goals as goal

pub returns-then-is_empty-clause-ok : goal.returns-then-is_empty-clause-ok
returns-then-is_empty-clause-ok c =
    let none = eqb-true (length c.args.part.now) 0 (sym c.is_empty.ensures ∙ c.if-is_empty.true) in
    rw (empty_part (length c.args.tokens.now) c.args.start c.args.part.now none) (sym (append-nil _))

pub returns-clause-ok : goal.returns-clause-ok
returns-clause-ok c =
    let apart = eqb-false (length c.args.part.now) 0 (sym c.is_empty.ensures ∙ c.if-is_empty.false) in
    let some : 0 < length c.args.part.now = omega (arith, apart) in
    let one = ap (λ (n : ℕ). record { offset_from = c.args.start; offset_to = c.args.start + length c.args.part.now; position = n; text = c.args.part.now; position_length = 1 }) c.len-position.ensures in
    ok_then c.push.result (λ ok. ok ∙ ap (λ (w : Word). c.args.tokens.now ++ w ∷ []) one ∙ ap (λ (ws : List Word). c.args.tokens.now ++ ws) (sym (one_part (length c.args.tokens.now) c.args.start c.args.part.now c.utf8.part some))) c.push.ensures.ok
