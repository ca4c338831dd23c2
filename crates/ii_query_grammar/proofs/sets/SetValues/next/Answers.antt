use Rattle.std.proofs.Common.{◌∙◌, ◌<◌, List, ℕ, Option, Ok, Bor, ap, arith, refl}
use Rattle.ii_query_grammar.specs.Lexemes.{Limit, limit_seen}
use Rattle.ii_query_grammar.proofs.SetLemmas.{breaks_set, ends_set, takes_value}
use Rattle.ii_query_grammar.proofs.sets.SetValues.next.Goals as goal

pub returns-in-Ok-Some-default-clause-value : goal.returns-in-Ok-Some-default-clause-value
returns-in-Ok-Some-default-clause-value c =
    let i = c.in-Ok-Some-default in
    let same = ap (λ (v : Option (Bor (List ℕ))). limit_seen v i.rest) i.field-0-0-is in
    let some : 0 < c.args.self.now.left = i.ensures.left (rw i.field-0-0-is refl) in
    (omega (arith, some), takes_value _ _ _ _ _ some (i.ensures.limit ∙ ap (λ (l : Limit). Ok l) same))

pub returns-in-Ok-None-default-clause-value : goal.returns-in-Ok-None-default-clause-value
returns-in-Ok-None-default-clause-value c =
    let i = c.in-Ok-None-default in
    let same = ap (λ (v : Option (Bor (List ℕ))). limit_seen v i.rest) i.field-0-0-is in
    ends_set _ _ _ _ (i.ensures.limit ∙ ap (λ (l : Limit). Ok l) same)

pub returns-in-Err-clause-value : goal.returns-in-Err-clause-value
returns-in-Err-clause-value c = breaks_set _ _ _ _ c.in-Err.ensures.limit
