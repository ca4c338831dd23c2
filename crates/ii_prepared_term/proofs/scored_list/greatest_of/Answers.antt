use Rattle.std.proofs.Common.{◌≡◌, ◌∙◌, ◌<◌, ℕ, ap, get_or, length, max, rules, sym}
use Rattle.ii_prepared_term.proofs.BoundLemmas.{greatest_more}
use Rattle.ii_prepared_term.proofs.scored_list.greatest_of.Goals as goal

pub loop-place-preserved : goal.loop-place-preserved
loop-place-preserved c =
    let l = c.loop-place in
    let docs = c.args.docs.now.items in
    let inside : l.place < length docs = search rules in
    let is : c.index.result.now ≡ get_or docs l.place c.index.result.now = search rules in
    c.max-most.ensures ∙ ap (λ (n : ℕ). max n c.index.result.now.0) l.invariant ∙ sym (greatest_more docs l.place c.index.result.now inside is)
