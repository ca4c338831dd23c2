use Rattle.std.proofs.Common.{◌∙◌, List, ℕ, ap, map, string_bytes}
use Rattle.ii_query_grammar.specs.Trees.{in_set}
use Rattle.ii_query_grammar.proofs.SetLemmas.{lexeme_is}
use Rattle.ii_query_grammar.proofs.query_grammar.set_tree.Goals as goal

pub returns-in-Ok : goal.returns-in-Ok
returns-in-Ok c =
    let values = map (λ value. string_bytes value) c.in-Ok.values.items in
    (_, lexeme_is c.args.set.field_name.now _ _ c.in-Ok.ensures, c.set_with.ensures ∙ ap (λ (name : List ℕ). in_set (record { field_name = name; values = values })) c.in_ok-field_name.ensures)
