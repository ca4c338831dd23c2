use Rattle.std.proofs.Common.{◌∙◌, ◌-◌, List, ℕ, ◌∷◌, ◌++◌, ap, append_assoc, codes}
use Rattle.std.specs.List.{repeat}
use Rattle.std.specs.String.{string_bytes}
use Rattle.ii_query_parser.specs.declared.query.PhraseTerm.{PhraseTerm}
use Rattle.ii_term_text.specs.KeyTexts.{text_of_key}
use Rattle.ii_explanation.specs.PartTexts.{last_distance, later_terms}
use Rattle.ii_explanation.proofs.PartTextLemmas.{if_appended, with_star}
use Rattle.ii_explanation.proofs.part_text.push_terms_of_prefix.Goals as goal

pub returns : goal.returns
returns c =
    let p = c.args.phrase.now in
    let t = c.args.value_type in
    let begun = string_bytes c.args.text.now in
    let o : PhraseTerm = record { distance = p.distance; term = p.last.prefix } in
    let first = c.in_ok-last.ensures.pushed ∙ ap (λ (os : List PhraseTerm). begun ++ 34 ∷ (text_of_key t p.first.value ++ later_terms t 0 os)) c.deref.ensures.value in
    let last = c.in_ok-last.ensures.last ∙ ap (last_distance 0) c.deref.ensures.value in
    let word = c.in_ok-push_later_term.ensures
    ∙ append_assoc (string_bytes c.push_first_terms.new.text) (repeat (p.distance - c.in_ok-last.last - 1) (codes " ?")) (32 ∷ text_of_key t c.serialized_value_bytes.result.now)
    ∙ (λ j. first j ++ (repeat (p.distance - last j - 1) (codes " ?") ++ 32 ∷ text_of_key t (c.serialized_value_bytes.ensures j))) in
    if_appended c.push_str.result (string_bytes c.push_str.new.self) _ _ _ c.push_str.ensures.bytes (ap (λ (text : List ℕ). text ++ codes "\"*") word ∙ with_star begun t p.first p.others.items o)
