use Rattle.std.proofs.Common.{◌∙◌, Option, ap, sym}
use Rattle.std.specs.Option.{option_map}
use Rattle.ii_query_grammar.specs.Trees.{Bound, range_of}
use Rattle.ii_query_parser.specs.QueryTexts.{integer_bound}
use Rattle.ii_query_parser.specs.Ranges.{key_bound}
use Rattle.ii_query_parser.proofs.RangeTextLemmas.{integers_between}
use Rattle.ii_query_parser.proofs.range_text.integer_keys.Goals as goal

pub returns-clause-range : goal.returns-clause-range
returns-clause-range c =
    let r = range_of c.args.range.now in
    let prefix = c.in_ok-prefix.prefix in
    integers_between c.args.start.now r c.args.integers prefix c.in-Some.lower c.in-Some-upper.upper c.in_ok-prefix.ensures.ok
    (ap (option_map key_bound) (sym c.in-Some.is) ∙ c.in_ok-lower.ensures.ok ∙ ap (λ (b : Option Bound). integer_bound c.args.integers prefix.value b r.lower) c.lower_beyond.ensures)
    (ap (option_map key_bound) (sym c.in-Some-upper.is) ∙ c.in_ok-upper.ensures.ok ∙ ap (λ (b : Option Bound). integer_bound c.args.integers prefix.value b r.upper) c.upper_beyond.ensures)
