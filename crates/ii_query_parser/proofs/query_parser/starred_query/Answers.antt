use Rattle.std.proofs.Common.{◌∙◌, refl, sym}
use Rattle.ii_query_parser.proofs.PhrasePrefixLemmas.{popped_means}
use Rattle.ii_query_parser.proofs.query_parser.starred_query.Goals as goal

pub returns-clause-matches : goal.returns-clause-matches
returns-clause-matches c =
    let range = c.with_prefix.ensures in
    let others = sym c.into_terms-first.ensures.others ∙ (c.in-Some.ensures).items in
    λ ts doc. c.phrase_prefix.ensures.matches ts doc
    ∙ popped_means c.args.words c.pop.new.self.items c.in-Some.last (record { first = c.into_terms-first.result.0; others = c.pop.new.self; distance = c.in-Some.last.distance; last = c.with_prefix.result }) ts doc
    others c.into_terms-first.ensures.first refl refl range.prefix range.lower range.upper
