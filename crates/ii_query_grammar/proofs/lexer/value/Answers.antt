use Rattle.ii_query_grammar.proofs.lexer.value.Goals as goal

pub returns-in-Some-range_at-clause-shorter : goal.returns-in-Some-range_at-clause-shorter
returns-in-Some-range_at-clause-shorter c = c.range_token.ensures.shorter c.args.size c.in-Some-range_at.ensures.shorter
