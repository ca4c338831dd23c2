use Rattle.ii_query_grammar.specs.Trees.{literal_of}
use Rattle.ii_query_parser.proofs.LeftLemmas.{leaf_left}
use Rattle.ii_query_parser.proofs.query_parser.literal_query.Goals as goal

pub returns-in_ok-any_left-in-Ok : goal.returns-in_ok-any_left-in-Ok
returns-in_ok-any_left-in-Ok g c =
    leaf_left (record { texts = record { analyze = g.F.FieldAnalyzers.words c.args.analyzers.now; entries = c.args.schema.now }; prefixes = g.F.FieldAnalyzers.prefix_words c.args.analyzers.now; defaults = c.args.default_fields.now }) (literal_of c.args.literal.now) c.push_literal.new.terms.items c.in_ok-any_left-in-Ok.field-0
    (rw c.new-terms.ensures.items at c.in-Ok.ensures.added) c.in_ok-any_left-in-Ok.ensures.ok
