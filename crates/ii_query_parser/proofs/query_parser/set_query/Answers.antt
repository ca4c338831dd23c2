use Rattle.ii_query_grammar.specs.Trees.{set_of}
use Rattle.ii_query_parser.proofs.LeftLemmas.{set_left}
use Rattle.ii_query_parser.proofs.query_parser.set_query.Goals as goal

pub returns-in_ok-set_left-in-Ok : goal.returns-in_ok-set_left-in-Ok
returns-in_ok-set_left-in-Ok g c =
    set_left (record { texts = record { analyze = g.F.FieldAnalyzers.words c.args.analyzers.now; entries = c.args.schema.now }; prefixes = g.F.FieldAnalyzers.prefix_words c.args.analyzers.now; defaults = c.args.default_fields.now }) (set_of c.args.set.now) c.push_set.new.terms.items c.in_ok-set_left-in-Ok.field-0
    (rw c.new-terms.ensures.items at c.in-Ok.ensures) c.in_ok-set_left-in-Ok.ensures.ok
