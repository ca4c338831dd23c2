use Rattle.ii_query_parser.proofs.WordsQueryLemmas.{collects_more, collects_none}
use Rattle.ii_query_parser.proofs.query_parser.any_of.Goals as goal

pub loop-words-init : goal.loop-words-init
loop-words-init c = rw (c.new-queries.ensures.items, c.into_iter-words-iterator.ensures.into_iter_gives.0) (collects_none c.args.delimiter c.args.terms.items c.requires.alone)

pub loop-words-preserved : goal.loop-words-preserved
loop-words-preserved c =
    collects_more c.args.delimiter c.loop-words.queries.items c.push_words.new.queries.items c.in-Some.words c.next.new.self.rest.items c.loop-words.words-iterator.rest.items c.args.terms.items
    c.in-Some.ensures.steps.0 c.in-Ok.ensures.pushed c.loop-words.invariant
