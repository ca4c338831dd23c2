use Rattle.ii_query_parser.proofs.WordsQueryLemmas.{pushes}
use Rattle.ii_query_parser.proofs.query_parser.push_words.Goals as goal

pub returns-clause-pushed : goal.returns-clause-pushed
returns-clause-pushed c =
    let q = c.delimited_query.ensures in
    pushes c.args.delimiter c.args.queries.now.items c.push.new.self.items c.delimited_query.result c.args.words c.in_ok-push.ensures.items q.matches q.fields q.positions q.covers
