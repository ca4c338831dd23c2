use Rattle.iiq.proofs.SearchLemmas.{answers_search}
use Rattle.iiq.specs.Commands.{asked}
use Rattle.ii_query_parser.specs.QueryTexts.{MeansText}
use Rattle.iiq.proofs.replies.search_reply.Goals as goal

pub returns : goal.returns
unfolding lib.Utf8.encode
returns c = λ s knows.
    let t = c.in_ok-reply.ensures s knows in
    let means : MeansText asked c.as_str.result.now c.in-Some.query = rw c.in-Some.is at c.in_ok-query.ensures in
    rw (← c.in_ok-text.ensures, ← c.as_str.ensures.value)
    (answers_search s c.in-Some.query c.search.new.self t.0 c.as_str.result.now _ _ means t.1 t.2 t.3 c.in_ok-push.ensures.bytes)
