use Rattle.iiq.proofs.SearchLemmas.{no_query_is}
use Rattle.iiq.proofs.session.query_of_text.Goals as goal

pub returns-in-Ok-parse_query : goal.returns-in-Ok-parse_query
returns-in-Ok-parse_query c = rw (c.in-Ok.ensures.ok, c.from_field_id.ensures) at c.in-Ok-parse_query.ensures

pub returns : goal.returns
returns c = no_query_is c.no_query.result c.args.text.now c.in-Err.error (rw (c.in-Ok.ensures.ok, c.from_field_id.ensures) at c.in-Err.ensures) c.no_query.ensures.none c.no_query.ensures.ok
