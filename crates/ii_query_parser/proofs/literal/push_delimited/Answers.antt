use Rattle.ii_query_parser.proofs.literal.push_delimited.Goals as goal

pub returns-in-Prefix : goal.returns-in-Prefix
returns-in-Prefix g c = rw c.in-Prefix.is c.push_text-in-Prefix.ensures
