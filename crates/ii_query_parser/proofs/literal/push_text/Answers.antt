use Rattle.ii_query_parser.proofs.TermLemmas.{adds_of}
use Rattle.ii_query_parser.proofs.literal.push_text.Goals as goal

pub returns-in-Some : goal.returns-in-Some
returns-in-Some g c = rw (c.in-Some.is, ← c.as_str.ensures.value, ← c.as_str-phrase.ensures.value) (adds_of _ _ _ _ _ c.push_named.ensures)
