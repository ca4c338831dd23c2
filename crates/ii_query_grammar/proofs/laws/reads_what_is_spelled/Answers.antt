use Rattle.ii_query_grammar.proofs.SpellLemmas.{reads_spelled}
use Rattle.ii_query_grammar.proofs.laws.reads_what_is_spelled.Goals as goal

pub returns : goal.returns
returns c = reads_spelled
