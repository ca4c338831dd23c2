use Rattle.std.proofs.Common.{length}
use Rattle.ii_query_grammar.specs.Lexemes.{lexemes}
use Rattle.ii_query_grammar.proofs.CompleteLemmas.{reads_query}
use Rattle.ii_query_grammar.proofs.SoundLemmas.{spells_query}
use Rattle.ii_query_grammar.proofs.laws.reads_what_the_grammar_has.Goals as goal

pub returns-clause-sound : goal.returns-clause-sound
returns-clause-sound c = λ limit text t is. spells_query limit (length text) t (lexemes (length text) text) is

pub returns-clause-complete : goal.returns-clause-complete
returns-clause-complete c = λ limit text t spells. reads_query limit (length text) t (lexemes (length text) text) spells
