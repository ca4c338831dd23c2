use Rattle.ii_termdict.proofs.FirstKey.{first_ascends}
use Rattle.ii_reader_tests.proofs.serializer_tests.term_closes.Goals as goal

pub new_term_without_freq-requires-clause-ascending : goal.new_term_without_freq-requires-clause-ascending
new_term_without_freq-requires-clause-ascending g c = λ _. first_ascends c.in_ok-field.field.index.now.field.places.keys _ c.in_ok-field.ensures.begins.terms.keys
