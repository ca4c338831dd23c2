use Rattle.std.proofs.Common.{[], ◌∷◌, refl}
use Rattle.ii_termdict.proofs.ReadBackLemmas.{none_ascend, ascending_more, no_last_key}
use Rattle.ii_format_tests.proofs.dictionary_tests.insert_one.Goals as goal

pub insert_key-requires-clause-ascending : goal.insert_key-requires-clause-ascending
insert_key-requires-clause-ascending c = λ is_open. rw c.requires.fresh.0 (ascending_more [] (97 ∷ []) [] none_ascend (no_last_key []) refl)
