use Rattle.ii_allocation_tests.proofs.ThreeKeys.{one_key, two_keys, three_keys}
use Rattle.ii_allocation_tests.proofs.dictionary.insert_three.Goals as goal

pub insert_key-requires-clause-ascending : goal.insert_key-requires-clause-ascending
insert_key-requires-clause-ascending g c = λ is_open. rw c.requires.fresh.0 one_key

pub insert_key-requires-2-clause-ascending : goal.insert_key-requires-2-clause-ascending
insert_key-requires-2-clause-ascending g c = λ is_open. rw (c.in_ok-insert_value.ensures.ok, c.in_ok-insert_key.ensures.ok, c.requires.fresh.0) two_keys

pub insert_key-requires-3-clause-ascending : goal.insert_key-requires-3-clause-ascending
insert_key-requires-3-clause-ascending g c = λ is_open.
    rw (c.in_ok-insert_value-2.ensures.ok, c.in_ok-insert_key-2.ensures.ok, c.in_ok-insert_value.ensures.ok, c.in_ok-insert_key.ensures.ok, c.requires.fresh.0) three_keys
