use Rattle.ii_damage.proofs.WalkedLemmas.{IsWalkingList}
use Rattle.ii_damage.proofs.walking.TermWalk.walk_list.Given as goal

abbrev pub invariant-loop-i : goal.invariant-loop-i
invariant-loop-i l = IsWalkingList l.num_docs l.fn.cursor.doc_freq l._i l.fn.cursor.rest l.cursor.rest l.stray l.fn.self l.self
