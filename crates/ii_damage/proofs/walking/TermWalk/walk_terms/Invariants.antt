use Rattle.ii_damage.proofs.WalkedLemmas.{IsWalkingTerms}
use Rattle.ii_damage.proofs.walking.TermWalk.walk_terms.Given as goal

abbrev pub invariant-loop-ord : goal.invariant-loop-ord
invariant-loop-ord l = IsWalkingTerms l.num_docs l.places l.reader l.terms l._ord l.found.items l.fn.self l.self
