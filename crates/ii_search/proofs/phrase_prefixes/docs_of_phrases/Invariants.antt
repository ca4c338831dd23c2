use Rattle.ii_search.specs.Found.{phrase_with}
use Rattle.ii_search.specs.PhrasePrefixes.{AreOpened}
use Rattle.ii_search.proofs.RangeLemmas.{IsCollecting}
use Rattle.ii_search.proofs.phrase_prefixes.docs_of_phrases.Given as goal

abbrev pub invariant-loop-ord : goal.invariant-loop-ord
invariant-loop-ord l = record {
  collecting : IsCollecting (phrase_with l.index l.phrase) l.phrase.last l.terms l.ord l.docs;
  opened : AreOpened l.index l.phrase l.opened;
}
