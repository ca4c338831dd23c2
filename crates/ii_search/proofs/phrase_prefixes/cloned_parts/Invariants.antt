use Rattle.std.proofs.Common.{◌≡◌, ◌++◌, drop, map}
use Rattle.ii_query.specs.Phrase.{parts_in}
use Rattle.ii_search.specs.PhrasePrefixes.{part_of}
use Rattle.ii_search.proofs.phrase_prefixes.cloned_parts.Given as goal

abbrev pub invariant-loop-term : goal.invariant-loop-term
invariant-loop-term l = parts_in l.parts.items ++ map part_of (drop l.term-index l.terms) ≡ map part_of l.terms
