use Rattle.std.proofs.Common.{◌≡◌, ◌+◌, ◌≤◌, drop}
use Rattle.ii_stemmer.specs.Letters.{changes, measure, vowels_after}
use Rattle.ii_stemmer.proofs.letters.measure.Given as goal

abbrev pub invariant-loop-letter : goal.invariant-loop-letter
invariant-loop-letter l = (l.count + changes l.after_vowel (vowels_after l.after_consonant (drop l.letter-index l.word)) ≡ measure l.word) × (l.count ≤ l.letter-index)
