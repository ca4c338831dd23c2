use Rattle.std.proofs.Common.{◌≡◌, drop}
use Rattle.ii_stemmer.specs.Letters.{any_vowel, has_vowel, vowels_after}
use Rattle.ii_stemmer.proofs.letters.has_vowel.Given as goal

abbrev pub invariant-loop-letter : goal.invariant-loop-letter
invariant-loop-letter l = has_vowel l.word ≡ any_vowel (vowels_after l.after_consonant (drop l.letter-index l.word))
