use Rattle.std.proofs.Common.{◌≡◌, drop}
use Rattle.ii_stemmer.specs.Porter.{are_letters}
use Rattle.ii_stemmer.proofs.stem.are_letters.Given as goal

abbrev pub invariant-loop-letter : goal.invariant-loop-letter
invariant-loop-letter l = are_letters l.word ≡ are_letters (drop l.letter-index l.word)
