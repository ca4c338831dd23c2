use Rattle.std.proofs.Common.{◌≡◌, drop}
use Rattle.ii_stemmer.specs.Letters.{is_one_of}
use Rattle.ii_stemmer.proofs.letters.is_one_of.Given as goal

abbrev pub invariant-loop-one : goal.invariant-loop-one
invariant-loop-one l = is_one_of l.letters l.letter ≡ is_one_of (drop l.one-index l.letters) l.letter
