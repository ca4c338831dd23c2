-- Scores, computed on examples.
use Rattle.std.proofs.Common.{◌≡◌, refl}
use Rattle.ii_bm25.specs.Bm25.{score, share, weight}
use Rattle.ii_bm25.specs.Lengths.{length_part}

-- of one and of two occurrences in a text of average length

one : share 1 1258291 ≡ 122016126
one = refl

two : share 2 1258291 ≡ 167772170
two = refl

-- the length part of 30 tokens, of a field of 30,000,000 in 1,000,000 documents

average : length_part 30 30000000 1000000 ≡ 1258291
average = refl

-- a term in 10 of 1,000,000 documents

rare : weight 1109930453 ≡ 105784960
rare = refl

once : score 105784960 1 1258291 ≡ 3151238039127
once = refl
