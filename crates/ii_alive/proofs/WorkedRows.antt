-- Computed examples of the bytes of flags.
use Rattle.std.proofs.Common.{◌≡◌, true, false, [], ◌∷◌, ◌++◌, replicate, refl}
use Rattle.std.specs.Prelude.{Some, None}
use Rattle.ii_alive.specs.Alive.{num_living, rank}
use Rattle.ii_alive.specs.AliveBytes.{alive_bytes, alive_of, bits_of, num_words}

-- documents 0 and 2 of three
pub bytes_of_three : alive_bytes (true ∷ false ∷ true ∷ []) ≡ 5 ∷ replicate 7 0
unfolding alive_bytes num_words
bytes_of_three = refl

pub flags_of_three : alive_of 3 (5 ∷ replicate 7 0) ≡ Some (true ∷ false ∷ true ∷ [])
unfolding alive_of bits_of num_words
flags_of_three = refl

-- document 8 is the least bit of the second byte
pub flags_of_nine : alive_of 9 (0 ∷ 1 ∷ replicate 6 0) ≡ Some (replicate 8 false ++ true ∷ [])
unfolding alive_of bits_of num_words
flags_of_nine = refl

-- a bit after the last document
pub bit_past_end : alive_of 2 (5 ∷ replicate 7 0) ≡ None
unfolding alive_of bits_of num_words
bit_past_end = refl

pub too_few_bytes : alive_of 3 (5 ∷ replicate 6 0) ≡ None
unfolding alive_of bits_of num_words
too_few_bytes = refl

pub too_many_bytes : alive_of 3 (5 ∷ replicate 15 0) ≡ None
unfolding alive_of bits_of num_words
too_many_bytes = refl

pub no_documents : alive_of 0 [] ≡ Some []
unfolding alive_of bits_of num_words
no_documents = refl

-- the document after the first 64 begins eight more bytes
pub bytes_of_65 : alive_bytes (replicate 65 true) ≡ replicate 8 255 ++ 1 ∷ replicate 7 0
unfolding alive_bytes num_words
bytes_of_65 = refl

pub ranks : rank (true ∷ false ∷ true ∷ []) 2 ≡ 1
ranks = refl

pub rank_of_end : rank (true ∷ false ∷ true ∷ []) 3 ≡ num_living (true ∷ false ∷ true ∷ [])
rank_of_end = refl
