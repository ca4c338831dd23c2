use Rattle.std.proofs.Common.{◌≡◌, ◌-◌, ◌≤◌, drop, false}
use Rattle.std.specs.Prelude.{slice_index_or}
use Rattle.ii_stemmer.specs.Letters.{is_vowel_at, vowels_after}
use Rattle.ii_stemmer.proofs.letters.is_vowel_at.Given as goal

abbrev pub invariant-loop-at : goal.invariant-loop-at
invariant-loop-at l = (is_vowel_at l.word l.place ≡ slice_index_or (vowels_after l.after_consonant (drop l.at l.word)) (l.place - l.at) false) × (l.at ≤ l.place)
