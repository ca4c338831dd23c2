use Rattle.std.proofs.Common.{map}
use Rattle.ii_snippet.specs.Wanted.{is_word, wanted_of}
use Rattle.ii_snippet.proofs.PlaceLemmas.{NoneBefore}
use Rattle.ii_snippet.proofs.wanted.place_of.Given as goal

abbrev pub invariant-loop-place : goal.invariant-loop-place
invariant-loop-place l = NoneBefore (is_word l.field l.key) (map wanted_of l.words) l.place
