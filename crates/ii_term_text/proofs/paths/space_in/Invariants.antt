use Rattle.std.proofs.Common.{◌≡◌, ◌+◌, false, drop}
use Rattle.ii_term_text.specs.PathTexts.{space_place}
use Rattle.ii_term_text.proofs.paths.space_in.Given as goal

abbrev pub invariant-loop-place : goal.invariant-loop-place
invariant-loop-place l = space_place false l.text ≡ l.place + space_place l.is_kept (drop l.place l.text)
