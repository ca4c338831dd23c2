use Rattle.ii_damage.proofs.TableLemmas.{IsSeeking}
use Rattle.ii_damage.proofs.field_bodies.place_in.Given as goal

abbrev pub invariant-loop-i : goal.invariant-loop-i
invariant-loop-i l = IsSeeking l.field l.count l.table l._i l.rest
