use Rattle.ii_query.proofs.SetLemmas.{set_seek, set_stays}
use Rattle.ii_query.proofs.bit_set.BitSetDocSetDocSet.seek.Goals as goal
use Rattle.ii_query.proofs.bit_set.BitSetDocSetDocSet.seek.Goals.{then-self-target, else-self-target}

pub returns-clause-rest : goal.returns-clause-rest
returns-clause-rest c =
    let s = c.args.self.now in
    elim c.if-self-target.branch [
      | then-self-target w ↦ rw (w.self-is) (set_seek s.docs s.next s.end s.at c.args.target w.first_from-self.result w.if-self-target.true w.first_from-self.ensures)
      | else-self-target w ↦ rw (w.self-is) (set_stays s.docs s.next s.end s.at c.args.target w.if-self-target.false)
    ]
