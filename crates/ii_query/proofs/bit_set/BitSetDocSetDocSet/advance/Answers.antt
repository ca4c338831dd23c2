use Rattle.ii_query.proofs.SetLemmas.{set_advance, set_end}
use Rattle.ii_query.proofs.bit_set.BitSetDocSetDocSet.advance.Goals as goal
use Rattle.ii_query.proofs.bit_set.BitSetDocSetDocSet.advance.Goals.{then-self, else-self}

pub returns-clause-rest : goal.returns-clause-rest
returns-clause-rest c =
    let s = c.args.self.now in
    elim c.if-self.branch [
      | then-self w ↦ rw (w.self-is) (set_advance s.docs s.next s.end s.at w.first_from-self.result w.if-self.true w.first_from-self.ensures)
      | else-self w ↦ rw (w.self-is) (set_end s.docs s.next s.end s.at w.if-self.false)
    ]
