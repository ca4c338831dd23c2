use Rattle.ii_query.proofs.SetLemmas.{set_sound}
use Rattle.ii_query.proofs.bit_set.BitSetDocSetDocSet.doc.Goals as goal

pub returns-then-self-clause-sound : goal.returns-then-self-clause-sound
returns-then-self-clause-sound c = set_sound c.args.self.now.docs c.args.self.now.next c.args.self.now.end c.args.self.now.at
