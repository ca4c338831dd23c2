use Rattle.ii_query.proofs.AllLemmas.{all_sound}
use Rattle.ii_query.proofs.all_docs.AllDocsDocSet.doc.Goals as goal

pub returns-then-self-clause-sound : goal.returns-then-self-clause-sound
returns-then-self-clause-sound c = all_sound c.args.self.now.next c.args.self.now.end c.args.self.now.up_to
