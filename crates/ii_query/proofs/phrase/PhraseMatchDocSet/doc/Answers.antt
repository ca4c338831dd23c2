use Rattle.ii_query.specs.Phrase.{parts_in}
use Rattle.ii_query.proofs.PhraseLemmas.{phrase_sound}
use Rattle.ii_query.proofs.phrase.PhraseMatchDocSet.doc.Goals as goal

pub returns-clause-sound : goal.returns-clause-sound
returns-clause-sound g c = rw (← c.self.view_is) (phrase_sound c.self.inside.first.part.rest (parts_in c.self.inside.others.items) c.doc.ensures.sound)
