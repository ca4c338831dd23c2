use Rattle.ii_query.specs.Phrase.{parts_in}
use Rattle.ii_query.specs.SloppyPhrase.{begins_near}
use Rattle.ii_query.proofs.PhraseLemmas.{kept_sound}
use Rattle.ii_query.proofs.sloppy_phrase.SloppyPhraseMatchDocSet.doc.Goals as goal

pub returns-clause-sound : goal.returns-clause-sound
returns-clause-sound g c = rw (← c.self.view_is) (kept_sound (begins_near c.self.inside.slop (parts_in c.self.inside.others.items)) c.self.inside.first.part.rest c.doc.ensures.sound)
