use Rattle.std.proofs.Common.{◌≡◌, ◌∙◌, ◌∷◌, drop}
use Rattle.std.specs.List.{AllZip}
use Rattle.ii_query.specs.Phrase.{ReadsOnce, parts_in}
use Rattle.ii_query.specs.SloppyPhrase.{begins_near, sloppy_docs}
use Rattle.ii_query.proofs.PhraseLemmas.{kept_drop, kept_sound}
use Rattle.ii_query.proofs.ReadsLemmas.{cursors_spent, unread_after}
use Rattle.ii_query.specs.WorkLaws.{reads_in_turn}
use Rattle.ii_query.proofs.sloppy_phrase.SloppyPhraseMatchDocSet.advance.Goals as goal

pub go_to_phrase-requires-clause-others_unread : goal.go_to_phrase-requires-clause-others_unread
go_to_phrase-requires-clause-others_unread g c =
    let es = c.self.inside.first.part.rest in
    rw c.advance.ensures.rest (unread_after es c.self.inside.others.items c.self.invariant.0.sound.ascending c.self.invariant.1)

pub returns-clause-rest : goal.returns-clause-rest
returns-clause-rest g c =
    let others = parts_in c.self.inside.others.items in
    let moved : sloppy_docs c.self.inside.slop c.advance.new.self.part.rest others ≡ drop 1 (sloppy_docs c.self.inside.slop c.self.inside.first.part.rest others) = rw (c.advance.ensures.rest) (kept_drop (begins_near c.self.inside.slop others) c.self.inside.first.part.rest c.self.invariant.0) in
    rw (← c.self.view_is) (c.go_to_phrase.ensures.rest ∙ moved)

pub returns-clause-sound : goal.returns-clause-sound
returns-clause-sound g c = kept_sound (begins_near c.self.inside.slop (parts_in c.go_to_phrase.new.others.items)) c.go_to_phrase.new.first.part.rest c.go_to_phrase.ensures.at.sound

pub returns-clause-work : goal.returns-clause-work
returns-clause-work g c =
    let first = reads_in_turn g.P.Postings.spent g.met.P.Postings.spent_on c.self.inside.first c.advance.new.self c.go_to_phrase.new.first c.advance.ensures.work c.go_to_phrase.ensures.first_work in
    let reads : AllZip (ReadsOnce g.P.Postings.spent) (c.self.inside.first ∷ c.self.inside.others.items) (c.go_to_phrase.new.first ∷ c.go_to_phrase.new.others.items) = (first, c.go_to_phrase.ensures.other_work) in
    rw (← c.self.view_is) (cursors_spent g.P.Postings.spent (c.self.inside.first ∷ c.self.inside.others.items) (c.go_to_phrase.new.first ∷ c.go_to_phrase.new.others.items) reads, reads)
