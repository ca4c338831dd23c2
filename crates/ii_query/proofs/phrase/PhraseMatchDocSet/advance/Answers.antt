use Rattle.std.proofs.Common.{◌≡◌, ◌∙◌, ◌∷◌, drop, sym}
use Rattle.std.specs.List.{AllZip}
use Rattle.ii_query.specs.Phrase.{ReadsOnce, parts_in, phrase_docs}
use Rattle.ii_query.proofs.PhraseLemmas.{phrase_drop, phrase_sound}
use Rattle.ii_query.proofs.ReadsLemmas.{cursors_spent, unread_after}
use Rattle.ii_query.specs.WorkLaws.{reads_in_turn}
use Rattle.ii_query.proofs.SloppyLemmas.{zero_at, zero_same}
use Rattle.ii_query.proofs.phrase.PhraseMatchDocSet.advance.Goals as goal

pub go_to_phrase-requires-clause-others_unread : goal.go_to_phrase-requires-clause-others_unread
go_to_phrase-requires-clause-others_unread g c =
    let es = c.self.inside.first.part.rest in
    rw c.advance.ensures.rest (unread_after es c.self.inside.others.items c.self.invariant.0.sound.ascending c.self.invariant.1)

pub returns-clause-rest : goal.returns-clause-rest
returns-clause-rest g c =
    let others = parts_in c.self.inside.others.items in
    let moved : phrase_docs c.advance.new.self.part.rest others ≡ drop 1 (phrase_docs c.self.inside.first.part.rest others) = rw (c.advance.ensures.rest) (phrase_drop c.self.inside.first.part.rest others c.self.invariant.0) in
    rw (← c.self.view_is) (zero_same c.advance.new.self.part.rest c.go_to_phrase.new.first.part.rest others (parts_in c.go_to_phrase.new.others.items) c.go_to_phrase.ensures.rest ∙ moved)

pub returns-clause-sound : goal.returns-clause-sound
returns-clause-sound g c = phrase_sound c.go_to_phrase.new.first.part.rest (parts_in c.go_to_phrase.new.others.items) c.go_to_phrase.ensures.at.sound

pub returns-clause-work : goal.returns-clause-work
returns-clause-work g c =
    let first = reads_in_turn g.P.Postings.spent g.met.P.Postings.spent_on c.self.inside.first c.advance.new.self c.go_to_phrase.new.first c.advance.ensures.work c.go_to_phrase.ensures.first_work in
    let reads : AllZip (ReadsOnce g.P.Postings.spent) (c.self.inside.first ∷ c.self.inside.others.items) (c.go_to_phrase.new.first ∷ c.go_to_phrase.new.others.items) = (first, c.go_to_phrase.ensures.other_work) in
    rw (← c.self.view_is) (cursors_spent g.P.Postings.spent (c.self.inside.first ∷ c.self.inside.others.items) (c.go_to_phrase.new.first ∷ c.go_to_phrase.new.others.items) reads, reads)

pub invariant_of-self : goal.invariant_of-self
invariant_of-self g c =
    (zero_at c.go_to_phrase.new.first.part.rest (parts_in c.go_to_phrase.new.others.items) c.go_to_phrase.ensures.at, c.go_to_phrase.ensures.unread, c.go_to_phrase.ensures.leads)

pub returns-clause-doc : goal.returns-clause-doc
returns-clause-doc g c =
    let at = zero_at c.go_to_phrase.new.first.part.rest (parts_in c.go_to_phrase.new.others.items) c.go_to_phrase.ensures.at in
    c.go_to_phrase.ensures.doc ∙ sym at.here
