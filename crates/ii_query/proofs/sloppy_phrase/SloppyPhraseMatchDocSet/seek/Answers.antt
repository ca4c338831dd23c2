use Rattle.std.proofs.Common.{◌≡◌, ◌∙◌, ◌+◌, ◌∷◌, arith, sym}
use Rattle.std.specs.List.{AllZip}
use Rattle.ii_docset.specs.Cursor.{doc_at, from_doc}
use Rattle.ii_docset.proofs.CursorLemmas.{from_doc_here}
use Rattle.ii_docset.proofs.IntersectionLemmas.{doc_at-from_doc}
use Rattle.ii_query.specs.Phrase.{ReadsOnce, parts_in}
use Rattle.ii_query.specs.SloppyPhrase.{begins_near, sloppy_docs}
use Rattle.ii_query.proofs.PhraseLemmas.{kept_from, kept_sound}
use Rattle.ii_query.proofs.ReadsLemmas.{cursors_spent, unread_later}
use Rattle.ii_query.specs.WorkLaws.{none_went, reads_in_turn, reads_nothing}
use Rattle.ii_query.proofs.sloppy_phrase.SloppyPhraseMatchDocSet.seek.Goals as goal

pub returns-then-doc-target-clause-rest : goal.returns-then-doc-target-clause-rest
returns-then-doc-target-clause-rest g c =
    let es = c.self.inside.first.part.rest in
    let docs = sloppy_docs c.self.inside.slop es (parts_in c.self.inside.others.items) in
    let here = c.doc-doc.ensures.doc in
    let first = c.self.invariant.0.here in
    let low = c.if-doc-target.true in
    rw (← c.self.view_is) (sym (from_doc_here c.args.target docs (kept_sound (begins_near c.self.inside.slop (parts_in c.self.inside.others.items)) es c.doc-doc.ensures.sound).ascending (omega (arith, here, first, low))))

pub returns-then-doc-target-clause-sound : goal.returns-then-doc-target-clause-sound
returns-then-doc-target-clause-sound g c = rw (← c.self.view_is) (kept_sound (begins_near c.self.inside.slop (parts_in c.self.inside.others.items)) c.self.inside.first.part.rest c.doc-doc.ensures.sound)

pub returns-then-doc-target-clause-work : goal.returns-then-doc-target-clause-work
returns-then-doc-target-clause-work g c =
    let terms = c.self.inside.first ∷ c.self.inside.others.items in
    let reads = none_went (ReadsOnce g.P.Postings.spent) (λ t. reads_nothing g.P.Postings.spent t (g.met.P.Postings.spent_moving t.cursor t.cursor (g.met.P.DocSet.went_nowhere t.cursor))) terms in
    rw (← c.self.view_is) (cursors_spent g.P.Postings.spent terms terms reads, reads)

pub go_to_phrase-requires-clause-others_unread : goal.go_to_phrase-requires-clause-others_unread
go_to_phrase-requires-clause-others_unread g c current =
    let es = c.self.inside.first.part.rest in
    let here = c.doc-doc.ensures.doc in
    let low = c.if-doc-target.false in
    let up = c.requires.up_to in
    let reached = doc_at-from_doc c.args.target es up in
    rw c.go_to.ensures.rest (unread_later (doc_at es + 1) (doc_at (from_doc c.args.target es)) c.self.inside.others.items (omega (arith, here, low, reached)) (c.self.invariant.1 (omega (arith, here, low, up))))

pub returns-clause-rest : goal.returns-clause-rest
returns-clause-rest g c =
    let others = parts_in c.self.inside.others.items in
    let moved : sloppy_docs c.self.inside.slop c.go_to.new.self.part.rest others ≡ from_doc c.args.target (sloppy_docs c.self.inside.slop c.self.inside.first.part.rest others) = rw (c.go_to.ensures.rest) (kept_from (begins_near c.self.inside.slop others) c.args.target c.self.inside.first.part.rest) in
    rw (← c.self.view_is) (c.go_to_phrase.ensures.rest ∙ moved)

pub returns-clause-sound : goal.returns-clause-sound
returns-clause-sound g c = kept_sound (begins_near c.self.inside.slop (parts_in c.go_to_phrase.new.others.items)) c.go_to_phrase.new.first.part.rest c.go_to_phrase.ensures.at.sound

pub returns-clause-work : goal.returns-clause-work
returns-clause-work g c =
    let first = reads_in_turn g.P.Postings.spent g.met.P.Postings.spent_on c.self.inside.first c.go_to.new.self c.go_to_phrase.new.first c.go_to.ensures.work c.go_to_phrase.ensures.first_work in
    let reads : AllZip (ReadsOnce g.P.Postings.spent) (c.self.inside.first ∷ c.self.inside.others.items) (c.go_to_phrase.new.first ∷ c.go_to_phrase.new.others.items) = (first, c.go_to_phrase.ensures.other_work) in
    rw (← c.self.view_is) (cursors_spent g.P.Postings.spent (c.self.inside.first ∷ c.self.inside.others.items) (c.go_to_phrase.new.first ∷ c.go_to_phrase.new.others.items) reads, reads)
