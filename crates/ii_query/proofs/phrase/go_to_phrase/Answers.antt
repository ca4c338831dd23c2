use Rattle.std.proofs.Common.{◌≤◌, ◌+◌, List, ap, sym, subst, ◌∙◌, refl, arith}
use Rattle.ii_base.specs.Entries.{Entry}
use Rattle.ii_docset.specs.Cursor.{doc_at, from_doc}
use Rattle.ii_docset.proofs.IntersectionLemmas.{at_end, doc_at-from_doc}
use Rattle.ii_query.proofs.PhraseLemmas.{phrase_bound, phrase_on, phrase_smaller}
use Rattle.ii_query.proofs.ReadsLemmas.{unread_later}
use Rattle.ii_query.specs.Phrase.{PhrasePartState, PhraseTermState, ReadsOnce, parts_in}
use Rattle.ii_query.specs.WorkLaws.{all_went_on, none_went, reads_in_turn, reads_nothing}
use Rattle.ii_query.proofs.phrase.go_to_phrase.Goals as goal

pub candidate-bound-requires-clause-others_unread : goal.candidate-bound-requires-clause-others_unread
candidate-bound-requires-clause-others_unread g c = c.loop-doc.invariant.others_unread c.loop-doc-test.true

pub go_to-doc-requires-clause-up_to : goal.go_to-doc-requires-clause-up_to
go_to-doc-requires-clause-up_to g c =
    let l = c.loop-doc in
    let e = c.candidate-bound.ensures in
    phrase_bound c.args.slop c.candidate-bound.result l.first.part.rest (parts_in c.candidate-bound.new.others.items) l.invariant.sound e.candidate.least

pub go_to-doc-requires-clause-unread : goal.go_to-doc-requires-clause-unread
go_to-doc-requires-clause-unread g c up =
    let l = c.loop-doc in
    let e = c.candidate-bound.ensures in
    let here = l.invariant.here in
    let low = e.candidate.low in
    let other = c.if-bound-doc.false in
    let still = ap (λ (p : PhrasePartState). doc_at p.rest) e.first in
    absurd (omega (arith, up, here, low, other, still))

pub loop-doc-smaller : goal.loop-doc-smaller
loop-doc-smaller g c =
    let l = c.loop-doc in
    let e = c.candidate-bound.ensures in
    phrase_smaller c.args.slop l.doc c.candidate-bound.result c.go_to-doc.result l.first.part.rest c.go_to-doc.new.self.part.rest (parts_in c.candidate-bound.new.others.items) l.invariant.sound c.loop-doc-test.true e.candidate.low c.if-bound-doc.false e.candidate.least
    (c.go_to-doc.ensures.rest ∙ ap (λ (p : PhrasePartState). from_doc c.candidate-bound.result p.rest) e.first) c.go_to-doc.ensures.doc

pub loop-doc-preserved : goal.loop-doc-preserved
loop-doc-preserved g c =
    let l = c.loop-doc in
    let e = c.candidate-bound.ensures in
    let moved = c.go_to-doc.ensures.rest ∙ ap (λ (p : PhrasePartState). from_doc c.candidate-bound.result p.rest) e.first in
    let bound = phrase_bound c.args.slop c.candidate-bound.result l.first.part.rest (parts_in c.candidate-bound.new.others.items) l.invariant.sound e.candidate.least in
    let reached = subst (λ (es : List Entry). c.candidate-bound.result ≤ doc_at es) (sym moved) (doc_at-from_doc c.candidate-bound.result l.first.part.rest bound) in
    let here = c.go_to-doc.ensures.doc in
    let low = e.candidate.low in
    let other = c.if-bound-doc.false in
    record {
      here = c.go_to-doc.ensures.doc;
      sound = c.go_to-doc.ensures.sound;
      met = phrase_on c.args.slop c.candidate-bound.result l.first.part.rest c.go_to-doc.new.self.part.rest (parts_in c.candidate-bound.new.others.items) l.invariant.sound e.candidate.least moved ∙ e.same ∙ l.invariant.met;
      leads = c.go_to-doc.ensures.distance ∙ ap (λ (p : PhrasePartState). p.distance) e.first ∙ l.invariant.leads;
      first_unread = c.go_to-doc.ensures.unread;
      others_unread = λ current. unread_later (l.doc + 1) c.go_to-doc.result c.candidate-bound.new.others.items (omega (arith, reached, here, low, other)) e.unread;
      first_work = reads_in_turn g.P.Postings.spent g.met.P.Postings.spent_on c.args.first.now l.first c.go_to-doc.new.self l.invariant.first_work (reads_in_turn g.P.Postings.spent g.met.P.Postings.spent_on l.first c.candidate-bound.new.first c.go_to-doc.new.self e.first_work c.go_to-doc.ensures.work);
      other_work = all_went_on (ReadsOnce g.P.Postings.spent) (reads_in_turn g.P.Postings.spent g.met.P.Postings.spent_on) c.args.others.now.items l.others.items c.candidate-bound.new.others.items l.invariant.other_work e.other_work;
    }

pub returns-clause-at : goal.returns-clause-at
returns-clause-at g c =
    let none = at_end c.loop-doc.first.part.rest c.loop-doc.doc c.loop-doc.invariant.here c.loop-doc.invariant.sound c.loop-doc-test.false in
    record { sound = c.loop-doc.invariant.sound; here = rw (none) refl }

pub loop-doc-init : goal.loop-doc-init
loop-doc-init g c =
    let still = λ (t : PhraseTermState _). reads_nothing g.P.Postings.spent t (g.met.P.Postings.spent_moving t.cursor t.cursor (g.met.P.DocSet.went_nowhere t.cursor)) in
    let here = c.doc-doc.ensures.doc in
    record {
      here = here;
      sound = c.doc-doc.ensures.sound;
      met = refl;
      leads = c.requires.leads;
      first_unread = c.requires.first_unread;
      others_unread = λ current. rw here (c.requires.others_unread (omega (arith, here, current)));
      first_work = still c.args.first.now;
      other_work = none_went (ReadsOnce g.P.Postings.spent) still c.args.others.now.items;
    }

pub returns-then-bound-doc-clause-first_work : goal.returns-then-bound-doc-clause-first_work
returns-then-bound-doc-clause-first_work g c = reads_in_turn g.P.Postings.spent g.met.P.Postings.spent_on c.args.first.now c.loop-doc.first c.candidate-bound.new.first c.loop-doc.invariant.first_work c.candidate-bound.ensures.first_work

pub returns-then-bound-doc-clause-other_work : goal.returns-then-bound-doc-clause-other_work
returns-then-bound-doc-clause-other_work g c = all_went_on (ReadsOnce g.P.Postings.spent) (reads_in_turn g.P.Postings.spent g.met.P.Postings.spent_on) c.args.others.now.items c.loop-doc.others.items c.candidate-bound.new.others.items c.loop-doc.invariant.other_work c.candidate-bound.ensures.other_work
