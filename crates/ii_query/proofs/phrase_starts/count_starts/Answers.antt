use Rattle.std.proofs.Common.{◌∙◌, ◌+◌, sym, arith}
use Rattle.ii_docset.specs.Cursor.{doc_at, positions_at}
use Rattle.ii_query.specs.Phrase.{ReadsOnce, parts_in}
use Rattle.ii_query.specs.WorkLaws.{all_went_on, reads_in_turn, reads_nothing}
use Rattle.ii_query.proofs.CountLemmas.{counted_here, counted_nowhere}
use Rattle.ii_query.proofs.PhraseLemmas.{are_current}
use Rattle.ii_query.proofs.ReadsLemmas.{unread_above, unread_here, unread_later}
use Rattle.ii_query.proofs.phrase_starts.count_starts.Goals as goal

pub returns-then-meet_others-doc-clause-count : goal.returns-then-meet_others-doc-clause-count
returns-then-meet_others-doc-clause-count g c =
    let m = rw c.doc-doc.ensures.doc at c.meet_others.ensures.meets in
    counted_nowhere c.args.slop (doc_at c.args.first.now.part.rest) c.meet_others.result (parts_in c.args.others.now.items) (parts_in c.meet_others.new.others.items) (positions_at c.args.first.now.part.rest) m (λ same. c.if-meet_others-doc.true (same ∙ sym c.doc-doc.ensures.doc))

pub returns-then-meet_others-doc-clause-unread : goal.returns-then-meet_others-doc-clause-unread
returns-then-meet_others-doc-clause-unread g c =
    let here = c.doc-doc.ensures.doc in
    unread_later c.doc-doc.result (doc_at c.args.first.now.part.rest + 1) c.meet_others.new.others.items (omega (arith, here)) c.meet_others.ensures.unread

pub returns-then-meet_others-doc-clause-first_work : goal.returns-then-meet_others-doc-clause-first_work
returns-then-meet_others-doc-clause-first_work g c =
    let t = c.args.first.now in
    reads_nothing g.P.Postings.spent t (g.met.P.Postings.spent_moving t.cursor t.cursor (g.met.P.DocSet.went_nowhere t.cursor))

pub count_here-requires-clause-others : goal.count_here-requires-clause-others
count_here-requires-clause-others g c =
    let here = c.doc-doc.ensures.doc in
    let low = c.requires.current in
    are_current (parts_in c.meet_others.new.others.items) c.doc-doc.result (c.meet_others.ensures.meets.met c.if-meet_others-doc.false) (omega (arith, here, low))

pub count_here-requires-clause-others_unread : goal.count_here-requires-clause-others_unread
count_here-requires-clause-others_unread g c = unread_here c.doc-doc.result c.meet_others.new.others.items (c.meet_others.ensures.meets.met c.if-meet_others-doc.false) c.meet_others.ensures.unread

pub returns-clause-count : goal.returns-clause-count
returns-clause-count g c =
    let m = rw (c.if-meet_others-doc.false, c.doc-doc.ensures.doc) at c.meet_others.ensures.meets in
    c.count_here.ensures.count ∙ counted_here c.args.slop (doc_at c.args.first.now.part.rest) (parts_in c.args.others.now.items) (parts_in c.meet_others.new.others.items) (positions_at c.args.first.now.part.rest) m c.requires.current

pub returns-clause-unread : goal.returns-clause-unread
returns-clause-unread g c =
    let met = rw c.doc-doc.ensures.doc at (c.meet_others.ensures.meets.met c.if-meet_others-doc.false) in
    unread_above (doc_at c.args.first.now.part.rest) c.count_here.new.others.items (rw c.count_here.ensures.others_same met)

pub returns-clause-other_work : goal.returns-clause-other_work
returns-clause-other_work g c =
    all_went_on (ReadsOnce g.P.Postings.spent) (reads_in_turn g.P.Postings.spent g.met.P.Postings.spent_on) c.args.others.now.items c.meet_others.new.others.items c.count_here.new.others.items c.meet_others.ensures.work c.count_here.ensures.other_work
