use Rattle.std.proofs.Common.{◌≡◌, arith, false, rules, true}
use Rattle.ii_docset.specs.Cursor.{doc_at}
use Rattle.ii_docset.specs.Intersection.{has_doc}
use Rattle.ii_query.specs.Phrase.{parts_in}
use Rattle.ii_query.proofs.ReadsLemmas.{unread_all}
use Rattle.ii_ranking.proofs.ShareEntryLemmas.{begins, begins_nowhere}
use Rattle.ii_ranking.proofs.phrase_scores.count_phrase.Goals as goal

pub returns-then-not-goes_to-clause-count : goal.returns-then-not-goes_to-clause-count
returns-then-not-goes_to-clause-count c = λ S.
    let es = c.in_ok-cursor.cursor.rest in
    let none : has_doc es c.args.doc ≡ false = search rules in
    begins_nowhere c.args.index.now S c.args.first.now c.args.others.now c.args.slop c.args.doc es (parts_in c.in_ok-parts.parts.items) c.in_ok-cursor.ensures.listed (c.in_ok-parts.ensures.listed S) none

pub returns-clause-count : goal.returns-clause-count
returns-clause-count c = λ S.
    let es = c.in_ok-cursor.cursor.rest in
    let has : c.goes_to.result ≡ true = search rules in
    begins c.args.index.now S c.args.first.now c.args.others.now c.args.slop c.args.doc es (parts_in c.in_ok-parts.parts.items) c.in_ok-cursor.ensures.listed (c.in_ok-parts.ensures.listed S) c.goes_to.new.cursor.rest c.count_starts.result (c.goes_to.ensures.here has) (rw c.new-first.ensures.rest at c.count_starts.ensures.count)

pub count_starts-requires-clause-current : goal.count_starts-requires-clause-current
count_starts-requires-clause-current c =
    let has : c.goes_to.result ≡ true = search rules in
    let at = c.goes_to.ensures.here has in
    let below = at.below in
    let here = at.current in
    rw c.new-first.ensures.rest (omega (arith, below, here))

pub count_starts-requires-clause-others_unread : goal.count_starts-requires-clause-others_unread
count_starts-requires-clause-others_unread c = unread_all (doc_at c.new-first.result.part.rest) c.in_ok-parts.parts.items c.in_ok-parts.ensures.unread
