use Rattle.std.proofs.Common.{◌≤◌, ◌+◌, List, ap, sym, subst, ◌∙◌, arith}
use Rattle.ii_docset.specs.Cursor.{doc_at}
use Rattle.ii_query.specs.Phrase.{PhrasePartState, ReadsOnce, parts_in}
use Rattle.ii_query.specs.SloppyPhrase.{sloppy_docs}
use Rattle.ii_query.proofs.PhraseLemmas.{are_current, met_above, met_alike, met_here, met_without, phrase_above}
use Rattle.ii_query.proofs.ReadsLemmas.{unread_above, unread_here, unread_later}
use Rattle.ii_query.specs.WorkLaws.{all_went_on, reads_in_turn, reads_nothing}
use Rattle.ii_query.proofs.phrase.candidate.Goals as goal

pub returns-then-bound-doc-clause-same : goal.returns-then-bound-doc-clause-same
returns-then-bound-doc-clause-same g c =
    met_alike c.args.slop c.args.doc c.meet_others-bound.result c.args.first.now.part.rest (parts_in c.args.others.now.items) (parts_in c.meet_others-bound.new.others.items) c.meet_others-bound.ensures.meets c.doc-doc.ensures.sound.ascending c.requires.here

pub returns-then-bound-doc-clause-unread : goal.returns-then-bound-doc-clause-unread
returns-then-bound-doc-clause-unread g c = unread_later c.args.doc (c.args.doc + 1) c.meet_others-bound.new.others.items (omega arith) c.meet_others-bound.ensures.unread

pub returns-then-bound-doc-clause-first_work : goal.returns-then-bound-doc-clause-first_work
returns-then-bound-doc-clause-first_work g c =
    let t = c.args.first.now in
    reads_nothing g.P.Postings.spent t (g.met.P.Postings.spent_moving t.cursor t.cursor (g.met.P.DocSet.went_nowhere t.cursor))

pub is_phrase_within-requires-clause-others : goal.is_phrase_within-requires-clause-others
is_phrase_within-requires-clause-others g c = are_current (parts_in c.meet_others-bound.new.others.items) c.args.doc (c.meet_others-bound.ensures.meets.met c.if-bound-doc.false) c.requires.low

pub is_phrase_within-requires-clause-others_unread : goal.is_phrase_within-requires-clause-others_unread
is_phrase_within-requires-clause-others_unread g c = unread_here c.args.doc c.meet_others-bound.new.others.items (c.meet_others-bound.ensures.meets.met c.if-bound-doc.false) c.meet_others-bound.ensures.unread

pub returns-then-is_phrase_within-clause-same : goal.returns-then-is_phrase_within-clause-same
returns-then-is_phrase_within-clause-same g c =
    ap (sloppy_docs c.args.slop c.args.first.now.part.rest) c.is_phrase_within.ensures.others_same
    ∙ met_alike c.args.slop c.args.doc c.meet_others-bound.result c.args.first.now.part.rest (parts_in c.args.others.now.items) (parts_in c.meet_others-bound.new.others.items) c.meet_others-bound.ensures.meets c.doc-doc.ensures.sound.ascending c.requires.here

pub returns-then-is_phrase_within-clause-unread : goal.returns-then-is_phrase_within-clause-unread
returns-then-is_phrase_within-clause-unread g c = unread_above c.args.doc c.is_phrase_within.new.others.items (rw c.is_phrase_within.ensures.others_same (c.meet_others-bound.ensures.meets.met c.if-bound-doc.false))

pub returns-then-is_phrase_within-clause-other_work : goal.returns-then-is_phrase_within-clause-other_work
returns-then-is_phrase_within-clause-other_work g c =
    all_went_on (ReadsOnce g.P.Postings.spent) (reads_in_turn g.P.Postings.spent g.met.P.Postings.spent_on) c.args.others.now.items c.meet_others-bound.new.others.items c.is_phrase_within.new.others.items c.meet_others-bound.ensures.work c.is_phrase_within.ensures.other_work

pub returns-else-is_phrase_within-clause-same : goal.returns-else-is_phrase_within-clause-same
returns-else-is_phrase_within-clause-same g c =
    ap (sloppy_docs c.args.slop c.args.first.now.part.rest) c.is_phrase_within.ensures.others_same
    ∙ met_alike c.args.slop c.args.doc c.meet_others-bound.result c.args.first.now.part.rest (parts_in c.args.others.now.items) (parts_in c.meet_others-bound.new.others.items) c.meet_others-bound.ensures.meets c.doc-doc.ensures.sound.ascending c.requires.here

pub returns-else-is_phrase_within-clause-unread : goal.returns-else-is_phrase_within-clause-unread
returns-else-is_phrase_within-clause-unread g c = unread_above c.args.doc c.is_phrase_within.new.others.items (rw c.is_phrase_within.ensures.others_same (c.meet_others-bound.ensures.meets.met c.if-bound-doc.false))

pub returns-else-is_phrase_within-clause-other_work : goal.returns-else-is_phrase_within-clause-other_work
returns-else-is_phrase_within-clause-other_work g c =
    all_went_on (ReadsOnce g.P.Postings.spent) (reads_in_turn g.P.Postings.spent g.met.P.Postings.spent_on) c.args.others.now.items c.meet_others-bound.new.others.items c.is_phrase_within.new.others.items c.meet_others-bound.ensures.work c.is_phrase_within.ensures.other_work

pub returns-then-bound-doc-clause-candidate : goal.returns-then-bound-doc-clause-candidate
returns-then-bound-doc-clause-candidate g c =
    let m = c.meet_others-bound.ensures.meets in
    record {
      low = m.low;
      least = met_above c.args.slop c.args.doc c.meet_others-bound.result c.args.first.now.part.rest (parts_in c.args.others.now.items) (parts_in c.meet_others-bound.new.others.items) m c.if-bound-doc.true;
      here = λ same. absurd (c.if-bound-doc.true same);
    }

pub returns-then-is_phrase_within-clause-candidate : goal.returns-then-is_phrase_within-clause-candidate
returns-then-is_phrase_within-clause-candidate g c =
    let here = c.requires.here in
    let above = phrase_above c.args.slop c.args.first.now.part.rest (parts_in c.is_phrase_within.new.others.items) c.doc-doc.ensures.sound.ascending in
    record {
      low = omega arith;
      least = omega (arith, here, above);
      here = λ same.
          ap (λ (os : List PhrasePartState). doc_at (sloppy_docs c.args.slop c.args.first.now.part.rest os)) c.is_phrase_within.ensures.others_same
          ∙ met_here c.args.slop c.args.doc c.args.first.now.part.rest (parts_in c.meet_others-bound.new.others.items) (c.meet_others-bound.ensures.meets.met c.if-bound-doc.false) c.requires.here c.requires.low (sym c.is_phrase_within.ensures.phrase ∙ c.if-is_phrase_within.true);
    }

pub returns-else-is_phrase_within-clause-candidate : goal.returns-else-is_phrase_within-clause-candidate
returns-else-is_phrase_within-clause-candidate g c = record {
  low = omega arith;
  least = subst (λ (os : List PhrasePartState). c.args.doc + 1 ≤ doc_at (sloppy_docs c.args.slop c.args.first.now.part.rest os)) (sym c.is_phrase_within.ensures.others_same)
      (met_without c.args.slop c.args.doc c.args.first.now.part.rest (parts_in c.meet_others-bound.new.others.items) (c.meet_others-bound.ensures.meets.met c.if-bound-doc.false) c.doc-doc.ensures.sound.ascending c.requires.here c.requires.low (sym c.is_phrase_within.ensures.phrase ∙ c.if-is_phrase_within.false));
  here = λ same. absurd (omega (arith, same));
}
