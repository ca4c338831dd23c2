use Rattle.std.proofs.Common.{◌∙◌, ◌≤◌, ◌<◌, ℕ, Option, ap, arith, drop, refl, sym}
use Rattle.ii_base.specs.declared.doc_id.TheConstants.{TERMINATED}
use Rattle.ii_base.specs.Entries.{Entry}
use Rattle.ii_docset.proofs.CursorLemmas.{nothing_left}
use Rattle.ii_docset.specs.Cursor.{doc_at}
use Rattle.ii_bm25.specs.Bm25.{bm25_score}
use Rattle.ii_query.specs.Phrase.{PhrasePartState, parts_in}
use Rattle.ii_query.proofs.ReadsLemmas.{unread_after, unread_all}
use Rattle.ii_ranking.specs.Combinations.{added_at}
use Rattle.ii_ranking.specs.Scores.{norm_id_in}
use Rattle.ii_ranking.proofs.EntryLemmas.{adds_all, adds_one}
use Rattle.ii_ranking.proofs.PhraseScoreLemmas.{moved_none, moved_on, next_up, starts_here, starts_score}
use Rattle.ii_ranking.proofs.phrase_scores.add_starts.Goals as goal

pub loop-doc-init : goal.loop-doc-init
loop-doc-init c = record {
  doc_is = c.doc-doc.ensures.doc;
  sound = c.doc-doc.ensures.sound;
  first_unread = c.requires.first;
  others_unread = λ current. unread_all (doc_at c.args.first.now.part.rest) c.args.others.now.items c.requires.others;
  moved = moved_none c.doc-doc.result (parts_in c.args.others.now.items);
  adding = λ ids norms. record { many = refl; each = λ doc inside. refl };
}

pub count_starts-count-requires-clause-current : goal.count_starts-count-requires-clause-current
count_starts-count-requires-clause-current c = let here = c.loop-doc.invariant.doc_is in let test = c.loop-doc-test.true in omega (arith, here, test)

pub count_starts-count-requires-clause-others_unread : goal.count_starts-count-requires-clause-others_unread
count_starts-count-requires-clause-others_unread c = c.loop-doc.invariant.others_unread (let here = c.loop-doc.invariant.doc_is in let test = c.loop-doc-test.true in omega (arith, here, test))

pub loop-doc-preserved : goal.loop-doc-preserved
loop-doc-preserved c =
    let l = c.loop-doc in
    let i = l.invariant in
    let weight = c.args.weight.now in
    let parts = parts_in c.args.others.now.items in
    let counted = c.count_starts-count.ensures in
    let rest = c.advance-doc.ensures.rest ∙ ap (λ (p : PhrasePartState). drop 1 p.rest) counted.first_same in
    let low : doc_at l.first.part.rest < TERMINATED = let here = i.doc_is in let test = c.loop-doc-test.true in omega (arith, here, test) in
    let next : l.doc ≤ c.advance-doc.result =
    let here = i.doc_is in let there = c.advance-doc.ensures.doc in let up = next_up l.first.part.rest c.advance-doc.new.self.part.rest i.sound.ascending rest low in omega (arith, here, there, up)
    in
    record {
      doc_is = c.advance-doc.ensures.doc;
      sound = c.advance-doc.ensures.sound;
      first_unread = c.advance-doc.ensures.unread;
      others_unread = rw rest (unread_after l.first.part.rest c.count_starts-count.new.others.items i.sound.ascending (λ current. counted.unread));
      moved = moved_on l.doc c.advance-doc.result parts (parts_in l.others.items) (parts_in c.count_starts-count.new.others.items) i.moved (record { alike = λ test d up. counted.others_alike test d (let here = i.doc_is in omega (arith, here, up)) }) next;
      adding = λ ids norms.
          let score = c.score_of.ensures.ids ids norms ∙ sym (starts_here c.args.slop (bm25_score weight (norm_id_in ids l.doc)) l.doc c.count_starts-count.result l.first.part.rest parts (parts_in l.others.items) i.doc_is c.loop-doc-test.true i.moved counted.count) in
          let is = c.add_at.ensures ∙ ap (λ (s : Option ℕ). added_at s l.doc l.scores.items) score in
          rw is (adds_one (λ (doc : ℕ) (found : Option Entry). starts_score c.args.slop (bm25_score weight (norm_id_in ids doc)) parts found) (λ doc. refl) l.doc c.args.first.now.part.rest l.first.part.rest c.advance-doc.new.self.part.rest c.args.scores.now.items l.scores.items
          i.doc_is c.loop-doc-test.true i.sound.ascending rest (i.adding ids norms));
    }

pub returns : goal.returns
returns c = λ ids norms.
    let l = c.loop-doc in
    let i = l.invariant in
    let weight = c.args.weight.now in
    let over = c.loop-doc-test.false in
    let here = i.doc_is in
    let none = nothing_left l.first.part.rest i.sound.ascending (omega arith) in
    adds_all (λ (doc : ℕ) (found : Option Entry). starts_score c.args.slop (bm25_score weight (norm_id_in ids doc)) (parts_in c.args.others.now.items) found) (λ doc. refl) c.args.first.now.part.rest c.args.scores.now.items l.scores.items
    (rw none (i.adding ids norms))
