use Rattle.std.proofs.Common.{◌∙◌, ℕ, Option, ap, arith, refl}
use Rattle.std.specs.Option.{option_map}
use Rattle.ii_base.specs.Entries.{Entry}
use Rattle.ii_bm25.specs.declared.bm25.TheConstants.{SCORE_ONE}
use Rattle.ii_docset.proofs.CursorLemmas.{nothing_left}
use Rattle.ii_ranking.specs.Combinations.{added_at}
use Rattle.ii_ranking.proofs.EntryLemmas.{adds_all, adds_one, one_here, ones}
use Rattle.ii_ranking.proofs.ScoreLemmas.{adds_alike}
use Rattle.ii_ranking.proofs.range_scores.add_docs.Goals as goal

pub loop-doc-preserved : goal.loop-doc-preserved
loop-doc-preserved g c =
    let l = c.loop-doc in
    let i = l.invariant in
    let rest = g.D.DocSet.rest in
    record {
      doc_is = c.advance-doc.ensures.doc;
      sound = c.advance-doc.ensures.sound;
      adding =
          let is = c.add_at.ensures ∙ ap (λ (s : Option ℕ). added_at s l.doc l.scores.items) (one_here l.doc (rest l.cursor) i.doc_is c.loop-doc-test.true) in
          rw is (adds_one (λ (doc : ℕ) (found : Option Entry). option_map (λ (e : Entry). SCORE_ONE) found) (λ doc. refl) l.doc (rest c.args.cursor.now) (rest l.cursor) (rest c.advance-doc.new.self) c.args.scores.now.items l.scores.items
          i.doc_is c.loop-doc-test.true i.sound.ascending c.advance-doc.ensures.rest i.adding);
    }

pub returns : goal.returns
returns g c =
    let l = c.loop-doc in
    let i = l.invariant in
    let rest = g.D.DocSet.rest in
    let over = c.loop-doc-test.false in
    let here = i.doc_is in
    let none = nothing_left (rest l.cursor) i.sound.ascending (omega arith) in
    adds_alike _ _ c.args.scores.now.items l.scores.items (ones (rest c.args.cursor.now))
    (adds_all (λ (doc : ℕ) (found : Option Entry). option_map (λ (e : Entry). SCORE_ONE) found) (λ doc. refl) (rest c.args.cursor.now) c.args.scores.now.items l.scores.items (rw none i.adding))
