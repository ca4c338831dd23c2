use Rattle.std.proofs.Common.{◌≡◌, ◌∙◌, ℕ, Option, Some, ap, refl, sym, arith}
use Rattle.std.specs.Option.{option_map}
use Rattle.ii_base.specs.Entries.{Entry}
use Rattle.ii_docset.proofs.CursorLemmas.{nothing_left}
use Rattle.ii_bm25.specs.Bm25.{bm25_score}
use Rattle.ii_ranking.specs.Combinations.{added_at}
use Rattle.ii_ranking.specs.Scores.{entry_at, norm_id_in}
use Rattle.ii_ranking.proofs.EntryLemmas.{adds_all, adds_one, count_here}
use Rattle.ii_ranking.proofs.term_scores.add_entries.Goals as goal

pub loop-doc-preserved : goal.loop-doc-preserved
loop-doc-preserved c =
    let l = c.loop-doc in
    let i = l.invariant in
    let weight = c.args.weight.now in
    record {
      doc_is = c.advance-doc.ensures.doc;
      sound = c.advance-doc.ensures.sound;
      adding = λ ids norms.
          let score : Some c.score-score.result ≡ option_map (λ (e : Entry). bm25_score weight (norm_id_in ids l.doc) e.term_freq) (entry_at l.cursor.rest l.doc) =
          ap (λ (n : ℕ). Some n) (c.score-score.ensures.value ∙ ap (λ (id : ℕ). bm25_score weight id c.term_freq.result) (c.norm_id.ensures.ids ids norms))
          ∙ sym (count_here (bm25_score weight (norm_id_in ids l.doc)) l.doc c.term_freq.result l.cursor.rest i.doc_is c.loop-doc-test.true c.term_freq.ensures.entry)
          in
          let is = c.add_at.ensures ∙ ap (λ (s : Option ℕ). added_at s l.doc l.scores.items) score in
          rw is (adds_one (λ (doc : ℕ) (found : Option Entry). option_map (λ (e : Entry). bm25_score weight (norm_id_in ids doc) e.term_freq) found) (λ doc. refl) l.doc c.args.cursor.now.rest l.cursor.rest c.advance-doc.new.self.rest c.args.scores.now.items l.scores.items
          i.doc_is c.loop-doc-test.true i.sound.ascending c.advance-doc.ensures.rest (i.adding ids norms));
    }

pub returns : goal.returns
returns c = λ ids norms.
    let l = c.loop-doc in
    let i = l.invariant in
    let weight = c.args.weight.now in
    let over = c.loop-doc-test.false in
    let here = i.doc_is in
    let none = nothing_left l.cursor.rest i.sound.ascending (omega arith) in
    adds_all (λ (doc : ℕ) (found : Option Entry). option_map (λ (e : Entry). bm25_score weight (norm_id_in ids doc) e.term_freq) found) (λ doc. refl) c.args.cursor.now.rest c.args.scores.now.items l.scores.items
    (rw none (i.adding ids norms))
