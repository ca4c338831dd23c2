use Rattle.std.proofs.Common.{◌∙◌, ◌*◌, ◌^◌, ℕ, Option, ap, refl}
use Rattle.ii_base.specs.Entries.{Entry}
use Rattle.ii_bm25.specs.Bm25.{bm25_score}
use Rattle.ii_query.specs.Phrase.{parts_in}
use Rattle.ii_docset.specs.Cursor.{from_doc}
use Rattle.ii_ranking.specs.NormIds.{id_among}
use Rattle.ii_ranking.proofs.LeafLemmas.{entry_row, leaf_next, leaf_went}
use Rattle.ii_ranking.proofs.PhraseScoreLemmas.{starts_score}
use Rattle.ii_ranking.proofs.phrase_scorer.PhraseScorerScorer.seek_with_score.Goals as goal

pub returns-clause-next : goal.returns-clause-next
returns-clause-next c =
    let s = c.args.self.now in
    let rest = c.go_to.ensures.rest ∙ ap (λ (t : _). from_doc c.args.target t.part.rest) c.clear.ensures in
    leaf_next _ (entry_row (λ (doc : ℕ) (found : Option Entry). starts_score s.slop (bm25_score s.weight (id_among s.norms doc)) (parts_in s.others.items) found) (λ doc. refl)) (s.weight.weight * 2 ^ 16) c.args.target c.args._least c.go_to.result s.first.part.rest c.go_to.new.self.part.rest c.requires rest c.go_to.ensures.sound.ascending c.go_to.ensures.doc

pub returns-clause-kept : goal.returns-clause-kept
returns-clause-kept c =
    let s = c.args.self.now in
    let rest = c.go_to.ensures.rest ∙ ap (λ (t : _). from_doc c.args.target t.part.rest) c.clear.ensures in
    leaf_went _ (entry_row (λ (doc : ℕ) (found : Option Entry). starts_score s.slop (bm25_score s.weight (id_among s.norms doc)) (parts_in s.others.items) found) (λ doc. refl)) (s.weight.weight * 2 ^ 16) c.args.target s.first.part.rest c.go_to.new.self.part.rest rest
