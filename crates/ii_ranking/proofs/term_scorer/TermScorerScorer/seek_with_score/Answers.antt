use Rattle.std.proofs.Common.{◌*◌, ◌^◌, ℕ, Option, refl}
use Rattle.std.specs.Option.{option_map}
use Rattle.ii_base.specs.Entries.{Entry}
use Rattle.ii_bm25.specs.Bm25.{bm25_score}
use Rattle.ii_ranking.specs.NormIds.{id_among}
use Rattle.ii_ranking.proofs.LeafLemmas.{entry_row, leaf_next, leaf_went}
use Rattle.ii_ranking.proofs.term_scorer.TermScorerScorer.seek_with_score.Goals as goal

pub returns-clause-next : goal.returns-clause-next
returns-clause-next c =
    let s = c.args.self.now in
    leaf_next _ (entry_row (λ (doc : ℕ) (found : Option Entry). option_map (λ (e : Entry). bm25_score s.by.weight (id_among s.by.norms doc) e.term_freq) found) (λ doc. refl)) (s.by.weight.weight * 2 ^ 16) c.args.target c.args._least c.go_on.result s.cursor.rest c.go_on.new.cursor.rest
    c.requires c.go_on.ensures.rest c.go_on.ensures.sound.ascending c.go_on.ensures.doc

pub returns-clause-kept : goal.returns-clause-kept
returns-clause-kept c =
    let s = c.args.self.now in
    leaf_went _ (entry_row (λ (doc : ℕ) (found : Option Entry). option_map (λ (e : Entry). bm25_score s.by.weight (id_among s.by.norms doc) e.term_freq) found) (λ doc. refl)) (s.by.weight.weight * 2 ^ 16) c.args.target s.cursor.rest c.go_on.new.cursor.rest c.go_on.ensures.rest
