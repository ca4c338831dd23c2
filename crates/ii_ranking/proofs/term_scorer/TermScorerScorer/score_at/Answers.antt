use Rattle.std.proofs.Common.{◌∙◌, ◌*◌, ◌^◌, ℕ, Option, Some, ap, refl, sym}
use Rattle.std.specs.Option.{option_map}
use Rattle.ii_base.specs.Entries.{Entry}
use Rattle.ii_bm25.specs.Bm25.{bm25_score}
use Rattle.ii_ranking.specs.NormIds.{id_among}
use Rattle.ii_ranking.proofs.EntryLemmas.{count_here}
use Rattle.ii_ranking.proofs.LeafLemmas.{entry_row, leaf_here, leaf_none, leaf_went}
use Rattle.ii_ranking.proofs.term_scorer.TermScorerScorer.score_at.Goals as goal

pub returns-then-go_on-doc-clause-score : goal.returns-then-go_on-doc-clause-score
returns-then-go_on-doc-clause-score c =
    let s = c.args.self.now in
    leaf_none _ (entry_row (λ (doc : ℕ) (found : Option Entry). option_map (λ (e : Entry). bm25_score s.by.weight (id_among s.by.norms doc) e.term_freq) found) (λ doc. refl)) (s.by.weight.weight * 2 ^ 16) c.args.doc c.args.least c.go_on.result s.cursor.rest c.go_on.new.cursor.rest
    c.requires c.go_on.ensures.rest c.go_on.ensures.sound.ascending c.go_on.ensures.doc c.if-go_on-doc.true

pub returns-then-go_on-doc-clause-kept : goal.returns-then-go_on-doc-clause-kept
returns-then-go_on-doc-clause-kept c =
    let s = c.args.self.now in
    leaf_went _ (entry_row (λ (doc : ℕ) (found : Option Entry). option_map (λ (e : Entry). bm25_score s.by.weight (id_among s.by.norms doc) e.term_freq) found) (λ doc. refl)) (s.by.weight.weight * 2 ^ 16) c.args.doc s.cursor.rest c.go_on.new.cursor.rest c.go_on.ensures.rest

pub returns-clause-score : goal.returns-clause-score
returns-clause-score c =
    let s = c.args.self.now in
    let here = sym c.if-go_on-doc.false ∙ c.go_on.ensures.doc in
    let counted = count_here (bm25_score s.by.weight (id_among s.by.norms c.args.doc)) c.args.doc c.term_freq.result c.go_on.new.cursor.rest here c.requires c.term_freq.ensures.entry in
    leaf_here _ (entry_row (λ (doc : ℕ) (found : Option Entry). option_map (λ (e : Entry). bm25_score s.by.weight (id_among s.by.norms doc) e.term_freq) found) (λ doc. refl)) (s.by.weight.weight * 2 ^ 16) c.args.doc c.args.least s.cursor.rest c.go_on.new.cursor.rest
    c.if_at_least.result (Some c.score-score.result) c.requires c.go_on.ensures.rest c.if_at_least.ensures
    (counted ∙ ap (λ (n : ℕ). Some n) (sym c.score-score.ensures))

pub returns-clause-kept : goal.returns-clause-kept
returns-clause-kept c =
    let s = c.args.self.now in
    leaf_went _ (entry_row (λ (doc : ℕ) (found : Option Entry). option_map (λ (e : Entry). bm25_score s.by.weight (id_among s.by.norms doc) e.term_freq) found) (λ doc. refl)) (s.by.weight.weight * 2 ^ 16) c.args.doc s.cursor.rest c.go_on.new.cursor.rest c.go_on.ensures.rest
