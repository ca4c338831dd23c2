use Rattle.std.proofs.Common.{◌≡◌, ◌∙◌, Some, ap, arith, sym, true}
use Rattle.std.proofs.lemmas.Bool.{eq-eqb}
use Rattle.ii_bm25.specs.declared.bm25.TheConstants.{SCORE_ONE}
use Rattle.ii_docset.specs.Intersection.{has_doc}
use Rattle.ii_ranking.proofs.LeafLemmas.{found_row, leaf_here, leaf_none, leaf_went, one_if}
use Rattle.ii_ranking.proofs.ShareEntryLemmas.{first_from}
use Rattle.ii_ranking.proofs.found_scorer.FoundScorerScorer.score_at.Goals as goal

pub returns-then-go_on-doc-clause-score : goal.returns-then-go_on-doc-clause-score
returns-then-go_on-doc-clause-score c = leaf_none _ found_row SCORE_ONE c.args.doc c.args.least c.go_on.result c.args.self.now.cursor.rest c.go_on.new.cursor.rest c.requires c.go_on.ensures.rest c.go_on.ensures.sound.ascending c.go_on.ensures.doc c.if-go_on-doc.true

pub returns-then-go_on-doc-clause-kept : goal.returns-then-go_on-doc-clause-kept
returns-then-go_on-doc-clause-kept c = leaf_went _ found_row SCORE_ONE c.args.doc c.args.self.now.cursor.rest c.go_on.new.cursor.rest c.go_on.ensures.rest

pub returns-clause-score : goal.returns-clause-score
returns-clause-score c =
    let rest = c.go_on.new.cursor.rest in
    let here = c.if-go_on-doc.false in
    let at = c.go_on.ensures.doc in
    let has : has_doc rest c.args.doc ≡ true = sym (first_from c.args.doc rest c.go_on.ensures.sound.ascending (omega (arith, here, at)) c.requires) ∙ eq-eqb _ _ (sym at ∙ here) in
    leaf_here _ found_row SCORE_ONE c.args.doc c.args.least c.args.self.now.cursor.rest rest c.if_at_least.result (Some SCORE_ONE) c.requires c.go_on.ensures.rest c.if_at_least.ensures (ap one_if has)

pub returns-clause-kept : goal.returns-clause-kept
returns-clause-kept c = leaf_went _ found_row SCORE_ONE c.args.doc c.args.self.now.cursor.rest c.go_on.new.cursor.rest c.go_on.ensures.rest
