use Rattle.ii_bm25.specs.declared.bm25.TheConstants.{SCORE_ONE}
use Rattle.ii_ranking.proofs.LeafLemmas.{found_row, leaf_next, leaf_went}
use Rattle.ii_ranking.proofs.found_scorer.FoundScorerScorer.seek_with_score.Goals as goal

pub returns-clause-next : goal.returns-clause-next
returns-clause-next c = leaf_next _ found_row SCORE_ONE c.args.target c.args._least c.go_on.result c.args.self.now.cursor.rest c.go_on.new.cursor.rest c.requires c.go_on.ensures.rest c.go_on.ensures.sound.ascending c.go_on.ensures.doc

pub returns-clause-kept : goal.returns-clause-kept
returns-clause-kept c = leaf_went _ found_row SCORE_ONE c.args.target c.args.self.now.cursor.rest c.go_on.new.cursor.rest c.go_on.ensures.rest
