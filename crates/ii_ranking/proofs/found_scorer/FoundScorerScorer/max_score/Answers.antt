use Rattle.std.proofs.Common.{arith}
use Rattle.ii_bm25.specs.declared.bm25.TheConstants.{SCORE_ONE}
use Rattle.ii_docset.specs.Intersection.{has_doc}
use Rattle.ii_ranking.specs.LeafScorers.{score_by_found}
use Rattle.ii_ranking.proofs.LeafLemmas.{leaf_bounded, one_up_to}
use Rattle.ii_ranking.proofs.found_scorer.FoundScorerScorer.max_score.Goals as goal

pub returns-clause-bounded : goal.returns-clause-bounded
returns-clause-bounded c = leaf_bounded (score_by_found c.args.self.now) SCORE_ONE (omega arith) (λ doc. one_up_to (has_doc c.args.self.now.cursor.rest doc))
