use Rattle.ii_ranking.specs.LeafScorers.{found_state}
use Rattle.ii_ranking.proofs.LeafLemmas.{keeps_later}
use Rattle.ii_ranking.proofs.found_scorer.FoundScorerScorer.skip_to_score.Goals as goal

pub returns-clause-kept : goal.returns-clause-kept
returns-clause-kept c = keeps_later c.args.target c.seek_with_score.result (found_state c.args.self.now) (found_state c.seek_with_score.new.self) c.seek_with_score.ensures.next.low c.seek_with_score.ensures.kept
