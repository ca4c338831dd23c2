use Rattle.ii_ranking.specs.LeafScorers.{phrase_state}
use Rattle.ii_ranking.proofs.LeafLemmas.{keeps_later}
use Rattle.ii_ranking.proofs.phrase_scorer.PhraseScorerScorer.skip_to_score.Goals as goal

pub returns-clause-kept : goal.returns-clause-kept
returns-clause-kept c = keeps_later c.args.target c.seek_with_score.result (phrase_state c.args.self.now) (phrase_state c.seek_with_score.new.self) c.seek_with_score.ensures.next.low c.seek_with_score.ensures.kept
