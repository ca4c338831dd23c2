use Rattle.ii_ranking.proofs.LeafLemmas.{found_row, row_ends}
use Rattle.ii_ranking.proofs.found_scorer.FoundScorer.open.Goals as goal

pub returns-clause-ends : goal.returns-clause-ends
returns-clause-ends c = row_ends _ found_row c.in_ok-cursor.cursor.rest c.in_ok-cursor.ensures.sound.ascending
