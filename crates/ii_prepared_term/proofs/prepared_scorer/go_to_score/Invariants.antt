use Rattle.std.proofs.Common.{◌≡◌, ◌-◌}
use Rattle.ii_base.specs.declared.doc_id.TheConstants.{TERMINATED}
use Rattle.ii_ranking.specs.TermWeights.{score_by_entry}
use Rattle.ii_scorer.specs.Scorers.{MayScore}
use Rattle.ii_prepared_term.specs.PreparedScorers.{ReadsRest}
use Rattle.ii_prepared_term.specs.PreparedTerms.{GoesToScore, prepared_bound}
use Rattle.ii_prepared_term.proofs.prepared_scorer.go_to_score.Given as goal

abbrev pub decreases-loop-doc : goal.decreases-loop-doc
decreases-loop-doc l = TERMINATED - l.doc

abbrev pub invariant-loop-doc : goal.invariant-loop-doc
invariant-loop-doc l = record {
  went : GoesToScore (score_by_entry l.term.by) l.target l.least l.doc l.fn.cursor.rest l.cursor.rest;
  same : l.shares ≡ l.fn.shares;
  work : ReadsRest (MayScore l.target l.least l.doc (prepared_bound l.term)) l.fn.cursor l.cursor;
}
