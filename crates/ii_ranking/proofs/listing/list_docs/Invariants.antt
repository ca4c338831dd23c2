use Rattle.std.proofs.Common.{◌≡◌, ◌≤◌, ◌-◌, ℕ}
use Rattle.ii_base.specs.declared.doc_id.TheConstants.{TERMINATED}
use Rattle.ii_scorer.specs.Scorers.{score_of}
use Rattle.ii_ranking.specs.Listing.{scored_below}
use Rattle.ii_ranking.proofs.listing.list_docs.Given as goal

abbrev pub decreases-loop-doc : goal.decreases-loop-doc
decreases-loop-doc g l = TERMINATED - l.doc

abbrev pub invariant-loop-doc : goal.invariant-loop-doc
invariant-loop-doc g l = record {
  low : l.doc ≤ TERMINATED;
  alike : (d : ℕ) → l.doc ≤ d → score_of (g.T.Scorer.state l.scorer) d ≡ score_of (g.T.Scorer.state l.initial.scorer) d;
  listed : l.listed.items ≡ scored_below l.doc (score_of (g.T.Scorer.state l.initial.scorer));
}
