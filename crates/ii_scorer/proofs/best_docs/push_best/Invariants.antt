use Rattle.std.proofs.Common.{◌≡◌, ◌≤◌, ◌-◌, ◌++◌, ℕ, List}
use Rattle.ii_base.specs.declared.doc_id.TheConstants.{TERMINATED}
use Rattle.ii_scorer.specs.BestDocs.{IsNeeded, NumbersComeAfter, first_numbered}
use Rattle.ii_scorer.specs.BlockLists.{ReadsOnly}
use Rattle.ii_scorer.specs.Scorers.{score_of}
use Rattle.ii_scorer.specs.TopNComputer.{KeepsBest}
use Rattle.ii_scorer.proofs.best_docs.push_best.Given as goal

abbrev pub decreases-loop-doc : goal.decreases-loop-doc
decreases-loop-doc g l = TERMINATED - l.doc

abbrev pub invariant-loop-doc : goal.invariant-loop-doc
invariant-loop-doc g l = record {
  low : l.doc ≤ TERMINATED;
  inside : l.doc ≤ (g.N.DocNumbers.numbering l.numbers).num_docs;
  alike : (d : ℕ) → l.doc ≤ d → score_of (g.T.Scorer.state l.scorer) d ≡ score_of (g.T.Scorer.state l.initial.scorer) d;
  kept : (scored : List (ℕ × ℕ)) → KeepsBest scored l.initial.computer → KeepsBest (scored ++ first_numbered (g.N.DocNumbers.numbering l.numbers) l.doc (score_of (g.T.Scorer.state l.initial.scorer))) l.computer;
  wanted : l.computer.top_n ≡ l.initial.computer.top_n;
  bounds : (g.T.Scorer.state l.scorer).bounds ≡ (g.T.Scorer.state l.initial.scorer).bounds;
  work : (scored : List (ℕ × ℕ)) → KeepsBest scored l.initial.computer → NumbersComeAfter scored (g.N.DocNumbers.numbering l.numbers) → ReadsOnly (IsNeeded scored (g.N.DocNumbers.numbering l.numbers) (g.T.Scorer.state l.initial.scorer) l.initial.computer.top_n) (g.T.Scorer.state l.initial.scorer).lists (g.T.Scorer.state l.scorer).lists;
}
