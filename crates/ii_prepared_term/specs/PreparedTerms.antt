-- A term that is prepared for ranking, and what documents score by it.
use Rattle.std.specs.Prelude.{◌≡◌, ℕ, ◌-◌, ◌<◌, ◌≤◌, true, List, None, Option}
use Rattle.std.specs.List.{AllByRecursion}
use Rattle.ii_base.specs.Entries.{Entry}
use Rattle.ii_base.specs.declared.doc_id.TheConstants.{TERMINATED}
use Rattle.ii_block_shares.specs.BlockShares.{AreBounds, bound_at, most_within}
use Rattle.ii_block_shares.specs.declared.block_shares.BlockShare.{BlockShare}
use Rattle.ii_docset.specs.Cursor.{IsSound, doc_at, from_doc}
use Rattle.ii_docset.specs.Intersection.{has_doc}
use Rattle.ii_reader.specs.SegmentPostings.{SegmentPostingsState}
use Rattle.ii_scorer.specs.Scorers.{IsBelow}
use Rattle.ii_ranking.specs.Scores.{entry_at}
use Rattle.ii_ranking.specs.TermWeights.{TermWeightState, score_by_entry}

-- a term that is prepared: its weight and the norms of its field, the runs of its list with their bounds, and a cursor over the list
pub record PreparedTermState : Type 0 where
  pub by : TermWeightState
  pub shares : List BlockShare
  pub cursor : SegmentPostingsState

-- what a document scores by the remaining documents of the list
abbrev pub prepared_score : PreparedTermState → ℕ → Option ℕ
prepared_score s doc = score_by_entry s.by doc (entry_at s.cursor.rest doc)

-- a bound of what it scores: the greatest score within the bound of its run
abbrev pub prepared_bound : PreparedTermState → ℕ → ℕ
prepared_bound s doc = most_within s.by.weight.weight (bound_at s.shares doc)

-- Each run that isn't over ends with a remaining document.
abbrev pub EndAhead : List BlockShare → List Entry → Type 0
EndAhead runs es = AllByRecursion (λ (run : BlockShare). doc_at es < run.end → has_doc es (run.end - 1) ≡ true) runs

-- The runs and their bounds are those of the remaining documents.
pub record IsPrepared (s : PreparedTermState) : Type 0 where
  pub sound : IsSound s.cursor.rest
  pub bounds : AreBounds s.by.weight s.by.norms s.shares s.cursor.rest
  pub ends : EndAhead s.shares s.cursor.rest

-- A cursor went to a document from a target on, or stayed before it at the end; those between score less than this.
pub record GoesToScore (score_by : ℕ → Option Entry → Option ℕ) (target least doc : ℕ) (old new : List Entry) : Type 0 where
  pub low : target ≤ doc
  pub up_to : doc ≤ TERMINATED
  pub current : doc < TERMINATED → doc ≡ doc_at new
  pub dropped : ℕ
  pub kept : dropped ≤ doc
  pub rest : new ≡ from_doc dropped old
  pub sound : IsSound new
  pub passed : (d : ℕ) → target ≤ d → d < doc → IsBelow least (score_by d (entry_at old d))

-- A cursor went to the first document from a target on, or stayed before it if there is none; what it dropped is below the target.
pub record GoesTo (target doc : ℕ) (old new : List Entry) : Type 0 where
  pub low : target ≤ doc
  pub up_to : doc ≤ TERMINATED
  pub current : doc < TERMINATED → doc ≡ doc_at new
  pub dropped : ℕ
  pub kept : dropped ≤ target
  pub rest : new ≡ from_doc dropped old
  pub sound : IsSound new
  pub passed : (d : ℕ) → target ≤ d → d < doc → entry_at old d ≡ None
