-- The scorer of a prepared term, and which blocks of its list it decodes.
use Rattle.std.specs.Prelude.{◌≡◌, ℕ, ◌*◌, ◌^◌, ◌<◌, List, [], ◌∷◌, ◌++◌, length}
use Rattle.std.specs.List.{All, AllByRecursion}
use Rattle.std.specs.List.Sorted.{IsPermutation}
use Rattle.ii_base.specs.Entries.{docs_of}
use Rattle.ii_base.specs.declared.doc_id.TheConstants.{TERMINATED}
use Rattle.ii_check.specs.DecodedBlocks.{AscendWithin}
use Rattle.ii_docset.specs.Cursor.{doc_at}
use Rattle.ii_reader.specs.SegmentPostings.{SegmentPostingsState}
use Rattle.ii_scorer.specs.BlockLists.{BlockList, ReadsWhere}
use Rattle.ii_scorer.specs.Scorers.{ScorerState, bounds_below, scores_below}
use Rattle.ii_prepared_term.specs.PreparedTerms.{IsPrepared, PreparedTermState, prepared_bound, prepared_score}

-- a scorer: the prepared term, and its own cursor over the list
pub record PreparedScorerState : Type 0 where
  pub term : PreparedTermState
  pub cursor : SegmentPostingsState

-- the term with the cursor of the scorer
abbrev pub remaining_term : PreparedScorerState → PreparedTermState
remaining_term s = record s.term { cursor = s.cursor }

-- a list of these documents, with the block of a cursor and the blocks that it decoded
abbrev pub list_with : List ℕ → SegmentPostingsState → BlockList
list_with docs cursor = record { docs = docs; block = cursor.block; doc_blocks = cursor.doc_blocks; freq_blocks = cursor.freq_blocks }

-- the list of a prepared term
abbrev pub term_block_list : PreparedTermState → BlockList
term_block_list t = list_with (docs_of t.cursor.rest) t.cursor

-- the list of a scorer
abbrev pub prepared_list : PreparedScorerState → BlockList
prepared_list s = list_with (docs_of s.term.cursor.rest) s.cursor

-- what documents score by a scorer
abbrev pub prepared_state : PreparedScorerState → ScorerState
prepared_state s = record {
  scores = scores_below TERMINATED (prepared_score (remaining_term s));
  most = s.term.by.weight.weight * 2 ^ 16;
  depth = 0;
  bounds = bounds_below TERMINATED (prepared_bound s.term);
  lists = prepared_list s ∷ [];
}

-- A cursor has the rest of a list of these documents: those before are passed.
pub record HasRest (docs : List ℕ) (cursor : SegmentPostingsState) : Type 0 where
  pub before : List ℕ
  pub are : docs ≡ before ++ docs_of cursor.rest
  pub passed : AllByRecursion (λ (doc : ℕ). doc < doc_at cursor.rest) before
  pub many : cursor.doc_freq ≡ length docs

-- A cursor went on in its list, and decoded only blocks that have the first document from an allowed one on.
pub record ReadsRest (IsAllowed : ℕ → Type 0) (old new : SegmentPostingsState) : Type 0 where
  pub many : new.doc_freq ≡ old.doc_freq
  pub reads : (docs : List ℕ) → HasRest docs old → ReadsWhere IsAllowed (list_with docs old) (list_with docs new)

-- A scorer goes over the list of its term, whose bounds are those of the documents that are left.
pub record IsScorer (s : PreparedScorerState) : Type 0 where
  pub prepared : IsPrepared (remaining_term s)
  pub list : HasRest (docs_of s.term.cursor.rest) s.cursor

-- No block of a list was decoded but the first.
pub record IsUnread (list : BlockList) : Type 0 where
  pub first : list.block ≡ 0
  pub doc_blocks : AscendWithin 0 0 list.doc_blocks
  pub freq_blocks : AscendWithin 0 0 list.freq_blocks

-- A cursor is at the start of its list, of which no block was decoded but the first.
pub record IsAtStart (cursor : SegmentPostingsState) : Type 0 where
  pub many : cursor.doc_freq ≡ length cursor.rest
  pub unread : IsUnread (list_with (docs_of cursor.rest) cursor)

-- These are lists in some order, of which no block was decoded but the first.
pub record AreUnread (all lists : List BlockList) : Type 0 where
  pub same : IsPermutation all lists
  pub unread : All IsUnread lists
