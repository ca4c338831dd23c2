-- The scores of documents by the parts of a scorer.
use Rattle.std.specs.Prelude.{◌≡◌, ⊤, ℕ, ◌+◌, ◌≤◌, List, [], ◌++◌, Option, None, Some, if◌then◌else◌, max, min, nat_lt}
use Rattle.ii_base.specs.declared.doc_id.TheConstants.{TERMINATED}
use Rattle.ii_bm25.specs.declared.bm25.TheConstants.{SCORE_ONE}
use Rattle.ii_scorer.specs.BlockLists.{BlockList}
use Rattle.ii_scorer.specs.Combinations.{any_of, each_of, unless}
use Rattle.ii_scorer.specs.Scorers.{AreBounded, IsBounded, ScorerState, bound_over, depth_over, doc_bound, lists_of, score_of, scores_at, sums_after}
use Rattle.ii_scorer.specs.declared.query_scorer.ScorerParts.{ScorerParts}
use Rattle.ii_scorer.specs.declared.query_scorer.ScorerParts.TheVariants.{Nothing, One, All, Each, Any, Without}

-- what a document scores by the parts of a scorer
abbrev pub score_by_parts : {T : Type 0} → (T → ScorerState) → ScorerParts T → ℕ → Option ℕ
score_by_parts state Nothing doc = None
score_by_parts state (One scorer) doc = score_of (state scorer) doc
score_by_parts state (All limit) doc = if nat_lt doc (min limit TERMINATED) then Some SCORE_ONE else None
score_by_parts state (Each parts) doc = each_of (scores_at parts.items doc)
score_by_parts state (Any parts sums) doc = any_of (scores_at parts.items doc)
score_by_parts state (Without first other) doc = unless (score_of first.value doc) (score_of other.value doc)

-- its bound by them, of which none exceeds a number
abbrev pub bound_by_parts : {T : Type 0} → (T → ScorerState) → ℕ → ScorerParts T → ℕ → ℕ
bound_by_parts state most Nothing doc = most
bound_by_parts state most (One scorer) doc = doc_bound (state scorer) doc
bound_by_parts state most (All limit) doc = most
bound_by_parts state most (Each parts) doc = bound_over parts.items doc
bound_by_parts state most (Any parts sums) doc = bound_over parts.items doc
bound_by_parts state most (Without first other) doc = doc_bound first.value doc

-- the lists that they read
abbrev pub lists_by_parts : {T : Type 0} → (T → ScorerState) → ScorerParts T → List BlockList
lists_by_parts state Nothing = []
lists_by_parts state (One scorer) = (state scorer).lists
lists_by_parts state (All limit) = []
lists_by_parts state (Each parts) = lists_of parts.items
lists_by_parts state (Any parts sums) = lists_of parts.items
lists_by_parts state (Without first other) = first.value.lists ++ other.value.lists

-- how deep they are nested
abbrev pub depth_of : {T : Type 0} → ScorerParts T → ℕ
depth_of Nothing = 0
depth_of (One scorer) = 0
depth_of (All limit) = 0
depth_of (Each parts) = depth_over parts.items
depth_of (Any parts sums) = depth_over parts.items
depth_of (Without first other) = max first.value.depth other.value.depth + 1

-- Why no document scores more than this by the parts of a scorer.
abbrev pub PartsAreBounded : {T : Type 0} → (T → ScorerState) → ℕ → ScorerParts T → Type 0
PartsAreBounded state most Nothing = ⊤
PartsAreBounded state most (One scorer) = IsBounded (state scorer) × ((state scorer).most ≤ most)
PartsAreBounded state most (All limit) = SCORE_ONE ≤ most
PartsAreBounded state most (Each parts) = AreBounded most parts.items
PartsAreBounded state most (Any parts sums) = AreBounded most parts.items × (sums.items ≡ sums_after 0 parts.items)
PartsAreBounded state most (Without first other) = IsBounded first.value × (first.value.most ≤ most)
