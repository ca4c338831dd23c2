-- The greatest shares of runs of documents, by which documents are passed that score too little.
use Rattle.std.specs.Prelude.{◌≡◌, ℕ, ◌+◌, ◌-◌, ◌*◌, ◌/◌, ◌^◌, ◌<◌, ◌≤◌, List, [], ◌∷◌, Option, None, Some, drop, if◌then◌else◌, length, map, max, nat_lt, take, true}
use Rattle.std.specs.List.{AllByRecursion, range_with_len}
use Rattle.ii_base.specs.Entries.{Entry}
use Rattle.ii_bm25.specs.Bm25.{Bm25State, bm25_share}
use Rattle.ii_docset.specs.Cursor.{IsSound, doc_at}
use Rattle.ii_docset.specs.Intersection.{has_doc}
use Rattle.ii_fieldnorm.specs.Readers.{Norms}
use Rattle.ii_block_shares.specs.NormIds.{id_among}
use Rattle.ii_block_shares.specs.declared.block_shares.BlockShare.{BlockShare}
use Rattle.ii_block_shares.specs.declared.share_reader.RunBound.{RunBound}
use Rattle.ii_base.specs.declared.doc_id.TheConstants.{TERMINATED}

-- the share that a byte stands for: one more than it in 2^-8, here in 2^-28
abbrev pub share_bound : ℕ → ℕ
share_bound byte = (byte + 1) * 2 ^ 20

-- the bound of a document's share: that of the first run that ends after it
abbrev pub bound_at : List BlockShare → ℕ → Option ℕ
bound_at [] doc = None
bound_at (b ∷ bs) doc = if nat_lt doc b.end then Some (share_bound b.share) else bound_at bs doc

-- A share is at most a bound, which there is.
abbrev pub IsWithin : Option ℕ → ℕ → Type 0
IsWithin None share = ⊥
IsWithin (Some bound) share = share ≤ bound

-- the share of an entry, by its count and the norm of its document
abbrev pub share_of : Bm25State → Option Norms → Entry → ℕ
share_of w norms e = bm25_share w (id_among norms e.doc) e.term_freq

-- the greatest share of some entries, 0 if there are none
abbrev pub greatest_share : (Entry → ℕ) → List Entry → ℕ
greatest_share share [] = 0
greatest_share share (e ∷ es) = max (share e) (greatest_share share es)

-- the byte that stands for a share, rounded up
abbrev pub share_byte : ℕ → ℕ
share_byte share = (max 1 share - 1) / 2 ^ 20

-- the document after the last of some entries
abbrev pub end_of_run : List Entry → ℕ
end_of_run [] = 0
end_of_run (e ∷ es) = max (e.doc + 1) (end_of_run es)

-- the run of some entries
abbrev pub run_of : (Entry → ℕ) → List Entry → BlockShare
run_of share es = record { end = end_of_run es; share = share_byte (greatest_share share es) }

-- the first runs of a list, of 128 entries each; the last of a list may have fewer
abbrev pub first_runs : (Entry → ℕ) → ℕ → List Entry → List BlockShare
first_runs share n es = map (λ (i : ℕ). run_of share (take 128 (drop (128 * i) es))) (range_with_len 0 n)

-- the runs of a list
unfoldable pub runs_of : (Entry → ℕ) → List Entry → List BlockShare
runs_of share es = first_runs share ((length es + 128 - 1) / 128) es

-- No document of a list has a greater share than the bound of its run.
abbrev pub AreBounds : Bm25State → Option Norms → List BlockShare → List Entry → Type 0
AreBounds w norms blocks es = AllByRecursion (λ (e : Entry). IsWithin (bound_at blocks e.doc) (share_of w norms e)) es

-- The document before the end of each run is one of a list.
abbrev pub EndWithDocs : List BlockShare → List Entry → Type 0
EndWithDocs blocks es = AllByRecursion (λ (b : BlockShare). has_doc es (b.end - 1) ≡ true) blocks

-- The bounds of documents from one on are those of the runs from a place on.
abbrev pub IsPlace : List BlockShare → ℕ → ℕ → Type 0
IsPlace blocks place doc = (d : ℕ) → doc ≤ d → bound_at blocks d ≡ bound_at (drop place blocks) d

-- A document's share may be so great that it scores at least this.
abbrev pub MayReach : ℕ → ℕ → Option ℕ → Type 0
MayReach weight least None = ⊥
MayReach weight least (Some bound) = least ≤ weight * bound / 2 ^ 12

-- the greatest score of a share within a bound; 0 without a bound
abbrev pub most_within : ℕ → Option ℕ → ℕ
most_within weight None = 0
most_within weight (Some bound) = weight * bound / 2 ^ 12

-- the greatest of the ends of runs
abbrev pub last_end : List BlockShare → ℕ
last_end [] = 0
last_end (b ∷ bs) = max b.end (last_end bs)

-- A document is the first one from a target on that may score at least this by its bound: those before it score less, whatever their shares within the bounds.
pub record IsFirstReaching (blocks : List BlockShare) (weight least target doc : ℕ) : Type 0 where
  pub low : target ≤ doc
  pub passed : (d share : ℕ) → target ≤ d → d < doc → IsWithin (bound_at blocks d) share → weight * share / 2 ^ 12 < least

-- No document from a target on, up to the end of a bound, scores more than the bound, whatever its share within the bound of its run; nor is the bound greater than these allow.
pub record IsRunBound (blocks : List BlockShare) (weight target : ℕ) (bound : RunBound) : Type 0 where
  pub ahead : target < bound.end
  pub up_to : bound.end ≤ TERMINATED
  pub fits : bound.most < 2 ^ 64
  pub each : (d share : ℕ) → target ≤ d → d < bound.end → IsWithin (bound_at blocks d) share → weight * share / 2 ^ 12 ≤ bound.most
  pub exact : (d : ℕ) → target ≤ d → d < bound.end → bound.most ≤ most_within weight (bound_at blocks d)

-- A cursor went over a run of documents, none of which has a greater share than the run's.
pub record TakesRun (w : Bm25State) (norms : Option Norms) (old new : List Entry) (b : BlockShare) : Type 0 where
  pub is : b ≡ run_of (share_of w norms) (take 128 old)
  pub rest : new ≡ drop 128 old
  pub ahead : doc_at old < b.end
  pub up_to : b.end ≤ doc_at new
  pub sound : IsSound new
  pub last : has_doc old (b.end - 1) ≡ true
  pub left : (d : ℕ) → has_doc new d ≡ true → has_doc old d ≡ true
  pub each : (blocks : List BlockShare) → ((d : ℕ) → doc_at old ≤ d → d < b.end → bound_at blocks d ≡ Some (share_bound b.share)) → AreBounds w norms blocks new → AreBounds w norms blocks old
