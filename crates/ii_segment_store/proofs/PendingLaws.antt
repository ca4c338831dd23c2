-- Segments that are written before a list has them.
use Rattle.std.proofs.Common.{◌≡◌, inl, inr, ⊎_elim, ℕ, ◌+◌, ◌≤◌, true, List, [], ◌∷◌, ◌++◌, Result, Ok, Err, refl, sym, ap, subst, ◌∙◌, arith}
use Rattle.std.specs.Prelude.{IfOk, replicate}
use Rattle.ii_store.specs.declared.faults.IndexFault.{IndexFault}
use Rattle.ii_directory.specs.declared.name.Name.TheVariants.{File, Meta, Segment}
use Rattle.ii_directory.specs.declared.name.SegmentComponent.{SegmentComponent}
use Rattle.ii_directory.specs.Directory.{Elapses, Files}
use Rattle.ii_store.specs.IndexMeta.{MetaState, SegmentState}
use Rattle.ii_store.specs.Segments.{list_in}
use Rattle.ii_directory.proofs.Elapsing.{elapses_implies, elapses_then}
use Rattle.ii_segment_store.specs.Changes.{KeepsOlder, latest_generation}
use Rattle.ii_segment_store.specs.Commits.{HasSegment, HaveIdsBelow, HoldsOldOr, KeepsButSegment, listed_segment}
use Rattle.ii_segment_store.specs.Contents.{IndexContents, SegmentContents, index_contents, list_contents, with_segment}
use Rattle.ii_segment_store.specs.Pending.{FollowsFlags, IsPending, begun, with_next}
use Rattle.ii_segment_store.proofs.ListLaws.{older_index}
use Rattle.ii_segment_store.proofs.CommitLaws.{SameBelow, fresh_id, list_kept, list_more, listed_below, listed_contents, same_contents}

-- a list that follows that of a directory

pub begun_pending : (m : MetaState) (files : Files) → list_in (files Meta) ≡ Ok m → IsPending (begun m) files
begun_pending m files is = record { fresh = fresh_id m files is; below = listed_below (files Meta) m is }

pub begun_contents : (m : MetaState) (files : Files) → list_in (files Meta) ≡ Ok m → list_contents (begun m) files ≡ index_contents files
unfolding list_contents
begun_contents m files is = sym (listed_contents m files is)

-- a list holds the same under the next generation
pub begun_same : (m : MetaState) (files : Files) → list_contents (begun m) files ≡ list_contents m files
unfolding list_contents
begun_same m files = refl

pub begun_follows : (m : MetaState) (files : Files) → list_in (files Meta) ≡ Ok m → FollowsFlags (begun m) files
begun_follows m files is = (m, is, omega arith)

-- what keeps all but later flags keeps the index of the directory
pub followed_index : (m : MetaState) (old new : Files) → FollowsFlags m old → KeepsOlder (latest_generation m.segments) old new → index_contents new ≡ index_contents old
followed_index m old new (l, is, le) keeps = older_index l old new is (λ name other. keeps name (λ id g lt e. other id g (omega (arith, le, lt)) e))

-- a segment more has no earlier flags
latest_more : (ss : List SegmentState) (s : SegmentState) → latest_generation ss ≤ latest_generation (ss ++ s ∷ [])
latest_more [] s = omega arith
latest_more (x ∷ ss) s = omega (arith, latest_more ss s)

-- what holds of a list holds of one that equals it
pub ok_is : {E : Type 0} (P : MetaState → Type 0) (m : MetaState) (r : Result MetaState E) → IfOk r (λ p. p ≡ m) → P m → IfOk r P
ok_is P m (Ok p) is holds = subst P (sym is) holds
ok_is P m (Err e) is holds = tt

-- a segment with the next id

more_below : (next : ℕ) (ss : List SegmentState) (s : SegmentState) → s.id ≡ next → HaveIdsBelow next ss → HaveIdsBelow (next + 1) (ss ++ s ∷ [])
more_below next [] s is below = (omega (arith, is), tt)
more_below next (x ∷ ss) s is below = (omega (arith, below.0), more_below next ss s is below.1)

module _ (m : MetaState) (s : SegmentContents) (old new : Files) (keeps : KeepsButSegment m.next_segment_id old new) where
  same_below : SameBelow m.next_segment_id old new
  same_below = record {
    meta = keeps Meta (λ component e. absurd cc);
    slots = λ slot kind. keeps (File slot kind) (λ component e. absurd cc);
    segments = λ i component lt. keeps (Segment i component) (λ other e. omega (arith, lt, id_of i component other e));
  }
    where
      id_of : (i : ℕ) (component other : SegmentComponent) → Segment i component ≡ Segment m.next_segment_id other → i ≡ m.next_segment_id
      id_of i component other e = cc

  -- what was pending is pending with the segment
  pub stays_pending : IsPending m old → IsPending (with_next m s) new
  stays_pending p = record {
    fresh = λ l is. omega (arith, p.fresh l (rw same_below.meta at is));
    below = more_below m.next_segment_id m.segments (listed_segment m.next_segment_id s) refl p.below;
  }

  -- its flags follow those of the directory's list
  pub stays_following : FollowsFlags m old → FollowsFlags (with_next m s) new
  stays_following (l, is, le) = (l, rw same_below.meta is, omega (arith, le, latest_more m.segments (listed_segment m.next_segment_id s)))

  -- the index is the same
  pub written_same : IsPending m old → index_contents new ≡ index_contents old
  written_same p = same_contents m.next_segment_id old new same_below p.fresh

  -- the list holds the segment too
  pub written_contents : HaveIdsBelow m.next_segment_id m.segments → s.alive ≡ replicate s.num_docs true → HasSegment m.next_segment_id s new → list_contents (with_next m s) new ≡ with_segment s (list_contents m old)
  written_contents below all there = list_more m s new all there ∙ ap (with_segment s) (list_kept m old new same_below.segments below)

module _ {D : Type 0} (moment : D → ℕ) (left_since : D → ℕ → Files → Type 0) (seen : D → Files) (old mid new : D) where
  -- files of a segment were written, completely or in part
  pub written_time : (m : MetaState) (s : SegmentContents) → IsPending m (seen old) → Elapses (moment old) (moment mid) (left_since old) (left_since mid) (KeepsButSegment m.next_segment_id (seen old))
      → Elapses (moment old) (moment mid) (left_since old) (left_since mid) (HoldsOldOr (index_contents (seen old)) (seen old))
  written_time m s pending first =
      elapses_implies moment left_since old mid (KeepsButSegment m.next_segment_id (seen old)) (HoldsOldOr (index_contents (seen old)) (seen old)) first (λ c kept. inl (written_same m s (seen old) c kept pending))

  -- the old index was left, whatever was wanted
  pub same_time : (wanted : Result IndexContents IndexFault) → Elapses (moment old) (moment mid) (left_since old) (left_since mid) (HoldsOldOr (index_contents (seen old)) (seen old))
      → Elapses (moment old) (moment mid) (left_since old) (left_since mid) (HoldsOldOr wanted (seen old))
  same_time wanted first =
      elapses_implies moment left_since old mid (HoldsOldOr (index_contents (seen old)) (seen old)) (HoldsOldOr wanted (seen old)) first (λ c holds. ⊎_elim (λ same. inl same) (λ same. inl same) holds)

  -- a segment was written, and then the list was put in the place of the current one
  pub pending_time : (wanted then_wanted : Result IndexContents IndexFault) → index_contents (seen mid) ≡ index_contents (seen old) → then_wanted ≡ wanted
      → Elapses (moment old) (moment mid) (left_since old) (left_since mid) (HoldsOldOr (index_contents (seen old)) (seen old))
      → Elapses (moment mid) (moment new) (left_since mid) (left_since new) (HoldsOldOr then_wanted (seen mid))
      → Elapses (moment old) (moment new) (left_since old) (left_since new) (HoldsOldOr wanted (seen old))
  pending_time wanted then_wanted same is first second =
      elapses_then moment left_since old mid new (HoldsOldOr wanted (seen old)) (HoldsOldOr then_wanted (seen mid)) (same_time wanted first) second
      (λ c holds. ⊎_elim (λ before. inl (before ∙ same)) (λ after. inr (after ∙ is)) holds)

  -- flags were written, completely or in part
  pub following_time : (m : MetaState) → FollowsFlags m (seen old) → Elapses (moment old) (moment mid) (left_since old) (left_since mid) (KeepsOlder (latest_generation m.segments) (seen old))
      → Elapses (moment old) (moment mid) (left_since old) (left_since mid) (HoldsOldOr (index_contents (seen old)) (seen old))
  following_time m follows first =
      elapses_implies moment left_since old mid (KeepsOlder (latest_generation m.segments) (seen old)) (HoldsOldOr (index_contents (seen old)) (seen old)) first (λ c kept. inl (followed_index m (seen old) c follows kept))
