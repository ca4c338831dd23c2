-- What the calls of a commit leave.
use Rattle.std.proofs.Common.{◌≡◌, inl, inr, ⊎_elim, ℕ, List, [], ◌∷◌, Option, Some, Result, Ok, Err, refl, ap, ◌∙◌, arith}
use Rattle.ii_store.specs.declared.faults.IndexFault.{IndexFault}
use Rattle.ii_directory.specs.declared.name.Name.TheVariants.{Meta, NewMeta, Segment}
use Rattle.ii_directory.specs.declared.name.SegmentComponent.{SegmentComponent}
use Rattle.ii_directory.specs.Directory.{Elapses, Elsewhere, Files, IsOther, IsPut, IsRenamed, MayBeRenamed, Same}
use Rattle.ii_store.specs.Index.{◌>>=◌}
use Rattle.ii_store.specs.IndexMeta.{IsValidMeta, MetaState, meta_bytes}
use Rattle.ii_directory.specs.Names.{name_number}
use Rattle.ii_store.specs.Segments.{IsOldOrNewList, KeepsOtherFiles, LeavesOneList, ListedFile, MayBeReplaced, contents_of, index_with, list_in, listed, segments_of}
use Rattle.ii_store.proofs.ListLaws.{meta_again}
use Rattle.ii_directory.proofs.Elapsing.{elapses_implies, elapses_none, elapses_then}

-- the files of segments are the same
abbrev pub KeepsSegments : Files → Files → Type 0
KeepsSegments a c = (id : ℕ) (component : SegmentComponent) → c (Segment id component) ≡ a (Segment id component)

contents_same : (ls : List ListedFile) (a c : Files) → KeepsSegments a c → contents_of ls c ≡ contents_of ls a
unfolding contents_of
contents_same [] a c each = refl
contents_same (l ∷ ls) a c each = rw (each l.id l.file.component, contents_same ls a c each) refl

pub index_same : (m : MetaState) (a c : Files) → KeepsSegments a c → index_with m c ≡ index_with m a
unfolding index_with
index_same m a c each = rw (contents_same (listed m) a c each) refl

each_list : (r : Result MetaState IndexFault) (a c : Files) → KeepsSegments a c → (r >>= λ m. index_with m c) ≡ (r >>= λ m. index_with m a)
each_list (Ok m) a c each = index_same m a c each
each_list (Err e) a c each = refl

-- the same `meta` and files of segments are the same index
pub segments_same : (a c : Files) → c Meta ≡ a Meta → KeepsSegments a c → segments_of c ≡ segments_of a
unfolding segments_of
segments_same a c meta each = ap (λ (found : Option (List ℕ)). list_in found >>= λ m. index_with m c) meta ∙ each_list (list_in (a Meta)) a c each

pub same_segments : (a c : Files) → Same a c → segments_of c ≡ segments_of a
same_segments a c same = segments_same a c (same Meta) (λ id component. same (Segment id component))

-- names that differ

pub meta_is_no_new_meta : IsOther NewMeta Meta
meta_is_no_new_meta same = omega (arith, ap name_number same)

pub segment_is_no_new_meta : (id : ℕ) (component : SegmentComponent) → IsOther NewMeta (Segment id component)
segment_is_no_new_meta id component same = omega (arith, ap name_number same)

pub segment_is_no_meta : (id : ℕ) (component : SegmentComponent) → IsOther Meta (Segment id component)
segment_is_no_meta id component same = omega (arith, ap name_number same)

-- one call after the other

module _ (m : MetaState) (valid : IsValidMeta m) (old ready : Files) (put : IsPut NewMeta (Some (meta_bytes m)) old ready) where
  pub renamed_list : (new : Files) → IsRenamed NewMeta Meta ready new → list_in (new Meta) ≡ Ok m
  unfolding list_in
  renamed_list new renamed = ap list_in (renamed.there ∙ put.there) ∙ meta_again m valid

  pub renamed_keeps : (new : Files) → IsRenamed NewMeta Meta ready new → KeepsOtherFiles old new
  renamed_keeps new renamed name no_meta no_new_meta = renamed.elsewhere name no_new_meta no_meta ∙ put.elsewhere name no_new_meta

  renamed_may : (c : Files) → MayBeRenamed NewMeta Meta ready c → MayBeReplaced m old c
  renamed_may c (inl same) = record { meta = inl (same Meta ∙ put.elsewhere Meta meta_is_no_new_meta); keeps = λ name no_meta no_new_meta. same name ∙ put.elsewhere name no_new_meta }
  renamed_may c (inr renamed) = record { meta = inr (renamed_list c renamed); keeps = renamed_keeps c renamed }

-- the new `meta` was written next to the old one, completely or in part
written_may : (m : MetaState) (a c : Files) → Elsewhere NewMeta a c → MayBeReplaced m a c
written_may m a c elsewhere = record { meta = inl (elsewhere Meta meta_is_no_new_meta); keeps = λ name no_meta no_new_meta. elsewhere name no_new_meta }

-- only the metas were changed
kept_segments : (a c : Files) → KeepsOtherFiles a c → KeepsSegments a c
kept_segments a c keeps id component = keeps (Segment id component) (segment_is_no_meta id component) (segment_is_no_new_meta id component)

-- the index of a list that replaced another one
pub replaced_index : (m : MetaState) (a c : Files) → list_in (c Meta) ≡ Ok m → KeepsOtherFiles a c → segments_of c ≡ index_with m a
unfolding segments_of
replaced_index m a c listed keeps = rw listed (index_same m a c (kept_segments a c keeps))

maybe_replaced : (m : MetaState) (a c : Files) → MayBeReplaced m a c → IsOldOrNewList a m c
maybe_replaced m a c may = ⊎_elim (λ same. inl (segments_same a c same (kept_segments a c may.keeps))) (λ listed. inr (replaced_index m a c listed may.keeps)) may.meta

module _ {D : Type 0} (moment : D → ℕ) (left_since : D → ℕ → Files → Type 0) (seen : D → Files) (old : D) (m : MetaState) where
  -- nothing was called yet
  pub replaced_none : Elapses (moment old) (moment old) (left_since old) (left_since old) (MayBeReplaced m (seen old))
  replaced_none = elapses_none moment left_since old (MayBeReplaced m (seen old))

  module _ (ready : D) (first : Elapses (moment old) (moment ready) (left_since old) (left_since ready) (Elsewhere NewMeta (seen old))) where
    -- the new `meta` was written next to the old one, completely or in part
    pub replaced_written : Elapses (moment old) (moment ready) (left_since old) (left_since ready) (MayBeReplaced m (seen old))
    replaced_written = elapses_implies moment left_since old ready (Elsewhere NewMeta (seen old)) (MayBeReplaced m (seen old)) first (written_may m (seen old))

    -- it replaced the old one, or not
    pub replaced_renamed : (new : D) → IsValidMeta m → IsPut NewMeta (Some (meta_bytes m)) (seen old) (seen ready)
        → Elapses (moment ready) (moment new) (left_since ready) (left_since new) (MayBeRenamed NewMeta Meta (seen ready)) → Elapses (moment old) (moment new) (left_since old) (left_since new) (MayBeReplaced m (seen old))
    replaced_renamed new valid put second = elapses_then moment left_since old ready new (MayBeReplaced m (seen old)) (MayBeRenamed NewMeta Meta (seen ready)) replaced_written second
        (renamed_may m valid (seen old) (seen ready) put)

  -- what is left of the old list and of the new one
  pub leaves_list : ((c : Files) → left_since old (moment old) c → Same (seen old) c) → (new : D) → Elapses (moment old) (moment new) (left_since old) (left_since new) (MayBeReplaced m (seen old))
      → LeavesOneList moment left_since seen old new m
  leaves_list only new time = record {
    each = λ c left. ⊎_elim (λ before. inl (same_segments (seen old) c (only c before))) (maybe_replaced m (seen old) c) (time.nothing_else (moment old) c (omega arith) left);
    time = elapses_implies moment left_since old new (MayBeReplaced m (seen old)) (IsOldOrNewList (seen old) m) time (maybe_replaced m (seen old));
  }
