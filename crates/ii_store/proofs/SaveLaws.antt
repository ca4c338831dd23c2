-- What a sequence of directory calls leaves.
use Rattle.std.proofs.Common.{◌≡◌, inl, inr, ⊎_elim, ◌<◌, ◌≤◌, ◌^◌, ℕ, zero, suc, ◌+◌, List, Option, None, Some, Ok, refl, subst, sym, ap, ◌∙◌, arith}
use Rattle.ii_directory.specs.declared.name.Kind.{Kind}
use Rattle.ii_directory.specs.declared.name.Kind.TheVariants.{Schema, Terms, Postings, Positions, FieldNorms}
use Rattle.ii_directory.specs.declared.name.Name.{Name}
use Rattle.ii_directory.specs.declared.name.Name.TheVariants.{Meta, NewMeta, File}
use Rattle.ii_directory.specs.declared.name.Slot.{Slot}
use Rattle.ii_directory.specs.declared.name.Slot.TheVariants.{First, Second}
use Rattle.ii_directory.specs.Directory.{Elapses, Elsewhere, Files, IsOther, IsPut, IsRenamed, MayBeRenamed, Same}
use Rattle.ii_store.specs.Index.{Index, bytes_of_file, meta_file, index_in, index_of, slot_in, used_slot}
use Rattle.ii_directory.specs.Names.{kind_at, kind_number, name_number, other_slot}
use Rattle.ii_store.specs.Save.{HasNoUnused, HoldsFiles, IsOldOrNew, IsOutside, KeepsUsed, LeavesOne, LeavesSame}
use Rattle.std.proofs.Math.Nat.{eq-or-lt_of_le}
use Rattle.ii_directory.proofs.Elapsing.{elapses_implies, elapses_none, elapses_then}
use Rattle.ii_directory.proofs.NameLaws.{kind_below, kind_of_number}
use Rattle.ii_store.proofs.MetaLaws.{index_of_meta, slot_of_meta}

-- kinds and their numbers

number_of_kind : (n : ℕ) → n < 5 → kind_number (kind_at n) ≡ n
number_of_kind zero lt = refl
number_of_kind (suc zero) lt = refl
number_of_kind (suc (suc zero)) lt = refl
number_of_kind (suc (suc (suc zero))) lt = refl
number_of_kind (suc (suc (suc (suc zero)))) lt = refl
number_of_kind (suc (suc (suc (suc (suc n))))) lt = absurd (omega (arith, lt))

pub other_other : (slot : Slot) → other_slot (other_slot slot) ≡ slot
other_other First = refl
other_other Second = refl

-- names that differ

other_files : (slot : Slot) (kind other : Kind) → IsOther (File slot kind) (File (other_slot slot) other)
other_files First kind other same = omega (arith, kind_below kind, kind_below other, ap name_number same)
other_files Second kind other same = omega (arith, kind_below kind, kind_below other, ap name_number same)

meta_is_no_file : (slot : Slot) (kind : Kind) → IsOther (File slot kind) Meta
meta_is_no_file slot kind same = omega (arith, ap name_number same)

file_is_not_new_meta : (slot : Slot) (kind : Kind) → IsOther NewMeta (File slot kind)
file_is_not_new_meta slot kind same = omega (arith, ap name_number same)

file_is_not_meta : (slot : Slot) (kind : Kind) → IsOther Meta (File slot kind)
file_is_not_meta slot kind same = omega (arith, ap name_number same)

meta_is_not_new_meta : IsOther NewMeta Meta
meta_is_not_new_meta same = omega (arith, ap name_number same)

other_kind : (slot : Slot) (kind other : Kind) → (kind_number other ≡ kind_number kind → ⊥) → IsOther (File slot kind) (File slot other)
other_kind First kind other differ same = differ (omega (arith, ap name_number same))
other_kind Second kind other differ same = differ (omega (arith, ap name_number same))

-- what stays outside of a slot

pub outside_refl : (slot : Slot) (a : Files) → IsOutside slot a a
outside_refl slot a = record { meta = refl; files = λ kind. refl }

pub outside_then : (slot : Slot) (a b c : Files) → IsOutside slot a b → IsOutside slot b c → IsOutside slot a c
outside_then slot a b c one two = record { meta = two.meta ∙ one.meta; files = λ kind. two.files kind ∙ one.files kind }

outside_file : (slot : Slot) (kind : Kind) (a c : Files) → Elsewhere (File slot kind) a c → IsOutside slot a c
outside_file slot kind a c elsewhere = record {
  meta = elsewhere Meta (meta_is_no_file slot kind);
  files = λ other. elsewhere (File (other_slot slot) other) (other_files slot kind other);
}

pub outside_new_meta : (slot : Slot) (a c : Files) → Elsewhere NewMeta a c → IsOutside slot a c
outside_new_meta slot a c elsewhere = record {
  meta = elsewhere Meta meta_is_not_new_meta;
  files = λ other. elsewhere (File (other_slot slot) other) (file_is_not_new_meta (other_slot slot) other);
}

outside_same : (slot : Slot) (a c : Files) → Same a c → IsOutside slot a c
outside_same slot a c same = record { meta = same Meta; files = λ other. same (File (other_slot slot) other) }

-- the files of the other slot were removed, then `meta.new`

module _ (slot used : Slot) (free : slot ≡ other_slot used) where
  pub all_removed : (mid new : Files) → ((kind : Kind) → mid (File slot kind) ≡ None) → IsPut NewMeta None mid new → HasNoUnused used new
  all_removed mid new gone put = record {
    files_gone = λ kind. subst (λ (s : Slot). new (File s kind) ≡ None) free (put.elsewhere (File slot kind) (file_is_not_new_meta slot kind) ∙ gone kind);
    new_meta_gone = put.there;
  }

  pub kept_beside : (old mid new : Files) → ((name : Name) → ((kind : Kind) → IsOther (File slot kind) name) → mid name ≡ old name) → IsPut NewMeta None mid new → KeepsUsed used old new
  kept_beside old mid new kept put name not_new none = put.elsewhere name not_new ∙ kept name (λ kind. subst (λ (s : Slot). IsOther (File s kind) name) (sym free) (none kind))

-- which index files are

index_in_same : (meta : Option (List ℕ)) (f h : Kind → Option (List ℕ)) → ((kind : Kind) → f kind ≡ h kind) → index_in meta f ≡ index_in meta h
index_in_same None f h each = refl
index_in_same (Some meta) f h each = rw (each Schema, each Terms, each Postings, each Positions, each FieldNorms) refl

-- what is outside of the free slot is the index
pub index_outside : (a c : Files) → IsOutside (other_slot (used_slot (a Meta))) a c → index_of c ≡ index_of a
unfolding index_of
index_outside a c outside =
    ap (λ meta. index_in meta (λ kind. c (File (used_slot meta) kind))) outside.meta
    ∙ index_in_same (a Meta) (λ kind. c (File (used_slot (a Meta)) kind)) (λ kind. a (File (used_slot (a Meta)) kind)) (λ kind.
    subst (λ slot. c (File slot kind) ≡ a (File slot kind)) (other_other (used_slot (a Meta))) (outside.files kind))

pub index_of_same : (a c : Files) → Same a c → index_of c ≡ index_of a
index_of_same a c same = index_outside a c (outside_same (other_slot (used_slot (a Meta))) a c same)

-- a meta file with its files is the index
pub index_of_new : (slot : Slot) (i : Index) (files : Files) → i.num_docs < 2 ^ 32 → HoldsFiles slot i files → files Meta ≡ Some (meta_file slot i) → index_of files ≡ Ok i
unfolding index_of
index_of_new slot i files small holds at =
    ap (λ meta. index_in meta (λ kind. files (File (used_slot meta) kind))) at
    ∙ index_in_same (Some (meta_file slot i)) (λ kind. files (File (slot_in (meta_file slot i)) kind)) (λ kind. Some (bytes_of_file i kind))
    (λ kind. ap (λ s. files (File s kind)) (slot_of_meta slot i) ∙ holds kind)
    ∙ index_of_meta slot i small

below_next : (n count : ℕ) → n < count + 1 → n ≤ count
below_next n count lt = omega (arith, lt)

-- a slot that is filled or emptied

module _ {D : Type 0} (moment : D → ℕ) (left_since : D → ℕ → Files → Type 0) where
  -- a slot that is filled, file by file
  pub record IsFilling (is_known : D → Type 0) (seen : D → Files) (slot : Slot) (content : Kind → Option (List ℕ)) (old now : D) (count : ℕ) : Type 0 where
    pub known : is_known now
    pub filled : (kind : Kind) → kind_number kind < count → seen now (File slot kind) ≡ content kind
    pub outside : IsOutside slot (seen old) (seen now)
    pub others : (name : Name) → ((kind : Kind) → IsOther (File slot kind) name) → seen now name ≡ seen old name
    pub time : Elapses (moment old) (moment now) (left_since old) (left_since now) (IsOutside slot (seen old))

  module _ (is_known : D → Type 0) (seen : D → Files) (slot : Slot) (content : Kind → Option (List ℕ)) where
    pub filling_begins : (old : D) → is_known old → IsFilling is_known seen slot content old old 0
    filling_begins old known = record {
      known = known;
      filled = λ kind lt. absurd (omega (arith, lt));
      outside = outside_refl slot (seen old);
      others = λ name none. refl;
      time = elapses_none moment left_since old (IsOutside slot (seen old));
    }

    -- one more call, which may have failed
    pub filling_time : (old now new : D) (count : ℕ) (kind : Kind) → IsFilling is_known seen slot content old now count
        → Elapses (moment now) (moment new) (left_since now) (left_since new) (Elsewhere (File slot kind) (seen now))
        → Elapses (moment old) (moment new) (left_since old) (left_since new) (IsOutside slot (seen old))
    filling_time old now new count kind so_far time = elapses_then moment left_since old now new (IsOutside slot (seen old)) (Elsewhere (File slot kind) (seen now)) so_far.time time
        (λ c elsewhere. outside_then slot (seen old) (seen now) c so_far.outside (outside_file slot kind (seen now) c elsewhere))

    pub filling_goes_on : (old now new : D) (count : ℕ) → count < 5 → IsFilling is_known seen slot content old now count → is_known new
        → IsPut (File slot (kind_at count)) (content (kind_at count)) (seen now) (seen new)
        → Elapses (moment now) (moment new) (left_since now) (left_since new) (Elsewhere (File slot (kind_at count)) (seen now))
        → IsFilling is_known seen slot content old new (count + 1)
    filling_goes_on old now new count lt so_far known put time = record {
      known = known;
      filled = λ kind below. ⊎_elim
          (λ less. put.elsewhere (File slot kind) (other_kind slot (kind_at count) kind (λ same. omega (arith, less, same, number_of_kind count lt))) ∙ so_far.filled kind less)
          (λ same. subst (λ k. seen new (File slot k) ≡ content k) (ap kind_at (sym same) ∙ kind_of_number kind) put.there)
          (⊎_elim (λ same. inr same) (λ less. inl less) (eq-or-lt_of_le (below_next (kind_number kind) count below)));
      outside = outside_then slot (seen old) (seen now) (seen new) so_far.outside (outside_file slot (kind_at count) (seen now) (seen new) put.elsewhere);
      others = λ name none. put.elsewhere name (none (kind_at count)) ∙ so_far.others name none;
      time = filling_time old now new count (kind_at count) so_far time;
    }

    pub filling_ends : (old now : D) (count : ℕ) → 5 ≤ count → IsFilling is_known seen slot content old now count → (kind : Kind) → seen now (File slot kind) ≡ content kind
    filling_ends old now count le so_far kind = so_far.filled kind (omega (arith, le, kind_below kind))

-- a save, call by call

outside_is_old : (slot : Slot) (a c : Files) → slot ≡ other_slot (used_slot (a Meta)) → IsOutside slot a c → index_of c ≡ index_of a
outside_is_old slot a c free outside = index_outside a c (subst (λ s. IsOutside s a c) free outside)

-- the state once the new `meta` file is written next to the old one
pub record IsReady (slot : Slot) (i : Index) (old ready : Files) : Type 0 where
  pub free : slot ≡ other_slot (used_slot (old Meta))
  pub small : i.num_docs < 2 ^ 32
  pub outside : IsOutside slot old ready
  pub files : HoldsFiles slot i ready
  pub meta : ready NewMeta ≡ Some (meta_file slot i)

pub is_ready : (slot : Slot) (i : Index) (old mid ready : Files) → slot ≡ other_slot (used_slot (old Meta)) → i.num_docs < 2 ^ 32 → IsOutside slot old mid → HoldsFiles slot i mid
    → IsPut NewMeta (Some (meta_file slot i)) mid ready → IsReady slot i old ready
is_ready slot i old mid ready free small outside files put = record {
  free = free;
  small = small;
  outside = outside_then slot old mid ready outside (outside_new_meta slot mid ready put.elsewhere);
  files = λ kind. put.elsewhere (File slot kind) (file_is_not_new_meta slot kind) ∙ files kind;
  meta = put.there;
}

pub renamed_is_new : (slot : Slot) (i : Index) (old ready new : Files) → IsReady slot i old ready → IsRenamed NewMeta Meta ready new → index_of new ≡ Ok i
renamed_is_new slot i old ready new r renamed = index_of_new slot i new r.small
    (λ kind. renamed.elsewhere (File slot kind) (file_is_not_new_meta slot kind) (file_is_not_meta slot kind) ∙ r.files kind)
    (renamed.there ∙ r.meta)

maybe_renamed : (slot : Slot) (i : Index) (old ready c : Files) → IsReady slot i old ready → MayBeRenamed NewMeta Meta ready c → IsOldOrNew (index_of old) i c
maybe_renamed slot i old ready c r (inl same) = inl (outside_is_old slot old c r.free (outside_then slot old ready c r.outside (outside_same slot ready c same)))
maybe_renamed slot i old ready c r (inr renamed) = inr (renamed_is_new slot i old ready c r renamed)

module _ {D : Type 0} (moment : D → ℕ) (left_since : D → ℕ → Files → Type 0) (seen : D → Files) (old : D)
    (only : (c : Files) → left_since old (moment old) c → Same (seen old) c) where
  pub leaves_one : (new : D) (i : Index) → Elapses (moment old) (moment new) (left_since old) (left_since new) (IsOldOrNew (index_of (seen old)) i) → LeavesOne moment left_since seen old new i
  leaves_one new i time = record {
    each = λ c left. ⊎_elim (λ before. inl (index_of_same (seen old) c (only c before))) (λ one. one) (time.nothing_else (moment old) c (omega arith) left);
    time = time;
  }

  pub leaves_same : (new : D) → Elapses (moment old) (moment new) (left_since old) (left_since new) (λ c. index_of c ≡ index_of (seen old)) → LeavesSame moment left_since seen old new
  leaves_same new time = record {
    each = λ c left. ⊎_elim (λ before. index_of_same (seen old) c (only c before)) (λ same. same) (time.nothing_else (moment old) c (omega arith) left);
    time = time;
  }

  -- nothing was called yet
  pub leaves_none : (i : Index) → LeavesOne moment left_since seen old old i
  leaves_none i = leaves_one old i (elapses_none moment left_since old (IsOldOrNew (index_of (seen old)) i))

  module _ (slot : Slot) (free : slot ≡ other_slot (used_slot (seen old Meta))) where
    pub outside_leaves_same : (new : D) → Elapses (moment old) (moment new) (left_since old) (left_since new) (IsOutside slot (seen old)) → LeavesSame moment left_since seen old new
    outside_leaves_same new time = leaves_same new (elapses_implies moment left_since old new (IsOutside slot (seen old)) (λ c. index_of c ≡ index_of (seen old)) time
        (λ c outside. outside_is_old slot (seen old) c free outside))

    pub same_outside : (new : D) → IsOutside slot (seen old) (seen new) → index_of (seen new) ≡ index_of (seen old)
    same_outside new outside = outside_is_old slot (seen old) (seen new) free outside

    module _ (i : Index) (mid : D) (first : Elapses (moment old) (moment mid) (left_since old) (left_since mid) (IsOutside slot (seen old))) where
      files_time : Elapses (moment old) (moment mid) (left_since old) (left_since mid) (IsOldOrNew (index_of (seen old)) i)
      files_time = elapses_implies moment left_since old mid (IsOutside slot (seen old)) (IsOldOrNew (index_of (seen old)) i) first
          (λ c outside. inl (outside_is_old slot (seen old) c free outside))

      -- the files of the free slot were written, or some of them
      pub files_leave : LeavesOne moment left_since seen old mid i
      files_leave = leaves_one mid i files_time

      module _ (ready : D) (outside : IsOutside slot (seen old) (seen mid)) (second : Elapses (moment mid) (moment ready) (left_since mid) (left_since ready) (Elsewhere NewMeta (seen mid))) where
        meta_time : Elapses (moment old) (moment ready) (left_since old) (left_since ready) (IsOldOrNew (index_of (seen old)) i)
        meta_time = elapses_then moment left_since old mid ready (IsOldOrNew (index_of (seen old)) i) (Elsewhere NewMeta (seen mid)) files_time second
            (λ c elsewhere. inl (outside_is_old slot (seen old) c free (outside_then slot (seen old) (seen mid) c outside (outside_new_meta slot (seen mid) c elsewhere))))

        -- the new `meta` file was written next to the old one, completely or in part
        pub meta_leaves : LeavesOne moment left_since seen old ready i
        meta_leaves = leaves_one ready i meta_time

        -- it replaced the old one, or not
        pub rename_leaves : (new : D) → IsReady slot i (seen old) (seen ready)
            → Elapses (moment ready) (moment new) (left_since ready) (left_since new) (MayBeRenamed NewMeta Meta (seen ready)) → LeavesOne moment left_since seen old new i
        rename_leaves new r third = leaves_one new i (elapses_then moment left_since old ready new (IsOldOrNew (index_of (seen old)) i) (MayBeRenamed NewMeta Meta (seen ready)) meta_time third
            (λ c may. maybe_renamed slot i (seen old) (seen ready) c r may))
