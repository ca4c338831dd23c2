-- The effect of one more change on files in memory.
use Rattle.std.proofs.Common.{◌≡◌, ◌⊎◌, inl, inr, ⊎_elim, ℕ, true, false, List, [], ◌∷◌, ◌++◌, length, take, Option, None, Some, Vec, Result, Ok, Err, OnOk, OnErr, IfOk, refl, sym, ap, ◌∙◌, subst, arith}
use Rattle.std.specs.Prelude.{IsSome}
use Rattle.std.proofs.Math.Nat.{le_refl}
use Rattle.std.proofs.lemmas.Bool.{cases_lt, false_from_ne_true}
use Rattle.std.proofs.lemmas.List.{length-append, take-append-le}
use Rattle.std.specs.declared.alloc.Global.{Global}
use Rattle.ii_directory.specs.declared.memory_files.Change.{Change}
use Rattle.ii_directory.specs.declared.memory_files.Change.TheVariants.{Flushed, FlushedNames, Put, Removed, Renamed}
use Rattle.ii_directory.specs.declared.name.Name.{Name}
use Rattle.ii_directory.specs.Directory.{Elapses, Files, IsFinished, IsOther, IsPut, IsRenamed, Same, found_bytes}
use Rattle.ii_directory.specs.FileSystem.{HasFlushedNames, IsFlushed, IsMoved, IsUnflushed, MayBeLeft, MayBeMoved, MayBeRemoved}
use Rattle.ii_directory.specs.MemoryFiles.{MayBePut, WereSince, after, all_taken, changed, counts_now, files_after, left_after, left_by, left_of, seen_left}
use Rattle.ii_directory.proofs.Elapsing.{at_ok}
use Rattle.ii_directory.proofs.NameLaws.{same_is, same_itself}
use Rattle.ii_directory.specs.Names.{same_name}

-- the last change applies to what the others leave
after_last : (files : Files) (changes : List Change) (last : Change) → after files (changes ++ last ∷ []) ≡ changed last (after files changes)
unfolding after
after_last files [] last = refl
after_last files (change ∷ changes) last = after_last (changed change files) changes last

other_name : (name other : Name) → IsOther name other → same_name name other ≡ false
other_name name other differ = false_from_ne_true (same_name name other) (λ same. differ (sym (same_is name other same)))

put_changes : (name : Name) (bytes : Vec ℕ Global) (files : Files) → IsPut name (Some bytes.items) files (changed (Put name bytes) files)
put_changes name bytes files = record {
  there = rw (same_itself name) refl;
  elsewhere = λ other differ. rw (other_name name other differ) refl;
}

removed_changes : (name : Name) (files : Files) → IsPut name None files (changed (Removed name) files)
removed_changes name files = record {
  there = rw (same_itself name) refl;
  elsewhere = λ other differ. rw (other_name name other differ) refl;
}

renamed_changes : (from to : Name) (files : Files) → IsRenamed from to files (changed (Renamed from to) files)
renamed_changes from to files = record {
  there = rw (same_itself to) refl;
  elsewhere = λ other not_from not_to. rw (other_name to other not_to, other_name from other not_from) refl;
}

gone_changes : (from to : Name) (files : Files) → IsOther from to → changed (Renamed from to) files from ≡ None
gone_changes from to files differ = rw (false_from_ne_true (same_name to from) (λ same. differ (same_is to from same)), same_itself from) refl

-- the same of lists of changes

is_put : (name : Name) (bytes : Vec ℕ Global) (old : List Change) → IsPut name (Some bytes.items) (files_after old) (files_after (old ++ Put name bytes ∷ []))
is_put name bytes old = rw (after_last (λ _. None) old (Put name bytes)) (put_changes name bytes (files_after old))

is_removed : (name : Name) (old : List Change) → IsPut name None (files_after old) (files_after (old ++ Removed name ∷ []))
is_removed name old = rw (after_last (λ _. None) old (Removed name)) (removed_changes name (files_after old))

is_renamed : (from to : Name) (old : List Change) → IsMoved from to (files_after old) (files_after (old ++ Renamed from to ∷ []))
is_renamed from to old = rw (after_last (λ _. None) old (Renamed from to)) (record {
  renamed = renamed_changes from to (files_after old);
  gone = λ differ. gone_changes from to (files_after old) differ;
})

-- and of what a stop leaves

none_elapses : (old new : List Change) (P : Files → Type 0) → new ≡ old → Elapses (length old) (length new) (WereSince old) (WereSince new) P
none_elapses old new P same = rw same (record { later = omega arith; nothing_else = λ t c le left. inl left; keeps = λ t c le left. left })

-- a change that was made, or not
made_or_not : {T E : Type 0} (made not_made : Type 0) (result : Result T E) → OnOk result made → OnErr result not_made → made ⊎ not_made
made_or_not made not_made (Ok x) ok err = inl ok
made_or_not made not_made (Err e) ok err = inr err

-- what a stop leaves after one more change

left_last : (changes : List Change) (files c : Files) (left : MayBeLeft) (last : Change) → left_after files left (changes ++ last ∷ []) c → left_by last (after files changes) (left_after files left changes) c
unfolding after left_after
left_last [] files c left last is = is
left_last (change ∷ changes) files c left last is = left_last changes (changed change files) c (left_by change files left) last is

-- a stop now is a stop since now
now_left : (old : List Change) (c : Files) → left_of old c → WereSince old (length old) c
now_left old c left = (length old, le_refl (length old), le_refl (length old), subst (λ (all : List Change). left_of all c) (sym (all_taken old)) left)

last_since : (old : List Change) (last : Change) (t : ℕ) (c : Files) → WereSince (old ++ last ∷ []) t c → WereSince old t c ⊎ left_by last (files_after old) (left_of old) c
last_since old last t c since = ⊎_elim
    (λ all. inr (left_last old (λ _. None) c (λ c. Same (λ _. None) c) last
    (subst (λ (changes : List Change). left_of changes c) (ap (λ k. take k (old ++ last ∷ [])) (omega (arith, all, since.2, length-append old (last ∷ []))) ∙ all_taken (old ++ last ∷ [])) since.3)))
    (λ few. inl (since.0, since.1, few, subst (λ (changes : List Change). left_of changes c) (take-append-le since.0 old (last ∷ []) few) since.3))
    (cases_lt (length old) since.0)

one_elapses : (old new : List Change) (last : Change) (P : Files → Type 0) → new ≡ old ++ last ∷ [] → ((d : Files) → left_by last (files_after old) (left_of old) d → P d)
    → Elapses (length old) (length new) (WereSince old) (WereSince new) P
one_elapses old new last P more implies = rw more (record {
  later = omega (arith, length-append old (last ∷ []));
  nothing_else = λ t c le since. ⊎_elim (λ before. inl before) (λ by_last. inr (implies c by_last)) (last_since old last t c since);
  keeps = λ t c le since. (
    since.0,
    since.1,
    omega (arith, since.2, length-append old (last ∷ [])),
    subst (λ (changes : List Change). left_of changes c) (sym (take-append-le since.0 old (last ∷ []) since.2)) since.3,
  );
})

-- a change that was made or not, and what a stop leaves of it

module _ (old new : List Change) (last : Change) (P : Files → Type 0) (implies : (d : Files) → left_by last (files_after old) (left_of old) d → P d) where
  left_now : (c : Files) → WereSince (old ++ last ∷ []) (length (old ++ last ∷ [])) c → P c
  left_now c since = ⊎_elim (λ before. absurd (omega (arith, before.1, before.2, length-append old (last ∷ [])))) (λ by_last. implies c by_last) (last_since old last (length (old ++ last ∷ [])) c since)

  pub left_made : new ≡ old ++ last ∷ [] → (c : Files) → WereSince new (length new) c → P c
  left_made made = subst (λ (changes : List Change). (c : Files) → WereSince changes (length changes) c → P c) (sym made) left_now

  pub left_at_ok : {T E : Type 0} (result : Result T E) → OnOk result (new ≡ old ++ last ∷ []) → OnOk result ((c : Files) → WereSince new (length new) c → P c)
  left_at_ok result ok = at_ok (new ≡ old ++ last ∷ []) ((c : Files) → WereSince new (length new) c → P c) result left_made ok

  pub elapses_or_not : {T E : Type 0} (result : Result T E) → OnOk result (new ≡ old ++ last ∷ []) → OnErr result (new ≡ old) → Elapses (length old) (length new) (WereSince old) (WereSince new) P
  elapses_or_not result ok err = ⊎_elim (λ made. one_elapses old new last P made implies) (λ not_made. none_elapses old new P not_made) (made_or_not (new ≡ old ++ last ∷ []) (new ≡ old) result ok err)

-- what each change leaves, by what may be left before it

module _ (old : List Change) (c : Files) where
  pub left_put : (name : Name) (bytes : Vec ℕ Global) → left_by (Put name bytes) (files_after old) (left_of old) c → IsUnflushed name (WereSince old (length old)) c
  left_put name bytes (inl same) = record {
    before = files_after old;
    left = counts_now old (length old) (le_refl (length old));
    elsewhere = λ other differ. same other ∙ (put_changes name bytes (files_after old)).elsewhere other differ;
  }
  left_put name bytes (inr u) = record { before = u.before; left = now_left old u.before u.left; elsewhere = u.elsewhere }

  pub left_removed : (name : Name) → left_by (Removed name) (files_after old) (left_of old) c → MayBeRemoved name (WereSince old (length old)) c
  left_removed name (inl same) = inr (
    files_after old,
    counts_now old (length old) (le_refl (length old)),
    record {
      there = same name ∙ (removed_changes name (files_after old)).there;
      elsewhere = λ other differ. same other ∙ (removed_changes name (files_after old)).elsewhere other differ;
    },
  )
  left_removed name (inr (inl left)) = inl (now_left old c left)
  left_removed name (inr (inr r)) = inr (r.0, now_left old r.0 r.1, r.2)

  pub left_renamed : (from to : Name) → left_by (Renamed from to) (files_after old) (left_of old) c → MayBeMoved from to (WereSince old (length old)) c
  left_renamed from to (inl same) = inr (
    files_after old,
    counts_now old (length old) (le_refl (length old)),
    record {
      renamed = record {
        there = same to ∙ (renamed_changes from to (files_after old)).there;
        elsewhere = λ other not_from not_to. same other ∙ (renamed_changes from to (files_after old)).elsewhere other not_from not_to;
      };
      gone = λ differ. same from ∙ gone_changes from to (files_after old) differ;
    },
  )
  left_renamed from to (inr (inl left)) = inl (now_left old c left)
  left_renamed from to (inr (inr m)) = inr (m.0, now_left old m.0 m.1, m.2)

  pub left_flushed : (name : Name) → left_by (Flushed name) (files_after old) (left_of old) c → IsFlushed name (files_after old) (WereSince old (length old)) c
  left_flushed name (inl same) = record { left = now_left old c (seen_left old c same); bytes = inl (same name) }
  left_flushed name (inr f) = record { left = now_left old c f.left; bytes = f.bytes }

  pub left_names : left_by FlushedNames (files_after old) (left_of old) c → HasFlushedNames (files_after old) (WereSince old (length old)) c
  left_names (inl same) = record {
    left = now_left old c (seen_left old c same);
    names = λ name. (
      λ some. subst (λ (o : Option (List ℕ)). IsSome o) (same name) some,
      λ some. subst (λ (o : Option (List ℕ)). IsSome o) (sym (same name)) some,
    );
  }
  left_names (inr f) = record { left = now_left old c f.left; names = f.names }

pub put_elapses : (name : Name) (old new : List Change) → MayBePut name old new → Elapses (length old) (length new) (WereSince old) (WereSince new) (IsUnflushed name (WereSince old (length old)))
put_elapses name old new (inl same) = none_elapses old new (IsUnflushed name (WereSince old (length old))) same
put_elapses name old new (inr put) = one_elapses old new (Put name put.0) (IsUnflushed name (WereSince old (length old))) put.1 (λ d. left_put old d name put.0)

-- what is there if the change was made

pub removed_made : (name : Name) (old new : List Change) → new ≡ old ++ Removed name ∷ [] → IsPut name None (files_after old) (files_after new)
removed_made name old new made = rw made (is_removed name old)

module _ {T E : Type 0} (result : Result T E) (old new : List Change) where
  pub put_at_ok : (name : Name) (bytes : Vec ℕ Global) → OnOk result (new ≡ old ++ Put name bytes ∷ []) → OnOk result (IsPut name (Some bytes.items) (files_after old) (files_after new))
  put_at_ok name bytes ok = at_ok (new ≡ old ++ Put name bytes ∷ []) (IsPut name (Some bytes.items) (files_after old) (files_after new)) result (λ made. rw made (is_put name bytes old)) ok

  pub finished_at_ok : (name : Name) (bytes : Vec ℕ Global) → OnOk result (new ≡ old ++ Put name bytes ∷ []) → OnOk result (IsFinished name (Some bytes.items) (files_after old) (files_after new))
  finished_at_ok name bytes ok = at_ok (new ≡ old ++ Put name bytes ∷ []) (IsFinished name (Some bytes.items) (files_after old) (files_after new)) result (λ made. rw made (record { bytes = bytes.items; put = is_put name bytes old; known = refl })) ok

  pub renamed_at_ok : (from to : Name) → OnOk result (new ≡ old ++ Renamed from to ∷ []) → OnOk result (IsMoved from to (files_after old) (files_after new))
  renamed_at_ok from to ok = at_ok (new ≡ old ++ Renamed from to ∷ []) (IsMoved from to (files_after old) (files_after new)) result (λ made. rw made (is_renamed from to old)) ok

  pub flushed_at_ok : (last : Change) → ((files : Files) → Same files (changed last files)) → OnOk result (new ≡ old ++ last ∷ []) → OnOk result (Same (files_after old) (files_after new))
  flushed_at_ok last none ok = at_ok (new ≡ old ++ last ∷ []) (Same (files_after old) (files_after new)) result
      (λ made name. ap (λ (changes : List Change). files_after changes name) made ∙ ap (λ files. files name) (after_last (λ _. None) old last) ∙ none (files_after old) name) ok

-- what a file has after a last change

module _ (all before : List Change) (last : Change) (name : Name) (split : all ≡ before ++ last ∷ []) where
  by_last : files_after all name ≡ changed last (files_after before) name
  by_last = ap (λ changes. files_after changes name) split ∙ ap (λ files. files name) (after_last (λ _. None) before last)

  pub put_here : (put : Name) (bytes : Vec ℕ Global) → last ≡ Put put bytes → same_name put name ≡ true → Some bytes.items ≡ files_after all name
  put_here put bytes is same = sym (by_last ∙ ap (λ change. changed change (files_after before) name) is ∙ rw same refl)

  pub put_elsewhere : (put : Name) (bytes : Vec ℕ Global) → last ≡ Put put bytes → same_name put name ≡ false → files_after before name ≡ files_after all name
  put_elsewhere put bytes is differ = sym (by_last ∙ ap (λ change. changed change (files_after before) name) is ∙ rw differ refl)

  pub removed_here : (removed : Name) → last ≡ Removed removed → same_name removed name ≡ true → None ≡ files_after all name
  removed_here removed is same = sym (by_last ∙ ap (λ change. changed change (files_after before) name) is ∙ rw same refl)

  pub removed_elsewhere : (removed : Name) → last ≡ Removed removed → same_name removed name ≡ false → files_after before name ≡ files_after all name
  removed_elsewhere removed is differ = sym (by_last ∙ ap (λ change. changed change (files_after before) name) is ∙ rw differ refl)

  pub renamed_to : (from to : Name) → last ≡ Renamed from to → same_name to name ≡ true → files_after before from ≡ files_after all name
  renamed_to from to is same = sym (by_last ∙ ap (λ change. changed change (files_after before) name) is ∙ rw same refl)

  pub renamed_from : (from to : Name) → last ≡ Renamed from to → same_name to name ≡ false → same_name from name ≡ true → None ≡ files_after all name
  renamed_from from to is differ same = sym (by_last ∙ ap (λ change. changed change (files_after before) name) is
      ∙ rw (differ, same) refl)

  pub renamed_elsewhere : (from to : Name) → last ≡ Renamed from to → same_name to name ≡ false → same_name from name ≡ false → files_after before name ≡ files_after all name
  renamed_elsewhere from to is differ differ_too = sym (by_last ∙ ap (λ change. changed change (files_after before) name) is
      ∙ rw (differ, differ_too) refl)

  pub flushed_elsewhere : ((files : Files) → Same files (changed last files)) → files_after before name ≡ files_after all name
  flushed_elsewhere none = sym (by_last ∙ none (files_after before) name)

pub found_at_ok : {E : Type 0} (result : Result (Option (Vec ℕ Global)) E) (before all : Option (List ℕ)) → before ≡ all → IfOk result (λ found. found_bytes found ≡ before) → IfOk result (λ found. found_bytes found ≡ all)
found_at_ok (Ok found) before all same given = given ∙ same
found_at_ok (Err e) before all same given = tt

pub no_changes : (changes : List Change) (name : Name) → length changes ≡ 0 → None ≡ files_after changes name
unfolding after
no_changes [] name none = refl
no_changes (change ∷ changes) name none = absurd (omega (arith, none))
