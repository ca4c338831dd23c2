-- Flushed changes are what is left.
use Rattle.std.proofs.Common.{◌≡◌, ◌⊎◌, inl, inr, ⊎_elim, ℕ, List, Bool, true, false, Option, None, Some, refl, sym, ap, ◌∙◌, subst}
use Rattle.std.specs.Prelude.{IsSome, IsTrue, ◌↔◌}
use Rattle.ii_directory.specs.declared.name.Name.{Name}
use Rattle.ii_directory.specs.Directory.{Elsewhere, Files, IsFinished, IsOther, IsPut, IsRenamed, MayBeRenamed, Same}
use Rattle.ii_directory.specs.FileSystem.{IsFlushed, IsMoved, IsUnflushed, LeavesOnly, MayBeLeft, MayBeMoved, MayBeRemoved}
use Rattle.ii_directory.specs.Names.{same_name}
use Rattle.ii_directory.proofs.ListingLaws.{split}
use Rattle.ii_directory.proofs.NameLaws.{same_is, same_itself}

pub not_both : (b : Bool) → b ≡ true → b ≡ false → ⊥
not_both true p q = absurd cc
not_both false p q = absurd cc

-- two names are equal or differ
pub equal_or_not : (name other : Name) → (name ≡ other) ⊎ (other ≡ name → ⊥)
equal_or_not name other = ⊎_elim
    (λ same. inl (same_is name other same))
    (λ differ. inr (λ e. not_both (same_name name other) (ap (same_name name) e ∙ same_itself name) differ))
    (split (same_name name other))

some_not_none : {A : Type 0} (o : Option A) → IsSome o → o ≡ None → ⊥
some_not_none None some none = absurd cc
some_not_none (Some x) some none = absurd cc

pub none_unless_some : {A : Type 0} (found : Bool) (o : Option A) → (IsTrue found ↔ IsSome o) → found ≡ false → o ≡ None
none_unless_some found None finds lost = refl
none_unless_some found (Some x) finds lost = absurd (not_both found (finds.1 refl) lost)

-- what may be left of files of which nothing else was unflushed

module _ (seen : Files) (old : MayBeLeft) (settled : LeavesOnly seen old) (c : Files) where
  pub unflushed_elsewhere : (name : Name) → IsUnflushed name old c → Elsewhere name seen c
  unflushed_elsewhere name u other differ = u.elsewhere other differ ∙ settled u.before u.left other

  pub removed_elsewhere : (name : Name) → MayBeRemoved name old c → Elsewhere name seen c
  removed_elsewhere name (inl left) other differ = settled c left other
  removed_elsewhere name (inr r) other differ = r.2.elsewhere other differ ∙ settled r.0 r.1 other

  pub moved_renamed : (from to : Name) → MayBeMoved from to old c → MayBeRenamed from to seen c
  moved_renamed from to (inl left) = inl (settled c left)
  moved_renamed from to (inr m) = inr (record {
    there = m.2.renamed.there ∙ settled m.0 m.1 from;
    elsewhere = λ other not_from not_to. m.2.renamed.elsewhere other not_from not_to ∙ settled m.0 m.1 other;
  })

-- the same files after each flush

module _ (seen after : Files) (old : MayBeLeft) (settled : LeavesOnly seen old) (c : Files) where
  pub written_left : (name : Name) (bytes : List ℕ) (mid : MayBeLeft) → IsPut name (Some bytes) seen after → IsUnflushed name old c
      → IsFlushed name after mid c → ((n : Name) → IsSome (c n) ↔ IsSome (after n)) → Same after c
  written_left name bytes mid put u flushed names other = ⊎_elim
      (λ same. subst (λ (n : Name). c n ≡ after n) same (⊎_elim (λ is. is)
      (λ lost. absurd (some_not_none (c name) ((names name).1 (subst (λ (o : Option (List ℕ)). IsSome o) (sym put.there) refl)) lost)) flushed.bytes))
      (λ differ. unflushed_elsewhere seen old settled c name u other differ ∙ sym (put.elsewhere other differ))
      (equal_or_not name other)

  kept_or_gone : (name : Name) → IsPut name None seen after → c name ≡ None → ((other : Name) → IsOther name other → c other ≡ seen other) → Same after c
  kept_or_gone name put none kept other = ⊎_elim
      (λ same. subst (λ (n : Name). c n ≡ after n) same (none ∙ sym put.there))
      (λ differ. kept other differ ∙ sym (put.elsewhere other differ))
      (equal_or_not name other)

  pub missing_left : (name : Name) → IsPut name None seen after → seen name ≡ None → MayBeRemoved name old c → Same after c
  missing_left name put none (inl left) = kept_or_gone name put (settled c left name ∙ none) (λ other differ. settled c left other)
  missing_left name put none (inr r) = kept_or_gone name put r.2.there (λ other differ. r.2.elsewhere other differ ∙ settled r.0 r.1 other)

  pub removed_left : (name : Name) → IsPut name None seen after → IsSome (seen name) → MayBeRemoved name old c → ((n : Name) → IsSome (c n) ↔ IsSome (after n)) → Same after c
  removed_left name put some (inl left) names =
      absurd (some_not_none (after name) ((names name).0 (subst (λ (o : Option (List ℕ)). IsSome o) (sym (settled c left name)) some)) put.there)
  removed_left name put some (inr r) names = kept_or_gone name put r.2.there (λ other differ. r.2.elsewhere other differ ∙ settled r.0 r.1 other)

  module _ (from to : Name) (moved : IsMoved from to seen after) where
    -- a file that has the bytes of `from` under `to`, none under `from`, and else those of before
    moved_left : c to ≡ seen from → (IsOther from to → c from ≡ None) → ((other : Name) → IsOther from other → IsOther to other → c other ≡ seen other) → Same after c
    moved_left there gone kept other = ⊎_elim
        (λ same. subst (λ (n : Name). c n ≡ after n) same (there ∙ sym moved.renamed.there))
        (λ not_to. ⊎_elim
        (λ same. subst (λ (n : Name). c n ≡ after n) same (⊎_elim
        (λ is_to. subst (λ (n : Name). c n ≡ after n) (sym is_to) (there ∙ sym moved.renamed.there))
        (λ differ. gone differ ∙ sym (moved.gone differ))
        (equal_or_not from to)))
        (λ not_from. kept other not_from not_to ∙ sym (moved.renamed.elsewhere other not_from not_to))
        (equal_or_not from other))
        (equal_or_not to other)

    pub renamed_left : IsSome (seen from) → MayBeMoved from to old c → ((n : Name) → IsSome (c n) ↔ IsSome (after n)) → Same after c
    renamed_left some (inl left) names = ⊎_elim
        (λ same. moved_left (ap c (sym same) ∙ settled c left from) (λ differ. absurd (differ (sym same))) (λ other not_from not_to. settled c left other))
        (λ differ. absurd (some_not_none (after from) ((names from).0 (subst (λ (o : Option (List ℕ)). IsSome o) (sym (settled c left from)) some)) (moved.gone differ)))
        (equal_or_not from to)
    renamed_left some (inr m) names = moved_left (m.2.renamed.there ∙ settled m.0 m.1 from) (λ differ. m.2.gone differ)
        (λ other not_from not_to. m.2.renamed.elsewhere other not_from not_to ∙ settled m.0 m.1 other)

-- flushing changes no file

pub put_kept : (name : Name) (bytes : Option (List ℕ)) (old mid new : Files) → IsPut name bytes old mid → Same mid new → IsPut name bytes old new
put_kept name bytes old mid new put same = record {
  there = same name ∙ put.there;
  elsewhere = λ other differ. same other ∙ put.elsewhere other differ;
}

pub finished_kept : (name : Name) (contents : Option (List ℕ)) (old mid new : Files) → IsFinished name contents old mid → Same mid new → IsFinished name contents old new
finished_kept name contents old mid new finished same = record { bytes = finished.bytes; put = put_kept name (Some finished.bytes) old mid new finished.put same; known = finished.known }

pub renamed_kept : (from to : Name) (old mid new : Files) → IsRenamed from to old mid → Same mid new → IsRenamed from to old new
renamed_kept from to old mid new renamed same = record {
  there = same to ∙ renamed.there;
  elsewhere = λ other not_from not_to. same other ∙ renamed.elsewhere other not_from not_to;
}
