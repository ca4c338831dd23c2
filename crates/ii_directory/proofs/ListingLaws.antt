-- The names of the files of a directory in memory.
use Rattle.std.proofs.Common.{◌≡◌, ◌⊎◌, inl, inr, ⊎_elim, ℕ, suc, ◌+◌, ◌<◌, Bool, true, false, cond, ◌||◌, List, [], ◌∷◌, ◌++◌, length, get_or, take, Option, None, refl, sym, ap, ◌∙◌, subst, arith}
use Rattle.std.specs.Prelude.{IsSome, map}
use Rattle.std.specs.List.{AllByRecursion, Contains, IsDistinct, list_any}
use Rattle.std.proofs.lemmas.List.{map_push, take_more}
use Rattle.std.proofs.lemmas.List.Elements.{Contains-push, Contains-append_left, Contains-push_cases}
use Rattle.ii_directory.specs.declared.memory_files.Change.{Change}
use Rattle.ii_directory.specs.declared.memory_files.Change.TheVariants.{Flushed, FlushedNames, Put, Removed, Renamed}
use Rattle.ii_directory.specs.declared.name.Name.{Name}
use Rattle.ii_directory.specs.Directory.{Files, IsListing}
use Rattle.ii_directory.specs.MemoryFiles.{Lists, after, changed, files_after, target}
use Rattle.ii_directory.specs.Names.{same_name}
use Rattle.std.proofs.lemmas.Bool.{false_from_ne_true}
use Rattle.ii_directory.proofs.NameLaws.{same_is, same_itself}

pub split : (b : Bool) → (b ≡ true) ⊎ (b ≡ false)
split true = inl refl
split false = inr refl

or_true : (a b : Bool) → (a || b) ≡ true → (a ≡ true) ⊎ (b ≡ true)
or_true true b e = inl refl
or_true false b e = inr e

or_false : (a b : Bool) → (a || b) ≡ false → (a ≡ false) × (b ≡ false)
or_false true b e = absurd cc
or_false false b e = (refl, e)

contains_head : {X : Type 0} (x : X) (xs : List X) → Contains (x ∷ xs) x
contains_head x xs = (0, omega arith, refl)

contains_tail : {X : Type 0} (x : X) (xs : List X) (y : X) → Contains xs y → Contains (x ∷ xs) y
contains_tail x xs y found = (suc found.0, omega (arith, found.1), found.2)

pub nothing_in : (name : Name) → Contains [] name → ⊥
nothing_in name found = omega (arith, found.1)

-- a name that is listed
pub contains_named : (names : List Name) (name : Name) → list_any (same_name name) names ≡ true → Contains names name
contains_named [] name found = absurd cc
contains_named (n ∷ names) name found = ⊎_elim
    (λ here. subst (λ (x : Name). Contains (n ∷ names) x) (sym (same_is name n here)) (contains_head n names))
    (λ there. contains_tail n names name (contains_named names name there))
    (or_true (same_name name n) (list_any (same_name name) names) found)

other_way : (name other : Name) → same_name name other ≡ false → same_name other name ≡ false
other_way name other differ = false_from_ne_true (same_name other name) (λ same.
    let e : same_name name other ≡ true = ap (same_name name) (same_is other name same) ∙ same_itself name in
    let wrong : true ≡ false = sym e ∙ differ in
    absurd cc)

all_push : {X : Type 0} (P : X → Type 0) (xs : List X) (x : X) → AllByRecursion P xs → P x → AllByRecursion P (xs ++ x ∷ [])
all_push P [] x all here = (here, tt)
all_push P (y ∷ xs) x all here = (all.0, all_push P xs x all.1 here)

distinct_push : (names : List Name) (name : Name) → IsDistinct same_name names → list_any (same_name name) names ≡ false → IsDistinct same_name (names ++ name ∷ [])
unfolding IsDistinct
distinct_push [] name once none = (tt, tt)
distinct_push (n ∷ names) name once none =
    let parts = or_false (same_name name n) (list_any (same_name name) names) none in
    (all_push (λ (y : Name). same_name n y ≡ false) names name once.0 (other_way name n parts.0), distinct_push names name once.1 parts.1)

pub lists_none : (files : Files) → Lists files [] []
unfolding IsDistinct
lists_none files = record {
  there = λ name found. absurd (nothing_in name found);
  all = λ name found some. absurd (nothing_in name found);
  once = tt;
}

module _ (files : Files) (targets names : List Name) (name : Name) (lists : Lists files targets names) where
  -- the target is listed already, or is no file
  pub lists_kept : (IsSome (files name) → Contains names name) → Lists files (targets ++ name ∷ []) names
  lists_kept listed = record {
    there = lists.there;
    all = λ other found some. ⊎_elim (λ before. lists.all other before some)
        (λ same. subst (λ (x : Name). Contains names x) same (listed (subst (λ (x : Name). IsSome (files x)) (sym same) some)))
        (Contains-push_cases targets name other found);
    once = lists.once;
  }

  pub lists_more : IsSome (files name) → list_any (same_name name) names ≡ false → Lists files (targets ++ name ∷ []) (names ++ name ∷ [])
  lists_more some none = record {
    there = λ other found. ⊎_elim (λ before. lists.there other before) (λ same. subst (λ (x : Name). IsSome (files x)) same some) (Contains-push_cases names name other found);
    all = λ other found is_file. ⊎_elim (λ before. Contains-append_left names (name ∷ []) other (lists.all other before is_file))
        (λ same. subst (λ (x : Name). Contains (names ++ name ∷ []) x) same (Contains-push names name))
        (Contains-push_cases targets name other found);
    once = distinct_push names name lists.once none;
  }

not_moved : (b : Bool) (found : Option (List ℕ)) → IsSome (cond b None found) → IsSome found
not_moved true found some = absurd cc
not_moved false found some = some

changed_target : (change : Change) (files : Files) (name : Name) → IsSome (changed change files name) → IsSome (files name) ⊎ (target change ≡ name)
changed_target (Put put bytes) files name some = ⊎_elim (λ same. inr (same_is put name same)) (λ differ. inl (rw differ at some)) (split (same_name put name))
changed_target (Removed removed) files name some = ⊎_elim (λ same. inr (same_is removed name same)) (λ differ. inl (rw differ at some)) (split (same_name removed name))
changed_target (Renamed from to) files name some = ⊎_elim (λ same. inr (same_is to name same)) (λ differ. inl (not_moved (same_name from name) (files name) (rw differ at some))) (split (same_name to name))
changed_target (Flushed flushed) files name some = inl some
changed_target FlushedNames files name some = inl some

target_of : (changes : List Change) (files : Files) (name : Name) → IsSome (after files changes name) → IsSome (files name) ⊎ Contains (map target changes) name
unfolding after
target_of [] files name some = inl some
target_of (change ∷ changes) files name some = ⊎_elim
    (λ before. ⊎_elim (λ old. inl old) (λ same. inr (subst (λ (x : Name). Contains (map target (change ∷ changes)) x) same (contains_head (target change) (map target changes)))) (changed_target change files name before))
    (λ found. inr (contains_tail (target change) (map target changes) name found))
    (target_of changes (changed change files) name some)

-- all changes were looked at
pub lists_all : (changes : List Change) (names : List Name) → Lists (files_after changes) (map target changes) names → IsListing names (files_after changes)
lists_all changes names lists = record {
  there = lists.there;
  all = λ name some. ⊎_elim (λ nothing. absurd cc) (λ found. lists.all name found some) (target_of changes (λ _. None) name some);
  once = lists.once;
}

pub targets_more : (changes : List Change) (i : ℕ) (change : Change) (name : Name) → i < length changes → change ≡ get_or changes i change → name ≡ target change
    → map target (take i changes) ++ name ∷ [] ≡ map target (take (i + 1) changes)
targets_more changes i change name lt is named =
    let same : name ≡ target (get_or changes i change) = named ∙ ap target is in
    ap (λ (n : Name). map target (take i changes) ++ n ∷ []) same
    ∙ sym (map_push target (take i changes) (get_or changes i change))
    ∙ ap (map target) (sym (take_more changes i change lt))
