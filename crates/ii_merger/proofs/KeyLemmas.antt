-- The keys of several dictionaries, merged.
use Rattle.std.proofs.Common.{inl, inr, ◌≡◌, ℕ, ◌+◌, ◌<◌, ◌≤◌, ◌||◌, Bool, true, false, List, [], ◌∷◌, ◌++◌, length, map, Option, Some, None, refl, sym, ap, ◌∙◌, subst, true≢false, Less, arith}
use Rattle.std.specs.Prelude.{◌⊎◌, bytes_eq, if◌then◌else◌, is_some, ⊤}
use Rattle.std.specs.declared.cmp.Ordering.{Ordering}
use Rattle.std.specs.declared.cmp.Ordering.TheVariants.{Equal, Greater}
use Rattle.std.specs.Ordering.{is_eq, is_lt, nat_cmp, ordering_reverse}
use Rattle.std.specs.Cmp.Lexicographic.{bytes_decides, nat_list_cmp_total, slice_cmp}
use Rattle.std.specs.List.{AllByRecursion, list_any}
use Rattle.std.specs.List.Sorted.{IsStrictlySortedBy}
use Rattle.std.proofs.lemmas.Cmp.{nat_list_eq_equiv}
use Rattle.std.proofs.lemmas.Map.Text.{is_eq-slice_cmp}
use Rattle.ii_termstore.specs.declared.term_info.TermInfo.{TermInfo}
use Rattle.ii_termdict.specs.Dictionary.{TermEntry, entry_keys, info_under, is_below}
use Rattle.ii_termdict.specs.ReadBack.{AreAscending}
use Rattle.ii_termdict.specs.TermMerger.{behind_key, least_key, less_key}

-- A key is less than another.
abbrev pub IsLess : List ℕ → List ℕ → Type 0
IsLess k l = slice_cmp nat_cmp k l ≡ Less

-- A key is less than all keys of entries.
abbrev pub IsBelowAll : List ℕ → List TermEntry → Type 0
IsBelowAll key es = AllByRecursion (IsLess key) (entry_keys es)

-- The keys of ascending entries begin at a key or after it.
abbrev pub StartsFrom : List ℕ → List TermEntry → Type 0
StartsFrom key [] = ⊤
StartsFrom key (e ∷ es) = (key ≡ e.0) ⊎ IsLess key e.0

same_key : (k l : List ℕ) → slice_cmp nat_cmp k l ≡ Equal → k ≡ l
same_key k l tied = (bytes_decides k l).0 (sym (is_eq-slice_cmp k l) ∙ ap is_eq tied)

apart : (k l : List ℕ) → IsLess k l → bytes_eq k l ≡ false
apart k l less = sym (is_eq-slice_cmp k l) ∙ ap is_eq less

-- of two keys the one that isn't greater
below_or_not : (k l : List ℕ) → is_below k l ≡ false → (l ≡ k) ⊎ IsLess l k
below_or_not k l none = by_case (slice_cmp nat_cmp k l) refl
  where
    by_case : (o : Ordering) → slice_cmp nat_cmp k l ≡ o → (l ≡ k) ⊎ IsLess l k
    by_case Less is = absurd (true≢false (sym (ap is_lt is) ∙ none))
    by_case Equal is = inl (sym (same_key k l is))
    by_case Greater is = inr (nat_list_cmp_total.antisymm l k ∙ ap ordering_reverse is)

below : (k l : List ℕ) → is_below k l ≡ true → IsLess k l
below k l is = by_case (slice_cmp nat_cmp k l) refl
  where
    by_case : (o : Ordering) → slice_cmp nat_cmp k l ≡ o → IsLess k l
    by_case Less less = less
    by_case Equal other = absurd (true≢false (sym is ∙ ap is_lt other))
    by_case Greater other = absurd (true≢false (sym is ∙ ap is_lt other))

lower_start : (k l : List ℕ) → (k ≡ l) ⊎ IsLess k l → (es : List TermEntry) → StartsFrom l es → StartsFrom k es
lower_start k l less [] start = tt
lower_start k l (inl same) (e ∷ es) start = subst (λ (m : List ℕ). (m ≡ e.0) ⊎ IsLess m e.0) (sym same) start
lower_start k l (inr less) (e ∷ es) (inl same) = inr (subst (IsLess k) same less)
lower_start k l (inr less) (e ∷ es) (inr later) = inr (nat_list_cmp_total.trans k l e.0 less later)

lower_starts : (k l : List ℕ) → (k ≡ l) ⊎ IsLess k l → (ess : List (List TermEntry)) → AllByRecursion (StartsFrom l) ess → AllByRecursion (StartsFrom k) ess
lower_starts k l less [] start = tt
lower_starts k l less (es ∷ ess) start = (lower_start k l less es start.0, lower_starts k l less ess start.1)

-- Entries have the key first, and P holds for them.
pub record HasFirst (key : List ℕ) (P : List TermEntry → Type 0) : Type 0 where
  pub entry : TermEntry
  pub others : List TermEntry
  pub is : key ≡ entry.0
  pub holds : P (entry ∷ others)

-- What is known of the least key.
pub record IsLeast (key : List ℕ) (P : List TermEntry → Type 0) (ess : List (List TermEntry)) : Type 0 where
  pub starts : AllByRecursion (StartsFrom key) ess
  pub first : HasFirst key P

pub none_comes : (ess : List (List TermEntry)) → least_key ess ≡ None → AllByRecursion (λ (es : List TermEntry). es ≡ []) ess
none_comes [] none = tt
none_comes ([] ∷ ess) none = (refl, none_comes ess none)
none_comes ((e ∷ es) ∷ ess) none = by_case (least_key ess) none
  where
    pick : (b : Bool) (m : List ℕ) → (if b then Some m else Some e.0) ≡ None → AllByRecursion (λ (fs : List TermEntry). fs ≡ []) ((e ∷ es) ∷ ess)
    pick true m is = absurd (cc)
    pick false m is = absurd (cc)

    by_case : (o : Option (List ℕ)) → less_key (Some e.0) o ≡ None → AllByRecursion (λ (fs : List TermEntry). fs ≡ []) ((e ∷ es) ∷ ess)
    by_case None is = absurd (cc)
    by_case (Some m) is = pick (is_below m e.0) m is

no_starts : (key : List ℕ) (ess : List (List TermEntry)) → AllByRecursion (λ (es : List TermEntry). es ≡ []) ess → AllByRecursion (StartsFrom key) ess
no_starts key [] none = tt
no_starts key ([] ∷ ess) none = (tt, no_starts key ess none.1)
no_starts key ((e ∷ es) ∷ ess) none = absurd (let is = none.0 in cc)

pub is_least : (P : List TermEntry → Type 0) (ess : List (List TermEntry)) (key : List ℕ) → AllByRecursion P ess → least_key ess ≡ Some key → IsLeast key P ess
is_least P [] key all is = absurd (cc)
is_least P ([] ∷ ess) key all is = let later = is_least P ess key all.1 is in record { starts = (tt, later.starts); first = later.first }
is_least P ((e ∷ es) ∷ ess) key all is = by_case (λ k. is_least P ess k all.1) (least_key ess) refl is
  where
    own : key ≡ e.0 → AllByRecursion (StartsFrom key) ess → IsLeast key P ((e ∷ es) ∷ ess)
    own same starts = record { starts = (inl same, starts); first = record { entry = e; others = es; is = same; holds = all.0 } }

    pick : ((k : List ℕ) → least_key ess ≡ Some k → IsLeast k P ess) → (b : Bool) (m : List ℕ) → least_key ess ≡ Some m → is_below m e.0 ≡ b → (if b then Some m else Some e.0) ≡ Some key → IsLeast key P ((e ∷ es) ∷ ess)
    pick rest true m found less is =
        let same : m ≡ key = cc in
        let later = rest key (found ∙ ap Some same) in
        record { starts = (inr (subst (λ (k : List ℕ). IsLess k e.0) same (below m e.0 less)), later.starts); first = later.first }
    pick rest false m found less is =
        let same : key ≡ e.0 = cc in
        let later = rest m found in
        own same (subst (λ (k : List ℕ). AllByRecursion (StartsFrom k) ess) (sym same) (lower_starts e.0 m (below_or_not m e.0 less) ess later.starts))

    by_case : ((k : List ℕ) → least_key ess ≡ Some k → IsLeast k P ess) → (o : Option (List ℕ)) → least_key ess ≡ o → less_key (Some e.0) o ≡ Some key → IsLeast key P ((e ∷ es) ∷ ess)
    by_case rest None found is = let same : key ≡ e.0 = cc in own same (no_starts key ess (none_comes ess found))
    by_case rest (Some m) found is = pick rest (is_below m e.0) m found refl is

-- ---- the entries after a key
module _ (key : List ℕ) where
  none_under : (k : List ℕ) (es : List TermEntry) → IsBelowAll k es → info_under k es ≡ None
  none_under k [] below = refl
  none_under k (e ∷ es) below = rw (apart k e.0 below.0) (none_under k es below.1)

  all_above : (l : List ℕ) (ks : List (List ℕ)) → IsLess key l → AllByRecursion (IsLess l) ks → AllByRecursion (IsLess key) ks
  all_above l [] less below = tt
  all_above l (k ∷ ks) less below = (nat_list_cmp_total.trans key l k less below.0, all_above l ks less below.1)

  -- What is known of the entries after a key.
  pub record AreBehind (es after : List TermEntry) : Type 0 where
    pub ascending : AreAscending (entry_keys after)
    pub above : IsBelowAll key after
    pub kept : (d : List ℕ) → IsBelowAll d es → IsBelowAll d after
    pub infos : (k : List ℕ) → info_under k after ≡ (if bytes_eq k key then None else info_under k es)

  others_infos : (e : TermEntry) (es : List TermEntry) (k : List ℕ) → key ≡ e.0 → IsBelowAll key es → info_under k es ≡ (if bytes_eq k key then None else info_under k (e ∷ es))
  others_infos e es k same above = by_case (bytes_eq k key) refl
    where
      by_case : (b : Bool) → bytes_eq k key ≡ b → info_under k es ≡ (if b then None else info_under k (e ∷ es))
      by_case true is = subst (λ (l : List ℕ). info_under l es ≡ None) (sym ((bytes_decides k key).0 is)) (none_under key es above)
      by_case false is =
          let other : bytes_eq k e.0 ≡ false = ap (bytes_eq k) (sym same) ∙ is in
          rw other refl

  same_infos : (es : List TermEntry) (k : List ℕ) → IsBelowAll key es → info_under k es ≡ (if bytes_eq k key then None else info_under k es)
  same_infos es k above = by_case (bytes_eq k key) refl
    where
      by_case : (b : Bool) → bytes_eq k key ≡ b → info_under k es ≡ (if b then None else info_under k es)
      by_case true is = subst (λ (l : List ℕ). info_under l es ≡ None) (sym ((bytes_decides k key).0 is)) (none_under key es above)
      by_case false is = refl

  pub are_behind : (es : List TermEntry) → AreAscending (entry_keys es) → StartsFrom key es → AreBehind es (behind_key key es)
  unfolding IsStrictlySortedBy
  are_behind [] ascending start = record { ascending = tt; above = tt; kept = λ d all. all; infos = λ k. same_infos [] k tt }
  are_behind (e ∷ es) ascending (inl same) =
      let is : bytes_eq key e.0 ≡ true = ap (bytes_eq key) (sym same) ∙ nat_list_eq_equiv.refl key in
      let above : IsBelowAll key es = subst (λ (k : List ℕ). IsBelowAll k es) (sym same) ascending.0 in
      rw is (record { ascending = ascending.1; above = above; kept = λ d all. all.1; infos = λ k. others_infos e es k same above })
  are_behind (e ∷ es) ascending (inr less) =
      let is : bytes_eq key e.0 ≡ false = apart key e.0 less in
      let above : IsBelowAll key (e ∷ es) = (less, all_above e.0 (entry_keys es) less ascending.0) in
      rw is (record { ascending = ascending; above = above; kept = λ d all. all; infos = λ k. same_infos (e ∷ es) k above })

-- ---- one key after the other
-- Keys that were passed, and the entries that are still to come of dictionaries.
pub record IsMergingKeys (dictionaries : List (List TermEntry)) (done : List (List ℕ)) (coming : List (List TermEntry)) : Type 0 where
  pub ascending : AreAscending done
  pub each : AllByRecursion (λ (es : List TermEntry). AreAscending (entry_keys es)) coming
  pub above : AllByRecursion (λ (es : List TermEntry). AllByRecursion (λ (d : List ℕ). IsBelowAll d es) done) coming
  pub infos : (key : List ℕ) → map (info_under key) coming ≡ map (λ (es : List TermEntry). if list_any (bytes_eq key) done then None else info_under key es) dictionaries
  pub known : (key : List ℕ) → list_any (bytes_eq key) done ≡ true → list_any (λ (es : List TermEntry). is_some (info_under key es)) dictionaries ≡ true

all_nothing : (ess : List (List TermEntry)) → AllByRecursion (λ (es : List TermEntry). AllByRecursion (λ (d : List ℕ). IsBelowAll d es) []) ess
all_nothing [] = tt
all_nothing (es ∷ ess) = (tt, all_nothing ess)

pub merging_none : (ess : List (List TermEntry)) → AllByRecursion (λ (es : List TermEntry). AreAscending (entry_keys es)) ess → IsMergingKeys ess [] ess
unfolding IsStrictlySortedBy
merging_none ess ascending = record { ascending = tt; each = ascending; above = all_nothing ess; infos = λ key. refl; known = λ key none. absurd (cc) }

ascend_push : (ks : List (List ℕ)) (key : List ℕ) → AreAscending ks → AllByRecursion (λ (k : List ℕ). IsLess k key) ks → AreAscending (ks ++ key ∷ [])
unfolding IsStrictlySortedBy
ascend_push [] key ascending below = (tt, tt)
ascend_push (k ∷ ks) key ascending below = (more ks ascending.0, ascend_push ks key ascending.1 below.1)
  where
    more : (ls : List (List ℕ)) → AllByRecursion (IsLess k) ls → AllByRecursion (IsLess k) (ls ++ key ∷ [])
    more [] all = (below.0, tt)
    more (l ∷ ls) all = (all.0, more ls all.1)

none_equal : (ks : List (List ℕ)) (key : List ℕ) → AllByRecursion (λ (k : List ℕ). IsLess k key) ks → list_any (bytes_eq key) ks ≡ false
none_equal [] key below = refl
none_equal (k ∷ ks) key below =
    let other : bytes_eq key k ≡ false = nat_list_eq_equiv.symm key k ∙ apart k key below.0 in
    rw (other, none_equal ks key below.1) refl

pub any_push : (k : List ℕ) (ks : List (List ℕ)) (key : List ℕ) → list_any (bytes_eq k) (ks ++ key ∷ []) ≡ (bytes_eq k key || list_any (bytes_eq k) ks)
any_push k [] key = refl
any_push k (l ∷ ks) key = ap (λ (b : Bool). bytes_eq k l || b) (any_push k ks key) ∙ swap (bytes_eq k l) (bytes_eq k key) (list_any (bytes_eq k) ks)
  where
    swap : (a b c : Bool) → (a || (b || c)) ≡ (b || (a || c))
    swap true true c = refl
    swap true false c = refl
    swap false true c = refl
    swap false false c = refl

-- What is known of the next key.
pub record IsNextKey (dictionaries : List (List TermEntry)) (done : List (List ℕ)) (coming : List (List TermEntry)) (key : List ℕ) : Type 0 where
  pub ascending : AreAscending (done ++ key ∷ [])
  pub all_infos : map (info_under key) coming ≡ map (info_under key) dictionaries
  pub next : IsMergingKeys dictionaries (done ++ key ∷ []) (map (behind_key key) coming)

module _ (dictionaries : List (List TermEntry)) (done : List (List ℕ)) (coming : List (List TermEntry)) (h : IsMergingKeys dictionaries done coming) (key : List ℕ) where
  -- done keys are below the key where they are below all keys of entries that have it first
  all_less : (ds : List (List ℕ)) → HasFirst key (λ (es : List TermEntry). AllByRecursion (λ (d : List ℕ). IsBelowAll d es) ds) → AllByRecursion (λ (d : List ℕ). IsLess d key) ds
  all_less [] has = tt
  all_less (d ∷ ds) has = (subst (IsLess d) (sym has.is) has.holds.0.0, all_less ds (record { entry = has.entry; others = has.others; is = has.is; holds = has.holds.1 }))

  behind_each : (ess : List (List TermEntry)) → AllByRecursion (λ (es : List TermEntry). AreAscending (entry_keys es)) ess → AllByRecursion (StartsFrom key) ess → AllByRecursion (λ (es : List TermEntry). AreAscending (entry_keys es)) (map (behind_key key) ess)
  behind_each [] each starts = tt
  behind_each (es ∷ ess) each starts = ((are_behind key es each.0 starts.0).ascending, behind_each ess each.1 starts.1)

  above_more : (es : List TermEntry) (ds : List (List ℕ)) → AreBehind key es (behind_key key es) → AllByRecursion (λ (d : List ℕ). IsBelowAll d es) ds → AllByRecursion (λ (d : List ℕ). IsBelowAll d (behind_key key es)) (ds ++ key ∷ [])
  above_more es [] behind all = (behind.above, tt)
  above_more es (d ∷ ds) behind all = (behind.kept d all.0, above_more es ds behind all.1)

  behind_above : (ess : List (List TermEntry)) → AllByRecursion (λ (es : List TermEntry). AreAscending (entry_keys es)) ess → AllByRecursion (StartsFrom key) ess
      → AllByRecursion (λ (es : List TermEntry). AllByRecursion (λ (d : List ℕ). IsBelowAll d es) done) ess → AllByRecursion (λ (es : List TermEntry). AllByRecursion (λ (d : List ℕ). IsBelowAll d es) (done ++ key ∷ [])) (map (behind_key key) ess)
  behind_above [] each starts above = tt
  behind_above (es ∷ ess) each starts above = (above_more es done (are_behind key es each.0 starts.0) above.0, behind_above ess each.1 starts.1 above.1)

  infos_behind : (k : List ℕ) (ess : List (List TermEntry)) → AllByRecursion (λ (es : List TermEntry). AreAscending (entry_keys es)) ess → AllByRecursion (StartsFrom key) ess
      → map (info_under k) (map (behind_key key) ess) ≡ map (λ (es : List TermEntry). if bytes_eq k key then None else info_under k es) ess
  infos_behind k [] each starts = refl
  infos_behind k (es ∷ ess) each starts = rw ((are_behind key es each.0 starts.0).infos k, infos_behind k ess each.1 starts.1) refl

  -- what depends on infos alone
  abbrev masked : Bool → List (Option TermInfo) → List (Option TermInfo)
  masked b os = map (λ (o : Option TermInfo). if b then None else o) os

  masked_infos : (k : List ℕ) (b : Bool) (ess : List (List TermEntry)) → map (λ (es : List TermEntry). if b then None else info_under k es) ess ≡ masked b (map (info_under k) ess)
  masked_infos k b [] = refl
  masked_infos k b (es ∷ ess) = ap (λ (os : List (Option TermInfo)). (if b then None else info_under k es) ∷ os) (masked_infos k b ess)

  masked_twice : (b c : Bool) (k : List ℕ) (ess : List (List TermEntry)) → masked b (map (λ (es : List TermEntry). if c then None else info_under k es) ess) ≡ map (λ (es : List TermEntry). if (b || c) then None else info_under k es) ess
  masked_twice b c k [] = refl
  masked_twice true c k (es ∷ ess) = ap (λ (os : List (Option TermInfo)). None ∷ os) (masked_twice true c k ess)
  masked_twice false c k (es ∷ ess) = ap (λ (os : List (Option TermInfo)). (if c then None else info_under k es) ∷ os) (masked_twice false c k ess)

  next_infos : (k : List ℕ) → AllByRecursion (StartsFrom key) coming → map (info_under k) (map (behind_key key) coming) ≡ map (λ (es : List TermEntry). if list_any (bytes_eq k) (done ++ key ∷ []) then None else info_under k es) dictionaries
  next_infos k starts =
      infos_behind k coming h.each starts
      ∙ masked_infos k (bytes_eq k key) coming
      ∙ ap (masked (bytes_eq k key)) (h.infos k)
      ∙ masked_twice (bytes_eq k key) (list_any (bytes_eq k) done) k dictionaries
      ∙ ap (λ (b : Bool). map (λ (es : List TermEntry). if b then None else info_under k es) dictionaries) (sym (any_push k done key))

  any_some : (k : List ℕ) (ess : List (List TermEntry)) → list_any is_some (map (info_under k) ess) ≡ list_any (λ (es : List TermEntry). is_some (info_under k es)) ess
  any_some k [] = refl
  any_some k (es ∷ ess) = ap (λ (b : Bool). is_some (info_under k es) || b) (any_some k ess)

  -- the least key has an info
  least_known : (ess : List (List TermEntry)) → least_key ess ≡ Some key → list_any (λ (es : List TermEntry). is_some (info_under key es)) ess ≡ true
  least_known [] is = absurd (cc)
  least_known ([] ∷ ess) is = least_known ess is
  least_known ((e ∷ es) ∷ ess) is = by_case (least_known ess) (least_key ess) refl is
    where
      own : key ≡ e.0 → list_any (λ (fs : List TermEntry). is_some (info_under key fs)) ((e ∷ es) ∷ ess) ≡ true
      own same =
          let here : bytes_eq key e.0 ≡ true = ap (bytes_eq key) (sym same) ∙ nat_list_eq_equiv.refl key in
          rw here refl

      later : list_any (λ (fs : List TermEntry). is_some (info_under key fs)) ess ≡ true → list_any (λ (fs : List TermEntry). is_some (info_under key fs)) ((e ∷ es) ∷ ess) ≡ true
      later found = or_true (is_some (info_under key (e ∷ es))) (list_any (λ (fs : List TermEntry). is_some (info_under key fs)) ess) found
        where
          or_true : (b c : Bool) → c ≡ true → (b || c) ≡ true
          or_true true c is = refl
          or_true false c is = is

      pick : (least_key ess ≡ Some key → list_any (λ (fs : List TermEntry). is_some (info_under key fs)) ess ≡ true) → (b : Bool) (m : List ℕ) → least_key ess ≡ Some m → (if b then Some m else Some e.0) ≡ Some key → list_any (λ (fs : List TermEntry). is_some (info_under key fs)) ((e ∷ es) ∷ ess) ≡ true
      pick rest true m found is = let same : m ≡ key = cc in later (rest (found ∙ ap Some same))
      pick rest false m found is = let same : key ≡ e.0 = cc in own same

      by_case : (least_key ess ≡ Some key → list_any (λ (fs : List TermEntry). is_some (info_under key fs)) ess ≡ true) → (o : Option (List ℕ)) → least_key ess ≡ o → less_key (Some e.0) o ≡ Some key → list_any (λ (fs : List TermEntry). is_some (info_under key fs)) ((e ∷ es) ∷ ess) ≡ true
      by_case rest None found is = let same : key ≡ e.0 = cc in own same
      by_case rest (Some m) found is = pick rest (is_below m e.0) m found is

  pub next_key : least_key coming ≡ Some key → IsNextKey dictionaries done coming key
  next_key is =
      let least = is_least (λ (es : List TermEntry). AllByRecursion (λ (d : List ℕ). IsBelowAll d es) done) coming key h.above is in
      let lower = all_less done least.first in
      let apart_all = none_equal done key lower in
      let all : map (info_under key) coming ≡ map (info_under key) dictionaries =
      h.infos key ∙ ap (λ (b : Bool). map (λ (es : List TermEntry). if b then None else info_under key es) dictionaries) apart_all in
      let ascending = ascend_push done key h.ascending lower in
      record {
        ascending = ascending;
        all_infos = all;
        next = record {
          ascending = ascending;
          each = behind_each coming h.each least.starts;
          above = behind_above coming h.each least.starts h.above;
          infos = λ k. next_infos k least.starts;
          known = λ k found. known_more k (any_push k done key) found (bytes_eq k key) refl;
        };
      }
    where
      known_more : (k : List ℕ) → list_any (bytes_eq k) (done ++ key ∷ []) ≡ (bytes_eq k key || list_any (bytes_eq k) done) → list_any (bytes_eq k) (done ++ key ∷ []) ≡ true
          → (b : Bool) → bytes_eq k key ≡ b → list_any (λ (es : List TermEntry). is_some (info_under k es)) dictionaries ≡ true
      known_more k push found true same =
          let least = is_least (λ (es : List TermEntry). AllByRecursion (λ (d : List ℕ). IsBelowAll d es) done) coming key h.above is in
          let apart_all = none_equal done key (all_less done least.first) in
          let all : map (info_under key) coming ≡ map (info_under key) dictionaries =
          h.infos key ∙ ap (λ (b : Bool). map (λ (es : List TermEntry). if b then None else info_under key es) dictionaries) apart_all in
          let there = sym (any_some key dictionaries) ∙ ap (list_any is_some) (sym all) ∙ any_some key coming ∙ least_known coming is in
          subst (λ (l : List ℕ). list_any (λ (es : List TermEntry). is_some (info_under l es)) dictionaries ≡ true) (sym ((bytes_decides k key).0 same)) there
      known_more k push found false other = h.known k (sym (push ∙ ap (λ (b : Bool). b || list_any (bytes_eq k) done) other) ∙ found)

  none_left : (k : List ℕ) (ess : List (List TermEntry)) → AllByRecursion (λ (es : List TermEntry). es ≡ []) ess → list_any (λ (es : List TermEntry). is_some (info_under k es)) ess ≡ false
  none_left k [] none = refl
  none_left k (es ∷ ess) none = rw (none.0, none_left k ess none.1) refl

  -- at the end all keys were passed
  pub all_passed : least_key coming ≡ None → list_any (bytes_eq key) done ≡ list_any (λ (es : List TermEntry). is_some (info_under key es)) dictionaries
  all_passed none = by_case (list_any (bytes_eq key) done) refl
    where
      by_case : (b : Bool) → list_any (bytes_eq key) done ≡ b → list_any (bytes_eq key) done ≡ list_any (λ (es : List TermEntry). is_some (info_under key es)) dictionaries
      by_case true is = is ∙ sym (h.known key is)
      by_case false is =
          let all : map (info_under key) coming ≡ map (info_under key) dictionaries =
          h.infos key ∙ ap (λ (b : Bool). map (λ (es : List TermEntry). if b then None else info_under key es) dictionaries) is in
          is ∙ sym (none_left key coming (none_comes coming none)) ∙ sym (any_some key coming) ∙ ap (list_any is_some) all ∙ any_some key dictionaries

-- how many entries are to come
abbrev pub weight : List (List TermEntry) → ℕ
weight [] = 0
weight (es ∷ ess) = length es + weight ess

behind_few : (key : List ℕ) (es : List TermEntry) → length (behind_key key es) ≤ length es
behind_few key [] = omega arith
behind_few key (e ∷ es) = by (bytes_eq key e.0)
  where
    by : (b : Bool) → length (if b then es else e ∷ es) ≤ length (e ∷ es)
    by true = omega arith
    by false = omega arith

behind_light : (key : List ℕ) (ess : List (List TermEntry)) → weight (map (behind_key key) ess) ≤ weight ess
behind_light key [] = omega arith
behind_light key (es ∷ ess) = omega (arith, behind_few key es, behind_light key ess)

-- the least key is removed
pub behind_lighter : (key : List ℕ) (ess : List (List TermEntry)) → least_key ess ≡ Some key → weight (map (behind_key key) ess) < weight ess
behind_lighter key [] is = absurd (cc)
behind_lighter key ([] ∷ ess) is = omega (arith, behind_lighter key ess is)
behind_lighter key ((e ∷ es) ∷ ess) is = by_case (behind_lighter key ess) (least_key ess) refl is
  where
    own : key ≡ e.0 → weight (map (behind_key key) ((e ∷ es) ∷ ess)) < weight ((e ∷ es) ∷ ess)
    own same =
        let here : bytes_eq key e.0 ≡ true = ap (bytes_eq key) (sym same) ∙ nat_list_eq_equiv.refl key in
        let light = behind_light key ess in
        rw here (omega (arith, light))

    pick : (least_key ess ≡ Some key → weight (map (behind_key key) ess) < weight ess) → (b : Bool) (m : List ℕ) → least_key ess ≡ Some m → (if b then Some m else Some e.0) ≡ Some key → weight (map (behind_key key) ((e ∷ es) ∷ ess)) < weight ((e ∷ es) ∷ ess)
    pick rest true m found is = let same : m ≡ key = cc in omega (arith, behind_few key (e ∷ es), rest (found ∙ ap Some same))
    pick rest false m found is = let same : key ≡ e.0 = cc in own same

    by_case : (least_key ess ≡ Some key → weight (map (behind_key key) ess) < weight ess) → (o : Option (List ℕ)) → least_key ess ≡ o → less_key (Some e.0) o ≡ Some key → weight (map (behind_key key) ((e ∷ es) ∷ ess)) < weight ((e ∷ es) ∷ ess)
    by_case rest None found is = let same : key ≡ e.0 = cc in own same
    by_case rest (Some m) found is = pick rest (is_below m e.0) m found is
