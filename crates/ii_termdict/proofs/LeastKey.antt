-- The least of the first keys of ascending dictionaries.
use Rattle.std.proofs.Common.{inl, inr, ◌≡◌, ℕ, Bool, true, false, List, [], ◌∷◌, map, Option, Some, None, refl, sym, ap, ◌∙◌, subst, true≢false, ⊎_elim, Less}
use Rattle.std.specs.Prelude.{◌⊎◌, IfSome, bytes_eq, if◌then◌else◌}
use Rattle.std.specs.declared.cmp.Ordering.{Ordering}
use Rattle.std.specs.declared.cmp.Ordering.TheVariants.{Equal, Greater}
use Rattle.std.specs.Ordering.{is_eq, is_lt, nat_cmp, ordering_reverse}
use Rattle.std.specs.Cmp.Lexicographic.{nat_list_cmp_total, slice_cmp}
use Rattle.std.specs.List.{AllByRecursion}
use Rattle.std.specs.List.Sorted.{IsStrictlySortedBy}
use Rattle.std.proofs.lemmas.Cmp.{nat_list_eq_equiv, tied_itself}
use Rattle.std.proofs.lemmas.Map.Text.{is_eq-slice_cmp}
use Rattle.ii_termdict.specs.Dictionary.{TermEntry, entry_keys, info_under, is_below}
use Rattle.ii_termdict.specs.ReadBack.{AreAscending}
use Rattle.ii_termdict.specs.TermMerger.{FirstInfosAreAll, first_info, first_key, least_key, less_key}
use Rattle.ii_termdict.proofs.SearchLemmas.{found_equal, less_of}

-- a key that is not below another is that one or above it
above_or_same : (k l : List ℕ) → is_below k l ≡ false → (k ≡ l) ⊎ (slice_cmp nat_cmp l k ≡ Less)
above_or_same k l not_less = by_case (slice_cmp nat_cmp k l) refl
  where
    by_case : (o : Ordering) → slice_cmp nat_cmp k l ≡ o → (k ≡ l) ⊎ (slice_cmp nat_cmp l k ≡ Less)
    by_case Less is = absurd (true≢false (sym (ap is_lt is) ∙ not_less))
    by_case Equal is = inl (sym (found_equal k l is))
    by_case Greater is = inr (nat_list_cmp_total.antisymm l k ∙ ap ordering_reverse is)

-- and one that is above another or that one is not below it
not_below : (k l : List ℕ) → (k ≡ l) ⊎ (slice_cmp nat_cmp l k ≡ Less) → is_below k l ≡ false
not_below k l (inl same) = subst (λ (x : List ℕ). is_below k x ≡ false) same (ap is_lt (tied_itself nat_list_cmp_total k))
not_below k l (inr less) = ap is_lt (nat_list_cmp_total.antisymm k l ∙ ap ordering_reverse less)

-- what is not below a key is not below one that the key is not below
not_below_lesser : (g m f : List ℕ) → is_below g m ≡ false → is_below m f ≡ false → is_below g f ≡ false
not_below_lesser g m f high higher = ⊎_elim
    (λ same. subst (λ (x : List ℕ). is_below x f ≡ false) (sym same) higher)
    (λ less. ⊎_elim
    (λ same. subst (λ (x : List ℕ). is_below g x ≡ false) same high)
    (λ lesser. not_below g f (inr (nat_list_cmp_total.trans f m g lesser less)))
    (above_or_same m f higher))
    (above_or_same g m high)

-- The first key, if there is one, is not below a key.
abbrev StartsAt : List ℕ → List TermEntry → Type 0
StartsAt key es = IfSome (first_key es) (λ (f : List ℕ). is_below f key ≡ false)

neither : (b : Bool) (f m : List ℕ) → (if b then Some m else Some f) ≡ None → ⊥
neither true f m is = absurd (cc)
neither false f m is = absurd (cc)

none_first : (ess : List (List TermEntry)) (key : List ℕ) → least_key ess ≡ None → AllByRecursion (StartsAt key) ess
none_first [] key none = tt
none_first (es ∷ ess) key none = by_case (first_key es) (least_key ess) refl refl none (none_first ess key)
  where
    by_case : (o p : Option (List ℕ)) → first_key es ≡ o → least_key ess ≡ p → less_key o p ≡ None → (least_key ess ≡ None → AllByRecursion (StartsAt key) ess) → AllByRecursion (StartsAt key) (es ∷ ess)
    by_case None p first rest is later = (rw first tt, later (rest ∙ is))
    by_case (Some f) None first rest is later = absurd (cc)
    by_case (Some f) (Some m) first rest is later = absurd (neither (is_below m f) f m is)

starts_higher : (ess : List (List TermEntry)) (m f : List ℕ) → is_below m f ≡ false → AllByRecursion (StartsAt m) ess → AllByRecursion (StartsAt f) ess
starts_higher [] m f higher all = tt
starts_higher (es ∷ ess) m f higher all = (by_case (first_key es) refl all.0, starts_higher ess m f higher all.1)
  where
    by_case : (o : Option (List ℕ)) → first_key es ≡ o → StartsAt m es → StartsAt f es
    by_case None first start = rw first tt
    by_case (Some g) first start = rw first (not_below_lesser g m f (rw first at start) higher)

-- no first key is below the least one
least_starts : (ess : List (List TermEntry)) (key : List ℕ) → least_key ess ≡ Some key → AllByRecursion (StartsAt key) ess
least_starts [] key is = absurd (cc)
least_starts (es ∷ ess) key is = by_case (first_key es) (least_key ess) refl refl is (least_starts ess)
  where
    with_two : (b : Bool) (f m : List ℕ) → is_below m f ≡ b → first_key es ≡ Some f → (if b then Some m else Some f) ≡ Some key → AllByRecursion (StartsAt m) ess → AllByRecursion (StartsAt key) (es ∷ ess)
    with_two true f m below first is later =
        let same : m ≡ key = cc in
        subst (λ (k : List ℕ). AllByRecursion (StartsAt k) (es ∷ ess)) same (rw first (not_below f m (inr (less_of (slice_cmp nat_cmp m f) below))), later)
    with_two false f m below first is later =
        let same : f ≡ key = cc in
        subst (λ (k : List ℕ). AllByRecursion (StartsAt k) (es ∷ ess)) same (rw first (not_below f f (inl refl)), starts_higher ess m f below later)

    by_case : (o p : Option (List ℕ)) → first_key es ≡ o → least_key ess ≡ p → less_key o p ≡ Some key → ((k : List ℕ) → least_key ess ≡ Some k → AllByRecursion (StartsAt k) ess) → AllByRecursion (StartsAt key) (es ∷ ess)
    by_case None p first rest is later = (rw first tt, later key (rest ∙ is))
    by_case (Some f) None first rest is later =
        let same : f ≡ key = cc in
        subst (λ (k : List ℕ). AllByRecursion (StartsAt k) (es ∷ ess)) same (rw first (not_below f f (inl refl)), none_first ess f rest)
    by_case (Some f) (Some m) first rest is later = with_two (is_below m f) f m refl first is (later m rest)

-- a key below all keys of entries has no info there
pub none_above : (key : List ℕ) (es : List TermEntry) → AllByRecursion (λ (y : List ℕ). slice_cmp nat_cmp key y ≡ Less) (entry_keys es) → info_under key es ≡ None
none_above key [] below = refl
none_above key (e ∷ es) below =
    let apart : bytes_eq key e.0 ≡ false = sym (is_eq-slice_cmp key e.0) ∙ ap is_eq below.0 in
    rw apart (none_above key es below.1)

all_above : (key first : List ℕ) (ys : List (List ℕ)) → slice_cmp nat_cmp key first ≡ Less → AllByRecursion (λ (y : List ℕ). slice_cmp nat_cmp first y ≡ Less) ys → AllByRecursion (λ (y : List ℕ). slice_cmp nat_cmp key y ≡ Less) ys
all_above key first [] less below = tt
all_above key first (y ∷ ys) less below = (nat_list_cmp_total.trans key first y less below.0, all_above key first ys less below.1)

first_is_info : (key : List ℕ) (es : List TermEntry) → AreAscending (entry_keys es) → StartsAt key es → first_info key es ≡ info_under key es
unfolding IsStrictlySortedBy
first_is_info key [] ascending start = refl
first_is_info key (e ∷ es) ascending start = by_case (bytes_eq key e.0) refl
  where
    by_case : (b : Bool) → bytes_eq key e.0 ≡ b → first_info key (e ∷ es) ≡ info_under key (e ∷ es)
    by_case true is = rw is refl
    by_case false is = ⊎_elim
        (λ same. absurd (true≢false (sym (nat_list_eq_equiv.refl key) ∙ ap (bytes_eq key) (sym same) ∙ is)))
        (λ less. rw is (sym (none_above key es (all_above key e.0 (entry_keys es) less ascending.0))))
        (above_or_same e.0 key start)

pub first_infos : FirstInfosAreAll
first_infos ess key ascending is = each ess ascending (least_starts ess key is)
  where
    each : (ess : List (List TermEntry)) → AllByRecursion (λ (es : List TermEntry). AreAscending (entry_keys es)) ess → AllByRecursion (StartsAt key) ess → map (first_info key) ess ≡ map (info_under key) ess
    each [] ascending start = refl
    each (es ∷ ess) ascending start = rw (first_is_info key es ascending.0 start.0, each ess ascending.1 start.1) refl
