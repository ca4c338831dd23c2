-- Terms that are looked up key by key, in the order of their keys.
use Rattle.std.proofs.Common.{◌≡◌, ◌∙◌, ℕ, Bool, true, false, List, [], ◌∷◌, ◌++◌, Option, None, Some, Ordering, ◌<◌, Err, Ok, Result, append_assoc, arith, bytes_eq, is_some, length, map, refl, sym, ap, subst}
use Rattle.std.specs.Prelude.{IfOk, IfSome, IsOk}
use Rattle.std.proofs.lemmas.Bool.{false≢true}
use Rattle.std.proofs.lemmas.List.{append-nil, map-append}
use Rattle.std.specs.Ordering.{nat_cmp, ordering_reverse}
use Rattle.std.specs.Cmp.Lexicographic.{bytes_decides, slice_cmp}
use Rattle.std.specs.declared.cmp.Ordering.TheVariants.{Less, Equal, Greater}
use Rattle.std.specs.List.{AllByRecursion, filter_map, list_any}
use Rattle.std.specs.List.Sorted.{IsStrictlySortedBy}
use Rattle.std.specs.Option.{option_map}
use Rattle.std.proofs.lemmas.Cmp.{nat_list_cmp_total, tied_itself}
use Rattle.ii_base.specs.declared.schema.index_record_option.IndexRecordOption.{IndexRecordOption}
use Rattle.ii_termdict.specs.Dictionary.{TermEntry, dictionary, entry_keys, info_under}
use Rattle.ii_termdict.specs.ReadBack.{AreAscending}
use Rattle.ii_termdict.proofs.OrderLemmas.{keys_are_ascending}
use Rattle.ii_termdict.proofs.SearchLemmas.{found_equal}
use Rattle.ii_warmup.specs.LookedUp.{found_terms, wanted_under}
use Rattle.ii_warmup.specs.Warmup.{WantedTermState, wanted_entries, wanted_keys, wanted_view}
use Rattle.ii_warmup.specs.declared.wanted_terms.WantedTerm.{WantedTerm}

-- two keys of which one is less are different
apart : (q k : List ℕ) → slice_cmp nat_cmp q k ≡ Less → bytes_eq q k ≡ false
apart q k less = by (bytes_eq q k) refl
  where
    by : (b : Bool) → bytes_eq q k ≡ b → b ≡ false
    by false is = refl
    by true is =
        let same = (bytes_decides q k).0 is in
        let itself = tied_itself nat_list_cmp_total q in
        let equal : slice_cmp nat_cmp q k ≡ Equal = ap (slice_cmp nat_cmp q) (sym same) ∙ itself in
        absurd (cc)

apart_after : (q k : List ℕ) → slice_cmp nat_cmp k q ≡ Less → bytes_eq q k ≡ false
apart_after q k less = by (bytes_eq q k) refl
  where
    by : (b : Bool) → bytes_eq q k ≡ b → b ≡ false
    by false is = refl
    by true is =
        let same = (bytes_decides q k).0 is in
        let itself = tied_itself nat_list_cmp_total q in
        let equal : slice_cmp nat_cmp k q ≡ Equal = ap (λ (x : List ℕ). slice_cmp nat_cmp x q) (sym same) ∙ itself in
        absurd (cc)

-- a key that is less than those of all entries has no info
none_under : (k : List ℕ) (es : List TermEntry) → AllByRecursion (λ (e : TermEntry). slice_cmp nat_cmp k e.0 ≡ Less) es → info_under k es ≡ None
none_under k [] h = refl
none_under k (e ∷ es) h = rw (apart k e.0 h.0) (none_under k es h.1)

-- all are after a key that is less than the first
all_after : (k : List ℕ) (e : TermEntry) (es : List TermEntry) → slice_cmp nat_cmp k e.0 ≡ Less → AllByRecursion (λ (y : List ℕ). slice_cmp nat_cmp e.0 y ≡ Less) (entry_keys es) → AllByRecursion (λ (f : TermEntry). slice_cmp nat_cmp k f.0 ≡ Less) es
all_after k e [] less h = tt
all_after k e (f ∷ fs) less h = let total = nat_list_cmp_total in (total.trans k e.0 f.0 less h.0, all_after k e fs less h.1)

keys_after : (q k : List ℕ) (ks : List (List ℕ)) → slice_cmp nat_cmp q k ≡ Less → AllByRecursion (λ (y : List ℕ). slice_cmp nat_cmp k y ≡ Less) ks → AllByRecursion (λ (y : List ℕ). slice_cmp nat_cmp q y ≡ Less) ks
keys_after q k [] less h = tt
keys_after q k (x ∷ xs) less h = let total = nat_list_cmp_total in (total.trans q k x less h.0, keys_after q k xs less h.1)

-- a key that is less than all isn't one of them
has_not : (q : List ℕ) (ks : List (List ℕ)) → AllByRecursion (λ (y : List ℕ). slice_cmp nat_cmp q y ≡ Less) ks → list_any (bytes_eq q) ks ≡ false
has_not q [] h = refl
has_not q (k ∷ ks) h = rw (apart q k h.0) (has_not q ks h.1)

module _ (requested : List ℕ → Option IndexRecordOption) where
  -- Keys have each key of entries of which something is requested.
  abbrev pub Cover : List (List ℕ) → List TermEntry → Type 0
  Cover ks es = AllByRecursion (λ (e : TermEntry). is_some (requested e.0) ≡ true → list_any (bytes_eq e.0) ks ≡ true) es

  -- keys after the first entry's are looked up in the others
  skips : (e : TermEntry) (es : List TermEntry) (ks : List (List ℕ)) → AllByRecursion (λ (y : List ℕ). slice_cmp nat_cmp e.0 y ≡ Less) ks → filter_map (wanted_under requested (e ∷ es)) ks ≡ filter_map (wanted_under requested es) ks
  skips e es [] h = refl
  skips e es (k ∷ ks) h = rw (apart_after k e.0 h.0, skips e es ks h.1) refl

  -- a key before all entries covers none of them
  cover_rest : (k : List ℕ) (ks : List (List ℕ)) (es : List TermEntry) → AllByRecursion (λ (e : TermEntry). slice_cmp nat_cmp k e.0 ≡ Less) es → Cover (k ∷ ks) es → Cover ks es
  cover_rest k ks [] h c = tt
  cover_rest k ks (e ∷ es) h c = (λ some. rw (apart_after e.0 k h.0) at (c.0 some), cover_rest k ks es h.1 c.1)

  -- an entry of which nothing is requested
  unwanted : (e : TermEntry) (es : List TermEntry) (ks : List (List ℕ)) → list_any (bytes_eq e.0) ks ≡ false → (is_some (requested e.0) ≡ true → list_any (bytes_eq e.0) ks ≡ true) → wanted_entries requested (e ∷ es) ≡ wanted_entries requested es
  unwanted e es ks none cover = by (requested e.0) refl
    where
      by : (o : Option IndexRecordOption) → requested e.0 ≡ o → wanted_entries requested (e ∷ es) ≡ wanted_entries requested es
      by None is = rw is refl
      by (Some o) is = let there = cover (ap is_some is) in absurd (cc)

  -- the first entry, looked up by its key
  wanted_first : (e : TermEntry) (es : List TermEntry) (rest : List WantedTermState) → rest ≡ wanted_entries requested es → (k : List ℕ) → k ≡ e.0 → (ks : List (List ℕ)) → filter_map (wanted_under requested (e ∷ es)) ks ≡ rest
      → filter_map (wanted_under requested (e ∷ es)) (k ∷ ks) ≡ wanted_entries requested (e ∷ es)
  wanted_first e es rest is k same ks others = by (requested e.0) refl
    where
      itself : bytes_eq e.0 e.0 ≡ true
      itself = (bytes_decides e.0 e.0).1 refl

      by : (o : Option IndexRecordOption) → requested e.0 ≡ o → filter_map (wanted_under requested (e ∷ es)) (k ∷ ks) ≡ wanted_entries requested (e ∷ es)
      by None at = rw (same, itself, at) (others ∙ is)
      by (Some o) at = rw (same, itself, at) (ap (λ (ts : List WantedTermState). record { key = e.0; info = e.1; option = o } ∷ ts) (others ∙ is))

  none_found : (ks : List (List ℕ)) → filter_map (wanted_under requested []) ks ≡ []
  none_found [] = refl
  none_found (k ∷ ks) = none_found ks

  entries_after : (k : List ℕ) (es : List TermEntry) → AllByRecursion (λ (y : List ℕ). slice_cmp nat_cmp k y ≡ Less) (entry_keys es) → AllByRecursion (λ (f : TermEntry). slice_cmp nat_cmp k f.0 ≡ Less) es
  entries_after k [] h = tt
  entries_after k (e ∷ es) h = (h.0, entries_after k es h.1)

  -- one more entry
  one_more : (e : TermEntry) (es : List TermEntry) → AreAscending (entry_keys (e ∷ es)) → ((ks : List (List ℕ)) → AreAscending ks → Cover ks es → filter_map (wanted_under requested es) ks ≡ wanted_entries requested es)
      → (ks : List (List ℕ)) → AreAscending ks → Cover ks (e ∷ es) → filter_map (wanted_under requested (e ∷ es)) ks ≡ wanted_entries requested (e ∷ es)
  unfolding IsStrictlySortedBy
  one_more e es sorted ih [] ks_sorted cover = sym (unwanted e es [] refl cover.0 ∙ sym (ih [] tt cover.1))
  one_more e es sorted ih (k ∷ ks) ks_sorted cover = by (slice_cmp nat_cmp k e.0) refl (λ c. one_more e es sorted ih ks ks_sorted.1 c)
    where
      by : (o : Ordering) → slice_cmp nat_cmp k e.0 ≡ o → (Cover ks (e ∷ es) → filter_map (wanted_under requested (e ∷ es)) ks ≡ wanted_entries requested (e ∷ es)) → filter_map (wanted_under requested (e ∷ es)) (k ∷ ks) ≡ wanted_entries requested (e ∷ es)
      by Less is rest =
          let after = all_after k e es is sorted.0 in
          rw (none_under k (e ∷ es) (is, after)) (rest (cover_rest k ks (e ∷ es) (is, after) cover))
      by Equal is rest =
          let same : k ≡ e.0 = sym (found_equal k e.0 is) in
          let later = subst (λ (x : List ℕ). AllByRecursion (λ (y : List ℕ). slice_cmp nat_cmp x y ≡ Less) ks) same ks_sorted.0 in
          let others = skips e es ks later in
          let here = ih ks ks_sorted.1 (cover_rest k ks es (subst (λ (x : List ℕ). AllByRecursion (λ (f : TermEntry). slice_cmp nat_cmp x f.0 ≡ Less) es) (sym same) (entries_after e.0 es sorted.0)) cover.1) in
          wanted_first e es (wanted_entries requested es) refl k same ks (others ∙ here)
      by Greater is rest =
          let total = nat_list_cmp_total in
          let less : slice_cmp nat_cmp e.0 k ≡ Less = total.antisymm e.0 k ∙ ap ordering_reverse is in
          let later : AllByRecursion (λ (y : List ℕ). slice_cmp nat_cmp e.0 y ≡ Less) (k ∷ ks) = (less, keys_after e.0 k ks less ks_sorted.0) in
          skips e es (k ∷ ks) later ∙ ih (k ∷ ks) ks_sorted cover.1 ∙ sym (unwanted e es (k ∷ ks) (has_not e.0 (k ∷ ks) later) cover.0)

  -- keys that are looked up one after the other give what a walk of all entries gives
  pub looked_up : (es : List TermEntry) (ks : List (List ℕ)) → AreAscending (entry_keys es) → AreAscending ks → Cover ks es → filter_map (wanted_under requested es) ks ≡ wanted_entries requested es
  unfolding IsStrictlySortedBy
  looked_up [] ks sorted ks_sorted cover = none_found ks
  looked_up (e ∷ es) ks sorted ks_sorted cover = one_more e es sorted (λ xs xs_sorted c. looked_up es xs sorted.1 xs_sorted c) ks ks_sorted cover

  -- keys that have each requested key cover all entries
  pub covers : (es : List TermEntry) (ks : List (List ℕ)) → ((key : List ℕ) → is_some (requested key) ≡ true → list_any (bytes_eq key) ks ≡ true) → Cover ks es
  covers [] ks h = tt
  covers (e ∷ es) ks h = (h e.0, covers es ks h)

-- ---- one step of a look-up
-- without a key in the middle, keys still ascend
drop_after : (k q : List ℕ) (before after : List (List ℕ)) → AllByRecursion (λ (y : List ℕ). slice_cmp nat_cmp k y ≡ Less) (before ++ q ∷ after) → AllByRecursion (λ (y : List ℕ). slice_cmp nat_cmp k y ≡ Less) (before ++ after)
drop_after k q [] after h = h.1
drop_after k q (b ∷ bs) after h = (h.0, drop_after k q bs after h.1)

pub drop_middle : (q : List ℕ) (before after : List (List ℕ)) → AreAscending (before ++ q ∷ after) → AreAscending (before ++ after)
unfolding IsStrictlySortedBy
drop_middle q [] after h = h.1
drop_middle q (b ∷ bs) after h = (drop_after b q bs after h.0, drop_middle q bs after h.1)

-- What a look-up of keys knows: those that were looked up, and those that are left.
pub still_sorted : (wanted : List WantedTerm) (found : Option WantedTerm) (key : List ℕ) (rest : List (List ℕ)) → IfSome found (λ (t : WantedTerm). t.key.items ≡ key) → AreAscending (wanted_keys wanted ++ key ∷ rest) → AreAscending (wanted_keys (wanted ++ found_terms found) ++ rest)
still_sorted wanted None key rest same h = rw (append-nil wanted) (drop_middle key (wanted_keys wanted) rest h)
still_sorted wanted (Some t) key rest same h =
    let keys : wanted_keys (wanted ++ t ∷ []) ++ rest ≡ wanted_keys wanted ++ key ∷ rest = ap (λ (ks : List (List ℕ)). ks ++ rest) (map-append (λ (w : WantedTerm). w.key.items) wanted (t ∷ [])) ∙ append_assoc (wanted_keys wanted) (t.key.items ∷ []) rest ∙ ap (λ (k : List ℕ). wanted_keys wanted ++ k ∷ rest) same in
    subst AreAscending (sym keys) h

pub still_looked_up : (requested : List ℕ → Option IndexRecordOption) (entries : List TermEntry) (wanted : List WantedTerm) (found : Option WantedTerm) (key : List ℕ) (rest : List (List ℕ)) (all : List WantedTermState) → option_map wanted_view found ≡ wanted_under requested entries key
    → map wanted_view wanted ++ filter_map (wanted_under requested entries) (key ∷ rest) ≡ all → map wanted_view (wanted ++ found_terms found) ++ filter_map (wanted_under requested entries) rest ≡ all
still_looked_up requested entries wanted None key rest all is h = rw (append-nil wanted) (rw (← is) at h)
still_looked_up requested entries wanted (Some t) key rest all is h =
    let others = filter_map (wanted_under requested entries) rest in
    ap (λ (ts : List WantedTermState). ts ++ others) (map-append wanted_view wanted (t ∷ [])) ∙ append_assoc (map wanted_view wanted) (wanted_view t ∷ []) others ∙ (rw (← is) at h)

pub none_ascend : AreAscending []
unfolding IsStrictlySortedBy
none_ascend = tt

-- what holds of a value, wherever there is one
pub if_ok : {A E : Type 0} {P : A → Type 0} (r : Result A E) → ((x : A) → r ≡ Ok x → P x) → IfOk r P
if_ok (Ok x) h = h x refl
if_ok (Err e) h = tt

pub entries_ascend : (bytes : List ℕ) (entries : List TermEntry) → dictionary bytes ≡ Ok entries → AreAscending (entry_keys entries)
entries_ascend bytes entries is = let ascend = keys_are_ascending bytes (rw is refl) in rw is at ascend

-- no key is left
pub no_keys : {A : Type 0} (ks : List A) → ((0 < length ks) → false ≡ true) → ks ≡ []
no_keys [] h = refl
no_keys (k ∷ ks) h = absurd (false≢true (h (omega arith)))

pub not_ok : {A E : Type 0} (r : Result A E) (e : E) → r ≡ Err e → IsOk r → ⊥
not_ok (Ok x) e is there = let other = sym is in absurd (cc)
not_ok (Err x) e is there = absurd (cc)
