-- Keys in order, and what a search finds among them.
use Rattle.std.proofs.Common.{[], ◌∷◌, get_or, ◌≡◌, ℕ, zero, suc, ◌+◌, ◌-◌, ◌<◌, ◌≤◌, Bool, true, false, List, length, Option, Some, None, refl, sym, ap, ◌∙◌, arith, ⊎_elim}
use Rattle.std.specs.Prelude.{IfSome, IsSomeAnd, slice_get, unwrap_or, bytes_eq}
use Rattle.std.specs.Ordering.{nat_cmp, is_lt, is_eq, ordering_reverse}
use Rattle.std.specs.Cmp.Lexicographic.{slice_cmp, bytes_decides}
use Rattle.std.specs.declared.cmp.Ordering.{Ordering}
use Rattle.std.specs.declared.cmp.Ordering.TheVariants.{Less, Equal, Greater}
use Rattle.std.specs.List.{zip}
use Rattle.std.specs.Map.{lookup}
use Rattle.std.proofs.lemmas.Bool.{cases_lt}
use Rattle.std.proofs.lemmas.Cmp.{nat_list_cmp_total, tied_itself}
use Rattle.std.proofs.lemmas.Map.Text.{is_eq-slice_cmp}
use Rattle.std.proofs.lemmas.List.FromFn.{get_or-map-range_with_len}
use Rattle.std.proofs.lemmas.Option.{slice_get-get_or}
use Rattle.ii_termstore.specs.declared.term_info.TermInfo.{TermInfo}
use Rattle.ii_termstore.specs.TermStore.{term_store}
use Rattle.ii_termdict.specs.Dictionary.{key_of, keys_of, keys_ascend, is_below, store_after, opened_entries, entry_keys, entry_infos, info_under, AreOpened}
use Rattle.ii_termstore.proofs.ListLemmas.{all_at}
use Rattle.ii_termdict.proofs.DictionaryLemmas.{length-keys_of}

pub less_of : (o : Ordering) → is_lt o ≡ true → o ≡ Less
less_of Less h = refl
less_of Equal h = absurd (cc)
less_of Greater h = absurd (cc)

equal_of : (o : Ordering) → o ≡ Equal → is_eq o ≡ true
equal_of o e = rw e refl

-- each key is below all later ones
key_below : (n : ℕ) (ends body : List ℕ) (i m : ℕ) → keys_ascend n ends body ≡ true → i + suc m < n → slice_cmp nat_cmp (key_of ends body i) (key_of ends body (i + suc m)) ≡ Less
key_below n ends body i zero h within =
    let next : i + 1 ≡ i + suc zero = refl in
    less_of (slice_cmp nat_cmp (key_of ends body i) (key_of ends body (i + 1))) (all_at (λ i. is_below (key_of ends body i) (key_of ends body (i + 1))) (n - 1) i (omega arith) h)
key_below n ends body i (suc m) h within =
    let total = nat_list_cmp_total in
    let next : i + suc (suc m) ≡ i + suc m + 1 = omega arith in
    let ih = key_below n ends body i m h (omega arith) in
    let step = less_of (slice_cmp nat_cmp (key_of ends body (i + suc m)) (key_of ends body (i + suc m + 1))) (all_at (λ i. is_below (key_of ends body i) (key_of ends body (i + 1))) (n - 1) (i + suc m) (omega arith) h) in
    rw next (total.trans (key_of ends body i) (key_of ends body (i + suc m)) (key_of ends body (i + suc m + 1)) ih step)

pub keys_in_order : (n : ℕ) (ends body : List ℕ) (j i : ℕ) → keys_ascend n ends body ≡ true → j < i → i < n → slice_cmp nat_cmp (key_of ends body j) (key_of ends body i) ≡ Less
keys_in_order n ends body j i h below within =
    let place : i ≡ j + suc (i - suc j) = omega arith in
    rw place (key_below n ends body j (i - suc j) h (omega arith))

reversed : (x y : List ℕ) (o : Ordering) → slice_cmp nat_cmp x y ≡ o → slice_cmp nat_cmp y x ≡ ordering_reverse o
reversed x y o e = let total = nat_list_cmp_total in total.antisymm y x ∙ ap ordering_reverse e

-- what the comparison with a middle key says about the keys below and above it
pub below_greater : (n : ℕ) (ends body key : List ℕ) (middle j : ℕ) → keys_ascend n ends body ≡ true → middle < n → slice_cmp nat_cmp key (key_of ends body middle) ≡ Greater → j < middle + 1
    → slice_cmp nat_cmp key (key_of ends body j) ≡ Greater
below_greater n ends body key middle j h within e below =
    let total = nat_list_cmp_total in
    ⊎_elim
    (λ less.
    let up = reversed key (key_of ends body middle) Greater e in
    reversed (key_of ends body j) key Less (total.trans (key_of ends body j) (key_of ends body middle) key (keys_in_order n ends body j middle h less within) up))
    (λ same. let here : j ≡ middle = omega arith in rw here e)
    (cases_lt j middle)

pub above_less : (n : ℕ) (ends body key : List ℕ) (middle j : ℕ) → keys_ascend n ends body ≡ true → slice_cmp nat_cmp key (key_of ends body middle) ≡ Less → middle ≤ j → j < n
    → slice_cmp nat_cmp key (key_of ends body j) ≡ Less
above_less n ends body key middle j h e above within =
    let total = nat_list_cmp_total in
    ⊎_elim
    (λ less. total.trans key (key_of ends body middle) (key_of ends body j) e (keys_in_order n ends body middle j h less within))
    (λ same. let here : j ≡ middle = omega arith in rw here e)
    (cases_lt middle j)

pub found_equal : (x y : List ℕ) → slice_cmp nat_cmp x y ≡ Equal → y ≡ x
found_equal x y e = sym ((bytes_decides x y).0 (sym (is_eq-slice_cmp x y) ∙ equal_of (slice_cmp nat_cmp x y) e))

-- where a search ends, no key is the one sought
pub none_equal : (n place : ℕ) (ends body key : List ℕ) → ((j : ℕ) → j < place → slice_cmp nat_cmp key (key_of ends body j) ≡ Greater)
    → ((j : ℕ) → place ≤ j → j < n → slice_cmp nat_cmp key (key_of ends body j) ≡ Less) → (i : ℕ) → i < n → key_of ends body i ≡ key → ⊥
none_equal n place ends body key below above i within same =
    let itself = tied_itself nat_list_cmp_total key in
    let here : slice_cmp nat_cmp key (key_of ends body i) ≡ Equal = rw same itself in
    ⊎_elim (λ less. let g = below i less in cc) (λ more. let l = above i more within in cc) (cases_lt i place)

-- a lookup in a list of pairs of keys and infos
lookup_hit : (ks : List (List ℕ)) (vs : List TermInfo) (i : ℕ) (key : List ℕ) (x : TermInfo) → length ks ≡ length vs → i < length ks → get_or ks i [] ≡ key
    → ((j : ℕ) → j < i → get_or ks j [] ≡ key → ⊥) → slice_get vs i ≡ Some x → lookup (bytes_eq key) (zip ks vs) ≡ Some x
lookup_hit [] vs i key x same within here first e = absurd (omega arith)
lookup_hit (k ∷ ks) [] i key x same within here first e = absurd (omega arith)
lookup_hit (k ∷ ks) (v ∷ vs) zero key x same within here first e =
    let test = (bytes_decides key k).1 (sym here) in
    rw test e
lookup_hit (k ∷ ks) (v ∷ vs) (suc i) key x same within here first e =
    let apart = not_true (bytes_eq key k) (λ t. first 0 (omega arith) (sym ((bytes_decides key k).0 t))) in
    rw apart (lookup_hit ks vs i key x (omega arith) (omega arith) here (λ j below. first (suc j) (omega arith)) e)
  where
    not_true : (b : Bool) → (b ≡ true → ⊥) → b ≡ false
    not_true true h = absurd (h refl)
    not_true false h = refl

lookup_miss : (ks : List (List ℕ)) (vs : List TermInfo) (key : List ℕ) → ((j : ℕ) → j < length ks → get_or ks j [] ≡ key → ⊥) → lookup (bytes_eq key) (zip ks vs) ≡ None
lookup_miss [] vs key h = refl
lookup_miss (k ∷ ks) [] key h = refl
lookup_miss (k ∷ ks) (v ∷ vs) key h =
    let apart = not_true (bytes_eq key k) (λ t. h 0 (omega arith) (sym ((bytes_decides key k).0 t))) in
    rw apart (lookup_miss ks vs key (λ j below. h (suc j) (omega arith)))
  where
    not_true : (b : Bool) → (b ≡ true → ⊥) → b ≡ false
    not_true true h = absurd (h refl)
    not_true false h = refl

keys_at_place : (n : ℕ) (ends body : List ℕ) (i : ℕ) → i < n → get_or (keys_of n ends body) i [] ≡ key_of ends body i
keys_at_place n ends body i h = get_or-map-range_with_len (key_of ends body) 0 n i i [] h (omega arith)

-- the infos of an opened dictionary
pub opened_infos : (o : Option (List TermInfo)) (n : ℕ) → IsSomeAnd o (λ infos. length infos ≡ n) → length (unwrap_or o []) ≡ n
opened_infos None n h = absurd h
opened_infos (Some infos) n h = h

pub opened_get : (o : Option (List TermInfo)) (n ord : ℕ) (x : TermInfo) → IsSomeAnd o (λ infos. length infos ≡ n) → IfSome o (λ infos. slice_get infos ord ≡ Some x) → slice_get (unwrap_or o []) ord ≡ Some x
opened_get None n ord x h e = absurd h
opened_get (Some infos) n ord x h e = e

pub info_hit : (n : ℕ) (ends body key : List ℕ) (ord : ℕ) (x : TermInfo) → AreOpened n ends body → ord < n → key_of ends body ord ≡ key
    → IfSome (term_store (store_after n ends body)) (λ infos. slice_get infos ord ≡ Some x) → Some x ≡ info_under key (opened_entries n ends body)
unfolding opened_entries
info_hit n ends body key ord x h within same e =
    let many = opened_infos (term_store (store_after n ends body)) n h.store in
    let size = length-keys_of n ends body in
    sym (lookup_hit (keys_of n ends body) (unwrap_or (term_store (store_after n ends body)) []) ord key x (size ∙ sym many) (omega arith) (keys_at_place n ends body ord within ∙ same)
    (λ j below equal.
    let order = keys_in_order n ends body j ord h.ascend below within in
    let other = sym (keys_at_place n ends body j (omega arith)) ∙ equal ∙ sym same in
    let itself = tied_itself nat_list_cmp_total (key_of ends body ord) in
    let less = rw other at order in
    cc)
    (opened_get (term_store (store_after n ends body)) n ord x h.store e))

pub info_miss : (n : ℕ) (ends body key : List ℕ) → ((i : ℕ) → i < n → key_of ends body i ≡ key → ⊥) → None ≡ info_under key (opened_entries n ends body)
unfolding opened_entries
info_miss n ends body key h =
    let size = length-keys_of n ends body in
    sym (lookup_miss (keys_of n ends body) (unwrap_or (term_store (store_after n ends body)) []) key
    (λ j below equal. let within : j < n = omega arith in h j within (sym (keys_at_place n ends body j within) ∙ equal)))

pub zip_keys : (ks : List (List ℕ)) (vs : List TermInfo) → length ks ≡ length vs → entry_keys (zip ks vs) ≡ ks
zip_keys [] vs h = refl
zip_keys (k ∷ ks) [] h = absurd (omega arith)
zip_keys (k ∷ ks) (v ∷ vs) h = ap (λ (xs : List (List ℕ)). k ∷ xs) (zip_keys ks vs (omega arith))

zip_infos : (ks : List (List ℕ)) (vs : List TermInfo) → length ks ≡ length vs → entry_infos (zip ks vs) ≡ vs
zip_infos [] [] h = refl
zip_infos [] (v ∷ vs) h = absurd (omega arith)
zip_infos (k ∷ ks) [] h = absurd (omega arith)
zip_infos (k ∷ ks) (v ∷ vs) h = ap (λ (xs : List TermInfo). v ∷ xs) (zip_infos ks vs (omega arith))

zip_size : (ks : List (List ℕ)) (vs : List TermInfo) → length ks ≡ length vs → length (zip ks vs) ≡ length ks
zip_size [] vs h = refl
zip_size (k ∷ ks) [] h = absurd (omega arith)
zip_size (k ∷ ks) (v ∷ vs) h = ap suc (zip_size ks vs (omega arith))

pub length-entries_of : (n : ℕ) (ends body : List ℕ) → AreOpened n ends body → length (opened_entries n ends body) ≡ n
unfolding opened_entries
length-entries_of n ends body h =
    let many = opened_infos (term_store (store_after n ends body)) n h.store in
    let size = length-keys_of n ends body in
    zip_size (keys_of n ends body) (unwrap_or (term_store (store_after n ends body)) []) (size ∙ sym many) ∙ size

pub key_found : (n : ℕ) (ends body : List ℕ) (ord : ℕ) → AreOpened n ends body → ord < n → slice_get (entry_keys (opened_entries n ends body)) ord ≡ Some (key_of ends body ord)
unfolding opened_entries
key_found n ends body ord h within =
    let many = opened_infos (term_store (store_after n ends body)) n h.store in
    let size = length-keys_of n ends body in
    let keys = zip_keys (keys_of n ends body) (unwrap_or (term_store (store_after n ends body)) []) (size ∙ sym many) in
    ap (λ (ks : List (List ℕ)). slice_get ks ord) keys ∙ slice_get-get_or (keys_of n ends body) ord [] (omega arith) ∙ ap (λ (k : List ℕ). Some k) (keys_at_place n ends body ord within)

pub value_found : (n : ℕ) (ends body : List ℕ) (ord : ℕ) (x : TermInfo) → AreOpened n ends body → IfSome (term_store (store_after n ends body)) (λ infos. slice_get infos ord ≡ Some x)
    → slice_get (entry_infos (opened_entries n ends body)) ord ≡ Some x
unfolding opened_entries
value_found n ends body ord x h e =
    let many = opened_infos (term_store (store_after n ends body)) n h.store in
    let size = length-keys_of n ends body in
    let infos = zip_infos (keys_of n ends body) (unwrap_or (term_store (store_after n ends body)) []) (size ∙ sym many) in
    ap (λ (vs : List TermInfo). slice_get vs ord) infos ∙ opened_get (term_store (store_after n ends body)) n ord x h.store e
