-- Terms that are added to their fields in order.
use Rattle.std.proofs.Common.{add-one, eq-eqb, append-nil, zero-add, cond, ◌≡◌, ℕ, zero, suc, ◌+◌, ◌≤◌, ◌<◌, Bool, true, false, List, [], ◌∷◌, ◌++◌, length, map, take, drop, replicate, slice_index_or, slice_set, get_or, nat_eq, refl, sym, ap, ◌∙◌, subst, arith, Some}
use Rattle.std.specs.Prelude.{slice_get, filter}
use Rattle.std.specs.List.{AllByRecursion, range_with_len}
use Rattle.std.proofs.lemmas.Bool.{ne_eqb}
use Rattle.std.proofs.lemmas.List.{map-append}
use Rattle.std.proofs.lemmas.List.Elements.{filter-append}
use Rattle.std.proofs.lemmas.List.FromFn.{get_or-map-range_with_len, length-map-range_with_len}
use Rattle.std.proofs.lemmas.Option.{slice_get-map}
use Rattle.std.specs.Option.{option_map}
use Rattle.ii_recorder.specs.declared.recorder.AnyRecorder.{AnyRecorder}
use Rattle.ii_recorder.specs.Recorded.{RecorderState}
use Rattle.ii_postings_writer.specs.IndexingContext.{TermIndex}
use Rattle.ii_postings_writer.specs.IndexingTerm.{field_in}
use Rattle.ii_postings_writer.specs.ResolvedTerms.{behind_id, key_with, path_id_in, resolved, resolved_terms}
use Rattle.ii_postings_writer.specs.declared.sorted_terms.KeptTerm.{KeptTerm}
use Rattle.ii_postings_writer.specs.SortedTerms.{IsTermBelow, SortedTerm, kept_state, seen, term_of, terms_in}

module _ {X : Type 0} (f g : ℕ → X) where
  same_above : (at first n : ℕ) → at < first → ((k : ℕ) → (k ≡ at → ⊥) → g k ≡ f k) → map f (range_with_len first n) ≡ map g (range_with_len first n)
  same_above at first zero below others = refl
  same_above at first (suc n) below others =
      rw (← others first (λ e. absurd (omega (arith, e, below)))) (ap (λ (xs : List X). g first ∷ xs) (same_above at (first + 1) n (omega (arith, below)) others))

  -- the values of one function with another's at one place
  set_at : (first n k at : ℕ) (x : X) → k < n → first + k ≡ at → g at ≡ x → ((j : ℕ) → (j ≡ at → ⊥) → g j ≡ f j) → slice_set (map f (range_with_len first n)) k x ≡ map g (range_with_len first n)
  set_at first zero k at x inside is here others = absurd (omega (arith, inside))
  set_at first (suc n) zero at x inside is here others =
      let same : first ≡ at = omega (arith, is) in
      rw (← here, same) (ap (λ (xs : List X). g at ∷ xs) (same_above at (at + 1) n (omega (arith)) others))
  set_at first (suc n) (suc k) at x inside is here others =
      rw (← others first (λ e. absurd (omega (arith, e, is)))) (ap (λ (xs : List X). g first ∷ xs) (set_at (first + 1) n k at x (omega (arith, inside)) (omega (arith, is)) here others))

filter_push : {X : Type 0} (p : X → Bool) (xs : List X) (x : X) (b : Bool) → p x ≡ b → filter p (xs ++ x ∷ []) ≡ filter p xs ++ cond b (x ∷ []) []
filter_push p xs x true is = filter-append p xs (x ∷ []) ∙ ap (λ (ys : List _). filter p xs ++ ys) (rw is refl)
filter_push p xs x false is = filter-append p xs (x ∷ []) ∙ ap (λ (ys : List _). filter p xs ++ ys) (rw is refl)

abbrev lies_in : ℕ → List ℕ × RecorderState → Bool
lies_in field t = nat_eq (field_in t.0) field

-- one more term belongs to its field
term_here : (terms : TermIndex) (t : List ℕ × RecorderState) → terms_in (field_in t.0) (terms ++ t ∷ []) ≡ terms_in (field_in t.0) terms ++ term_of t ∷ []
term_here terms t =
    ap (map term_of) (filter_push (lies_in (field_in t.0)) terms t true (eq-eqb (field_in t.0) (field_in t.0) refl))
    ∙ map-append term_of (filter (lies_in (field_in t.0)) terms) (t ∷ [])

-- and to no other
term_elsewhere : (terms : TermIndex) (t : List ℕ × RecorderState) (field : ℕ) → (field ≡ field_in t.0 → ⊥) → terms_in field (terms ++ t ∷ []) ≡ terms_in field terms
term_elsewhere terms t field apart =
    ap (map term_of) (filter_push (lies_in field) terms t false (ne_eqb (field_in t.0) field (λ e. apart (sym e))) ∙ append-nil (filter (lies_in field) terms))

abbrev lists_of : ℕ → TermIndex → List (List SortedTerm)
lists_of n terms = map (λ (field : ℕ). terms_in field terms) (range_with_len 0 n)

pub one_more : (n : ℕ) (terms : TermIndex) (t : List ℕ × RecorderState) → field_in t.0 < n
    → slice_set (lists_of n terms) (field_in t.0) (slice_index_or (lists_of n terms) (field_in t.0) [] ++ term_of t ∷ []) ≡ lists_of n (terms ++ t ∷ [])
one_more n terms t inside =
    let here = get_or-map-range_with_len (λ (field : ℕ). terms_in field terms) 0 n (field_in t.0) (field_in t.0) [] inside (zero-add (field_in t.0)) in
    rw here (set_at (λ (field : ℕ). terms_in field terms) (λ (field : ℕ). terms_in field (terms ++ t ∷ [])) 0 n (field_in t.0) (field_in t.0) (terms_in (field_in t.0) terms ++ term_of t ∷ []) inside
    (zero-add (field_in t.0)) (term_here terms t) (term_elsewhere terms t))

pub none_at_first : (first n : ℕ) → replicate n [] ≡ map (λ (field : ℕ). terms_in field []) (range_with_len first n)
none_at_first first zero = refl
none_at_first first (suc n) = ap (λ (xs : List (List SortedTerm)). [] ∷ xs) (none_at_first (first + 1) n)

pub all_at : {X : Type 0} (P : X → Type 0) (xs : List X) (k : ℕ) (x : X) → AllByRecursion P xs → slice_get xs k ≡ Some x → P x
all_at P [] k x all at = absurd (cc)
all_at P (y ∷ ys) zero x all at = let same : y ≡ x = cc in subst P same all.0
all_at P (y ∷ ys) (suc k) x all at = all_at P ys k x all.1 at

front_field : (xs ys : List ℕ) → 4 ≤ length xs → field_in (take 4 xs ++ ys) ≡ field_in xs
unfolding field_in
front_field [] ys long = absurd (omega (arith, long))
front_field (a ∷ []) ys long = absurd (omega (arith, long))
front_field (a ∷ b ∷ []) ys long = absurd (omega (arith, long))
front_field (a ∷ b ∷ c ∷ []) ys long = absurd (omega (arith, long))
front_field (a ∷ b ∷ c ∷ d ∷ xs) ys long = refl

pub take_one_more : {X : Type 0} (xs : List X) (k : ℕ) (x : X) → slice_get xs k ≡ Some x → take (suc k) xs ≡ take k xs ++ x ∷ []
take_one_more [] k x at = absurd (cc)
take_one_more (y ∷ ys) zero x at = let same : y ≡ x = cc in ap (λ z. z ∷ []) same
take_one_more (y ∷ ys) (suc k) x at = ap (λ zs. y ∷ zs) (take_one_more ys k x at)

-- the borrowed terms of a map, and one more
pub lent_more : (es : List (List ℕ × AnyRecorder)) (k : ℕ) (e : List ℕ × AnyRecorder) (ts new : List KeptTerm) (t : KeptTerm) → slice_get es k ≡ Some e → map kept_state ts ≡ map seen (take k es) → new ≡ ts ++ t ∷ [] → kept_state t ≡ seen e
    → map kept_state new ≡ map seen (take (k + 1) es)
lent_more es k e ts new t at before new_is same =
    ap (map kept_state) new_is ∙ map-append kept_state ts (t ∷ []) ∙ (λ j. before j ++ same j ∷ [])
    ∙ sym (ap (map seen) (ap (λ (m : ℕ). take m es) (add-one k) ∙ take_one_more es k e at) ∙ map-append seen (take k es) (e ∷ []))

-- what is read at an index is there
pub got_at : {X : Type 0} (xs : List X) (k : ℕ) (x : X) → k < length xs → x ≡ get_or xs k x → slice_get xs k ≡ Some x
got_at [] k x within is = absurd (omega (arith, within))
got_at (y ∷ ys) zero x within is = ap Some (sym is)
got_at (y ∷ ys) (suc k) x within is = got_at ys k x (omega (arith, within)) is

-- each term belongs to a field
pub kept_at : {E : Type 0} (state : E → List ℕ × RecorderState) (n : ℕ) (es : List E) (k : ℕ) (e : E) → AllByRecursion (IsTermBelow n) (map state es) → slice_get es k ≡ Some e → IsTermBelow n (state e)
kept_at state n es k e all at = all_at (IsTermBelow n) (map state es) k (state e) all (slice_get-map state es k ∙ ap (option_map state) at)

-- the field of a term is that of its key
pub resolved_field : (flags : List Bool) (paths : List (List ℕ)) (term : List ℕ) → 4 ≤ length term → field_in (resolved flags paths term) ≡ field_in term
resolved_field flags paths term long = front_field term (key_with paths (path_id_in flags term) (behind_id flags term)) long

-- the lists of the fields once a term was added to its own
pub added : {E : Type 0} (state : E → List ℕ × RecorderState) (flags : List Bool) (paths : List (List ℕ)) (n : ℕ) (es : List E) (k : ℕ) (e : E) (fields new : List (List SortedTerm)) → slice_get es k ≡ Some e
    → AllByRecursion (IsTermBelow n) (map state es) → fields ≡ lists_of n (resolved_terms flags paths (map state (take k es)))
    → new ≡ slice_set fields (field_in (state e).0) (slice_index_or fields (field_in (state e).0) [] ++ record { key = drop 4 (resolved flags paths (state e).0); recorder = (state e).1 } ∷ [])
    → new ≡ lists_of n (resolved_terms flags paths (map state (take (k + 1) es)))
added state flags paths n es k e fields new at all known put =
    let t : List ℕ × RecorderState = (resolved flags paths (state e).0, (state e).1) in
    let terms = resolved_terms flags paths (map state (take k es)) in
    let more : resolved_terms flags paths (map state (take (k + 1) es)) ≡ terms ++ t ∷ [] =
    ap (resolved_terms flags paths) (ap (map state) (ap (λ (m : ℕ). take m es) (add-one k) ∙ take_one_more es k e at) ∙ map-append state (take k es) (e ∷ []))
    ∙ map-append (λ (u : List ℕ × RecorderState). (resolved flags paths u.0, u.1)) (map state (take k es)) (state e ∷ []) in
    let below = kept_at state n es k e all at in
    let field : field_in t.0 ≡ field_in (state e).0 = resolved_field flags paths (state e).0 below.long in
    let put_at : slice_set (lists_of n terms) (field_in t.0) (slice_index_or (lists_of n terms) (field_in t.0) [] ++ term_of t ∷ []) ≡ lists_of n (terms ++ t ∷ []) = one_more n terms t (omega (arith, field, below.known)) in
    let at_field = subst (λ (f : ℕ). slice_set (lists_of n terms) f (slice_index_or (lists_of n terms) f [] ++ term_of t ∷ []) ≡ lists_of n (terms ++ t ∷ [])) field put_at in
    rw (put, known, more) at_field

pub known_at : (n : ℕ) (t : List ℕ × RecorderState) (terms : TermIndex) (fields : List (List SortedTerm)) → IsTermBelow n t → fields ≡ lists_of n terms → field_in t.0 < length fields
known_at n t terms fields below known = rw (known, length-map-range_with_len (λ (field : ℕ). terms_in field terms) 0 n) below.known
