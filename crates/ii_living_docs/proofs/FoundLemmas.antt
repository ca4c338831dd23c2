-- The living documents among those that a cursor over a segment finds.
use Rattle.std.proofs.Common.{◌≡◌, ◌∙◌, ℕ, zero, suc, ◌+◌, ◌<◌, ◌≤◌, Bool, true, false, List, [], ◌∷◌, filter, length, map, refl, sym, ap, arith, ◌⊎◌, inl, inr}
use Rattle.std.specs.Prelude.{⊤}
use Rattle.std.specs.List.{range_with_len}
use Rattle.std.proofs.lemmas.Bool.{cases_lt, eq-eqb, ne_eqb}
use Rattle.ii_base.specs.Entries.{Entry, docs_of}
use Rattle.ii_docset.specs.Cursor.{IsAscending, doc_at}
use Rattle.ii_docset.specs.Intersection.{has_doc}
use Rattle.ii_alive.specs.Alive.{rank}
use Rattle.ii_segments.specs.Segments.{is_living, living_docs, living_entries}

-- ascending documents have none below the first
none_below : (es : List Entry) (doc : ℕ) → IsAscending es → doc < doc_at es → has_doc es doc ≡ false
none_below [] doc ascending below = refl
none_below (e ∷ es) doc ascending below = rw (ne_eqb e.doc doc (λ same. absurd (omega (arith, same, below)))) (none_below es doc ascending.1 (omega (arith, below, ascending.0)))

-- No document is below a number.
abbrev StartsFrom : ℕ → List Entry → Type 0
StartsFrom low [] = ⊤
StartsFrom low (e ∷ es) = low ≤ e.doc

starts_later : (low doc : ℕ) (es : List Entry) → low ≤ doc + 1 → doc < doc_at es → StartsFrom low es
starts_later low doc [] high below = tt
starts_later low doc (e ∷ es) high below = omega (arith, high, below)

module _ (kept : ℕ → Bool) where
  abbrev passing : List Entry → List ℕ
  passing es = docs_of (filter (λ (e : Entry). kept e.doc) es)

  -- none is kept from here on
  none_kept : (low : ℕ) (es : List Entry) → IsAscending es → StartsFrom low es → ((doc : ℕ) → low ≤ doc → kept doc ≡ false) → passing es ≡ []
  none_kept low [] ascending from dead = refl
  none_kept low (e ∷ es) ascending from dead = rw (dead e.doc from) (none_kept low es ascending.1 (starts_later low e.doc es (omega (arith, from)) ascending.0) dead)

  -- ascending documents that are exactly those with a property are those of a range with it
  listed : (p : ℕ → Bool) (low n : ℕ) (es : List Entry) → IsAscending es → StartsFrom low es → ((doc : ℕ) → low ≤ doc → has_doc es doc ≡ p doc) → ((doc : ℕ) → low + n ≤ doc → kept doc ≡ false)
      → passing es ≡ filter p (filter kept (range_with_len low n))
  listed p low zero es ascending from exact dead = none_kept low es ascending from (λ doc high. dead doc (omega (arith, high)))
  listed p low (suc n) [] ascending from exact dead =
      by (kept low) refl (listed p (low + 1) n [] tt tt (λ doc high. exact doc (omega (arith, high))) (λ doc high. dead doc (omega (arith, high))))
    where
      none : p low ≡ false
      none = sym (exact low (omega arith))

      by : (b : Bool) → kept low ≡ b → [] ≡ filter p (filter kept (range_with_len (low + 1) n)) → [] ≡ filter p (filter kept (range_with_len low (suc n)))
      by true is later = rw (is, none) later
      by false is later = rw is later
  listed p low (suc n) (e ∷ es) ascending from exact dead =
      first
      (λ less. listed p (low + 1) n (e ∷ es) ascending (omega (arith, less)) (λ doc high. exact doc (omega (arith, high))) (λ doc high. dead doc (omega (arith, high))))
      (λ same. listed p (low + 1) n es ascending.1 (starts_later (low + 1) e.doc es (omega (arith, same)) ascending.0) (later_exact same) (λ doc high. dead doc (omega (arith, high)))) (cases_lt low e.doc)
    where
      later_exact : low ≡ e.doc → (doc : ℕ) → low + 1 ≤ doc → has_doc es doc ≡ p doc
      later_exact same doc high = sym (rw (ne_eqb e.doc doc (λ is. absurd (omega (arith, is, same, high)))) refl) ∙ exact doc (omega (arith, high))

      above : (b : Bool) → kept low ≡ b → low < e.doc → passing (e ∷ es) ≡ filter p (filter kept (range_with_len (low + 1) n)) → passing (e ∷ es) ≡ filter p (filter kept (range_with_len low (suc n)))
      above true is less later =
          let none : p low ≡ false = sym (exact low (omega arith)) ∙ none_below (e ∷ es) low ascending less in
          later ∙ sym (rw (is, none) refl)
      above false is less later = later ∙ sym (rw is refl)

      here : (b : Bool) → kept low ≡ b → low ≡ e.doc → passing es ≡ filter p (filter kept (range_with_len (low + 1) n)) → passing (e ∷ es) ≡ filter p (filter kept (range_with_len low (suc n)))
      here true is same later =
          let some : p low ≡ true = sym (exact low (omega arith)) ∙ rw (eq-eqb e.doc low (sym same)) refl in
          rw (ap kept (sym same) ∙ is) (ap (λ (ds : List ℕ). e.doc ∷ ds) later ∙ ap (λ (d : ℕ). d ∷ filter p (filter kept (range_with_len (low + 1) n))) (sym same) ∙ sym (rw (is, some) refl))
      here false is same later = rw (ap kept (sym same) ∙ is) (later ∙ sym (rw is refl))

      first : (low < e.doc → passing (e ∷ es) ≡ filter p (filter kept (range_with_len (low + 1) n))) → (low ≡ e.doc → passing es ≡ filter p (filter kept (range_with_len (low + 1) n))) → (low < e.doc) ⊎ (e.doc ≤ low)
          → passing (e ∷ es) ≡ filter p (filter kept (range_with_len low (suc n)))
      first more others (inl less) = above (kept low) refl less (more less)
      first more others (inr high) = let same : low ≡ e.doc = omega (arith, from, high) in here (kept low) refl same (others same)

module _ (base : ℕ) (alive : List Bool) where
  renumbered_docs : (es : List Entry) → docs_of (living_entries base alive es) ≡ map (λ (doc : ℕ). base + rank alive doc) (passing (is_living alive) es)
  renumbered_docs [] = refl
  renumbered_docs (e ∷ es) = by (is_living alive e.doc) refl (renumbered_docs es)
    where
      by : (b : Bool) → is_living alive e.doc ≡ b → docs_of (living_entries base alive es) ≡ map (λ (doc : ℕ). base + rank alive doc) (passing (is_living alive) es)
          → docs_of (living_entries base alive (e ∷ es)) ≡ map (λ (doc : ℕ). base + rank alive doc) (passing (is_living alive) (e ∷ es))
      by true is later = rw is (ap (λ (ds : List ℕ). (base + rank alive e.doc) ∷ ds) later)
      by false is later = rw is later

  dead_beyond : (flags : List Bool) (doc : ℕ) → length flags ≤ doc → is_living flags doc ≡ false
  dead_beyond [] zero beyond = refl
  dead_beyond [] (suc doc) beyond = refl
  dead_beyond (b ∷ bs) zero beyond = absurd (omega (arith, beyond))
  dead_beyond (b ∷ bs) (suc doc) beyond = dead_beyond bs doc (omega (arith, beyond))

  from_start : (es : List Entry) → StartsFrom 0 es
  from_start [] = tt
  from_start (e ∷ es) = omega arith

  -- the living documents of a cursor over exactly those with a property, by their numbers
  pub living_found : (p : ℕ → Bool) (es : List Entry) → IsAscending es → ((doc : ℕ) → has_doc es doc ≡ p doc) → docs_of (living_entries base alive es) ≡ map (λ (doc : ℕ). base + rank alive doc) (filter p (living_docs alive))
  living_found p es ascending exact =
      renumbered_docs es
      ∙ ap (map (λ (doc : ℕ). base + rank alive doc)) (listed (is_living alive) p 0 (length alive) es ascending (from_start es) (λ doc low. exact doc) (λ doc high. dead_beyond alive doc (omega (arith, high))))
