-- Living documents by their numbers.
use Rattle.std.proofs.Common.{◌≡◌, ◌∙◌, ℕ, zero, suc, ◌+◌, ◌^◌, ◌<◌, ◌≤◌, Bool, true, false, List, [], ◌∷◌, length, drop, refl, sym, ap, arith, ◌⊎◌, inl, inr}
use Rattle.std.specs.Prelude.{filter, nat_le, slice_index_or}
use Rattle.std.specs.List.{All, AllByRecursion}
use Rattle.std.specs.List.Sorted.{IsNonDecreasing}
use Rattle.std.proofs.lemmas.Bool.{cases_lt, le-leb, leb-true, lt-leb}
use Rattle.std.proofs.lemmas.List.Elements.{All-from_recursion, recursion_from_All}
use Rattle.std.proofs.lemmas.List.{length-map}
use Rattle.std.proofs.lemmas.List.Sums.{count_by-le-length, length-filter}
use Rattle.ii_base.specs.Entries.{Entry}
use Rattle.ii_base.specs.declared.doc_id.TheConstants.{TERMINATED}
use Rattle.ii_docset.specs.Cursor.{IsAscending, IsCurrent, IsSound, IsTarget, doc_at, from_doc, positions_at, term_freq_at}
use Rattle.ii_alive.specs.Alive.{rank}
use Rattle.ii_alive.proofs.RankLemmas.{rank_below, rank_mono, rank_strict}
use Rattle.ii_living_docs.specs.LivingDocs.{AreNumbered, IsAtLiving, IsDocumentOf}
use Rattle.ii_segments.specs.Segments.{living_entries, entry_at_rank, is_living}

outside : (alive : List Bool) (doc : ℕ) → length alive ≤ doc → slice_index_or alive doc false ≡ false
outside [] zero beyond = refl
outside [] (suc doc) beyond = refl
outside (b ∷ bs) zero beyond = absurd (omega (arith, beyond))
outside (b ∷ bs) (suc doc) beyond = outside bs doc (omega (arith, beyond))

-- only documents that the flags cover are alive
flag_inside : (alive : List Bool) (doc : ℕ) → slice_index_or alive doc false ≡ true → doc < length alive
flag_inside [] zero is = absurd (cc)
flag_inside [] (suc doc) is = absurd (cc)
flag_inside (b ∷ bs) zero is = omega arith
flag_inside (b ∷ bs) (suc doc) is = omega (arith, flag_inside bs doc is)

-- a living document parts the others by its rank
pub living_parts : (alive : List Bool) (number doc : ℕ) → slice_index_or alive doc false ≡ true → rank alive doc ≡ number → IsDocumentOf alive number doc
living_parts alive number doc living is = record { within = omega (arith, flag_inside alive doc living); parts = λ other also. by other also (cases_lt other doc) }
  where
    by : (other : ℕ) → slice_index_or alive other false ≡ true → (other < doc) ⊎ (doc ≤ other) → nat_le doc other ≡ nat_le number (rank alive other)
    by other also (inl before) = rw (lt-leb doc other before, lt-leb number (rank alive other) (omega (arith, is, rank_strict alive other doc also before))) refl
    by other also (inr after) = rw (le-leb doc other after, le-leb number (rank alive other) (omega (arith, is, rank_mono alive doc other after))) refl

above_all : (doc : ℕ) (es : List Entry) → IsAscending es → doc < doc_at es → AllByRecursion (λ (e : Entry). doc < e.doc) es
above_all doc [] ascending below = tt
above_all doc (e ∷ es) ascending below = (below, above_all doc es ascending.1 (omega (arith, below, ascending.0)))

module _ (base : ℕ) (alive : List Bool) where
  -- a living document has a lower number than those after it
  first_above : (doc : ℕ) (es : List Entry) → AreNumbered base alive → slice_index_or alive doc false ≡ true → AllByRecursion (λ (e : Entry). doc < e.doc) es → base + rank alive doc < doc_at (living_entries base alive es)
  first_above doc [] numbered is above = omega (arith, rank_below alive doc is, numbered.few)
  first_above doc (e ∷ es) numbered is above = by (slice_index_or alive e.doc false) refl (first_above doc es numbered is above.1)
    where
      by : (b : Bool) → slice_index_or alive e.doc false ≡ b → base + rank alive doc < doc_at (living_entries base alive es) → base + rank alive doc < doc_at (living_entries base alive (e ∷ es))
      by true living later = rw living (omega (arith, rank_strict alive doc e.doc is above.0))
      by false dead later = rw dead later

  ascends : (es : List Entry) → AreNumbered base alive → IsAscending es → IsAscending (living_entries base alive es)
  ascends [] numbered ascending = tt
  ascends (e ∷ es) numbered ascending = by (slice_index_or alive e.doc false) refl (ascends es numbered ascending.1)
    where
      by : (b : Bool) → slice_index_or alive e.doc false ≡ b → IsAscending (living_entries base alive es) → IsAscending (living_entries base alive (e ∷ es))
      by true living later = rw living (first_above e.doc es numbered living (above_all e.doc es ascending.1 ascending.0), later)
      by false dead later = rw dead later

  -- what holds of entries by their term frequencies and positions holds of the living ones
  each_living : (P : ℕ → List ℕ → Type 0) (es : List Entry) → All (λ (e : Entry). P e.term_freq e.positions) es → All (λ (e : Entry). P e.term_freq e.positions) (living_entries base alive es)
  each_living P es all = All-from_recursion Q (living_entries base alive es) (each es (recursion_from_All Q es all))
    where
      Q : Entry → Type 0
      Q e = P e.term_freq e.positions

      each : (es : List Entry) → AllByRecursion Q es → AllByRecursion Q (living_entries base alive es)
      each [] all = tt
      each (e ∷ es) all = by (slice_index_or alive e.doc false) refl (each es all.1)
        where
          by : (b : Bool) → slice_index_or alive e.doc false ≡ b → AllByRecursion Q (living_entries base alive es) → AllByRecursion Q (living_entries base alive (e ∷ es))
          by true living later = rw living (all.0, later)
          by false dead later = rw dead later

  -- living documents are a sound list by their numbers
  pub living_sound : (es : List Entry) → AreNumbered base alive → IsSound es → IsSound (living_entries base alive es)
  living_sound es numbered sound = record {
    ascending = ascends es numbered sound.ascending;
    fits = each_living (λ freq ps. (freq < 2 ^ 32) × All (λ (p : ℕ). p < 2 ^ 32) ps) es sound.fits;
    in_order = each_living (λ freq ps. IsNonDecreasing ps) es sound.in_order;
  }

  -- documents that the flags don't cover aren't alive
  pub none_beyond : (es : List Entry) → IsAscending es → length alive ≤ doc_at es → living_entries base alive es ≡ []
  none_beyond [] ascending beyond = refl
  none_beyond (e ∷ es) ascending beyond =
      let dead : slice_index_or alive e.doc false ≡ false = outside alive e.doc beyond in
      rw dead (none_beyond es ascending.1 (omega (arith, beyond, ascending.0)))

  -- the number of the current document
  pub doc_here : (es : List Entry) → AreNumbered base alive → IsAtLiving alive es → doc_at es < length alive → base + rank alive (doc_at es) ≡ doc_at (living_entries base alive es)
  doc_here [] numbered at inside = absurd (omega (arith, inside, numbered.short))
  doc_here (e ∷ es) numbered at inside = rw (at.living inside) refl

  pub doc_end : (es : List Entry) → IsAtLiving alive es → length alive ≤ doc_at es → TERMINATED ≡ doc_at (living_entries base alive es)
  doc_end es at beyond = sym (ap doc_at (none_beyond es at.sound.ascending beyond))

  -- without the current document
  pub stepped : (es : List Entry) → AreNumbered base alive → IsAtLiving alive es → doc_at es < length alive → living_entries base alive (drop 1 es) ≡ drop 1 (living_entries base alive es)
  stepped [] numbered at inside = refl
  stepped (e ∷ es) numbered at inside = rw (at.living inside) refl

  pub stays : (es : List Entry) → IsAtLiving alive es → length alive ≤ doc_at es → living_entries base alive es ≡ drop 1 (living_entries base alive es)
  stays es at beyond = rw (none_beyond es at.sound.ascending beyond) refl

  -- a dead document is no entry
  pub dead_dropped : (es : List Entry) → doc_at es < TERMINATED → slice_index_or alive (doc_at es) false ≡ false → living_entries base alive (drop 1 es) ≡ living_entries base alive es
  dead_dropped [] here dead = absurd (omega (arith, here))
  dead_dropped (e ∷ es) here dead = rw dead refl

  -- The current document of the living ones is that of all, with its frequency and positions.
  pub record IsCurrentLiving (es : List Entry) : Type 0 where
    pub current : IsCurrent es
    pub freq : (one : Bool) → term_freq_at one es ≡ term_freq_at one (living_entries base alive es)
    pub positions : positions_at es ≡ positions_at (living_entries base alive es)

  pub current_living : (es : List Entry) → AreNumbered base alive → IsAtLiving alive es → IsCurrent (living_entries base alive es) → IsCurrentLiving es
  current_living es numbered at current = by (cases_lt (doc_at es) (length alive))
    where
      of : (es : List Entry) → IsAtLiving alive es → doc_at es < length alive → IsCurrentLiving es
      of [] at inside = absurd (omega (arith, inside, numbered.short))
      of (e ∷ es) at inside = record { current = omega (arith, inside, numbered.short); freq = λ one. freq_of one; positions = rw (at.living inside) refl }
        where
          freq_of : (one : Bool) → term_freq_at one (e ∷ es) ≡ term_freq_at one (living_entries base alive (e ∷ es))
          freq_of true = refl
          freq_of false = rw (at.living inside) refl

      by : (doc_at es < length alive) ⊎ (length alive ≤ doc_at es) → IsCurrentLiving es
      by (inl inside) = of es at inside
      by (inr beyond) = absurd (omega (arith, current, ap doc_at (none_beyond es at.sound.ascending beyond)))

  -- no more positions than those of the current document
  pub positions_few : (es : List Entry) → AreNumbered base alive → IsAtLiving alive es → length (positions_at (living_entries base alive es)) ≤ length (positions_at es)
  positions_few es numbered at = by (cases_lt (doc_at es) (length alive))
    where
      by : (doc_at es < length alive) ⊎ (length alive ≤ doc_at es) → length (positions_at (living_entries base alive es)) ≤ length (positions_at es)
      by (inl inside) =
          let here = current_living es numbered at (omega (arith, doc_here es numbered at inside, rank_below alive (doc_at es) (at.living inside), numbered.few)) in
          omega (arith, ap length here.positions)
      by (inr beyond) = omega (arith, ap (λ (fs : List Entry). length (positions_at fs)) (none_beyond es at.sound.ascending beyond))

  -- the living documents from a document on are those from its number on
  pub sought : (target number doc : ℕ) (es : List Entry) → IsDocumentOf alive number doc → base + number ≡ target → living_entries base alive (from_doc doc es) ≡ from_doc target (living_entries base alive es)
  sought target number doc [] is at = refl
  sought target number doc (e ∷ es) is at = by (slice_index_or alive e.doc false) refl (nat_le doc e.doc) refl (sought target number doc es is at)
    where
      same : slice_index_or alive e.doc false ≡ true → nat_le target (base + rank alive e.doc) ≡ nat_le doc e.doc
      same living = decided (cases_lt (rank alive e.doc) number)
        where
          decided : (rank alive e.doc < number) ⊎ (number ≤ rank alive e.doc) → nat_le target (base + rank alive e.doc) ≡ nat_le doc e.doc
          decided (inl below) = rw (lt-leb target (base + rank alive e.doc) (omega (arith, at, below)), is.parts e.doc living, lt-leb number (rank alive e.doc) below) refl
          decided (inr above) = rw (le-leb target (base + rank alive e.doc) (omega (arith, at, above)), is.parts e.doc living, le-leb number (rank alive e.doc) above) refl

      by : (b : Bool) → slice_index_or alive e.doc false ≡ b → (c : Bool) → nat_le doc e.doc ≡ c → living_entries base alive (from_doc doc es) ≡ from_doc target (living_entries base alive es)
          → living_entries base alive (from_doc doc (e ∷ es)) ≡ from_doc target (living_entries base alive (e ∷ es))
      by true living true kept later = rw (kept, living, same living ∙ kept) (ap (λ (fs : List Entry). entry_at_rank base alive e ∷ fs) later)
      by true living false left later = rw (left, living, same living ∙ left) later
      by false dead true kept later = rw (kept, dead) later
      by false dead false left later = rw (left, dead) later

  -- a document that is sought lies after the current one
  pub sought_after : (target number doc : ℕ) (es : List Entry) → AreNumbered base alive → IsAtLiving alive es → IsDocumentOf alive number doc → base + number ≡ target → doc_at (living_entries base alive es) < target → target ≤ TERMINATED → IsTarget doc es
  sought_after target number doc es numbered at is number_is below up = record { up_to = omega (arith, is.within, numbered.short); forward = λ current. forward_from (cases_lt (doc_at es) (length alive)) }
    where
      forward_from : (doc_at es < length alive) ⊎ (length alive ≤ doc_at es) → doc_at es ≤ doc
      forward_from (inl inside) =
          let living = at.living inside in
          by (cases_lt doc (doc_at es)) (is.parts (doc_at es) living)
        where
          by : (doc < doc_at es) ⊎ (doc_at es ≤ doc) → nat_le doc (doc_at es) ≡ nat_le number (rank alive (doc_at es)) → doc_at es ≤ doc
          by (inr before) same = before
          by (inl after) same =
              let high : nat_le number (rank alive (doc_at es)) ≡ true = sym same ∙ le-leb doc (doc_at es) (omega (arith, after)) in
              absurd (omega (arith, leb-true number (rank alive (doc_at es)) high, doc_here es numbered at inside, below, number_is))
      forward_from (inr beyond) = absurd (omega (arith, below, up, ap doc_at (none_beyond es at.sound.ascending beyond)))

  -- each number is at least the first one
  pub base_below : (es : List Entry) → AreNumbered base alive → IsAtLiving alive es → doc_at (living_entries base alive es) < TERMINATED → base ≤ doc_at (living_entries base alive es)
  base_below es numbered at current = by (cases_lt (doc_at es) (length alive))
    where
      by : (doc_at es < length alive) ⊎ (length alive ≤ doc_at es) → base ≤ doc_at (living_entries base alive es)
      by (inl inside) = omega (arith, doc_here es numbered at inside)
      by (inr beyond) = absurd (omega (arith, current, ap doc_at (none_beyond es at.sound.ascending beyond)))

-- no more documents are alive than there are
pub living_short : (base : ℕ) (alive : List Bool) (es : List Entry) → length (living_entries base alive es) ≤ length es
living_short base alive es =
    let living = λ (e : Entry). is_living alive e.doc in
    let same = length-map (filter living es) (entry_at_rank base alive) in
    let counted = length-filter living es in
    let few = count_by-le-length living es in
    omega (arith, same, counted, few)
