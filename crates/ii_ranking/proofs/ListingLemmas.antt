-- Laws of documents that are listed with their scores.
use Rattle.std.proofs.Common.{◌≡◌, ◌∙◌, ◌≢◌, ℕ, zero, suc, ◌+◌, ◌-◌, ◌<◌, ◌≤◌, inl, inr, List, [], ◌∷◌, ◌++◌, Option, None, Some, append-nil, map, refl, sym, ap, subst, arith}
use Rattle.std.specs.List.{flat_map, range_with_len}
use Rattle.std.specs.Option.{option_map}
use Rattle.std.proofs.lemmas.Bool.{cases_eq, ne_eqb}
use Rattle.ii_base.specs.Entries.{Entry, counted}
use Rattle.ii_base.specs.declared.doc_id.TheConstants.{TERMINATED}
use Rattle.ii_docset.specs.Cursor.{IsAscending, doc_at}
use Rattle.ii_scorer.specs.Scorers.{IsBelow}
use Rattle.ii_scorer.specs.TopDocs.{with_score}
use Rattle.ii_scorer.proofs.TopLemmas.{scored_alike, scored_more}
use Rattle.ii_ranking.specs.Listing.{scored_below}
use Rattle.ii_ranking.specs.Scores.{entry_at}
use Rattle.ii_ranking.proofs.EntryLemmas.{entry_here, none_below}

-- ---- documents in turn
pub listed_none : (f : ℕ → Option ℕ) → [] ≡ scored_below 0 f
unfolding scored_below
listed_none f = refl

listed_one : (f : ℕ → Option ℕ) (n : ℕ) → scored_below (n + 1) f ≡ scored_below n f ++ with_score (f n) n
unfolding scored_below
listed_one f n = scored_more (λ (doc : ℕ). doc) n f

-- the same scores
pub listed_alike : (n : ℕ) (f g : ℕ → Option ℕ) → ((doc : ℕ) → doc < n → f doc ≡ g doc) → scored_below n f ≡ scored_below n g
unfolding scored_below
listed_alike n f g same = scored_alike (λ (doc : ℕ). doc) n f g same

-- no score is below 0
below_zero : (score : Option ℕ) → IsBelow 0 score → score ≡ None
below_zero None low = refl
below_zero (Some n) low = absurd (omega (arith, low))

-- documents without a score add nothing
listed_on : (f : ℕ → Option ℕ) (from more : ℕ) → ((doc : ℕ) → from ≤ doc → doc < from + more → IsBelow 0 (f doc)) → scored_below (from + more) f ≡ scored_below from f
listed_on f from zero none = let same : from + 0 ≡ from = omega arith in ap (λ (n : ℕ). scored_below n f) same
listed_on f from (suc more) none =
    let next : from + suc more ≡ from + more + 1 = omega arith in
    ap (λ (n : ℕ). scored_below n f) next ∙ listed_one f (from + more)
    ∙ ap (λ (score : Option ℕ). scored_below (from + more) f ++ with_score score (from + more)) (below_zero (f (from + more)) (none (from + more) (omega arith) (omega arith)))
    ∙ append-nil (scored_below (from + more) f) ∙ listed_on f from more (λ doc low inside. none doc low (omega (arith, inside)))

pub listed_to : (f : ℕ → Option ℕ) (from to : ℕ) → from ≤ to → ((doc : ℕ) → from ≤ doc → doc < to → IsBelow 0 (f doc)) → scored_below to f ≡ scored_below from f
listed_to f from to low none =
    let whole : from + (to - from) ≡ to = omega (arith, low) in
    ap (λ (n : ℕ). scored_below n f) (sym whole) ∙ listed_on f from (to - from) (λ doc up inside. none doc up (omega (arith, inside, whole)))

-- one document more
pub listed_more : (f : ℕ → Option ℕ) (from next : ℕ) (score : Option ℕ) (old new : List (ℕ × ℕ)) → from ≤ next → ((doc : ℕ) → from ≤ doc → doc < next → IsBelow 0 (f doc)) → score ≡ f next → old ≡ scored_below from f → new ≡ old ++ with_score score next → new ≡ scored_below (next + 1) f
listed_more f from next score old new low none is listed added =
    added ∙ ap (λ (row : List (ℕ × ℕ)). row ++ with_score score next) (listed ∙ sym (listed_to f from next low none)) ∙ ap (λ (s : Option ℕ). scored_below next f ++ with_score s next) is ∙ sym (listed_one f next)

-- ---- the list as entries, whose term frequency is the score
abbrev entries : List (ℕ × ℕ) → List Entry
entries docs = map (λ (d : ℕ × ℕ). counted d.1 d.0) docs

-- the documents of a range
abbrev in_range : ℕ → ℕ → (ℕ → Option ℕ) → List (ℕ × ℕ)
in_range from n f = flat_map (λ (doc : ℕ). with_score (f doc) doc) (range_with_len from n)

range_low : (from n : ℕ) (f : ℕ → Option ℕ) → from + n ≤ TERMINATED → from ≤ doc_at (entries (in_range from n f))
range_low from zero f up = omega (arith, up)
range_low from (suc n) f up = by (f from) (range_low (from + 1) n f (omega (arith, up)))
  where
    by : (s : Option ℕ) → from + 1 ≤ doc_at (entries (in_range (from + 1) n f)) → from ≤ doc_at (entries (with_score s from ++ in_range (from + 1) n f))
    by None later = omega (arith, later)
    by (Some k) later = omega arith

range_ascends : (from n : ℕ) (f : ℕ → Option ℕ) → from + n ≤ TERMINATED → IsAscending (entries (in_range from n f))
range_ascends from zero f up = tt
range_ascends from (suc n) f up = by (f from) (range_ascends (from + 1) n f (omega (arith, up)))
  where
    by : (s : Option ℕ) → IsAscending (entries (in_range (from + 1) n f)) → IsAscending (entries (with_score s from ++ in_range (from + 1) n f))
    by None later = later
    by (Some k) later = (let first = range_low (from + 1) n f (omega (arith, up)) in omega (arith, first), later)

range_at : (from n doc : ℕ) (f : ℕ → Option ℕ) → from + n ≤ TERMINATED → from ≤ doc → doc < from + n → option_map (λ (e : Entry). e.term_freq) (entry_at (entries (in_range from n f)) doc) ≡ f doc
range_at from zero doc f up low below = absurd (omega (arith, low, below))
range_at from (suc n) doc f up low below = by (f from) refl (λ other. range_at (from + 1) n doc f (omega (arith, up)) (omega (arith, low, other)) (omega (arith, below)))
  where
    by : (s : Option ℕ) → f from ≡ s → (from ≢ doc → option_map (λ (e : Entry). e.term_freq) (entry_at (entries (in_range (from + 1) n f)) doc) ≡ f doc)
        → option_map (λ (e : Entry). e.term_freq) (entry_at (entries (with_score s from ++ in_range (from + 1) n f)) doc) ≡ f doc
    by None none later = elim (cases_eq from doc) [
      | inl same ↦ subst (λ (d : ℕ). option_map (λ (e : Entry). e.term_freq) (entry_at (entries (in_range (from + 1) n f)) d) ≡ f d) same
          (ap (option_map (λ (e : Entry). e.term_freq)) (none_below from (entries (in_range (from + 1) n f)) (range_ascends (from + 1) n f (omega (arith, up))) (let first = range_low (from + 1) n f (omega (arith, up)) in omega (arith, first))) ∙ sym none)
      | inr other ↦ later other
    ]
    by (Some k) some later = elim (cases_eq from doc) [
      | inl same ↦ subst (λ (d : ℕ). option_map (λ (e : Entry). e.term_freq) (entry_at (entries ((k, from) ∷ in_range (from + 1) n f)) d) ≡ f d) same
          (ap (option_map (λ (e : Entry). e.term_freq)) (entry_here (counted from k) (entries (in_range (from + 1) n f))) ∙ sym some)
      | inr other ↦ rw (ne_eqb from doc other) (later other)
    ]

pub listed_ascends : (n : ℕ) (f : ℕ → Option ℕ) → n ≤ TERMINATED → IsAscending (entries (scored_below n f))
unfolding scored_below
listed_ascends n f up = range_ascends 0 n f (omega (arith, up))

-- what a document scores by the list
pub listed_at : (n doc : ℕ) (f : ℕ → Option ℕ) → n ≤ TERMINATED → doc < n → option_map (λ (e : Entry). e.term_freq) (entry_at (entries (scored_below n f)) doc) ≡ f doc
unfolding scored_below
listed_at n doc f up below = range_at 0 n doc f (omega (arith, up)) (omega arith) (omega (arith, below))
