-- Laws of documents that are listed with their scores.
use Rattle.std.proofs.Common.{◌≡◌, ◌∙◌, ℕ, zero, suc, ◌+◌, ◌<◌, ◌≤◌, Bool, true, false, inl, inr, List, [], ◌∷◌, Option, None, Some, drop, get_or, length, nat_eq, refl, sym, ap, subst, arith}
use Rattle.std.specs.List.{AllByRecursion}
use Rattle.std.specs.Option.{option_map}
use Rattle.std.proofs.lemmas.Bool.{cases_lt}
use Rattle.std.proofs.lemmas.List.{drop_all, length-map}
use Rattle.ii_base.specs.Entries.{Entry, counted}
use Rattle.ii_base.specs.declared.doc_id.TheConstants.{TERMINATED}
use Rattle.ii_docset.specs.Cursor.{IsAscending, doc_at, from_doc}
use Rattle.ii_docset.proofs.CursorLemmas.{IsAscending_drop, advanced, from_doc_here, from_doc_step}
use Rattle.ii_scorer.specs.Scorers.{IsBounded, IsUpTo, KeepsFrom}
use Rattle.ii_ranking.specs.Listing.{scored_below}
use Rattle.ii_ranking.specs.Scores.{entry_at}
use Rattle.ii_ranking.proofs.EntryLemmas.{entry_here, none_below}
use Rattle.ii_ranking.proofs.LeafLemmas.{IsRow, entry_row, leaf_bounded, leaf_went, row_ends}
use Rattle.ii_ranking.proofs.ListingLemmas.{listed_ascends, listed_at}
use Rattle.ii_prepared_term.specs.PreparedQueries.{ScoresEnd}
use Rattle.ii_prepared_term.specs.ScoredLists.{IsScoredList, ScoredListState, entries_of, listed_state}

-- what a document scores by entries
abbrev pub score_by_entries : List Entry → ℕ → Option ℕ
score_by_entries es doc = option_map (λ (e : Entry). e.term_freq) (entry_at es doc)

pub list_row : IsRow score_by_entries
list_row = entry_row (λ (doc : ℕ). option_map (λ (e : Entry). e.term_freq)) (λ doc. refl)

-- no document from `TERMINATED` on has a score
pub entries_end : (es : List Entry) → IsAscending es → ScoresEnd (score_by_entries es)
entries_end es up = row_ends score_by_entries list_row es up

-- what was listed is what documents score
pub listed_is : (docs : List (ℕ × ℕ)) (f : ℕ → Option ℕ) → docs ≡ scored_below TERMINATED f → ScoresEnd f → (doc : ℕ) → score_by_entries (entries_of docs) doc ≡ f doc
listed_is docs f is ends doc = ap (λ (ds : List (ℕ × ℕ)). score_by_entries (entries_of ds) doc) is ∙ elim (cases_lt doc TERMINATED) [
  | inl low ↦ listed_at TERMINATED doc f (omega arith) low
  | inr end ↦ entries_end (entries_of (scored_below TERMINATED f)) (listed_ascends TERMINATED f (omega arith)) doc end ∙ sym (ends doc end)
]

pub listed_up : (docs : List (ℕ × ℕ)) (f : ℕ → Option ℕ) → docs ≡ scored_below TERMINATED f → IsAscending (entries_of docs)
listed_up docs f is = subst (λ (ds : List (ℕ × ℕ)). IsAscending (entries_of ds)) (sym is) (listed_ascends TERMINATED f (omega arith))

-- ---- bounds
-- Each entry scores at most this.
abbrev EachUpTo : ℕ → List Entry → Type 0
EachUpTo most es = AllByRecursion (λ (e : Entry). e.term_freq ≤ most) es

each_up : (most : ℕ) (docs : List (ℕ × ℕ)) → ((k : ℕ) → k < length docs → (get_or docs k (0, 0)).0 ≤ most) → EachUpTo most (entries_of docs)
each_up most [] up = tt
each_up most (d ∷ ds) up = (up 0 (omega arith), each_up most ds (λ k inside. up (suc k) (omega (arith, inside))))

each_left : (most n : ℕ) (es : List Entry) → EachUpTo most es → EachUpTo most (drop n es)
each_left most zero es all = all
each_left most (suc n) [] all = tt
each_left most (suc n) (e ∷ es) all = each_left most n es all.1

entry_up : (most doc : ℕ) (es : List Entry) → EachUpTo most es → IsUpTo most (score_by_entries es doc)
entry_up most doc [] all = tt
entry_up most doc (e ∷ es) all = by (nat_eq e.doc doc) refl (entry_up most doc es all.1)
  where
    by : (t : Bool) → nat_eq e.doc doc ≡ t → IsUpTo most (score_by_entries es doc) → IsUpTo most (score_by_entries (e ∷ es) doc)
    by true test later = rw test all.0
    by false test later = rw test later

-- no document scores more, of those from a place on
pub listed_bounded : (docs : List (ℕ × ℕ)) (most place : ℕ) → IsScoredList docs most → IsBounded (listed_state (record { rest = drop place (entries_of docs); most = most }))
listed_bounded docs most place is = leaf_bounded (score_by_entries (drop place (entries_of docs))) most is.fits (λ doc. entry_up most doc (drop place (entries_of docs)) (each_left most place (entries_of docs) (each_up most docs is.up_to)))

-- the scorer of a list that passed the documents below a target
pub listed_went : (target : ℕ) (old new : ScoredListState) → new.rest ≡ from_doc target old.rest → new.most ≡ old.most → KeepsFrom target (listed_state old) (listed_state new)
listed_went target old new is same =
    subst (λ (most : ℕ). KeepsFrom target (listed_state old) (listed_state (record { rest = new.rest; most = most }))) (sym same) (leaf_went score_by_entries list_row old.most target old.rest new.rest is)

-- ---- places of a list
-- the entry at a place
pub entry_place : (docs : List (ℕ × ℕ)) (i : ℕ) (d : ℕ × ℕ) → i < length docs → d ≡ get_or docs i d → drop i (entries_of docs) ≡ counted d.1 d.0 ∷ drop (suc i) (entries_of docs)
entry_place [] i d inside is = absurd (omega (arith, inside))
entry_place (x ∷ xs) zero d inside is = ap (λ (p : ℕ × ℕ). counted p.1 p.0 ∷ entries_of xs) (sym is)
entry_place (x ∷ xs) (suc i) d inside is = entry_place xs i d (omega (arith, inside)) is

-- its document
pub doc_place : (docs : List (ℕ × ℕ)) (i : ℕ) (d : ℕ × ℕ) → i < length docs → d ≡ get_or docs i d → d.1 ≡ doc_at (drop i (entries_of docs))
doc_place docs i d inside is = sym (ap doc_at (entry_place docs i d inside is))

-- nothing is left at the end
pub entries_over : (docs : List (ℕ × ℕ)) (i : ℕ) → length docs ≤ i → drop i (entries_of docs) ≡ []
entries_over docs i over = let many = length-map docs (λ (d : ℕ × ℕ). counted d.1 d.0) in drop_all i (entries_of docs) (omega (arith, many, over))

module _ (docs : List (ℕ × ℕ)) (from place target : ℕ) (up : IsAscending (entries_of docs)) (same : from_doc target (drop place (entries_of docs)) ≡ from_doc target (drop from (entries_of docs))) where
  -- past a document below the target
  pub passes_place : (d : ℕ × ℕ) → place < length docs → d ≡ get_or docs place d → d.1 < target → target ≤ TERMINATED → from_doc target (drop (place + 1) (entries_of docs)) ≡ from_doc target (drop from (entries_of docs))
  passes_place d inside is low end =
      let at = doc_place docs place d inside is in
      ap (from_doc target) (advanced (entries_of docs) place) ∙ from_doc_step target (drop place (entries_of docs)) (omega (arith, at, low)) end ∙ same

  -- at one that isn't below it
  pub stops_place : (d : ℕ × ℕ) → place < length docs → d ≡ get_or docs place d → target ≤ d.1 → drop place (entries_of docs) ≡ from_doc target (drop from (entries_of docs))
  stops_place d inside is high =
      let at = doc_place docs place d inside is in
      sym (from_doc_here target (drop place (entries_of docs)) (IsAscending_drop place (entries_of docs) up) (omega (arith, at, high))) ∙ same

  -- at the end
  pub ends_place : length docs ≤ place → drop place (entries_of docs) ≡ from_doc target (drop from (entries_of docs))
  ends_place over = let none = entries_over docs place over in none ∙ sym (ap (from_doc target) none) ∙ same

-- what a document scores that isn't after the one at a place
pub score_place : (docs : List (ℕ × ℕ)) (i : ℕ) (d : ℕ × ℕ) → i < length docs → d ≡ get_or docs i d → Some d.0 ≡ score_by_entries (drop i (entries_of docs)) d.1
score_place docs i d inside is = sym (ap (λ (es : List Entry). score_by_entries es d.1) (entry_place docs i d inside is) ∙ ap (option_map (λ (e : Entry). e.term_freq)) (entry_here (counted d.1 d.0) (drop (suc i) (entries_of docs))))

pub none_place : (docs : List (ℕ × ℕ)) (i doc : ℕ) (d : ℕ × ℕ) → IsAscending (entries_of docs) → doc ≤ doc_at (drop i (entries_of docs)) → i < length docs → d ≡ get_or docs i d → (d.1 ≡ doc → ⊥) → None ≡ score_by_entries (drop i (entries_of docs)) doc
none_place docs i doc d up low inside is other = sym (ap (option_map (λ (e : Entry). e.term_freq)) (none_below doc (drop i (entries_of docs)) (IsAscending_drop i (entries_of docs) up) strict))
  where
    strict : doc < doc_at (drop i (entries_of docs))
    strict =
        let at = doc_place docs i d inside is in
        elim (cases_lt doc d.1) [
          | inl less ↦ omega (arith, at, less)
          | inr above ↦ absurd (other (omega (arith, at, low, above)))
        ]
