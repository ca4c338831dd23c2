-- Laws of the bounds of runs.
use Rattle.std.proofs.Common.{◌≡◌, ◌∙◌, ℕ, ◌+◌, ◌-◌, ◌*◌, ◌/◌, ◌^◌, ◌<◌, ◌≤◌, Bool, true, false, inl, inr, List, [], ◌∷◌, ◌++◌, Option, Some, drop, get_or, length, max, min, nat_eq, refl, sym, ap, subst, arith}
use Rattle.std.proofs.Common.{append-nil}
use Rattle.std.proofs.lemmas.Bool.{cases_lt, eq-eqb, le-ltb, lt-ltb}
use Rattle.std.proofs.lemmas.List.{append_assoc, at_drop_more, drop_all}
use Rattle.ii_base.specs.Entries.{Entry}
use Rattle.ii_base.specs.declared.doc_id.TheConstants.{TERMINATED}
use Rattle.ii_bm25.specs.Bm25.{Bm25State}
use Rattle.ii_docset.specs.Cursor.{IsAscending, doc_at}
use Rattle.ii_docset.specs.Intersection.{has_doc}
use Rattle.ii_docset.proofs.CursorLemmas.{nothing_left}
use Rattle.ii_fieldnorm.specs.Readers.{Norms}
use Rattle.ii_block_shares.specs.BlockShares.{AreBounds, EndWithDocs, IsPlace, IsRunBound, IsWithin, TakesRun, bound_at, last_end, most_within, share_bound, share_of}
use Rattle.ii_block_shares.specs.declared.block_shares.BlockShare.{BlockShare}

-- the bound of a document of the first run, and that of a later one
pub bound_here : (b : BlockShare) (bs : List BlockShare) (doc : ℕ) → doc < b.end → bound_at (b ∷ bs) doc ≡ Some (share_bound b.share)
bound_here b bs doc before = rw (lt-ltb doc b.end before) refl

pub bound_later : (b : BlockShare) (bs : List BlockShare) (doc : ℕ) → b.end ≤ doc → bound_at (b ∷ bs) doc ≡ bound_at bs doc
bound_later b bs doc after = rw (le-ltb doc b.end after) refl

-- the run at a place
module _ (blocks : List BlockShare) (b : BlockShare) (place doc : ℕ) (inside : place < length blocks) (is : b ≡ get_or blocks place b) (from : IsPlace blocks place doc) where
  at_place : (d : ℕ) → doc ≤ d → bound_at blocks d ≡ bound_at (b ∷ drop (place + 1) blocks) d
  at_place d low = from d low ∙ at_drop_more (λ (bs : List BlockShare). bound_at bs d) blocks place b inside ∙ ap (λ (c : BlockShare). bound_at (c ∷ drop (place + 1) blocks) d) (sym is)

  pub in_run : (d : ℕ) → doc ≤ d → d < b.end → bound_at blocks d ≡ Some (share_bound b.share)
  in_run d low before = at_place d low ∙ bound_here b (drop (place + 1) blocks) d before

  pub next_place : IsPlace blocks (place + 1) (max doc b.end)
  next_place = λ d low. at_place d (omega (arith, low)) ∙ bound_later b (drop (place + 1) blocks) d (omega (arith, low))

  pub passes_run : (weight least target : ℕ) → (doc < b.end → (share : ℕ) → share ≤ share_bound b.share → weight * share / 2 ^ 12 < least)
      → ((d share : ℕ) → target ≤ d → d < doc → IsWithin (bound_at blocks d) share → weight * share / 2 ^ 12 < least)
      → (d share : ℕ) → target ≤ d → d < max doc b.end → IsWithin (bound_at blocks d) share → weight * share / 2 ^ 12 < least
  passes_run weight least target low passed d share from before within = elim (cases_lt d doc) [
    | inl below ↦ passed d share from below within
    | inr above ↦ here above (omega (arith, before, above))
  ]
    where
      here : doc ≤ d → d < b.end → weight * share / 2 ^ 12 < least
      here above inside = low (omega (arith, above, inside)) share (subst (λ (o : Option ℕ). IsWithin o share) (in_run d above inside) within)

-- ---- the runs of a list
module _ (w : Bm25State) (norms : Option Norms) where
  -- the current document is taken
  pub takes_one : (doc share : ℕ) (old new : List Entry) → doc ≡ doc_at old → doc < TERMINATED → new ≡ drop 1 old → ((e : Entry) (es : List Entry) → old ≡ e ∷ es → share ≡ share_of w norms e)
      → (bound : ℕ) (blocks : List BlockShare) → share ≤ bound → bound_at blocks doc ≡ Some bound → AreBounds w norms blocks new → AreBounds w norms blocks old
  takes_one doc share [] new at low is value bound blocks few here later = absurd (omega (arith, at, low))
  takes_one doc share (e ∷ es) new at low is value bound blocks few here later = (
    subst (λ (o : Option ℕ). IsWithin o (share_of w norms e)) (sym (ap (bound_at blocks) (sym at) ∙ here)) (subst (λ (n : ℕ). n ≤ bound) (value e es refl) few),
    subst (AreBounds w norms blocks) is later,
  )

  module _ (blocks pushed : List BlockShare) (b : BlockShare) (doc : ℕ) (old new : List Entry) (is : pushed ≡ blocks ++ b ∷ []) (at : doc ≡ doc_at old) (t : TakesRun w norms old new b) (past : (d : ℕ) (more : List BlockShare) → doc ≤ d → bound_at (blocks ++ more) d ≡ bound_at more d) where
    pushed_more : (more : List BlockShare) → pushed ++ more ≡ blocks ++ b ∷ more
    pushed_more more = ap (λ (bs : List BlockShare). bs ++ more) is ∙ append_assoc blocks (b ∷ []) more

    -- one run more
    pub next_each : (all : List Entry) → ((more : List BlockShare) → AreBounds w norms (blocks ++ more) old → AreBounds w norms (blocks ++ more) all) → (more : List BlockShare) → AreBounds w norms (pushed ++ more) new → AreBounds w norms (pushed ++ more) all
    next_each all each more left =
        subst (λ (bs : List BlockShare). AreBounds w norms bs all) (sym (pushed_more more))
        (each (b ∷ more) (t.each (blocks ++ b ∷ more) (λ d low before. past d (b ∷ more) (omega (arith, at, low)) ∙ bound_here b more d before) (subst (λ (bs : List BlockShare). AreBounds w norms bs new) (pushed_more more) left)))

    pub next_past : (d : ℕ) (more : List BlockShare) → doc_at new ≤ d → bound_at (pushed ++ more) d ≡ bound_at more d
    next_past d more low =
        let ahead = t.ahead in
        let up = t.up_to in
        ap (λ (bs : List BlockShare). bound_at bs d) (pushed_more more) ∙ past d (b ∷ more) (omega (arith, at, ahead, up, low)) ∙ bound_later b more d (omega (arith, up, low))

  -- no document is left
  pub all_taken : (blocks : List BlockShare) (all rest : List Entry) → IsAscending rest → TERMINATED ≤ doc_at rest → ((more : List BlockShare) → AreBounds w norms (blocks ++ more) rest → AreBounds w norms (blocks ++ more) all) → AreBounds w norms blocks all
  all_taken blocks all rest up end each = subst (λ (bs : List BlockShare). AreBounds w norms bs all) (append-nil blocks) (each [] (subst (AreBounds w norms (blocks ++ [])) (nothing_left rest up end) tt))

-- the next document comes later
pub ascends : (es : List Entry) → IsAscending es → doc_at es < TERMINATED → doc_at es < doc_at (drop 1 es)
ascends [] up low = absurd (omega arith)
ascends (e ∷ es) up low = up.0

-- one before one more
pub less_one : (n : ℕ) → n ≡ n + 1 - 1
less_one n = omega arith

-- a list has its first document, and those of the rest
pub has_first : (doc : ℕ) (es : List Entry) → doc ≡ doc_at es → doc < TERMINATED → has_doc es doc ≡ true
has_first doc [] at low = absurd (omega (arith, at, low))
has_first doc (e ∷ es) at low = rw (eq-eqb e.doc doc (sym at)) refl

pub has_later : (doc : ℕ) (old new : List Entry) → new ≡ drop 1 old → has_doc new doc ≡ true → has_doc old doc ≡ true
has_later doc [] new is has = sym (ap (λ (es : List Entry). has_doc es doc) is) ∙ has
has_later doc (e ∷ es) new is has = by (nat_eq e.doc doc) refl (sym (ap (λ (row : List Entry). has_doc row doc) is) ∙ has)
  where
    by : (t : Bool) → nat_eq e.doc doc ≡ t → has_doc es doc ≡ true → has_doc (e ∷ es) doc ≡ true
    by true test later = rw test refl
    by false test later = rw test later

-- one run more ends with a document of a list
pub ends_with : (blocks pushed : List BlockShare) (b : BlockShare) (all : List Entry) → pushed ≡ blocks ++ b ∷ [] → EndWithDocs blocks all → has_doc all (b.end - 1) ≡ true → EndWithDocs pushed all
ends_with blocks pushed b all is ends last = subst (λ (bs : List BlockShare). EndWithDocs bs all) (sym is) (more blocks ends)
  where
    more : (bs : List BlockShare) → EndWithDocs bs all → EndWithDocs (bs ++ b ∷ []) all
    more [] each = (last, tt)
    more (c ∷ cs) each = (each.0, more cs each.1)

-- a bound of the documents of a run from a target on
pub run_bounds : (blocks : List BlockShare) (run : BlockShare) (place target weight most end : ℕ) → place < length blocks → run ≡ get_or blocks place run → IsPlace blocks place target → target < run.end → target < TERMINATED → most < 2 ^ 64 → most ≡ weight * share_bound run.share / 2 ^ 12 → end ≡ min run.end TERMINATED
    → ((share : ℕ) → share ≤ share_bound run.share → weight * share / 2 ^ 12 ≤ most) → IsRunBound blocks weight target (record { most = most; end = end })
run_bounds blocks run place target weight most end inside is from ahead low few most_is end_is up = record {
  ahead = omega (arith, ahead, low, end_is);
  up_to = omega (arith, end_is);
  fits = few;
  each = λ d share above before within. up share (subst (λ (o : Option ℕ). IsWithin o share) (in_run blocks run place target inside is from d above (omega (arith, before, end_is))) within);
  exact = λ d above before. subst (λ (o : Option ℕ). most ≤ most_within weight o) (sym (in_run blocks run place target inside is from d above (omega (arith, before, end_is)))) (omega (arith, most_is));
}

-- no run is left
pub no_run : (blocks : List BlockShare) (place target weight : ℕ) → length blocks ≤ place → IsPlace blocks place target → target < TERMINATED → IsRunBound blocks weight target (record { most = 0; end = TERMINATED })
no_run blocks place target weight past from low = record {
  ahead = low;
  up_to = omega arith;
  fits = omega arith;
  each = λ d share above before within. absurd (subst (λ (o : Option ℕ). IsWithin o share) (from d above ∙ ap (λ (bs : List BlockShare). bound_at bs d) (drop_all place blocks past)) within);
  exact = λ d above before. omega arith;
}

-- the end of one run more
pub last_more : (blocks : List BlockShare) (b : BlockShare) → last_end (blocks ++ b ∷ []) ≡ max (last_end blocks) b.end
last_more [] b = omega arith
last_more (c ∷ cs) b = omega (arith, last_more cs b)
