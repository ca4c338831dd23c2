-- Laws of a prepared term: what its bounds pass, and its scorer.
use Rattle.std.proofs.Common.{◌≡◌, ◌≢◌, ◌⊎◌, ◌∙◌, ℕ, ◌+◌, ◌-◌, ◌*◌, ◌/◌, ◌^◌, ◌<◌, ◌≤◌, true, false, true≢false, inl, inr, List, [], ◌∷◌, Option, None, Some, max, mul-le-mul_left, refl, sym, ap, subst, arith}
use Rattle.std.proofs.lemmas.Bool.{cases_eq, cases_lt, le-leb, ne_eqb}
use Rattle.std.proofs.lemmas.Bool.Decides.{leb_tells}
use Rattle.ii_base.specs.Entries.{Entry}
use Rattle.ii_base.specs.declared.doc_id.TheConstants.{TERMINATED}
use Rattle.ii_block_shares.specs.BlockShares.{AreBounds, EndWithDocs, IsFirstReaching, IsRunBound, IsWithin, MayReach, bound_at, last_end, most_within, share_of}
use Rattle.ii_block_shares.specs.NormIds as shares
use Rattle.ii_block_shares.specs.declared.block_shares.BlockShare.{BlockShare}
use Rattle.ii_block_shares.specs.declared.share_reader.RunBound.{RunBound}
use Rattle.ii_block_shares.proofs.RunLemmas.{bound_later}
use Rattle.ii_bm25.specs.Bm25.{Bm25State, bm25_score}
use Rattle.ii_docset.specs.Cursor.{IsAscending, IsSound, doc_at, from_doc, term_freq_at}
use Rattle.ii_docset.specs.Intersection.{has_doc}
use Rattle.ii_docset.proofs.CursorLemmas.{doc_below, from_doc_here}
use Rattle.ii_docset.proofs.IntersectionLemmas.{doc_at-from_doc, has_doc-from_doc}
use Rattle.ii_fieldnorm.specs.Readers.{Norms}
use Rattle.ii_reader.specs.SegmentPostings.{SegmentPostingsState}
use Rattle.ii_scorer.specs.Scorers.{IsBelow, IsBoundUntil, IsBounded, IsNext, IsPassed, IsUpTo, KeepsFrom, doc_bound, if_at_least, score_of}
use Rattle.ii_scorer.specs.declared.scorer.ScoreBound.{ScoreBound}
use Rattle.ii_scorer.proofs.BoundLemmas.{row_within}
use Rattle.ii_scorer.proofs.PartsLemmas.{row_alike, row_end, row_holds, row_is, row_next, row_score}
use Rattle.ii_scorer.proofs.ScorerLemmas.{below_none}
use Rattle.ii_ranking.specs.NormIds.{id_among}
use Rattle.ii_ranking.specs.Scores.{entry_at}
use Rattle.ii_ranking.specs.TermWeights.{TermWeightState, score_by_entry}
use Rattle.ii_ranking.proofs.EntryLemmas.{count_here, entry_here, none_below}
use Rattle.ii_ranking.proofs.LeafLemmas.{IsRow, entry_passed, entry_row, entry_up_to, row_ends}
use Rattle.ii_ranking.proofs.ShareEntryLemmas.{entry_from}
use Rattle.ii_ranking.proofs.SkipLemmas.{from_later}
use Rattle.ii_prepared_term.specs.PreparedScorers.{PreparedScorerState, prepared_state, remaining_term}
use Rattle.ii_prepared_term.specs.PreparedTerms.{EndAhead, GoesTo, GoesToScore, IsPrepared, PreparedTermState, prepared_bound, prepared_score}

-- the state of a term, by its parts
abbrev pub state_of : Bm25State → Option Norms → List BlockShare → SegmentPostingsState → PreparedTermState
state_of weight norms blocks cursor = record { by = record { weight = weight; norms = norms }; shares = blocks; cursor = cursor }

-- ---- the documents that are left
bounds_later : (w : TermWeightState) (blocks : List BlockShare) (from : ℕ) (es : List Entry) → AreBounds w.weight w.norms blocks es → AreBounds w.weight w.norms blocks (from_doc from es)
bounds_later w blocks from [] all = tt
bounds_later w blocks from (e ∷ es) all =
    elim (leb_tells from e.doc) [
      | inl h ↦ rw h.0 (keeps (bounds_later w blocks from es all.1))
      | inr h ↦ rw h.0 (bounds_later w blocks from es all.1)
    ]
  where
    keeps : AreBounds w.weight w.norms blocks (from_doc from es) → AreBounds w.weight w.norms blocks (e ∷ from_doc from es)
    keeps later = (all.0, later)

-- the first document that is left isn't an earlier one
pub first_up : (from : ℕ) (es : List Entry) → IsAscending es → doc_at es ≤ doc_at (from_doc from es)
first_up from [] up = omega arith
first_up from (e ∷ es) up =
    elim (leb_tells from e.doc) [
      | inl h ↦ rw h.0 (omega arith)
      | inr h ↦ rw h.0 (let first = up.0 in let later = first_up from es up.1 in omega (arith, first, later))
    ]

ends_later : (runs : List BlockShare) (from : ℕ) (es : List Entry) → IsAscending es → from ≤ TERMINATED → EndAhead runs es → EndAhead runs (from_doc from es)
ends_later [] from es up end each = tt
ends_later (run ∷ runs) from es up end each = (here, ends_later runs from es up end each.1)
  where
    here : doc_at (from_doc from es) < run.end → has_doc (from_doc from es) (run.end - 1) ≡ true
    here ahead =
        let later = first_up from es up in
        let low = doc_at-from_doc from es end in
        has_doc-from_doc from (run.end - 1) es (omega (arith, low, ahead)) ∙ each.0 (omega (arith, later, ahead))

from_earlier : (doc earlier : ℕ) (es : List Entry) → earlier ≤ doc → from_doc earlier (from_doc doc es) ≡ from_doc doc es
from_earlier doc earlier [] low = refl
from_earlier doc earlier (e ∷ es) low =
    elim (leb_tells doc e.doc) [
      | inl h ↦ rw h.0 (keeps h.1 (from_earlier doc earlier es low))
      | inr h ↦ rw h.0 (from_earlier doc earlier es low)
    ]
  where
    keeps : doc ≤ e.doc → from_doc earlier (from_doc doc es) ≡ from_doc doc es → from_doc earlier (e ∷ from_doc doc es) ≡ e ∷ from_doc doc es
    keeps up same = rw (le-leb earlier e.doc (omega (arith, low, up))) (ap (λ (row : List Entry). e ∷ row) same)

from_both : (a b : ℕ) (es : List Entry) → from_doc b (from_doc a es) ≡ from_doc (max a b) es
from_both a b es = elim (cases_lt a b) [
  | inl low ↦ from_later a b es (omega (arith, low)) ∙ ap (λ (doc : ℕ). from_doc doc es) (second (omega (arith, low)))
  | inr up ↦ from_earlier a b es up ∙ ap (λ (doc : ℕ). from_doc doc es) (first up)
]
  where
    second : a ≤ b → b ≡ max a b
    second low = omega (arith, low)

    first : b ≤ a → a ≡ max a b
    first up = omega (arith, up)

from_first : (es : List Entry) → IsAscending es → es ≡ from_doc 0 es
from_first es up = sym (from_doc_here 0 es up (omega arith))

-- ---- what bounds pass
pub ids_same : (norms : Option Norms) (doc : ℕ) → shares.id_among norms doc ≡ id_among norms doc
ids_same None doc = refl
ids_same (Some norms) doc = refl

-- a document scores no more than the bound of its run
up_score : (w : TermWeightState) (blocks : List BlockShare) (most d : ℕ) (es : List Entry) → AreBounds w.weight w.norms blocks es → ((share : ℕ) → IsWithin (bound_at blocks d) share → w.weight.weight * share / 2 ^ 12 ≤ most) → IsUpTo most (score_by_entry w d (entry_at es d))
up_score w blocks most d [] all up = tt
up_score w blocks most d (e ∷ es) all up = elim (cases_eq e.doc d) [
  | inl same ↦ subst (λ (doc : ℕ). IsUpTo most (score_by_entry w doc (entry_at (e ∷ es) doc))) same (subst (λ (found : Option Entry). IsUpTo most (score_by_entry w e.doc found)) (sym (entry_here e es)) (here same))
  | inr other ↦ rw (ne_eqb e.doc d other) (up_score w blocks most d es all.1 up)
]
  where
    here : e.doc ≡ d → bm25_score w.weight (id_among w.norms e.doc) e.term_freq ≤ most
    here same = subst (λ (id : ℕ). bm25_score w.weight id e.term_freq ≤ most) (ids_same w.norms e.doc) (up (share_of w.weight w.norms e) (subst (λ (doc : ℕ). IsWithin (bound_at blocks doc) (share_of w.weight w.norms e)) same all.0))

module _ (w : TermWeightState) (blocks : List BlockShare) (least : ℕ) where
  -- a document whose bound is too small scores less
  low_score : (d : ℕ) (es : List Entry) → AreBounds w.weight w.norms blocks es → ((share : ℕ) → IsWithin (bound_at blocks d) share → w.weight.weight * share / 2 ^ 12 < least) → IsBelow least (score_by_entry w d (entry_at es d))
  low_score d [] all low = tt
  low_score d (e ∷ es) all low = elim (cases_eq e.doc d) [
    | inl same ↦ subst (λ (doc : ℕ). IsBelow least (score_by_entry w doc (entry_at (e ∷ es) doc))) same (subst (λ (found : Option Entry). IsBelow least (score_by_entry w e.doc found)) (sym (entry_here e es)) (here same))
    | inr other ↦ rw (ne_eqb e.doc d other) (low_score d es all.1 low)
  ]
    where
      here : e.doc ≡ d → bm25_score w.weight (id_among w.norms e.doc) e.term_freq < least
      here same = subst (λ (id : ℕ). bm25_score w.weight id e.term_freq < least) (ids_same w.norms e.doc) (low (share_of w.weight w.norms e) (subst (λ (doc : ℕ). IsWithin (bound_at blocks doc) (share_of w.weight w.norms e)) same all.0))

  module _ (target first : ℕ) (old : List Entry) (sound : IsSound old) (all : AreBounds w.weight w.norms blocks old) (f : IsFirstReaching blocks w.weight.weight least target first) where
    pub passed_by : (d : ℕ) → target ≤ d → d < first → IsBelow least (score_by_entry w d (entry_at old d))
    passed_by d from before = low_score d old all (λ share within. f.passed d share from before within)

    -- no document may score enough
    pub stays : first ≤ TERMINATED → TERMINATED ≤ first → GoesToScore (score_by_entry w) target least first old old
    stays up_to end = record {
      low = f.low;
      up_to = up_to;
      current = λ low. absurd (omega (arith, low, end));
      dropped = 0;
      kept = omega arith;
      rest = from_first old sound.ascending;
      sound = sound;
      passed = passed_by;
    }

    -- a cursor goes to one that may
    pub goes : (doc : ℕ) (new : List Entry) → GoesTo first doc old new → GoesToScore (score_by_entry w) target least doc old new
    goes doc new g = record {
      low = let low = f.low in let up = g.low in omega (arith, low, up);
      up_to = g.up_to;
      current = g.current;
      dropped = g.dropped;
      kept = let kept = g.kept in let up = g.low in omega (arith, kept, up);
      rest = g.rest;
      sound = g.sound;
      passed = λ d from before. elim (cases_lt d first) [
        | inl low ↦ passed_by d from low
        | inr up ↦ below_none least (score_by_entry w d (entry_at old d)) (ap (score_by_entry w d) (g.passed d up before))
      ];
    }

  -- past a document that scores less
  pub goes_on : (target doc next count score : ℕ) (old now new : List Entry) → doc < TERMINATED → count ≡ term_freq_at false now → score ≡ bm25_score w.weight (id_among w.norms doc) count → score < least
      → GoesToScore (score_by_entry w) target least doc old now → GoesToScore (score_by_entry w) (doc + 1) least next now new → GoesToScore (score_by_entry w) target least next old new
  goes_on target doc next count score old now new inside counted is less s t = record {
    low = let low = s.low in let up = t.low in omega (arith, low, up);
    up_to = t.up_to;
    current = t.current;
    dropped = max s.dropped t.dropped;
    kept = let low = s.kept in let up = t.kept in let more = t.low in omega (arith, low, up, more);
    rest = t.rest ∙ ap (from_doc t.dropped) s.rest ∙ from_both s.dropped t.dropped old;
    sound = t.sound;
    passed = λ d from before. elim (cases_lt d doc) [
      | inl low ↦ s.passed d from low
      | inr up ↦ later d up before (cases_eq d doc)
    ];
  }
    where
      same : (d : ℕ) → doc ≤ d → score_by_entry w d (entry_at now d) ≡ score_by_entry w d (entry_at old d)
      same d up = ap (score_by_entry w d) (ap (λ (es : List Entry). entry_at es d) s.rest ∙ entry_from s.dropped d old (let low = s.kept in omega (arith, low, up)))

      here : IsBelow least (score_by_entry w doc (entry_at old doc))
      here = subst (IsBelow least) (sym (count_here (bm25_score w.weight (id_among w.norms doc)) doc count now (s.current inside) inside counted) ∙ same doc (omega arith)) (subst (λ (n : ℕ). n < least) is less)

      later : (d : ℕ) → doc ≤ d → d < next → (d ≡ doc) ⊎ (d ≢ doc) → IsBelow least (score_by_entry w d (entry_at old d))
      later d up before (inl is) = subst (λ (k : ℕ). IsBelow least (score_by_entry w k (entry_at old k))) (sym is) here
      later d up before (inr other) = subst (IsBelow least) (same d up) (t.passed d (strict up other) before)
        where
          strict : doc ≤ d → d ≢ doc → doc + 1 ≤ d
          strict low other = elim (cases_lt doc d) [
            | inl less ↦ omega (arith, less)
            | inr above ↦ absurd (other (omega (arith, low, above)))
          ]

-- ---- a cursor goes to the first document from a target on
-- it is there, or after it
pub goes_nowhere : (target : ℕ) (es : List Entry) → IsSound es → target ≤ doc_at es → GoesTo target (doc_at es) es es
goes_nowhere target es sound low = record {
  low = low;
  up_to = doc_below es sound.ascending;
  current = λ inside. refl;
  dropped = 0;
  kept = omega arith;
  rest = from_first es sound.ascending;
  sound = sound;
  passed = λ d from before. none_below d es sound.ascending before;
}

-- there is none: all runs end before it
bound_past : (runs : List BlockShare) (d : ℕ) → last_end runs ≤ d → bound_at runs d ≡ None
bound_past [] d past = refl
bound_past (run ∷ runs) d past = bound_later run runs d (omega (arith, past)) ∙ bound_past runs d (omega (arith, past))

no_entry_past : (w : TermWeightState) (runs : List BlockShare) (d : ℕ) (es : List Entry) → AreBounds w.weight w.norms runs es → bound_at runs d ≡ None → entry_at es d ≡ None
no_entry_past w runs d [] all none = refl
no_entry_past w runs d (e ∷ es) all none = elim (cases_eq e.doc d) [
  | inl same ↦ absurd (subst (λ (bound : Option ℕ). IsWithin bound (share_of w.weight w.norms e)) (ap (bound_at runs) same ∙ none) all.0)
  | inr other ↦ rw (ne_eqb e.doc d other) (no_entry_past w runs d es all.1 none)
]

pub goes_past : (s : PreparedTermState) (target : ℕ) → IsPrepared s → target ≤ TERMINATED → last_end s.shares ≤ target → GoesTo target TERMINATED s.cursor.rest s.cursor.rest
goes_past s target is up_to past = record {
  low = up_to;
  up_to = omega arith;
  current = λ low. absurd (omega (arith, low));
  dropped = 0;
  kept = omega arith;
  rest = from_first s.cursor.rest is.sound.ascending;
  sound = is.sound;
  passed = λ d from before. no_entry_past s.by s.shares d s.cursor.rest is.bounds (bound_past s.shares d (omega (arith, past, from)));
}

-- a cursor seeks it
pub goes_there : (target doc : ℕ) (old new : List Entry) → target ≤ TERMINATED → doc ≡ doc_at new → new ≡ from_doc target old → IsSound new → GoesTo target doc old new
goes_there target doc old new up_to at is sound = record {
  low = let low : target ≤ doc_at new = subst (λ (es : List Entry). target ≤ doc_at es) (sym is) (doc_at-from_doc target old up_to) in omega (arith, at, low);
  up_to = let end = doc_below new sound.ascending in omega (arith, at, end);
  current = λ low. at;
  dropped = target;
  kept = omega arith;
  rest = is;
  sound = sound;
  passed = λ d from before. sym (entry_from target d old from) ∙ ap (λ (es : List Entry). entry_at es d) (sym is) ∙ none_below d new sound.ascending (omega (arith, at, before));
}

-- a list that has a document has a first one
has_current : (doc : ℕ) (es : List Entry) → IsAscending es → has_doc es doc ≡ true → doc_at es < TERMINATED
has_current doc [] up has = absurd (true≢false (sym has))
has_current doc (e ∷ es) up has = let first = up.0 in let low = doc_below es up.1 in omega (arith, first, low)

-- there is one: a run ends after it
pub finds_one : (runs : List BlockShare) (target : ℕ) (old new : List Entry) → EndAhead runs old → target < last_end runs → doc_at old < target → new ≡ from_doc target old → IsAscending new → doc_at new < TERMINATED
finds_one [] target old new ends inside ahead is up = absurd (omega (arith, inside))
finds_one (run ∷ runs) target old new ends inside ahead is up = elim (cases_lt target run.end) [
  | inl here ↦ has_current (run.end - 1) new up (ap (λ (es : List Entry). has_doc es (run.end - 1)) is ∙ has_doc-from_doc target (run.end - 1) old (omega (arith, here)) ∙ ends.0 (omega (arith, ahead, here)))
  | inr after ↦ finds_one runs target old new ends.1 (omega (arith, inside, after)) ahead is up
]

-- ---- bounds of what documents score
pub reaches_bound : (weight least : ℕ) (bound : Option ℕ) → MayReach weight least bound → least ≤ most_within weight bound
reaches_bound weight least None reaches = absurd reaches
reaches_bound weight least (Some bound) reaches = reaches

within_up : (weight : ℕ) (bound : Option ℕ) (share : ℕ) → IsWithin bound share → weight * share / 2 ^ 12 ≤ most_within weight bound
within_up weight None share within = absurd within
within_up weight (Some bound) share within = let up : weight * share ≤ weight * bound = mul-le-mul_left weight within in omega (arith, up)

-- a document that scores this has a bound that reaches it
pub score_reaches : (s : PreparedTermState) (doc least count score : ℕ) (now : List Entry) → AreBounds s.by.weight s.by.norms s.shares now → doc ≡ doc_at now → doc < TERMINATED → count ≡ term_freq_at false now → score ≡ bm25_score s.by.weight (id_among s.by.norms doc) count → least ≤ score → least ≤ prepared_bound s doc
score_reaches s doc least count score now all at inside counted score_is reaches =
    let here : score_by_entry s.by doc (entry_at now doc) ≡ Some (bm25_score s.by.weight (id_among s.by.norms doc) count) = count_here (bm25_score s.by.weight (id_among s.by.norms doc)) doc count now at inside counted in
    let up = subst (IsUpTo (prepared_bound s doc)) here (up_score s.by s.shares (prepared_bound s doc) doc now all (λ share within. within_up s.by.weight.weight (bound_at s.shares doc) share within)) in
    omega (arith, score_is, reaches, up)

-- ---- the scorer
pub prepared_row : (w : TermWeightState) → IsRow (λ (es : List Entry) (doc : ℕ). score_by_entry w doc (entry_at es doc))
prepared_row w = entry_row (score_by_entry w) (λ doc. refl)

pub prepared_ends : (s : PreparedTermState) → IsPrepared s → (doc : ℕ) → TERMINATED ≤ doc → prepared_score s doc ≡ None
prepared_ends s is = row_ends _ (prepared_row s.by) s.cursor.rest is.sound.ascending

-- what it scores is what a document scores by the term
pub prepared_scores : (s : PreparedScorerState) → IsPrepared (remaining_term s) → (doc : ℕ) → score_of (prepared_state s) doc ≡ prepared_score (remaining_term s) doc
prepared_scores s is = row_is (prepared_score (remaining_term s)) (prepared_score (remaining_term s)) (λ doc. refl) (prepared_ends (remaining_term s) is)

-- none scores more than the weight allows
pub prepared_bounded : (s : PreparedScorerState) (most : ℕ) → most ≡ s.term.by.weight.weight * 2 ^ 16 → most < 2 ^ 64 → ((id count : ℕ) → bm25_score s.term.by.weight id count ≤ most) → IsBounded (prepared_state s)
prepared_bounded s most is few up = record {
  fits = omega (arith, is, few);
  ends = λ doc end. row_end TERMINATED (prepared_score (remaining_term s)) doc end;
  each = λ doc. row_holds (IsUpTo (s.term.by.weight.weight * 2 ^ 16)) (prepared_score (remaining_term s)) doc tt
      (entry_up_to (λ (count : ℕ). bm25_score s.term.by.weight (id_among s.term.by.norms doc) count) (s.term.by.weight.weight * 2 ^ 16) (entry_at s.cursor.rest doc) (λ count. let here = up (id_among s.term.by.norms doc) count in omega (arith, here, is)));
}

-- the documents from a target on before the next one score less
pub passes_next : (s : PreparedScorerState) (target least next : ℕ) → IsPrepared (remaining_term s) → target ≤ next → next ≤ TERMINATED → ((d : ℕ) → target ≤ d → d < next → IsBelow least (prepared_score (remaining_term s) d)) → IsNext target least (score_of (prepared_state s)) next
passes_next s target least next is low up_to passed = row_next target least next (prepared_score (remaining_term s)) (record { low = low; up_to = up_to; passed = λ doc from gone. by doc from gone })
  where
    by : (doc : ℕ) → target ≤ doc → IsPassed next doc → IsBelow least (prepared_score (remaining_term s) doc)
    by doc from (inl before) = passed doc from before
    by doc from (inr end) = elim (cases_lt doc next) [
      | inl before ↦ passed doc from before
      | inr above ↦ below_none least (prepared_score (remaining_term s) doc) (prepared_ends (remaining_term s) is doc (omega (arith, end, above)))
    ]

pub goes_next : (s : PreparedScorerState) (target least next : ℕ) (new : List Entry) → IsPrepared (remaining_term s) → GoesTo target next s.cursor.rest new → IsNext target least (score_of (prepared_state s)) next
goes_next s target least next new is g = passes_next s target least next is g.low g.up_to (λ d from before. below_none least (prepared_score (remaining_term s) d) (ap (score_by_entry s.term.by d) (g.passed d from before)))

-- the documents that are left score the same
pub still_scores : (t : PreparedTermState) (old new : SegmentPostingsState) (dropped from : ℕ) → dropped ≤ from → new.rest ≡ from_doc dropped old.rest → KeepsFrom from (prepared_state (record { term = t; cursor = old })) (prepared_state (record { term = t; cursor = new }))
still_scores t old new dropped from kept rest = record {
  alike = λ doc up. row_alike dropped f g (λ d above. ap (score_by_entry t.by d) (ap (λ (es : List Entry). entry_at es d) rest ∙ entry_from dropped d old.rest above)) doc (omega (arith, kept, up));
  most = refl;
  depth = refl;
  bounds = refl;
  bounded = λ b. record { fits = b.fits; ends = λ doc end. row_end TERMINATED g doc end; each = λ doc. up_to b doc };
}
  where
    f : ℕ → Option ℕ
    f doc = score_by_entry t.by doc (entry_at old.rest doc)

    g : ℕ → Option ℕ
    g doc = score_by_entry t.by doc (entry_at new.rest doc)

    up_to : IsBounded (prepared_state (record { term = t; cursor = old })) → (doc : ℕ) → IsUpTo (t.by.weight.weight * 2 ^ 16) (score_of (prepared_state (record { term = t; cursor = new })) doc)
    up_to b doc = elim (cases_lt doc dropped) [
      | inl low ↦ row_holds (IsUpTo (t.by.weight.weight * 2 ^ 16)) g doc tt (subst (λ (found : Option Entry). IsUpTo (t.by.weight.weight * 2 ^ 16) (score_by_entry t.by doc found)) (sym (ap (λ (es : List Entry). entry_at es doc) rest ∙ entry_passed dropped doc old.rest low)) tt)
      | inr above ↦ subst (IsUpTo (t.by.weight.weight * 2 ^ 16)) (sym (row_alike dropped f g (λ d high. ap (score_by_entry t.by d) (ap (λ (es : List Entry). entry_at es d) rest ∙ entry_from dropped d old.rest high)) doc above)) (b.each doc)
    ]

-- a document that the list doesn't have scores nothing
pub scores_none : (s : PreparedScorerState) (doc least next : ℕ) (new : List Entry) → doc < TERMINATED → GoesTo doc next s.cursor.rest new → (next ≡ doc → ⊥) → None ≡ if_at_least least (score_of (prepared_state s) doc)
scores_none s doc least next new inside g other =
    let none : prepared_score (remaining_term s) doc ≡ None = ap (score_by_entry s.term.by doc) (g.passed doc (omega arith) (strict g.low)) in
    row_score least doc None (prepared_score (remaining_term s)) inside (sym (ap (if_at_least least) none))
  where
    strict : doc ≤ next → doc < next
    strict low = elim (cases_lt doc next) [
      | inl less ↦ less
      | inr above ↦ absurd (other (omega (arith, low, above)))
    ]

-- one that it has
pub scores_here : (s : PreparedScorerState) (doc least count score : ℕ) (new : List Entry) (given : Option ℕ) → doc < TERMINATED → GoesTo doc doc s.cursor.rest new → count ≡ term_freq_at false new → score ≡ bm25_score s.term.by.weight (id_among s.term.by.norms doc) count → given ≡ if_at_least least (Some score) → given ≡ if_at_least least (score_of (prepared_state s) doc)
scores_here s doc least count score new given inside g counted score_is is =
    let here : score_by_entry s.term.by doc (entry_at new doc) ≡ Some (bm25_score s.term.by.weight (id_among s.term.by.norms doc) count) = count_here (bm25_score s.term.by.weight (id_among s.term.by.norms doc)) doc count new (g.current inside) inside counted in
    let same : prepared_score (remaining_term s) doc ≡ Some score = sym (ap (score_by_entry s.term.by doc) (ap (λ (es : List Entry). entry_at es doc) g.rest ∙ entry_from g.dropped doc s.cursor.rest g.kept)) ∙ here ∙ ap (λ (n : ℕ). Some n) (sym score_is) in
    row_score least doc given (prepared_score (remaining_term s)) inside (is ∙ ap (if_at_least least) (sym same))

-- no document from a target on, up to the end of a run's bound, scores more
pub run_bound : (s : PreparedScorerState) (target : ℕ) (run : RunBound) (bound : ScoreBound) → IsPrepared (remaining_term s) → IsRunBound s.term.shares s.term.by.weight.weight target run → bound.most ≡ run.most → bound.end ≡ run.end → IsBoundUntil target (score_of (prepared_state s)) bound
run_bound s target run bound is b most_is end_is = record {
  ahead = let ahead = b.ahead in omega (arith, ahead, end_is);
  up_to = let up = b.up_to in omega (arith, up, end_is);
  fits = let few = b.fits in omega (arith, few, most_is);
  each = λ d from below.
      row_holds (IsUpTo bound.most) (prepared_score (remaining_term s)) d tt
      (subst (λ (n : ℕ). IsUpTo n (prepared_score (remaining_term s) d)) (sym most_is) (up_score s.term.by s.term.shares run.most d s.cursor.rest is.bounds (λ share within. b.each d share from (omega (arith, below, end_is)) within)));
}

-- a cursor over fewer documents
pub still_prepared : (s : PreparedTermState) (dropped : ℕ) (cursor : SegmentPostingsState) → IsPrepared s → dropped ≤ TERMINATED → cursor.rest ≡ from_doc dropped s.cursor.rest → IsSound cursor.rest → IsPrepared (record s { cursor = cursor })
still_prepared s dropped cursor is end rest sound = record {
  sound = sound;
  bounds = subst (AreBounds s.by.weight s.by.norms s.shares) (sym rest) (bounds_later s.by s.shares dropped s.cursor.rest is.bounds);
  ends = subst (EndAhead s.shares) (sym rest) (ends_later s.shares dropped s.cursor.rest is.sound.ascending end is.ends);
}

-- a cursor at the start of the list of which the runs were made
pub first_prepared : (s : PreparedTermState) (walked : SegmentPostingsState) → walked ≡ s.cursor → IsSound s.cursor.rest → AreBounds s.by.weight s.by.norms s.shares walked.rest → EndWithDocs s.shares walked.rest → IsPrepared s
first_prepared s walked same sound bounds ends = record {
  sound = sound;
  bounds = subst (λ (cursor : SegmentPostingsState). AreBounds s.by.weight s.by.norms s.shares cursor.rest) same bounds;
  ends = ends_ahead s.shares (subst (λ (cursor : SegmentPostingsState). EndWithDocs s.shares cursor.rest) same ends);
}
  where
    ends_ahead : (runs : List BlockShare) → EndWithDocs runs s.cursor.rest → EndAhead runs s.cursor.rest
    ends_ahead [] each = tt
    ends_ahead (run ∷ runs) each = (λ ahead. each.0, ends_ahead runs each.1)

-- ---- its bounds
pub run_within : (s : PreparedScorerState) (target : ℕ) (run : RunBound) (bound : ScoreBound) → IsRunBound s.term.shares s.term.by.weight.weight target run → bound.most ≡ run.most → bound.end ≡ run.end → (doc : ℕ) → target ≤ doc → doc < bound.end → bound.most ≤ doc_bound (prepared_state s) doc
run_within s target run bound b most_is end_is = row_within target bound.most bound.end (prepared_bound s.term) (let up = b.up_to in omega (arith, up, end_is)) (λ doc from below. subst (λ (n : ℕ). n ≤ prepared_bound s.term doc) (sym most_is) (b.exact doc from (omega (arith, below, end_is))))
