-- Laws of cursors that skip documents whose term frequency, or score, is too small.
use Rattle.std.proofs.Common.{◌≡◌, ◌≢◌, ◌⊎◌, ◌∙◌, ℕ, ◌+◌, ◌<◌, ◌≤◌, Bool, true, false, ◌&&◌, inl, inr, List, [], ◌∷◌, Option, None, Some, max, nat_le, nat_lt, refl, sym, ap, subst, arith}
use Rattle.std.proofs.lemmas.Bool.{and_parts, cases_eq, cases_lt, le-leb, leb-false, leb-true, ltb-false, ltb-true, ne_eqb}
use Rattle.std.proofs.lemmas.Bool.Decides.{leb_tells}
use Rattle.ii_base.specs.Entries.{Entry}
use Rattle.ii_base.specs.declared.doc_id.TheConstants.{TERMINATED}
use Rattle.ii_bm25.specs.Bm25.{bm25_score}
use Rattle.ii_docset.specs.Cursor.{IsAscending, IsSound, doc_at, from_doc, term_freq_at}
use Rattle.ii_docset.proofs.CursorLemmas.{from_doc_here}
use Rattle.ii_docset.proofs.IntersectionLemmas.{doc_at-from_doc}
use Rattle.ii_reader.specs.Bounds.{is_wanted, sought_with_freq}
use Rattle.ii_scorer.specs.Scorers.{IsBelow}
use Rattle.ii_ranking.specs.NormIds.{id_among}
use Rattle.ii_ranking.specs.Scores.{entry_at}
use Rattle.ii_ranking.specs.TermWeights.{IsFewer, IsFreqFor, SkipsFewer, SkipsLess, TermWeightState, score_by_entry}
use Rattle.ii_ranking.proofs.EntryLemmas.{count_here, entry_here, none_below}
use Rattle.ii_ranking.proofs.ShareEntryLemmas.{entry_from}

-- without the entries below a document, those below an earlier one go too
drops_first : (doc : ℕ) (e : Entry) (es : List Entry) → e.doc < doc → from_doc doc (e ∷ es) ≡ from_doc doc es
drops_first doc e es low =
    elim (leb_tells doc e.doc) [
      | inl h ↦ absurd (omega (arith, h.1, low))
      | inr h ↦ rw h.0 refl
    ]

pub from_later : (doc later : ℕ) (es : List Entry) → doc ≤ later → from_doc later (from_doc doc es) ≡ from_doc later es
from_later doc later [] up = refl
from_later doc later (e ∷ es) up =
    elim (leb_tells doc e.doc) [
      | inl h ↦ rw h.0 (keeps (from_later doc later es up) (nat_le later e.doc) refl)
      | inr h ↦ rw h.0 (from_later doc later es up ∙ sym (drops_first later e es (omega (arith, h.1, up))))
    ]
  where
    keeps : from_doc later (from_doc doc es) ≡ from_doc later es → (t : Bool) → nat_le later e.doc ≡ t → from_doc later (e ∷ from_doc doc es) ≡ from_doc later (e ∷ es)
    keeps same true is = rw is (ap (λ (row : List Entry). e ∷ row) same)
    keeps same false is = rw is same

-- a cursor that dropped the entries below a target is at the first document that is left
first_left : (target : ℕ) (old new : List Entry) → target ≤ TERMINATED → new ≡ from_doc target old → IsAscending new → new ≡ from_doc (doc_at new) old
first_left target old new end is up =
    let low : target ≤ doc_at new = subst (λ (es : List Entry). target ≤ doc_at es) (sym is) (doc_at-from_doc target old end) in
    sym (from_doc_here (doc_at new) new up (omega arith)) ∙ ap (from_doc (doc_at new)) is ∙ from_later target (doc_at new) old low

-- ---- the entries from the first one with a term frequency on
module _ (target least : ℕ) where
  sought_up : (es : List Entry) → IsAscending es → doc_at es ≤ doc_at (sought_with_freq target least es)
  sought_up [] up = omega arith
  sought_up (e ∷ es) up = by (sought_up es up.1) (is_wanted target least e) refl
    where
      by : doc_at es ≤ doc_at (sought_with_freq target least es) → (t : Bool) → is_wanted target least e ≡ t → e.doc ≤ doc_at (sought_with_freq target least (e ∷ es))
      by later true is = rw is (omega arith)
      by later false is = rw is (let first = up.0 in omega (arith, first, later))

  sought_low : (es : List Entry) → target ≤ TERMINATED → target ≤ doc_at (sought_with_freq target least es)
  sought_low [] end = end
  sought_low (e ∷ es) end = by (sought_low es end) (is_wanted target least e) refl
    where
      by : target ≤ doc_at (sought_with_freq target least es) → (t : Bool) → is_wanted target least e ≡ t → target ≤ doc_at (sought_with_freq target least (e ∷ es))
      by later true is = rw is (let both = and_parts (nat_le target e.doc) (nat_le least e.term_freq) is in leb-true target e.doc both.0)
      by later false is = rw is later

  sought_past : (e : Entry) (es : List Entry) → is_wanted target least e ≡ false → sought_with_freq target least (e ∷ es) ≡ sought_with_freq target least es
  sought_past e es is = rw is refl

  sought_all : (e : Entry) (es : List Entry) → is_wanted target least e ≡ true → sought_with_freq target least (e ∷ es) ≡ e ∷ es
  sought_all e es is = rw is refl

  sought_first : (es : List Entry) → IsAscending es → sought_with_freq target least es ≡ from_doc (doc_at (sought_with_freq target least es)) es
  sought_first [] up = refl
  sought_first (e ∷ es) up = by (sought_first es up.1) (is_wanted target least e) refl
    where
      by : sought_with_freq target least es ≡ from_doc (doc_at (sought_with_freq target least es)) es → (t : Bool) → is_wanted target least e ≡ t → sought_with_freq target least (e ∷ es) ≡ from_doc (doc_at (sought_with_freq target least (e ∷ es))) (e ∷ es)
      by same true is =
          let all = sought_all e es is in
          all ∙ sym (from_doc_here e.doc (e ∷ es) up (omega arith)) ∙ ap (λ (fs : List Entry). from_doc (doc_at fs) (e ∷ es)) (sym all)
      by same false is =
          let first = up.0 in
          let later = sought_up es up.1 in
          let past = sought_past e es is in
          past ∙ same ∙ sym (drops_first (doc_at (sought_with_freq target least es)) e es (omega (arith, first, later))) ∙ ap (λ (fs : List Entry). from_doc (doc_at fs) (e ∷ es)) (sym past)

  sought_passes : (d : ℕ) (es : List Entry) → IsAscending es → target ≤ d → d < doc_at (sought_with_freq target least es) → IsFewer least (entry_at es d)
  sought_passes d [] up from before = tt
  sought_passes d (e ∷ es) up from before = by (sought_passes d es up.1 from) (is_wanted target least e) refl
    where
      few : target ≤ e.doc → (nat_le target e.doc && nat_le least e.term_freq) ≡ false → e.term_freq < least
      few inside is = leb-false least e.term_freq (sym (ap (λ (t : Bool). t && nat_le least e.term_freq) (le-leb target e.doc inside)) ∙ is)

      by : (d < doc_at (sought_with_freq target least es) → IsFewer least (entry_at es d)) → (t : Bool) → is_wanted target least e ≡ t → IsFewer least (entry_at (e ∷ es) d)
      by later true is = subst (IsFewer least) (sym (none_below d (e ∷ es) up (rw is at before))) tt
      by later false is = elim (cases_eq e.doc d) [
        | inl same ↦ subst (λ (doc : ℕ). IsFewer least (entry_at (e ∷ es) doc)) same (subst (IsFewer least) (sym (entry_here e es)) (few (omega (arith, from, same)) is))
        | inr other ↦ rw (ne_eqb e.doc d other) (later (rw is at before))
      ]

-- ---- a cursor that goes to a document
fewer_below : (freq d : ℕ) (es : List Entry) → IsAscending es → d < doc_at es → IsFewer freq (entry_at es d)
fewer_below freq d es up low = subst (IsFewer freq) (sym (none_below d es up low)) tt

pub skips_to : (target freq : ℕ) (old new : List Entry) → target ≤ TERMINATED → new ≡ from_doc target old → IsSound new → SkipsFewer target freq (doc_at new) old new
skips_to target freq old new end is sound = record {
  low = subst (λ (es : List Entry). target ≤ doc_at es) (sym is) (doc_at-from_doc target old end);
  current = refl;
  rest = first_left target old new end is sound.ascending;
  sound = sound;
  passed = λ d from before. subst (IsFewer freq) (ap (λ (es : List Entry). entry_at es d) is ∙ entry_from target d old from) (fewer_below freq d new sound.ascending before);
}

pub skips_to_freq : (target current from freq : ℕ) (old new : List Entry) → current ≡ doc_at old → from ≡ max target current → from ≤ TERMINATED → IsAscending old → new ≡ sought_with_freq from freq old → IsSound new → SkipsFewer target freq (doc_at new) old new
skips_to_freq target current from freq old new at is end up sought sound = record {
  low = let low = first in omega (arith, low, is);
  current = refl;
  rest = subst (λ (es : List Entry). es ≡ from_doc (doc_at es) old) (sym sought) (sought_first from freq old up);
  sound = sound;
  passed = λ d low before. by d low before (nat_lt d from) refl;
}
  where
    first : from ≤ doc_at new
    first = subst (λ (es : List Entry). from ≤ doc_at es) (sym sought) (sought_low from freq old end)

    by : (d : ℕ) → target ≤ d → d < doc_at new → (t : Bool) → nat_lt d from ≡ t → IsFewer freq (entry_at old d)
    by d low before true less = let below = ltb-true d from less in fewer_below freq d old up (omega (arith, below, low, at, is))
    by d low before false more = let above = ltb-false d from more in sought_passes from freq d old up above (subst (λ (es : List Entry). d < doc_at es) sought before)

-- ---- a cursor that goes to a score
module _ (w : TermWeightState) where
  pub fewer_scores_less : (least freq d : ℕ) (found : Option Entry) → IsFreqFor w least freq → IsFewer freq found → IsBelow least (score_by_entry w d found)
  fewer_scores_less least freq d None enough few = tt
  fewer_scores_less least freq d (Some e) enough few = enough d e.term_freq few

  pub skips_first : (target least freq doc : ℕ) (old new : List Entry) → IsFreqFor w least freq → SkipsFewer target freq doc old new → SkipsLess (score_by_entry w) target least doc old new
  skips_first target least freq doc old new enough s = record {
    low = s.low;
    current = s.current;
    rest = s.rest;
    sound = s.sound;
    passed = λ d from before. fewer_scores_less least freq d (entry_at old d) enough (s.passed d from before);
  }

  -- past a document that scores less
  pub skips_more : (target least freq doc next count score : ℕ) (old now new : List Entry) → IsFreqFor w least freq → doc < TERMINATED → count ≡ term_freq_at false now → score ≡ bm25_score w.weight (id_among w.norms doc) count → score < least
      → SkipsLess (score_by_entry w) target least doc old now → SkipsFewer (doc + 1) freq next now new → SkipsLess (score_by_entry w) target least next old new
  skips_more target least freq doc next count score old now new enough inside counted is less s t = record {
    low = let low = s.low in let up = t.low in omega (arith, low, up);
    current = t.current;
    rest = t.rest ∙ ap (from_doc next) s.rest ∙ from_later doc next old (let up = t.low in omega (arith, up));
    sound = t.sound;
    passed = λ d from before. elim (cases_lt d doc) [
      | inl low ↦ s.passed d from low
      | inr up ↦ later d up before (cases_eq d doc)
    ];
  }
    where
      same : (d : ℕ) → doc ≤ d → score_by_entry w d (entry_at now d) ≡ score_by_entry w d (entry_at old d)
      same d up = ap (score_by_entry w d) (ap (λ (es : List Entry). entry_at es d) s.rest ∙ entry_from doc d old up)

      here : IsBelow least (score_by_entry w doc (entry_at old doc))
      here = subst (IsBelow least) (sym (count_here (bm25_score w.weight (id_among w.norms doc)) doc count now s.current inside counted) ∙ same doc (omega arith)) (subst (λ (n : ℕ). n < least) is less)

      later : (d : ℕ) → doc ≤ d → d < next → (d ≡ doc) ⊎ (d ≢ doc) → IsBelow least (score_by_entry w d (entry_at old d))
      later d up before (inl is) = subst (λ (k : ℕ). IsBelow least (score_by_entry w k (entry_at old k))) (sym is) here
      later d up before (inr other) = subst (IsBelow least) (same d up) (fewer_scores_less least freq d (entry_at now d) enough (t.passed d (strict up other) before))
        where
          strict : doc ≤ d → d ≢ doc → doc + 1 ≤ d
          strict low other = elim (cases_lt doc d) [
            | inl less ↦ omega (arith, less)
            | inr above ↦ absurd (other (omega (arith, low, above)))
          ]
