-- How many tokens the living documents have in the fields of terms, counted one field after the other.
use Rattle.std.proofs.Common.{◌≡◌, ◌∙◌, ◌⊎◌, inl, inr, ℕ, ◌+◌, ◌-◌, ◌^◌, ◌≤◌, ◌==◌, ◌&&◌, ◌||◌, Bool, true, false, List, [], ◌∷◌, ◌++◌, Option, None, Some, append-nil, append_assoc, ap, arith, if◌then◌else◌, is_some, map, min, refl, subst, sym, unwrap_or}
use Rattle.std.specs.List.{AllByRecursion, list_all}
use Rattle.std.proofs.lemmas.Bool.{eq-eqb, eqb-true}
use Rattle.std.proofs.lemmas.List.Folds.{list_any-append}
use Rattle.ii_base.specs.Terms.{TermState}
use Rattle.ii_definitions.proofs.ListLaws.{all_both}
use Rattle.ii_io.specs.declared.faults.Fault.{Fault}
use Rattle.ii_io.specs.declared.faults.Fault.TheVariants.{Damaged, OutOfMemory}
use Rattle.ii_io.specs.declared.faults.Part.{Part}
use Rattle.ii_io.specs.declared.faults.Part.TheVariants.{TokenCount}
use Rattle.ii_ranking.specs.Scores.{IsScoreFault}
use Rattle.ii_statistics.specs.Statistics.{AreSameFor, segments_statistics}
use Rattle.nequllpa_searching.specs.OpenedNumbers.{IsTotal, all_tokens, has_total, knows_tokens, open_segment, opened_statistics, tokens_damage, tokens_in, tokens_in_all, total_of, totals_of}
use Rattle.nequllpa_searching.specs.declared.field_totals.FieldTotal.{FieldTotal}
use Rattle.nequllpa_searching.specs.declared.field_totals.FieldTotals.{FieldTotals}
use Rattle.nequllpa_opening.specs.declared.opened.Opened.{Opened}
use Rattle.nequllpa_searching.proofs.RankingLemmas.{capped}

-- the damage of a number that isn't known
abbrev pub unless_known : Bool → Option Part
unless_known known = if known then None else Some TokenCount

-- why a number isn't known
pub unknown : (known : Bool) (fault : Fault) → known ≡ false → fault ≡ Damaged TokenCount → IsScoreFault (unless_known known) fault
unknown known fault is why = inr (TokenCount, why, ap unless_known is)

pub fault_unknown : (n : Option ℕ) (known : Bool) (fault : Fault) → (is_some n ≡ false → known ≡ false) → (fault ≡ OutOfMemory) ⊎ ((fault ≡ Damaged TokenCount) × (n ≡ None)) → IsScoreFault (unless_known known) fault
fault_unknown n known fault fails (inl memory) = inl memory
fault_unknown n known fault fails (inr (why, none)) = unknown known fault (fails (ap is_some none)) why

-- ---- segments
module _ (os : List Opened) (field : ℕ) where
  -- The tokens of the segments that are left are added to a sum.
  pub record IsAddingTokens (left : List Opened) (sum : ℕ) : Type 0 where
    pub few : sum ≤ 2 ^ 64 - 1
    pub whole : min (2 ^ 64 - 1) (sum + all_tokens left field) ≡ tokens_in_all os field
    pub known : knows_tokens left field ≡ knows_tokens os field

  pub tokens_first : IsAddingTokens os 0
  tokens_first = record { few = omega arith; whole = let none : 0 + all_tokens os field ≡ all_tokens os field = omega arith in ap (min (2 ^ 64 - 1)) none; known = refl }

  module _ (left rest : List Opened) (o : Opened) (at : left ≡ o ∷ rest) (sum : ℕ) (h : IsAddingTokens left sum) where
    known_at : (is_some (tokens_in o field) && knows_tokens rest field) ≡ knows_tokens os field
    known_at = sym (ap (λ (ps : List Opened). knows_tokens ps field) at) ∙ h.known

    pub tokens_next : (n new : ℕ) → tokens_in o field ≡ Some n → new ≡ min (sum + n) (2 ^ 64 - 1) → IsAddingTokens rest new
    tokens_next n new is added =
        let number : unwrap_or (tokens_in o field) 0 ≡ n = ap (λ (m : Option ℕ). unwrap_or m 0) is in
        let step = ap (λ (ps : List Opened). all_tokens ps field) at in
        let parted : all_tokens left field ≡ n + all_tokens rest field = omega (arith, number, step) in
        record {
          few = omega (arith, added);
          whole = capped sum n new (all_tokens rest field) (all_tokens left field) (tokens_in_all os field) added parted h.whole;
          known = sym (ap (λ (m : Option ℕ). is_some m && knows_tokens rest field) is) ∙ known_at;
        }

    pub tokens_refused : (fault : Fault) → (fault ≡ OutOfMemory) ⊎ ((fault ≡ Damaged TokenCount) × (tokens_in o field ≡ None)) → IsScoreFault (unless_known (knows_tokens os field)) fault
    tokens_refused fault why =
        fault_unknown (tokens_in o field) (knows_tokens os field) fault (λ none. sym known_at ∙ ap (λ (b : Bool). b && knows_tokens rest field) none) why

  module _ (left : List Opened) (none : left ≡ []) (sum : ℕ) (h : IsAddingTokens left sum) where
    pub tokens_all : sum ≡ tokens_in_all os field
    tokens_all =
        let ended = ap (λ (ps : List Opened). all_tokens ps field) none in
        let few = h.few in
        let same : sum ≡ min (2 ^ 64 - 1) (sum + all_tokens left field) = omega (arith, ended, few) in
        same ∙ h.whole

    pub tokens_known : knows_tokens os field ≡ true
    tokens_known = sym h.known ∙ ap (λ (ps : List Opened). knows_tokens ps field) none

-- ---- totals of fields
module _ (os : List Opened) where
  -- what totals tell of a field that they have
  record TellsOf (ts : List FieldTotal) (field : ℕ) : Type 0 where
    number : total_of ts field ≡ tokens_in_all os field
    known : knows_tokens os field ≡ true

  tells_of : (ts : List FieldTotal) (field : ℕ) → AllByRecursion (IsTotal os) ts → has_total ts field ≡ true → TellsOf ts field
  tells_of [] field exact has = absurd (cc)
  tells_of (t ∷ ts) field exact has = by (t.field == field) refl (λ later. tells_of ts field exact.1 later)
    where
      by : (b : Bool) → (t.field == field) ≡ b → (has_total ts field ≡ true → TellsOf ts field) → TellsOf (t ∷ ts) field
      by true is later =
          let same = eqb-true t.field field is in
          record { number = rw is (exact.0.counted ∙ ap (tokens_in_all os) same); known = ap (knows_tokens os) (sym same) ∙ exact.0.known }
      by false is later =
          let h = later (sym (ap (λ (b : Bool). b || has_total ts field) is) ∙ has) in
          record { number = rw is h.number; known = h.known }

  -- The totals of the terms that were taken are known, in front of those that are left.
  pub record IsTotalling (all left : List TermState) (totals : List FieldTotal) : Type 0 where
    pub taken : List TermState
    pub whole : taken ++ left ≡ all
    pub has : AllByRecursion (λ (t : TermState). has_total totals t.field ≡ true) taken
    pub exact : AllByRecursion (IsTotal os) totals
    pub known : list_all (λ (t : TermState). knows_tokens os t.field) left ≡ list_all (λ (t : TermState). knows_tokens os t.field) all

  pub totalling_first : (all : List TermState) (totals : List FieldTotal) → totals ≡ [] → IsTotalling all all totals
  totalling_first all totals none = record { taken = []; whole = refl; has = tt; exact = subst (AllByRecursion (IsTotal os)) (sym none) tt; known = refl }

  keep_all : (ts : List TermState) (old new : List FieldTotal) → ((field : ℕ) → has_total old field ≡ true → has_total new field ≡ true) → AllByRecursion (λ (t : TermState). has_total old t.field ≡ true) ts → AllByRecursion (λ (t : TermState). has_total new t.field ≡ true) ts
  keep_all [] old new keeps has = tt
  keep_all (t ∷ ts) old new keeps has = (keeps t.field has.0, keep_all ts old new keeps has.1)

  module _ (all left rest : List TermState) (t : TermState) (at : left ≡ t ∷ rest) (old : List FieldTotal) (h : IsTotalling all left old) where
    all_at : (knows_tokens os t.field && list_all (λ (u : TermState). knows_tokens os u.field) rest) ≡ list_all (λ (u : TermState). knows_tokens os u.field) all
    all_at = sym (ap (list_all (λ (u : TermState). knows_tokens os u.field)) at) ∙ h.known

    pub totalling_next : (new : List FieldTotal) → has_total new t.field ≡ true → ((field : ℕ) → has_total old field ≡ true → has_total new field ≡ true) → (AllByRecursion (IsTotal os) old → AllByRecursion (IsTotal os) new)
        → IsTotalling all rest new
    totalling_next new here keeps exact =
        let right = exact h.exact in
        let known = (tells_of new t.field right here).known in
        record {
          taken = h.taken ++ t ∷ [];
          whole = append_assoc h.taken (t ∷ []) rest ∙ ap (λ (ts : List TermState). h.taken ++ ts) (sym at) ∙ h.whole;
          has = all_both (λ (u : TermState). has_total new u.field ≡ true) h.taken (t ∷ []) (keep_all h.taken old new keeps h.has) (here, tt);
          exact = right;
          known = sym (ap (λ (b : Bool). b && list_all (λ (u : TermState). knows_tokens os u.field) rest) known) ∙ all_at;
        }

    pub totalling_refused : (fault : Fault) → IsScoreFault (unless_known (knows_tokens os t.field)) fault → IsScoreFault (tokens_damage os all) fault
    totalling_refused fault (inl memory) = inl memory
    totalling_refused fault (inr (part, why, damage)) = by (knows_tokens os t.field) refl damage
      where
        by : (b : Bool) → knows_tokens os t.field ≡ b → unless_known (knows_tokens os t.field) ≡ Some part → IsScoreFault (tokens_damage os all) fault
        by true is damage = absurd (let none : unless_known (knows_tokens os t.field) ≡ None = ap unless_known is in cc)
        by false is damage =
            let fails : list_all (λ (u : TermState). knows_tokens os u.field) all ≡ false = sym all_at ∙ ap (λ (b : Bool). b && list_all (λ (u : TermState). knows_tokens os u.field) rest) is in
            inr (part, why, ap unless_known fails ∙ sym (ap unless_known is) ∙ damage)

  module _ (all left : List TermState) (none : left ≡ []) (totals : List FieldTotal) (h : IsTotalling all left totals) where
    pub totals_all : AllByRecursion (λ (t : TermState). total_of totals t.field ≡ tokens_in_all os t.field) all
    totals_all = subst (AllByRecursion (λ (t : TermState). total_of totals t.field ≡ tokens_in_all os t.field)) (sym (append-nil h.taken) ∙ ap (λ (ts : List TermState). h.taken ++ ts) (sym none) ∙ h.whole) (each h.taken h.has)
      where
        each : (ts : List TermState) → AllByRecursion (λ (t : TermState). has_total totals t.field ≡ true) ts → AllByRecursion (λ (t : TermState). total_of totals t.field ≡ tokens_in_all os t.field) ts
        each [] has = tt
        each (t ∷ ts) has = ((tells_of totals t.field h.exact has.0).number, each ts has.1)

    pub totals_sound : tokens_damage os all ≡ None
    totals_sound = ap unless_known (sym h.known ∙ ap (list_all (λ (t : TermState). knows_tokens os t.field)) none)

-- ---- one total more
module _ (old new : List FieldTotal) (t : FieldTotal) (pushed : new ≡ old ++ t ∷ []) where
  has_more : (field : ℕ) → has_total new field ≡ (has_total old field || ((t.field == field) || false))
  has_more field = ap (λ (ts : List FieldTotal). has_total ts field) pushed ∙ list_any-append (λ (u : FieldTotal). u.field == field) old (t ∷ [])

  pub has_new : (field : ℕ) → t.field ≡ field → has_total new field ≡ true
  has_new field is = has_more field ∙ ap (λ (b : Bool). has_total old field || (b || false)) (eq-eqb t.field field is) ∙ or_true (has_total old field)
    where
      or_true : (b : Bool) → (b || true) ≡ true
      or_true true = refl
      or_true false = refl

  pub has_old : (field : ℕ) → has_total old field ≡ true → has_total new field ≡ true
  has_old field has = has_more field ∙ ap (λ (b : Bool). b || ((t.field == field) || false)) has

  pub exact_new : (os : List Opened) → IsTotal os t → AllByRecursion (IsTotal os) old → AllByRecursion (IsTotal os) new
  exact_new os exact all = subst (AllByRecursion (IsTotal os)) (sym pushed) (all_both (IsTotal os) old (t ∷ []) all (exact, tt))

-- ---- totals from a place on
module _ (ts rest : List FieldTotal) (t : FieldTotal) (at : ts ≡ t ∷ rest) (field : ℕ) where
  pub total_here : (all : ℕ) → (t.field == field) ≡ true → total_of ts field ≡ all → t.num_tokens ≡ all
  total_here all is whole = sym (ap (λ (us : List FieldTotal). total_of us field) at ∙ rw is refl) ∙ whole

  pub total_later : (all : ℕ) → (t.field == field) ≡ false → total_of ts field ≡ all → total_of rest field ≡ all
  total_later all is whole = sym (ap (λ (us : List FieldTotal). total_of us field) at ∙ rw is refl) ∙ whole

  pub has_here : (all : Bool) → (t.field == field) ≡ true → has_total ts field ≡ all → true ≡ all
  has_here all is whole = sym (ap (λ (us : List FieldTotal). has_total us field) at ∙ ap (λ (b : Bool). b || has_total rest field) is) ∙ whole

  pub has_later : (all : Bool) → (t.field == field) ≡ false → has_total ts field ≡ all → has_total rest field ≡ all
  has_later all is whole = sym (ap (λ (us : List FieldTotal). has_total us field) at ∙ ap (λ (b : Bool). b || has_total rest field) is) ∙ whole

-- ---- the numbers of a query's terms are exact
pub same_totals : (os : List Opened) (totals : FieldTotals) (terms : List TermState) → AllByRecursion (λ (t : TermState). totals_of totals t.field ≡ tokens_in_all os t.field) terms
    → AllByRecursion (AreSameFor (segments_statistics (totals_of totals) (map open_segment os)) (opened_statistics os)) terms
same_totals os totals [] exact = tt
same_totals os totals (t ∷ ts) exact = (record { num_tokens = exact.0; doc_freq = refl }, same_totals os totals ts exact.1)
