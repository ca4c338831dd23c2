-- The leader of a conjunction of two terms.
use Rattle.std.proofs.Common.{◌≡◌, ℕ, ◌⊎◌, inl, inr, ◌∙◌, ◌++◌, ◌≤◌, min, take, List, [], ◌∷◌, length, refl, sym, ap, subst, arith}
use Rattle.std.specs.Prelude.{IfOk, IsPermutation, Result, Ok, Err, map}
use Rattle.std.specs.List.{AllZip}
use Rattle.std.proofs.lemmas.List.Sorted.{IsPermutation-sym, length_permutation}
use Rattle.ii_io.specs.declared.faults.Fault.{Fault}
use Rattle.ii_query.specs.Combined.{QueryCursorState}
use Rattle.ii_query.specs.QueryCursor.{LeadsWith, cursors_under}
use Rattle.ii_query.proofs.MeetLemmas.{each_permuted}
use Rattle.ii_reader.specs.SegmentPostings.{SegmentPostingsState, WentLazily}

-- A cursor over a term hints at the term's number of documents.
pub record HintsAtOne (c : QueryCursorState SegmentPostingsState) : Type 0 where
  pub cursor : SegmentPostingsState
  pub one : c.cursors ≡ cursor ∷ []
  pub hint : c.hint ≡ cursor.doc_freq

-- the least hint of two
least_of_two : (x y : QueryCursorState SegmentPostingsState) (c : QueryCursorState SegmentPostingsState) (cs : List (QueryCursorState SegmentPostingsState)) (hint : ℕ) → IsPermutation (x ∷ y ∷ []) (c ∷ cs) → LeadsWith hint (c ∷ cs) → hint ≡ min x.hint y.hint
least_of_two x y c cs hint shuffled leads =
    let low = each_permuted (λ (d : QueryCursorState _). c.hint ≤ d.hint) (c ∷ cs) (x ∷ y ∷ []) (IsPermutation-sym (x ∷ y ∷ []) (c ∷ cs) shuffled) leads.1 in
    let one = each_permuted (λ (d : QueryCursorState _). (d.hint ≡ x.hint) ⊎ (d.hint ≡ y.hint)) (x ∷ y ∷ []) (c ∷ cs) shuffled (inl refl, (inr refl, tt)) in
    let is = leads.0 in
    let first = low.0 in
    let second = low.1.0 in
    elim (one.0) [
      | inl e ↦ omega (arith, is, first, second, e)
      | inr e ↦ omega (arith, is, first, second, e)
    ]

-- the leader comes first
leader_first : (c : QueryCursorState SegmentPostingsState) (cs : List (QueryCursorState SegmentPostingsState)) (moved : List SegmentPostingsState) → HintsAtOne c → AllZip WentLazily (cursors_under (c ∷ cs)) moved → map (λ (s : SegmentPostingsState). s.doc_freq) (take 1 moved) ≡ c.hint ∷ []
leader_first c cs [] h all = elim (subst (λ (l : List SegmentPostingsState). AllZip WentLazily (l ++ cursors_under cs) []) h.one all) [ ]
leader_first c cs (m ∷ ms) h all =
    let went = subst (λ (l : List SegmentPostingsState). AllZip WentLazily (l ++ cursors_under cs) (m ∷ ms)) h.one all in
    ap (λ (n : ℕ). n ∷ []) (went.0.doc_freq ∙ sym h.hint)

-- Two cursors over terms were joined.
pub record Joined (x y : QueryCursorState SegmentPostingsState) (cs : List (QueryCursorState SegmentPostingsState)) (a b : ℕ) : Type 0 where
  pub are : cs ≡ x ∷ y ∷ []
  pub first : HintsAtOne x
  pub other : HintsAtOne y
  pub first_hint : x.hint ≡ a
  pub other_hint : y.hint ≡ b

rarer_leads : (x y : QueryCursorState SegmentPostingsState) (cs : List (QueryCursorState SegmentPostingsState)) (a b : ℕ) (cursor : QueryCursorState SegmentPostingsState) → Joined x y cs a b
    → (order : List (QueryCursorState SegmentPostingsState)) → IsPermutation cs order → AllZip WentLazily (cursors_under order) cursor.cursors → LeadsWith cursor.hint order
    → (cursor.hint ≡ min a b) × (map (λ (s : SegmentPostingsState). s.doc_freq) (take 1 cursor.cursors) ≡ min a b ∷ [])
rarer_leads x y cs a b cursor j [] shuffled went leads = absurd (let many = length_permutation cs [] shuffled in let long = ap length j.are in omega (arith, many, long))
rarer_leads x y cs a b cursor j (c ∷ order) shuffled went leads =
    let two_of : IsPermutation (x ∷ y ∷ []) (c ∷ order) = subst (λ (l : List (QueryCursorState SegmentPostingsState)). IsPermutation l (c ∷ order)) j.are shuffled in
    let least = least_of_two x y c order cursor.hint two_of leads in
    let one = j.first_hint in
    let two = j.other_hint in
    let told : cursor.hint ≡ min a b = omega (arith, least, one, two) in
    let h = (each_permuted HintsAtOne (x ∷ y ∷ []) (c ∷ order) two_of (j.first, (j.other, tt))).0 in
    (told, leader_first c order cursor.cursors h went ∙ ap (λ (n : ℕ). n ∷ []) (sym leads.0 ∙ told))

pub rarer_hint : (x y : QueryCursorState SegmentPostingsState) (cs : List (QueryCursorState SegmentPostingsState)) (a b : ℕ) (r : Result (QueryCursorState SegmentPostingsState) Fault) → Joined x y cs a b
    → IfOk r (λ cursor. (order : List (QueryCursorState SegmentPostingsState)) × IsPermutation cs order × AllZip WentLazily (cursors_under order) cursor.cursors × LeadsWith cursor.hint order) → IfOk r (λ cursor. cursor.hint ≡ min a b)
rarer_hint x y cs a b (Err fault) j work = tt
rarer_hint x y cs a b (Ok cursor) j (order, shuffled, went, leads) = (rarer_leads x y cs a b cursor j order shuffled went leads).0

pub rarer_first : (x y : QueryCursorState SegmentPostingsState) (cs : List (QueryCursorState SegmentPostingsState)) (a b : ℕ) (r : Result (QueryCursorState SegmentPostingsState) Fault) → Joined x y cs a b
    → IfOk r (λ cursor. (order : List (QueryCursorState SegmentPostingsState)) × IsPermutation cs order × AllZip WentLazily (cursors_under order) cursor.cursors × LeadsWith cursor.hint order)
    → IfOk r (λ cursor. map (λ (s : SegmentPostingsState). s.doc_freq) (take 1 cursor.cursors) ≡ min a b ∷ [])
rarer_first x y cs a b (Err fault) j work = tt
rarer_first x y cs a b (Ok cursor) j (order, shuffled, went, leads) = (rarer_leads x y cs a b cursor j order shuffled went leads).1
