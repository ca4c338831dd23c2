-- The entry of a document in grouped tokens.
use Rattle.std.proofs.Common.{◌≡◌, ◌≢◌, ◌∙◌, ℕ, ◌+◌, ◌<◌, ◌≤◌, inl, inr, Bool, true, false, List, [], ◌∷◌, Option, None, Some, filter, map, nat_eq, nat_lt, refl, sym, ap, arith}
use Rattle.std.proofs.lemmas.Bool.{eqb-true, ltb-false, ltb-true, ne_eqb}
use Rattle.std.proofs.lemmas.Bool.Decides.{eqb_tells}
use Rattle.ii_base.specs.Entries.{Entry}
use Rattle.ii_definitions.specs.Postings.{entry_of, grouped, with_token}
use Rattle.ii_definitions.specs.Tokens.{IndexToken}
use Rattle.ii_segments.proofs.OrderLemmas.{Ascend}
use Rattle.ii_ranking.specs.Scores.{entry_at}

-- the positions of a document's entry
abbrev pub positions_of : Option Entry → List ℕ
positions_of None = []
positions_of (Some e) = e.positions

-- the positions of the tokens of a document
abbrev pub token_positions : ℕ → List IndexToken → List ℕ
token_positions doc ts = map (λ (t : IndexToken). t.position) (filter (λ (t : IndexToken). nat_eq t.doc doc) ts)

-- Documents ascend strictly, from a number on.
abbrev pub AscendFrom : ℕ → List Entry → Type 0
AscendFrom least [] = Unit {0}
AscendFrom least (e ∷ es) = (least ≤ e.doc) × AscendFrom (e.doc + 1) es

-- a document below all entries has none
none_in : (doc least : ℕ) (es : List Entry) → AscendFrom least es → doc < least → entry_at es doc ≡ None
none_in doc least [] up low = refl
none_in doc least (e ∷ es) up low =
    let first = up.0 in
    rw (ne_eqb e.doc doc (λ same. omega (arith, first, same, low))) (none_in doc (e.doc + 1) es up.1 (omega (arith, first, low)))

-- the document of an entry in front
above : (t : IndexToken) (e : Entry) → t.doc ≤ e.doc → e.doc ≢ t.doc → t.doc + 1 ≤ e.doc
above t e first other = at (nat_lt t.doc e.doc) refl
  where
    at : (b : Bool) → nat_lt t.doc e.doc ≡ b → t.doc + 1 ≤ e.doc
    at true low = let low = ltb-true t.doc e.doc low in omega (arith, low)
    at false high = let high = ltb-false t.doc e.doc high in absurd (other (omega (arith, high, first)))

module _ (t : IndexToken) (ts : List IndexToken) where
  alone : (doc : ℕ) → [] ≡ token_positions doc ts → (b : Bool) → nat_eq t.doc doc ≡ b → positions_of (entry_at (entry_of t ∷ []) doc) ≡ token_positions doc (t ∷ ts)
  alone doc none true is = rw is (ap (λ (ps : List ℕ). t.position ∷ ps) none)
  alone doc none false is = rw is none

  merged : (doc : ℕ) (e : Entry) (es : List Entry) → e.doc ≡ t.doc → positions_of (entry_at (e ∷ es) doc) ≡ token_positions doc ts → (b : Bool) → nat_eq t.doc doc ≡ b
      → positions_of (entry_at (record { doc = e.doc; term_freq = e.term_freq + 1; positions = t.position ∷ e.positions } ∷ es) doc) ≡ token_positions doc (t ∷ ts)
  merged doc e es same later true is =
      let here : nat_eq e.doc doc ≡ true = ap (λ (d : ℕ). nat_eq d doc) same ∙ is in
      rw (here, is) (ap (λ (ps : List ℕ). t.position ∷ ps) (rw here at later))
  merged doc e es same later false is =
      let here : nat_eq e.doc doc ≡ false = ap (λ (d : ℕ). nat_eq d doc) same ∙ is in
      rw (here, is) (rw here at later)

  in_front : (doc : ℕ) (es : List Entry) → AscendFrom (t.doc + 1) es → positions_of (entry_at es doc) ≡ token_positions doc ts → (b : Bool) → nat_eq t.doc doc ≡ b
      → positions_of (entry_at (entry_of t ∷ es) doc) ≡ token_positions doc (t ∷ ts)
  in_front doc es up later true is =
      let here : t.doc ≡ doc = eqb-true t.doc doc is in
      rw is (ap (λ (ps : List ℕ). t.position ∷ ps) (sym (ap positions_of (none_in doc (t.doc + 1) es up (omega (arith, here)))) ∙ later))
  in_front doc es up later false is = rw is later

  step : (es : List Entry) → AscendFrom t.doc es → ((doc : ℕ) → positions_of (entry_at es doc) ≡ token_positions doc ts) → (doc : ℕ) → positions_of (entry_at (with_token t es) doc) ≡ token_positions doc (t ∷ ts)
  step [] up later doc = alone doc (later doc) (nat_eq t.doc doc) refl
  step (e ∷ es) up later doc = elim (eqb_tells e.doc t.doc) [
    | inl h ↦ rw (h.0) (merged doc e es h.1 (later doc) (nat_eq t.doc doc) refl)
    | inr h ↦ rw (h.0) (in_front doc (e ∷ es) (above t e up.0 h.1, up.1) (later doc) (nat_eq t.doc doc) refl)
  ]

  with_ascends : (least : ℕ) (es : List Entry) → least ≤ t.doc → AscendFrom t.doc es → AscendFrom least (with_token t es)
  with_ascends least [] within up = (within, tt)
  with_ascends least (e ∷ es) within up = elim (eqb_tells e.doc t.doc) [
    | inl h ↦ rw (h.0) (let first = up.0 in (omega (arith, within, first), up.1))
    | inr h ↦ rw (h.0) (within, (above t e up.0 h.1, up.1))
  ]

-- the entries of tokens in order ascend
pub grouped_ascend : (least : ℕ) (ts : List IndexToken) → Ascend least ts → AscendFrom least (grouped ts)
grouped_ascend least [] up = tt
grouped_ascend least (t ∷ ts) up = with_ascends t ts least (grouped ts) up.0 (grouped_ascend t.doc ts up.1)

-- the positions of a document's entry are those of its tokens, in their order
pub positions_at : (least : ℕ) (ts : List IndexToken) → Ascend least ts → (doc : ℕ) → positions_of (entry_at (grouped ts) doc) ≡ token_positions doc ts
positions_at least [] up doc = refl
positions_at least (t ∷ ts) up doc = step t ts (grouped ts) (grouped_ascend t.doc ts up.1) (positions_at t.doc ts up.1) doc
