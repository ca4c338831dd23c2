-- How two cursors meet.
use Rattle.std.proofs.Common.{◌≡◌, ◌≢◌, ℕ, ◌-◌, ◌<◌, ◌≤◌, false, List, [], ◌∷◌, ◌++◌, drop, inl, inr, refl, sym, ap, ◌∙◌, append_assoc, arith}
use Rattle.std.proofs.lemmas.Bool.{eq-eqb, ne_eqb}
use Rattle.std.proofs.lemmas.List.{append-nil}
use Rattle.std.proofs.lemmas.Bool.Decides.{leb_tells}
use Rattle.ii_base.specs.declared.doc_id.TheConstants.{TERMINATED}
use Rattle.ii_base.specs.Entries.{Entry}
use Rattle.ii_docset.specs.Cursor.{doc_at, IsAscending, IsSound, IsTarget, from_doc}
use Rattle.ii_docset.specs.Intersection.{common_docs, has_doc}
use Rattle.ii_docset.proofs.CursorLemmas.{doc_below, nothing_left}

-- dropping documents below a target loses none from the target on
pub has_doc-from_doc : (target doc : ℕ) (es : List Entry) → target ≤ doc → has_doc (from_doc target es) doc ≡ has_doc es doc
has_doc-from_doc target doc [] up = refl
has_doc-from_doc target doc (e ∷ es) up =
    let later = has_doc-from_doc target doc es up in
    elim (leb_tells target e.doc) [
      | inl h ↦ rw (h.0, later) refl
      | inr h ↦ rw (h.0, ne_eqb e.doc doc (λ same. omega (arith, h.1, same))) later
    ]

-- a document below the first of a list isn't in it
pub has_doc_below : (doc : ℕ) (es : List Entry) → IsAscending es → doc < doc_at es → has_doc es doc ≡ false
has_doc_below doc [] ascend low = refl
has_doc_below doc (e ∷ es) ascend low =
    let first = ascend.0 in
    rw (ne_eqb e.doc doc (λ same. omega (arith, low, same))) (has_doc_below doc es ascend.1 (omega (arith, low, first)))

common-from_doc_other : (target : ℕ) (es fs : List Entry) → IsAscending es → target ≤ doc_at es → common_docs es (from_doc target fs) ≡ common_docs es fs
common-from_doc_other target [] fs ascend low = refl
common-from_doc_other target (e ∷ es) fs ascend low =
    let first = ascend.0 in
    let later = common-from_doc_other target es fs ascend.1 (omega (arith, low, first)) in
    rw (has_doc-from_doc target e.doc fs low, later) refl

common-from_doc_first : (target : ℕ) (es fs : List Entry) → IsAscending fs → target ≡ doc_at fs → common_docs (from_doc target es) fs ≡ common_docs es fs
common-from_doc_first target [] fs ascend here = refl
common-from_doc_first target (e ∷ es) fs ascend here =
    let later = common-from_doc_first target es fs ascend here in
    elim (leb_tells target e.doc) [
      | inl h ↦ rw (h.0, later) refl
      | inr h ↦ rw (h.0, has_doc_below e.doc fs ascend (omega (arith, h.1, here))) later
    ]

common-found : (es fs : List Entry) → doc_at es < TERMINATED → doc_at fs ≡ doc_at es → common_docs es fs ≡ doc_at es ∷ common_docs (drop 1 es) fs
common-found [] fs low same = absurd (omega (arith, low))
common-found (e ∷ es) [] low same = absurd (omega (arith, low, same))
common-found (e ∷ es) (f ∷ fs) low same = rw (eq-eqb f.doc e.doc same) refl

pub doc_at-from_doc : (target : ℕ) (es : List Entry) → target ≤ TERMINATED → target ≤ doc_at (from_doc target es)
doc_at-from_doc target [] up = up
doc_at-from_doc target (e ∷ es) up =
    elim (leb_tells target e.doc) [
      | inl h ↦ rw (h.0) (h.1)
      | inr h ↦ rw (h.0) (doc_at-from_doc target es up)
    ]

-- The other cursor was asked for the first one's document.
pub record Asked (es asked told : List Entry) (doc : ℕ) : Type 0 where
  pub here : doc ≡ doc_at es
  pub ascending : IsAscending es
  pub low : doc < TERMINATED
  pub left : told ≡ from_doc doc asked
  pub other : IsAscending told

pub asked_for : (es asked told : List Entry) (doc : ℕ) → doc ≡ doc_at es → IsSound es → doc < TERMINATED → (doc < TERMINATED → told ≡ from_doc doc asked) → (doc < TERMINATED → IsSound told) → Asked es asked told doc
asked_for es asked told doc here sound low left other = record {
  here = here;
  ascending = sound.ascending;
  low = low;
  left = left low;
  other = (other low).ascending;
}

same_common : (es asked told : List Entry) (doc : ℕ) → Asked es asked told doc → common_docs es told ≡ common_docs es asked
same_common es asked told doc h = let here = h.here in rw (h.left) (common-from_doc_other doc es asked h.ascending (omega (arith, here)))

-- it has the document: one more is common
pub found_more : (docs grown all : List ℕ) (es later asked told : List Entry) (doc : ℕ) → Asked es asked told doc → doc_at told ≡ doc → grown ≡ docs ++ doc ∷ [] → later ≡ drop 1 es → docs ++ common_docs es asked ≡ all → grown ++ common_docs later told ≡ all
found_more docs grown all es later asked told doc h found push next met =
    let one : doc ∷ common_docs (drop 1 es) told ≡ common_docs es told = rw (h.here) (sym (common-found es told (rw (← h.here) h.low) (found ∙ h.here))) in
    rw (push, next, append_assoc docs (doc ∷ []) (common_docs (drop 1 es) told)) (ap (λ (later : List ℕ). docs ++ later) (one ∙ same_common es asked told doc h) ∙ met)

-- it doesn't: what lies below its document isn't common
pub bound_more : (docs all : List ℕ) (es later asked told : List Entry) (doc bound : ℕ) → Asked es asked told doc → bound ≡ doc_at told → later ≡ from_doc bound es → docs ++ common_docs es asked ≡ all → docs ++ common_docs later told ≡ all
bound_more docs all es later asked told doc bound h first next met =
    rw (next, common-from_doc_first bound es told h.other first, same_common es asked told doc h) met

pub bound_target : (es asked told : List Entry) (doc bound : ℕ) → Asked es asked told doc → bound ≡ doc_at told → IsTarget bound es
bound_target es asked told doc bound h first =
    let low = h.low in
    let here = h.here in
    let up : doc ≤ doc_at told = rw (h.left) (doc_at-from_doc doc asked (omega (arith, low))) in
    let below = doc_below told h.other in
    record { up_to = omega (arith, first, below); forward = λ current. omega (arith, first, up, here) }

pub bound_above : (es asked told later : List Entry) (doc bound next : ℕ) → Asked es asked told doc → bound ≡ doc_at told → doc_at told ≢ doc → later ≡ from_doc bound es → next ≡ doc_at later → TERMINATED - next < TERMINATED - doc
bound_above es asked told later doc bound next h first other left here =
    let low = h.low in
    let up : doc ≤ doc_at told = rw (h.left) (doc_at-from_doc doc asked (omega (arith, low))) in
    let target = bound_target es asked told doc bound h first in
    let most = target.up_to in
    let reached : bound ≤ doc_at later = rw (left) (doc_at-from_doc bound es most) in
    omega (arith, low, up, reached, first, other, here)

-- the first cursor has ended
pub at_end : (es : List Entry) (doc : ℕ) → doc ≡ doc_at es → IsSound es → TERMINATED ≤ doc → es ≡ []
at_end es doc here sound end = sym (nothing_left es sound.ascending (rw (← here) end))

pub met_all : (docs all : List ℕ) (es asked : List Entry) (doc : ℕ) → doc ≡ doc_at es → IsSound es → TERMINATED ≤ doc → docs ++ common_docs es asked ≡ all → docs ≡ all
met_all docs all es asked doc here sound end met =
    let none : docs ++ common_docs es asked ≡ docs = rw (at_end es doc here sound end) (append-nil docs) in
    sym none ∙ met
