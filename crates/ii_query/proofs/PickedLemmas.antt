-- Documents that are picked of a list.
use Rattle.std.proofs.Common.{◌≡◌, ◌≢◌, ℕ, ◌<◌, ◌≤◌, Bool, true, false, List, [], ◌∷◌, drop, inl, inr, refl, sym, ap, ◌∙◌, arith}
use Rattle.std.proofs.lemmas.Bool.{eq-eqb}
use Rattle.std.proofs.lemmas.Bool.Decides.{leb_tells}
use Rattle.std.specs.Prelude.{filter, map, not}
use Rattle.ii_base.specs.declared.doc_id.TheConstants.{TERMINATED}
use Rattle.ii_base.specs.Entries.{Entry, docs_of, document}
use Rattle.ii_docset.specs.Cursor.{doc_at, IsAscending, IsSound, from_doc}
use Rattle.ii_docset.specs.Intersection.{common_docs, has_doc}
use Rattle.ii_docset.proofs.CursorLemmas.{from_doc_here, ascending_sound}
use Rattle.ii_docset.proofs.IntersectionLemmas.{Asked, bound_more, bound_target, has_doc-from_doc, has_doc_below}
use Rattle.ii_query.specs.Combined.{IsAtFirst, StandsAt, common, picked, without}

-- they ascend, from the first document of the list on
picked_ascends : (holds : ℕ → Bool) (es : List Entry) → IsAscending es → IsAscending (picked holds es) × (doc_at es ≤ doc_at (picked holds es))
picked_ascends holds [] h = (tt, omega arith)
picked_ascends holds (e ∷ es) h = by (picked_ascends holds es h.1) (holds e.doc) refl
  where
    by : IsAscending (picked holds es) × (doc_at es ≤ doc_at (picked holds es)) → (b : Bool) → holds e.doc ≡ b → IsAscending (picked holds (e ∷ es)) × (e.doc ≤ doc_at (picked holds (e ∷ es)))
    by later true is = let low = h.0 in let up = later.1 in rw (is) ((omega (arith, low, up), later.0), omega arith)
    by later false is = let low = h.0 in let up = later.1 in rw (is) (later.0, omega (arith, low, up))

pub picked_sound : (holds : ℕ → Bool) (es : List Entry) → IsSound es → IsSound (picked holds es)
picked_sound holds es sound = ascending_sound (filter holds (docs_of es)) (picked_ascends holds es sound.ascending).0

-- the first document of the list is picked, or there is none
pub picked_at : (holds : ℕ → Bool) (es : List Entry) (doc : ℕ) → IsAtFirst es (picked holds es) → doc ≡ doc_at es → StandsAt doc (picked holds es)
picked_at holds es doc at here = record { sound = picked_sound holds es at.sound; here = here ∙ sym at.here }

-- without the first document, which is picked
pub picked_drop : (holds : ℕ → Bool) (es : List Entry) → IsAtFirst es (picked holds es) → picked holds (drop 1 es) ≡ drop 1 (picked holds es)
picked_drop holds [] at = refl
picked_drop holds (e ∷ es) at = by (holds e.doc) refl at.here
  where
    by : (b : Bool) → holds e.doc ≡ b → doc_at (picked holds (e ∷ es)) ≡ e.doc → picked holds es ≡ drop 1 (picked holds (e ∷ es))
    by true is here = rw (is) refl
    by false is here =
        let low = at.sound.ascending.0 in
        let up = (picked_ascends holds es at.sound.ascending.1).1 in
        let same : doc_at (picked holds es) ≡ e.doc = rw is at here in
        absurd (omega (arith, low, up, same))

-- from a document on
pub picked_from : (holds : ℕ → Bool) (target : ℕ) (es : List Entry) → picked holds (from_doc target es) ≡ from_doc target (picked holds es)
picked_from holds target [] = refl
picked_from holds target (e ∷ es) = by (picked_from holds target es) (holds e.doc) refl
  where
    by : picked holds (from_doc target es) ≡ from_doc target (picked holds es) → (b : Bool) → holds e.doc ≡ b → picked holds (from_doc target (e ∷ es)) ≡ from_doc target (picked holds (e ∷ es))
    by later true is = elim (leb_tells target e.doc) [
      | inl h ↦ rw (h.0, is, h.0, later) refl
      | inr h ↦ rw (h.0, is, h.0, later) refl
    ]
    by later false is = elim (leb_tells target e.doc) [
      | inl h ↦ rw (h.0, is, later) refl
      | inr h ↦ rw (h.0, is, later) refl
    ]

-- the other list is dropped up to a document of both
pub common_found : (es asked told : List Entry) (doc : ℕ) → Asked es asked told doc → doc_at told ≡ doc → common_docs es told ≡ common_docs es asked
common_found es asked told doc h found =
    let here = h.here in
    bound_more [] (common_docs es asked) es es asked told doc doc h (sym found) (sym (from_doc_here doc es h.ascending (omega (arith, here)))) refl

-- both lists begin with one document
pub common_at : (es fs : List Entry) → doc_at es < TERMINATED → doc_at fs ≡ doc_at es → doc_at (common es fs) ≡ doc_at es
common_at [] fs low same = refl
common_at (e ∷ es) [] low same = absurd (omega (arith, low, same))
common_at (e ∷ es) (f ∷ fs) low same = rw (eq-eqb f.doc e.doc same) refl

-- what holds of all documents from a least one on is picked alike
pub picked_alike : (holds alike : ℕ → Bool) (least : ℕ) (es : List Entry) → IsAscending es → least ≤ doc_at es → ((d : ℕ) → least ≤ d → holds d ≡ alike d) → filter holds (docs_of es) ≡ filter alike (docs_of es)
picked_alike holds alike least [] ascend low same = refl
picked_alike holds alike least (e ∷ es) ascend low same =
    let next = ascend.0 in
    rw (same e.doc low, picked_alike holds alike least es ascend.1 (omega (arith, low, next)) same) refl

-- the other list is dropped up to a document
pub without_asked : (es asked told : List Entry) (doc : ℕ) → Asked es asked told doc → without es told ≡ without es asked
without_asked es asked told doc h =
    let here = h.here in
    ap (λ (docs : List ℕ). map document docs) (picked_alike (λ (d : ℕ). not (has_doc told d)) (λ (d : ℕ). not (has_doc asked d)) doc es h.ascending (omega (arith, here)) (λ d low. rw (h.left, has_doc-from_doc doc d asked low) refl))

-- the other list begins with the document: it isn't left
pub without_found : (es fs : List Entry) → doc_at es < TERMINATED → doc_at fs ≡ doc_at es → without (drop 1 es) fs ≡ without es fs
without_found [] fs low same = refl
without_found (e ∷ es) [] low same = absurd (omega (arith, low, same))
without_found (e ∷ es) (f ∷ fs) low same = rw (eq-eqb f.doc e.doc same) refl

-- the other list begins above the document
without_below : (es fs : List Entry) → IsAscending fs → doc_at es < doc_at fs → doc_at (without es fs) ≡ doc_at es
without_below [] fs ascend low = refl
without_below (e ∷ es) fs ascend low = rw (has_doc_below e.doc fs ascend low) refl

pub without_at : (es asked told : List Entry) (doc bound : ℕ) → Asked es asked told doc → bound ≡ doc_at told → doc_at told ≢ doc → doc_at (without es told) ≡ doc_at es
without_at es asked told doc bound h first other =
    let here = h.here in
    let low = h.low in
    let up = (bound_target es asked told doc bound h first).forward (omega (arith, here, low)) in
    without_below es told h.other (omega (arith, here, up, first, other))
