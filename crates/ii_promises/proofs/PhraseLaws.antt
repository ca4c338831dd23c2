-- Where a phrase of two terms is found.
use Rattle.std.proofs.Common.{◌≡◌, ◌∙◌, ◌+◌, ◌&&◌, ◌||◌, ℕ, Bool, true, false, List, [], ◌∷◌, nat_eq, refl, sym, ap}
use Rattle.std.specs.List.{list_any}
use Rattle.std.proofs.lemmas.Bool.{eqb-true}
use Rattle.ii_base.specs.Entries.{Entry}
use Rattle.ii_docset.specs.Intersection.{has_doc}
use Rattle.ii_query.specs.Phrase.{PhrasePartState, begins_phrase, has_position, phrase_docs}

-- a term that follows the first one
abbrev pub next_term : List Entry → PhrasePartState
next_term seconds = record { distance = 1; rest = seconds }

-- whether a term of a document is followed by another one
abbrev pub is_followed : List Entry → ℕ → List ℕ → Bool
is_followed seconds doc positions = list_any (λ (p : ℕ). has_position seconds doc (p + 1)) positions

each_alone : (f : ℕ → Bool) (ps : List ℕ) → list_any (λ (p : ℕ). f p && true) ps ≡ list_any f ps
each_alone f [] = refl
each_alone f (p ∷ ps) = by (f p) (each_alone f ps)
  where
    by : (t : Bool) → list_any (λ (q : ℕ). f q && true) ps ≡ list_any f ps → ((t && true) || list_any (λ (q : ℕ). f q && true) ps) ≡ (t || list_any f ps)
    by true later = refl
    by false later = later

pub neighbours : (es seconds : List Entry) (doc : ℕ) → has_doc (phrase_docs es (next_term seconds ∷ [])) doc ≡ list_any (λ (e : Entry). nat_eq e.doc doc && is_followed seconds doc e.positions) es
neighbours [] seconds doc = refl
neighbours (e ∷ es) seconds doc = by (begins_phrase (next_term seconds ∷ []) e) (nat_eq e.doc doc) refl refl (each_alone (λ (p : ℕ). has_position seconds e.doc (p + 1)) e.positions) (neighbours es seconds doc)
  where
    by : (begins is : Bool) → begins_phrase (next_term seconds ∷ []) e ≡ begins → nat_eq e.doc doc ≡ is → begins_phrase (next_term seconds ∷ []) e ≡ is_followed seconds e.doc e.positions
        → has_doc (phrase_docs es (next_term seconds ∷ [])) doc ≡ list_any (λ (x : Entry). nat_eq x.doc doc && is_followed seconds doc x.positions) es
        → has_doc (phrase_docs (e ∷ es) (next_term seconds ∷ [])) doc ≡ list_any (λ (x : Entry). nat_eq x.doc doc && is_followed seconds doc x.positions) (e ∷ es)
    by true true first same alone later =
        let followed : is_followed seconds doc e.positions ≡ true = ap (λ (d : ℕ). is_followed seconds d e.positions) (sym (eqb-true e.doc doc same)) ∙ sym alone ∙ first in
        rw (first, same, followed) refl
    by true false first same alone later = rw (first, same) later
    by false true first same alone later =
        let followed : is_followed seconds doc e.positions ≡ false = ap (λ (d : ℕ). is_followed seconds d e.positions) (sym (eqb-true e.doc doc same)) ∙ sym alone ∙ first in
        rw (first, same, followed) later
    by false false first same alone later = rw (first, same) later
