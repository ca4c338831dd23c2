-- The terms of a phrase are visited one after the other.
use Rattle.std.proofs.Common.{◌≡◌, ◌≢◌, ◌∙◌, ℕ, zero, suc, ◌+◌, ◌<◌, ◌≤◌, ◌^◌, Bool, false, ◌&&◌, List, [], ◌∷◌, add-one, drop, get_or, length, set, take, refl, sym, ap, subst, arith}
use Rattle.std.specs.List.{All, AllByRecursion, list_any}
use Rattle.std.proofs.lemmas.Bool.{and_right, ne_eqb}
use Rattle.std.proofs.lemmas.List.{drop_all, length-set, take_all}
use Rattle.std.proofs.lemmas.List.Elements.{All-drop, All-head, All-tail}
use Rattle.ii_base.specs.declared.doc_id.TheConstants.{TERMINATED}
use Rattle.ii_base.specs.Entries.{Entry}
use Rattle.ii_docset.specs.Cursor.{IsSound, doc_at, from_doc, positions_at}
use Rattle.ii_docset.proofs.CursorLemmas.{doc_below}
use Rattle.ii_query.specs.Phrase.{IsAtDoc, MeetsAt, PhrasePartState, has_positions, is_among, parts_have}
use Rattle.ii_query.proofs.PhraseLemmas.{positions_below, positions_from}
use Rattle.ii_docset.proofs.IntersectionLemmas.{doc_at-from_doc}

-- The first terms so far were taken to a document.
pub record IsMeeting (doc i : ℕ) (old now : List PhrasePartState) : Type 0 where
  pub alike : (test : ℕ → List ℕ → Bool) (d : ℕ) → doc ≤ d → parts_have test now d ≡ parts_have test old d
  pub met : AllByRecursion (IsAtDoc doc) (take i now)
  pub many : length now ≡ length old

-- A term was taken to a document.
pub record IsMoved (doc bound : ℕ) (old new : PhrasePartState) : Type 0 where
  pub distance_is : new.distance ≡ old.distance
  pub rest_is : new.rest ≡ from_doc doc old.rest
  pub sound : IsSound new.rest
  pub here : bound ≡ doc_at new.rest

pub meeting_first : (doc : ℕ) (old : List PhrasePartState) → IsMeeting doc 0 old old
meeting_first doc old = record { alike = λ test d up. refl; met = tt; many = refl }

part_set : (parts : List PhrasePartState) (i : ℕ) (new old : PhrasePartState) (doc bound : ℕ) (test : ℕ → List ℕ → Bool) (d : ℕ) → i < length parts → old ≡ get_or parts i old → IsMoved doc bound old new → doc ≤ d → parts_have test (set parts i new) d ≡ parts_have test parts d
part_set [] i new old doc bound test d inside is moved up = absurd (omega (arith, inside))
part_set (p ∷ ps) zero new old doc bound test d inside is moved up =
    let same : has_positions (test new.distance) new.rest d ≡ has_positions (test old.distance) old.rest d = rw (moved.distance_is, moved.rest_is) (positions_from (test old.distance) doc d old.rest up) in
    ap (λ (b : Bool). b && parts_have test ps d) (same ∙ ap (λ (q : PhrasePartState). has_positions (test q.distance) q.rest d) is)
part_set (p ∷ ps) (suc i) new old doc bound test d inside is moved up = ap (λ (b : Bool). has_positions (test p.distance) p.rest d && b) (part_set ps i new old doc bound test d (omega (arith, inside)) is moved up)

part_none : (parts : List PhrasePartState) (i : ℕ) (new : PhrasePartState) (test : ℕ → List ℕ → Bool) (d : ℕ) → i < length parts → IsSound new.rest → d < doc_at new.rest → parts_have test (set parts i new) d ≡ false
part_none [] i new test d inside sound low = absurd (omega (arith, inside))
part_none (p ∷ ps) zero new test d inside sound low = rw (positions_below (test new.distance) d new.rest sound.ascending low) refl
part_none (p ∷ ps) (suc i) new test d inside sound low = and_right (has_positions (test p.distance) p.rest d) _ (part_none ps i new test d (omega (arith, inside)) sound low)

met_set : (doc : ℕ) (parts : List PhrasePartState) (i : ℕ) (new : PhrasePartState) → i < length parts → AllByRecursion (IsAtDoc doc) (take i parts) → IsAtDoc doc new → AllByRecursion (IsAtDoc doc) (take (suc i) (set parts i new))
met_set doc [] i new inside met at = absurd (omega (arith, inside))
met_set doc (p ∷ ps) zero new inside met at = (at, tt)
met_set doc (p ∷ ps) (suc i) new inside met at = (met.0, met_set doc ps i new (omega (arith, inside)) met.1 at)

-- one more term is at the document
pub meeting_next : (doc i bound : ℕ) (start now : List PhrasePartState) (old new : PhrasePartState) → IsMeeting doc i start now → i < length now → old ≡ get_or now i old → IsMoved doc bound old new → bound ≡ doc
    → IsMeeting doc (i + 1) start (set now i new)
meeting_next doc i bound start now old new m inside is moved same = record {
  alike = λ test d up. part_set now i new old doc bound test d inside is moved up ∙ m.alike test d up;
  met = subst (λ (n : ℕ). AllByRecursion (IsAtDoc doc) (take n (set now i new))) (sym (add-one i)) (met_set doc now i new inside m.met (record { sound = moved.sound; here = sym moved.here ∙ same }));
  many = length-set now i new ∙ m.many;
}

-- a term is at a greater document
pub meeting_stops : (doc i bound : ℕ) (start now : List PhrasePartState) (old new : PhrasePartState) → IsMeeting doc i start now → i < length now → old ≡ get_or now i old → IsMoved doc bound old new → bound ≢ doc → doc < TERMINATED
    → MeetsAt doc start (set now i new) bound
meeting_stops doc i bound start now old new m inside is moved other low =
    let here = moved.here in
    let below = doc_below new.rest moved.sound.ascending in
    let up = subst (λ (l : List Entry). doc ≤ doc_at l) (sym moved.rest_is) (doc_at-from_doc doc old.rest (omega (arith, low))) in
    record {
      alike = λ test d high. part_set now i new old doc bound test d inside is moved high ∙ m.alike test d high;
      low = omega (arith, here, up);
      up_to = omega (arith, here, below);
      met = λ same. absurd (other same);
      none = λ test d lower above. part_none now i new test d inside moved.sound (omega (arith, here, lower));
    }

-- all terms are at the document
pub meeting_ends : (doc : ℕ) (start now : List PhrasePartState) → IsMeeting doc (length start) start now → doc < TERMINATED → MeetsAt doc start now doc
meeting_ends doc start now m low =
    let many = m.many in
    record {
      alike = m.alike;
      low = omega arith;
      up_to = omega (arith, low);
      met = λ same. subst (λ (ps : List PhrasePartState). AllByRecursion (IsAtDoc doc) ps) (take_all (length start) now (omega (arith, many))) m.met;
      none = λ test d lower above. absurd (omega (arith, above));
    }

any_behind : (f : ℕ → Bool) (xs : List ℕ) (i : ℕ) → i < length xs → f (get_or xs i 0) ≡ false → list_any f (drop (suc i) xs) ≡ list_any f (drop i xs)
any_behind f [] i inside fails = absurd (omega (arith, inside))
any_behind f (x ∷ xs) zero inside fails = rw (fails) refl
any_behind f (x ∷ xs) (suc i) inside fails = any_behind f xs i (omega (arith, inside)) fails

-- a place that fails is passed over
pub any_next : (f : ℕ → Bool) (xs : List ℕ) (i : ℕ) → i < length xs → f (get_or xs i 0) ≡ false → list_any f (drop (i + 1) xs) ≡ list_any f (drop i xs)
any_next f xs i inside fails = ap (λ (n : ℕ). list_any f (drop n xs)) (add-one i) ∙ any_behind f xs i inside fails

-- a position of 32 bits isn't a greater number
none_among : (ps : List ℕ) (n : ℕ) → All (λ (p : ℕ). p < 2 ^ 32) ps → 2 ^ 32 ≤ n → is_among ps n ≡ false
none_among [] n low up = refl
none_among (p ∷ ps) n low up =
    let first = All-head (λ (q : ℕ). q < 2 ^ 32) p ps low in
    rw (ne_eqb p n (λ same. omega (arith, first, up, same))) (none_among ps n (All-tail (λ (q : ℕ). q < 2 ^ 32) p ps low) up)

pub too_great : (es : List Entry) (i n : ℕ) → IsSound es → 2 ^ 32 ≤ n → false ≡ is_among (drop i (positions_at es)) n
too_great [] i n sound up = sym (ap (λ (ps : List ℕ). is_among ps n) (drop_all i [] (omega arith)))
too_great (e ∷ es) i n sound up = sym (none_among (drop i e.positions) n (All-drop (λ (p : ℕ). p < 2 ^ 32) i e.positions (sound.fits 0 e (omega arith)).1) up)
