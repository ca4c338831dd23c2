-- Where a phrase of two terms with a slop is found.
use Rattle.std.proofs.Common.{◌≡◌, ◌∙◌, ℕ, ◌+◌, ◌-◌, ◌≤◌, Bool, true, false, ◌&&◌, ◌||◌, List, [], ◌∷◌, ap, refl, sym, arith}
use Rattle.std.specs.Prelude.{nat_eq, nat_le}
use Rattle.std.specs.List.{list_any}
use Rattle.std.proofs.lemmas.Bool.{and_from, and_parts, le-leb, leb-true, or_right}
use Rattle.ii_base.specs.Entries.{Entry}
use Rattle.ii_docset.specs.Intersection.{has_doc}
use Rattle.ii_query.specs.Phrase.{has_positions, parts_have}
use Rattle.ii_query.specs.SloppyPhrase.{is_near, is_within, sloppy_docs, stand_near}
use Rattle.ii_query.proofs.SloppyLemmas.{sloppy_has, way_found, way_none, within_true}
use Rattle.ii_query.proofs.WindowLemmas.{within_here}
use Rattle.ii_search.proofs.RangeMatches.{any_more}
use Rattle.ii_promises.proofs.PhraseLaws.{next_term}

-- whether a position is at most `slop` before or after a place
abbrev pub is_close : ℕ → ℕ → ℕ → Bool
is_close slop place q = nat_le place (q + slop) && nat_le q (place + slop)

-- whether one of the positions is
abbrev pub are_close : ℕ → ℕ → List ℕ → Bool
are_close slop place positions = list_any (is_close slop place) positions

-- a position within the slop by a way back is close
pub near_close : (slop back place q : ℕ) → back ≤ slop → is_within slop place (q + back) ≡ true → is_close slop place q ≡ true
near_close slop back place q up is =
    let both = within_true slop place (q + back) is in
    let low = both.0 in
    let high = both.1 in
    and_from (nat_le place (q + slop)) (nat_le q (place + slop)) (le-leb place (q + slop) (omega (arith, low, up))) (le-leb q (place + slop) (omega (arith, high)))

-- and a close one has a way back
pub close_near : (slop place q : ℕ) → is_close slop place q ≡ true → (place - q ≤ slop) × (is_within slop place (q + (place - q)) ≡ true)
close_near slop place q is =
    let both = and_parts (nat_le place (q + slop)) (nat_le q (place + slop)) is in
    let low = leb-true place (q + slop) both.0 in
    let high = leb-true q (place + slop) both.1 in
    (omega (arith, low), within_here slop place (q + (place - q)) (omega arith) (omega (arith, low, high)))

-- one of the positions is close, by some way back
pub record Way (slop : ℕ) (near : ℕ → Bool) : Type 0 where
  pub back : ℕ
  pub up : back ≤ slop
  pub is : near back ≡ true

close_way : (slop place : ℕ) (positions : List ℕ) → are_close slop place positions ≡ true → Way slop (λ (back : ℕ). list_any (λ (q : ℕ). is_within slop place (q + back)) positions)
close_way slop place [] is = absurd (let wrong : false ≡ true = is in cc)
close_way slop place (q ∷ qs) is = by (is_close slop place q) refl (close_way slop place qs)
  where
    by : (b : Bool) → is_close slop place q ≡ b → (are_close slop place qs ≡ true → Way slop (λ (back : ℕ). list_any (λ (p : ℕ). is_within slop place (p + back)) qs)) → Way slop (λ (back : ℕ). list_any (λ (p : ℕ). is_within slop place (p + back)) (q ∷ qs))
    by true here later =
        let near = close_near slop place q here in
        let there = near.1 in
        record { back = place - q; up = near.0; is = rw there refl }
    by false here later =
        let way = later (rw here at is) in
        record { back = way.back; up = way.up; is = or_right (is_within slop place (q + way.back)) (list_any (λ (p : ℕ). is_within slop place (p + way.back)) qs) way.is }

doc_way : (slop start doc : ℕ) (es : List Entry) → has_positions (are_close slop (start + 1)) es doc ≡ true → Way slop (λ (back : ℕ). has_positions (is_near slop back start 1) es doc)
doc_way slop start doc [] is = absurd (let wrong : false ≡ true = is in cc)
doc_way slop start doc (e ∷ es) is = by (nat_eq e.doc doc && are_close slop (start + 1) e.positions) refl (doc_way slop start doc es)
  where
    by : (b : Bool) → (nat_eq e.doc doc && are_close slop (start + 1) e.positions) ≡ b → (has_positions (are_close slop (start + 1)) es doc ≡ true → Way slop (λ (back : ℕ). has_positions (is_near slop back start 1) es doc))
        → Way slop (λ (back : ℕ). has_positions (is_near slop back start 1) (e ∷ es) doc)
    by true here later =
        let both = and_parts (nat_eq e.doc doc) (are_close slop (start + 1) e.positions) here in
        let way = close_way slop (start + 1) e.positions both.1 in
        let same = both.0 in
        let near : is_near slop way.back start 1 e.positions ≡ true = way.is in
        record { back = way.back; up = way.up; is = ap (λ (t : Bool). t || has_positions (is_near slop way.back start 1) es doc) (and_from (nat_eq e.doc doc) (is_near slop way.back start 1 e.positions) same near) }
    by false here later =
        let way = later (rw here at is) in
        record { back = way.back; up = way.up; is = or_right (nat_eq e.doc doc && is_near slop way.back start 1 e.positions) (has_positions (is_near slop way.back start 1) es doc) way.is }

-- two terms are within the slop exactly where the second is close to the place after the first
close_stand : (slop doc start : ℕ) (seconds : List Entry) → stand_near slop (next_term seconds ∷ []) doc start ≡ has_positions (are_close slop (start + 1)) seconds doc
close_stand slop doc start seconds = by (has_positions (are_close slop (start + 1)) seconds doc) refl
  where
    none : (back : ℕ) → back ≤ slop → has_positions (are_close slop (start + 1)) seconds doc ≡ false → (b : Bool) → has_positions (is_near slop back start 1) seconds doc ≡ b → parts_have (is_near slop back start) (next_term seconds ∷ []) doc ≡ false
    none back up far true is =
        let close = any_more (λ (e : Entry). nat_eq e.doc doc && is_near slop back start 1 e.positions) (λ (e : Entry). nat_eq e.doc doc && are_close slop (start + 1) e.positions)
        (λ e has.
        let both = and_parts (nat_eq e.doc doc) (is_near slop back start 1 e.positions) has in
        and_from (nat_eq e.doc doc) (are_close slop (start + 1) e.positions) both.0 (any_more (λ (q : ℕ). is_within slop (start + 1) (q + back)) (is_close slop (start + 1)) (λ q near. near_close slop back (start + 1) q up near) e.positions both.1))
        seconds is in
        absurd (let wrong : false ≡ true = sym far ∙ close in cc)
    none back up far false is = rw is refl

    by : (b : Bool) → has_positions (are_close slop (start + 1)) seconds doc ≡ b → stand_near slop (next_term seconds ∷ []) doc start ≡ has_positions (are_close slop (start + 1)) seconds doc
    by true is =
        let way = doc_way slop start doc seconds is in
        let near = way.is in
        way_found (λ (back : ℕ). parts_have (is_near slop back start) (next_term seconds ∷ []) doc) slop way.back way.up (rw near refl) ∙ sym is
    by false is = way_none (λ (back : ℕ). parts_have (is_near slop back start) (next_term seconds ∷ []) doc) slop (λ back up. none back up is (has_positions (is_near slop back start 1) seconds doc) refl) ∙ sym is

pub near_neighbours : (slop : ℕ) (es seconds : List Entry) (doc : ℕ)
    → has_doc (sloppy_docs slop es (next_term seconds ∷ [])) doc ≡ list_any (λ (e : Entry). nat_eq e.doc doc && list_any (λ (p : ℕ). has_positions (are_close slop (p + 1)) seconds doc) e.positions) es
near_neighbours slop es seconds doc =
    sloppy_has slop doc es (next_term seconds ∷ []) ∙ (λ i. list_any (λ (e : Entry). nat_eq e.doc doc && list_any (λ (p : ℕ). close_stand slop doc p seconds i) e.positions) es)
