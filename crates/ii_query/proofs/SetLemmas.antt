-- Sets of documents, a bit for each document.
use Rattle.std.proofs.Common.{◌≡◌, ◌∙◌, ℕ, zero, suc, ◌+◌, ◌-◌, ◌*◌, ◌/◌, ◌%◌, ◌^◌, ◌<◌, ◌≤◌, Bool, true, false, ◌||◌, List, [], ◌∷◌, drop, get_or, length, nat_eq, set, inl, inr, refl, sym, ap, arith}
use Rattle.std.proofs.Math.Bool.{and-false, or_assoc}
use Rattle.std.proofs.Math.ListN.{get_or-eq_default}
use Rattle.std.proofs.lemmas.Bool.{cases_lt, eq-eqb, le-leb, lt-ltb, ne_eqb}
use Rattle.std.proofs.lemmas.Bool.Decides.{eqb_tells}
use Rattle.std.proofs.lemmas.List.{get_or-set_other}
use Rattle.std.proofs.lemmas.Grind.{get_or-set_at}
use Rattle.std.proofs.lemmas.Nat.{one_shl, shr-shr}
use Rattle.std.proofs.lemmas.Nat.Bits.{bit_at-lt, bit_at-pow_other, bit_at-pow_same, bit_at-trailing_zeros, bit_at-zero, bit_at_above, bit_at_or}
use Rattle.std.specs.Prelude.{map}
use Rattle.std.specs.Int.{bit_at, trailing_zeros, w64}
use Rattle.std.specs.Int.Bits.{bit_or}
use Rattle.ii_base.specs.declared.doc_id.TheConstants.{TERMINATED}
use Rattle.ii_base.specs.Entries.{Entry, docs_of, document}
use Rattle.ii_docset.specs.Cursor.{doc_at, from_doc, IsAscending, IsSound}
use Rattle.ii_docset.specs.Intersection.{has_doc}
use Rattle.ii_docset.proofs.CursorLemmas.{doc_below, nothing_left}
use Rattle.ii_query.specs.BitSet.{IsFirstFrom, StandsIn, bits_end, docs_of_set, is_in}
use Rattle.ii_query.specs.Combined.{all_from, picked}
use Rattle.ii_query.proofs.AllLemmas.{all_goes_to, all_has, all_none, all_sound, all_stays}
use Rattle.ii_query.proofs.CommonLemmas.{docs_again, picked_again, same_docs}
use Rattle.ii_query.proofs.HintLemmas.{all_long, picked_short}
use Rattle.ii_query.proofs.MatchLaws.{or_swap, picked_has}
use Rattle.ii_query.proofs.PickedLemmas.{picked_from, picked_sound}

-- one more bit of a word
bit_set : (w k i : ℕ) → k < 64 → nat_eq (bit_at (bit_or w (1 * 2 ^ k % 2 ^ 64)) i) 1 ≡ (nat_eq k i || nat_eq (bit_at w i) 1)
bit_set w k i low = elim (eqb_tells k i) [
  | inl h ↦
      let same = h.1 in
      let one : bit_at (2 ^ k) i ≡ 1 = ap (bit_at (2 ^ k)) (sym same) ∙ bit_at-pow_same k in
      let most = bit_at-lt w i in
      let both : bit_at (bit_or w (1 * 2 ^ k % 2 ^ 64)) i ≡ 1 = ap (λ (m : ℕ). bit_at (bit_or w m) i) (one_shl k 64 low) ∙ bit_at_or w (2 ^ k) i ∙ omega (arith, one, most) in
      rw (h.0, both) refl
  | inr h ↦
      let other = h.1 in
      let none : bit_at (2 ^ k) i ≡ 0 = bit_at-pow_other k i (λ e. other (sym e)) in
      let both : bit_at (bit_or w (1 * 2 ^ k % 2 ^ 64)) i ≡ bit_at w i = ap (λ (m : ℕ). bit_at (bit_or w m) i) (one_shl k 64 low) ∙ bit_at_or w (2 ^ k) i ∙ omega (arith, none) in
      rw (h.0, both) refl
]

-- the bit of a document is set
pub set_in : (words : List ℕ) (doc d : ℕ) → doc < 64 * length words → is_in (set words (doc / 64) (bit_or (get_or words (doc / 64) 0) (1 * 2 ^ (doc % 64) % 2 ^ 64))) d ≡ (nat_eq doc d || is_in words d)
set_in words doc d inside = elim (eqb_tells (d / 64) (doc / 64)) [
  | inl h ↦
      let same = h.1 in
      let word : get_or (set words (doc / 64) (bit_or (get_or words (doc / 64) 0) (1 * 2 ^ (doc % 64) % 2 ^ 64))) (d / 64) 0 ≡ bit_or (get_or words (doc / 64) 0) (1 * 2 ^ (doc % 64) % 2 ^ 64) =
      get_or-set_at words (doc / 64) (d / 64) (bit_or (get_or words (doc / 64) 0) (1 * 2 ^ (doc % 64) % 2 ^ 64)) 0 same (omega (arith, inside)) in
      ap (λ (w : ℕ). nat_eq (bit_at w (d % 64)) 1) word
      ∙ bit_set (get_or words (doc / 64) 0) (doc % 64) (d % 64) (omega arith)
      ∙ ap (λ (b : Bool). b || nat_eq (bit_at (get_or words (doc / 64) 0) (d % 64)) 1) (in_word doc d same)
      ∙ ap (λ (m : ℕ). nat_eq doc d || nat_eq (bit_at (get_or words m 0) (d % 64)) 1) (sym same)
  | inr h ↦
      let other = h.1 in
      let word : get_or (set words (doc / 64) (bit_or (get_or words (doc / 64) 0) (1 * 2 ^ (doc % 64) % 2 ^ 64))) (d / 64) 0 ≡ get_or words (d / 64) 0 =
      get_or-set_other words (doc / 64) (d / 64) (bit_or (get_or words (doc / 64) 0) (1 * 2 ^ (doc % 64) % 2 ^ 64)) 0 other in
      ap (λ (w : ℕ). nat_eq (bit_at w (d % 64)) 1) word
      ∙ ap (λ (b : Bool). b || is_in words d) (sym (ne_eqb doc d (λ same. other (ap (λ (m : ℕ). m / 64) (sym same)))))
]
  where
    in_word : (doc d : ℕ) → d / 64 ≡ doc / 64 → nat_eq (doc % 64) (d % 64) ≡ nat_eq doc d
    in_word doc d same = elim (eqb_tells doc d) [
      | inl h ↦ let is = h.1 in rw (h.0) (eq-eqb (doc % 64) (d % 64) (ap (λ (m : ℕ). m % 64) is))
      | inr h ↦ let other = h.1 in rw (h.0) (ne_eqb (doc % 64) (d % 64) (λ is. other (omega (arith, is, same))))
    ]

-- The documents of a set so far, and those that a cursor still has, are those of the set before and all of the cursor.
pub record IsAdding (first now : List ℕ) (all rest : List Entry) (doc : ℕ) : Type 0 where
  pub same : (d : ℕ) → (has_doc rest d || is_in now d) ≡ (has_doc all d || is_in first d)
  pub here : doc ≡ doc_at rest
  pub sound : IsSound rest

pub adding_next : (first now more : List ℕ) (all rest left : List Entry) (doc next : ℕ) → IsAdding first now all rest doc → doc < TERMINATED → ((d : ℕ) → is_in more d ≡ (nat_eq doc d || is_in now d)) → left ≡ drop 1 rest → next ≡ doc_at left → IsSound left → IsAdding first more all left next
adding_next first now more all [] left doc next a low added is here sound = let at = a.here in absurd (omega (arith, at, low))
adding_next first now more all (e ∷ es) left doc next a low added is here sound = record {
  same = λ d. rw (is, added d, a.here) (or_swap (has_doc es d) (nat_eq e.doc d) (is_in now d) ∙ sym (or_assoc (nat_eq e.doc d) (has_doc es d) (is_in now d)) ∙ a.same d);
  here = here;
  sound = sound;
}

pub added_all : (first now : List ℕ) (all rest : List Entry) (doc : ℕ) → IsAdding first now all rest doc → TERMINATED ≤ doc → (d : ℕ) → is_in now d ≡ (has_doc all d || is_in first d)
added_all first now all rest doc a end d =
    let at = a.here in
    let none : [] ≡ rest = nothing_left rest a.sound.ascending (omega (arith, at, end)) in
    ap (λ (es : List Entry). has_doc es d || is_in now d) none ∙ a.same d

-- a document of a word, by the bits from another one on
offset_in : (words : List ℕ) (doc j : ℕ) → doc % 64 + j < 64 → is_in words (doc + j) ≡ nat_eq (bit_at (get_or words (doc / 64) 0 / 2 ^ (doc % 64)) j) 1
offset_in words doc j inside =
    let word : (doc + j) / 64 ≡ doc / 64 = omega (arith, inside) in
    let bit : (doc + j) % 64 ≡ doc % 64 + j = omega (arith, inside) in
    ap (λ (i : ℕ). nat_eq (bit_at (get_or words i 0) ((doc + j) % 64)) 1) word
    ∙ ap (λ (i : ℕ). nat_eq (bit_at (get_or words (doc / 64) 0) i) 1) bit
    ∙ ap (λ (w : ℕ). nat_eq (w % 2) 1) (sym (shr-shr (get_or words (doc / 64) 0) (doc % 64) j))

-- What is known before a place where a search for a bit goes on.
pub record IsSeeking (words : List ℕ) (from end doc : ℕ) : Type 0 where
  pub low : from ≤ doc
  pub none : (d : ℕ) → from ≤ d → d < doc → d < end → is_in words d ≡ false

pub seeking_first : (words : List ℕ) (from end : ℕ) → IsSeeking words from end from
seeking_first words from end = record { low = omega arith; none = λ d low high up. absurd (omega (arith, low, high)) }

none_in_word : (words : List ℕ) (doc d w : ℕ) → w ≡ get_or words (doc / 64) 0 → w / 2 ^ (doc % 64) ≡ 0 → doc ≤ d → d < (doc / 64 + 1) * 64 → is_in words d ≡ false
none_in_word words doc d w is empty low high =
    let at : d ≡ doc + (d - doc) = omega (arith, low) in
    let bit : bit_at (get_or words (doc / 64) 0 / 2 ^ (doc % 64)) (d - doc) ≡ 0 = ap (λ (m : ℕ). bit_at m (d - doc)) (ap (λ (m : ℕ). m / 2 ^ (doc % 64)) (sym is) ∙ empty) ∙ bit_at-zero (d - doc) in
    ap (is_in words) at ∙ offset_in words doc (d - doc) (omega (arith, low, high)) ∙ ap (λ (m : ℕ). nat_eq m 1) bit

pub seeking_next : (words : List ℕ) (from end doc w : ℕ) → IsSeeking words from end doc → w ≡ get_or words (doc / 64) 0 → w / 2 ^ (doc % 64) ≡ 0 → IsSeeking words from end ((doc / 64 + 1) * 64)
seeking_next words from end doc w s is empty =
    let low = s.low in
    record {
      low = omega (arith, low);
      none = λ d above below up. elim (cases_lt d doc) [
        | inl before ↦ s.none d above before up
        | inr after ↦ none_in_word words doc d w is empty after below
      ];
    }

pub seeking_ended : (words : List ℕ) (from end doc : ℕ) → IsSeeking words from end doc → end ≤ doc → IsFirstFrom (is_in words) from end doc
seeking_ended words from end doc s over = record { low = s.low; none = s.none; here = λ inside. absurd (omega (arith, over, inside)) }

-- the lowest bit of the rest of a word
pub seeking_found : (words : List ℕ) (from end doc w : ℕ) → IsSeeking words from end doc → w ≡ get_or words (doc / 64) 0 → w < 2 ^ 64 → 0 < w / 2 ^ (doc % 64) → w / 2 ^ (doc % 64) < 2 ^ 64
    → IsFirstFrom (is_in words) from end (doc + trailing_zeros w64 (w / 2 ^ (doc % 64)))
seeking_found words from end doc w s is fits some fits_rest =
    let k = doc % 64 in
    let place = trailing_zeros w64 (w / 2 ^ k) in
    let bits = bit_at-trailing_zeros w64 (w / 2 ^ k) some fits_rest in
    let low = s.low in
    let one : bit_at w (k + place) ≡ 1 = ap (λ (m : ℕ). m % 2) (sym (shr-shr w k place)) ∙ bits.1 in
    let inside : k + place < 64 = elim (cases_lt (k + place) 64) [
      | inl below ↦ below
      | inr above ↦ let none = bit_at_above w 64 (k + place) fits above in absurd (omega (arith, one, none))
    ] in
    let word : get_or words (doc / 64) 0 ≡ w = sym is in
    record {
      low = omega (arith, low);
      none = λ d above below up. elim (cases_lt d doc) [
        | inl before ↦ s.none d above before up
        | inr after ↦
            let at : d ≡ doc + (d - doc) = omega (arith, after) in
            let zero_bit : bit_at (w / 2 ^ k) (d - doc) ≡ 0 = bits.2 (d - doc) (omega (arith, after, below)) in
            ap (is_in words) at ∙ offset_in words doc (d - doc) (omega (arith, after, below, inside))
            ∙ ap (λ (m : ℕ). nat_eq (bit_at (m / 2 ^ k) (d - doc)) 1) word ∙ ap (λ (m : ℕ). nat_eq m 1) zero_bit
      ];
      here = λ up. offset_in words doc place inside ∙ ap (λ (m : ℕ). nat_eq (bit_at (m / 2 ^ k) place) 1) word ∙ ap (λ (m : ℕ). nat_eq m 1) bits.1;
    }

-- documents that don't pass are skipped
pub skipped : (holds : ℕ → Bool) (n doc end : ℕ) → ((d : ℕ) → doc ≤ d → d < doc + n → d < end → holds d ≡ false) → picked holds (all_from (doc + n) (end - (doc + n))) ≡ picked holds (all_from doc (end - doc))
skipped holds zero doc end none = let same : doc + 0 ≡ doc = omega arith in ap (λ (m : ℕ). picked holds (all_from m (end - m))) same
skipped holds (suc n) doc end none =
    let same : doc + suc n ≡ suc doc + n = omega arith in
    let later : picked holds (all_from (suc doc + n) (end - (suc doc + n))) ≡ picked holds (all_from (suc doc) (end - suc doc)) = skipped holds n (suc doc) end (λ d low high up. none d (omega (arith, low)) (omega (arith, high)) up) in
    ap (λ (m : ℕ). picked holds (all_from m (end - m))) same ∙ later ∙ elim (cases_lt doc end) [
      | inl inside ↦
          let more : end - doc ≡ suc (end - suc doc) = omega (arith, inside) in
          let next : doc + 1 ≡ suc doc = omega arith in
          let fails : holds doc ≡ false = none doc (omega arith) (omega arith) inside in
          sym (ap (λ (m : ℕ). picked holds (all_from doc m)) more ∙ one_less fails (end - suc doc) ∙ ap (λ (m : ℕ). picked holds (all_from m (end - suc doc))) next)
      | inr past ↦ ap (picked holds) (all_none (suc doc) end (omega (arith, past))) ∙ sym (ap (picked holds) (all_none doc end past))
    ]
  where
    one_less : holds doc ≡ false → (m : ℕ) → picked holds (all_from doc (suc m)) ≡ picked holds (all_from (doc + 1) m)
    one_less fails m = rw fails refl

-- the first document from one on
pub first_from : (holds : ℕ → Bool) (from end found : ℕ) → IsFirstFrom holds from end found → picked holds (all_from found (end - found)) ≡ picked holds (all_from from (end - from))
first_from holds from end found first =
    let low = first.low in
    let at : found ≡ from + (found - from) = omega (arith, low) in
    ap (λ (m : ℕ). picked holds (all_from m (end - m))) at ∙ skipped holds (found - from) from end (λ d above below up. first.none d above (omega (arith, low, below)) up)

-- a document that passes is the first
pub here_first : (holds : ℕ → Bool) (doc end : ℕ) → doc < end → holds doc ≡ true → picked holds (all_from doc (end - doc)) ≡ document doc ∷ picked holds (all_from (doc + 1) (end - (doc + 1)))
here_first holds doc end inside is =
    let more : end - doc ≡ suc (end - (doc + 1)) = omega (arith, inside) in
    ap (λ (m : ℕ). picked holds (all_from doc m)) more ∙ one (end - (doc + 1))
  where
    one : (m : ℕ) → picked holds (all_from doc (suc m)) ≡ document doc ∷ picked holds (all_from (doc + 1) m)
    one m = rw is refl

pub none_left : (holds : ℕ → Bool) (doc end : ℕ) → end ≤ doc → picked holds (all_from doc (end - doc)) ≡ []
none_left holds doc end over = ap (picked holds) (all_none doc end over)

module _ (words : List ℕ) (next end : ℕ) (at : StandsIn words next end) where
  abbrev left : List Entry
  left = picked (is_in words) (all_from next (end - next))

  up_to : end ≤ TERMINATED
  up_to = let bits = at.bits in omega (arith, bits)

  pub set_sound : IsSound left
  set_sound = picked_sound (is_in words) (all_from next (end - next)) (all_sound next end up_to)

  pub set_at : next < end → doc_at left ≡ next
  set_at inside = ap doc_at (here_first (is_in words) next end inside (at.here inside))

  pub set_none : end ≤ next → doc_at left ≡ TERMINATED
  set_none over = ap doc_at (none_left (is_in words) next end over)

  pub set_advance : (found : ℕ) → next < end → IsFirstFrom (is_in words) (next + 1) end found → picked (is_in words) (all_from found (end - found)) ≡ drop 1 left
  set_advance found inside first = first_from (is_in words) (next + 1) end found first ∙ sym (ap (λ (es : List Entry). drop 1 es) (here_first (is_in words) next end inside (at.here inside)))

  pub set_end : end ≤ next → left ≡ drop 1 left
  set_end over = none_left (is_in words) next end over ∙ sym (ap (λ (es : List Entry). drop 1 es) (none_left (is_in words) next end over))

  pub set_seek : (target found : ℕ) → next < target → IsFirstFrom (is_in words) target end found → picked (is_in words) (all_from found (end - found)) ≡ from_doc target left
  set_seek target found low first = first_from (is_in words) target end found first ∙ ap (picked (is_in words)) (all_goes_to next end target low) ∙ picked_from (is_in words) target (all_from next (end - next))

  pub set_stays : (target : ℕ) → target ≤ next → left ≡ from_doc target left
  set_stays target low = ap (picked (is_in words)) (all_stays next end target up_to low) ∙ picked_from (is_in words) target (all_from next (end - next))

pub set_short : (words : List ℕ) (next end : ℕ) → length (picked (is_in words) (all_from next (end - next))) ≤ end - next
set_short words next end =
    let few = picked_short (is_in words) (all_from next (end - next)) in
    let long = all_long next (end - next) in
    omega (arith, few, long)

-- a set's list has its documents
set_has : (words : List ℕ) (d : ℕ) → d < TERMINATED → has_doc (docs_of_set words) d ≡ is_in words d
set_has words d low = picked_has (is_in words) (all_from 0 (bits_end words - 0)) d ∙ elim (cases_lt d (bits_end words)) [
  | inl inside ↦
      let here : has_doc (all_from 0 (bits_end words - 0)) d ≡ true = all_has 0 (bits_end words - 0) d ∙ rw (le-leb 0 d (omega arith), lt-ltb d (0 + (bits_end words - 0)) (omega (arith, inside))) refl in
      rw here refl
  | inr past ↦
      let few : length words ≤ d / 64 = omega (arith, low, past) in
      let word : get_or words (d / 64) 0 ≡ 0 = get_or-eq_default words 0 few in
      let none : is_in words d ≡ false = ap (λ (w : ℕ). nat_eq (bit_at w (d % 64)) 1) word ∙ ap (λ (b : ℕ). nat_eq b 1) (bit_at-zero (d % 64)) in
      rw none (and-false (has_doc (all_from 0 (bits_end words - 0)) d))
]

none_above : (es : List Entry) (d : ℕ) → IsAscending es → TERMINATED ≤ d → has_doc es d ≡ false
none_above [] d ascend above = refl
none_above (e ∷ es) d ascend above =
    let low = ascend.0 in
    let most = doc_below es ascend.1 in
    rw (ne_eqb e.doc d (λ same. omega (arith, low, most, above, same))) (none_above es d ascend.1 above)

-- a set with exactly the documents of a list
pub collected : (words docs : List ℕ) (es : List Entry) → es ≡ map document docs → IsAscending es → ((d : ℕ) → is_in words d ≡ has_doc es d) → docs_of_set words ≡ es
collected words docs es is ascend same =
    let sound = picked_sound (is_in words) (all_from 0 (bits_end words - 0)) (all_sound 0 (bits_end words) (omega arith)) in
    let alike : (d : ℕ) → has_doc (docs_of_set words) d ≡ has_doc es d = λ d. elim (cases_lt d TERMINATED) [
      | inl low ↦ set_has words d low ∙ same d
      | inr above ↦ none_above (docs_of_set words) d sound.ascending above ∙ sym (none_above es d ascend above)
    ] in
    sym (picked_again (is_in words) (all_from 0 (bits_end words - 0)))
    ∙ ap (λ (ds : List ℕ). map document ds) (same_docs (docs_of_set words) es sound.ascending ascend alike ∙ ap docs_of is ∙ docs_again docs)
    ∙ sym is

-- an empty set has no document
pub none_in : (d : ℕ) → is_in [] d ≡ false
none_in d = ap (λ (w : ℕ). nat_eq (bit_at w (d % 64)) 1) (get_or-eq_default [] 0 {n = d / 64} (omega arith)) ∙ ap (λ (b : ℕ). nat_eq b 1) (bit_at-zero (d % 64))
