-- The positions that begin a phrase within a slop are counted.
use Rattle.std.proofs.Common.{◌≡◌, ◌≢◌, ◌∙◌, ℕ, ◌+◌, ◌-◌, ◌<◌, ◌≤◌, Bool, true, false, Some, None, Option, List, [], ◌∷◌, suc, drop, filter, length, inl, inr, refl, sym, ap, add-one, arith}
use Rattle.std.specs.Prelude.{IfSome, max, slice_get}
use Rattle.std.specs.List.{AllByRecursion, list_any}
use Rattle.std.specs.List.Sorted.{IsNonDecreasing}
use Rattle.std.proofs.Math.Seq.{drop-cons}
use Rattle.std.proofs.lemmas.Bool.{cases_lt}
use Rattle.std.proofs.lemmas.List.Elements.{filter_agree}
use Rattle.std.proofs.lemmas.Option.{get_or_from_slice_get, slice_get_within}
use Rattle.ii_base.specs.declared.doc_id.TheConstants.{TERMINATED}
use Rattle.ii_docset.specs.Cursor.{position_before}
use Rattle.ii_query.specs.declared.phrase.TheConstants.{BEFORE_TEXT}
use Rattle.ii_query.specs.Phrase.{IsUnread, MeetsAt, PhrasePartState, PhraseTermState, parts_have, parts_in, parts_pass}
use Rattle.ii_query.specs.SloppyPhrase.{IsRaisedTo, are_in_window, is_near, stand_near, stand_near_here, ways_back}
use Rattle.ii_query.proofs.PhraseLemmas.{any_alike, any_none, pass_at}
use Rattle.ii_query.proofs.PieceLemmas.{after_next, all_passed, before_next, none_after}
use Rattle.ii_query.proofs.SloppyLemmas.{start_far, start_near}
use Rattle.ii_query.proofs.WindowLemmas.{unread_window}

-- Of the first positions, those that begin the phrase were counted. No window of a later one has the other terms below a number; from that on, nothing of theirs was passed.
pub record AreCounted {P : Type 0} (slop : ℕ) (starts : List ℕ) (parts : List PhrasePartState) (i low count : ℕ) (terms : List (PhraseTermState P)) : Type 0 where
  pub left : count + length (filter (stand_near_here slop parts) (drop i starts)) ≡ length (filter (stand_near_here slop parts) starts)
  pub few : count ≤ i
  pub none : (w : ℕ) → position_before i starts + BEFORE_TEXT ≤ w + slop → w < low → parts_pass (is_near slop BEFORE_TEXT w) parts ≡ false
  pub later : (w : ℕ) → low ≤ w → are_in_window slop terms w ≡ parts_pass (is_near slop BEFORE_TEXT w) parts

-- A window was sought for the next position, from the first one that is its own and wasn't tried.
pub record IsSought {P : Type 0} (slop : ℕ) (starts : List ℕ) (i low : ℕ) (found : Option ℕ) (terms later : List (PhraseTermState P)) : Type 0 where
  pub start : ℕ
  pub least : ℕ
  pub last : ℕ
  pub is : Some start ≡ slice_get starts i
  pub least_is : least ≡ max low (start + BEFORE_TEXT - slop)
  pub last_is : last ≡ start + BEFORE_TEXT
  pub raised : IsRaisedTo (are_in_window slop terms) least last found
  pub kept : IfSome found (λ (next : ℕ). (w : ℕ) → next ≤ w → are_in_window slop later w ≡ are_in_window slop terms w)

none_pass : (test : ℕ → Bool) (xs : List ℕ) → list_any test xs ≡ false → filter test xs ≡ []
none_pass test [] none = refl
none_pass test (x ∷ xs) none = by (test x) refl (none_pass test xs)
  where
    by : (b : Bool) → test x ≡ b → (list_any test xs ≡ false → filter test xs ≡ []) → filter test (x ∷ xs) ≡ []
    by true is later = absurd (let wrong : true ≡ false = rw is at none in cc)
    by false is later = let left : list_any test xs ≡ false = rw is at none in rw is (later left)

next_left : (starts : List ℕ) (i start : ℕ) → Some start ≡ slice_get starts i → drop i starts ≡ start ∷ drop (i + 1) starts
next_left starts i start is =
    let here = get_or_from_slice_get starts i start 0 (sym is) in
    drop-cons starts i 0 (slice_get_within starts i start (sym is)) ∙ rw (here, add-one i) refl

pub none_counted : {P : Type 0} (slop : ℕ) (starts : List ℕ) (i : ℕ) (terms : List (PhraseTermState P)) → i ≡ 0 → AllByRecursion IsUnread terms → AreCounted slop starts (parts_in terms) i 0 0 terms
none_counted slop starts i terms first unread = record {
  left = let all = ap (λ (k : ℕ). length (filter (stand_near_here slop (parts_in terms)) (drop k starts))) first in omega (arith, all);
  few = omega arith;
  none = λ w from low. absurd (omega (arith, low));
  later = λ w up. unread_window slop w terms unread;
}

module _ {P : Type 0} (slop : ℕ) (starts : List ℕ) (parts : List PhrasePartState) (small : slop ≤ BEFORE_TEXT) (order : IsNonDecreasing starts) (i low count : ℕ) (terms later : List (PhraseTermState P)) (c : AreCounted slop starts parts i low count terms) where
  -- no window of a position that is below the one that was found has the other terms
  missed : (found : Option ℕ) (s : IsSought slop starts i low found terms later) (bound w : ℕ) → ((n : ℕ) → s.least ≤ n → n < bound → are_in_window slop terms n ≡ false) → s.start + BEFORE_TEXT ≤ w + slop → w < bound → parts_pass (is_near slop BEFORE_TEXT w) parts ≡ false
  missed found s bound w none from below =
      let before = before_next starts i s.start order s.is in
      let least = s.least_is in
      elim (cases_lt w low) [
        | inl lower ↦ c.none w (omega (arith, before, from)) lower
        | inr above ↦ sym (c.later w above) ∙ none w (omega (arith, from, above, least)) below
      ]

  -- a position begins the phrase
  pub one_counted : (window : ℕ) (s : IsSought slop starts i low (Some window) terms later) → window ≤ s.last → AreCounted slop starts parts (i + 1) window (count + 1) later
  one_counted window s up =
      let from = s.raised.0 in
      let least = s.least_is in
      let last = s.last_is in
      let above : low ≤ window = omega (arith, from, least) in
      let holds = start_near slop window s.start parts (omega (arith, from, least)) (omega (arith, up, last)) (sym (c.later window above) ∙ s.raised.1 up) in
      let next : length (filter (stand_near_here slop parts) (s.start ∷ drop (i + 1) starts)) ≡ suc (length (filter (stand_near_here slop parts) (drop (i + 1) starts))) = rw holds refl in
      let split = ap (λ (ps : List ℕ). length (filter (stand_near_here slop parts) ps)) (next_left starts i s.start s.is) in
      let left = c.left in
      let few = c.few in
      let place = after_next starts i s.start s.is in
      record {
        left = omega (arith, left, split, next);
        few = omega (arith, few);
        none = λ w low_of below. missed (Some window) s window w s.raised.2 (omega (arith, place, low_of)) below;
        later = λ w high. s.kept w high ∙ c.later w (omega (arith, above, high));
      }

  -- a position doesn't
  pub one_passed_over : (window : ℕ) (s : IsSought slop starts i low (Some window) terms later) → s.last < window → AreCounted slop starts parts (i + 1) window count later
  one_passed_over window s over =
      let from = s.raised.0 in
      let least = s.least_is in
      let last = s.last_is in
      let fails = start_far slop s.start parts small (λ w low_of up. missed (Some window) s window w s.raised.2 low_of (omega (arith, up, over, last))) in
      let next : length (filter (stand_near_here slop parts) (s.start ∷ drop (i + 1) starts)) ≡ length (filter (stand_near_here slop parts) (drop (i + 1) starts)) = rw fails refl in
      let split = ap (λ (ps : List ℕ). length (filter (stand_near_here slop parts) ps)) (next_left starts i s.start s.is) in
      let left = c.left in
      let few = c.few in
      let place = after_next starts i s.start s.is in
      record {
        left = omega (arith, left, split, next);
        few = omega (arith, few);
        none = λ w low_of below. missed (Some window) s window w s.raised.2 (omega (arith, place, low_of)) below;
        later = λ w high. s.kept w high ∙ c.later w (omega (arith, from, least, high));
      }

  -- no later position does
  pub none_begins : (s : IsSought slop starts i low None terms later) → count ≡ length (filter (stand_near_here slop parts) starts)
  none_begins s =
      let fails = none_after (stand_near_here slop parts) starts i s.start order s.is
      (λ p above. start_far slop p parts small
      (λ w low_of up. missed None s (w + 1) w (λ n from below. s.raised n from) (omega (arith, above, low_of)) (omega arith)))
      in
      let none = ap length (none_pass (stand_near_here slop parts) (drop i starts) fails) in
      let left = c.left in
      omega (arith, left, none)

pub all_counted : {P : Type 0} (slop : ℕ) (starts : List ℕ) (parts : List PhrasePartState) (i low count : ℕ) (terms : List (PhraseTermState P)) → AreCounted slop starts parts i low count terms → None ≡ slice_get starts i → count ≡ length (filter (stand_near_here slop parts) starts)
all_counted slop starts parts i low count terms c is =
    let none = ap (λ (ps : List ℕ). length (filter (stand_near_here slop parts) ps)) (all_passed starts i is) in
    let left = c.left in
    omega (arith, left, none)

-- the other terms are at the document
pub counted_here : (slop doc : ℕ) (old new : List PhrasePartState) (positions : List ℕ) → MeetsAt doc old new doc → doc < TERMINATED → length (filter (stand_near_here slop new) positions) ≡ length (filter (stand_near slop old doc) positions)
counted_here slop doc old new positions m low =
    ap length (filter_agree (stand_near_here slop new) (stand_near slop old doc)
    (λ p. any_alike (λ (back : ℕ). parts_pass (is_near slop back p) new) (λ (back : ℕ). parts_have (is_near slop back p) old doc) (ways_back slop)
    (λ back. pass_at (is_near slop back p) new doc (m.met refl) low ∙ m.alike (is_near slop back p) doc (omega arith))) positions)

-- or one of them is at a greater document
pub counted_nowhere : (slop doc bound : ℕ) (old new : List PhrasePartState) (positions : List ℕ) → MeetsAt doc old new bound → bound ≢ doc → 0 ≡ length (filter (stand_near slop old doc) positions)
counted_nowhere slop doc bound old new positions m other =
    let low = m.low in
    let above : doc < bound = omega (arith, low, other) in
    sym (ap length (none_pass (stand_near slop old doc) positions
    (any_none (stand_near slop old doc) positions
    (λ p. any_none (λ (back : ℕ). parts_have (is_near slop back p) old doc) (ways_back slop)
    (λ back. sym (m.alike (is_near slop back p) doc (omega arith)) ∙ m.none (is_near slop back p) doc above above)))))
