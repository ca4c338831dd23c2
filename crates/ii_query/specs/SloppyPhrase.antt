-- The documents of a phrase with slop, whose terms occur near their distances from each other.
use Rattle.std.specs.Prelude.{◌≡◌, ℕ, ◌+◌, ◌<◌, ◌≤◌, Bool, true, ◌&&◌, false, Option, None, Some, List, drop, filter, map, nat_le}
use Rattle.std.specs.List.{list_all, list_any, range_with_len}
use Rattle.ii_base.specs.Entries.{Entry, docs_of, document}
use Rattle.ii_docset.specs.Cursor.{positions_at}
use Rattle.ii_query.specs.Phrase.{PhraseMatchState, PhrasePartState, PhraseTermState, parts_have, parts_pass}
use Rattle.ii_query.specs.declared.phrase.TheConstants.{BEFORE_TEXT}

-- a phrase, and how far apart its terms may be beyond their distances
pub record SloppyPhraseMatchState (P : Type 0) : Type 0 where
  pub slop : ℕ
  pub phrase : PhraseMatchState P

-- whether a number is from a least one up to `slop` more
abbrev pub is_within : ℕ → ℕ → ℕ → Bool
is_within slop least n = nat_le least n && nat_le n (least + slop)

-- whether a position, moved forward by `back`, is within the slop of its distance from a start
abbrev pub is_near : ℕ → ℕ → ℕ → ℕ → List ℕ → Bool
is_near slop back start distance positions = list_any (λ (p : ℕ). is_within slop (start + distance) (p + back)) positions

-- how far before a position of the first term the positions may begin
abbrev pub ways_back : ℕ → List ℕ
ways_back slop = range_with_len 0 (slop + 1)

-- whether each other term occurs in a document near its distance from a position: all positions, each moved back by its distance, begin at most `slop` before that one, and end at most `slop` after they begin
abbrev pub stand_near : ℕ → List PhrasePartState → ℕ → ℕ → Bool
stand_near slop others doc start = list_any (λ (back : ℕ). parts_have (is_near slop back start) others doc) (ways_back slop)

-- whether they do for at least one position of an entry
abbrev pub begins_near : ℕ → List PhrasePartState → Entry → Bool
begins_near slop others e = list_any (stand_near slop others e.doc) e.positions

-- the documents of a phrase with slop
abbrev pub sloppy_docs : ℕ → List Entry → List PhrasePartState → List Entry
sloppy_docs slop es others = map document (docs_of (filter (begins_near slop others) es))

-- whether each other term occurs in its current document near its distance from a position
abbrev pub stand_near_here : ℕ → List PhrasePartState → ℕ → Bool
stand_near_here slop others start = list_any (λ (back : ℕ). parts_pass (is_near slop back start) others) (ways_back slop)

-- whether a term has a position in a window, among those that weren't passed; a window's start is counted from BEFORE_TEXT before the text on
abbrev pub is_in_window : {P : Type 0} → ℕ → ℕ → PhraseTermState P → Bool
is_in_window slop window t = is_near slop BEFORE_TEXT window t.part.distance (drop t.passed (positions_at t.part.rest))

-- whether each term has
abbrev pub are_in_window : {P : Type 0} → ℕ → List (PhraseTermState P) → ℕ → Bool
are_in_window slop terms window = list_all (is_in_window slop window) terms

-- The result is at least a first number, and no number from that on passes a test that is below the result, or any at all if there is no result. If it is the first number, that one passes.
abbrev pub IsRaised : (ℕ → Bool) → ℕ → Option ℕ → Type 0
IsRaised test low None = (n : ℕ) → low ≤ n → test n ≡ false
IsRaised test low (Some next) = (low ≤ next) × (next ≡ low → test low ≡ true) × ((n : ℕ) → low ≤ n → n < next → test n ≡ false)

-- The result is at least a first number, and no number from that on passes a test that is below the result, or any at all if there is no result. If it is at most an end, it passes.
abbrev pub IsRaisedTo : (ℕ → Bool) → ℕ → ℕ → Option ℕ → Type 0
IsRaisedTo test low end None = (n : ℕ) → low ≤ n → test n ≡ false
IsRaisedTo test low end (Some next) = (low ≤ next) × (next ≤ end → test next ≡ true) × ((n : ℕ) → low ≤ n → n < next → test n ≡ false)
