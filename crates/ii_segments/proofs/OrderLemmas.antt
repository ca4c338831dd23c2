-- The order of tokens and entries by their documents.
use Rattle.std.proofs.Common.{◌≡◌, ℕ, zero, suc, ◌+◌, ◌<◌, ◌≤◌, Bool, true, false, List, [], ◌∷◌, ◌++◌, get_or, length, map, nat_eq, refl, arith}
use Rattle.std.specs.Prelude.{filter}
use Rattle.std.specs.List.{AllByRecursion}
use Rattle.std.specs.List.Sorted.{IsNonDecreasingBy}
use Rattle.ii_base.specs.Entries.{Entry}
use Rattle.ii_alive.specs.Alive.{num_living, rank}
use Rattle.ii_alive.proofs.RankLemmas.{rank_mono}
use Rattle.ii_definitions.specs.Postings.{grouped, with_token}
use Rattle.ii_definitions.specs.Tokens.{IndexToken}
use Rattle.ii_segments.specs.Segments.{Segment, at_rank, living_tokens, tokens_from}
use Rattle.ii_segments.proofs.MergeLaws.{living_below, of_living}

abbrev doc_of : IndexToken → ℕ
doc_of t = t.doc

-- The documents of tokens don't fall, and are at least a number.
abbrev pub Ascend : ℕ → List IndexToken → Type 0
Ascend least [] = Unit {0}
Ascend least (t ∷ ts) = (least ≤ t.doc) × Ascend t.doc ts

-- The same for entries.
abbrev pub EntriesAscend : ℕ → List Entry → Type 0
EntriesAscend least [] = Unit {0}
EntriesAscend least (e ∷ es) = (least ≤ e.doc) × EntriesAscend e.doc es

pub lower_entries : (less least : ℕ) (es : List Entry) → less ≤ least → EntriesAscend least es → EntriesAscend less es
lower_entries less least [] within ascend = tt
lower_entries less least (e ∷ es) within ascend = (omega (arith, ascend.0), ascend.1)

lower : (less least : ℕ) (ts : List IndexToken) → less ≤ least → Ascend least ts → Ascend less ts
lower less least [] within ascend = tt
lower less least (t ∷ ts) within ascend = (omega (arith, ascend.0), ascend.1)

without_first : (t : IndexToken) (ts : List IndexToken) → IsNonDecreasingBy doc_of (t ∷ ts) → IsNonDecreasingBy doc_of ts
without_first t ts ordered = λ i j d within here. ordered (suc i) (suc j) d (omega arith) (omega arith)

ascend_after : (t : IndexToken) (ts : List IndexToken) → IsNonDecreasingBy doc_of (t ∷ ts) → Ascend t.doc ts
ascend_after t [] ordered = tt
ascend_after t (u ∷ us) ordered = (ordered 0 1 t (omega arith) (omega arith), ascend_after u us (without_first t (u ∷ us) ordered))

pub ascend_from_order : (ts : List IndexToken) → IsNonDecreasingBy doc_of ts → Ascend 0 ts
ascend_from_order [] ordered = tt
ascend_from_order (t ∷ ts) ordered = (omega arith, ascend_after t ts ordered)

at_least : (least : ℕ) (ts : List IndexToken) → Ascend least ts → (j : ℕ) (d : IndexToken) → j < length ts → least ≤ doc_of (get_or ts j d)
at_least least [] ascend j d here = absurd (omega arith)
at_least least (t ∷ ts) ascend zero d here = ascend.0
at_least least (t ∷ ts) ascend (suc j) d here = omega (arith, ascend.0, at_least t.doc ts ascend.1 j d (omega arith))

pub order_from_ascend : (least : ℕ) (ts : List IndexToken) → Ascend least ts → IsNonDecreasingBy doc_of ts
order_from_ascend least [] ascend = λ i j d within here. absurd (omega arith)
order_from_ascend least (t ∷ ts) ascend = λ i j d within here. by (order_from_ascend t.doc ts ascend.1) i j d within here
  where
    by : IsNonDecreasingBy doc_of ts → (i j : ℕ) (d : IndexToken) → i ≤ j → j < length (t ∷ ts) → doc_of (get_or (t ∷ ts) i d) ≤ doc_of (get_or (t ∷ ts) j d)
    by others zero zero d within here = omega arith
    by others zero (suc j) d within here = at_least t.doc ts ascend.1 j d (omega arith)
    by others (suc i) zero d within here = absurd (omega arith)
    by others (suc i) (suc j) d within here = others i j d (omega arith) (omega arith)

both_ascend : (least m : ℕ) (xs ys : List IndexToken) → Ascend least xs → AllByRecursion (λ (t : IndexToken). t.doc < m) xs → least ≤ m → Ascend m ys → Ascend least (xs ++ ys)
both_ascend least m [] ys first below within second = lower least m ys within second
both_ascend least m (t ∷ xs) ys first below within second =
    let small : t.doc < m = below.0 in
    (first.0, both_ascend t.doc m xs ys first.1 below.1 (omega arith) second)

pub filter_ascends : (p : IndexToken → Bool) (least : ℕ) (ts : List IndexToken) → Ascend least ts → Ascend least (filter p ts)
filter_ascends p least [] ascend = tt
filter_ascends p least (t ∷ ts) ascend = by (p t) refl (filter_ascends p t.doc ts ascend.1)
  where
    by : (b : Bool) → p t ≡ b → Ascend t.doc (filter p ts) → Ascend least (filter p (t ∷ ts))
    by true kept others = rw kept (ascend.0, others)
    by false lost others = rw lost (lower least t.doc (filter p ts) ascend.0 others)

living_ascend : (base least : ℕ) (alive : List Bool) (ts : List IndexToken) → Ascend least ts → Ascend (base + rank alive least) (map (at_rank base alive) (filter (of_living alive) ts))
living_ascend base least alive [] ascend = tt
living_ascend base least alive (t ∷ ts) ascend = by (of_living alive t) refl (living_ascend base t.doc alive ts ascend.1)
  where
    by : (b : Bool) → of_living alive t ≡ b → Ascend (base + rank alive t.doc) (map (at_rank base alive) (filter (of_living alive) ts))
        → Ascend (base + rank alive least) (map (at_rank base alive) (filter (of_living alive) (t ∷ ts)))
    by true living others = rw living (omega (arith, rank_mono alive least t.doc ascend.0), others)
    by false dead others =
        rw dead (lower (base + rank alive least) (base + rank alive t.doc) (map (at_rank base alive) (filter (of_living alive) ts)) (omega (arith, rank_mono alive least t.doc ascend.0)) others)

-- The tokens of each segment are in order.
abbrev pub AllAscend : List Segment → Type 0
AllAscend [] = Unit {0}
AllAscend (s ∷ ss) = Ascend 0 s.tokens × AllAscend ss

-- the tokens of an index of segments are in order
pub tokens_ascend : (base : ℕ) (ss : List Segment) → AllAscend ss → Ascend base (tokens_from base ss)
tokens_ascend base [] ascend = tt
tokens_ascend base (s ∷ ss) ascend =
    let n = num_living s.alive in
    both_ascend base (base + n) (living_tokens base s) (tokens_from (base + n) ss)
    (lower base (base + rank s.alive 0) (living_tokens base s) (omega arith) (living_ascend base 0 s.alive s.tokens ascend.0))
    (living_below base (base + n) s.alive s.tokens (omega arith))
    (omega arith)
    (tokens_ascend (base + n) ss ascend.1)

with_ascends : (least : ℕ) (t : IndexToken) (es : List Entry) → least ≤ t.doc → EntriesAscend t.doc es → EntriesAscend least (with_token t es)
with_ascends least t [] within ascend = (within, tt)
with_ascends least t (e ∷ es) within ascend = by (nat_eq e.doc t.doc) refl
  where
    by : (b : Bool) → nat_eq e.doc t.doc ≡ b → EntriesAscend least (with_token t (e ∷ es))
    by true same = rw same (omega (arith, within, ascend.0), ascend.1)
    by false other = rw other (within, ascend)

pub grouped_ascend : (least : ℕ) (ts : List IndexToken) → Ascend least ts → EntriesAscend least (grouped ts)
grouped_ascend least [] ascend = tt
grouped_ascend least (t ∷ ts) ascend = with_ascends least t (grouped ts) ascend.0 (grouped_ascend t.doc ts ascend.1)
