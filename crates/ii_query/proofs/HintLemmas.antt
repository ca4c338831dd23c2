-- Hints are at least as great as the numbers of remaining documents.
use Rattle.std.proofs.Common.{◌≡◌, ℕ, zero, suc, ◌+◌, ◌-◌, ◌^◌, ◌<◌, ◌≤◌, min, Bool, List, [], ◌∷◌, add-one, get_or, length, refl, sym, ap, subst, ◌∙◌, inl, inr, arith}
use Rattle.std.proofs.lemmas.Bool.Decides.{leb_tells}
use Rattle.std.proofs.lemmas.List.Sums.{count_by-le-length, length-filter, sum_by-cons}
use Rattle.std.specs.Prelude.{IsPermutation, filter, map, nat_le}
use Rattle.std.specs.List.{AllByRecursion, sum_by}
use Rattle.ii_base.specs.Entries.{Entry, docs_of, document}
use Rattle.ii_docset.specs.Cursor.{IsSound, from_doc}
use Rattle.ii_docset.proofs.CursorLemmas.{documents_sound, length_below}
use Rattle.ii_query.specs.Combined.{QueryCursorState, StandsAt, StandsWithin, all_from, either, intersection_of, picked, put_all, put_in, union_of}
use Rattle.ii_query.specs.QueryCursor.{HasLeastHint, LeadsWith, rests, sum_of_hints}
use Rattle.ii_query.proofs.MeetLemmas.{each_permuted}
use Rattle.ii_query.proofs.UnionLemmas.{either_sound}

-- no more pass a test than there are
filter_short : {X : Type 0} (p : X → Bool) (xs : List X) → length (filter p xs) ≤ length xs
filter_short p xs = subst (λ (n : ℕ). n ≤ length xs) (sym (length-filter p xs)) (count_by-le-length p xs)

docs_long : (es : List Entry) → length (docs_of es) ≡ length es
docs_long [] = refl
docs_long (e ∷ es) = ap suc (docs_long es)

documents_long : (docs : List ℕ) → length (map document docs) ≡ length docs
documents_long [] = refl
documents_long (d ∷ ds) = ap suc (documents_long ds)

pub from_doc_short : (target : ℕ) (es : List Entry) → length (from_doc target es) ≤ length es
from_doc_short target es = filter_short (λ (e : Entry). nat_le target e.doc) es

pub picked_short : (holds : ℕ → Bool) (es : List Entry) → length (picked holds es) ≤ length es
picked_short holds es =
    let few = filter_short holds (docs_of es) in
    let one = documents_long (filter holds (docs_of es)) in
    let two = docs_long es in
    omega (arith, few, one, two)

-- documents from a first one on
pub all_long : (first n : ℕ) → length (all_from first n) ≡ n
all_long first zero = refl
all_long first (suc n) = ap suc (all_long (first + 1) n)

-- no more documents are kept than there are
pub kept_short : (holds : Entry → Bool) (es : List Entry) → length (map document (docs_of (filter holds es))) ≤ length es
kept_short holds es =
    let few = filter_short holds es in
    let made = documents_long (docs_of (filter holds es)) in
    let same = docs_long (filter holds es) in
    omega (arith, few, made, same)

put_in_short : (doc : ℕ) (ds : List ℕ) → length (put_in doc ds) ≤ suc (length ds)
put_in_short doc [] = omega arith
put_in_short doc (d ∷ ds) =
    let later = put_in_short doc ds in
    elim (leb_tells doc d) [
      | inl a ↦ elim (leb_tells d doc) [
        | inl b ↦ rw (a.0, b.0) (omega arith)
        | inr b ↦ rw (a.0, b.0) (omega arith)
      ]
      | inr a ↦ rw (a.0) (omega (arith, later))
    ]

put_all_short : (ds docs : List ℕ) → length (put_all ds docs) ≤ length ds + length docs
put_all_short [] docs = omega arith
put_all_short (d ∷ ds) docs = let later = put_all_short ds docs in let one = put_in_short d (put_all ds docs) in omega (arith, later, one)

pub either_short : (es fs : List Entry) → length (either es fs) ≤ length es + length fs
either_short es fs =
    let all = put_all_short (docs_of es) (docs_of fs) in
    let made = documents_long (put_all (docs_of es) (docs_of fs)) in
    let one = docs_long es in
    let two = docs_long fs in
    omega (arith, all, made, one, two)

-- documents are below `TERMINATED`, so they are fewer
pub sound_short : (es : List Entry) → IsSound es → length es ≤ 2 ^ 32 - 1
sound_short es sound = let low = length_below es sound.ascending in omega (arith, low)

-- a saturating sum of hints
pub either_hinted : (es fs : List Entry) (one two sum : ℕ) → IsSound (either es fs) → length es ≤ one → length fs ≤ two → sum ≡ min (one + two) (2 ^ 32 - 1) → length (either es fs) ≤ sum
either_hinted es fs one two total sound few less is =
    let both = either_short es fs in
    let low = sound_short (either es fs) sound in
    omega (arith, both, low, few, less, is)

-- A cursor's documents ascend, and its hint is at least their number.
pub record IsHinted {T : Type 0} (c : QueryCursorState T) : Type 0 where
  pub sound : IsSound c.rest
  pub enough : length c.rest ≤ c.hint

-- The sum of the hints of the first cursors, each of which is hinted.
abbrev pub hints_to : {T : Type 0} → ℕ → List (QueryCursorState T) → ℕ
hints_to zero cs = 0
hints_to (suc i) [] = 0
hints_to (suc i) (c ∷ cs) = c.hint + hints_to i cs

abbrev pub HintedTo : {T : Type 0} → ℕ → List (QueryCursorState T) → Type 0
HintedTo zero cs = Unit {0}
HintedTo (suc i) [] = Unit {0}
HintedTo (suc i) (c ∷ cs) = IsHinted c × HintedTo i cs

hints_more : {T : Type 0} (i : ℕ) (cs : List (QueryCursorState T)) (c : QueryCursorState T) → i < length cs → c ≡ get_or cs i c → hints_to (suc i) cs ≡ hints_to i cs + c.hint
hints_more i [] c inside is = absurd (omega (arith, inside))
hints_more zero (d ∷ ds) c inside is = let same = ap (λ (x : QueryCursorState _). x.hint) is in omega (arith, same)
hints_more (suc i) (d ∷ ds) c inside is = let later = hints_more i ds c (omega (arith, inside)) is in omega (arith, later)

-- one cursor more
pub hints_next : {T : Type 0} (i sum new : ℕ) (cs : List (QueryCursorState T)) (c : QueryCursorState T) → i < length cs → c ≡ get_or cs i c → sum ≡ min (hints_to i cs) (2 ^ 32 - 1) → new ≡ min (sum + c.hint) (2 ^ 32 - 1) → new ≡ min (hints_to (i + 1) cs) (2 ^ 32 - 1)
hints_next i total new cs c inside is so then_ =
    let more = hints_more i cs c inside is in
    let next : hints_to (i + 1) cs ≡ hints_to (suc i) cs = ap (λ (n : ℕ). hints_to n cs) (add-one i) in
    omega (arith, more, next, so, then_)

hinted_more : {T : Type 0} (i : ℕ) (cs : List (QueryCursorState T)) (c : QueryCursorState T) → i < length cs → c ≡ get_or cs i c → IsHinted c → HintedTo i cs → HintedTo (suc i) cs
hinted_more i [] c inside is h all = absurd (omega (arith, inside))
hinted_more zero (d ∷ ds) c inside is h all = (subst (λ (x : QueryCursorState _). IsHinted x) is h, tt)
hinted_more (suc i) (d ∷ ds) c inside is h all = (all.0, hinted_more i ds c (omega (arith, inside)) is h all.1)

pub hinted_next : {T : Type 0} (i : ℕ) (cs : List (QueryCursorState T)) (c : QueryCursorState T) → i < length cs → c ≡ get_or cs i c → IsHinted c → HintedTo i cs → HintedTo (i + 1) cs
hinted_next i cs c inside is h all = subst (λ (n : ℕ). HintedTo n cs) (sym (add-one i)) (hinted_more i cs c inside is h all)

hints_all : {T : Type 0} (cs : List (QueryCursorState T)) → hints_to (length cs) cs ≡ sum_by (λ (c : QueryCursorState T). c.hint) cs
hints_all [] = refl
hints_all (c ∷ cs) = ap (λ (n : ℕ). c.hint + n) (hints_all cs) ∙ sym (sum_by-cons (λ (d : QueryCursorState _). d.hint) c cs)

-- the sum of all
pub hints_end : {T : Type 0} (cs : List (QueryCursorState T)) (i sum : ℕ) → i ≡ length cs → sum ≡ min (hints_to i cs) (2 ^ 32 - 1) → sum ≡ sum_of_hints cs
hints_end cs i total all is = is ∙ ap (λ (n : ℕ). min (hints_to n cs) (2 ^ 32 - 1)) all ∙ ap (λ (n : ℕ). min n (2 ^ 32 - 1)) (hints_all cs)

-- The documents of a union are sound, and at most as many as the sum of the hints.
record IsWithin {T : Type 0} (cs : List (QueryCursorState T)) : Type 0 where
  sound : IsSound (union_of (rests cs))
  enough : length (union_of (rests cs)) ≤ hints_to (length cs) cs

within : {T : Type 0} (cs : List (QueryCursorState T)) → HintedTo (length cs) cs → IsWithin cs
within [] all = record { sound = documents_sound [] refl; enough = omega arith }
within (c ∷ cs) all =
    let later = within cs all.1 in
    let both = either_short c.rest (union_of (rests cs)) in
    let first = all.0.enough in
    let others = later.enough in
    record { sound = either_sound c.rest (union_of (rests cs)) all.0.sound later.sound; enough = omega (arith, both, first, others) }

pub union_hinted : {T : Type 0} (cs : List (QueryCursorState T)) (i sum : ℕ) → i ≡ length cs → HintedTo i cs → sum ≡ min (hints_to i cs) (2 ^ 32 - 1) → length (union_of (rests cs)) ≤ sum
union_hinted cs i total all hinted is =
    let w = within cs (subst (λ (n : ℕ). HintedTo n cs) all hinted) in
    let few = w.enough in
    let low = sound_short (union_of (rests cs)) w.sound in
    let same : hints_to i cs ≡ hints_to (length cs) cs = ap (λ (n : ℕ). hints_to n cs) all in
    omega (arith, few, low, is, same)

-- No hint of the first cursors is below a number.
abbrev pub NoneBelow : {T : Type 0} → ℕ → ℕ → List (QueryCursorState T) → Type 0
NoneBelow least zero cs = Unit {0}
NoneBelow least (suc i) [] = Unit {0}
NoneBelow least (suc i) (c ∷ cs) = (least ≤ c.hint) × NoneBelow least i cs

-- The hint of the cursor at an index is the least of the first hints.
pub record LeastTo {T : Type 0} (i at least : ℕ) (cs : List (QueryCursorState T)) : Type 0 where
  pub inside : at < length cs
  pub is : (c : QueryCursorState T) → c ≡ get_or cs at c → c.hint ≡ least
  pub none : NoneBelow least i cs

lower : {T : Type 0} (least new i : ℕ) (cs : List (QueryCursorState T)) → new ≤ least → NoneBelow least i cs → NoneBelow new i cs
lower least new zero cs less none = tt
lower least new (suc i) [] less none = tt
lower least new (suc i) (c ∷ cs) less none = let one = none.0 in (omega (arith, less, one), lower least new i cs less none.1)

below_more : {T : Type 0} (least i : ℕ) (cs : List (QueryCursorState T)) (c : QueryCursorState T) → i < length cs → c ≡ get_or cs i c → least ≤ c.hint → NoneBelow least i cs → NoneBelow least (suc i) cs
below_more least i [] c inside is low none = absurd (omega (arith, inside))
below_more least zero (d ∷ ds) c inside is low none = (subst (λ (x : QueryCursorState _). least ≤ x.hint) is low, tt)
below_more least (suc i) (d ∷ ds) c inside is low none = (none.0, below_more least i ds c (omega (arith, inside)) is low none.1)

-- an item doesn't depend on how it is named
same_item : {X : Type 0} (xs : List X) (i : ℕ) (x y : X) → i < length xs → x ≡ get_or xs i x → y ≡ get_or xs i y → y ≡ x
same_item [] i x y inside is also = absurd (omega (arith, inside))
same_item (z ∷ zs) zero x y inside is also = also ∙ sym is
same_item (z ∷ zs) (suc i) x y inside is also = same_item zs i x y (omega (arith, inside)) is also

-- the first one, before others are compared
pub least_first : {T : Type 0} (cs : List (QueryCursorState T)) (c : QueryCursorState T) (hint : ℕ) → 0 < length cs → c ≡ get_or cs 0 c → hint ≡ c.hint → LeastTo 0 0 hint cs
least_first cs c hint inside is so = record { inside = inside; is = λ d at. ap (λ (x : QueryCursorState _). x.hint) (same_item cs 0 c d inside is at) ∙ sym so; none = tt }

-- the next one is less
pub least_less : {T : Type 0} (i at least : ℕ) (cs : List (QueryCursorState T)) (c : QueryCursorState T) (hint : ℕ) → i < length cs → c ≡ get_or cs i c → hint ≡ c.hint → hint < least → LeastTo i at least cs → LeastTo (i + 1) i hint cs
least_less i at least cs c hint inside is so less l = record {
  inside = inside;
  is = λ d there. ap (λ (x : QueryCursorState _). x.hint) (same_item cs i c d inside is there) ∙ sym so;
  none = subst (λ (n : ℕ). NoneBelow hint n cs) (sym (add-one i)) (below_more hint i cs c inside is (omega (arith, so)) (lower least hint i cs (omega (arith, less)) l.none));
}

-- the next one isn't less
pub least_kept : {T : Type 0} (i at least : ℕ) (cs : List (QueryCursorState T)) (c : QueryCursorState T) (hint : ℕ) → i < length cs → c ≡ get_or cs i c → hint ≡ c.hint → least ≤ hint → LeastTo i at least cs → LeastTo (i + 1) at least cs
least_kept i at least cs c hint inside is so low l = record {
  inside = l.inside;
  is = l.is;
  none = subst (λ (n : ℕ). NoneBelow least n cs) (sym (add-one i)) (below_more least i cs c inside is (omega (arith, so, low)) l.none);
}

none_at_all : {T : Type 0} (least : ℕ) (cs : List (QueryCursorState T)) → NoneBelow least (length cs) cs → AllByRecursion (λ (d : QueryCursorState T). least ≤ d.hint) cs
none_at_all least [] none = tt
none_at_all least (c ∷ cs) none = (none.0, none_at_all least cs none.1)

-- all are compared
pub least_ends : {T : Type 0} (i at least : ℕ) (cs : List (QueryCursorState T)) → i ≡ length cs → LeastTo i at least cs → HasLeastHint at cs
least_ends i at least cs all l c is =
    subst (λ (n : ℕ). AllByRecursion (λ (d : QueryCursorState _). n ≤ d.hint) cs) (sym (l.is c is)) (none_at_all least cs (subst (λ (n : ℕ). NoneBelow least n cs) all l.none))

-- the cursor with the least hint leads
pub leads_with : {T : Type 0} (at hint : ℕ) (cs others : List (QueryCursorState T)) (leader : QueryCursorState T) → leader ≡ get_or cs at leader → HasLeastHint at cs → IsPermutation cs (leader ∷ others) → hint ≡ leader.hint → LeadsWith hint (leader ∷ others)
leads_with at hint cs others leader is least shuffled so = (so, each_permuted (λ (d : QueryCursorState _). leader.hint ≤ d.hint) cs (leader ∷ others) shuffled (least leader is))

-- the state with its hint
pub stands_within : (doc hint : ℕ) (es : List Entry) → StandsAt doc es → length es ≤ hint → StandsWithin doc hint es
stands_within doc hint es at few = record { sound = at.sound; here = at.here; enough = few }

pub intersection_short : (first : List Entry) (others : List (List Entry)) → length (intersection_of (first ∷ others)) ≤ length first
intersection_short first others = picked_short _ first
