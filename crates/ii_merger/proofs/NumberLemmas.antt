-- The numbers of living documents.
use Rattle.std.proofs.Common.{◌≡◌, ℕ, zero, suc, ◌+◌, ◌≤◌, Bool, true, false, List, [], ◌∷◌, ◌++◌, take, refl, ap, arith}
use Rattle.std.specs.List.{AllByRecursion}
use Rattle.std.proofs.lemmas.Bool.{le-leb, lt-ltb}
use Rattle.ii_base.specs.declared.doc_id.TheConstants.{TERMINATED}
use Rattle.ii_base.specs.Entries.{Entry, ascend_from, docs_of}
use Rattle.ii_docset.specs.Cursor.{IsAscending, doc_at}
use Rattle.ii_alive.specs.Alive.{num_living, rank}
use Rattle.ii_alive.proofs.RankLemmas.{living_cons, rank_mono, rank_strict}
use Rattle.ii_segments.specs.Segments.{entry_at_rank, is_living, living_entries}
use Rattle.ii_merger.specs.MergedTerm.{LieBetween}

pub rank_most : (alive : List Bool) (doc : ℕ) → rank alive doc ≤ num_living alive
rank_most [] zero = omega arith
rank_most [] (suc doc) = omega arith
rank_most (b ∷ bs) zero = omega arith
rank_most (b ∷ bs) (suc doc) = omega (arith, living_cons b bs, living_cons b (take doc bs), rank_most bs doc)

pub lower_between : (a b c : ℕ) (es : List Entry) → a ≤ b → LieBetween b c es → LieBetween a c es
lower_between a b c [] low between = omega (arith, low, between)
lower_between a b c (e ∷ es) low between = (omega (arith, low, between.0), between.1)

pub raise_between : (a b c : ℕ) (es : List Entry) → LieBetween a b es → b ≤ c → LieBetween a c es
raise_between a b c [] between high = omega (arith, between, high)
raise_between a b c (e ∷ es) between high = (between.0, raise_between (suc e.doc) b c es between.1 high)

pub between_both : (a b c : ℕ) (xs ys : List Entry) → LieBetween a b xs → LieBetween b c ys → LieBetween a c (xs ++ ys)
between_both a b c [] ys first second = lower_between a b c ys first second
between_both a b c (x ∷ xs) ys first second = (first.0, between_both (suc x.doc) b c xs ys first.1 second)

-- documents in order below the limit of all documents
pub are_in_order : (least limit : ℕ) (es : List Entry) → LieBetween least limit es → limit ≤ TERMINATED → ascend_from least (docs_of es) ≡ true
are_in_order least limit [] between low = refl
are_in_order least limit (e ∷ es) between low =
    let high = in_order_below (suc e.doc) limit es between.1 in
    let next : e.doc + 1 ≡ suc e.doc = omega arith in
    rw (le-leb least e.doc between.0, lt-ltb e.doc TERMINATED (omega (arith, low, high)), next) (are_in_order (suc e.doc) limit es between.1 low)
  where
    in_order_below : (a b : ℕ) (fs : List Entry) → LieBetween a b fs → a ≤ b
    in_order_below a b [] between = between
    in_order_below a b (f ∷ fs) between = omega (arith, between.0, in_order_below (suc f.doc) b fs between.1)

-- the number of a living document, and the next one
pub rank_next : (alive : List Bool) (doc : ℕ) → is_living alive doc ≡ true → suc (rank alive doc) ≤ rank alive (suc doc)
rank_next alive doc living = rank_strict alive doc (suc doc) living (omega arith)

-- living documents from one on have numbers from its rank on
pub living_between : (base : ℕ) (alive : List Bool) (doc : ℕ) (es : List Entry) → doc ≤ doc_at es → IsAscending es → LieBetween (base + rank alive doc) (base + num_living alive) (living_entries base alive es)
living_between base alive doc [] low ascending = omega (arith, rank_most alive doc)
living_between base alive doc (e ∷ es) low ascending = by (is_living alive e.doc) refl (living_between base alive (suc e.doc) es (omega (arith, ascending.0)) ascending.1)
  where
    by : (b : Bool) → is_living alive e.doc ≡ b → LieBetween (base + rank alive (suc e.doc)) (base + num_living alive) (living_entries base alive es)
        → LieBetween (base + rank alive doc) (base + num_living alive) (living_entries base alive (e ∷ es))
    by true living later =
        let next = rank_next alive e.doc living in
        let here = rank_mono alive doc e.doc low in
        rw living (omega (arith, here), lower_between (suc (base + rank alive e.doc)) (base + rank alive (suc e.doc)) (base + num_living alive) (living_entries base alive es) (omega (arith, next)) later)
    by false dead later =
        let here = rank_mono alive doc (suc e.doc) (omega (arith, low)) in
        rw dead (lower_between (base + rank alive doc) (base + rank alive (suc e.doc)) (base + num_living alive) (living_entries base alive es) (omega (arith, here)) later)

-- the entries of living documents in two lists
pub living_both : (base : ℕ) (alive : List Bool) (xs ys : List Entry) → living_entries base alive (xs ++ ys) ≡ living_entries base alive xs ++ living_entries base alive ys
living_both base alive [] ys = refl
living_both base alive (x ∷ xs) ys = by (is_living alive x.doc) refl (living_both base alive xs ys)
  where
    by : (b : Bool) → is_living alive x.doc ≡ b → living_entries base alive (xs ++ ys) ≡ living_entries base alive xs ++ living_entries base alive ys → living_entries base alive ((x ∷ xs) ++ ys) ≡ living_entries base alive (x ∷ xs) ++ living_entries base alive ys
    by true living later = rw living (ap (λ (es : List Entry). entry_at_rank base alive x ∷ es) later)
    by false dead later = rw dead later

-- what holds of entries whatever their documents are holds of the living ones
pub all_living_entries : (P : Entry → Type 0) → ((e : Entry) (doc : ℕ) → P e → P (record e { doc = doc })) → (base : ℕ) (alive : List Bool) (es : List Entry) → AllByRecursion P es → AllByRecursion P (living_entries base alive es)
all_living_entries P moved base alive [] all = tt
all_living_entries P moved base alive (e ∷ es) all = by (is_living alive e.doc) refl (all_living_entries P moved base alive es all.1)
  where
    by : (b : Bool) → is_living alive e.doc ≡ b → AllByRecursion P (living_entries base alive es) → AllByRecursion P (living_entries base alive (e ∷ es))
    by true living later = rw living (moved e (base + rank alive e.doc) all.0, later)
    by false dead later = rw dead later
