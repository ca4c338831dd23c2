-- Tests of each number from 0 on, and pieces one after the other.
use Rattle.std.specs.List.{flat_map, list_all, range_with_len}
use Rattle.std.proofs.Common.{◌≡◌, ℕ, zero, suc, ◌+◌, ◌*◌, ◌<◌, Bool, true, false, List, [], ◌∷◌, ◌++◌, length, take, drop, get_or, zero-add, refl, sym, ap, ◌∙◌, arith, append_assoc, length-append}
use Rattle.std.proofs.Math.Nat.{zero-mul, suc-mul}
use Rattle.std.proofs.lemmas.Bool.{false≢true}
use Rattle.std.proofs.lemmas.Grind.{flat_map-append}
use Rattle.std.proofs.lemmas.List.{map-id, drop_at, take-append-drop, drop_more}
use Rattle.std.proofs.lemmas.List.Folds.{list_all-append, list_all_at}
use Rattle.std.proofs.lemmas.List.FromFn.{map-range_with_len_more, get_or-range_with_len, length-range_with_len}

-- a range with one more number
pub range_more : (a n : ℕ) → range_with_len a (n + 1) ≡ range_with_len a n ++ (a + n) ∷ []
range_more a n = sym (map-id (range_with_len a (n + 1))) ∙ map-range_with_len_more (λ (k : ℕ). k) a n (a + n) refl ∙ ap (λ (xs : List ℕ). xs ++ (a + n) ∷ []) (map-id (range_with_len a n))

-- a test of each number from 0 on
pub all_more : (p : ℕ → Bool) (n : ℕ) → list_all p (range_with_len 0 n) ≡ true → p n ≡ true → list_all p (range_with_len 0 (n + 1)) ≡ true
all_more p n h one =
    let here : 0 + n ≡ n = omega arith in
    rw (range_more 0 n, list_all-append p (range_with_len 0 n) ((0 + n) ∷ []), h, here, one) refl

pub not_false : (b : Bool) → (b ≡ false → ⊥) → b ≡ true
not_false true h = refl
not_false false h = absurd (h refl)

pub all_at : (p : ℕ → Bool) (n k : ℕ) → k < n → list_all p (range_with_len 0 n) ≡ true → p k ≡ true
all_at p n k h all =
    let at_k : get_or (range_with_len 0 n) k 0 ≡ k = get_or-range_with_len 0 n k 0 h ∙ zero-add k in
    not_false (p k) (λ fails. false≢true (sym (list_all_at p (range_with_len 0 n) k 0 (rw (length-range_with_len 0 n) h) (ap p at_k ∙ fails)) ∙ all))

pub not_all : (p : ℕ → Bool) (n k : ℕ) → k < n → p k ≡ false → list_all p (range_with_len 0 n) ≡ false
not_all p n k h fails =
    let at_k : get_or (range_with_len 0 n) k 0 ≡ k = get_or-range_with_len 0 n k 0 h ∙ zero-add k in
    list_all_at p (range_with_len 0 n) k 0 (rw (length-range_with_len 0 n) h) (ap p at_k ∙ fails)

-- the bytes after a prefix
pub after_front : (front piece more rest : List ℕ) (place : ℕ) → place ≡ length front → drop place (((front ++ piece) ++ more) ++ rest) ≡ piece ++ (more ++ rest)
after_front front piece more rest place e =
    ap (drop place) (append_assoc (front ++ piece) more rest ∙ append_assoc front piece (more ++ rest)) ∙ drop_at front (piece ++ (more ++ rest)) place (sym e)

-- five pieces, as they are written and as they are read
pub append_assoc-five : (a b c d e : List ℕ) → (((a ++ b) ++ c) ++ d) ++ e ≡ a ++ (b ++ (c ++ (d ++ e)))
append_assoc-five a b c d e = simp append_assoc

-- the piece of element i of a list
pub flat_around : {X : Type 0} (f : X → List ℕ) (xs : List X) (i : ℕ) (d : X) → i < length xs → flat_map f xs ≡ (flat_map f (take i xs) ++ f (get_or xs i d)) ++ flat_map f (drop (i + 1) xs)
flat_around f xs i d h =
    let whole = sym (take-append-drop i xs) in
    let rest = drop_more xs i d h in
    ap (flat_map f) whole ∙ flat_map-append f (take i xs) (drop i xs) ∙ ap (λ (zs : List _). flat_map f (take i xs) ++ flat_map f zs) rest
    ∙ sym (append_assoc (flat_map f (take i xs)) (f (get_or xs i d)) (flat_map f (drop (i + 1) xs)))

pub length-each : {X : Type 0} (f : X → List ℕ) (size : ℕ) (xs : List X) → ((x : X) → length (f x) ≡ size) → length (flat_map f xs) ≡ length xs * size
length-each f size [] h = sym (zero-mul size)
length-each f size (x ∷ xs) h =
    let next : size + length xs * size ≡ suc (length xs) * size = omega (arith, suc-mul (length xs) size) in
    length-append (f x) (flat_map f xs) ∙ ap (λ (n : ℕ). n + length (flat_map f xs)) (h x) ∙ ap (λ (n : ℕ). size + n) (length-each f size xs h) ∙ next

-- a test that holds for each number from 0 on
pub all_pass : (p : ℕ → Bool) (n : ℕ) → ((k : ℕ) → k < n → p k ≡ true) → list_all p (range_with_len 0 n) ≡ true
all_pass p zero h = refl
all_pass p (suc n) h =
    let one : suc n ≡ n + 1 = omega arith in
    ap (λ (m : ℕ). list_all p (range_with_len 0 m)) one ∙ all_more p n (all_pass p n (λ k below. h k (omega arith))) (h n (omega arith))
