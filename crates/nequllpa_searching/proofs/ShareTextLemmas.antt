-- Texts of shares, one after the other.
use Rattle.std.proofs.Common.{◌≡◌, ◌∙◌, ℕ, ◌+◌, ◌<◌, String, Global, List, [], ◌∷◌, ◌++◌, add-one, ap, append_assoc, flat_map, get_or, length, map, string_bytes, subst, sym, take}
use Rattle.std.specs.List.{AllZip, join_with_byte}
use Rattle.std.proofs.Math.Seq.{take-suc}
use Rattle.std.proofs.lemmas.Grind.{flat_map-append}
use Rattle.std.proofs.lemmas.List.{append-nil, map-append}
use Rattle.ii_ranking.specs.declared.shares.Share.{Share}
use Rattle.ii_ranking.specs.Shares.{ShareState, share_of}
use Rattle.nequllpa_opening.proofs.OpenLemmas.{zip_push}

-- joined texts: the first one, and then each after a comma
pub joined : (f : ShareState → List ℕ) (x : ShareState) (xs : List ShareState) → join_with_byte 44 (map f (x ∷ xs)) ≡ f x ++ flat_map (λ (s : ShareState). 44 ∷ f s) xs
joined f x [] = sym (append-nil (f x))
joined f x (y ∷ ys) = ap (λ (text : List ℕ). f x ++ 44 ∷ text) (joined f y ys)

-- ten texts, one after the other
pub ten_appended : (t t1 t2 t3 t4 t5 t6 t7 t8 t9 t10 a b c d e f g h i j : List ℕ) → t1 ≡ t ++ a → t2 ≡ t1 ++ b → t3 ≡ t2 ++ c → t4 ≡ t3 ++ d → t5 ≡ t4 ++ e → t6 ≡ t5 ++ f → t7 ≡ t6 ++ g → t8 ≡ t7 ++ h → t9 ≡ t8 ++ i → t10 ≡ t9 ++ j
    → t10 ≡ t ++ (a ++ b ++ c ++ d ++ e ++ f ++ g ++ h ++ i ++ j)
ten_appended t t1 t2 t3 t4 t5 t6 t7 t8 t9 t10 a b c d e f g h i j e1 e2 e3 e4 e5 e6 e7 e8 e9 e10 = rw (e10, e9, e8, e7, e6, e5, e4, e3, e2, e1) (simp append_assoc)

-- one text more
pub texts_more : (f : ShareState → List ℕ) (shares : List Share) (i : ℕ) (s : Share) → i < length shares → s ≡ get_or shares i s
    → flat_map f (map share_of (take (i + 1) shares)) ≡ flat_map f (map share_of (take i shares)) ++ f (share_of s)
texts_more f shares i s inside is =
    ap (λ (row : List Share). flat_map f (map share_of row)) (ap (λ (n : ℕ). take n shares) (add-one i) ∙ take-suc shares i s inside ∙ ap (λ (t : Share). take i shares ++ t ∷ []) (sym is))
    ∙ ap (flat_map f) (map-append share_of (take i shares) (s ∷ [])) ∙ flat_map-append f (map share_of (take i shares)) (share_of s ∷ [])
    ∙ ap (λ (text : List ℕ). flat_map f (map share_of (take i shares)) ++ text) (append-nil (f (share_of s)))

-- the next pair of a document and its text
pub zip_next : (R : ℕ × ℕ → List ℕ → Type 0) (best : List (ℕ × ℕ)) (i : ℕ) (texts new : List (String Global)) (text : String Global) → i < length best → new ≡ texts ++ text ∷ [] → AllZip R (take i best) (map string_bytes texts)
    → R (get_or best i (0, 0)) (string_bytes text) → AllZip R (take (i + 1) best) (map string_bytes new)
zip_next R best i texts new text inside is all here =
    let first : take (i + 1) best ≡ take i best ++ get_or best i (0, 0) ∷ [] = ap (λ (n : ℕ). take n best) (add-one i) ∙ take-suc best i (0, 0) inside in
    let second : map string_bytes new ≡ map string_bytes texts ++ string_bytes text ∷ [] = ap (map string_bytes) is ∙ map-append string_bytes texts (text ∷ []) in
    subst (λ (row : List (ℕ × ℕ)). AllZip R row (map string_bytes new)) (sym first)
    (subst (λ (row : List (List ℕ)). AllZip R (take i best ++ get_or best i (0, 0) ∷ []) row) (sym second) (zip_push R (take i best) (map string_bytes texts) (get_or best i (0, 0)) (string_bytes text) all here))
