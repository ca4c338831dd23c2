-- Dots for the byte between segments, in texts.
use Rattle.std.proofs.Common.{◌≡◌, ℕ, ◌+◌, ◌/◌, ◌<◌, ◌≤◌, Bool, true, false, cond, nat_lt, nat_eq, List, [], ◌∷◌, ◌++◌, map, map-id, append-nil, refl, sym, ap, arith, ◌∙◌}
use lib.Utf8.{encode, encodes, next}
use Rattle.std.proofs.lemmas.Bool.{ltb-false, ltb-true, ne_eqb}
use Rattle.std.proofs.lemmas.List.{map-append}
use Rattle.std.proofs.lemmas.Str.{encode_ascii, encodes-append, encodes-chars}
use Rattle.std.specs.Str.{IsUtf8, chars}
use Rattle.ii_json.specs.DottedPaths.{dot_between, with_dots}

dot_low : (n : ℕ) → n < 128 → dot_between n < 128
dot_low n low = by_case (nat_eq n 1)
  where
    by_case : (b : Bool) → cond b 46 n < 128
    by_case true = omega (arith)
    by_case false = low

not_one : (n : ℕ) → 128 ≤ n → nat_eq n 1 ≡ false
not_one n high = ne_eqb n 1 (λ is. absurd (omega (arith, is, high)))

dot_high : (n : ℕ) → 128 ≤ n → dot_between n ≡ n
dot_high n high = rw (not_one n high) refl

next_high : (bits : ℕ) → dot_between (next bits) ≡ next bits
next_high bits = dot_high (next bits) (omega (arith))

high_bytes : (c : ℕ) → 128 ≤ c → map dot_between (encode c) ≡ encode c
unfolding encode
high_bytes c high = by_case (nat_lt c 128) (nat_lt c 2048) (nat_lt c 65536) refl
  where
    by_case : (a b d : Bool) → nat_lt c 128 ≡ a
        → map dot_between (cond a (c ∷ []) (cond b ((192 + c / 64) ∷ next c ∷ []) (cond d ((224 + c / 4096) ∷ next (c / 64) ∷ next c ∷ []) ((240 + c / 262144) ∷ next (c / 4096) ∷ next (c / 64) ∷ next c ∷ []))))
        ≡ cond a (c ∷ []) (cond b ((192 + c / 64) ∷ next c ∷ []) (cond d ((224 + c / 4096) ∷ next (c / 64) ∷ next c ∷ []) ((240 + c / 262144) ∷ next (c / 4096) ∷ next (c / 64) ∷ next c ∷ [])))
    by_case true b d is = ap (λ (n : ℕ). n ∷ []) (dot_high c high)
    by_case false true d is = rw (dot_high (192 + c / 64) (omega (arith)), next_high c) refl
    by_case false false true is = rw (dot_high (224 + c / 4096) (omega (arith)), next_high (c / 64), next_high c) refl
    by_case false false false is = rw (dot_high (240 + c / 262144) (omega (arith)), next_high (c / 4096), next_high (c / 64), next_high c) refl

dot_encode : (c : ℕ) → encode (dot_between c) ≡ map dot_between (encode c)
dot_encode c = by_case (nat_lt c 128) refl
  where
    by_case : (b : Bool) → nat_lt c 128 ≡ b → encode (dot_between c) ≡ map dot_between (encode c)
    by_case true is =
        let low = ltb-true c 128 is in
        encode_ascii (dot_between c) (dot_low c low) ∙ ap (map dot_between) (sym (encode_ascii c low))
    by_case false is =
        let high = ltb-false c 128 is in
        ap encode (dot_high c high) ∙ sym (high_bytes c high)

dots_encode : (cs : List ℕ) → encodes (map dot_between cs) ≡ map dot_between (encodes cs)
dots_encode [] = refl
dots_encode (c ∷ cs) =
    ap (λ (bs : List ℕ). bs ++ encodes (map dot_between cs)) (dot_encode c) ∙ ap (λ (bs : List ℕ). map dot_between (encode c) ++ bs) (dots_encode cs)
    ∙ sym (map-append dot_between (encode c) (encodes cs))

-- one character more
pub dots_more : (done : List ℕ) (cs : List ℕ) (c shown : ℕ) → done ≡ encodes (map dot_between cs) → shown ≡ dot_between c → done ++ encode shown ≡ encodes (map dot_between (cs ++ c ∷ []))
dots_more done cs c shown is dot =
    ap (λ (bs : List ℕ). bs ++ encode shown) is
    ∙ ap (λ (n : ℕ). encodes (map dot_between cs) ++ encode n) dot
    ∙ ap (λ (bs : List ℕ). encodes (map dot_between cs) ++ bs) (sym (append-nil (encode (dot_between c))))
    ∙ sym (encodes-append (map dot_between cs) (dot_between c ∷ []))
    ∙ ap encodes (sym (map-append dot_between cs (c ∷ [])))

-- all characters of a text
pub dots_all : (text done cs : List ℕ) → IsUtf8 text → map (λ (c : ℕ). c) cs ≡ chars text → done ≡ encodes (map dot_between cs) → done ≡ with_dots text
dots_all text done cs utf8 all is = is ∙ dots_encode cs ∙ ap (λ (ds : List ℕ). map dot_between (encodes ds)) (sym (map-id cs) ∙ all) ∙ ap (map dot_between) (encodes-chars text utf8)
