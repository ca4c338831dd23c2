-- The characters of a path's text and of its segments.
use Rattle.std.proofs.Common.{◌≡◌, ℕ, ◌≤◌, true, List, [], ◌∷◌, ◌++◌, append_assoc, append-nil, length, take, take_all, length-take, refl, sym, ap, arith, ◌∙◌, ⊎_elim}
use lib.Utf8.{encode}
use Rattle.std.specs.List.{All}
use Rattle.std.proofs.lemmas.Bool.{cases_lt, ne_eqb}
use Rattle.std.proofs.lemmas.List.{take-append-le}
use Rattle.std.proofs.lemmas.List.Elements.{All-from_get_or, All-head, All-tail}
use Rattle.std.proofs.lemmas.Str.{encode_ascii, inside_one, IsCharBoundary-from_take}
use Rattle.std.specs.Str.{IsCharBoundary, IsUtf8}
use Rattle.ii_base.specs.Paths.{segment_bytes}

-- no byte of a non-ASCII character is ASCII
pub past_ascii : (c : ℕ) → 128 ≤ c → All (λ b. 128 ≤ b) (encode c)
past_ascii c high =
    All-from_get_or (λ b. 128 ≤ b) (encode c) 0 (λ i within. ⊎_elim (λ low.
    let same = inside_one c [] (encode c) i (sym (append-nil (encode c))) within low in
    absurd (omega (arith, same, low, high))) (λ h. h) (cases_lt _ 128))

expanded_past : (xs rest : List ℕ) → All (λ b. 128 ≤ b) xs → segment_bytes true (xs ++ rest) ≡ xs ++ segment_bytes true rest
expanded_past [] rest high = refl
expanded_past (x ∷ xs) rest high = rw (ne_eqb x 46 (λ e. omega (arith, e, All-head (λ b. 128 ≤ b) x xs high))) (ap (λ (l : List ℕ). x ∷ l) (expanded_past xs rest (All-tail (λ b. 128 ≤ b) x xs high)))

pub expanded_other : (c : ℕ) (text rest : List ℕ) → text ≡ encode c ++ rest → (c ≡ 46 → ⊥) → segment_bytes true text ≡ encode c ++ segment_bytes true rest
expanded_other c text rest is other = rw is (⊎_elim (λ low. rw (encode_ascii c low, ne_eqb c 46 other) refl) (λ high. expanded_past (encode c) rest (past_ascii c high)) (cases_lt c 128))

pub expanded_dot : (c : ℕ) (text rest : List ℕ) → text ≡ encode c ++ rest → c ≡ 46 → segment_bytes true text ≡ 1 ∷ segment_bytes true rest
unfolding encode
expanded_dot c text rest is dot = rw (is, dot) refl

-- A segment is appended to a path: the bytes written and the remaining ones are the complete segment.
pub record IsExpanding (before segment path rest : List ℕ) : Type 0 where
  pub whole : path ++ segment_bytes true rest ≡ before ++ segment_bytes true segment
  pub front : take (length before) path ≡ before

pub expanding_begun : (before segment rest : List ℕ) → rest ≡ segment → IsExpanding before segment before rest
expanding_begun before segment rest is = record {
  whole = rw is refl;
  front = take_all (length before) before (omega arith);
}

pub expanding_more : (before segment path text rest piece : List ℕ) → IsExpanding before segment path text → segment_bytes true text ≡ piece ++ segment_bytes true rest → IsExpanding before segment (path ++ piece) rest
expanding_more before segment path text rest piece is next = record {
  whole = append_assoc path piece (segment_bytes true rest) ∙ ap (λ (l : List ℕ). path ++ l) (sym next) ∙ is.whole;
  front = kept_front before path piece is.front;
}
  where
    kept_front : (before path piece : List ℕ) → take (length before) path ≡ before → take (length before) (path ++ piece) ≡ before
    kept_front before path piece front =
        let within : length before ≤ length path = omega (arith, ap length front, length-take (length before) path) in
        take-append-le (length before) path piece within ∙ front

-- a text may be cut after a prefix that is a text
pub cut_behind_front : (bytes front : List ℕ) (n : ℕ) → IsUtf8 bytes → IsUtf8 front → take n bytes ≡ front → n ≡ length front → IsCharBoundary bytes n
cut_behind_front bytes front n whole utf8 is len =
    let within : n ≤ length bytes = omega (arith, len, ap length is, length-take n bytes) in
    IsCharBoundary-from_take bytes n whole within (rw is utf8)
