-- The text of a character of a path.
use Rattle.std.proofs.Common.{◌≡◌, ◌<◌, ◌≤◌, lit<, ℕ, All, Bool, true, false, ◌==◌, List, [], ◌∷◌, ap, arith, refl, ⊎_elim}
use lib.Utf8.{encode}
use Rattle.std.proofs.lemmas.Bool.{cases_lt, eqb-true, ne_eqb}
use Rattle.std.proofs.lemmas.List.Elements.{All-head, All-tail}
use Rattle.std.proofs.lemmas.Str.{encode_ascii}
use Rattle.ii_base.proofs.CharLemmas.{past_ascii}
use Rattle.ii_term_text.specs.PathTexts.{is_escaped, path_text}

-- bytes past ASCII are as they are
past : (xs : List ℕ) → All (λ b. 128 ≤ b) xs → path_text xs ≡ xs
past [] high = refl
past (x ∷ xs) high =
    let h = All-head (λ b. 128 ≤ b) x xs high in
    rw (ne_eqb x 1 (λ e. omega (arith, e, h)), ne_eqb x 46 (λ e. omega (arith, e, h)), ne_eqb x 92 (λ e. omega (arith, e, h)), ne_eqb x 32 (λ e. omega (arith, e, h)))
    (ap (λ (l : List ℕ). x ∷ l) (past xs (All-tail (λ b. 128 ≤ b) x xs high)))

pub separator : (c : ℕ) → (c == 1) ≡ true → path_text (encode c) ≡ 46 ∷ []
separator c one = let is = eqb-true c 1 one in rw (is, encode_ascii 1 (lit< tt)) refl

pub plain_char : (c : ℕ) → (c == 1) ≡ false → is_escaped c ≡ false → path_text (encode c) ≡ encode c
plain_char c one plain = ⊎_elim (λ low. rw (encode_ascii c low, one, plain) refl) (λ high. past (encode c) (past_ascii c high)) (cases_lt c 128)

low_by : (c : ℕ) → is_escaped c ≡ true → c < 128
low_by c h = by (c == 46) (c == 92) refl refl
  where
    by : (dot backslash : Bool) → (c == 46) ≡ dot → (c == 92) ≡ backslash → c < 128
    by true b is e = let same = eqb-true c 46 is in omega (arith, same)
    by false true is e = let same = eqb-true c 92 e in omega (arith, same)
    by false false is e = let same = eqb-true c 32 (rw (is, e) at h) in omega (arith, same)

pub kept_char : (c : ℕ) → (c == 1) ≡ false → is_escaped c ≡ true → path_text (encode c) ≡ 92 ∷ encode c
kept_char c one kept = rw (encode_ascii c (low_by c kept), one, kept) refl
