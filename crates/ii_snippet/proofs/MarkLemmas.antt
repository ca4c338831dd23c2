-- Laws of written texts.
use Rattle.std.proofs.Common.{◌≡◌, ◌∙◌, ℕ, List, [], ◌∷◌, ◌++◌, ap, append_assoc, arith, chars, length, refl, sym}
use Rattle.std.specs.Char.{encode_utf8}
use Rattle.std.specs.List.{flat_map}
use Rattle.std.specs.Str.{IsUtf8}
use Rattle.std.proofs.lemmas.List.{append-nil}
use Rattle.std.proofs.lemmas.Str.{chars-nil, chars_past_char}

no_bytes : (bs : List ℕ) → length bs ≡ 0 → bs ≡ []
no_bytes [] none = refl
no_bytes (b ∷ bs) none = absurd (omega (arith, none))

-- a character of a text was written
pub char_written : (write : ℕ → List ℕ) (old new rest after all : List ℕ) (c : ℕ) → IsUtf8 rest → rest ≡ encode_utf8 c ++ after → new ≡ old ++ write c → old ++ flat_map write (chars rest) ≡ all → new ++ flat_map write (chars after) ≡ all
char_written write old new rest after all c utf8 is put before =
    ap (λ (bs : List ℕ). bs ++ flat_map write (chars after)) put
    ∙ append_assoc old (write c) (flat_map write (chars after))
    ∙ ap (λ (cs : List ℕ). old ++ flat_map write cs) (sym (chars_past_char rest after c utf8 is))
    ∙ before

-- all characters of a text were written
pub text_written : (write : ℕ → List ℕ) (old rest all : List ℕ) → length rest ≡ 0 → old ++ flat_map write (chars rest) ≡ all → old ≡ all
text_written write old rest all none before =
    sym (append-nil old) ∙ ap (λ (cs : List ℕ). old ++ flat_map write cs) (sym (ap chars (no_bytes rest none) ∙ chars-nil)) ∙ before
