-- The values of a set are read one by one.
use Rattle.std.proofs.Common.{◌≡◌, ◌∙◌, ℕ, zero, suc, ◌+◌, ◌-◌, ◌<◌, List, [], ◌∷◌, ◌++◌, append_assoc, drop, get_or, length, map, None, Some, Result, Ok, Err, refl, sym, ap, arith}
use Rattle.std.proofs.lemmas.List.{at_drop_more}
use Rattle.ii_query_grammar.specs.declared.parse_error.ParseError.{ParseError}
use Rattle.ii_query_grammar.specs.Lexemes.{SetFront, after_spaces, next_value, set_lexeme, set_rest, set_values, set_values_of, unescaped, value_set, values_from, with_values}
use Rattle.ii_query_grammar.specs.Spelling.{quoted, values_text}

-- the end of a set
pub ends_set : (left size : ℕ) (text rest : List ℕ) → next_value left size (after_spaces text) ≡ Ok (record { text = None; rest = rest }) → set_values left size text ≡ Ok (record { values = []; rest = rest })
unfolding set_values
ends_set zero size text rest is = ap (values_from (λ rest. Ok (record { values = []; rest = rest }))) is
ends_set (suc left) size text rest is = ap (values_from (set_values left size)) is

-- one value, and the others
pub takes_value : (left size : ℕ) (text value rest : List ℕ) → 0 < left → next_value left size (after_spaces text) ≡ Ok (record { text = Some value; rest = rest }) → set_values left size text ≡ with_values (value ∷ []) (set_values (left - 1) size rest)
unfolding set_values
takes_value zero size text value rest some is = absurd (omega (arith, some))
takes_value (suc left) size text value rest some is =
    let same : suc left - 1 ≡ left = omega arith in
    ap (values_from (set_values left size)) is ∙ ap (λ (n : ℕ). with_values (value ∷ []) (set_values n size rest)) (sym same)

-- an error
pub breaks_set : (left size : ℕ) (text : List ℕ) (e : ParseError) → next_value left size (after_spaces text) ≡ Err e → set_values left size text ≡ Err e
unfolding set_values
breaks_set zero size text e is = ap (values_from (λ rest. Ok (record { values = []; rest = rest }))) is
breaks_set (suc left) size text e is = ap (values_from (set_values left size)) is

-- values in two steps
pub with_more : (values : List (List ℕ)) (value : List ℕ) (found : Result SetFront ParseError) → with_values values (with_values (value ∷ []) found) ≡ with_values (values ++ value ∷ []) found
with_more values value (Err e) = refl
with_more values value (Ok f) = ap (λ (vs : List (List ℕ)). Ok (record { values = vs; rest = f.rest })) (sym (append_assoc values (value ∷ []) f.values))

pub with_none : (found : Result SetFront ParseError) → with_values [] found ≡ found
with_none (Err e) = refl
with_none (Ok f) = refl

-- the text after a set is that after its last values
pub same_rest : (values : List (List ℕ)) (found : Result SetFront ParseError) → set_rest (with_values values found) ≡ set_rest found
same_rest values (Err e) = refl
same_rest values (Ok f) = refl

pub lexeme_is : (name : List ℕ) (values : List (List ℕ)) (found : Result SetFront ParseError) → set_values_of found ≡ Ok values → set_lexeme name found ≡ value_set (record { field_name = unescaped name; values = values })
lexeme_is name values (Err e) is = absurd (cc)
lexeme_is name values (Ok f) is = let same : f.values ≡ values = cc in ap (λ (vs : List (List ℕ)). value_set (record { field_name = unescaped name; values = vs })) same

-- one more value is written
pub spells_value : {X : Type 0} (f : X → List ℕ) (xs : List X) (i : ℕ) (x : X) (before whole text with_before after : List ℕ) → i < length xs → x ≡ get_or xs i x
    → whole ≡ text ++ values_text before (map f (drop i xs)) → with_before ≡ text ++ before → after ≡ with_before ++ quoted (f x) → whole ≡ after ++ values_text (32 ∷ []) (map f (drop (i + 1) xs))
spells_value f xs i x before whole text with_before after few x_is whole_is with_is after_is =
    let left = map f (drop (i + 1) xs) in
    let q = quoted (f x) in
    let tail = values_text (32 ∷ []) left in
    whole_is
    ∙ ap (λ (l : List ℕ). text ++ l) (at_drop_more (λ (ys : List _). values_text before (map f ys)) xs i x few ∙ ap (λ (y : _). values_text before (f y ∷ left)) (sym x_is) ∙ append_assoc before q tail)
    ∙ sym (append_assoc text before (q ++ tail))
    ∙ ap (λ (l : List ℕ). l ++ (q ++ tail)) (sym with_is)
    ∙ sym (append_assoc with_before q tail)
    ∙ ap (λ (l : List ℕ). l ++ tail) (sym after_is)
