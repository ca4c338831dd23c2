-- Texts that are cut where a byte is found.
use Rattle.std.proofs.Common.{◌≡◌, ◌∙◌, ℕ, zero, suc, ◌+◌, ◌-◌, add-one, lit<, ◌<◌, ◌≤◌, Bool, true, false, ◌&&◌, ◌||◌, ◌==◌, not, cond, List, [], ◌∷◌, ◌++◌, drop, take, get_or, length, refl, ap, arith, eqb, ⊎_elim}
use Rattle.std.specs.List.{prefix_len, take_while}
use Rattle.std.specs.Str.{IsCharBoundary, IsUtf8}
use Rattle.std.proofs.lemmas.Bool.{and_parts, cases_lt, eq-eqb, eqb-true}
use Rattle.std.proofs.lemmas.List.{get_or-take, length-take-le}
use Rattle.std.proofs.lemmas.List.Folds.{length-prefix_len}
use Rattle.std.proofs.lemmas.List.Sums.{prefix_len-le-length, prefix_len_passes}
use Rattle.std.proofs.lemmas.Str.{IsCharBoundary-after_ascii, IsCharBoundary-before_ascii, IsCharBoundary-end, IsCharBoundary-start}
use Rattle.ii_query_grammar.specs.declared.cut.Stop.{Stop}
use Rattle.ii_query_grammar.specs.declared.cut.Stop.TheVariants as stops
use Rattle.ii_query_grammar.specs.Lexemes.{begins, ends_bound, ends_word, is_space, is_special, place_of, stops_at, unescaped}
use Rattle.ii_query_grammar.specs.Spelling.{escaped}

or_by : (a c : Bool) (P : Type 0) → (a ≡ true → P) → (c ≡ true → P) → (a || c) ≡ true → P
or_by true c P first other h = first refl
or_by false c P first other h = other h

low : (b c : ℕ) → c < 128 → eqb b c ≡ true → b < 128
low b c small same = let is = eqb-true b c same in omega (arith, small, is)

space_low : (b : ℕ) → is_space b ≡ true → b < 128
space_low b h =
    or_by (b == 32 || b == 9 || b == 10) (b == 13) (b < 128)
    (or_by (b == 32 || b == 9) (b == 10) (b < 128) (or_by (b == 32) (b == 9) (b < 128) (low b 32 (lit< tt)) (low b 9 (lit< tt))) (low b 10 (lit< tt)))
    (low b 13 (lit< tt)) h

-- one more test of a byte
more_low : (b c : ℕ) (a : Bool) → c < 128 → (a ≡ true → b < 128) → (a || b == c) ≡ true → b < 128
more_low b c a small first h = or_by a (b == c) (b < 128) first (low b c small) h

end_low : (b : ℕ) → ends_word b ≡ true → b < 128
end_low b =
    more_low b 123 _ (lit< tt) (more_low b 91 _ (lit< tt) (more_low b 94 _ (lit< tt) (more_low b 126 _ (lit< tt) (more_low b 63 _ (lit< tt)
    (more_low b 42 _ (lit< tt) (more_low b 58 _ (lit< tt) (more_low b 41 _ (lit< tt) (more_low b 40 _ (lit< tt) (more_low b 34 _ (lit< tt) (space_low b))))))))))

bound_low : (b : ℕ) → ends_bound b ≡ true → b < 128
bound_low b = more_low b 125 _ (lit< tt) (more_low b 93 _ (lit< tt) (end_low b))

special_low : (b : ℕ) → is_special b ≡ true → b < 128
special_low b =
    more_low b 125 _ (lit< tt) (more_low b 93 _ (lit< tt) (more_low b 62 _ (lit< tt) (more_low b 60 _ (lit< tt) (more_low b 47 _ (lit< tt)
    (more_low b 43 _ (lit< tt) (more_low b 45 _ (lit< tt) (end_low b)))))))

-- a byte that is found is a character
stop_low : (stop : Stop) (b : ℕ) (after : Bool) → stops_at stop b after ≡ true → b < 128
stop_low stops.WordEnd b after h = end_low b (and_parts (ends_word b) (not after) h).0
stop_low stops.PhraseEnd b after h = low b 34 (lit< tt) (and_parts (b == 34) (not after) h).0
stop_low stops.BoundEnd b after h = bound_low b (and_parts (ends_bound b) (not after) h).0
stop_low stops.Escaped b after h = special_low b (and_parts (is_special b) after h).0
stop_low stops.WordEscape b after h = special_low b (and_parts (is_special b) (ends_word b || after) h).0
stop_low stops.PhraseEscape b after h = special_low b (and_parts (is_special b) (b == 34 || after) h).0

pub place_case : (stop : Stop) (after : Bool) (b : ℕ) (bs : List ℕ) (here : Bool) → stops_at stop b after ≡ here → place_of stop after (b ∷ bs) ≡ cond here 0 (suc (place_of stop (b == 92) bs))
place_case stop after b bs here is = ap (λ (h : Bool). cond h 0 (suc (place_of stop (b == 92) bs))) is

pub place_within : (stop : Stop) (after : Bool) (text : List ℕ) → place_of stop after text ≤ length text
place_within stop after [] = omega arith
place_within stop after (b ∷ bs) = by (stops_at stop b after) refl (place_within stop (b == 92) bs)
  where
    by : (here : Bool) → stops_at stop b after ≡ here → place_of stop (b == 92) bs ≤ length bs → place_of stop after (b ∷ bs) ≤ length (b ∷ bs)
    by true is rest = omega (arith, place_case stop after b bs true is)
    by false is rest = omega (arith, place_case stop after b bs false is, rest)

-- what is found within a text is a character
pub place_low : (stop : Stop) (after : Bool) (text : List ℕ) → place_of stop after text < length text → get_or text (place_of stop after text) 0 < 128
place_low stop after [] inside = absurd (omega (arith, inside))
place_low stop after (b ∷ bs) inside = by (stops_at stop b after) refl (place_low stop (b == 92) bs)
  where
    by : (here : Bool) → stops_at stop b after ≡ here → (place_of stop (b == 92) bs < length bs → get_or bs (place_of stop (b == 92) bs) 0 < 128) → get_or (b ∷ bs) (place_of stop after (b ∷ bs)) 0 < 128
    by true is rest = rw (place_case stop after b bs true is) (stop_low stop b after is)
    by false is rest = rw (place_case stop after b bs false is) (rest (omega (arith, inside, place_case stop after b bs false is)))

pub place_boundary : (stop : Stop) (after : Bool) (text : List ℕ) → IsCharBoundary text (place_of stop after text)
place_boundary stop after text =
    ⊎_elim
    (λ inside. IsCharBoundary-before_ascii text (place_of stop after text) inside (place_low stop after text inside))
    (λ over. let same : place_of stop after text ≡ length text = omega (arith, over, place_within stop after text) in rw same (IsCharBoundary-end text))
    (cases_lt (place_of stop after text) (length text))

spaces_end : (text : List ℕ) (n : ℕ) → n ≡ prefix_len is_space text → IsUtf8 text → IsCharBoundary text n
spaces_end text zero is utf8 = IsCharBoundary-start text utf8
spaces_end text (suc k) is utf8 =
    let few = prefix_len-le-length is_space text in
    let here : k < prefix_len is_space text = omega (arith, is) in
    let inside : k < length text = omega (arith, here, few) in
    rw (← add-one) (IsCharBoundary-after_ascii text k utf8 inside (space_low (get_or text k 0) (prefix_len_passes is_space text k 0 here)))

-- where spaces end, a character begins
pub space_boundary : (text : List ℕ) → IsUtf8 text → IsCharBoundary text (length (take_while is_space text))
space_boundary text utf8 = rw (length-prefix_len is_space text) (spaces_end text (prefix_len is_space text) refl utf8)

-- whether it begins with a byte, by that byte
pub begins_by : (c : ℕ) (text : List ℕ) → 0 < length text → get_or text 0 0 ≡ c → begins c text ≡ true
begins_by c [] some is = absurd (omega (arith, some))
begins_by c (b ∷ bs) some is = eq-eqb b c is

-- A byte that a backslash makes literal is found: the text before its backslash is as it is.
escape_found : (x : ℕ) (text : List ℕ) → place_of stops.Escaped (x == 92) text < length text
    → unescaped (x ∷ text) ≡ take (place_of stops.Escaped (x == 92) text) (x ∷ text) ++ unescaped (drop (place_of stops.Escaped (x == 92) text) text)
escape_found x [] inside = absurd (omega (arith, inside))
escape_found x (b ∷ bs) inside = by (is_special b && x == 92) refl (escape_found b bs)
  where
    whole : ℕ → Type 0
    whole p = unescaped (x ∷ b ∷ bs) ≡ take p (x ∷ b ∷ bs) ++ unescaped (drop p (b ∷ bs))

    by : (here : Bool) → (is_special b && x == 92) ≡ here
        → (place_of stops.Escaped (b == 92) bs < length bs → unescaped (b ∷ bs) ≡ take (place_of stops.Escaped (b == 92) bs) (b ∷ bs) ++ unescaped (drop (place_of stops.Escaped (b == 92) bs) bs))
        → whole (place_of stops.Escaped (x == 92) (b ∷ bs))
    by true is later = rw (place_case stops.Escaped (x == 92) b bs true is) (ap (λ (h : Bool). cond h (unescaped (b ∷ bs)) (x ∷ unescaped (b ∷ bs))) is)
    by false is later =
        let place = place_case stops.Escaped (x == 92) b bs false is in
        rw place (ap (λ (h : Bool). cond h (unescaped (b ∷ bs)) (x ∷ unescaped (b ∷ bs))) is ∙ ap (λ (l : List ℕ). x ∷ l) (later (omega (arith, inside, place))))

-- none is found: the text is as it is
escape_none : (x : ℕ) (text : List ℕ) → place_of stops.Escaped (x == 92) text ≡ length text → unescaped (x ∷ text) ≡ x ∷ text
escape_none x [] over = refl
escape_none x (b ∷ bs) over = by (is_special b && x == 92) refl (escape_none b bs)
  where
    by : (here : Bool) → (is_special b && x == 92) ≡ here → (place_of stops.Escaped (b == 92) bs ≡ length bs → unescaped (b ∷ bs) ≡ b ∷ bs) → unescaped (x ∷ b ∷ bs) ≡ x ∷ b ∷ bs
    by true is later = absurd (omega (arith, over, place_case stops.Escaped (x == 92) b bs true is))
    by false is later =
        ap (λ (h : Bool). cond h (unescaped (b ∷ bs)) (x ∷ unescaped (b ∷ bs))) is
        ∙ ap (λ (l : List ℕ). x ∷ l) (later (omega (arith, over, place_case stops.Escaped (x == 92) b bs false is)))

-- with no backslash before the text, its first byte isn't found
first_escape : (b : ℕ) (bs : List ℕ) → place_of stops.Escaped false (b ∷ bs) ≡ suc (place_of stops.Escaped (b == 92) bs)
first_escape b bs = place_case stops.Escaped false b bs false (by (is_special b))
  where
    by : (s : Bool) → (s && false) ≡ false
    by true = refl
    by false = refl

-- the same for a text by itself
pub unescaped_none : (text : List ℕ) → place_of stops.Escaped false text ≡ length text → unescaped text ≡ text
unescaped_none [] over = refl
unescaped_none (b ∷ bs) over = escape_none b bs (omega (arith, over, first_escape b bs))

-- the byte before one that is found is the backslash that is left out
pub unescaped_at : (text : List ℕ) (place : ℕ) → place ≡ place_of stops.Escaped false text → (place ≡ length text → ⊥) → (place ≡ 0 → ⊥) → unescaped text ≡ take (place - 1) text ++ unescaped (drop place text)
unescaped_at [] place is inside some = absurd (some is)
unescaped_at (b ∷ bs) place is inside some =
    let found = place_of stops.Escaped (b == 92) bs in
    let same : place ≡ suc found = is ∙ first_escape b bs in
    let less : place - 1 ≡ found = omega (arith, same) in
    let few = place_within stops.Escaped (b == 92) bs in
    rw less (rw same (escape_found b bs (omega (arith, few, same, inside))))

-- with something in it, a text whose first byte is found begins with nothing
pub unescaped_zero : (text : List ℕ) → place_of stops.Escaped false text ≡ 0 → unescaped text ≡ text
unescaped_zero [] is = refl
unescaped_zero (b ∷ bs) is = absurd (omega (arith, is, first_escape b bs))

backslash_at : (x : ℕ) (text : List ℕ) → place_of stops.Escaped (x == 92) text < length text → get_or (x ∷ text) (place_of stops.Escaped (x == 92) text) 0 ≡ 92
backslash_at x [] inside = absurd (omega (arith, inside))
backslash_at x (b ∷ bs) inside = by (is_special b && x == 92) refl (backslash_at b bs)
  where
    by : (here : Bool) → (is_special b && x == 92) ≡ here → (place_of stops.Escaped (b == 92) bs < length bs → get_or (b ∷ bs) (place_of stops.Escaped (b == 92) bs) 0 ≡ 92)
        → get_or (x ∷ b ∷ bs) (place_of stops.Escaped (x == 92) (b ∷ bs)) 0 ≡ 92
    by true is later = rw (place_case stops.Escaped (x == 92) b bs true is) (eqb-true x 92 (and_parts (is_special b) (x == 92) is).1)
    by false is later =
        let place = place_case stops.Escaped (x == 92) b bs false is in
        rw place (later (omega (arith, inside, place)))

-- the backslash is a character
pub backslash_boundary : (text : List ℕ) (place : ℕ) → place ≡ place_of stops.Escaped false text → (place ≡ length text → ⊥) → (place ≡ 0 → ⊥) → IsCharBoundary text (place - 1)
backslash_boundary [] place is inside some = absurd (some is)
backslash_boundary (b ∷ bs) place is inside some =
    let found = place_of stops.Escaped (b == 92) bs in
    let same : place ≡ suc found = is ∙ first_escape b bs in
    let less : place - 1 ≡ found = omega (arith, same) in
    let few = place_within stops.Escaped (b == 92) bs in
    let within : found < length bs = omega (arith, few, same, inside) in
    rw less (IsCharBoundary-before_ascii (b ∷ bs) found (omega (arith, within)) (rw (backslash_at b bs within) (lit< tt)))

pub escaped_case : (stop : Stop) (after : Bool) (b : ℕ) (bs : List ℕ) (here : Bool) → stops_at stop b after ≡ here → escaped stop after (b ∷ bs) ≡ cond here (92 ∷ b ∷ escaped stop false bs) (b ∷ escaped stop (b == 92) bs)
escaped_case stop after b bs here is = ap (λ (h : Bool). cond h (92 ∷ b ∷ escaped stop false bs) (b ∷ escaped stop (b == 92) bs)) is

-- no byte must be escaped: the text is unchanged
pub escaped_none : (stop : Stop) (after : Bool) (text : List ℕ) → place_of stop after text ≡ length text → escaped stop after text ≡ text
escaped_none stop after [] over = refl
escaped_none stop after (b ∷ bs) over = by (stops_at stop b after) refl (escaped_none stop (b == 92) bs)
  where
    by : (here : Bool) → stops_at stop b after ≡ here → (place_of stop (b == 92) bs ≡ length bs → escaped stop (b == 92) bs ≡ bs) → escaped stop after (b ∷ bs) ≡ b ∷ bs
    by true is later = absurd (omega (arith, over, place_case stop after b bs true is))
    by false is later = escaped_case stop after b bs false is ∙ ap (λ (l : List ℕ). b ∷ l) (later (omega (arith, over, place_case stop after b bs false is)))

-- one must be
pub escaped_at : (stop : Stop) (after : Bool) (text : List ℕ) → place_of stop after text < length text
    → escaped stop after text ≡ take (place_of stop after text) (take (suc (place_of stop after text)) text) ++ 92 ∷ (drop (place_of stop after text) (take (suc (place_of stop after text)) text) ++ escaped stop false (drop (suc (place_of stop after text)) text))
escaped_at stop after [] inside = absurd (omega (arith, inside))
escaped_at stop after (b ∷ bs) inside = by (stops_at stop b after) refl (escaped_at stop (b == 92) bs)
  where
    whole : (stop : Stop) → List ℕ → List ℕ → ℕ → Type 0
    whole stop from text p = from ≡ take p (take (suc p) text) ++ 92 ∷ (drop p (take (suc p) text) ++ escaped stop false (drop (suc p) text))

    by : (here : Bool) → stops_at stop b after ≡ here
        → (place_of stop (b == 92) bs < length bs → whole stop (escaped stop (b == 92) bs) bs (place_of stop (b == 92) bs))
        → whole stop (escaped stop after (b ∷ bs)) (b ∷ bs) (place_of stop after (b ∷ bs))
    by true is later = rw (place_case stop after b bs true is) (escaped_case stop after b bs true is)
    by false is later =
        let place = place_case stop after b bs false is in
        rw place (escaped_case stop after b bs false is ∙ ap (λ (l : List ℕ). b ∷ l) (later (omega (arith, inside, place))))

-- a byte that is found, in the text up to it
pub special_boundary : (stop : Stop) (after : Bool) (text : List ℕ) (place : ℕ) → place ≡ place_of stop after text → place < length text → IsCharBoundary (take (place + 1) text) place
special_boundary stop after text place is inside =
    let small : get_or text place 0 < 128 = rw is (place_low stop after text (omega (arith, is, inside))) in
    let same = get_or-take (place + 1) text place 0 (omega arith) in
    IsCharBoundary-before_ascii (take (place + 1) text) place (omega (arith, length-take-le (place + 1) text (omega (arith, inside)))) (omega (arith, same, small))

-- and after it
pub after_special_boundary : (stop : Stop) (after : Bool) (text : List ℕ) (place : ℕ) → IsUtf8 text → place ≡ place_of stop after text → place < length text → IsCharBoundary text (place + 1)
after_special_boundary stop after text place utf8 is inside =
    IsCharBoundary-after_ascii text place utf8 inside (rw is (place_low stop after text (omega (arith, is, inside))))

-- the same at a place
pub escaped_here : (stop : Stop) (after : Bool) (text : List ℕ) (place : ℕ) → place ≡ place_of stop after text → place < length text
    → escaped stop after text ≡ take place (take (place + 1) text) ++ 92 ∷ (drop place (take (place + 1) text) ++ escaped stop false (drop (place + 1) text))
escaped_here stop after text place is inside = rw (add-one, is) (escaped_at stop after text (omega (arith, is, inside)))
