-- A text is read lexeme by lexeme.
use Rattle.std.proofs.Common.{◌≡◌, ◌∙◌, ℕ, zero, suc, ◌-◌, ◌<◌, ◌≤◌, Bool, true, false, cond, List, [], ◌∷◌, Option, None, Some, Result, Ok, Err, drop, take, length, refl, sym, ap, arith}
use Rattle.std.proofs.lemmas.List.{length-drop}
use Rattle.std.specs.List.{take_while}
use Rattle.std.specs.Prelude.{◌==◌, ⊤, bytes_eq, codes}
use Rattle.ii_query_grammar.specs.declared.cut.Stop.{Stop}
use Rattle.ii_query_grammar.specs.declared.cut.Stop.TheVariants as stops
use Rattle.ii_query_grammar.specs.declared.lexeme.Edge.{Edge}
use Rattle.ii_query_grammar.specs.declared.lexeme.Edge.TheVariants as edges
use Rattle.ii_query_grammar.specs.declared.parse_error.Expected.{Expected}
use Rattle.ii_query_grammar.specs.declared.parse_error.Expected.TheVariants as wanted
use Rattle.ii_query_grammar.specs.declared.parse_error.Feature.{Feature}
use Rattle.ii_query_grammar.specs.declared.parse_error.ParseError.{ParseError}
use Rattle.ii_query_grammar.specs.declared.sets.TheConstants.{MAX_SET_VALUES}
use Rattle.ii_query_grammar.specs.Lexemes.{Front, Limit, RangeFront, SetFront, Token, after_spaces, after_to, before_stop, begins, bound_with, closed_phrase, ended_range, feature_after, feature_in_front, from_stop, front, front_at, greater, has_star, is_empty, is_prefix, is_set, is_space, less as less_range, lexemes, limit_at, next_value, one_more, phrase_front, phrase_with_slop, place_of, range_above, range_after_to, range_at, range_below, range_between, range_from, range_to, set_front, after_bracket, set_values, slop_of, text_limit, tokens, unless_feature, unless_range, value_and, value_front, values_from, with_values, word_front}
use Rattle.ii_query_grammar.specs.Trees.{Bound}

-- The text after the first lexeme has fewer than n bytes.
abbrev Leaves : ℕ → Front → Type 0
Leaves n f = length f.rest < n

either : (b : Bool) (n : ℕ) (f g : Front) → (b ≡ true → Leaves n f) → (b ≡ false → Leaves n g) → Leaves n (cond b f g)
either true n f g first other = first refl
either false n f g first other = other refl

unless : (o : Option Feature) (at n : ℕ) (f : Front) → 0 < n → Leaves n f → Leaves n (unless_feature o at f)
unless None at n f some leaves = leaves
unless (Some feature) at n f some leaves = some

-- the end of a text
end_leaves : (k n : ℕ) (text : List ℕ) → length text < n → length (drop k text) < n
end_leaves k n text less = omega (arith, length-drop k text, less)

slop_leaves : (size place at n : ℕ) (field : Option (List ℕ)) (phrase rest : List ℕ) (slop : Option ℕ) → length rest < n → Leaves n (phrase_with_slop size place at field phrase rest slop)
slop_leaves size place at n field phrase rest None few = omega (arith, few)
slop_leaves size place at n field phrase rest (Some slop) few = unless (feature_after rest) (size - length rest) n _ (omega (arith, few)) few

closed_leaves : (size at n : ℕ) (field : Option (List ℕ)) (phrase rest : List ℕ) → length rest < n → Leaves n (closed_phrase size at field phrase rest)
closed_leaves size at n field phrase rest few =
    let text = drop 1 rest in
    either (begins 126 rest) n _ _
    (λ is. slop_leaves size (size - length text) at n field phrase (from_stop stops.WordEnd text) (slop_of (before_stop stops.WordEnd text)) (end_leaves (place_of stops.WordEnd false text) n text (end_leaves 1 n rest few)))
    (λ is. either (has_star rest) n _ _ (λ star. end_leaves 1 n rest few) (λ none. few))

phrase_leaves : (size at n : ℕ) (field : Option (List ℕ)) (text : List ℕ) → length text < n → Leaves n (phrase_front size at field text)
phrase_leaves size at n field text less =
    either (begins 34 (from_stop stops.PhraseEnd text)) n _ _
    (λ is. closed_leaves size at n field (before_stop stops.PhraseEnd text) _ (end_leaves 1 n (from_stop stops.PhraseEnd text) (end_leaves (place_of stops.PhraseEnd false text) n text less)))
    (λ is. omega (arith, less))

-- The text after what was read has fewer than n bytes.
abbrev LeavesAfter : {A : Type 0} → (A → List ℕ) → ℕ → Result A ParseError → Type 0
LeavesAfter rest n (Err e) = ⊤
LeavesAfter rest n (Ok x) = length (rest x) < n

abbrev LimitLeaves : ℕ → Result Limit ParseError → Type 0
LimitLeaves = LeavesAfter (λ (l : Limit). l.rest)

abbrev RangeLeaves : ℕ → Result RangeFront ParseError → Type 0
RangeLeaves = LeavesAfter (λ (f : RangeFront). f.rest)

abbrev RestLeaves : ℕ → Result (List ℕ) ParseError → Type 0
RestLeaves = LeavesAfter (λ (l : List ℕ). l)

either_leaves : {A : Type 0} (rest : A → List ℕ) (b : Bool) (n : ℕ) (f g : Result A ParseError) → (b ≡ true → LeavesAfter rest n f) → (b ≡ false → LeavesAfter rest n g) → LeavesAfter rest n (cond b f g)
either_leaves rest true n f g first other = first refl
either_leaves rest false n f g first other = other refl

limit_either : (b : Bool) (n : ℕ) (f g : Result Limit ParseError) → (b ≡ true → LimitLeaves n f) → (b ≡ false → LimitLeaves n g) → LimitLeaves n (cond b f g)
limit_either = either_leaves (λ (l : Limit). l.rest)

range_either : (b : Bool) (n : ℕ) (f g : Result RangeFront ParseError) → (b ≡ true → RangeLeaves n f) → (b ≡ false → RangeLeaves n g) → RangeLeaves n (cond b f g)
range_either = either_leaves (λ (f : RangeFront). f.rest)

rest_either : (b : Bool) (n : ℕ) (f g : Result (List ℕ) ParseError) → (b ≡ true → RestLeaves n f) → (b ≡ false → RestLeaves n g) → RestLeaves n (cond b f g)
rest_either = either_leaves (λ (l : List ℕ). l)

spaces_end_leaves : (n : ℕ) (text : List ℕ) → length text < n → length (after_spaces text) < n
spaces_end_leaves n text few = end_leaves (length (take_while is_space text)) n text few

-- bounds
text_limit_leaves : (e : Expected) (stop : Stop) (size n : ℕ) (text : List ℕ) → length text < n → LimitLeaves n (text_limit e stop size text)
text_limit_leaves e stop size n text few =
    let inner = drop 1 text in
    let some = end_leaves 1 n text few in
    let last = end_leaves (place_of stops.PhraseEnd false inner) n inner some in
    limit_either (begins 34 text) n _ _
    (λ is. limit_either (begins 34 (from_stop stops.PhraseEnd inner)) n _ _ (λ is. end_leaves 1 n (from_stop stops.PhraseEnd inner) last) (λ is. tt))
    (λ is. limit_either (is_empty (before_stop stop text)) n _ _ (λ is. tt) (λ is. end_leaves (place_of stop false text) n text few))

limit_leaves : (size n : ℕ) (text : List ℕ) → length text < n → LimitLeaves n (limit_at size text)
limit_leaves size n text few = limit_either (begins 42 text) n _ _ (λ is. end_leaves 1 n text few) (λ is. text_limit_leaves wanted.Bound stops.BoundEnd size n text few)

-- ranges
ended_leaves : (size n : ℕ) (name : List ℕ) (lower : Bound) (upper : Option (List ℕ)) (text : List ℕ) → length text < n → RangeLeaves n (ended_range size name lower upper text)
ended_leaves size n name lower upper text few =
    range_either (begins 93 text) n _ _ (λ is. end_leaves 1 n text few)
    (λ is. range_either (begins 125 text) n _ _ (λ is. end_leaves 1 n text few) (λ is. tt))

to_leaves : (size n : ℕ) (name : List ℕ) (lower : Bound) (upper : Result Limit ParseError) → LimitLeaves n upper → RangeLeaves n (range_to size name lower upper)
to_leaves size n name lower (Err e) few = tt
to_leaves size n name lower (Ok upper) few = ended_leaves size n name lower upper.text (after_spaces upper.rest) (spaces_end_leaves n upper.rest few)

after_to_leaves : (size n : ℕ) (name : List ℕ) (lower : Bound) (text : Result (List ℕ) ParseError) → RestLeaves n text → RangeLeaves n (range_after_to size name lower text)
after_to_leaves size n name lower (Err e) few = tt
after_to_leaves size n name lower (Ok text) few =
    to_leaves size n name lower (limit_at size (after_spaces text)) (limit_leaves size n (after_spaces text) (spaces_end_leaves n text few))

from_leaves : (size n : ℕ) (name : List ℕ) (edge : Edge) (lower : Result Limit ParseError) → LimitLeaves n lower → RangeLeaves n (range_from size name edge lower)
from_leaves size n name edge (Err e) few = tt
from_leaves size n name edge (Ok lower) few =
    let text = after_spaces lower.rest in
    let later = spaces_end_leaves n lower.rest few in
    after_to_leaves size n name (bound_with edge lower.text) (after_to size text)
    (rest_either (bytes_eq (before_stop stops.BoundEnd text) (codes "TO")) n _ _ (λ is. end_leaves (place_of stops.BoundEnd false text) n text later) (λ is. tt))

between_leaves : (size n : ℕ) (name : List ℕ) (edge : Edge) (text : List ℕ) → length text < n → RangeLeaves n (range_between size name edge text)
between_leaves size n name edge text few = from_leaves size n name edge (limit_at size (after_spaces text)) (limit_leaves size n (after_spaces text) (spaces_end_leaves n text few))

above_leaves : (n : ℕ) (name : List ℕ) (edge : Edge) (lower : Result Limit ParseError) → LimitLeaves n lower → RangeLeaves n (range_above name edge lower)
above_leaves n name edge (Err e) few = tt
above_leaves n name edge (Ok lower) few = few

below_leaves : (n : ℕ) (name : List ℕ) (edge : Edge) (upper : Result Limit ParseError) → LimitLeaves n upper → RangeLeaves n (range_below name edge upper)
below_leaves n name edge (Err e) few = tt
below_leaves n name edge (Ok upper) few = few

greater_leaves : (size n : ℕ) (name text : List ℕ) → length text < n → RangeLeaves n (greater size name text)
greater_leaves size n name text few =
    range_either (begins 61 text) n _ _
    (λ is. above_leaves n name edges.Inclusive _ (text_limit_leaves wanted.Bound stops.WordEnd size n (drop 1 text) (end_leaves 1 n text few)))
    (λ is. above_leaves n name edges.Exclusive _ (text_limit_leaves wanted.Bound stops.WordEnd size n text few))

less_leaves : (size n : ℕ) (name text : List ℕ) → length text < n → RangeLeaves n (less_range size name text)
less_leaves size n name text few =
    range_either (begins 61 text) n _ _
    (λ is. below_leaves n name edges.Inclusive _ (text_limit_leaves wanted.Bound stops.WordEnd size n (drop 1 text) (end_leaves 1 n text few)))
    (λ is. below_leaves n name edges.Exclusive _ (text_limit_leaves wanted.Bound stops.WordEnd size n text few))

-- a range, or what there is instead
by_case : (b : Bool) (o : Option (Result RangeFront ParseError)) (f : Result RangeFront ParseError) (at n : ℕ) (g : Front) → (b ≡ true → RangeLeaves n f) → 0 < n → Leaves n (unless_range o at g) → Leaves n (unless_range (cond b (Some f) o) at g)
by_case true o (Ok f) at n g first some other = first refl
by_case true o (Err e) at n g first some other = some
by_case false o f at n g first some other = other

unless_range_leaves : (size at n : ℕ) (name text : List ℕ) (g : Front) → length text < n → Leaves n g → Leaves n (unless_range (range_at size name text) at g)
unless_range_leaves size at n name text g few other =
    let some : 0 < n = omega (arith, few) in
    let later = end_leaves 1 n text few in
    by_case (begins 91 text) _ _ at n g (λ is. between_leaves size n name edges.Inclusive (drop 1 text) later) some
    (by_case (begins 123 text) _ _ at n g (λ is. between_leaves size n name edges.Exclusive (drop 1 text) later) some
    (by_case (begins 62 text) _ _ at n g (λ is. greater_leaves size n name (drop 1 text) later) some
    (by_case (begins 60 text) _ _ at n g (λ is. less_leaves size n name (drop 1 text) later) some other)))

-- sets
abbrev SetLeaves : ℕ → Result SetFront ParseError → Type 0
SetLeaves = LeavesAfter (λ (f : SetFront). f.rest)

with_values_leave : (n : ℕ) (values : List (List ℕ)) (found : Result SetFront ParseError) → SetLeaves n found → SetLeaves n (with_values values found)
with_values_leave n values (Err e) few = tt
with_values_leave n values (Ok f) few = few

next_leaves : (left size n : ℕ) (text : List ℕ) → length text < n → LimitLeaves n (next_value left size text)
next_leaves left size n text few =
    limit_either (begins 93 text) n _ _ (λ is. end_leaves 1 n text few)
    (λ is. limit_either (left == 0) n _ _ (λ is. tt) (λ is. text_limit_leaves wanted.SetValue stops.BoundEnd size n text few))

value_and_leaves : (n : ℕ) (others : List ℕ → Result SetFront ParseError) (value : Option (List ℕ)) (rest : List ℕ) → ((text : List ℕ) → length text < n → SetLeaves n (others text)) → length rest < n → SetLeaves n (value_and others value rest)
value_and_leaves n others None rest each few = few
value_and_leaves n others (Some value) rest each few = with_values_leave n (value ∷ []) (others rest) (each rest few)

values_leave : (n : ℕ) (others : List ℕ → Result SetFront ParseError) (read : Result Limit ParseError) → ((text : List ℕ) → length text < n → SetLeaves n (others text)) → LimitLeaves n read → SetLeaves n (values_from others read)
values_leave n others (Err e) each few = tt
values_leave n others (Ok l) each few = value_and_leaves n others l.text l.rest each few

set_leaves : (left size n : ℕ) (text : List ℕ) → length text < n → SetLeaves n (set_values left size text)
unfolding set_values
set_leaves zero size n text few = values_leave n (λ rest. Ok (record { values = []; rest = rest })) _ (λ rest less. less) (next_leaves zero size n (after_spaces text) (spaces_end_leaves n text few))
set_leaves (suc left) size n text few = values_leave n _ _ (set_leaves left size n) (next_leaves (suc left) size n (after_spaces text) (spaces_end_leaves n text few))

set_front_leaves : (at n : ℕ) (name : List ℕ) (found : Result SetFront ParseError) → 0 < n → SetLeaves n found → Leaves n (set_front at name found)
set_front_leaves at n name (Err e) some few = some
set_front_leaves at n name (Ok f) some few = few

value_leaves : (size at n : ℕ) (name text : List ℕ) → length text < n → Leaves n (value_front size at name text)
value_leaves size at n name text less =
    let some : 0 < n = omega (arith, less) in
    either (begins 34 text) n _ _ (λ is. phrase_leaves size at n (Some name) (drop 1 text) (end_leaves 1 n text less))
    (λ is. unless_range_leaves size at n name text _ less (unless (feature_in_front text) _ n _ some
    (let rest = from_stop stops.WordEnd text in
    let later = end_leaves (place_of stops.WordEnd false text) n text less in
    either (is_set (before_stop stops.WordEnd text) rest) n _ _
    (λ is. set_front_leaves at n name _ some (set_leaves MAX_SET_VALUES size n (after_bracket rest) (end_leaves 1 n (after_spaces rest) (spaces_end_leaves n rest later))))
    (λ none. either (has_star rest) n _ _ (λ star. end_leaves 1 n rest later)
    (λ none. unless (feature_after rest) _ n _ some
    (either (is_empty (before_stop stops.WordEnd text)) n _ _ (λ is. some) (λ is. later)))))))

-- a word that isn't empty takes a byte
taken : (k : ℕ) (text : List ℕ) → is_empty (take k text) ≡ false → length (drop k text) < length text
taken zero text some = absurd (cc)
taken (suc k) [] some = absurd (cc)
taken (suc k) (b ∷ bs) some = omega (arith, length-drop k bs)

-- the word of a prefix isn't empty
prefix_some : (word rest : List ℕ) → is_prefix word rest ≡ true → is_empty word ≡ false
prefix_some [] rest is = absurd (cc)
prefix_some (b ∷ bs) rest is = refl

word_leaves : (size at : ℕ) (text : List ℕ) → 0 < length text → Leaves (length text) (word_front size at text)
word_leaves size at text some =
    let n = length text in
    let word = before_stop stops.WordEnd text in
    let rest = from_stop stops.WordEnd text in
    unless (feature_in_front text) at n _ some
    (either (is_set word rest) n _ _ (λ is. some)
    (λ no_set. either (is_prefix word rest) n _ _ (λ star. end_leaves 1 n rest (taken (place_of stops.WordEnd false text) text (prefix_some word rest star)))
    (λ none. unless (feature_after rest) _ n _ some
    (either (is_empty word) n _ _ (λ is. some)
    (λ is. let less = taken (place_of stops.WordEnd false text) text is in
    either (begins 58 rest) n _ _ (λ colon. value_leaves size at n word (drop 1 rest) (end_leaves 1 n rest less)) (λ none. less))))))

-- each lexeme takes a byte
front_leaves : (size at : ℕ) (text : List ℕ) → is_empty text ≡ false → Leaves (length text) (front_at size at text)
front_leaves size at [] some = absurd (cc)
front_leaves size at (b ∷ bs) some =
    let n = length (b ∷ bs) in
    let less : length bs < n = omega arith in
    let more : 0 < n = omega arith in
    either (begins 40 (b ∷ bs)) n _ _ (λ is. less)
    (λ is. either (begins 41 (b ∷ bs)) n _ _ (λ is. less)
    (λ is. either (begins 45 (b ∷ bs)) n _ _ (λ is. less)
    (λ is. either (begins 43 (b ∷ bs)) n _ _ (λ is. more)
    (λ is. either (begins 34 (b ∷ bs)) n _ _ (λ is. phrase_leaves size at n None bs less)
    (λ is. either (has_star (b ∷ bs)) n _ _ (λ is. less)
    (λ is. word_leaves size at (b ∷ bs) more))))))

spaces_leave : (text : List ℕ) → length (after_spaces text) ≤ length text
spaces_leave text = omega (arith, length-drop (length (take_while is_space text)) text)

same_more : (size : ℕ) (f g : List ℕ → List Token) (text : List ℕ) → (is_empty text ≡ false → f (front size text).rest ≡ g (front size text).rest) → one_more f size text ≡ one_more g size text
same_more size f g [] same = refl
same_more size f g (b ∷ bs) same = ap (λ (l : List Token). (front size (b ∷ bs)).token ∷ l) (same refl)

none_more : (size : ℕ) (f : List ℕ → List Token) (text : List ℕ) → length text ≤ 0 → one_more f size text ≡ []
none_more size f [] none = refl
none_more size f (b ∷ bs) none = absurd (omega (arith, none))

-- that many lexemes at most are no limit, if there are as many bytes
enough : (n m size : ℕ) (text : List ℕ) → length text ≤ n → length text ≤ m → tokens n size text ≡ tokens m size text
unfolding tokens
enough zero zero size text first other = refl
enough zero (suc m) size text first other = sym (none_more size (tokens m size) (after_spaces text) (omega (arith, spaces_leave text, first)))
enough (suc n) zero size text first other = none_more size (tokens n size) (after_spaces text) (omega (arith, spaces_leave text, other))
enough (suc n) (suc m) size text first other =
    same_more size (tokens n size) (tokens m size) (after_spaces text) (λ some.
    let less = front_leaves size (size - length (after_spaces text)) (after_spaces text) some in
    let few = spaces_leave text in
    enough n m size (front size (after_spaces text)).rest (omega (arith, less, few, first)) (omega (arith, less, few, other)))

-- the lexemes of a text are the first one, and those of the text after it
pub lexemes_step : (size : ℕ) (text : List ℕ) → lexemes size text ≡ one_more (lexemes size) size (after_spaces text)
unfolding tokens
lexemes_step size [] = refl
lexemes_step size (b ∷ bs) =
    same_more size (tokens (length bs) size) (lexemes size) (after_spaces (b ∷ bs)) (λ some.
    let less = front_leaves size (size - length (after_spaces (b ∷ bs))) (after_spaces (b ∷ bs)) some in
    let few = spaces_leave (b ∷ bs) in
    enough (length bs) (length (front size (after_spaces (b ∷ bs))).rest) size (front size (after_spaces (b ∷ bs))).rest (omega (arith, less, few)) (omega arith))

-- nothing is left of a text
pub none_left : (old : List Token) (size : ℕ) (rest text : List ℕ) → old ≡ lexemes size rest → text ≡ after_spaces rest → is_empty text ≡ true → old ≡ []
none_left old size rest text is left none = is ∙ lexemes_step size rest ∙ ap (one_more (lexemes size) size) (sym left) ∙ rw none refl

-- one is read
pub one_left : (old : List Token) (size : ℕ) (rest text : List ℕ) (t : Token) (later : List ℕ) → old ≡ lexemes size rest → text ≡ after_spaces rest → is_empty text ≡ false
    → t ≡ (front size text).token → later ≡ (front size text).rest → old ≡ t ∷ lexemes size later
one_left old size rest text t later is left some token_is later_is =
    is ∙ lexemes_step size rest ∙ ap (one_more (lexemes size) size) (sym left) ∙ rw (some, token_is, later_is) refl
