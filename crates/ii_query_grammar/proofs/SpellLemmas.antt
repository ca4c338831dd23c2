-- The text of a tree is parsed as that tree.
use Rattle.std.proofs.Common.{◌≡◌, ◌∙◌, ℕ, zero, suc, ◌-◌, ◌≤◌, Bool, true, false, ◌&&◌, ◌||◌, ◌==◌, not, List, [], ◌∷◌, ◌++◌, append_assoc, append-nil, cond, drop, take, length, Option, None, Some, option_map, Result, Ok, decimal, nat_lt, refl, sym, ap, subst, arith}
use Rattle.std.proofs.Math.Bool.{and-false}
use Rattle.std.specs.Prelude.{bytes_eq, codes, nat_le}
use Rattle.std.specs.List.{list_all, take_while}
use Rattle.std.proofs.lemmas.Bool.{and_parts, eqb-true, leb-true, ltb-true, not-true}
use Rattle.ii_query_grammar.specs.declared.sets.TheConstants.{MAX_SET_VALUES}
use Rattle.std.proofs.lemmas.List.{drop_at, take_at}
use Rattle.std.proofs.lemmas.List.Sums.{take_while-cons}
use Rattle.std.proofs.lemmas.Slice.Eq.{bytes_eq-Decides}
use Rattle.ii_query_grammar.specs.declared.cut.Stop.{Stop}
use Rattle.ii_query_grammar.specs.declared.cut.Stop.TheVariants as stops
use Rattle.ii_query_grammar.specs.declared.lexeme.Edge.TheVariants as edges
use Rattle.ii_query_grammar.specs.declared.parse_error.Expected.{Expected}
use Rattle.ii_query_grammar.specs.declared.parse_error.Expected.TheVariants as expected
use Rattle.ii_query_grammar.specs.declared.parse_error.Feature.{Feature}
use Rattle.ii_query_grammar.specs.declared.parse_error.ParseError.{ParseError}
use Rattle.ii_query_grammar.specs.declared.user_input_ast.Delimiter.{Delimiter}
use Rattle.ii_query_grammar.specs.declared.user_input_ast.Delimiter.TheVariants as delimiters
use Rattle.ii_query_grammar.specs.Grammar.{Kind, Spells, all, alone, among_values, and, and_not, between_bounds, chain, in_parentheses, next_to, nothing, one, or, part, query, star_alone, token, wanted, wants}
use Rattle.ii_query_grammar.specs.Lexemes.{Front, Lexeme, Limit, RangeFront, Token, after_spaces, after_to, and_word, asterisk, before_stop, begins, closed_phrase, closing, ended_phrase, ends_prefix, feature_after, feature_in_front, first_feature_of, from_stop, front_at, front_with, has_star, is_empty, is_prefix, is_prefix_end, is_set, is_space, is_special, lexemes, limit_at, literal, literal_with, minus, next_value, one_more, opening, or_word, phrase_front, phrase_with_slop, place_of, quoted_limit, range, range_after_to, range_at, range_from, range_front, range_to, range_with, set_front, set_values, slop_of, text_limit, unescaped, unless_feature, unless_range, value_front, value_or_prefix, value_set, values_from, with_values, word_front, word_lexeme, word_or_name, word_or_prefix}
use Rattle.ii_query_grammar.specs.Parsed.{ChainState, chain_tree, parsed}
use Rattle.ii_query_grammar.specs.Spelling.{are_several, delimited, escaped, field_text, has_spelling, have_spelling, is_bound, is_literal, is_no_operator, is_range, is_value, is_writable, is_writable_word, literal_text, lower_text, may_be_alone, may_be_set, nesting, part_nesting, part_text, parts_nesting, parts_text, quoted, range_text, set_text, spelled, upper_text, values_text, word_text}
use Rattle.ii_query_grammar.specs.Trees.{Ast, Asts, Bound, Literal, Range, ValueSet, all_of, and_asts, any_of, asts_from, everything, exclusive, in_set, inclusive, leaf, no_asts, ranged, unbounded, without}
use Rattle.ii_query_grammar.proofs.CompleteLemmas.{reads_query}
use Rattle.ii_query_grammar.proofs.EscapeLemmas.{IsPlain, differs, ends_there, is_plain, phrase_unescapes, phrases, word_unescapes, words, writable}
use Rattle.ii_query_grammar.proofs.LexerLemmas.{lexemes_step}
use Rattle.ii_query_grammar.proofs.SlopLemmas.{slop_cut, slop_of_decimal}

-- six tests that fail
all_fail : (p q r s o t : Bool) (a b c d e f g : Front) → p ≡ false → q ≡ false → r ≡ false → s ≡ false → o ≡ false → t ≡ false → cond p a (cond q b (cond r c (cond s d (cond o e (cond t f g))))) ≡ g
all_fail p q r s o t a b c d e f g h i j k l m = rw (h, i, j, k, l, m) refl

four_fail : (p q r s : Bool) → p ≡ false → q ≡ false → r ≡ false → s ≡ false → (p || q || r || s) ≡ false
four_fail p q r s h i j k = rw (h, i, j, k) refl

abbrev feature_by : Bool → Bool → Bool → Feature → Feature → Option Feature
feature_by p q r first other = cond p (Some first) (cond (q || r) (Some other) None)

no_feature : (p q r : Bool) (first other : Feature) → p ≡ false → q ≡ false → r ≡ false → feature_by p q r first other ≡ None
no_feature p q r first other h i j = rw (h, i, j) refl

-- what a byte that isn't special doesn't begin
no_space : (b : ℕ) → is_special b ≡ false → is_space b ≡ false
no_space b is = four_fail (b == 32) (b == 9) (b == 10) (b == 13) (differs is_special b 32 is refl) (differs is_special b 9 is refl) (differs is_special b 10 is refl) (differs is_special b 13 is refl)

first_none : (b : ℕ) → is_special b ≡ false → first_feature_of b ≡ None
first_none b is = no_feature (b == 47) (b == 60) (b == 62) _ _ (differs is_special b 47 is refl) (differs is_special b 60 is refl) (differs is_special b 62 is refl)

left_false : (p q : Bool) → p ≡ false → (p && q) ≡ false
left_false p q is = rw is refl

plain_front : (size at b : ℕ) (bs : List ℕ) → is_special b ≡ false → front_at size at (b ∷ bs) ≡ word_front size at (b ∷ bs)
plain_front size at b bs is =
    all_fail (b == 40) (b == 41) (b == 45) (b == 43) (b == 34) (has_star (b ∷ bs)) _ _ _ _ _ _ _
    (differs is_special b 40 is refl) (differs is_special b 41 is refl) (differs is_special b 45 is refl) (differs is_special b 43 is refl) (differs is_special b 34 is refl)
    (left_false (b == 42) (ends_prefix bs) (differs is_special b 42 is refl))

-- A text may come after a word.
record MayFollow (rest : List ℕ) : Type 0 where
  stop : place_of stops.WordEnd false rest ≡ 0
  feature : feature_after rest ≡ None
  star : has_star rest ≡ false
  set : begins 91 (after_spaces rest) ≡ false

unless_none : (o : Option Feature) (at : ℕ) (f : Front) → o ≡ None → unless_feature o at f ≡ f
unless_none o at f is = rw is refl

-- Where a word ends.
record IsCut (text word rest : List ℕ) : Type 0 where
  before : before_stop stops.WordEnd text ≡ word
  after : from_stop stops.WordEnd text ≡ rest

is_cut : (text rest : List ℕ) → is_writable text ≡ true → place_of stops.WordEnd false rest ≡ 0 → IsCut (word_text text ++ rest) (word_text text) rest
is_cut text rest may stop =
    let place = ends_there stops.WordEnd stops.WordEscape words false true text rest (writable text may) stop in
    record {
      before = ap (λ (n : ℕ). take n (word_text text ++ rest)) place ∙ take_at (word_text text) rest _ refl;
      after = ap (λ (n : ℕ). drop n (word_text text ++ rest)) place ∙ drop_at (word_text text) rest _ refl;
    }

front_of_plain : (size at : ℕ) (text word rest : List ℕ) (b : ℕ) (bs : List ℕ) → text ≡ b ∷ bs → is_special b ≡ false → IsCut text word rest → front_at size at text ≡ word_or_prefix size at word rest
front_of_plain size at text word rest b bs is plain cut =
    ap (front_at size at) is ∙ plain_front size at b bs plain ∙ ap (word_front size at) (sym is)
    ∙ unless_none (feature_in_front text) at _ (ap feature_in_front is ∙ first_none b plain)
    ∙ ap (λ (w : List ℕ). word_or_prefix size at w (from_stop stops.WordEnd text)) cut.before
    ∙ ap (word_or_prefix size at word) cut.after

one_fails : (p : Bool) (a b : Front) → p ≡ false → cond p a b ≡ b
one_fails p a b h = rw h refl

two_fail : (p q : Bool) (a b c : Front) → p ≡ false → q ≡ false → cond p a (cond q b c) ≡ c
two_fail p q a b c h i = rw (h, i) refl

one_holds : (p : Bool) (a b : Front) → p ≡ true → cond p a b ≡ a
one_holds p a b h = rw h refl

-- no bracket of a set follows a word
no_set : (word rest : List ℕ) → begins 91 (after_spaces rest) ≡ false → is_set word rest ≡ false
no_set word rest is = ap (λ (b : Bool). bytes_eq word (codes "IN") && b) is ∙ and-false (bytes_eq word (codes "IN"))

-- no star follows a word
no_prefix : (word rest : List ℕ) → has_star rest ≡ false → is_prefix word rest ≡ false
no_prefix word rest is = ap (λ (b : Bool). not (is_empty word) && b) is ∙ and-false (not (is_empty word))

word_follows : (size at : ℕ) (word rest : List ℕ) → MayFollow rest → word_or_prefix size at word rest ≡ word_or_name size at word rest
word_follows size at word rest follows = one_fails (is_set word rest) _ _ (no_set word rest follows.set) ∙ one_fails (is_prefix word rest) _ _ (no_prefix word rest follows.star) ∙ unless_none (feature_after rest) _ _ follows.feature

some_in_word : (text : List ℕ) → is_empty text ≡ false → is_empty (word_text text) ≡ false
some_in_word text some = let p = is_plain text some in ap is_empty p.text_is

after_plain : (text rest : List ℕ) → (p : IsPlain text) → text ++ rest ≡ p.first ∷ (p.others ++ rest)
after_plain text rest p = ap (λ (l : List ℕ). l ++ rest) p.text_is

-- a word in front
front_of_word : (size at : ℕ) (text rest : List ℕ) → is_writable_word text ≡ true → MayFollow rest → front_at size at (word_text text ++ rest) ≡ word_or_name size at (word_text text) rest
front_of_word size at text rest is follows =
    let parts = and_parts (not (is_empty text)) (is_writable text) is in
    let p = is_plain text (not-true (is_empty text) parts.0) in
    front_of_plain size at (word_text text ++ rest) (word_text text) rest p.first (p.others ++ rest) (after_plain (word_text text) rest p) p.plain (is_cut text rest parts.1 follows.stop)
    ∙ word_follows size at (word_text text) rest follows

-- a word that is written as an operator is one
same_word : (text word : List ℕ) → unescaped word ≡ word → bytes_eq word word ≡ true → bytes_eq text word ≡ false → bytes_eq (word_text text) word ≡ false
same_word text word same itself differs = by (bytes_eq (word_text text) word) refl
  where
    by : (here : Bool) → bytes_eq (word_text text) word ≡ here → here ≡ false
    by false is = refl
    by true is =
        let all : text ≡ word = sym (word_unescapes text) ∙ ap unescaped ((bytes_eq-Decides (word_text text) word).0 is) ∙ same in
        sym itself ∙ ap (λ (l : List ℕ). bytes_eq l word) (sym all) ∙ differs

three_fail : (p q r : Bool) (a b c d : Lexeme) → p ≡ false → q ≡ false → r ≡ false → cond p a (cond q b (cond r c d)) ≡ d
three_fail p q r a b c d h i j = rw (h, i, j) refl

-- a word that is searched for
word_literal : (word : List ℕ) → is_no_operator word ≡ true → word_lexeme (word_text word) ≡ literal (record { field_name = None; phrase = word; delimiter = delimiters.None })
word_literal word h =
    let last = and_parts (not (bytes_eq word (codes "AND")) && not (bytes_eq word (codes "OR"))) (not (bytes_eq word (codes "NOT"))) h in
    let parts = and_parts (not (bytes_eq word (codes "AND"))) (not (bytes_eq word (codes "OR"))) last.0 in
    three_fail (bytes_eq (word_text word) (codes "AND")) (bytes_eq (word_text word) (codes "OR")) (bytes_eq (word_text word) (codes "NOT")) _ _ _ _
    (same_word word (codes "AND") refl refl (not-true (bytes_eq word (codes "AND")) parts.0))
    (same_word word (codes "OR") refl refl (not-true (bytes_eq word (codes "OR")) parts.1))
    (same_word word (codes "NOT") refl refl (not-true (bytes_eq word (codes "NOT")) last.1))
    ∙ ap (λ (p : List ℕ). literal (record { field_name = None; phrase = p; delimiter = delimiters.None })) (word_unescapes word)

begins_not : (b c : ℕ) (bs : List ℕ) → is_special b ≡ false → is_special c ≡ true → begins c (b ∷ bs) ≡ false
begins_not b c bs is kind = differs is_special b c is kind

-- Where a phrase ends, after its first quote.
record IsPhrase (phrase rest : List ℕ) : Type 0 where
  before : before_stop stops.PhraseEnd (escaped stops.PhraseEscape false phrase ++ 34 ∷ rest) ≡ escaped stops.PhraseEscape false phrase
  after : from_stop stops.PhraseEnd (escaped stops.PhraseEscape false phrase ++ 34 ∷ rest) ≡ 34 ∷ rest

is_phrase : (phrase rest : List ℕ) → is_writable phrase ≡ true → IsPhrase phrase rest
is_phrase phrase rest may =
    let text = escaped stops.PhraseEscape false phrase in
    let place = ends_there stops.PhraseEnd stops.PhraseEscape phrases false false phrase (34 ∷ rest) (writable phrase may) refl in
    record {
      before = ap (λ (n : ℕ). take n (text ++ 34 ∷ rest)) place ∙ take_at text (34 ∷ rest) _ refl;
      after = ap (λ (n : ℕ). drop n (text ++ 34 ∷ rest)) place ∙ drop_at text (34 ∷ rest) _ refl;
    }

-- a phrase after its first quote
closed_front : (size at : ℕ) (field : Option (List ℕ)) (phrase rest : List ℕ) → is_writable phrase ≡ true
    → phrase_front size at field (escaped stops.PhraseEscape false phrase ++ 34 ∷ rest) ≡ closed_phrase size at field (escaped stops.PhraseEscape false phrase) rest
closed_front size at field phrase rest may =
    let text = escaped stops.PhraseEscape false phrase in
    let cut = is_phrase phrase rest may in
    ap (λ (p : List ℕ). ended_phrase size at field p (from_stop stops.PhraseEnd (text ++ 34 ∷ rest))) cut.before
    ∙ ap (ended_phrase size at field text) cut.after

-- one without a slop and a star
quoted_front : (size at : ℕ) (field : Option (List ℕ)) (phrase rest : List ℕ) → is_writable phrase ≡ true → begins 126 rest ≡ false → has_star rest ≡ false
    → phrase_front size at field (escaped stops.PhraseEscape false phrase ++ 34 ∷ rest) ≡ front_with at (literal (record { field_name = option_map unescaped field; phrase = phrase; delimiter = delimiters.DoubleQuotes })) rest
quoted_front size at field phrase rest may none no_star =
    closed_front size at field phrase rest may
    ∙ two_fail (begins 126 rest) (has_star rest) _ _ _ none no_star
    ∙ ap (λ (p : List ℕ). front_with at (literal (record { field_name = option_map unescaped field; phrase = p; delimiter = delimiters.DoubleQuotes })) rest) (phrase_unescapes phrase)

-- one with a star
starred_front : (size at : ℕ) (field : Option (List ℕ)) (phrase rest : List ℕ) → is_writable phrase ≡ true → has_star (42 ∷ rest) ≡ true
    → phrase_front size at field ((escaped stops.PhraseEscape false phrase ++ 34 ∷ []) ++ 42 ∷ rest) ≡ front_with at (literal (record { field_name = option_map unescaped field; phrase = phrase; delimiter = delimiters.Prefix })) rest
starred_front size at field phrase rest may star =
    let text = escaped stops.PhraseEscape false phrase in
    ap (phrase_front size at field) (append_assoc text (34 ∷ []) (42 ∷ rest))
    ∙ closed_front size at field phrase (42 ∷ rest) may
    ∙ one_holds (has_star (42 ∷ rest)) _ _ star
    ∙ ap (λ (p : List ℕ). front_with at (literal (record { field_name = option_map unescaped field; phrase = p; delimiter = delimiters.Prefix })) rest) (phrase_unescapes phrase)

-- one with a slop
sloppy_front : (size at slop : ℕ) (field : Option (List ℕ)) (phrase rest : List ℕ) → (is_writable phrase && nat_lt slop 4294967296) ≡ true → place_of stops.WordEnd false rest ≡ 0 → feature_after rest ≡ None
    → phrase_front size at field ((escaped stops.PhraseEscape false phrase ++ 34 ∷ []) ++ 126 ∷ (decimal slop ++ rest)) ≡ front_with at (literal (record { field_name = option_map unescaped field; phrase = phrase; delimiter = delimiters.Slop slop })) rest
sloppy_front size at slop field phrase rest h stop none =
    let text = escaped stops.PhraseEscape false phrase in
    let after = decimal slop ++ rest in
    let parts = and_parts (is_writable phrase) (nat_lt slop 4294967296) h in
    let low = ltb-true slop 4294967296 parts.1 in
    let cut = slop_cut slop rest low stop in
    ap (phrase_front size at field) (append_assoc text (34 ∷ []) (126 ∷ after))
    ∙ closed_front size at field phrase (126 ∷ after) parts.0
    ∙ ap (λ (ds : List ℕ). phrase_with_slop size (size - length after) at field text (from_stop stops.WordEnd after) (slop_of ds)) cut.before
    ∙ ap (λ (s : Option ℕ). phrase_with_slop size (size - length after) at field text (from_stop stops.WordEnd after) s) (slop_of_decimal slop low)
    ∙ ap (λ (l : List ℕ). unless_feature (feature_after l) (size - length l) (front_with at (literal_with field text (delimiters.Slop slop)) l)) cut.after
    ∙ unless_none (feature_after rest) _ _ none
    ∙ ap (λ (p : List ℕ). front_with at (literal (record { field_name = option_map unescaped field; phrase = p; delimiter = delimiters.Slop slop })) rest) (phrase_unescapes phrase)

-- the text of a phrase and its last quote, after its first quote
abbrev quoted_end : List ℕ → List ℕ
quoted_end phrase = escaped stops.PhraseEscape false phrase ++ 34 ∷ []

-- the text of a phrase and its slop, after its first quote
slop_text : (slop : ℕ) (phrase rest : List ℕ) → ((escaped stops.PhraseEscape false phrase ++ 34 ∷ []) ++ 126 ∷ decimal slop) ++ rest ≡ (escaped stops.PhraseEscape false phrase ++ 34 ∷ []) ++ 126 ∷ (decimal slop ++ rest)
slop_text slop phrase rest = append_assoc (escaped stops.PhraseEscape false phrase ++ 34 ∷ []) (126 ∷ decimal slop) rest

-- a bound that was read, and the text after it
abbrev limit : List ℕ → List ℕ → Result Limit ParseError
limit text rest = Ok (record { text = Some text; rest = rest })

-- a bound between quotes
quoted_limit_is : (e : Expected) (stop : Stop) (size : ℕ) (phrase rest : List ℕ) → is_writable phrase ≡ true → text_limit e stop size (quoted phrase ++ rest) ≡ limit phrase rest
quoted_limit_is e stop size phrase rest may =
    let text = escaped stops.PhraseEscape false phrase in
    let cut = is_phrase phrase rest may in
    ap (λ (l : List ℕ). quoted_limit size (before_stop stops.PhraseEnd l) (from_stop stops.PhraseEnd l)) (append_assoc text (34 ∷ []) rest)
    ∙ ap (λ (p : List ℕ). quoted_limit size p (from_stop stops.PhraseEnd (text ++ 34 ∷ rest))) cut.before
    ∙ ap (quoted_limit size text) cut.after
    ∙ ap (λ (p : List ℕ). limit p rest) (phrase_unescapes phrase)

-- the lower bound of a range
lower_is : (size : ℕ) (name : List ℕ) (lower : Bound) (after : List ℕ) → is_bound lower ≡ true → range_at size name (lower_text lower ++ after) ≡ Some (range_after_to size name lower (after_to size (after_spaces after)))
lower_is size name unbounded after may = refl
lower_is size name (inclusive text) after may = ap (λ (r : Result Limit ParseError). Some (range_from size name edges.Inclusive r)) (quoted_limit_is expected.Bound stops.BoundEnd size text after may)
lower_is size name (exclusive text) after may = ap (λ (r : Result Limit ParseError). Some (range_from size name edges.Exclusive r)) (quoted_limit_is expected.Bound stops.BoundEnd size text after may)

-- its upper bound
upper_is : (size : ℕ) (name : List ℕ) (lower upper : Bound) (rest : List ℕ) → is_bound upper ≡ true → range_to size name lower (limit_at size (after_spaces (32 ∷ (upper_text upper ++ rest)))) ≡ Ok (range_with name lower upper rest)
upper_is size name lower unbounded rest may = refl
upper_is size name lower (inclusive text) rest may =
    ap (λ (l : List ℕ). range_to size name lower (limit_at size (after_spaces (32 ∷ l)))) (append_assoc (quoted text) (93 ∷ []) rest)
    ∙ ap (range_to size name lower) (quoted_limit_is expected.Bound stops.BoundEnd size text (93 ∷ rest) may)
upper_is size name lower (exclusive text) rest may =
    ap (λ (l : List ℕ). range_to size name lower (limit_at size (after_spaces (32 ∷ l)))) (append_assoc (quoted text) (125 ∷ []) rest)
    ∙ ap (range_to size name lower) (quoted_limit_is expected.Bound stops.BoundEnd size text (125 ∷ rest) may)

-- two texts with one between them, and a text after them
between : (a s b rest : List ℕ) → (a ++ s ++ b) ++ rest ≡ a ++ (s ++ (b ++ rest))
between a s b rest = ap (λ (l : List ℕ). l ++ rest) (append_assoc a s b) ∙ append_assoc a (s ++ b) rest ∙ ap (λ (l : List ℕ). a ++ l) (append_assoc s b rest)

-- a range after a name and a colon
range_is : (size : ℕ) (name : List ℕ) (lower upper : Bound) (rest : List ℕ) → is_bound lower ≡ true → is_bound upper ≡ true
    → range_at size name (lower_text lower ++ (codes " TO " ++ (upper_text upper ++ rest))) ≡ Some (Ok (range_with name lower upper rest))
range_is size name lower upper rest first last =
    lower_is size name lower (codes " TO " ++ (upper_text upper ++ rest)) first
    ∙ ap (λ (r : Result RangeFront ParseError). Some r) (upper_is size name lower upper rest last)

-- it is no phrase
no_quote : (lower : Bound) (after : List ℕ) → begins 34 (lower_text lower ++ after) ≡ false
no_quote unbounded after = refl
no_quote (inclusive text) after = refl
no_quote (exclusive text) after = refl

no_case : {A : Type 0} (p q r s : Bool) (a b c d : A) → p ≡ false → q ≡ false → r ≡ false → s ≡ false → cond p (Some a) (cond q (Some b) (cond r (Some c) (cond s (Some d) None))) ≡ None
no_case p q r s a b c d h i j k = rw (h, i, j, k) refl

-- a byte that isn't special begins no range
no_range : (size : ℕ) (name : List ℕ) (b : ℕ) (bs : List ℕ) → is_special b ≡ false → range_at size name (b ∷ bs) ≡ None
no_range size name b bs is =
    no_case (b == 91) (b == 123) (b == 62) (b == 60) _ _ _ _ (differs is_special b 91 is refl) (differs is_special b 123 is refl) (differs is_special b 62 is refl) (differs is_special b 60 is refl)

unless_no_range : (o : Option (Result RangeFront ParseError)) (at : ℕ) (f : Front) → o ≡ None → unless_range o at f ≡ f
unless_no_range o at f is = rw is refl

found_range : (o : Option (Result RangeFront ParseError)) (at : ℕ) (f : Front) (read : Result RangeFront ParseError) → o ≡ Some read → unless_range o at f ≡ range_front at read
found_range o at f read is = rw is refl

-- a word after a name
plain_value : (size at : ℕ) (name text word rest : List ℕ) (b : ℕ) (bs : List ℕ) → text ≡ b ∷ bs → is_special b ≡ false → IsCut text word rest
    → value_front size at name text ≡ value_or_prefix size at name word rest
plain_value size at name text word rest b bs is plain cut =
    one_fails (begins 34 text) _ _ (ap (begins 34) is ∙ begins_not b 34 bs plain refl)
    ∙ unless_no_range (range_at size name text) at _ (ap (range_at size name) is ∙ no_range size name b bs plain)
    ∙ unless_none (feature_in_front text) _ _ (ap feature_in_front is ∙ first_none b plain)
    ∙ ap (λ (w : List ℕ). value_or_prefix size at name w (from_stop stops.WordEnd text)) cut.before
    ∙ ap (value_or_prefix size at name word) cut.after

value_follows : (size at : ℕ) (name word rest : List ℕ) → MayFollow rest → is_empty word ≡ false → value_or_prefix size at name word rest ≡ front_with at (literal_with (Some name) word delimiters.None) rest
value_follows size at name word rest follows some =
    one_fails (is_set word rest) _ _ (no_set word rest follows.set) ∙ one_fails (has_star rest) _ _ follows.star ∙ unless_none (feature_after rest) _ _ follows.feature ∙ one_fails (is_empty word) _ _ some

-- whether what is spelled may end before this: nothing, a space or a parenthesis that closes, and no bracket after spaces
abbrev ends_here : List ℕ → Bool
ends_here [] = true
ends_here (b ∷ bs) = b == 32 || b == 41

abbrev ends : List ℕ → Bool
ends rest = ends_here rest && not (begins 91 (after_spaces rest))

here : (rest : List ℕ) → ends rest ≡ true → ends_here rest ≡ true
here rest end = (and_parts (ends_here rest) (not (begins 91 (after_spaces rest))) end).0

no_bracket : (rest : List ℕ) → ends rest ≡ true → begins 91 (after_spaces rest) ≡ false
no_bracket rest end = not-true (begins 91 (after_spaces rest)) (and_parts (ends_here rest) (not (begins 91 (after_spaces rest))) end).1

-- a star that ends a prefix
star_ends : (rest : List ℕ) → ends rest ≡ true → has_star (42 ∷ rest) ≡ true
star_ends [] end = refl
star_ends (b ∷ bs) end = by (b == 32) refl (here (b ∷ bs) end)
  where
    by : (space : Bool) → (b == 32) ≡ space → (space || b == 41) ≡ true → is_prefix_end b ≡ true
    by true is h = rw (eqb-true b 32 is) refl
    by false is h = rw (eqb-true b 41 h) refl

-- no slop follows a phrase
no_slop : (rest : List ℕ) → ends rest ≡ true → begins 126 rest ≡ false
no_slop [] end = refl
no_slop (b ∷ bs) end = by (b == 32) refl (here (b ∷ bs) end)
  where
    by : (space : Bool) → (b == 32) ≡ space → (space || b == 41) ≡ true → (b == 126) ≡ false
    by true is h = rw (eqb-true b 32 is) refl
    by false is h = rw (eqb-true b 41 h) refl

lexeme_fails : (p : Bool) (a b : Lexeme) → p ≡ false → cond p a b ≡ b
lexeme_fails p a b h = rw h refl

-- a prefix after a name
prefix_value : (size at : ℕ) (name phrase rest : List ℕ) → is_writable phrase ≡ true → is_empty phrase ≡ false → ends rest ≡ true
    → value_front size at name (word_text phrase ++ 42 ∷ rest) ≡ front_with at (literal_with (Some name) (word_text phrase) delimiters.Star) rest
prefix_value size at name phrase rest may some end =
    let p = is_plain phrase some in
    plain_value size at name (word_text phrase ++ 42 ∷ rest) (word_text phrase) (42 ∷ rest) p.first (p.others ++ 42 ∷ rest) (after_plain (word_text phrase) (42 ∷ rest) p) p.plain (is_cut phrase (42 ∷ rest) may refl)
    ∙ one_fails (is_set (word_text phrase) (42 ∷ rest)) _ _ (no_set (word_text phrase) (42 ∷ rest) refl)
    ∙ one_holds (has_star (42 ∷ rest)) _ _ (star_ends rest end)
    ∙ ap (λ (l : Lexeme). front_with at l rest) (lexeme_fails (is_empty (word_text phrase)) _ _ (some_in_word phrase some))

-- a word or a phrase after a name
named_value : (size at : ℕ) (name : List ℕ) (delimiter : Delimiter) (phrase rest : List ℕ) → is_value delimiter phrase ≡ true → MayFollow rest → ends rest ≡ true
    → value_front size at name (delimited delimiter phrase ++ rest) ≡ front_with at (literal (record { field_name = Some (unescaped name); phrase = phrase; delimiter = delimiter })) rest
named_value size at name delimiters.None phrase rest h follows end =
    let parts = and_parts (not (is_empty phrase)) (is_writable phrase) h in
    let some = not-true (is_empty phrase) parts.0 in
    let p = is_plain phrase some in
    plain_value size at name (word_text phrase ++ rest) (word_text phrase) rest p.first (p.others ++ rest) (after_plain (word_text phrase) rest p) p.plain (is_cut phrase rest parts.1 follows.stop)
    ∙ value_follows size at name (word_text phrase) rest follows (some_in_word phrase some)
    ∙ ap (λ (w : List ℕ). front_with at (literal (record { field_name = Some (unescaped name); phrase = w; delimiter = delimiters.None })) rest) (word_unescapes phrase)
named_value size at name delimiters.DoubleQuotes phrase rest h follows end =
    ap (phrase_front size at (Some name)) (append_assoc (escaped stops.PhraseEscape false phrase) (34 ∷ []) rest) ∙ quoted_front size at (Some name) phrase rest h (no_slop rest end) follows.star
named_value size at name (delimiters.Slop slop) phrase rest h follows end = ap (phrase_front size at (Some name)) (slop_text slop phrase rest) ∙ sloppy_front size at slop (Some name) phrase rest h follows.stop follows.feature
named_value size at name delimiters.Prefix phrase rest h follows end = ap (phrase_front size at (Some name)) (append_assoc (quoted_end phrase) (42 ∷ []) rest) ∙ starred_front size at (Some name) phrase rest h (star_ends rest end)
named_value size at name delimiters.Star phrase rest h follows end =
    let parts = and_parts (not (is_empty phrase)) (is_writable phrase) h in
    ap (value_front size at name) (append_assoc (word_text phrase) (42 ∷ []) rest) ∙ prefix_value size at name phrase rest parts.1 (not-true (is_empty phrase) parts.0) end
    ∙ ap (λ (w : List ℕ). front_with at (literal (record { field_name = Some (unescaped name); phrase = w; delimiter = delimiters.Star })) rest) (word_unescapes phrase)

-- What may come after a word, but for a set.
record MayEnd (rest : List ℕ) : Type 0 where
  stop : place_of stops.WordEnd false rest ≡ 0
  feature : feature_after rest ≡ None
  star : has_star rest ≡ false

follows_by : (b c : ℕ) (bs : List ℕ) → b ≡ c → MayEnd (c ∷ bs) → MayEnd (b ∷ bs)
follows_by b c bs is follows = subst (λ (d : ℕ). MayEnd (d ∷ bs)) (sym is) follows

begins_by : (b c : ℕ) (bs : List ℕ) → b ≡ c → (c == 58) ≡ false → begins 58 (b ∷ bs) ≡ false
begins_by b c bs is other = ap (λ (d : ℕ). d == 58) is ∙ other

ends_either : (b : ℕ) (bs : List ℕ) (space : Bool) → (b == 32) ≡ space → (space || b == 41) ≡ true → MayEnd (b ∷ bs) × (begins 58 (b ∷ bs) ≡ false)
ends_either b bs true is h = (follows_by b 32 bs (eqb-true b 32 is) (record { stop = refl; feature = refl; star = refl }), begins_by b 32 bs (eqb-true b 32 is) refl)
ends_either b bs false is h = (follows_by b 41 bs (eqb-true b 41 h) (record { stop = refl; feature = refl; star = refl }), begins_by b 41 bs (eqb-true b 41 h) refl)

-- a word ends there, and is no name
word_ends : (rest : List ℕ) → ends rest ≡ true → MayFollow rest × (begins 58 rest ≡ false)
word_ends [] h = (record { stop = refl; feature = refl; star = refl; set = refl }, refl)
word_ends (b ∷ bs) h =
    let (end, no_name) = ends_either b bs (b == 32) refl (here (b ∷ bs) h) in
    (record { stop = end.stop; feature = end.feature; star = end.star; set = no_bracket (b ∷ bs) h }, no_name)

no_spaces : (b : ℕ) (bs : List ℕ) → is_space b ≡ false → after_spaces (b ∷ bs) ≡ b ∷ bs
no_spaces b bs is =
    let none : take_while is_space (b ∷ bs) ≡ [] = take_while-cons is_space b bs ∙ rw is refl in
    ap (λ (l : List ℕ). drop (length l) (b ∷ bs)) none

-- Lexemes of a text: this one, and those of the text after it.
record Begins (size : ℕ) (text : List ℕ) (x : Lexeme) (rest : List ℕ) : Type 0 where
  no_space_first : after_spaces text ≡ text
  some : is_empty text ≡ false
  front_is : (at : ℕ) → front_at size at text ≡ front_with at x rest

plain_text : (text rest : List ℕ) → is_empty text ≡ false → (after_spaces (word_text text ++ rest) ≡ word_text text ++ rest) × (is_empty (word_text text ++ rest) ≡ false)
plain_text text rest some =
    let p = is_plain text some in
    let is = after_plain (word_text text) rest p in
    (ap after_spaces is ∙ no_spaces p.first (p.others ++ rest) (no_space p.first p.plain) ∙ sym is, ap is_empty is)

begins_alone : (size : ℕ) (delimiter : Delimiter) (phrase rest : List ℕ) → may_be_alone delimiter phrase ≡ true → ends rest ≡ true
    → Begins size (delimited delimiter phrase ++ rest) (literal (record { field_name = None; phrase = phrase; delimiter = delimiter })) rest
begins_alone size delimiters.None phrase rest h end =
    let parts = and_parts (is_writable_word phrase) (is_no_operator phrase) h in
    let some = not-true (is_empty phrase) (and_parts (not (is_empty phrase)) (is_writable phrase) parts.0).0 in
    let follows = word_ends rest end in
    let text = plain_text phrase rest some in
    record {
      no_space_first = text.0;
      some = text.1;
      front_is = λ at.
          front_of_word size at phrase rest parts.0 follows.0
          ∙ two_fail (is_empty (word_text phrase)) (begins 58 rest) _ _ _ (some_in_word phrase some) follows.1
          ∙ ap (λ (l : Lexeme). front_with at l rest) (word_literal phrase parts.1);
    }
begins_alone size delimiters.Star phrase rest h end =
    let parts = and_parts (not (is_empty phrase)) (is_writable phrase) h in
    let some = not-true (is_empty phrase) parts.0 in
    let p = is_plain phrase some in
    let joined : (word_text phrase ++ 42 ∷ []) ++ rest ≡ word_text phrase ++ 42 ∷ rest = append_assoc (word_text phrase) (42 ∷ []) rest in
    let text = plain_text phrase (42 ∷ rest) some in
    let prefix : is_prefix (word_text phrase) (42 ∷ rest) ≡ true = rw (some_in_word phrase some, star_ends rest end) refl in
    record {
      no_space_first = ap after_spaces joined ∙ text.0 ∙ sym joined;
      some = ap is_empty joined ∙ text.1;
      front_is = λ at.
          ap (front_at size at) joined
          ∙ front_of_plain size at (word_text phrase ++ 42 ∷ rest) (word_text phrase) (42 ∷ rest) p.first (p.others ++ 42 ∷ rest) (after_plain (word_text phrase) (42 ∷ rest) p) p.plain (is_cut phrase (42 ∷ rest) parts.1 refl)
          ∙ one_fails (is_set (word_text phrase) (42 ∷ rest)) _ _ (no_set (word_text phrase) (42 ∷ rest) refl)
          ∙ one_holds (is_prefix (word_text phrase) (42 ∷ rest)) _ _ prefix
          ∙ ap (λ (w : List ℕ). front_with at (literal (record { field_name = None; phrase = w; delimiter = delimiters.Star })) rest) (word_unescapes phrase);
    }
begins_alone size delimiters.DoubleQuotes phrase rest h end = record {
  no_space_first = refl;
  some = refl;
  front_is = λ at. ap (phrase_front size at None) (append_assoc (escaped stops.PhraseEscape false phrase) (34 ∷ []) rest) ∙ quoted_front size at None phrase rest h (no_slop rest end) (word_ends rest end).0.star;
}
begins_alone size (delimiters.Slop slop) phrase rest h end = record {
  no_space_first = refl;
  some = refl;
  front_is = λ at. ap (phrase_front size at None) (slop_text slop phrase rest) ∙ sloppy_front size at slop None phrase rest h (word_ends rest end).0.stop (word_ends rest end).0.feature;
}
begins_alone size delimiters.Prefix phrase rest h end = record {
  no_space_first = refl;
  some = refl;
  front_is = λ at. ap (phrase_front size at None) (append_assoc (quoted_end phrase) (42 ∷ []) rest) ∙ starred_front size at None phrase rest h (star_ends rest end);
}

begins_named : (size : ℕ) (name : List ℕ) (delimiter : Delimiter) (phrase rest : List ℕ) → is_writable_word name ≡ true → is_value delimiter phrase ≡ true → ends rest ≡ true
    → Begins size (word_text name ++ 58 ∷ (delimited delimiter phrase ++ rest)) (literal (record { field_name = Some name; phrase = phrase; delimiter = delimiter })) rest
begins_named size name delimiter phrase rest h value end =
    let some = not-true (is_empty name) (and_parts (not (is_empty name)) (is_writable name) h).0 in
    let after = delimited delimiter phrase ++ rest in
    let text = plain_text name (58 ∷ after) some in
    record {
      no_space_first = text.0;
      some = text.1;
      front_is = λ at.
          front_of_word size at name (58 ∷ after) h (record { stop = refl; feature = refl; star = refl; set = refl })
          ∙ one_fails (is_empty (word_text name)) _ _ (some_in_word name some)
          ∙ named_value size at (word_text name) delimiter phrase rest value (word_ends rest end).0 end
          ∙ ap (λ (n : List ℕ). front_with at (literal (record { field_name = Some n; phrase = phrase; delimiter = delimiter })) rest) (word_unescapes name);
    }

begins_by_field : (size : ℕ) (field : Option (List ℕ)) (delimiter : Delimiter) (phrase rest : List ℕ) → is_literal field delimiter phrase ≡ true → ends rest ≡ true
    → Begins size ((field_text field ++ delimited delimiter phrase) ++ rest) (literal (record { field_name = field; phrase = phrase; delimiter = delimiter })) rest
begins_by_field size None delimiter phrase rest h end = begins_alone size delimiter phrase rest h end
begins_by_field size (Some name) delimiter phrase rest h end =
    let parts = and_parts (is_writable_word name) (is_value delimiter phrase) h in
    subst (λ (text : List ℕ). Begins size text (literal (record { field_name = Some name; phrase = phrase; delimiter = delimiter })) rest)
    (sym (ap (λ (text : List ℕ). text ++ rest) (append_assoc (word_text name) (58 ∷ []) (delimited delimiter phrase)) ∙ append_assoc (word_text name) (58 ∷ delimited delimiter phrase) rest))
    (begins_named size name delimiter phrase rest parts.0 parts.1 end)

begins_literal : (size : ℕ) (l : Literal) (rest : List ℕ) → is_literal l.field_name l.delimiter l.phrase ≡ true → ends rest ≡ true → Begins size (literal_text l ++ rest) (literal l) rest
begins_literal size l rest h end = begins_by_field size l.field_name l.delimiter l.phrase rest h end

-- a range in front
begins_between : (size : ℕ) (name : List ℕ) (lower upper : Bound) (rest : List ℕ) → is_writable_word name ≡ true → is_bound lower ≡ true → is_bound upper ≡ true
    → Begins size (word_text name ++ 58 ∷ (lower_text lower ++ (codes " TO " ++ (upper_text upper ++ rest)))) (range (record { field_name = name; lower = lower; upper = upper })) rest
begins_between size name lower upper rest h first last =
    let some = not-true (is_empty name) (and_parts (not (is_empty name)) (is_writable name) h).0 in
    let after = lower_text lower ++ (codes " TO " ++ (upper_text upper ++ rest)) in
    let text = plain_text name (58 ∷ after) some in
    record {
      no_space_first = text.0;
      some = text.1;
      front_is = λ at.
          front_of_word size at name (58 ∷ after) h (record { stop = refl; feature = refl; star = refl; set = refl })
          ∙ one_fails (is_empty (word_text name)) _ _ (some_in_word name some)
          ∙ one_fails (begins 34 after) _ _ (no_quote lower (codes " TO " ++ (upper_text upper ++ rest)))
          ∙ found_range (range_at size (word_text name) after) at _ _ (range_is size (word_text name) lower upper rest first last)
          ∙ ap (λ (n : List ℕ). front_with at (range (record { field_name = n; lower = lower; upper = upper })) rest) (word_unescapes name);
    }

begins_range : (size : ℕ) (r : Range) (rest : List ℕ) → is_range r ≡ true → Begins size (range_text r ++ rest) (range r) rest
begins_range size r rest h =
    let parts = and_parts (is_writable_word r.field_name && is_bound r.lower) (is_bound r.upper) h in
    let bounds = and_parts (is_writable_word r.field_name) (is_bound r.lower) parts.0 in
    let body = lower_text r.lower ++ codes " TO " ++ upper_text r.upper in
    subst (λ (text : List ℕ). Begins size text (range r) rest)
    (sym (append_assoc (word_text r.field_name) (58 ∷ body) rest ∙ ap (λ (l : List ℕ). word_text r.field_name ++ 58 ∷ l) (between (lower_text r.lower) (codes " TO ") (upper_text r.upper) rest)))
    (begins_between size r.field_name r.lower r.upper rest bounds.0 bounds.1 parts.1)

-- the values of a set do not depend on spaces before them
set_of_spaces : (left size : ℕ) (a b : List ℕ) → after_spaces a ≡ after_spaces b → set_values left size a ≡ set_values left size b
unfolding set_values
set_of_spaces zero size a b is = ap (λ (l : List ℕ). values_from (λ rest. Ok (record { values = []; rest = rest })) (next_value zero size l)) is
set_of_spaces (suc left) size a b is = ap (λ (l : List ℕ). values_from (set_values left size) (next_value (suc left) size l)) is

values_space : (values : List (List ℕ)) (rest : List ℕ) → after_spaces (values_text (32 ∷ []) values ++ rest) ≡ after_spaces (values_text [] values ++ rest)
values_space [] rest = refl
values_space (value ∷ values) rest = refl

one_left : (left : ℕ) (a b : Result Limit ParseError) → cond (suc left == 0) a b ≡ b
one_left left a b = by (suc left == 0) refl
  where
    by : (none : Bool) → (suc left == 0) ≡ none → cond none a b ≡ b
    by true is = absurd (let zero_is = eqb-true (suc left) 0 is in omega (arith, zero_is))
    by false is = refl

-- the values of a set, from their text
values_are : (left size : ℕ) (values : List (List ℕ)) (rest : List ℕ) → list_all is_writable values ≡ true → length values ≤ left → set_values left size (values_text [] values ++ rest) ≡ Ok (record { values = values; rest = rest })
unfolding set_values
values_are zero size [] rest may few = refl
values_are (suc left) size [] rest may few = refl
values_are zero size (value ∷ values) rest may few = absurd (omega (arith, few))
values_are (suc left) size (value ∷ values) rest may few =
    let parts = and_parts (is_writable value) (list_all is_writable values) may in
    let later = values_text (32 ∷ []) values in
    ap (λ (l : List ℕ). values_from (set_values left size) (next_value (suc left) size (after_spaces l))) (append_assoc (quoted value) later rest)
    ∙ ap (values_from (set_values left size)) (one_left left _ (text_limit expected.SetValue stops.BoundEnd size (quoted value ++ (later ++ rest))) ∙ quoted_limit_is expected.SetValue stops.BoundEnd size value (later ++ rest) parts.0)
    ∙ ap (with_values (value ∷ [])) (set_of_spaces left size (later ++ rest) (values_text [] values ++ rest) (values_space values rest) ∙ values_are left size values rest parts.1 (omega (arith, few)))

-- a set in front
begins_among : (size : ℕ) (name : List ℕ) (values : List (List ℕ)) (rest : List ℕ) → is_writable_word name ≡ true → list_all is_writable values ≡ true → length values ≤ MAX_SET_VALUES
    → Begins size (word_text name ++ 58 ∷ (codes "IN [" ++ (values_text [] values ++ rest))) (value_set (record { field_name = name; values = values })) rest
begins_among size name values rest h may few =
    let some = not-true (is_empty name) (and_parts (not (is_empty name)) (is_writable name) h).0 in
    let body = values_text [] values ++ rest in
    let after = codes "IN [" ++ body in
    let text = plain_text name (58 ∷ after) some in
    record {
      no_space_first = text.0;
      some = text.1;
      front_is = λ at.
          front_of_word size at name (58 ∷ after) h (record { stop = refl; feature = refl; star = refl; set = refl })
          ∙ one_fails (is_empty (word_text name)) _ _ (some_in_word name some)
          ∙ ap (set_front at (word_text name)) (values_are MAX_SET_VALUES size values rest may few)
          ∙ ap (λ (n : List ℕ). front_with at (value_set (record { field_name = n; values = values })) rest) (word_unescapes name);
    }

begins_set : (size : ℕ) (s : ValueSet) (rest : List ℕ) → may_be_set s ≡ true → Begins size (set_text s ++ rest) (value_set s) rest
begins_set size s rest h =
    let parts = and_parts (is_writable_word s.field_name && list_all is_writable s.values) (nat_le (length s.values) MAX_SET_VALUES) h in
    let texts = and_parts (is_writable_word s.field_name) (list_all is_writable s.values) parts.0 in
    subst (λ (text : List ℕ). Begins size text (value_set s) rest)
    (sym (between (word_text s.field_name) (codes ":IN [") (values_text [] s.values) rest))
    (begins_among size s.field_name s.values rest texts.0 texts.1 (leb-true (length s.values) MAX_SET_VALUES parts.1))

-- a star in front
begins_star : (size : ℕ) (rest : List ℕ) → ends rest ≡ true → Begins size (42 ∷ rest) asterisk rest
begins_star size rest end = record { no_space_first = refl; some = refl; front_is = λ at. one_holds (has_star (42 ∷ rest)) _ _ (star_ends rest end) }

-- the first lexeme of a text
lexemes_begin : (size : ℕ) (text : List ℕ) (x : Lexeme) (rest : List ℕ) → Begins size text x rest → lexemes size text ≡ token (size - length text) x ∷ lexemes size rest
lexemes_begin size text x rest is =
    lexemes_step size text ∙ ap (one_more (lexemes size) size) is.no_space_first
    ∙ rw (is.some, is.front_is (size - length text)) refl

-- a space in front makes no difference
lexemes_space : (size : ℕ) (text : List ℕ) → lexemes size (32 ∷ text) ≡ lexemes size text
lexemes_space size text =
    let same : after_spaces (32 ∷ text) ≡ after_spaces text = ap (λ (l : List ℕ). drop (length l) (32 ∷ text)) (take_while-cons is_space 32 text) in
    lexemes_step size (32 ∷ text) ∙ ap (one_more (lexemes size) size) same ∙ sym (lexemes_step size text)

lexemes_opening : (size : ℕ) (rest : List ℕ) → lexemes size (40 ∷ rest) ≡ token (size - length (40 ∷ rest)) opening ∷ lexemes size rest
lexemes_opening size rest = lexemes_step size (40 ∷ rest)

lexemes_closing : (size : ℕ) (rest : List ℕ) → lexemes size (41 ∷ rest) ≡ token (size - length (41 ∷ rest)) closing ∷ lexemes size rest
lexemes_closing size rest = lexemes_step size (41 ∷ rest)

lexemes_minus : (size : ℕ) (rest : List ℕ) → lexemes size (32 ∷ 45 ∷ rest) ≡ token (size - length (45 ∷ rest)) minus ∷ lexemes size rest
lexemes_minus size rest = lexemes_step size (32 ∷ 45 ∷ rest)

lexemes_and : (size : ℕ) (rest : List ℕ) → lexemes size (32 ∷ 65 ∷ 78 ∷ 68 ∷ 32 ∷ rest) ≡ token (size - length (65 ∷ 78 ∷ 68 ∷ 32 ∷ rest)) and_word ∷ lexemes size (32 ∷ rest)
lexemes_and size rest = lexemes_step size (32 ∷ 65 ∷ 78 ∷ 68 ∷ 32 ∷ rest)

lexemes_or : (size : ℕ) (rest : List ℕ) → lexemes size (32 ∷ 79 ∷ 82 ∷ 32 ∷ rest) ≡ token (size - length (79 ∷ 82 ∷ 32 ∷ rest)) or_word ∷ lexemes size (32 ∷ rest)
lexemes_or size rest = lexemes_step size (32 ∷ 79 ∷ 82 ∷ 32 ∷ rest)

-- Lexemes are this together, and those of the text after them follow.
record Gets (more : ℕ) (k : Kind) (size : ℕ) (text rest : List ℕ) : Type 0 where
  ts : List Token
  spells : Spells more k ts
  is : lexemes size text ≡ ts ++ lexemes size rest

-- So it is for a text, wherever it may end.
abbrev Lexed : ℕ → Kind → List ℕ → Type 0
Lexed more k text = (size : ℕ) (rest : List ℕ) → ends rest ≡ true → Gets more k size (text ++ rest) rest

lexed_leaf : (more : ℕ) (l : Literal) → is_literal l.field_name l.delimiter l.phrase ≡ true → Lexed more (part (leaf l)) (literal_text l)
lexed_leaf more l h = λ size rest end. record {
  ts = token (size - length (literal_text l ++ rest)) (literal l) ∷ [];
  spells = alone (size - length (literal_text l ++ rest)) l;
  is = lexemes_begin size (literal_text l ++ rest) (literal l) rest (begins_literal size l rest h end);
}

lexed_range : (more : ℕ) (r : Range) → is_range r ≡ true → Lexed more (part (ranged r)) (range_text r)
lexed_range more r h = λ size rest end. record {
  ts = token (size - length (range_text r ++ rest)) (range r) ∷ [];
  spells = between_bounds (size - length (range_text r ++ rest)) r;
  is = lexemes_begin size (range_text r ++ rest) (range r) rest (begins_range size r rest h);
}

lexed_set : (more : ℕ) (s : ValueSet) → may_be_set s ≡ true → Lexed more (part (in_set s)) (set_text s)
lexed_set more s h = λ size rest end. record {
  ts = token (size - length (set_text s ++ rest)) (value_set s) ∷ [];
  spells = among_values (size - length (set_text s ++ rest)) s;
  is = lexemes_begin size (set_text s ++ rest) (value_set s) rest (begins_set size s rest h);
}

lexed_star : (more : ℕ) → Lexed more (part everything) (codes "*")
lexed_star more = λ size rest end. record {
  ts = token (size - length (42 ∷ rest)) asterisk ∷ [];
  spells = star_alone (size - length (42 ∷ rest));
  is = lexemes_begin size (42 ∷ rest) asterisk rest (begins_star size rest end);
}

lexed_parentheses : (more : ℕ) (t : Ast) (text : List ℕ) → Lexed more (query t) text → Lexed (suc more) (part t) (40 ∷ text ++ 41 ∷ [])
lexed_parentheses more t text inner = λ size rest end.
    let inside = inner size (41 ∷ rest) refl in
    let first = size - length (40 ∷ ((text ++ 41 ∷ []) ++ rest)) in
    let last = size - length (41 ∷ rest) in
    record {
      ts = token first opening ∷ (inside.ts ++ token last closing ∷ []);
      spells = in_parentheses first last inside.spells;
      is = lexemes_opening size ((text ++ 41 ∷ []) ++ rest)
          ∙ ap (λ (l : List Token). token first opening ∷ l)
          (ap (lexemes size) (append_assoc text (41 ∷ []) rest) ∙ inside.is
          ∙ ap (λ (l : List Token). inside.ts ++ l) (lexemes_closing size rest)
          ∙ sym (append_assoc inside.ts (token last closing ∷ []) (lexemes size rest)));
    }

-- a chain alone is a query
chain_query : (more : ℕ) (c : ChainState) (ts : List Token) → Spells more (chain c) ts → Spells more (query (chain_tree c)) ts
chain_query more c ts spells = all (wanted (next_to nothing spells)) refl

lexed_without : (more : ℕ) (s t : Ast) (a b : List ℕ) → Lexed more (part s) a → Lexed more (part t) b → Lexed more (query (without s t)) (a ++ codes " AND -" ++ b)
lexed_without more s t a b first other = λ size rest end.
    let later = other size rest end in
    let front = first size (codes " AND -" ++ (b ++ rest)) refl in
    let at = size - length (65 ∷ 78 ∷ 68 ∷ 32 ∷ 45 ∷ (b ++ rest)) in
    let next = size - length (45 ∷ (b ++ rest)) in
    record {
      ts = front.ts ++ token at and_word ∷ token next minus ∷ later.ts;
      spells = chain_query more _ _ (and_not at next (one front.spells) later.spells);
      is = ap (lexemes size) (between a (codes " AND -") b rest) ∙ front.is
          ∙ ap (λ (l : List Token). front.ts ++ l) (lexemes_and size (45 ∷ (b ++ rest)) ∙ ap (λ (l : List Token). token at and_word ∷ l) (lexemes_minus size (b ++ rest) ∙ ap (λ (l : List Token). token next minus ∷ l) later.is))
          ∙ sym (append_assoc front.ts (token at and_word ∷ token next minus ∷ later.ts) (lexemes size rest));
    }

-- the parts of a tree as a list
abbrev list_of : Asts → List Ast
list_of no_asts = []
list_of (and_asts t ts) = t ∷ list_of ts

same_asts : (ts : Asts) → asts_from (list_of ts) ≡ ts
same_asts no_asts = refl
same_asts (and_asts t ts) = ap (λ (us : Asts). and_asts t us) (same_asts ts)

-- Each part is read from its text.
abbrev AllLexed : ℕ → Asts → Type 0
AllLexed more no_asts = Unit {0}
AllLexed more (and_asts t ts) = Lexed more (part t) (part_text t) × AllLexed more ts

-- a text may end before further parts
ends_before : (s : List ℕ) (ts : Asts) (rest : List ℕ) → ((text : List ℕ) → ends (s ++ text) ≡ true) → ends rest ≡ true → ends (parts_text s s ts ++ rest) ≡ true
ends_before s no_asts rest each end = end
ends_before s (and_asts t ts) rest each end = ap ends (between s (part_text t) (parts_text s s ts) rest) ∙ each (part_text t ++ (parts_text s s ts ++ rest))

-- Lexemes that continue others are this together with them.
record Continues (more : ℕ) (k : Kind) (ks : List Token) (size : ℕ) (text rest : List ℕ) : Type 0 where
  ts : List Token
  spells : Spells more k (ks ++ ts)
  is : lexemes size text ≡ ts ++ lexemes size rest

abbrev and_chain : List Ast → ChainState
and_chain ws = record { wanted = ws; excluded = [] }

and_tail : (more : ℕ) (ts : Asts) → AllLexed more ts → (ws : List Ast) (ks : List Token) → Spells more (chain (and_chain ws)) ks → (size : ℕ) (rest : List ℕ) → ends rest ≡ true
    → Continues more (chain (and_chain (ws ++ list_of ts))) ks size (parts_text (codes " AND ") (codes " AND ") ts ++ rest) rest
and_tail more no_asts each ws ks spells = λ size rest end. record {
  ts = [];
  spells = subst (λ (l : List Token). Spells more (chain (and_chain (ws ++ []))) l) (sym (append-nil ks)) (subst (λ (l : List Ast). Spells more (chain (and_chain l)) ks) (sym (append-nil ws)) spells);
  is = refl;
}
and_tail more (and_asts t ts) (lexed, each) ws ks spells = λ size rest end.
    let tail = parts_text (codes " AND ") (codes " AND ") ts in
    let at = size - length (65 ∷ 78 ∷ 68 ∷ 32 ∷ (part_text t ++ (tail ++ rest))) in
    let here = lexed size (tail ++ rest) (ends_before (codes " AND ") ts rest (λ text. refl) end) in
    let later = and_tail more ts each (ws ++ t ∷ []) (ks ++ token at and_word ∷ here.ts) (and at spells here.spells) size rest end in
    record {
      ts = token at and_word ∷ (here.ts ++ later.ts);
      spells = subst (λ (l : List Token). Spells more (chain (and_chain (ws ++ t ∷ list_of ts))) l) (append_assoc ks (token at and_word ∷ here.ts) later.ts)
          (subst (λ (l : List Ast). Spells more (chain (and_chain l)) ((ks ++ token at and_word ∷ here.ts) ++ later.ts)) (append_assoc ws (t ∷ []) (list_of ts)) later.spells);
      is = ap (lexemes size) (between (codes " AND ") (part_text t) tail rest)
          ∙ lexemes_and size (part_text t ++ (tail ++ rest))
          ∙ ap (λ (l : List Token). token at and_word ∷ l) (lexemes_space size (part_text t ++ (tail ++ rest)) ∙ here.is ∙ ap (λ (l : List Token). here.ts ++ l) later.is ∙ sym (append_assoc here.ts later.ts (lexemes size rest)));
    }

or_tail : (more : ℕ) (ts : Asts) → AllLexed more ts → (ws : List Ast) (ks : List Token) → Spells more (wants ws []) ks → (size : ℕ) (rest : List ℕ) → ends rest ≡ true
    → Continues more (wants (ws ++ list_of ts) []) ks size (parts_text (codes " OR ") (codes " OR ") ts ++ rest) rest
or_tail more no_asts each ws ks spells = λ size rest end. record {
  ts = [];
  spells = subst (λ (l : List Token). Spells more (wants (ws ++ []) []) l) (sym (append-nil ks)) (subst (λ (l : List Ast). Spells more (wants l []) ks) (sym (append-nil ws)) spells);
  is = refl;
}
or_tail more (and_asts t ts) (lexed, each) ws ks spells = λ size rest end.
    let tail = parts_text (codes " OR ") (codes " OR ") ts in
    let at = size - length (79 ∷ 82 ∷ 32 ∷ (part_text t ++ (tail ++ rest))) in
    let here = lexed size (tail ++ rest) (ends_before (codes " OR ") ts rest (λ text. refl) end) in
    let later = or_tail more ts each (ws ++ t ∷ []) (ks ++ token at or_word ∷ here.ts) (or at spells (one here.spells)) size rest end in
    record {
      ts = token at or_word ∷ (here.ts ++ later.ts);
      spells = subst (λ (l : List Token). Spells more (wants (ws ++ t ∷ list_of ts) []) l) (append_assoc ks (token at or_word ∷ here.ts) later.ts)
          (subst (λ (l : List Ast). Spells more (wants l []) ((ks ++ token at or_word ∷ here.ts) ++ later.ts)) (append_assoc ws (t ∷ []) (list_of ts)) later.spells);
      is = ap (lexemes size) (between (codes " OR ") (part_text t) tail rest)
          ∙ lexemes_or size (part_text t ++ (tail ++ rest))
          ∙ ap (λ (l : List Token). token at or_word ∷ l) (lexemes_space size (part_text t ++ (tail ++ rest)) ∙ here.is ∙ ap (λ (l : List Token). here.ts ++ l) later.is ∙ sym (append_assoc here.ts later.ts (lexemes size rest)));
    }

lexed_all : (more : ℕ) (ts : Asts) → are_several ts ≡ true → AllLexed more ts → Lexed more (query (all_of ts)) (parts_text [] (codes " AND ") ts)
lexed_all more no_asts several each = absurd (cc)
lexed_all more (and_asts t no_asts) several each = absurd (cc)
lexed_all more (and_asts t (and_asts u ts)) several (lexed, each) = λ size rest end.
    let us = and_asts u ts in
    let tail = parts_text (codes " AND ") (codes " AND ") us in
    let here = lexed size (tail ++ rest) (ends_before (codes " AND ") us rest (λ text. refl) end) in
    let later = and_tail more us each (t ∷ []) here.ts (one here.spells) size rest end in
    record {
      ts = here.ts ++ later.ts;
      spells = subst (λ (vs : Asts). Spells more (query (all_of (and_asts t (and_asts u vs)))) (here.ts ++ later.ts)) (same_asts ts) (chain_query more _ _ later.spells);
      is = ap (lexemes size) (append_assoc (part_text t) tail rest) ∙ here.is ∙ ap (λ (l : List Token). here.ts ++ l) later.is ∙ sym (append_assoc here.ts later.ts (lexemes size rest));
    }

wants_query : (more : ℕ) (t u : Ast) (us : List Ast) (ts : List Token) → Spells more (wants (t ∷ u ∷ us) []) ts → Spells more (query (any_of (asts_from (t ∷ u ∷ us)))) ts
wants_query more t u us ts spells = all (wanted spells) refl

lexed_any : (more : ℕ) (ts : Asts) → are_several ts ≡ true → AllLexed more ts → Lexed more (query (any_of ts)) (parts_text [] (codes " OR ") ts)
lexed_any more no_asts several each = absurd (cc)
lexed_any more (and_asts t no_asts) several each = absurd (cc)
lexed_any more (and_asts t (and_asts u ts)) several (lexed, each) = λ size rest end.
    let us = and_asts u ts in
    let tail = parts_text (codes " OR ") (codes " OR ") us in
    let here = lexed size (tail ++ rest) (ends_before (codes " OR ") us rest (λ text. refl) end) in
    let later = or_tail more us each (t ∷ []) here.ts (next_to nothing (one here.spells)) size rest end in
    record {
      ts = here.ts ++ later.ts;
      spells = subst (λ (vs : Asts). Spells more (query (any_of (and_asts t (and_asts u vs)))) (here.ts ++ later.ts)) (same_asts ts) (wants_query more t u (list_of ts) _ later.spells);
      is = ap (lexemes size) (append_assoc (part_text t) tail rest) ∙ here.is ∙ ap (λ (l : List Token). here.ts ++ l) later.is ∙ sym (append_assoc here.ts later.ts (lexemes size rest));
    }

-- a tree in parentheses, given the limit of open ones
in_room : (more n : ℕ) (t : Ast) (text : List ℕ) → suc n ≤ more → ((m : ℕ) → n ≤ m → Lexed m (query t) text) → Lexed more (part t) (40 ∷ text ++ 41 ∷ [])
in_room zero n t text few lexed = absurd (omega (arith, few))
in_room (suc m) n t text few lexed = lexed_parentheses m t text (lexed m (omega (arith, few)))

-- a tree as a part
as_part : (more : ℕ) (t : Ast) → has_spelling t ≡ true → part_nesting t ≤ more → ((m : ℕ) → nesting t ≤ m → Lexed m (query t) (spelled t)) → Lexed more (part t) (part_text t)
as_part more everything h few lexed = lexed_star more
as_part more (leaf l) h few lexed = lexed_leaf more l h
as_part more (ranged r) h few lexed = lexed_range more r h
as_part more (in_set s) h few lexed = lexed_set more s h
as_part more (all_of ts) h few lexed = in_room more (nesting (all_of ts)) (all_of ts) (spelled (all_of ts)) few lexed
as_part more (any_of ts) h few lexed = in_room more (nesting (any_of ts)) (any_of ts) (spelled (any_of ts)) few lexed
as_part more (without s t) h few lexed = in_room more (nesting (without s t)) (without s t) (spelled (without s t)) few lexed

mutual
  lexed_query : (t : Ast) → has_spelling t ≡ true → (more : ℕ) → nesting t ≤ more → Lexed more (query t) (spelled t)
  lexed_query everything h = λ more few size rest end. let got = lexed_star more size rest end in record { ts = got.ts; spells = chain_query more _ _ (one got.spells); is = got.is }
  lexed_query (leaf l) h = λ more few size rest end. let got = lexed_leaf more l h size rest end in record { ts = got.ts; spells = chain_query more _ _ (one got.spells); is = got.is }
  lexed_query (ranged r) h = λ more few size rest end. let got = lexed_range more r h size rest end in record { ts = got.ts; spells = chain_query more _ _ (one got.spells); is = got.is }
  lexed_query (in_set s) h = λ more few size rest end. let got = lexed_set more s h size rest end in record { ts = got.ts; spells = chain_query more _ _ (one got.spells); is = got.is }
  lexed_query (all_of ts) h = λ more few. let parts = and_parts (are_several ts) (have_spelling ts) h in lexed_all more ts parts.0 (lexed_parts ts parts.1 more few)
  lexed_query (any_of ts) h = λ more few. let parts = and_parts (are_several ts) (have_spelling ts) h in lexed_any more ts parts.0 (lexed_parts ts parts.1 more few)
  lexed_query (without s t) h = λ more few.
      let parts = and_parts (has_spelling s) (has_spelling t) h in
      lexed_without more s t (part_text s) (part_text t)
      (as_part more s parts.0 (omega (arith, few)) (lexed_query s parts.0))
      (as_part more t parts.1 (omega (arith, few)) (lexed_query t parts.1))

  lexed_parts : (ts : Asts) → have_spelling ts ≡ true → (more : ℕ) → parts_nesting ts ≤ more → AllLexed more ts
  lexed_parts no_asts h = λ more few. tt
  lexed_parts (and_asts t ts) h = λ more few.
      let parts = and_parts (has_spelling t) (have_spelling ts) h in
      (as_part more t parts.0 (omega (arith, few)) (lexed_query t parts.0), lexed_parts ts parts.1 more (omega (arith, few)))

-- a tree that can be written is read from its text
pub reads_spelled : (limit : ℕ) (t : Ast) → has_spelling t ≡ true → nesting t ≤ limit → parsed limit (spelled t) ≡ Ok t
reads_spelled limit t h few =
    let size = length (spelled t) in
    let got = lexed_query t h limit few size [] refl in
    let same : got.ts ≡ lexemes size (spelled t) =
    sym (append-nil got.ts) ∙ ap (λ (l : List Token). got.ts ++ l) (sym (lexemes_step size [])) ∙ sym got.is ∙ ap (lexemes size) (append-nil (spelled t)) in
    reads_query limit size t (lexemes size (spelled t)) (subst (λ (l : List Token). Spells limit (query t) l) same got.spells)
