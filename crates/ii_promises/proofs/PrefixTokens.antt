-- Where a phrase of a term and a prefix is found, by the tokens of an index.
use Rattle.std.proofs.Common.{◌≡◌, ◌∙◌, ℕ, ◌+◌, ◌<◌, Bool, true, false, ◌&&◌, ◌==◌, List, [], ◌∷◌, Global, Vec, ap, nat_lt, refl, sym, arith}
use Rattle.std.specs.Prelude.{bytes_eq, nat_eq, nat_le}
use Rattle.std.specs.Cmp.{both_ways}
use Rattle.std.specs.Cmp.Lexicographic.{bytes_decides}
use Rattle.std.specs.List.{AllByRecursion, list_any, starts_with}
use Rattle.std.proofs.lemmas.Bool.{and_from, and_parts, eq-eqb, eqb-true, le-leb, leb-true, lt-ltb, or_right}
use Rattle.ii_base.specs.Schema.{SchemaEntry}
use Rattle.ii_base.specs.Terms.{TermState}
use Rattle.ii_definitions.specs.Postings.{is_at, tokens_at}
use Rattle.ii_definitions.specs.Tokens.{IndexToken}
use Rattle.ii_query_parser.specs.declared.phrase_prefix.PhrasePrefix.{PhrasePrefix}
use Rattle.ii_query_parser.specs.declared.query.PhraseTerm.{PhraseTerm}
use Rattle.ii_query_parser.specs.declared.term_range.KeyBound.TheVariants.{Unbounded}
use Rattle.ii_query_parser.specs.declared.term_range.TermRange.{TermRange}
use Rattle.ii_query_parser.specs.Queries.{are_of_texts, follow_near, has_phrase_prefix, has_phrase_within, has_positions_in, is_text_key, is_token_of, others_with, phrase_has_positions, phrase_is_within}
use Rattle.ii_query_parser.specs.Ranges.{in_range}
use Rattle.ii_search.proofs.RangeMatches.{any_gives, any_more}
use Rattle.ii_promises.specs.Phrases.{HaveTexts, KeepPositions}
use Rattle.ii_promises.proofs.NearLaws.{is_close}
use Rattle.ii_promises.proofs.NearTokens.{close_follows, has_close, next_word}

-- a key that occurs is one of texts, where all tokens of its field are of texts
text_key : (term : TermState) (ts : List IndexToken) → AllByRecursion (λ (t : IndexToken). (t.field == term.field) ≡ true → t.of_text ≡ true) ts → list_any (is_at term.field term.value) ts ≡ true → is_text_key term ts ≡ true
text_key term [] texts some = some
text_key term (t ∷ ts) texts some = by (is_at term.field term.value t) refl (text_key term ts texts.1)
  where
    by : (b : Bool) → is_at term.field term.value t ≡ b → (list_any (is_at term.field term.value) ts ≡ true → is_text_key term ts ≡ true) → are_of_texts (tokens_at term.field term.value (t ∷ ts)) ≡ true
    by true is later = rw is (texts.0 (and_parts (t.field == term.field) (bytes_eq t.key term.value) is).0)
    by false is later = rw is (later (rw is at some))

-- the tokens of the first field, and of the second one
first_texts : (first second : TermState) (ts : List IndexToken) → HaveTexts ts first second → AllByRecursion (λ (t : IndexToken). (t.field == first.field) ≡ true → t.of_text ≡ true) ts
first_texts first second [] texts = tt
first_texts first second (t ∷ ts) texts = (λ same. texts.0 (rw same refl), first_texts first second ts texts.1)

second_texts : (first second : TermState) (ts : List IndexToken) → HaveTexts ts first second → AllByRecursion (λ (t : IndexToken). (t.field == second.field) ≡ true → t.of_text ≡ true) ts
second_texts first second [] texts = tt
second_texts first second (t ∷ ts) texts = (λ same. texts.0 (or_right (t.field == first.field) (t.field == second.field) same), second_texts first second ts texts.1)

-- at no distance from a place
close_here : (place q : ℕ) → is_close 0 place q ≡ true → (q == place) ≡ true
close_here place q is =
    let both = and_parts (nat_le place (q + 0)) (nat_le q (place + 0)) is in
    let low = leb-true place (q + 0) both.0 in
    let high = leb-true q (place + 0) both.1 in
    eq-eqb q place (omega (arith, low, high))

here_close : (place q : ℕ) → (q == place) ≡ true → is_close 0 place q ≡ true
here_close place q is =
    let same = eqb-true q place is in
    and_from (nat_le place (q + 0)) (nat_le q (place + 0)) (le-leb place (q + 0) (omega (arith, same))) (le-leb q (place + 0) (omega (arith, same)))

-- ---- a phrase of a term, and a range of all keys with a prefix
module _ (first prefix : TermState) (others : Vec PhraseTerm Global) (last : TermRange) (none : others.items ≡ []) (starts : last.prefix ≡ prefix) (lower : last.lower ≡ Unbounded) (upper : last.upper ≡ Unbounded) where
  abbrev pub phrase : PhrasePrefix
  phrase = record { first = first; others = others; distance = 1; last = last }

  -- the term with a key
  abbrev second : List ℕ → TermState
  second key = record { field = prefix.field; value = key }

  only : (key : List ℕ) → others_with phrase key ≡ next_word (second key) ∷ []
  only key = rw (none, starts) refl

  pub prefix_fields : (n : ℕ) → first.field < n → prefix.field < n → phrase_is_within n first (others_with phrase last.prefix.value) ≡ true
  prefix_fields n one two =
      ap (phrase_is_within n first) (only last.prefix.value)
      ∙ and_from (nat_lt first.field n) (nat_lt prefix.field n && true) (lt-ltb first.field n one) (and_from (nat_lt prefix.field n) true (lt-ltb prefix.field n two) refl)

  pub prefix_positions : (schema : List SchemaEntry) → KeepPositions schema first prefix → phrase_has_positions schema first (others_with phrase last.prefix.value) ≡ true
  prefix_positions schema keep =
      ap (phrase_has_positions schema first) (only last.prefix.value)
      ∙ and_from (has_positions_in schema first) (has_positions_in schema prefix && true) keep.first_positions (and_from (has_positions_in schema prefix) true keep.second_positions refl)

  -- the range has the keys that start with the prefix
  ranged : (key : List ℕ) → in_range last key ≡ starts_with nat_eq key prefix.value
  ranged key = rw (lower, upper, starts) (only_true (starts_with nat_eq key prefix.value))
    where
      only_true : (b : Bool) → (b && true && true) ≡ b
      only_true true = refl
      only_true false = refl

  module _ (ts : List IndexToken) (texts : HaveTexts ts first prefix) (doc : ℕ) where
    -- whether a token of the document is at a place and starts with the prefix
    abbrev pub is_start : ℕ → IndexToken → Bool
    is_start place u = (u.doc == doc) && (u.field == prefix.field) && starts_with nat_eq u.key prefix.value && (u.position == place)

    -- whether a token is one of the first term, and one at the next position starts with the prefix
    abbrev pub is_followed : IndexToken → Bool
    is_followed t = is_token_of first doc t && list_any (is_start (t.position + 1)) ts

    -- whether the document has the phrase with the key of a token in the range
    abbrev gives_key : IndexToken → Bool
    gives_key v = (v.field == last.prefix.field) && in_range last v.key && has_phrase_within 0 ts doc first (others_with phrase v.key)

    -- a token of a key that starts with the prefix
    starts_there : (key : List ℕ) → starts_with nat_eq key prefix.value ≡ true → (place : ℕ) (u : IndexToken) → (is_token_of (second key) doc u && is_close 0 place u.position) ≡ true → is_start place u ≡ true
    starts_there key start place u is =
        let both = and_parts (is_token_of (second key) doc u) (is_close 0 place u.position) is in
        let own = and_parts (u.doc == doc) (is_at prefix.field key u) both.0 in
        let at = and_parts (u.field == prefix.field) (bytes_eq u.key key) own.1 in
        let key_is : u.key ≡ key = (bytes_decides u.key key).0 at.1 in
        and_from ((u.doc == doc) && (u.field == prefix.field) && starts_with nat_eq u.key prefix.value) (u.position == place)
        (and_from ((u.doc == doc) && (u.field == prefix.field)) (starts_with nat_eq u.key prefix.value) (and_from (u.doc == doc) (u.field == prefix.field) own.0 at.0) (ap (λ (k : List ℕ). starts_with nat_eq k prefix.value) key_is ∙ start))
        (close_here place u.position both.1)

    -- a phrase with such a key
    followed_there : (v : IndexToken) → gives_key v ≡ true → list_any is_followed ts ≡ true
    followed_there v gives =
        let has = and_parts ((v.field == last.prefix.field) && in_range last v.key) (has_phrase_within 0 ts doc first (others_with phrase v.key)) gives in
        let start : starts_with nat_eq v.key prefix.value ≡ true = sym (ranged v.key) ∙ (and_parts (v.field == last.prefix.field) (in_range last v.key) has.0).1 in
        let found : has_phrase_within 0 ts doc first (next_word (second v.key) ∷ []) ≡ true = ap (has_phrase_within 0 ts doc first) (sym (only v.key)) ∙ has.1 in
        any_more (λ (t : IndexToken). is_token_of first doc t && follow_near 0 ts doc (next_word (second v.key) ∷ []) t.position) is_followed
        (λ t is.
        let both = and_parts (is_token_of first doc t) (follow_near 0 ts doc (next_word (second v.key) ∷ []) t.position) is in
        let close = and_parts (is_text_key (second v.key) ts) (has_close 0 ts doc (second v.key) (t.position + 1)) (sym (close_follows 0 ts doc (second v.key) t.position) ∙ both.1) in
        and_from (is_token_of first doc t) (list_any (is_start (t.position + 1)) ts) both.0
        (any_more (λ (u : IndexToken). is_token_of (second v.key) doc u && is_close 0 (t.position + 1) u.position) (is_start (t.position + 1)) (starts_there v.key start (t.position + 1)) ts close.1))
        ts (and_parts (is_text_key first ts) (list_any (λ (t : IndexToken). is_token_of first doc t && follow_near 0 ts doc (next_word (second v.key) ∷ []) t.position) ts) found).1

    -- two tokens, one after the other, give a key
    key_given : (t : IndexToken) → is_token_of first doc t ≡ true → ((q : IndexToken → Bool) → q t ≡ true → list_any q ts ≡ true) → (u : IndexToken) → is_start (t.position + 1) u ≡ true → ((q : IndexToken → Bool) → q u ≡ true → list_any q ts ≡ true) → gives_key u ≡ true
    key_given t is among u start also =
        let parts = and_parts ((u.doc == doc) && (u.field == prefix.field) && starts_with nat_eq u.key prefix.value) (u.position == t.position + 1) start in
        let own = and_parts ((u.doc == doc) && (u.field == prefix.field)) (starts_with nat_eq u.key prefix.value) parts.0 in
        let of = and_parts (u.doc == doc) (u.field == prefix.field) own.0 in
        let same_key : bytes_eq u.key u.key ≡ true = (bytes_decides u.key u.key).1 refl in
        let at : is_at prefix.field u.key u ≡ true = and_from (u.field == prefix.field) (bytes_eq u.key u.key) of.1 same_key in
        let text = text_key first ts (first_texts first prefix ts texts) (among (is_at first.field first.value) (and_parts (t.doc == doc) (is_at first.field first.value t) is).1) in
        let also_text = text_key (second u.key) ts (second_texts first prefix ts texts) (also (is_at prefix.field u.key) at) in
        let close : has_close 0 ts doc (second u.key) (t.position + 1) ≡ true =
        also (λ (w : IndexToken). is_token_of (second u.key) doc w && is_close 0 (t.position + 1) w.position)
        (and_from (is_token_of (second u.key) doc u) (is_close 0 (t.position + 1) u.position) (and_from (u.doc == doc) (is_at prefix.field u.key u) of.0 at) (here_close (t.position + 1) u.position parts.1)) in
        let follows : follow_near 0 ts doc (next_word (second u.key) ∷ []) t.position ≡ true =
        close_follows 0 ts doc (second u.key) t.position ∙ and_from (is_text_key (second u.key) ts) (has_close 0 ts doc (second u.key) (t.position + 1)) also_text close in
        let found : has_phrase_within 0 ts doc first (next_word (second u.key) ∷ []) ≡ true =
        and_from (is_text_key first ts) (list_any (λ (w : IndexToken). is_token_of first doc w && follow_near 0 ts doc (next_word (second u.key) ∷ []) w.position) ts) text
        (among (λ (w : IndexToken). is_token_of first doc w && follow_near 0 ts doc (next_word (second u.key) ∷ []) w.position) (and_from (is_token_of first doc t) (follow_near 0 ts doc (next_word (second u.key) ∷ []) t.position) is follows)) in
        and_from ((u.field == last.prefix.field) && in_range last u.key) (has_phrase_within 0 ts doc first (others_with phrase u.key))
        (and_from (u.field == last.prefix.field) (in_range last u.key) (ap (λ (p : TermState). u.field == p.field) starts ∙ of.1) (ranged u.key ∙ own.1))
        (ap (has_phrase_within 0 ts doc first) (only u.key) ∙ found)

    -- a document has the phrase exactly if one of its tokens of the term is followed so
    pub prefix_follows : has_phrase_prefix phrase ts doc ≡ list_any is_followed ts
    prefix_follows =
        both_ways (has_phrase_prefix phrase ts doc) (list_any is_followed ts)
        (any_gives gives_key ts (list_any is_followed ts ≡ true) (λ v gives among. followed_there v gives))
        (any_gives is_followed ts (has_phrase_prefix phrase ts doc ≡ true)
        (λ t is among.
        let both = and_parts (is_token_of first doc t) (list_any (is_start (t.position + 1)) ts) is in
        any_gives (is_start (t.position + 1)) ts (has_phrase_prefix phrase ts doc ≡ true) (λ u start also. also gives_key (key_given t both.0 among u start also)) both.1))
