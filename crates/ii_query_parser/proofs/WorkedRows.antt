-- Phrases and ranges in texts of words, each computed.
use Rattle.std.proofs.Common.{Global, Vec}
use Rattle.std.specs.Prelude.{◌≡◌, ℕ, [], ◌∷◌, Bool, true, false, List, Option, None, Some, codes, filter, map, refl}
use Rattle.std.specs.List.{list_any}
use Rattle.ii_base.specs.AsciiWords.{ascii_words}
use Rattle.ii_base.specs.Terms.{TermState}
use Rattle.ii_definitions.specs.Tokens.{Call, IndexToken, text, tokens_of}
use Rattle.ii_query_parser.specs.declared.query.PhraseTerm.{PhraseTerm}
use Rattle.ii_query_parser.specs.declared.term_range.KeyBound.{KeyBound}
use Rattle.ii_query_parser.specs.declared.term_range.KeyBound.TheVariants.{Excluded, Included, Unbounded}
use Rattle.ii_query_parser.specs.Queries.{has_phrase, has_phrase_within, is_token_in}
use Rattle.ii_query_grammar.specs.Trees.{unbounded}
use Rattle.ii_query_parser.specs.QueryTexts.{PhraseState, words_phrase}
use Rattle.ii_query_parser.specs.Ranges.{in_keys}

-- a text in a field of a document
abbrev said : ℕ → ℕ → List ℕ → Call
said doc field words = record { doc = doc; field = field; content = text words }

abbrev new : List ℕ
new = codes "new"

abbrev york : List ℕ
york = codes "york"

-- in order, in reverse, in two texts of a document, in two fields, and each twice
abbrev tokens : List IndexToken
tokens = tokens_of ascii_words (said 0 0 (codes "new york") ∷ said 1 0 (codes "york new") ∷ said 2 0 new ∷ said 2 0 york ∷ said 3 0 new ∷ said 3 1 york ∷ said 4 0 (codes "new new york york") ∷ [])

abbrev word : ℕ → List ℕ → TermState
word field w = record { field = field; value = w }

abbrev behind : ℕ → TermState → PhraseTerm
behind distance term = record { distance = distance; term = term }

abbrev docs_with : TermState → List PhraseTerm → List ℕ
docs_with first others = filter (λ (doc : ℕ). has_phrase tokens doc first others) (0 ∷ 1 ∷ 2 ∷ 3 ∷ 4 ∷ 5 ∷ [])

pub in_order : docs_with (word 0 new) (behind 1 (word 0 york) ∷ []) ≡ 0 ∷ 4 ∷ []
in_order = refl

pub in_reverse : docs_with (word 0 york) (behind 1 (word 0 new) ∷ []) ≡ 1 ∷ []
in_reverse = refl

-- the gap between two texts is one position
pub with_gap : docs_with (word 0 new) (behind 2 (word 0 york) ∷ []) ≡ 2 ∷ 4 ∷ []
with_gap = refl

pub in_other_field : docs_with (word 0 new) (behind 1 (word 1 york) ∷ []) ≡ []
in_other_field = refl

pub alone : docs_with (word 0 york) [] ≡ 0 ∷ 1 ∷ 2 ∷ 4 ∷ []
alone = refl

pub repeated : docs_with (word 0 new) (behind 1 (word 0 new) ∷ []) ≡ 4 ∷ []
repeated = refl

pub of_three : docs_with (word 0 new) (behind 1 (word 0 new) ∷ behind 2 (word 0 york) ∷ []) ≡ 4 ∷ []
of_three = refl

-- the phrase that a text is
abbrev phrase_in : List ℕ → Option PhraseState
phrase_in words = words_phrase (word 0 []) (ascii_words words)

pub of_two_words : phrase_in (codes " new york!") ≡ Some (record { first = word 0 new; others = behind 1 (word 0 york) ∷ [] })
of_two_words = refl

pub of_one_word : phrase_in (codes "new") ≡ Some (record { first = word 0 new; others = [] })
of_one_word = refl

pub of_no_word : phrase_in (codes "-") ≡ None
of_no_word = refl

-- words that start alike
abbrev seas : List IndexToken
seas = tokens_of ascii_words (said 0 0 (codes "sea") ∷ said 1 0 (codes "search") ∷ said 2 0 (codes "set") ∷ said 3 0 (codes "sf") ∷ said 4 1 (codes "sea") ∷ [])

abbrev docs_between : List ℕ → KeyBound → KeyBound → List ℕ
docs_between start lower upper = filter (λ (doc : ℕ). list_any (is_token_in (record { prefix = word 0 start; lower = lower; upper = upper }) doc) seas) (0 ∷ 1 ∷ 2 ∷ 3 ∷ 4 ∷ [])

pub prefix_of_three : docs_between (codes "se") Unbounded Unbounded ≡ 0 ∷ 1 ∷ 2 ∷ []
prefix_of_three = refl

pub prefix_of_two : docs_between (codes "sea") Unbounded Unbounded ≡ 0 ∷ 1 ∷ []
prefix_of_two = refl

pub prefix_of_all : docs_between [] Unbounded Unbounded ≡ 0 ∷ 1 ∷ 2 ∷ 3 ∷ []
prefix_of_all = refl

pub prefix_of_none : docs_between (codes "seas") Unbounded Unbounded ≡ []
prefix_of_none = refl

-- bounds at `set`
pub from_included : (set : Vec ℕ Global) → set.items ≡ codes "set" → docs_between [] (Included set) Unbounded ≡ 2 ∷ 3 ∷ []
from_included set is = rw is refl

pub from_excluded : (set : Vec ℕ Global) → set.items ≡ codes "set" → docs_between [] (Excluded set) Unbounded ≡ 3 ∷ []
from_excluded set is = rw is refl

pub to_included : (set : Vec ℕ Global) → set.items ≡ codes "set" → docs_between [] Unbounded (Included set) ≡ 0 ∷ 1 ∷ 2 ∷ []
to_included set is = rw is refl

pub to_excluded : (set : Vec ℕ Global) → set.items ≡ codes "set" → docs_between [] Unbounded (Excluded set) ≡ 0 ∷ 1 ∷ []
to_excluded set is = rw is refl

-- upside down
pub between_none : (set sea : Vec ℕ Global) → set.items ≡ codes "set" → sea.items ≡ codes "sea" → docs_between [] (Included set) (Included sea) ≡ []
between_none set sea is also = rw (is, also) refl

-- keys of any bytes: the greatest byte has no next one
abbrev starts_with : List ℕ → List ℕ → Bool
starts_with start = in_keys (record { prefix = record { field = 0; value = start }; lower = unbounded; upper = unbounded })

pub from_61_ff : map (starts_with (0x61 ∷ 0xFF ∷ [])) ((0x61 ∷ []) ∷ (0x61 ∷ 0xFE ∷ []) ∷ (0x61 ∷ 0xFF ∷ []) ∷ (0x61 ∷ 0xFF ∷ 0x00 ∷ []) ∷ (0x61 ∷ 0xFF ∷ 0xFF ∷ []) ∷ (0x62 ∷ []) ∷ []) ≡ false ∷ false ∷ true ∷ true ∷ true ∷ false ∷ []
from_61_ff = refl

pub from_ff_ff : map (starts_with (0xFF ∷ 0xFF ∷ [])) ((0xFE ∷ 0xFF ∷ []) ∷ (0xFF ∷ []) ∷ (0xFF ∷ 0xFE ∷ 0xFF ∷ []) ∷ (0xFF ∷ 0xFF ∷ []) ∷ (0xFF ∷ 0xFF ∷ 0xFF ∷ []) ∷ []) ≡ false ∷ false ∷ false ∷ true ∷ true ∷ []
from_ff_ff = refl

-- phrases within a slop: one word between, exchanged, and at their distances
abbrev seas_far : List IndexToken
seas_far = tokens_of ascii_words (said 0 0 (codes "old wide sea") ∷ said 1 0 (codes "sea old") ∷ said 2 0 (codes "old sea") ∷ said 3 0 (codes "old deep wide sea") ∷ [])

abbrev docs_within : ℕ → List IndexToken → TermState → List PhraseTerm → List ℕ
docs_within slop ts first others = filter (λ (doc : ℕ). has_phrase_within slop ts doc first others) (0 ∷ 1 ∷ 2 ∷ 3 ∷ [])

abbrev old_sea : ℕ → List ℕ
old_sea slop = docs_within slop seas_far (word 0 (codes "old")) (behind 1 (word 0 (codes "sea")) ∷ [])

pub slop_of_two : map old_sea (0 ∷ 1 ∷ 2 ∷ []) ≡ (2 ∷ []) ∷ (0 ∷ 2 ∷ []) ∷ (0 ∷ 1 ∷ 2 ∷ 3 ∷ []) ∷ []
slop_of_two = refl

-- two gaps of one word add up
abbrev letters : List IndexToken
letters = tokens_of ascii_words (said 0 0 (codes "a x b y c") ∷ [])

abbrev a_b_c : ℕ → List ℕ
a_b_c slop = docs_within slop letters (word 0 (codes "a")) (behind 1 (word 0 (codes "b")) ∷ behind 2 (word 0 (codes "c")) ∷ [])

pub slop_of_three : map a_b_c (0 ∷ 1 ∷ 2 ∷ []) ≡ [] ∷ [] ∷ (0 ∷ []) ∷ []
slop_of_three = refl
