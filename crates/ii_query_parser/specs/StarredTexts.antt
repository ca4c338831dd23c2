-- Texts whose last word is a prefix.
use Rattle.std.specs.Prelude.{ℕ, Bool, ◌&&◌, ◌==◌, ◌-◌, List, [], ◌∷◌, ◌++◌, Option, None, Some, filter, length, nat_eq, nat_lt, slice_get}
use Rattle.std.specs.List.{list_any, starts_with}
use Rattle.ii_base.specs.Terms.{TermState}
use Rattle.ii_base.specs.Words.{Word}
use Rattle.ii_definitions.specs.Tokens.{IndexToken}
use Rattle.ii_query_parser.specs.Queries.{has_phrase}
use Rattle.ii_query_parser.specs.declared.query.PhraseTerm.{PhraseTerm}

-- the words of a text before this one, if there is one, and this one
abbrev pub words_up_to : List Word → Option Word → List Word
words_up_to words None = []
words_up_to words (Some last) = filter (λ (w : Word). nat_lt w.position last.position) words ++ last ∷ []

-- the words of a text whose last word is a prefix, by those of the analyzer of words and of that of prefixes: the last one is that of prefixes
abbrev pub starred_words : List Word → List Word → List Word
starred_words words prefixes = words_up_to words (slice_get prefixes (length prefixes - 1))

-- whether a token of a document has the field of a term, and a key that starts with the term's
abbrev pub is_token_under : TermState → ℕ → IndexToken → Bool
is_token_under term doc t = (t.doc == doc) && (t.field == term.field) && starts_with nat_eq t.key term.value

-- the last term of a phrase, given its first one
abbrev pub last_term : TermState → List PhraseTerm → TermState
last_term term [] = term
last_term term (o ∷ os) = last_term o.term os

-- the terms of a phrase after its first one, where the last one has this key
abbrev pub with_last_key : List ℕ → List PhraseTerm → List PhraseTerm
with_last_key key [] = []
with_last_key key (o ∷ []) = record { distance = o.distance; term = record { field = o.term.field; value = key } } ∷ []
with_last_key key (o ∷ p ∷ os) = o ∷ with_last_key key (p ∷ os)

-- whether a token has the field of a term, and a key that starts with the term's
abbrev pub starts_with_term : TermState → IndexToken → Bool
starts_with_term term t = (t.field == term.field) && starts_with nat_eq t.key term.value

-- whether a document has a term that starts with this one, or, where others follow it, the phrase with a last term that starts with the last of these
abbrev pub has_starred : List IndexToken → ℕ → TermState → List PhraseTerm → Bool
has_starred ts doc first [] = list_any (is_token_under first doc) ts
has_starred ts doc first (o ∷ os) = list_any (λ (t : IndexToken). starts_with_term (last_term first (o ∷ os)) t && has_phrase ts doc first (with_last_key t.key (o ∷ os))) ts
