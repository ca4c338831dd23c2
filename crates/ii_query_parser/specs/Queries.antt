-- What a query means, by the tokens of an index.
use Rattle.std.specs.Prelude.{ℕ, ◌+◌, Bool, true, false, ◌&&◌, ◌||◌, ◌==◌, not, List, [], ◌∷◌, ◌++◌, map, min, nat_le, nat_lt}
use Rattle.std.specs.List.{list_all, list_any, range_with_len}
use Rattle.ii_base.specs.Options.{has_positions}
use Rattle.ii_base.specs.Schema.{SchemaEntry}
use Rattle.ii_base.specs.Terms.{TermState}
use Rattle.ii_base.specs.declared.doc_id.TheConstants.{TERMINATED}
use Rattle.ii_definitions.specs.Fields.{option_of}
use Rattle.ii_definitions.specs.Postings.{is_at, tokens_at}
use Rattle.ii_definitions.specs.Tokens.{IndexToken}
use Rattle.ii_query_parser.specs.declared.query.Query.{Query, fold-Query}
use Rattle.ii_query_parser.specs.declared.query.Query.TheOpen.{Query-F}
use Rattle.ii_query_parser.specs.declared.phrase_prefix.PhrasePrefix.{PhrasePrefix}
use Rattle.ii_query_parser.specs.declared.query.PhraseTerm.{PhraseTerm}
use Rattle.ii_query_parser.specs.declared.term_range.TermRange.{TermRange}
use Rattle.ii_query_parser.specs.Ranges.{KeyRange, in_keys, in_range, keys_of}

-- whether a token of a document has the field and the key of a term
abbrev pub is_token_of : TermState → ℕ → IndexToken → Bool
is_token_of term doc t = (t.doc == doc) && is_at term.field term.value t

-- whether the tokens of a key are of texts, so that each has a position: whether the first one is
abbrev pub are_of_texts : List IndexToken → Bool
are_of_texts [] = false
are_of_texts (t ∷ ts) = t.of_text

-- whether the tokens with the field and the key of a term are of texts
abbrev pub is_text_key : TermState → List IndexToken → Bool
is_text_key term ts = are_of_texts (tokens_at term.field term.value ts)

-- whether a token of a document, of a text, has the field and the key of a term at a position
abbrev pub stands_at : List IndexToken → ℕ → TermState → ℕ → Bool
stands_at ts doc term position = is_text_key term ts && list_any (λ (t : IndexToken). is_token_of term doc t && (t.position == position)) ts

-- whether each other term of a phrase occurs in a document at its distance from a position
abbrev pub follow : List IndexToken → ℕ → List PhraseTerm → ℕ → Bool
follow ts doc others start = list_all (λ (o : PhraseTerm). stands_at ts doc o.term (start + o.distance)) others

-- whether a document has a phrase: a token of its first term, from which each other term occurs at its distance
abbrev pub has_phrase : List IndexToken → ℕ → TermState → List PhraseTerm → Bool
has_phrase ts doc first others = is_text_key first ts && list_any (λ (t : IndexToken). is_token_of first doc t && follow ts doc others t.position) ts

-- whether a number is from a least one up to `slop` more
abbrev pub is_in_slop : ℕ → ℕ → ℕ → Bool
is_in_slop slop least n = nat_le least n && nat_le n (least + slop)

-- whether a token of a document, of a text, has the field and the key of a term near a place: its position, moved forward by `back`, is from there up to `slop` more
abbrev pub stands_near : ℕ → ℕ → List IndexToken → ℕ → TermState → ℕ → Bool
stands_near slop back ts doc term place = is_text_key term ts && list_any (λ (t : IndexToken). is_token_of term doc t && is_in_slop slop place (t.position + back)) ts

-- whether each other term of a phrase occurs in a document near its distance from a position: all positions, each moved back by its distance, begin at most `slop` before that one, and end at most `slop` after they begin
abbrev pub follow_near : ℕ → List IndexToken → ℕ → List PhraseTerm → ℕ → Bool
follow_near slop ts doc others start = list_any (λ (back : ℕ). list_all (λ (o : PhraseTerm). stands_near slop back ts doc o.term (start + o.distance)) others) (range_with_len 0 (slop + 1))

-- whether a document has a phrase within a slop: a token of its first term, from which each other term occurs near its distance
abbrev pub has_phrase_within : ℕ → List IndexToken → ℕ → TermState → List PhraseTerm → Bool
has_phrase_within slop ts doc first others = is_text_key first ts && list_any (λ (t : IndexToken). is_token_of first doc t && follow_near slop ts doc others t.position) ts

-- whether a token of a document has the field of a range, and a key that the range has
abbrev pub is_token_between : KeyRange → ℕ → IndexToken → Bool
is_token_between range doc t = (t.doc == doc) && (t.field == range.prefix.field) && in_keys range t.key

-- whether a token of a document is in a range of terms
abbrev pub is_token_in : TermRange → ℕ → IndexToken → Bool
is_token_in range doc t = is_token_between (keys_of range) doc t

-- the other terms of a phrase whose last term has a key
abbrev pub others_with : PhrasePrefix → List ℕ → List PhraseTerm
others_with p key = p.others.items ++ record { distance = p.distance; term = record { field = p.last.prefix.field; value = key } } ∷ []

-- whether a document has a phrase whose last term is one of a range: the phrase with the key of some token that the range has
abbrev pub has_phrase_prefix : PhrasePrefix → List IndexToken → ℕ → Bool
has_phrase_prefix p ts doc = list_any (λ (t : IndexToken). (t.field == p.last.prefix.field) && in_range p.last t.key && has_phrase_within 0 ts doc p.first (others_with p t.key)) ts

-- What a query is made of: none; all documents below a number; a term; a phrase within a slop; a phrase whose last term is one of a range; a range of terms; what each of some queries matches, or any of them; what one matches and another one doesn't.
mutual
  pub data QueryTree : Type 0 where
    nothing : QueryTree
    all_below : ℕ → QueryTree
    one_term : TermState → QueryTree
    one_phrase : TermState → List PhraseTerm → ℕ → QueryTree
    one_phrase_prefix : PhrasePrefix → QueryTree
    one_range : TermRange → QueryTree
    each_of : QueryTrees → QueryTree
    any_of : QueryTrees → QueryTree
    without : QueryTree → QueryTree → QueryTree

  pub data QueryTrees : Type 0 where
    no_tree : QueryTrees
    tree : QueryTree → QueryTrees → QueryTrees

-- the trees of a list
abbrev pub trees_from : List QueryTree → QueryTrees
trees_from [] = no_tree
trees_from (t ∷ ts) = tree t (trees_from ts)

-- one layer of a program's query, the queries in it as trees
abbrev pub tree_step : Query-F QueryTree → QueryTree
tree_step Query-F.Empty = nothing
tree_step (Query-F.All n) = all_below n
tree_step (Query-F.Term term) = one_term term
tree_step (Query-F.Phrase first others slop) = one_phrase first others.items slop
tree_step (Query-F.PhrasePrefix phrase) = one_phrase_prefix phrase
tree_step (Query-F.Range range) = one_range range
tree_step (Query-F.And queries) = each_of (trees_from queries.items)
tree_step (Query-F.Or queries) = any_of (trees_from queries.items)
tree_step (Query-F.AndNot first other) = without first.value other.value

-- the tree of a program's query
abbrev pub tree_of : Query → QueryTree
tree_of = fold-Query QueryTree tree_step

-- the trees of queries
abbrev pub trees_of : List Query → QueryTrees
trees_of queries = trees_from (map tree_of queries)

-- whether there is a tree
abbrev pub has_tree : QueryTrees → Bool
has_tree no_tree = false
has_tree (tree t ts) = true

-- Whether a document matches: it is below a number, has a token with the term's field and key, has the phrase within its slop, has the phrase with one of the range, has a token in the range, or matches as the parts say.
abbrev mutual
  pub tree_matches : QueryTree → List IndexToken → ℕ → Bool
  tree_matches nothing ts doc = false
  tree_matches (all_below n) ts doc = nat_lt doc (min n TERMINATED)
  tree_matches (one_term term) ts doc = list_any (is_token_of term doc) ts
  tree_matches (one_phrase first others slop) ts doc = has_phrase_within slop ts doc first others
  tree_matches (one_phrase_prefix phrase) ts doc = has_phrase_prefix phrase ts doc
  tree_matches (one_range range) ts doc = list_any (is_token_in range doc) ts
  tree_matches (each_of qs) ts doc = has_tree qs && all_match qs ts doc
  tree_matches (any_of qs) ts doc = any_matches qs ts doc
  tree_matches (without first other) ts doc = tree_matches first ts doc && not (tree_matches other ts doc)

  pub all_match : QueryTrees → List IndexToken → ℕ → Bool
  all_match no_tree ts doc = true
  all_match (tree q qs) ts doc = tree_matches q ts doc && all_match qs ts doc

  pub any_matches : QueryTrees → List IndexToken → ℕ → Bool
  any_matches no_tree ts doc = false
  any_matches (tree q qs) ts doc = tree_matches q ts doc || any_matches qs ts doc

-- whether a document matches a query
abbrev pub matches : Query → List IndexToken → ℕ → Bool
matches query ts doc = tree_matches (tree_of query) ts doc

-- Whether a test of terms and of phrases holds for all of a query, whatever the slop; a range is tested by its prefix, also as the last term of a phrase.
abbrev mutual
  pub holds_for_all : (TermState → Bool) → (TermState → List PhraseTerm → Bool) → QueryTree → Bool
  holds_for_all of_term of_phrase nothing = true
  holds_for_all of_term of_phrase (all_below n) = true
  holds_for_all of_term of_phrase (one_term term) = of_term term
  holds_for_all of_term of_phrase (one_phrase first others slop) = of_phrase first others
  holds_for_all of_term of_phrase (one_phrase_prefix phrase) = of_phrase phrase.first (others_with phrase phrase.last.prefix.value)
  holds_for_all of_term of_phrase (one_range range) = of_term range.prefix
  holds_for_all of_term of_phrase (each_of qs) = hold_for_all of_term of_phrase qs
  holds_for_all of_term of_phrase (any_of qs) = hold_for_all of_term of_phrase qs
  holds_for_all of_term of_phrase (without first other) = holds_for_all of_term of_phrase first && holds_for_all of_term of_phrase other

  pub hold_for_all : (TermState → Bool) → (TermState → List PhraseTerm → Bool) → QueryTrees → Bool
  hold_for_all of_term of_phrase no_tree = true
  hold_for_all of_term of_phrase (tree q qs) = holds_for_all of_term of_phrase q && hold_for_all of_term of_phrase qs

-- whether the field of a term is one of the first n
abbrev pub is_within : ℕ → TermState → Bool
is_within n term = nat_lt term.field n

-- whether the fields of the terms of a phrase are
abbrev pub phrase_is_within : ℕ → TermState → List PhraseTerm → Bool
phrase_is_within n first others = nat_lt first.field n && list_all (λ (o : PhraseTerm). nat_lt o.term.field n) others

-- whether the field of each term is one of the first n
abbrev pub has_fields : ℕ → Query → Bool
has_fields n query = holds_for_all (is_within n) (phrase_is_within n) (tree_of query)

-- whether a field of a schema keeps positions
abbrev pub has_positions_in : List SchemaEntry → TermState → Bool
has_positions_in entries term = has_positions (option_of entries term.field)

-- whether the fields of the terms of a phrase do
abbrev pub phrase_has_positions : List SchemaEntry → TermState → List PhraseTerm → Bool
phrase_has_positions entries first others = has_positions_in entries first && list_all (λ (o : PhraseTerm). has_positions_in entries o.term) others

-- whether the fields of all phrases keep positions
abbrev pub keeps_positions : List SchemaEntry → Query → Bool
keeps_positions entries query = holds_for_all (λ (t : TermState). true) (phrase_has_positions entries) (tree_of query)

-- Whether each part of a query that matches all documents below a number matches the first n.
abbrev mutual
  pub tree_covers : ℕ → QueryTree → Bool
  tree_covers n nothing = true
  tree_covers n (all_below m) = nat_le n (min m TERMINATED)
  tree_covers n (one_term term) = true
  tree_covers n (one_phrase first others slop) = true
  tree_covers n (one_phrase_prefix phrase) = true
  tree_covers n (one_range range) = true
  tree_covers n (each_of qs) = trees_cover n qs
  tree_covers n (any_of qs) = trees_cover n qs
  tree_covers n (without first other) = tree_covers n first && tree_covers n other

  pub trees_cover : ℕ → QueryTrees → Bool
  trees_cover n no_tree = true
  trees_cover n (tree q qs) = tree_covers n q && trees_cover n qs

-- whether each part of a query that matches all documents below a number matches the first n
abbrev pub covers_docs : ℕ → Query → Bool
covers_docs n query = tree_covers n (tree_of query)
