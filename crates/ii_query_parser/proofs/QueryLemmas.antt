-- The trees of queries, one equation for each variant, and what these mean.
use Rattle.std.proofs.Common.{◌≡◌, ◌∙◌, ℕ, Bool, true, ◌&&◌, ◌||◌, ◌==◌, List, [], ◌∷◌, min, nat_eq, nat_le, Vec, Box, Global, sym, ap, refl}
use Rattle.std.specs.List.{list_all, list_any, starts_with}
use Rattle.std.proofs.Math.Bool.{and-true}
use Rattle.ii_base.specs.Schema.{SchemaEntry}
use Rattle.ii_base.specs.Terms.{TermState}
use Rattle.ii_base.specs.declared.doc_id.TheConstants.{TERMINATED}
use Rattle.ii_definitions.specs.Tokens.{IndexToken}
use Rattle.ii_query_parser.specs.declared.phrase_prefix.PhrasePrefix.{PhrasePrefix}
use Rattle.ii_query_parser.specs.declared.query.PhraseTerm.{PhraseTerm}
use Rattle.ii_query_parser.specs.declared.query.Query.{Query}
use Rattle.ii_query_parser.specs.declared.term_range.KeyBound.TheVariants.{Unbounded}
use Rattle.ii_query_parser.specs.declared.term_range.TermRange.{TermRange}
use Rattle.ii_query_parser.specs.declared.query.Query.TheOpen.{Query-F}
use Rattle.ii_query_parser.specs.declared.query.Query.TheFolds.{fold-roll-Query}
use Rattle.ii_query_parser.specs.declared.query.Query.TheVariants.{Empty, All, Term, Phrase, PhrasePrefix as WithPrefix, Range, And, Or, AndNot, rolls-Empty, rolls-All, rolls-Term, rolls-Phrase, rolls-PhrasePrefix, rolls-Range, rolls-And, rolls-Or, rolls-AndNot}
use Rattle.ii_query_parser.specs.Queries.{covers_docs, tree_covers, trees_cover, QueryTree, all_below, all_match, any_matches, any_of, each_of, has_fields, has_phrase_prefix, has_tree, hold_for_all, holds_for_all, is_token_in, is_within, keeps_positions, matches, nothing, one_phrase, one_phrase_prefix, one_range, one_term, others_with, phrase_has_positions, phrase_is_within, tree_matches, tree_of, tree_step, trees_of, without}

pub nothing_tree : tree_of Empty ≡ nothing
nothing_tree = ap tree_of (sym rolls-Empty) ∙ fold-roll-Query QueryTree tree_step Query-F.Empty

pub all_tree : (n : ℕ) → tree_of (All n) ≡ all_below n
all_tree n = ap tree_of (sym (rolls-All n)) ∙ fold-roll-Query QueryTree tree_step (Query-F.All n)

pub term_tree : (term : TermState) → tree_of (Term term) ≡ one_term term
term_tree term = ap tree_of (sym (rolls-Term term)) ∙ fold-roll-Query QueryTree tree_step (Query-F.Term term)

pub phrase_tree : (first : TermState) (others : Vec PhraseTerm Global) (slop : ℕ) → tree_of (Phrase first others slop) ≡ one_phrase first others.items slop
phrase_tree first others slop = ap tree_of (sym (rolls-Phrase first others slop)) ∙ fold-roll-Query QueryTree tree_step (Query-F.Phrase first others slop)

pub phrase_prefix_tree : (phrase : PhrasePrefix) → tree_of (WithPrefix phrase) ≡ one_phrase_prefix phrase
phrase_prefix_tree phrase = ap tree_of (sym (rolls-PhrasePrefix phrase)) ∙ fold-roll-Query QueryTree tree_step (Query-F.PhrasePrefix phrase)

pub range_tree : (range : TermRange) → tree_of (Range range) ≡ one_range range
range_tree range = ap tree_of (sym (rolls-Range range)) ∙ fold-roll-Query QueryTree tree_step (Query-F.Range range)

pub and_tree : (qs : Vec Query Global) → tree_of (And qs) ≡ each_of (trees_of qs.items)
and_tree qs = ap tree_of (sym (rolls-And qs)) ∙ fold-roll-Query QueryTree tree_step (Query-F.And qs)

pub or_tree : (qs : Vec Query Global) → tree_of (Or qs) ≡ any_of (trees_of qs.items)
or_tree qs = ap tree_of (sym (rolls-Or qs)) ∙ fold-roll-Query QueryTree tree_step (Query-F.Or qs)

pub and_not_tree : (first other : Box Query Global) → tree_of (AndNot first other) ≡ without (tree_of first.value) (tree_of other.value)
and_not_tree first other = ap tree_of (sym (rolls-AndNot first other)) ∙ fold-roll-Query QueryTree tree_step (Query-F.AndNot first other)

-- what holds of each of some queries
pub all_matched : (qs : List Query) (ts : List IndexToken) (doc : ℕ) → all_match (trees_of qs) ts doc ≡ list_all (λ (q : Query). matches q ts doc) qs
all_matched [] ts doc = refl
all_matched (q ∷ qs) ts doc = ap (λ (b : Bool). matches q ts doc && b) (all_matched qs ts doc)

pub any_matched : (qs : List Query) (ts : List IndexToken) (doc : ℕ) → any_matches (trees_of qs) ts doc ≡ list_any (λ (q : Query). matches q ts doc) qs
any_matched [] ts doc = refl
any_matched (q ∷ qs) ts doc = ap (λ (b : Bool). matches q ts doc || b) (any_matched qs ts doc)

pub held_for_all : (of_term : TermState → Bool) (of_phrase : TermState → List PhraseTerm → Bool) (qs : List Query)
    → hold_for_all of_term of_phrase (trees_of qs) ≡ list_all (λ (q : Query). holds_for_all of_term of_phrase (tree_of q)) qs
held_for_all of_term of_phrase [] = refl
held_for_all of_term of_phrase (q ∷ qs) = ap (λ (b : Bool). holds_for_all of_term of_phrase (tree_of q) && b) (held_for_all of_term of_phrase qs)

-- whether the fields are those of a schema, for each variant
pub nothing_fields : (n : ℕ) → has_fields n Empty ≡ true
nothing_fields n = ap (holds_for_all (is_within n) (phrase_is_within n)) nothing_tree

pub all_fields : (n m : ℕ) → has_fields n (All m) ≡ true
all_fields n m = ap (holds_for_all (is_within n) (phrase_is_within n)) (all_tree m)

pub term_fields : (n : ℕ) (term : TermState) → has_fields n (Term term) ≡ is_within n term
term_fields n term = ap (holds_for_all (is_within n) (phrase_is_within n)) (term_tree term)

pub phrase_fields : (n : ℕ) (first : TermState) (others : Vec PhraseTerm Global) (slop : ℕ) → has_fields n (Phrase first others slop) ≡ phrase_is_within n first others.items
phrase_fields n first others slop = ap (holds_for_all (is_within n) (phrase_is_within n)) (phrase_tree first others slop)

pub phrase_prefix_fields : (n : ℕ) (phrase : PhrasePrefix)
    → has_fields n (WithPrefix phrase) ≡ phrase_is_within n phrase.first (others_with phrase phrase.last.prefix.value)
phrase_prefix_fields n phrase = ap (holds_for_all (is_within n) (phrase_is_within n)) (phrase_prefix_tree phrase)

pub range_fields : (n : ℕ) (range : TermRange) → has_fields n (Range range) ≡ is_within n range.prefix
range_fields n range = ap (holds_for_all (is_within n) (phrase_is_within n)) (range_tree range)

pub and_fields : (n : ℕ) (qs : Vec Query Global) → has_fields n (And qs) ≡ list_all (has_fields n) qs.items
and_fields n qs = ap (holds_for_all (is_within n) (phrase_is_within n)) (and_tree qs) ∙ held_for_all (is_within n) (phrase_is_within n) qs.items

pub or_fields : (n : ℕ) (qs : Vec Query Global) → has_fields n (Or qs) ≡ list_all (has_fields n) qs.items
or_fields n qs = ap (holds_for_all (is_within n) (phrase_is_within n)) (or_tree qs) ∙ held_for_all (is_within n) (phrase_is_within n) qs.items

pub and_not_fields : (n : ℕ) (first other : Box Query Global) → has_fields n (AndNot first other) ≡ (has_fields n first.value && has_fields n other.value)
and_not_fields n first other = ap (holds_for_all (is_within n) (phrase_is_within n)) (and_not_tree first other)

-- whether the fields of phrases keep positions, for each variant
pub nothing_positions : (entries : List SchemaEntry) → keeps_positions entries Empty ≡ true
nothing_positions entries = ap (holds_for_all (λ (t : TermState). true) (phrase_has_positions entries)) nothing_tree

pub all_positions : (entries : List SchemaEntry) (m : ℕ) → keeps_positions entries (All m) ≡ true
all_positions entries m = ap (holds_for_all (λ (t : TermState). true) (phrase_has_positions entries)) (all_tree m)

pub term_positions : (entries : List SchemaEntry) (term : TermState) → keeps_positions entries (Term term) ≡ true
term_positions entries term = ap (holds_for_all (λ (t : TermState). true) (phrase_has_positions entries)) (term_tree term)

pub phrase_positions : (entries : List SchemaEntry) (first : TermState) (others : Vec PhraseTerm Global) (slop : ℕ)
    → keeps_positions entries (Phrase first others slop) ≡ phrase_has_positions entries first others.items
phrase_positions entries first others slop = ap (holds_for_all (λ (t : TermState). true) (phrase_has_positions entries)) (phrase_tree first others slop)

pub phrase_prefix_positions : (entries : List SchemaEntry) (phrase : PhrasePrefix)
    → keeps_positions entries (WithPrefix phrase) ≡ phrase_has_positions entries phrase.first (others_with phrase phrase.last.prefix.value)
phrase_prefix_positions entries phrase = ap (holds_for_all (λ (t : TermState). true) (phrase_has_positions entries)) (phrase_prefix_tree phrase)

pub range_positions : (entries : List SchemaEntry) (range : TermRange) → keeps_positions entries (Range range) ≡ true
range_positions entries range = ap (holds_for_all (λ (t : TermState). true) (phrase_has_positions entries)) (range_tree range)

pub and_positions : (entries : List SchemaEntry) (qs : Vec Query Global) → keeps_positions entries (And qs) ≡ list_all (keeps_positions entries) qs.items
and_positions entries qs = ap (holds_for_all (λ (t : TermState). true) (phrase_has_positions entries)) (and_tree qs) ∙ held_for_all (λ (t : TermState). true) (phrase_has_positions entries) qs.items

pub or_positions : (entries : List SchemaEntry) (qs : Vec Query Global) → keeps_positions entries (Or qs) ≡ list_all (keeps_positions entries) qs.items
or_positions entries qs = ap (holds_for_all (λ (t : TermState). true) (phrase_has_positions entries)) (or_tree qs) ∙ held_for_all (λ (t : TermState). true) (phrase_has_positions entries) qs.items

pub and_not_positions : (entries : List SchemaEntry) (first other : Box Query Global)
    → keeps_positions entries (AndNot first other) ≡ (keeps_positions entries first.value && keeps_positions entries other.value)
and_not_positions entries first other = ap (holds_for_all (λ (t : TermState). true) (phrase_has_positions entries)) (and_not_tree first other)

-- whether the parts of a query for all documents reach so many, for each variant
pub all_covers : (n m : ℕ) → covers_docs n (All m) ≡ nat_le n (min m TERMINATED)
all_covers n m = ap (tree_covers n) (all_tree m)

pub phrase_prefix_covers : (n : ℕ) (phrase : PhrasePrefix) → covers_docs n (WithPrefix phrase) ≡ true
phrase_prefix_covers n phrase = ap (tree_covers n) (phrase_prefix_tree phrase)

pub range_covers : (n : ℕ) (range : TermRange) → covers_docs n (Range range) ≡ true
range_covers n range = ap (tree_covers n) (range_tree range)

pub each_covers : (n : ℕ) (qs : List Query) → trees_cover n (trees_of qs) ≡ list_all (covers_docs n) qs
each_covers n [] = refl
each_covers n (q ∷ qs) = ap (λ (b : Bool). covers_docs n q && b) (each_covers n qs)

pub and_covers : (n : ℕ) (qs : Vec Query Global) → covers_docs n (And qs) ≡ list_all (covers_docs n) qs.items
and_covers n qs = ap (tree_covers n) (and_tree qs) ∙ each_covers n qs.items

pub or_covers : (n : ℕ) (qs : Vec Query Global) → covers_docs n (Or qs) ≡ list_all (covers_docs n) qs.items
or_covers n qs = ap (tree_covers n) (or_tree qs) ∙ each_covers n qs.items

pub or_matches : (qs : Vec Query Global) (ts : List IndexToken) (doc : ℕ) → matches (Or qs) ts doc ≡ list_any (λ (q : Query). matches q ts doc) qs.items
or_matches qs ts doc = ap (λ (t : QueryTree). tree_matches t ts doc) (or_tree qs) ∙ any_matched qs.items ts doc

pub and_matches : (qs : Vec Query Global) (ts : List IndexToken) (doc : ℕ) → matches (And qs) ts doc ≡ (has_tree (trees_of qs.items) && list_all (λ (q : Query). matches q ts doc) qs.items)
and_matches qs ts doc = ap (λ (t : QueryTree). tree_matches t ts doc) (and_tree qs) ∙ ap (λ (b : Bool). has_tree (trees_of qs.items) && b) (all_matched qs.items ts doc)

pub phrase_prefix_matches : (phrase : PhrasePrefix) (ts : List IndexToken) (doc : ℕ) → matches (WithPrefix phrase) ts doc ≡ has_phrase_prefix phrase ts doc
phrase_prefix_matches phrase ts doc = ap (λ (t : QueryTree). tree_matches t ts doc) (phrase_prefix_tree phrase)

pub range_matches : (range : TermRange) (ts : List IndexToken) (doc : ℕ) → matches (Range range) ts doc ≡ list_any (is_token_in range doc) ts
range_matches range ts doc = ap (λ (t : QueryTree). tree_matches t ts doc) (range_tree range)

-- a range without bounds has the keys that start with its prefix
pub prefix_matches : (range : TermRange) (ts : List IndexToken) (doc : ℕ) → range.lower ≡ Unbounded → range.upper ≡ Unbounded
    → list_any (is_token_in range doc) ts ≡ list_any (λ (t : IndexToken). (t.doc == doc) && (t.field == range.prefix.field) && starts_with nat_eq t.key range.prefix.value) ts
prefix_matches range [] doc lower upper = refl
prefix_matches range (t ∷ ts) doc lower upper =
    rw (lower, upper, prefix_matches range ts doc lower upper, and-true (starts_with nat_eq t.key range.prefix.value), and-true (starts_with nat_eq t.key range.prefix.value)) refl
