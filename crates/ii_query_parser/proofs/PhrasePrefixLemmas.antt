-- Phrases whose last term is one of a range.
use Rattle.std.proofs.Common.{◌≡◌, ◌∙◌, ℕ, Bool, ◌&&◌, List, [], ◌∷◌, ◌++◌, nat_eq, nat_lt, ap, refl, sym}
use Rattle.std.proofs.Math.Bool.{and-true}
use Rattle.std.proofs.lemmas.List.Folds.{list_all-append}
use Rattle.std.specs.List.{list_all, list_any, starts_with}
use Rattle.ii_base.specs.Schema.{SchemaEntry}
use Rattle.ii_base.specs.Terms.{TermState}
use Rattle.ii_definitions.specs.Tokens.{IndexToken}
use Rattle.ii_query_parser.specs.declared.phrase_prefix.PhrasePrefix.{PhrasePrefix}
use Rattle.ii_query_parser.specs.declared.query.PhraseTerm.{PhraseTerm}
use Rattle.ii_query_parser.specs.declared.term_range.KeyBound.TheVariants.{Unbounded}
use Rattle.ii_query_parser.specs.declared.term_range.TermRange.{TermRange}
use Rattle.ii_query_parser.specs.Queries.{has_phrase, has_phrase_prefix, has_phrase_within, has_positions_in, others_with, phrase_has_positions, phrase_is_within}
use Rattle.ii_query_parser.specs.QueryTexts.{PhraseState}
use Rattle.ii_query_parser.specs.Ranges.{in_range}
use Rattle.ii_query_parser.specs.StarredTexts.{has_starred, last_term, starts_with_term, with_last_key}
use Rattle.ii_query_parser.proofs.SlopLemmas.{phrase_within_zero}

-- a test of the terms of a phrase with a prefix
each_passes : (test : TermState → Bool) (p : PhrasePrefix)
    → list_all (λ (o : PhraseTerm). test o.term) (others_with p p.last.prefix.value) ≡ (list_all (λ (o : PhraseTerm). test o.term) p.others.items && test p.last.prefix)
each_passes test p =
    list_all-append (λ (o : PhraseTerm). test o.term) p.others.items (record { distance = p.distance; term = p.last.prefix } ∷ [])
    ∙ ap (λ (b : Bool). list_all (λ (o : PhraseTerm). test o.term) p.others.items && b) (and-true (test p.last.prefix))

pub fields_of_each : (n : ℕ) (p : PhrasePrefix)
    → phrase_is_within n p.first (others_with p p.last.prefix.value) ≡ (nat_lt p.first.field n && (list_all (λ (o : PhraseTerm). nat_lt o.term.field n) p.others.items && nat_lt p.last.prefix.field n))
fields_of_each n p = ap (λ (b : Bool). nat_lt p.first.field n && b) (each_passes (λ (t : TermState). nat_lt t.field n) p)

pub positions_of_each : (entries : List SchemaEntry) (p : PhrasePrefix)
    → phrase_has_positions entries p.first (others_with p p.last.prefix.value) ≡ (has_positions_in entries p.first && (list_all (λ (o : PhraseTerm). has_positions_in entries o.term) p.others.items && has_positions_in entries p.last.prefix))
positions_of_each entries p = ap (λ (b : Bool). has_positions_in entries p.first && b) (each_passes (has_positions_in entries) p)

-- a phrase that ends with a term
last_at_end : (first : TermState) (os : List PhraseTerm) (o : PhraseTerm) → last_term first (os ++ o ∷ []) ≡ o.term
last_at_end first [] o = refl
last_at_end first (x ∷ os) o = last_at_end x.term os o

key_at_end : (key : List ℕ) (os : List PhraseTerm) (o : PhraseTerm) → with_last_key key (os ++ o ∷ []) ≡ os ++ record { distance = o.distance; term = record { field = o.term.field; value = key } } ∷ []
key_at_end key [] o = refl
key_at_end key (x ∷ []) o = refl
key_at_end key (x ∷ y ∷ os) o = ap (λ (ps : List PhraseTerm). x ∷ ps) (key_at_end key (y ∷ os) o)

-- whether a document has the phrase with the key of a token as its last one
abbrev ends_with_key : List IndexToken → ℕ → TermState → List PhraseTerm → PhraseTerm → IndexToken → Bool
ends_with_key ts doc first os o t = starts_with_term o.term t && has_phrase ts doc first (os ++ record { distance = o.distance; term = record { field = o.term.field; value = t.key } } ∷ [])

with_key : (ts : List IndexToken) (doc : ℕ) (first : TermState) (os : List PhraseTerm) (o : PhraseTerm) (t : IndexToken)
    → (starts_with_term (last_term first (os ++ o ∷ [])) t && has_phrase ts doc first (with_last_key t.key (os ++ o ∷ []))) ≡ ends_with_key ts doc first os o t
with_key ts doc first os o t =
    ap (λ (term : TermState). starts_with_term term t && has_phrase ts doc first (with_last_key t.key (os ++ o ∷ []))) (last_at_end first os o)
    ∙ ap (λ (ps : List PhraseTerm). starts_with_term o.term t && has_phrase ts doc first ps) (key_at_end t.key os o)

starred_at_end : (ts : List IndexToken) (doc : ℕ) (first : TermState) (os : List PhraseTerm) (o : PhraseTerm) → has_starred ts doc first (os ++ o ∷ []) ≡ list_any (ends_with_key ts doc first os o) ts
starred_at_end ts doc first [] o = ap (λ (test : IndexToken → Bool). list_any test ts) (λ i t. with_key ts doc first [] o t i)
starred_at_end ts doc first (x ∷ os) o = ap (λ (test : IndexToken → Bool). list_any test ts) (λ i t. with_key ts doc first (x ∷ os) o t i)

-- a range without bounds has the keys that start with its prefix
in_prefix : (range : TermRange) (key : List ℕ) → range.lower ≡ Unbounded → range.upper ≡ Unbounded → in_range range key ≡ starts_with nat_eq key range.prefix.value
in_prefix range key lower upper = rw (lower, upper, and-true (starts_with nat_eq key range.prefix.value), and-true (starts_with nat_eq key range.prefix.value)) refl

prefix_test : (p : PhrasePrefix) (ts : List IndexToken) (doc : ℕ) (t : IndexToken) → p.last.lower ≡ Unbounded → p.last.upper ≡ Unbounded
    → ((nat_eq t.field p.last.prefix.field && in_range p.last t.key) && has_phrase_within 0 ts doc p.first (others_with p t.key)) ≡ ends_with_key ts doc p.first p.others.items (record { distance = p.distance; term = p.last.prefix }) t
prefix_test p ts doc t lower upper =
    ap (λ (b : Bool). (nat_eq t.field p.last.prefix.field && b) && has_phrase_within 0 ts doc p.first (others_with p t.key)) (in_prefix p.last t.key lower upper)
    ∙ ap (λ (b : Bool). starts_with_term p.last.prefix t && b) (phrase_within_zero ts doc p.first (others_with p t.key))

-- a phrase whose last term is a prefix
starred_means : (p : PhrasePrefix) (ts : List IndexToken) (doc : ℕ) → p.last.lower ≡ Unbounded → p.last.upper ≡ Unbounded
    → has_phrase_prefix p ts doc ≡ has_starred ts doc p.first (p.others.items ++ record { distance = p.distance; term = p.last.prefix } ∷ [])
starred_means p ts doc lower upper =
    ap (λ (test : IndexToken → Bool). list_any test ts) (λ i t. prefix_test p ts doc t lower upper i)
    ∙ sym (starred_at_end ts doc p.first p.others.items (record { distance = p.distance; term = p.last.prefix }))

-- the words of a text, of which the last term may be a prefix
pub popped_means : (words : PhraseState) (rest : List PhraseTerm) (o : PhraseTerm) (p : PhrasePrefix) (ts : List IndexToken) (doc : ℕ) → words.others ≡ rest ++ o ∷ [] → p.first ≡ words.first → p.others.items ≡ rest → p.distance ≡ o.distance → p.last.prefix ≡ o.term
    → p.last.lower ≡ Unbounded → p.last.upper ≡ Unbounded → has_phrase_prefix p ts doc ≡ has_starred ts doc words.first words.others
popped_means words rest o p ts doc others_are first_is rest_is distance_is prefix_is lower upper =
    starred_means p ts doc lower upper
    ∙ rw (first_is, rest_is, distance_is, prefix_is, others_are) refl
