-- Phrases within a slop.
use Rattle.std.proofs.Common.{◌≡◌, ◌∙◌, ℕ, ◌+◌, Bool, ◌&&◌, List, [], ◌∷◌, refl, ap, arith}
use Rattle.std.specs.Prelude.{nat_eq}
use Rattle.std.specs.List.{list_all, list_any}
use Rattle.std.proofs.Math.Bool.{or-false}
use Rattle.std.proofs.lemmas.Bool.Decides.{nat_tests}
use Rattle.ii_base.specs.Terms.{TermState}
use Rattle.ii_definitions.specs.Tokens.{IndexToken}
use Rattle.ii_query_parser.specs.declared.query.PhraseTerm.{PhraseTerm}
use Rattle.ii_query_parser.specs.QueryTexts.{has_words, has_words_within}
use Rattle.ii_query_parser.specs.Queries.{follow, follow_near, has_phrase, has_phrase_within, is_in_slop, is_text_key, is_token_of, stands_at, stands_near}

-- with slop 0 a term is at its very place
in_slop_zero : (place n : ℕ) → is_in_slop 0 place (n + 0) ≡ nat_eq n place
in_slop_zero place n = grind (arith, nat_tests)

near_zero : (ts : List IndexToken) (doc : ℕ) (term : TermState) (place : ℕ) → stands_near 0 0 ts doc term place ≡ stands_at ts doc term place
near_zero ts doc term place = ap (λ (test : ℕ → Bool). is_text_key term ts && list_any (λ (t : IndexToken). is_token_of term doc t && test t.position) ts) (λ i n. in_slop_zero place n i)

pub follow_zero : (ts : List IndexToken) (doc : ℕ) (others : List PhraseTerm) (start : ℕ) → follow_near 0 ts doc others start ≡ follow ts doc others start
follow_zero ts doc others start =
    or-false (list_all (λ (o : PhraseTerm). stands_near 0 0 ts doc o.term (start + o.distance)) others)
    ∙ ap (λ (test : TermState → ℕ → Bool). list_all (λ (o : PhraseTerm). test o.term (start + o.distance)) others) (λ i term place. near_zero ts doc term place i)

-- a phrase within a slop of 0 is the phrase
pub phrase_within_zero : (ts : List IndexToken) (doc : ℕ) (first : TermState) (others : List PhraseTerm) → has_phrase_within 0 ts doc first others ≡ has_phrase ts doc first others
phrase_within_zero ts doc first others = ap (λ (test : ℕ → Bool). is_text_key first ts && list_any (λ (t : IndexToken). is_token_of first doc t && test t.position) ts) (λ i start. follow_zero ts doc others start i)

-- the same of a term or a phrase
pub words_within_zero : (ts : List IndexToken) (doc : ℕ) (first : TermState) (others : List PhraseTerm) → has_words_within 0 ts doc first others ≡ has_words ts doc first others
words_within_zero ts doc first [] = refl
words_within_zero ts doc first (o ∷ os) = phrase_within_zero ts doc first (o ∷ os)
