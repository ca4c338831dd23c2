-- Where a phrase whose last term is one of a range is found, by the tokens of an index.
use Rattle.std.proofs.Common.{◌≡◌, ◌∙◌, ℕ, ◌+◌, Bool, true, false, true≢false, ◌&&◌, ◌==◌, List, [], ◌∷◌, ap, refl, sym}
use Rattle.std.specs.Prelude.{bytes_eq}
use Rattle.std.specs.Cmp.{both_ways}
use Rattle.std.specs.Cmp.Lexicographic.{bytes_decides}
use Rattle.std.specs.List.{list_all, list_any, range_with_len}
use Rattle.std.proofs.Math.Bool.{and-false}
use Rattle.std.proofs.lemmas.Bool.{and_from, and_parts}
use Rattle.std.proofs.lemmas.List.Folds.{list_all-append}
use Rattle.ii_definitions.specs.Postings.{is_at}
use Rattle.ii_definitions.specs.Tokens.{IndexToken}
use Rattle.ii_query_parser.specs.declared.phrase_prefix.PhrasePrefix.{PhrasePrefix}
use Rattle.ii_query_parser.specs.declared.query.PhraseTerm.{PhraseTerm}
use Rattle.ii_query_parser.specs.Ranges.{in_range}
use Rattle.ii_query_parser.specs.Queries.{follow_near, has_phrase_prefix, has_phrase_within, is_in_slop, is_text_key, is_token_of, others_with, stands_near}
use Rattle.ii_search.proofs.RangeMatches.{any_alike, any_gives, any_more, any_none, none_of_all}

-- the last term of such a phrase, with a key
abbrev pub last_with : PhrasePrefix → List ℕ → PhraseTerm
last_with p key = record { distance = p.distance; term = record { field = p.last.prefix.field; value = key } }

-- a test of the fields of its terms doesn't depend on the key of the last one
pub same_with : (test : ℕ → Bool) (p : PhrasePrefix) (key other : List ℕ) → list_all (λ (o : PhraseTerm). test o.term.field) (others_with p key) ≡ list_all (λ (o : PhraseTerm). test o.term.field) (others_with p other)
same_with test p key other =
    list_all-append (λ (o : PhraseTerm). test o.term.field) p.others.items (last_with p key ∷ []) ∙ sym (list_all-append (λ (o : PhraseTerm). test o.term.field) p.others.items (last_with p other ∷ []))

-- a document without a token of the key
module _ (p : PhrasePrefix) (ts : List IndexToken) (doc : ℕ) (key : List ℕ) (none : list_any (λ (t : IndexToken). (t.doc == doc) && is_at p.last.prefix.field key t) ts ≡ false) where
  not_near : (back place : ℕ) → stands_near 0 back ts doc (last_with p key).term place ≡ false
  not_near back place =
      ap (λ (b : Bool). is_text_key (last_with p key).term ts && b) (any_none (is_token_of (last_with p key).term doc) (λ (t : IndexToken). is_in_slop 0 place (t.position + back)) ts none)
      ∙ and-false (is_text_key (last_with p key).term ts)

  not_all : (back start : ℕ) → list_all (λ (o : PhraseTerm). stands_near 0 back ts doc o.term (start + o.distance)) (others_with p key) ≡ false
  not_all back start =
      list_all-append (λ (o : PhraseTerm). stands_near 0 back ts doc o.term (start + o.distance)) p.others.items (last_with p key ∷ [])
      ∙ ap (λ (b : Bool). list_all (λ (o : PhraseTerm). stands_near 0 back ts doc o.term (start + o.distance)) p.others.items && (b && true)) (not_near back (start + p.distance))
      ∙ and-false (list_all (λ (o : PhraseTerm). stands_near 0 back ts doc o.term (start + o.distance)) p.others.items)

  not_followed : (start : ℕ) → follow_near 0 ts doc (others_with p key) start ≡ false
  not_followed start =
      any_alike (λ (back : ℕ). list_all (λ (o : PhraseTerm). stands_near 0 back ts doc o.term (start + o.distance)) (others_with p key)) (λ (back : ℕ). false) (range_with_len 0 1) (λ back. not_all back start)
      ∙ none_of_all (range_with_len 0 1)

  -- doesn't have the phrase with it
  pub absent_key : has_phrase_within 0 ts doc p.first (others_with p key) ≡ false
  absent_key =
      ap (λ (b : Bool). is_text_key p.first ts && b)
      (any_alike (λ (t : IndexToken). is_token_of p.first doc t && follow_near 0 ts doc (others_with p key) t.position) (λ (t : IndexToken). false) ts
      (λ t. ap (λ (b : Bool). is_token_of p.first doc t && b) (not_followed t.position) ∙ and-false (is_token_of p.first doc t))
      ∙ none_of_all ts)
      ∙ and-false (is_text_key p.first ts)

-- so the key of such a phrase is that of a token of the document
module _ (p : PhrasePrefix) (ts : List IndexToken) (doc : ℕ) where
  -- whether a token has the field, and a key with which the document has the phrase
  abbrev gives_key : IndexToken → Bool
  gives_key t = (t.field == p.last.prefix.field) && in_range p.last t.key && has_phrase_within 0 ts doc p.first (others_with p t.key)

  key_there : (key : List ℕ) → has_phrase_within 0 ts doc p.first (others_with p key) ≡ true → (b : Bool) → list_any (λ (t : IndexToken). (t.doc == doc) && is_at p.last.prefix.field key t) ts ≡ b → b ≡ true
  key_there key has true is = refl
  key_there key has false is = absurd (true≢false (sym has ∙ absent_key p ts doc key is))

  -- a token of the document with the key of another one
  same_key : (t : IndexToken) → gives_key t ≡ true → (u : IndexToken) → ((u.doc == doc) && is_at p.last.prefix.field t.key u) ≡ true → ((u.doc == doc) && gives_key u) ≡ true
  same_key t gives u is =
      let has = and_parts ((t.field == p.last.prefix.field) && in_range p.last t.key) (has_phrase_within 0 ts doc p.first (others_with p t.key)) gives in
      let ranged = and_parts (t.field == p.last.prefix.field) (in_range p.last t.key) has.0 in
      let own = and_parts (u.doc == doc) (is_at p.last.prefix.field t.key u) is in
      let at = and_parts (u.field == p.last.prefix.field) (bytes_eq u.key t.key) own.1 in
      let key_is : u.key ≡ t.key = (bytes_decides u.key t.key).0 at.1 in
      and_from (u.doc == doc) (gives_key u) own.0
      (and_from ((u.field == p.last.prefix.field) && in_range p.last u.key) (has_phrase_within 0 ts doc p.first (others_with p u.key))
      (and_from (u.field == p.last.prefix.field) (in_range p.last u.key) at.0 (ap (in_range p.last) key_is ∙ ranged.1))
      (ap (λ (key : List ℕ). has_phrase_within 0 ts doc p.first (others_with p key)) key_is ∙ has.1))

  pub key_of_document : has_phrase_prefix p ts doc ≡ list_any (λ (t : IndexToken). (t.doc == doc) && gives_key t) ts
  key_of_document =
      both_ways (has_phrase_prefix p ts doc) (list_any (λ (t : IndexToken). (t.doc == doc) && gives_key t) ts)
      (any_gives gives_key ts (list_any (λ (t : IndexToken). (t.doc == doc) && gives_key t) ts ≡ true)
      (λ t gives among.
      let has = (and_parts ((t.field == p.last.prefix.field) && in_range p.last t.key) (has_phrase_within 0 ts doc p.first (others_with p t.key)) gives).1 in
      let there = key_there t.key has (list_any (λ (u : IndexToken). (u.doc == doc) && is_at p.last.prefix.field t.key u) ts) refl in
      any_more (λ (u : IndexToken). (u.doc == doc) && is_at p.last.prefix.field t.key u) (λ (u : IndexToken). (u.doc == doc) && gives_key u) (same_key t gives) ts there))
      (any_more (λ (t : IndexToken). (t.doc == doc) && gives_key t) gives_key (λ t is. (and_parts (t.doc == doc) (gives_key t) is).1) ts)
