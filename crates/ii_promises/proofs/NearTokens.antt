-- Where a phrase of two terms with a slop is found, by the tokens of an index.
use Rattle.std.proofs.Common.{◌≡◌, ◌∙◌, ℕ, ◌+◌, ◌-◌, ◌<◌, ◌≤◌, Bool, true, false, ◌&&◌, ◌||◌, List, [], ◌∷◌, Global, Vec, ap, nat_lt, refl, sym}
use Rattle.std.specs.List.{list_any}
use Rattle.std.proofs.lemmas.Bool.{and_from, and_parts, lt-ltb, or_right}
use Rattle.ii_base.specs.Schema.{SchemaEntry}
use Rattle.ii_base.specs.Terms.{TermState}
use Rattle.ii_definitions.specs.Tokens.{IndexToken}
use Rattle.ii_query_parser.specs.declared.query.PhraseTerm.{PhraseTerm}
use Rattle.ii_query_parser.specs.declared.query.Query.TheVariants.{Phrase}
use Rattle.ii_query_parser.specs.Queries.{QueryTree, follow_near, has_fields, has_phrase_within, has_positions_in, holds_for_all, is_in_slop, is_text_key, is_token_of, is_within, keeps_positions, matches, one_phrase, phrase_has_positions, phrase_is_within, stands_near, tree_matches, tree_of}
use Rattle.ii_query_parser.proofs.QueryLemmas.{phrase_tree}
use Rattle.ii_query.proofs.SloppyLemmas.{way_found, way_none}
use Rattle.ii_promises.specs.Phrases.{AreTexts, KeepPositions}
use Rattle.ii_search.proofs.RangeMatches.{any_more}
use Rattle.ii_promises.proofs.NearLaws.{Way, close_near, is_close, near_close}

-- the next word of a phrase
abbrev pub next_word : TermState → PhraseTerm
next_word second = record { distance = 1; term = second }

-- whether a term has a token in a document at most `slop` before or after a place
abbrev pub has_close : ℕ → List IndexToken → ℕ → TermState → ℕ → Bool
has_close slop ts doc term place = list_any (λ (u : IndexToken). is_token_of term doc u && is_close slop place u.position) ts

token_way : (slop place : ℕ) (of : IndexToken → Bool) (us : List IndexToken) → list_any (λ (u : IndexToken). of u && is_close slop place u.position) us ≡ true
    → Way slop (λ (back : ℕ). list_any (λ (u : IndexToken). of u && is_in_slop slop place (u.position + back)) us)
token_way slop place of [] is = absurd (let wrong : false ≡ true = is in cc)
token_way slop place of (u ∷ us) is = by (of u && is_close slop place u.position) refl (token_way slop place of us)
  where
    by : (b : Bool) → (of u && is_close slop place u.position) ≡ b → (list_any (λ (v : IndexToken). of v && is_close slop place v.position) us ≡ true → Way slop (λ (back : ℕ). list_any (λ (v : IndexToken). of v && is_in_slop slop place (v.position + back)) us))
        → Way slop (λ (back : ℕ). list_any (λ (v : IndexToken). of v && is_in_slop slop place (v.position + back)) (u ∷ us))
    by true here later =
        let both = and_parts (of u) (is_close slop place u.position) here in
        let near = close_near slop place u.position both.1 in
        let there = and_from (of u) (is_in_slop slop place (u.position + (place - u.position))) both.0 near.1 in
        record { back = place - u.position; up = near.0; is = ap (λ (b : Bool). b || list_any (λ (v : IndexToken). of v && is_in_slop slop place (v.position + (place - u.position))) us) there }
    by false here later =
        let way = later (rw here at is) in
        record { back = way.back; up = way.up; is = or_right (of u && is_in_slop slop place (u.position + way.back)) (list_any (λ (v : IndexToken). of v && is_in_slop slop place (v.position + way.back)) us) way.is }

module _ (slop : ℕ) (ts : List IndexToken) (doc : ℕ) (second : TermState) (start : ℕ) where
  -- a token near by some way back is close
  none_near : (back : ℕ) → back ≤ slop → (is_text_key second ts && has_close slop ts doc second (start + 1)) ≡ false → (b : Bool) → stands_near slop back ts doc second (start + 1) ≡ b → (stands_near slop back ts doc second (start + 1) && true) ≡ false
  none_near back up far true is =
      let both = and_parts (is_text_key second ts) (list_any (λ (u : IndexToken). is_token_of second doc u && is_in_slop slop (start + 1) (u.position + back)) ts) is in
      let close = any_more (λ (u : IndexToken). is_token_of second doc u && is_in_slop slop (start + 1) (u.position + back)) (λ (u : IndexToken). is_token_of second doc u && is_close slop (start + 1) u.position)
      (λ u has.
      let parts = and_parts (is_token_of second doc u) (is_in_slop slop (start + 1) (u.position + back)) has in
      and_from (is_token_of second doc u) (is_close slop (start + 1) u.position) parts.0 (near_close slop back (start + 1) u.position up parts.1)) ts both.1 in
      absurd (let wrong : false ≡ true = sym far ∙ and_from (is_text_key second ts) (has_close slop ts doc second (start + 1)) both.0 close in cc)
  none_near back up far false is = rw is refl

  pub close_follows : follow_near slop ts doc (next_word second ∷ []) start ≡ (is_text_key second ts && has_close slop ts doc second (start + 1))
  close_follows = by (is_text_key second ts && has_close slop ts doc second (start + 1)) refl
    where
      by : (b : Bool) → (is_text_key second ts && has_close slop ts doc second (start + 1)) ≡ b → follow_near slop ts doc (next_word second ∷ []) start ≡ (is_text_key second ts && has_close slop ts doc second (start + 1))
      by true is =
          let both = and_parts (is_text_key second ts) (has_close slop ts doc second (start + 1)) is in
          let way = token_way slop (start + 1) (is_token_of second doc) ts both.1 in
          let near : stands_near slop way.back ts doc second (start + 1) ≡ true = and_from (is_text_key second ts) (list_any (λ (u : IndexToken). is_token_of second doc u && is_in_slop slop (start + 1) (u.position + way.back)) ts) both.0 way.is in
          way_found (λ (back : ℕ). stands_near slop back ts doc second (start + 1) && true) slop way.back way.up (rw near refl) ∙ sym is
      by false is = way_none (λ (back : ℕ). stands_near slop back ts doc second (start + 1) && true) slop (λ back up. none_near back up is (stands_near slop back ts doc second (start + 1)) refl) ∙ sym is

-- a document has a phrase of two terms exactly if the second is close to the place after the first
pub close_phrase : (slop : ℕ) (ts : List IndexToken) (doc : ℕ) (first second : TermState) → is_text_key first ts ≡ true → is_text_key second ts ≡ true
    → has_phrase_within slop ts doc first (next_word second ∷ []) ≡ list_any (λ (t : IndexToken). is_token_of first doc t && has_close slop ts doc second (t.position + 1)) ts
close_phrase slop ts doc first second texts others_texts =
    ap (λ (b : Bool). b && list_any (λ (t : IndexToken). is_token_of first doc t && follow_near slop ts doc (next_word second ∷ []) t.position) ts) texts
    ∙ (λ i. list_any (λ (t : IndexToken). is_token_of first doc t && (close_follows slop ts doc second t.position ∙ ap (λ (b : Bool). b && has_close slop ts doc second (t.position + 1)) others_texts) i) ts)

-- ---- the query of such a phrase
module _ (first second : TermState) (others : Vec PhraseTerm Global) (slop : ℕ) (are : others.items ≡ next_word second ∷ []) where
  near_tree : tree_of (Phrase first others slop) ≡ one_phrase first (next_word second ∷ []) slop
  near_tree = phrase_tree first others slop ∙ ap (λ (os : List PhraseTerm). one_phrase first os slop) are

  pub near_fields : (n : ℕ) → first.field < n → second.field < n → has_fields n (Phrase first others slop) ≡ true
  near_fields n one two =
      ap (holds_for_all (is_within n) (phrase_is_within n)) near_tree
      ∙ and_from (nat_lt first.field n) (nat_lt second.field n && true) (lt-ltb first.field n one) (and_from (nat_lt second.field n) true (lt-ltb second.field n two) refl)

  pub near_positions : (schema : List SchemaEntry) → KeepPositions schema first second → keeps_positions schema (Phrase first others slop) ≡ true
  near_positions schema keep =
      ap (holds_for_all (λ (t : TermState). true) (phrase_has_positions schema)) near_tree
      ∙ and_from (has_positions_in schema first) (has_positions_in schema second && true) keep.first_positions (and_from (has_positions_in schema second) true keep.second_positions refl)

  pub near_matches : (ts : List IndexToken) → AreTexts ts first second → (doc : ℕ)
      → matches (Phrase first others slop) ts doc ≡ list_any (λ (t : IndexToken). is_token_of first doc t && has_close slop ts doc second (t.position + 1)) ts
  near_matches ts texts doc = ap (λ (q : QueryTree). tree_matches q ts doc) near_tree ∙ close_phrase slop ts doc first second texts.first_text texts.second_text
