-- The key of a document is that of its only token in the field.
use Rattle.std.proofs.Common.{◌≡◌, ◌≢◌, ◌∙◌, ◌==◌, ℕ, Bool, true, false, List, [], ◌∷◌, ◌++◌, None, Some, ap, filter, length, map, nat_le, refl, sym}
use Rattle.std.specs.List.{AllByRecursion}
use Rattle.std.specs.Option.{option_and_then}
use Rattle.std.proofs.lemmas.Bool.{eqb-true, eqb-false, eq-eqb, ne_eqb}
use Rattle.std.proofs.lemmas.List.{map-append}
use Rattle.std.proofs.lemmas.List.Elements.{filter-append}
use Rattle.ii_base.specs.Words.{Word}
use Rattle.ii_definitions.specs.Tokens.{Call, Content, IndexToken, Piece, call_pieces, leaves, text, tokens_after, value, words}
use Rattle.ii_definitions.proofs.PieceLaws.{tokens_after-append}
use Rattle.nequllpa_indexing.specs.FieldTokens.{pieces_by, tokens_by}
use Rattle.nequllpa_indexing.specs.KeyedLines.{content_key, key_of_calls, only_of, short_word, token_keys}
use Rattle.nequllpa_indexing.proofs.CountLaws.{IsTokenOf, call_tokens_of}

-- ---- the tokens of one call
abbrev keys_of : List IndexToken → List (List ℕ)
keys_of ts = map (λ (t : IndexToken). t.key) ts

inside : (a b : List ℕ) → Some a ≡ Some b → a ≡ b
inside a b e = cc

-- a text of one short word has one token, with its key
module _ (analyze : List ℕ → List Word) (earlier : List Piece) (doc field : ℕ) (key : List ℕ) where
  abbrev tokens_with : Content → List IndexToken
  tokens_with c = tokens_after earlier (call_pieces analyze (record { doc = doc; field = field; content = c }))

  word_key : (t : List ℕ) (ws : List Word) → analyze t ≡ ws → option_and_then short_word (only_of ws) ≡ Some key → keys_of (tokens_with (text t)) ≡ key ∷ []
  word_key t [] are is = absurd cc
  word_key t (w ∷ []) are is = by (nat_le (length w.text) 65530) refl
    where
      by : (b : Bool) → nat_le (length w.text) 65530 ≡ b → keys_of (tokens_with (text t)) ≡ key ∷ []
      by true short = let same : Some w.text ≡ Some key = rw short at is in rw (are, short) (ap (λ (k : List ℕ). k ∷ []) (inside w.text key same))
      by false long = let none : None ≡ Some key = rw long at is in absurd cc
  word_key t (w ∷ x ∷ ws) are is = absurd cc

  -- what has a key, has one token, with this key
  content_tokens : (c : Content) → content_key analyze c ≡ Some key → keys_of (tokens_with c) ≡ key ∷ []
  content_tokens (text t) is = word_key t (analyze t) refl is
  content_tokens (words ws) is = absurd cc
  content_tokens (value k) is = ap (λ (x : List ℕ). x ∷ []) (inside k key is)
  content_tokens (leaves ls) is = absurd cc

-- ---- the tokens of a field
none_in : (doc f field : ℕ) (ts : List IndexToken) → f ≢ field → AllByRecursion (IsTokenOf doc f) ts → token_keys field ts ≡ []
none_in doc f field [] other all = refl
none_in doc f field (t ∷ ts) other all =
    let differs : (t.field == field) ≡ false = ne_eqb t.field field (λ same. other (sym all.0.1 ∙ same)) in
    rw differs (none_in doc f field ts other all.1)

all_in : (doc field : ℕ) (ts : List IndexToken) → AllByRecursion (IsTokenOf doc field) ts → token_keys field ts ≡ keys_of ts
all_in doc field [] all = refl
all_in doc field (t ∷ ts) all =
    let same : (t.field == field) ≡ true = eq-eqb t.field field all.0.1 in
    rw same (ap (λ (ks : List (List ℕ)). t.key ∷ ks) (all_in doc field ts all.1))

token_keys-append : (field : ℕ) (xs ys : List IndexToken) → token_keys field (xs ++ ys) ≡ token_keys field xs ++ token_keys field ys
token_keys-append field xs ys =
    ap keys_of (filter-append (λ (t : IndexToken). t.field == field) xs ys) ∙ map-append (λ (t : IndexToken). t.key) (filter (λ (t : IndexToken). t.field == field) xs) (filter (λ (t : IndexToken). t.field == field) ys)

module _ (analyze : ℕ → List ℕ → List Word) (field : ℕ) where
  abbrev in_field : List Call → List Call
  in_field calls = filter (λ (c : Call). c.field == field) calls

  -- the tokens of a call, and of those after it
  parted : (earlier : List Piece) (c : Call) (cs : List Call)
      → token_keys field (tokens_after earlier (pieces_by analyze (c ∷ cs)))
      ≡ token_keys field (tokens_after earlier (call_pieces (analyze c.field) c)) ++ token_keys field (tokens_after (earlier ++ call_pieces (analyze c.field) c) (pieces_by analyze cs))
  parted earlier c cs =
      ap (token_keys field) (tokens_after-append earlier (call_pieces (analyze c.field) c) (pieces_by analyze cs))
      ∙ token_keys-append field (tokens_after earlier (call_pieces (analyze c.field) c)) (tokens_after (earlier ++ call_pieces (analyze c.field) c) (pieces_by analyze cs))

  other_call : (earlier : List Piece) (c : Call) → (c.field == field) ≡ false → token_keys field (tokens_after earlier (call_pieces (analyze c.field) c)) ≡ []
  other_call earlier c other = none_in c.doc c.field field (tokens_after earlier (call_pieces (analyze c.field) c)) (eqb-false c.field field other) (call_tokens_of (analyze c.field) earlier c)

  -- calls in other fields have no token in the field
  no_call : (earlier : List Piece) (cs : List Call) → in_field cs ≡ [] → token_keys field (tokens_after earlier (pieces_by analyze cs)) ≡ []
  no_call earlier [] none = refl
  no_call earlier (c ∷ cs) none = by (c.field == field) refl (no_call (earlier ++ call_pieces (analyze c.field) c) cs)
    where
      by : (b : Bool) → (c.field == field) ≡ b → (in_field cs ≡ [] → token_keys field (tokens_after (earlier ++ call_pieces (analyze c.field) c) (pieces_by analyze cs)) ≡ [])
          → token_keys field (tokens_after earlier (pieces_by analyze (c ∷ cs))) ≡ []
      by true is later = let some : c ∷ in_field cs ≡ [] = rw is at none in absurd cc
      by false is later =
          let rest : in_field cs ≡ [] = rw is at none in
          parted earlier c cs ∙ rw (other_call earlier c is, later rest) refl

  head_is : (c d : Call) (cs : List Call) → c ∷ cs ≡ d ∷ [] → d ≡ c
  head_is c d cs e = cc

  tail_is : (c d : Call) (cs : List Call) → c ∷ cs ≡ d ∷ [] → cs ≡ []
  tail_is c d cs e = cc

  -- the only call in the field has the only token
  one_call : (earlier : List Piece) (cs : List Call) (d : Call) (key : List ℕ) → in_field cs ≡ d ∷ [] → content_key (analyze d.field) d.content ≡ Some key → token_keys field (tokens_after earlier (pieces_by analyze cs)) ≡ key ∷ []
  one_call earlier [] d key one has = absurd cc
  one_call earlier (c ∷ cs) d key one has = by (c.field == field) refl (λ rest. one_call (earlier ++ call_pieces (analyze c.field) c) cs d key rest has)
    where
      more : List Piece
      more = earlier ++ call_pieces (analyze c.field) c

      by : (b : Bool) → (c.field == field) ≡ b → (in_field cs ≡ d ∷ [] → token_keys field (tokens_after (earlier ++ call_pieces (analyze c.field) c) (pieces_by analyze cs)) ≡ key ∷ [])
          → token_keys field (tokens_after earlier (pieces_by analyze (c ∷ cs))) ≡ key ∷ []
      by true is later =
          let found : c ∷ in_field cs ≡ d ∷ [] = rw is at one in
          let own : content_key (analyze c.field) c.content ≡ Some key = ap (λ (x : Call). content_key (analyze x.field) x.content) (sym (head_is c d (in_field cs) found)) ∙ has in
          let tokens = tokens_after earlier (call_pieces (analyze c.field) c) in
          let all : token_keys field tokens ≡ keys_of tokens = ap (λ (f : ℕ). token_keys f tokens) (sym (eqb-true c.field field is)) ∙ all_in c.doc c.field tokens (call_tokens_of (analyze c.field) earlier c) in
          let first : token_keys field tokens ≡ key ∷ [] = all ∙ content_tokens (analyze c.field) earlier c.doc c.field key c.content own in
          parted earlier c cs ∙ rw (first, no_call more cs (tail_is c d (in_field cs) found)) refl
      by false is later =
          let rest : in_field cs ≡ d ∷ [] = rw is at one in
          parted earlier c cs ∙ rw (other_call earlier c is) (later rest)

  -- the key of a document is that of its only token in the field
  pub key_of_only_token : (calls : List Call) (key : List ℕ) → key_of_calls analyze field calls ≡ Some key → token_keys field (tokens_by analyze calls) ≡ key ∷ []
  key_of_only_token calls key has = by (in_field calls) refl
    where
      by : (found : List Call) → in_field calls ≡ found → token_keys field (tokens_by analyze calls) ≡ key ∷ []
      by [] is = let none : None ≡ Some key = rw is at has in absurd cc
      by (d ∷ []) is = one_call [] calls d key is (rw is at has)
      by (d ∷ e ∷ ds) is = let none : None ≡ Some key = rw is at has in absurd cc
