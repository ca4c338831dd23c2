-- What a document scores by a word, in plain numbers.
use Rattle.std.proofs.Common.{◌≡◌, ◌∙◌, ℕ, ◌<◌, Bool, true, false, true≢false, ◌&&◌, ◌==◌, List, [], ◌∷◌, Option, None, Some, Result, Ok, Err, IfOk, Vec, Global, get_or, if◌then◌else◌, length, min, refl, sym, ap, subst}
use Rattle.std.specs.Prelude.{IfSome, bytes_eq, slice_get, unwrap_or}
use Rattle.std.specs.List.{All, AllByRecursion}
use Rattle.std.specs.Option.{option_map}
use Rattle.std.proofs.lemmas.Bool.{and_parts, eqb-true}
use Rattle.ii_io.specs.declared.faults.Fault.{Fault}
use Rattle.ii_base.specs.Options.{has_freq}
use Rattle.ii_base.specs.Schema.{SchemaEntry, keeps_norms}
use Rattle.ii_base.specs.Terms.{TermState}
use Rattle.ii_base.specs.declared.schema.value_type.ValueType.{ValueType}
use Rattle.ii_base.specs.declared.schema.value_type.ValueType.TheVariants.{Str}
use Rattle.ii_bm25.specs.Bm25.{bm25_score, bm25_weight}
use Rattle.ii_bm25.specs.Statistics.{Statistics, idfs_of}
use Rattle.ii_damage.specs.Fits.{AllFit}
use Rattle.ii_definitions.specs.Fields.{option_of}
use Rattle.ii_definitions.specs.JsonKeys.{is_key_of_text}
use Rattle.ii_definitions.specs.Norms.{has_norms}
use Rattle.ii_definitions.specs.Postings.{doc_count, is_at, tokens_at}
use Rattle.ii_definitions.specs.Tokens.{IndexToken}
use Rattle.ii_fieldnorm.specs.Norms.{id_of_norm}
use Rattle.ii_query_parser.specs.declared.query.Query.TheVariants.{Term}
use Rattle.ii_query_parser.specs.Queries.{QueryTree, are_of_texts}
use Rattle.ii_query_parser.proofs.QueryLemmas.{term_tree}
use Rattle.ii_segments.specs.Segments.{type_of_field}
use Rattle.ii_ranking.specs.Scores.{if_occurs, score_by, scored_by_tokens, tree_score}
use Rattle.ii_ranking.specs.TokenCounts.{AreOrdered, num_tokens_of, term_count}
use Rattle.ii_ranking.specs.TokenScores.{token_score}
use Rattle.ii_ranking.proofs.CountLaws.{counted_at, terms_score_by_counts}
use Rattle.ii_ranking.proofs.EntryTokens.{token_positions}

module _ (schema : List SchemaEntry) (num_docs : ℕ) (word : TermState) (norms : has_norms schema word.field ≡ true) (typed : type_of_field schema word.field ≡ Str) where
  -- a token of the word is of a text
  token_of_text : (t : IndexToken) → IfSome (slice_get schema t.field) (λ (e : SchemaEntry). t.of_text ≡ is_key_of_text e.value_type t.key) → t.field ≡ word.field → t.of_text ≡ true
  token_of_text t kind same = by (slice_get schema word.field) norms typed (subst (λ (field : ℕ). IfSome (slice_get schema field) (λ (e : SchemaEntry). t.of_text ≡ is_key_of_text e.value_type t.key)) same kind)
    where
      by : (found : Option SchemaEntry) → unwrap_or (option_map keeps_norms found) false ≡ true → unwrap_or (option_map (λ (e : SchemaEntry). e.value_type) found) Str ≡ Str
          → IfSome found (λ (e : SchemaEntry). t.of_text ≡ is_key_of_text e.value_type t.key) → t.of_text ≡ true
      by None has text own = absurd (true≢false (sym has))
      by (Some e) has text own = own ∙ ap (λ (type : ValueType). is_key_of_text type t.key) text

  texts : (ts : List IndexToken) → AllFit schema num_docs ts → AllByRecursion (λ (t : IndexToken). t.of_text ≡ true) (tokens_at word.field word.value ts)
  texts [] fit = tt
  texts (t ∷ ts) fit = by (is_at word.field word.value t) refl (texts ts fit.1)
    where
      by : (b : Bool) → is_at word.field word.value t ≡ b → AllByRecursion (λ (u : IndexToken). u.of_text ≡ true) (tokens_at word.field word.value ts) → AllByRecursion (λ (u : IndexToken). u.of_text ≡ true) (tokens_at word.field word.value (t ∷ ts))
      by true is later = rw is (token_of_text t fit.0.kind (eqb-true t.field word.field (and_parts (t.field == word.field) (bytes_eq t.key word.value) is).0), later)
      by false is later = rw is later

  -- so each of them counts
  counts_each : (ts : List IndexToken) (doc : ℕ) → AllFit schema num_docs ts → has_freq (option_of schema word.field) ≡ true → term_count schema ts word doc ≡ num_tokens_of ts word doc
  counts_each ts doc fit counts = by (tokens_at word.field word.value ts) refl (texts ts fit)
    where
      zero_times : (kept : Bool) → (if kept then 0 else min 1 0) ≡ 0
      zero_times true = refl
      zero_times false = refl

      by : (us : List IndexToken) → tokens_at word.field word.value ts ≡ us → AllByRecursion (λ (t : IndexToken). t.of_text ≡ true) us → term_count schema ts word doc ≡ num_tokens_of ts word doc
      by [] is all =
          let none : 0 ≡ num_tokens_of ts word doc = ap (λ (us : List IndexToken). length (token_positions doc us)) (sym is) ∙ counted_at word doc ts in
          let kept = are_of_texts (tokens_at word.field word.value ts) && has_freq (option_of schema word.field) in
          ap (λ (n : ℕ). if kept then n else min 1 n) (sym none) ∙ zero_times kept ∙ none
      by (u ∷ us) is all = rw (is, all.0, counts) refl

occurred : (score_of : ℕ → ℕ) (n score : ℕ) → if_occurs score_of n ≡ Some score → score ≡ score_of n
occurred score_of n score is = by (n == 0) refl
  where
    by : (b : Bool) → (n == 0) ≡ b → score ≡ score_of n
    by true none = let same : None ≡ Some score = rw none at is in absurd (cc)
    by false some = let same : Some (score_of n) ≡ Some score = rw some at is in cc

-- the score of a word, in a text field with counts and norms
abbrev pub word_score : Statistics → TermState → List IndexToken → ℕ → ℕ
word_score st word ts doc = bm25_score (bm25_weight (idfs_of st (word ∷ [])) st.num_docs (st.num_tokens word.field)) (id_of_norm (doc_count doc word.field ts)) (num_tokens_of ts word doc)

pub word_scored : (schema : List SchemaEntry) (num_docs : ℕ) (st : Statistics) (ts : List IndexToken) (word : TermState) → has_norms schema word.field ≡ true → type_of_field schema word.field ≡ Str → has_freq (option_of schema word.field) ≡ true
    → AllFit schema num_docs ts → AreOrdered ts → (doc score : ℕ) → token_score schema ts st (Term word) doc ≡ Some score → score ≡ word_score st word ts doc
word_scored schema num_docs st ts word norms typed counts fit ordered doc score is =
    let s = scored_by_tokens schema ts st in
    let score_of = score_by s (word ∷ []) word.field doc in
    occurred score_of (num_tokens_of ts word doc) score
    (ap (if_occurs score_of) (sym (counts_each schema num_docs word norms typed ts doc fit counts)) ∙ sym (terms_score_by_counts schema ts st word doc ordered) ∙ sym (ap (λ (tree : QueryTree). tree_score s tree doc) (term_tree word)) ∙ is)
    ∙ ap (λ (kept : Bool). bm25_score (bm25_weight (idfs_of st (word ∷ [])) st.num_docs (st.num_tokens word.field)) (if kept then id_of_norm (doc_count doc word.field ts) else 1) (num_tokens_of ts word doc)) norms

-- each of the best has this score
pub words_scored : (schema : List SchemaEntry) (num_docs : ℕ) (st : Statistics) (ts : List IndexToken) (word : TermState) → has_norms schema word.field ≡ true → type_of_field schema word.field ≡ Str → has_freq (option_of schema word.field) ≡ true
    → AllFit schema num_docs ts → AreOrdered ts → (r : Result (Vec (ℕ × ℕ) Global) Fault)
    → IfOk r (λ best. All (λ (b : ℕ × ℕ). (b.1 < num_docs) × (token_score schema ts st (Term word) b.1 ≡ Some b.0)) best.items) → IfOk r (λ best. All (λ (b : ℕ × ℕ). b.0 ≡ word_score st word ts b.1) best.items)
words_scored schema num_docs st ts word norms typed counts fit ordered (Ok best) all = λ k d inside.
    word_scored schema num_docs st ts word norms typed counts fit ordered (get_or best.items k d).1 (get_or best.items k d).0 (all k d inside).1
words_scored schema num_docs st ts word norms typed counts fit ordered (Err fault) all = tt
