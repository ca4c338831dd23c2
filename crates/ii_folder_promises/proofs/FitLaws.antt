-- The tokens of calls fit a schema, with an analyzer for each field.
use Rattle.std.proofs.Common.{ℕ, Bool, true, false, List, [], ◌∷◌, ◌++◌, ◌∙◌, append-nil, arith, map, subst, sym}
use Rattle.std.specs.List.{AllByRecursion}
use Rattle.std.proofs.lemmas.List.Concat.{flat_map-cons}
use Rattle.std.proofs.lemmas.List.Sorted.{IsNonDecreasingBy-short}
use Rattle.ii_base.specs.Schema.{SchemaEntry}
use Rattle.ii_base.specs.Words.{Word}
use Rattle.ii_definitions.specs.IndexCalls.{MayAllBeIndexed, MayBeIndexed, call_of, doc_of}
use Rattle.ii_definitions.specs.Tokens.{Call, Piece, begin_after, call_pieces, kept_words, piece_tokens, piece_tokens_from, tokens_after, word_token}
use Rattle.ii_definitions.specs.declared.index_call.IndexCall.{IndexCall}
use Rattle.ii_definitions.proofs.ListLaws.{all_after, all_before, all_both}
use Rattle.ii_damage.specs.Fits.{AllFit, Fits}
use Rattle.ii_damage.proofs.CallsFit.{calls_fit}
use Rattle.ii_definitions.proofs.PieceLaws.{tokens_after-append}
use Rattle.nequllpa_indexing.specs.FieldTokens.{pieces_by, tokens_by}

module _ (entries : List SchemaEntry) (num_docs : ℕ) where
  -- a token fits at any position
  words_fit : (p : Piece) (begin other : ℕ) (ws : List Word) → AllFit entries num_docs (map (word_token p begin) ws) → AllFit entries num_docs (map (word_token p other) ws)
  words_fit p begin other [] fit = tt
  words_fit p begin other (w ∷ ws) fit = (record { below = fit.0.below; kind = fit.0.kind }, words_fit p begin other ws fit.1)

  piece_fits : (p : Piece) (begin other : ℕ) (is_text : Bool) → AllFit entries num_docs (piece_tokens_from is_text begin p) → AllFit entries num_docs (piece_tokens_from is_text other p)
  piece_fits p begin other true fit = words_fit p begin other (kept_words p.words) fit
  piece_fits p begin other false fit = fit

  -- so pieces fit after any others
  pieces_fit : (earlier others ps : List Piece) → AllFit entries num_docs (tokens_after earlier ps) → AllFit entries num_docs (tokens_after others ps)
  pieces_fit earlier others [] fit = tt
  pieces_fit earlier others (p ∷ ps) fit =
      let rest = tokens_after (earlier ++ p ∷ []) ps in
      all_both (Fits entries num_docs) (piece_tokens others p) (tokens_after (others ++ p ∷ []) ps)
      (piece_fits p (begin_after earlier p) (begin_after others p) p.is_text (all_before (Fits entries num_docs) (piece_tokens earlier p) rest fit))
      (pieces_fit (earlier ++ p ∷ []) (others ++ p ∷ []) ps (all_after (Fits entries num_docs) (piece_tokens earlier p) rest fit))

  -- the tokens of one call fit
  call_fits : (analyze : List ℕ → List Word) (c : IndexCall) → MayBeIndexed entries num_docs c → AllFit entries num_docs (tokens_after [] (call_pieces analyze (call_of entries c)))
  call_fits analyze c may =
      let alone : MayAllBeIndexed entries num_docs (c ∷ []) = record { each = (may, tt); ordered = IsNonDecreasingBy-short doc_of (c ∷ []) (omega arith) } in
      subst (λ (ps : List Piece). AllFit entries num_docs (tokens_after [] ps)) (flat_map-cons (call_pieces analyze) (call_of entries c) [] ∙ append-nil (call_pieces analyze (call_of entries c))) (calls_fit entries num_docs analyze (c ∷ []) alone)

  calls_fit_after : (analyze : ℕ → List ℕ → List Word) (earlier : List Piece) (cs : List IndexCall) → AllByRecursion (MayBeIndexed entries num_docs) cs → AllFit entries num_docs (tokens_after earlier (pieces_by analyze (map (call_of entries) cs)))
  calls_fit_after analyze earlier [] may = tt
  calls_fit_after analyze earlier (c ∷ cs) may =
      let call = call_of entries c in
      let first = call_pieces (analyze call.field) call in
      let rest = pieces_by analyze (map (call_of entries) cs) in
      subst (λ (ps : List Piece). AllFit entries num_docs (tokens_after earlier ps)) (sym (flat_map-cons (λ (x : Call). call_pieces (analyze x.field) x) call (map (call_of entries) cs)))
      (subst (AllFit entries num_docs) (sym (tokens_after-append earlier first rest))
      (all_both (Fits entries num_docs) (tokens_after earlier first) (tokens_after (earlier ++ first) rest)
      (pieces_fit [] earlier first (call_fits (analyze call.field) c may.0)) (calls_fit_after analyze (earlier ++ first) cs may.1)))

  -- the tokens of calls fit
  pub calls_fit_by : (analyze : ℕ → List ℕ → List Word) (cs : List IndexCall) → MayAllBeIndexed entries num_docs cs → AllFit entries num_docs (tokens_by analyze (map (call_of entries) cs))
  calls_fit_by analyze cs may = calls_fit_after analyze [] cs may.each
