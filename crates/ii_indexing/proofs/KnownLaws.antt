-- Which paths are known after pieces, and what a piece's own path changes of what is stored.
use Rattle.std.proofs.Common.{◌≡◌, ℕ, ◌+◌, List, [], ◌∷◌, ◌++◌, length, cond, Some, None, Option, Result, inl, inr, true, false, refl, sym, ap, ◌∙◌, subst}
use Rattle.std.specs.Prelude.{◌⊎◌}
use Rattle.std.specs.Option.{option_map_or}
use Rattle.std.proofs.lemmas.List.Sums.{fold-append}
use Rattle.ii_io.specs.declared.faults.Fault.{Fault}
use Rattle.ii_io.specs.declared.faults.Fault.TheVariants.{OutOfMemory}
use Rattle.ii_base.specs.Schema.{SchemaEntry}
use Rattle.ii_base.specs.Words.{Word}
use Rattle.ii_base.specs.declared.schema.index_record_option.IndexRecordOption.{IndexRecordOption}
use Rattle.ii_definitions.specs.Tokens.{IndexToken, Piece, at_path, begin_after, end_after, is_same_group, kept_words, piece_tokens, text_at, tokens_after, value_at, word_token}
use Rattle.ii_json.specs.LeafVisit.{IsRefusedBy, first_fault}
use Rattle.ii_base.specs.Paths.{has_zero}
use Rattle.ii_json.specs.Paths.{AreDistinct, path_fault, with_path}
use Rattle.ii_postings_writer.specs.Records.{Records}
use Rattle.ii_postings_writer.specs.ResolvedTerms.{json_fields}
use Rattle.ii_indexing.proofs.HeldLaws.{paths_more, still_known, tokens_kept}
use Rattle.ii_postings_writer.specs.WordRefusals.{gap_fault, word_fault, words_fault}
use Rattle.ii_indexing.specs.Indexer.{EndsAt, IndexedFieldsState, StoresAll, StoresPieces}
use Rattle.ii_indexing.specs.IndexedTerms.{IndexedTermsState, StoresTokens, held_kept_at}
use Rattle.ii_indexing.specs.OpenPaths.{text_prefix, texts_at}
use Rattle.ii_indexing.specs.Refusals.{group_count, known_paths, piece_fault, piece_fault_from, with_piece}
use Rattle.ii_indexing.proofs.PathLaws.{paths_known}
use Rattle.ii_indexing.proofs.PieceLaws.{begin_more, group_more, tokens_with}

pub known_more : (ps : List Piece) (p : Piece) → known_paths (ps ++ p ∷ []) ≡ with_piece (known_paths ps) p
known_more ps p = fold-append with_piece [] ps (p ∷ [])

pub no_path_more : (ps : List Piece) (p : Piece) → p.path ≡ None → known_paths (ps ++ p ∷ []) ≡ known_paths ps
no_path_more ps p none = known_more ps p ∙ ap (λ (o : Option (List ℕ)). option_map_or (with_path (known_paths ps)) o (known_paths ps)) none

-- Two pieces differ by their paths alone.
pub record AreAlike (p q : Piece) : Type 0 where
  pub group : (r : Piece) → is_same_group r q ≡ is_same_group r p
  pub words : q.words ≡ p.words
  pub tokens : (earlier : List Piece) → piece_tokens earlier q ≡ piece_tokens earlier p

module _ (ps : List Piece) (p q : Piece) (h : AreAlike p q) where
  begins_alike : (r : Piece) → begin_after (ps ++ q ∷ []) r ≡ begin_after (ps ++ p ∷ []) r
  begins_alike r =
      begin_more ps q r (is_same_group r p) (h.group r)
      ∙ ap (λ (ws : List Word). cond (is_same_group r p) (end_after (begin_after ps r) ws) (begin_after ps r)) h.words
      ∙ sym (begin_more ps p r (is_same_group r p) refl)

  counts_alike : (r : Piece) → group_count (ps ++ q ∷ []) r ≡ group_count (ps ++ p ∷ []) r
  counts_alike r =
      group_more ps q r (is_same_group r p) (h.group r)
      ∙ ap (λ (ws : List Word). cond (is_same_group r p) (group_count ps r + length (kept_words ws)) (group_count ps r)) h.words
      ∙ sym (group_more ps p r (is_same_group r p) refl)

  tokens_alike : tokens_after [] (ps ++ q ∷ []) ≡ tokens_after [] (ps ++ p ∷ [])
  tokens_alike = tokens_with ps q ∙ ap (λ (ts : List IndexToken). tokens_after [] ps ++ ts) (h.tokens ps) ∙ sym (tokens_with ps p)

  texts_alike : (doc field : ℕ) (path : List ℕ) → texts_at doc field path (ps ++ q ∷ []) ≡ texts_at doc field path (ps ++ p ∷ [])
  texts_alike doc field path =
      let r = text_at doc field (text_prefix path) [] in
      ap (λ (n : ℕ). record { num_tokens = n; end_position = begin_after (ps ++ q ∷ []) r }) (counts_alike r)
      ∙ ap (λ (n : ℕ). record { num_tokens = group_count (ps ++ p ∷ []) r; end_position = n }) (begins_alike r)

  pub stored_alike : (entries : List SchemaEntry) (s : IndexedFieldsState) → StoresPieces entries s (ps ++ p ∷ []) → StoresPieces entries s (ps ++ q ∷ [])
  stored_alike entries s stored = record {
    tokens = subst (StoresTokens entries s.indexed) (sym tokens_alike) stored.tokens;
    documents = λ field d found.
        let tells = stored.documents field d found in
        record {
          begin = λ doc from. begins_alike (text_at doc field [] []) ∙ tells.begin doc from;
          group = λ doc from. counts_alike (text_at doc field [] []) ∙ tells.group doc from;
          count = λ doc from. rw tokens_alike (tells.count doc from);
          norms = rw tokens_alike tells.norms;
        };
    paths = λ field o found.
        let tells = stored.paths field o found in
        record { told = λ doc path from clean. texts_alike doc field path ∙ tells.told doc path from clean; free = tells.free };
  }

pub text_alike : (path : List ℕ) (doc field : ℕ) (prefix : List ℕ) (ws : List Word) → AreAlike (text_at doc field prefix ws) (at_path path (text_at doc field prefix ws))
text_alike path doc field prefix ws = record { group = λ r. refl; words = refl; tokens = λ earlier. refl }

pub value_alike : (path : List ℕ) (doc field : ℕ) (key : List ℕ) → AreAlike (value_at doc field key) (at_path path (value_at doc field key))
value_alike path doc field key = record { group = λ r. refl; words = refl; tokens = λ earlier. refl }

-- a leaf was stored after pieces, once its path was known
pub leaf_stored : (entries : List SchemaEntry) (old new : IndexedFieldsState) (ps : List Piece) (path : List ℕ) (p : Piece) → AreAlike p (at_path path p) → new.indexed.paths ≡ with_path old.indexed.paths path
    → StoresAll entries old ps → StoresPieces entries new (ps ++ p ∷ []) → StoresAll entries new (ps ++ at_path path p ∷ [])
leaf_stored entries old new ps path p alike paths stored pieces = record {
  pieces = stored_alike ps p (at_path path p) alike entries new pieces;
  known = paths ∙ ap (λ (known : List (List ℕ)). with_path known path) stored.known ∙ sym (known_more ps (at_path path p));
}

-- what is stored isn't changed by a path that becomes known
pub known_stored : (entries : List SchemaEntry) (s : IndexedFieldsState) (indexed : IndexedTermsState) (ps : List Piece) (path : List ℕ) → indexed ≡ record s.indexed { paths = with_path s.indexed.paths path } → has_zero path ≡ false → path_fault s.indexed.paths path ≡ None → AreDistinct indexed.paths
    → StoresPieces entries s ps → StoresPieces entries (record s { indexed = indexed }) ps
known_stored entries s indexed ps path is clean fits distinct h =
    let flags = json_fields entries in
    let ts = tokens_after [] ps in
    let unlike : AreDistinct (with_path s.indexed.paths path) = subst AreDistinct (ap (λ (i : IndexedTermsState). i.paths) is) distinct in
    subst (λ (i : IndexedTermsState). StoresPieces entries (record s { indexed = i }) ps) (sym is)
    (record {
      tokens = record {
        records = subst (Records (held_kept_at entries) s.indexed.terms) (sym (tokens_kept flags s.indexed.paths path ts h.tokens.has_paths)) h.tokens.records;
        counted = h.tokens.counted;
        of_fields = h.tokens.of_fields;
        has_paths = still_known flags s.indexed.paths path ts h.tokens.has_paths;
        known_paths = paths_more s.indexed.paths path h.tokens.known_paths (clean, tt) fits unlike;
      };
      documents = h.documents;
      paths = paths_known s.indexed.paths path ps s.paths h.paths;
    })

words_fault_alike : (option : IndexRecordOption) (path : List ℕ) (p : Piece) (begin n : ℕ) (ts : List IndexToken) (ws : List Word) → words_fault option (at_path path p) begin n ts ws ≡ words_fault option p begin n ts ws
words_fault_alike option path p begin n ts [] = refl
words_fault_alike option path p begin n ts (w ∷ ws) = ap (first_fault (word_fault option p begin n ts w)) (words_fault_alike option path p begin (n + 1) (ts ++ word_token p begin w ∷ []) ws)

text_fault_alike : (option : IndexRecordOption) (ps : List Piece) (ts : List IndexToken) (path : List ℕ) (doc field : ℕ) (prefix : List ℕ) (ws : List Word)
    → piece_fault_from true option ps ts (at_path path (text_at doc field prefix ws)) ≡ piece_fault_from true option ps ts (text_at doc field prefix ws)
text_fault_alike option ps ts path doc field prefix ws =
    let p = text_at doc field prefix ws in
    ap (λ (f : Option Fault). first_fault f (gap_fault (begin_after ps p) ws)) (words_fault_alike option path p (begin_after ps p) (group_count ps p) ts (kept_words ws))

-- why a leaf is refused: its path can't have an id
pub path_refused : (option : IndexRecordOption) (ps : List Piece) (known : List (List ℕ)) (path : List ℕ) (p : Piece) (fault : Fault) → known ≡ known_paths ps → (fault ≡ OutOfMemory) ⊎ (path_fault known path ≡ Some fault)
    → (fault ≡ OutOfMemory) ⊎ (piece_fault option ps (at_path path p) ≡ Some fault)
path_refused option ps known path p fault is h = by (path_fault (known_paths ps) path) (subst (λ (ks : List (List ℕ)). (fault ≡ OutOfMemory) ⊎ (path_fault ks path ≡ Some fault)) is h)
  where
    by : (o : Option Fault) → (fault ≡ OutOfMemory) ⊎ (o ≡ Some fault) → (fault ≡ OutOfMemory) ⊎ (first_fault o (piece_fault_from p.is_text option ps (tokens_after [] ps) (at_path path p)) ≡ Some fault)
    by None (inl memory) = inl memory
    by None (inr is) = absurd (cc)
    by (Some f) why = why

-- a leaf's text or value is refused
pub leaf_refused : {T : Type 0} (option : IndexRecordOption) (ps : List Piece) (known : List (List ℕ)) (path : List ℕ) (p : Piece) (result : Result T Fault) → known ≡ known_paths ps → path_fault known path ≡ None
    → piece_fault_from p.is_text option ps (tokens_after [] ps) (at_path path p) ≡ piece_fault_from p.is_text option ps (tokens_after [] ps) p
    → IsRefusedBy (piece_fault_from p.is_text option ps (tokens_after [] ps) p) result → IsRefusedBy (piece_fault option ps (at_path path p)) result
leaf_refused option ps known path p result is none same h =
    let fits : path_fault (known_paths ps) path ≡ None = ap (λ (ks : List (List ℕ)). path_fault ks path) (sym is) ∙ none in
    subst (λ (o : Option Fault). IsRefusedBy o result) (sym (ap (λ (o : Option Fault). first_fault o (piece_fault_from p.is_text option ps (tokens_after [] ps) (at_path path p))) fits ∙ same)) h

pub text_leaf_cause : {T : Type 0} (option : IndexRecordOption) (ps : List Piece) (known : List (List ℕ)) (path : List ℕ) (doc field : ℕ) (prefix : List ℕ) (ws : List Word) (result : Result T Fault) → known ≡ known_paths ps → path_fault known path ≡ None
    → IsRefusedBy (piece_fault option ps (text_at doc field prefix ws)) result → IsRefusedBy (piece_fault option ps (at_path path (text_at doc field prefix ws))) result
text_leaf_cause option ps known path doc field prefix ws result is none h =
    leaf_refused option ps known path (text_at doc field prefix ws) result is none (text_fault_alike option ps (tokens_after [] ps) path doc field prefix ws) h

pub value_leaf_cause : {T : Type 0} (option : IndexRecordOption) (ps : List Piece) (known : List (List ℕ)) (path : List ℕ) (doc field : ℕ) (key : List ℕ) (result : Result T Fault) → known ≡ known_paths ps → path_fault known path ≡ None
    → IsRefusedBy (piece_fault option ps (value_at doc field key)) result → IsRefusedBy (piece_fault option ps (at_path path (value_at doc field key))) result
value_leaf_cause option ps known path doc field key result is none h = leaf_refused option ps known path (value_at doc field key) result is none refl h

-- nor where it ends
pub ends_known : (s : IndexedFieldsState) (indexed : IndexedTermsState) (doc : ℕ) (paths : List (List ℕ)) → indexed ≡ record s.indexed { paths = paths } → EndsAt doc s → EndsAt doc (record s { indexed = indexed })
ends_known s indexed doc paths is h =
    subst (λ (i : IndexedTermsState). EndsAt doc (record s { indexed = i })) (sym is)
    (record { documents = h.documents; terms = h.terms; reach = h.reach; paths = h.paths; paths_reach = h.paths_reach })
