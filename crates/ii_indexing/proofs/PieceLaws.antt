-- What one more text or value of a field changes.
use Rattle.std.proofs.Common.{◌≡◌, ℕ, ◌+◌, ◌<◌, ◌≤◌, ◌==◌, ◌&&◌, min, Bool, true, false, List, [], ◌∷◌, ◌++◌, map, filter, length, cond, Some, None, Option, Result, refl, sym, ap, ◌∙◌, subst, arith, append-nil, length-append}
use Rattle.std.specs.Prelude.{slice_get, slice_set, bytes_eq, fold, IfSome}
use Rattle.std.specs.List.{flat_map}
use Rattle.std.proofs.lemmas.Bool.{eqb-true, eq-eqb}
use Rattle.std.proofs.lemmas.Grind.{flat_map-append}
use Rattle.std.proofs.lemmas.List.{length-map}
use Rattle.std.proofs.lemmas.List.Elements.{filter-append}
use Rattle.std.proofs.lemmas.List.Sums.{fold-append, sum_by-append, sum_by-cons}
use Rattle.ii_io.specs.declared.faults.Fault.{Fault}
use Rattle.ii_base.specs.Schema.{SchemaEntry}
use Rattle.ii_base.specs.Words.{Word}
use Rattle.ii_base.specs.declared.schema.index_record_option.IndexRecordOption.{IndexRecordOption}
use Rattle.ii_fieldnorm.specs.Buffers.{buffer_of}
use Rattle.ii_fieldnorm.specs.Norms.{id_of_norm}
use Rattle.ii_definitions.specs.Tokens.{IndexToken, Piece, begin_after, end_after, is_same_group, kept_words, piece_tokens, piece_tokens_from, tokens_after, value_token, word_token, text_at, value_at}
use Rattle.ii_definitions.specs.Postings.{doc_count}
use Rattle.ii_recorder.specs.Recorded.{u32_max}
use Rattle.ii_indexing.specs.IndexedTerms.{IndexedTermsState, StoresTokens}
use Rattle.ii_indexing.specs.Indexer.{StoresPieces}
use Rattle.ii_indexing.specs.OpenDocuments.{HasNorms, OpenDocumentsState, ReachTo, Tells, TellsAll, document_at, empty_document}
use Rattle.ii_indexing.specs.OpenPaths.{OpenPathsState, TellAllPaths}
use Rattle.ii_postings_writer.specs.PostingsWriter.{text_fault}
use Rattle.ii_indexing.specs.Refusals.{group_count, piece_fault}
use Rattle.ii_json.specs.LeafVisit.{IsRefusedBy}
use Rattle.ii_postings_writer.specs.declared.indexing_position.IndexingPosition.{IndexingPosition}
use Rattle.ii_indexing.specs.declared.open_documents.OpenDocument.{OpenDocument}
use Rattle.ii_indexing.proofs.DocumentLaws.{at_other, at_same, set_value}
use Rattle.ii_definitions.proofs.PieceLaws.{tokens_after-append}
use Rattle.ii_indexing.proofs.StoreLaws.{set_other}
use Rattle.std.proofs.Math.Bool.{and-false}

-- Tokens of one document and field alone.
pub record OnlyAt (doc field : ℕ) (us : List IndexToken) : Type 0 where
  pub here : doc_count doc field us ≡ length us
  pub other_doc : (x : ℕ) → (doc == x) ≡ false → doc_count x field us ≡ 0
  pub other_field : (x f : ℕ) → (field == f) ≡ false → doc_count x f us ≡ 0

none_at : (doc field : ℕ) → OnlyAt doc field []
none_at doc field = record { here = refl; other_doc = λ x other. refl; other_field = λ x f other. refl }

more_at : (doc field : ℕ) (t : IndexToken) (us : List IndexToken) → t.doc ≡ doc → t.field ≡ field → OnlyAt doc field us → OnlyAt doc field (t ∷ us)
more_at doc field t us d f h = record {
  here = sum_by-cons (λ (u : IndexToken). cond ((u.doc == doc) && (u.field == field)) 1 0) t us ∙ rw (eq-eqb t.doc doc d, eq-eqb t.field field f) (omega (arith, h.here));
  other_doc = λ x other. sum_by-cons (λ (u : IndexToken). cond ((u.doc == x) && (u.field == field)) 1 0) t us ∙ rw (d, other) (ap (λ (n : ℕ). 0 + n) (h.other_doc x other));
  other_field = λ x g other. sum_by-cons (λ (u : IndexToken). cond ((u.doc == x) && (u.field == g)) 1 0) t us ∙ rw (f, other, and-false (t.doc == x)) (ap (λ (n : ℕ). 0 + n) (h.other_field x g other));
}

words_at : (p : Piece) (begin : ℕ) (ws : List Word) → OnlyAt p.doc p.field (map (word_token p begin) ws)
words_at p begin [] = none_at p.doc p.field
words_at p begin (w ∷ ws) = more_at p.doc p.field (word_token p begin w) (map (word_token p begin) ws) refl refl (words_at p begin ws)

doc_count-append : (x f : ℕ) (ts us : List IndexToken) → doc_count x f (ts ++ us) ≡ doc_count x f ts + doc_count x f us
doc_count-append x f ts us = sum_by-append (λ (u : IndexToken). cond ((u.doc == x) && (u.field == f)) 1 0) ts us

unchanged : (x f : ℕ) (ts us : List IndexToken) → doc_count x f us ≡ 0 → doc_count x f (ts ++ us) ≡ doc_count x f ts
unchanged x f ts us none = omega (arith, doc_count-append x f ts us, none)

-- a piece of the group, or another
pub begin_more : (ps : List Piece) (p q : Piece) (b : Bool) → is_same_group q p ≡ b → begin_after (ps ++ p ∷ []) q ≡ cond b (end_after (begin_after ps q) p.words) (begin_after ps q)
begin_more ps p q b is =
    ap (fold (λ (end : ℕ) (r : Piece). end_after end r.words) 0) (filter-append (is_same_group q) ps (p ∷ []) ∙ ap (λ (c : Bool). filter (is_same_group q) ps ++ cond c (p ∷ []) []) is)
    ∙ fold-append (λ (end : ℕ) (r : Piece). end_after end r.words) 0 (filter (is_same_group q) ps) (cond b (p ∷ []) [])
    ∙ last b
  where
    last : (c : Bool) → fold (λ (end : ℕ) (r : Piece). end_after end r.words) (begin_after ps q) (cond c (p ∷ []) []) ≡ cond c (end_after (begin_after ps q) p.words) (begin_after ps q)
    last true = refl
    last false = refl

pub group_more : (ps : List Piece) (p q : Piece) (b : Bool) → is_same_group q p ≡ b → group_count (ps ++ p ∷ []) q ≡ cond b (group_count ps q + length (kept_words p.words)) (group_count ps q)
group_more ps p q b is =
    let words = λ (r : Piece). kept_words r.words in
    ap (λ (rs : List Piece). length (flat_map (λ (r : Piece). kept_words r.words) rs)) (filter-append (is_same_group q) ps (p ∷ []) ∙ ap (λ (c : Bool). filter (is_same_group q) ps ++ cond c (p ∷ []) []) is)
    ∙ last b
  where
    last : (c : Bool) → length (flat_map (λ (r : Piece). kept_words r.words) (filter (is_same_group q) ps ++ cond c (p ∷ []) [])) ≡ cond c (group_count ps q + length (kept_words p.words)) (group_count ps q)
    last true =
        let parts = flat_map-append (λ (r : Piece). kept_words r.words) (filter (is_same_group q) ps) (p ∷ []) in
        let one : flat_map (λ (r : Piece). kept_words r.words) (p ∷ []) ≡ kept_words p.words = append-nil (kept_words p.words) in
        omega (arith, ap length parts, length-append (flat_map (λ (r : Piece). kept_words r.words) (filter (is_same_group q) ps)) (flat_map (λ (r : Piece). kept_words r.words) (p ∷ [])), ap length one)
    last false = ap (λ (rs : List Piece). length (flat_map (λ (r : Piece). kept_words r.words) rs)) (append-nil (filter (is_same_group q) ps))

not_third : (a b c : Bool) → (((a && b) && false) && c) ≡ false
not_third true true c = refl
not_third true false c = refl
not_third false b c = refl

-- another field knows of the piece nothing
pub tells_other : (field f : ℕ) (ps : List Piece) (ts us : List IndexToken) (p : Piece) (d : OpenDocument) (ids : Option (List ℕ)) → (p.field == f) ≡ false → OnlyAt p.doc p.field us → Tells f ps ts d ids
    → Tells f (ps ++ p ∷ []) (ts ++ us) d ids
tells_other field f ps ts us p d ids other only h = record {
  begin = λ x from. begin_more ps p (text_at x f [] []) false (apart x) ∙ h.begin x from;
  group = λ x from. group_more ps p (text_at x f [] []) false (apart x) ∙ h.group x from;
  count = λ x from. ap (λ (n : ℕ). min n u32_max) (unchanged x f ts us (only.other_field x f other)) ∙ h.count x from;
  norms = by ids h.norms;
}
  where
    apart : (x : ℕ) → is_same_group (text_at x f [] []) p ≡ false
    apart x = rw other (not_third p.is_text (p.doc == x) (bytes_eq p.prefix []))

    by : (o : Option (List ℕ)) → IfSome o (HasNorms f ts d.doc) → IfSome o (HasNorms f (ts ++ us) d.doc)
    by None n = n
    by (Some i) n = λ x low. n x low ∙ ap id_of_norm (sym (unchanged x f ts us (only.other_field x f other)))

not_doc : (a b c : Bool) → (((a && false) && b) && c) ≡ false
not_doc true b c = refl
not_doc false b c = refl

-- the field of the piece has its tokens more
pub tells_more : (doc field : ℕ) (ps : List Piece) (ts us : List IndexToken) (p : Piece) (d new : OpenDocument) (ids : Option (List ℕ)) → p.doc ≡ doc → d.doc ≡ doc → new.doc ≡ doc → OnlyAt doc field us
    → begin_after (ps ++ p ∷ []) (text_at doc field [] []) ≡ new.end_position → group_count (ps ++ p ∷ []) (text_at doc field [] []) ≡ new.num_tokens → new.norm ≡ min (d.norm + length us) u32_max
    → Tells field ps ts d ids → Tells field (ps ++ p ∷ []) (ts ++ us) new ids
tells_more doc field ps ts us p d new ids pd dd nd only ends counts norm h = record {
  begin = λ x from. begins x (omega (arith, from, nd, dd)) (doc == x) refl;
  group = λ x from. groups x (omega (arith, from, nd, dd)) (doc == x) refl;
  count = λ x from. sums x (omega (arith, from, nd, dd)) (doc == x) refl;
  norms = by ids h.norms;
}
  where
    apart : (x : ℕ) → (doc == x) ≡ false → is_same_group (text_at x field [] []) p ≡ false
    apart x other = rw (pd, other) (not_doc p.is_text (p.field == field) (bytes_eq p.prefix []))

    old_at : (x : ℕ) → (doc == x) ≡ false → document_at x d ≡ empty_document x
    old_at x other = at_other d x (ap (λ (n : ℕ). n == x) dd ∙ other)

    new_at : (x : ℕ) → (doc == x) ≡ false → document_at x new ≡ empty_document x
    new_at x other = at_other new x (ap (λ (n : ℕ). n == x) nd ∙ other)

    begins : (x : ℕ) → d.doc ≤ x → (b : Bool) → (doc == x) ≡ b → begin_after (ps ++ p ∷ []) (text_at x field [] []) ≡ (document_at x new).end_position
    begins x from true same =
        let is = eqb-true doc x same in
        subst (λ (y : ℕ). begin_after (ps ++ p ∷ []) (text_at y field [] []) ≡ (document_at y new).end_position) is (ends ∙ ap (λ (e : OpenDocument). e.end_position) (sym (at_same new doc nd)))
    begins x from false other =
        begin_more ps p (text_at x field [] []) false (apart x other) ∙ h.begin x from ∙ ap (λ (e : OpenDocument). e.end_position) (old_at x other ∙ sym (new_at x other))

    groups : (x : ℕ) → d.doc ≤ x → (b : Bool) → (doc == x) ≡ b → group_count (ps ++ p ∷ []) (text_at x field [] []) ≡ (document_at x new).num_tokens
    groups x from true same =
        let is = eqb-true doc x same in
        subst (λ (y : ℕ). group_count (ps ++ p ∷ []) (text_at y field [] []) ≡ (document_at y new).num_tokens) is (counts ∙ ap (λ (e : OpenDocument). e.num_tokens) (sym (at_same new doc nd)))
    groups x from false other =
        group_more ps p (text_at x field [] []) false (apart x other) ∙ h.group x from ∙ ap (λ (e : OpenDocument). e.num_tokens) (old_at x other ∙ sym (new_at x other))

    here : min (doc_count doc field (ts ++ us)) u32_max ≡ new.norm
    here =
        let old : min (doc_count doc field ts) u32_max ≡ d.norm = h.count doc (omega (arith, dd)) ∙ ap (λ (e : OpenDocument). e.norm) (at_same d doc dd) in
        omega (arith, old, norm, doc_count-append doc field ts us, only.here)

    sums : (x : ℕ) → d.doc ≤ x → (b : Bool) → (doc == x) ≡ b → min (doc_count x field (ts ++ us)) u32_max ≡ (document_at x new).norm
    sums x from true same =
        let is = eqb-true doc x same in
        subst (λ (y : ℕ). min (doc_count y field (ts ++ us)) u32_max ≡ (document_at y new).norm) is (here ∙ ap (λ (e : OpenDocument). e.norm) (sym (at_same new doc nd)))
    sums x from false other =
        ap (λ (n : ℕ). min n u32_max) (unchanged x field ts us (only.other_doc x other)) ∙ h.count x from ∙ ap (λ (e : OpenDocument). e.norm) (old_at x other ∙ sym (new_at x other))

    by : (o : Option (List ℕ)) → IfSome o (HasNorms field ts d.doc) → IfSome o (HasNorms field (ts ++ us) new.doc)
    by None n = n
    by (Some i) n = λ x low.
        let below : x < d.doc = omega (arith, low, nd, dd) in
        let other : (doc == x) ≡ false = grind (arith, below, dd) in
        n x below ∙ ap id_of_norm (sym (unchanged x field ts us (only.other_doc x other)))

-- the tokens of one more piece
pub tokens_with : (ps : List Piece) (p : Piece) → tokens_after [] (ps ++ p ∷ []) ≡ tokens_after [] ps ++ piece_tokens ps p
tokens_with ps p = tokens_after-append [] ps (p ∷ []) ∙ ap (λ (us : List IndexToken). tokens_after [] ps ++ us) (append-nil (piece_tokens ps p))

all_tell : (ps : List Piece) (ts us : List IndexToken) (p : Piece) (s : OpenDocumentsState) (field : ℕ) (new : OpenDocument) → p.field ≡ field → OnlyAt p.doc p.field us → TellsAll ps ts s
    → Tells field (ps ++ p ∷ []) (ts ++ us) new (buffer_of field s.norms) → TellsAll (ps ++ p ∷ []) (ts ++ us) (record s { documents = slice_set s.documents field new })
all_tell ps ts us p s field new at only h here f d is = by (field == f) refl
  where
    by : (b : Bool) → (field == f) ≡ b → Tells f (ps ++ p ∷ []) (ts ++ us) d (buffer_of f s.norms)
    by true same =
        let eq = eqb-true field f same in
        let value : d ≡ new = set_value s.documents field new d (subst (λ (g : ℕ). slice_get (slice_set s.documents field new) g ≡ Some d) (sym eq) is) in
        subst (λ (g : ℕ). Tells g (ps ++ p ∷ []) (ts ++ us) d (buffer_of g s.norms)) eq (subst (λ (e : OpenDocument). Tells field (ps ++ p ∷ []) (ts ++ us) e (buffer_of field s.norms)) (sym value) here)
    by false other =
        let found : slice_get s.documents f ≡ Some d = sym (set_other s.documents field f new other) ∙ is in
        tells_other field f ps ts us p d (buffer_of f s.norms) (ap (λ (n : ℕ). n == f) at ∙ other) only (h f d found)

-- A piece of a field was indexed.
pub record IndexesPiece (entries : List SchemaEntry) (ps : List Piece) (p : Piece) (us : List IndexToken) (indexed : IndexedTermsState) (s : OpenDocumentsState) (d new : OpenDocument) : Type 0 where
  pub told : TellsAll ps (tokens_after [] ps) s
  pub found : slice_get s.documents p.field ≡ Some d
  pub old_doc : d.doc ≡ p.doc
  pub new_doc : new.doc ≡ p.doc
  pub norm : new.norm ≡ min (d.norm + length us) u32_max
  pub tokens : StoresTokens entries indexed (tokens_after [] ps ++ us)
  pub tokens_are : piece_tokens ps p ≡ us
  pub only : OnlyAt p.doc p.field us
  pub end_position : begin_after (ps ++ p ∷ []) (text_at p.doc p.field [] []) ≡ new.end_position
  pub num_tokens : group_count (ps ++ p ∷ []) (text_at p.doc p.field [] []) ≡ new.num_tokens

-- where the texts of a field end in its open document, and how many tokens they have
pub begin_known : (ps : List Piece) (ts : List IndexToken) (s : OpenDocumentsState) (doc field : ℕ) (words : List Word) (d : OpenDocument) → TellsAll ps ts s → slice_get s.documents field ≡ Some d → d.doc ≡ doc
    → (begin_after ps (text_at doc field [] words) ≡ d.end_position) × (group_count ps (text_at doc field [] words) ≡ d.num_tokens)
begin_known ps ts s doc field words d told found at =
    let h = told field d found in
    (h.begin doc (omega (arith, at)) ∙ ap (λ (e : OpenDocument). e.end_position) (at_same d doc at), h.group doc (omega (arith, at)) ∙ ap (λ (e : OpenDocument). e.num_tokens) (at_same d doc at))

same_text : (doc field : ℕ) (words : List Word) → is_same_group (text_at doc field [] []) (text_at doc field [] words) ≡ true
same_text doc field words = rw (eq-eqb doc doc refl, eq-eqb field field refl) refl

other_text : (doc field : ℕ) (prefix : List ℕ) (words : List Word) → bytes_eq prefix [] ≡ false → is_same_group (text_at doc field [] []) (text_at doc field prefix words) ≡ false
other_text doc field prefix words some = rw some (and-false ((doc == doc) && (field == field)))

-- One more text or value of a field was indexed.
module _ (entries : List SchemaEntry) (ps : List Piece) (indexed : IndexedTermsState) (s : OpenDocumentsState) (d new : OpenDocument) (paths : List OpenPathsState) where
  piece_stored : (p : Piece) (us : List IndexToken) → IndexesPiece entries ps p us indexed s d new
      → TellAllPaths indexed.paths (ps ++ p ∷ []) paths → StoresPieces entries (record { indexed = indexed; opened = record s { documents = slice_set s.documents p.field new }; paths = paths }) (ps ++ p ∷ [])
  piece_stored p us h by_path =
      let ts = tokens_after [] ps in
      let all : tokens_after [] (ps ++ p ∷ []) ≡ ts ++ us = tokens_with ps p ∙ ap (λ (vs : List IndexToken). ts ++ vs) h.tokens_are in
      let here = tells_more p.doc p.field ps ts us p d new (buffer_of p.field s.norms) refl h.old_doc h.new_doc h.only h.end_position h.num_tokens h.norm (h.told p.field d h.found) in
      record {
        tokens = subst (StoresTokens entries indexed) (sym all) h.tokens;
        documents = subst (λ (vs : List IndexToken). TellsAll (ps ++ p ∷ []) vs (record s { documents = slice_set s.documents p.field new })) (sym all) (all_tell ps ts us p s p.field new refl h.only h.told here);
        paths = by_path;
      }

  pub words_stored : (doc field : ℕ) (words : List Word)
      → TellAllPaths indexed.paths (ps ++ text_at doc field [] words ∷ []) paths → TellsAll ps (tokens_after [] ps) s → slice_get s.documents field ≡ Some d → d.doc ≡ doc → new.doc ≡ doc → new.num_tokens ≡ d.num_tokens + length (kept_words words) → new.end_position ≡ end_after d.end_position words
      → new.norm ≡ min (d.norm + length (kept_words words)) u32_max → StoresTokens entries indexed (tokens_after [] ps ++ piece_tokens_from true d.end_position (text_at doc field [] words))
      → StoresPieces entries (record { indexed = indexed; opened = record s { documents = slice_set s.documents field new }; paths = paths }) (ps ++ text_at doc field [] words ∷ [])
  words_stored doc field words by_path told found at now num end norm tokens =
      let p = text_at doc field [] words in
      let us = piece_tokens_from true d.end_position p in
      let known = begin_known ps (tokens_after [] ps) s doc field words d told found at in
      piece_stored p us (record {
        told = told;
        found = found;
        old_doc = at;
        new_doc = now;
        norm = norm ∙ ap (λ (n : ℕ). min (d.norm + n) u32_max) (sym (length-map (kept_words words) (word_token p d.end_position)));
        tokens = tokens;
        tokens_are = ap (λ (b : ℕ). piece_tokens_from true b p) known.0;
        only = words_at p d.end_position (kept_words words);
        end_position = begin_more ps p (text_at doc field [] []) true (same_text doc field words) ∙ ap (λ (b : ℕ). end_after b words) known.0 ∙ sym end;
        num_tokens = group_more ps p (text_at doc field [] []) true (same_text doc field words) ∙ ap (λ (n : ℕ). n + length (kept_words words)) known.1 ∙ sym num;
      }) by_path

  pub value_added : (doc field : ℕ) (key : List ℕ)
      → TellAllPaths indexed.paths (ps ++ value_at doc field key ∷ []) paths → TellsAll ps (tokens_after [] ps) s → slice_get s.documents field ≡ Some d → d.doc ≡ doc → new.doc ≡ doc → new.num_tokens ≡ d.num_tokens → new.end_position ≡ d.end_position
      → new.norm ≡ min (d.norm + 1) u32_max → StoresTokens entries indexed (tokens_after [] ps ++ value_token (value_at doc field key) ∷ [])
      → StoresPieces entries (record { indexed = indexed; opened = record s { documents = slice_set s.documents field new }; paths = paths }) (ps ++ value_at doc field key ∷ [])
  value_added doc field key by_path told found at now num end norm tokens =
      let p = value_at doc field key in
      let known = begin_known ps (tokens_after [] ps) s doc field [] d told found at in
      piece_stored p (value_token p ∷ []) (record {
        told = told;
        found = found;
        old_doc = at;
        new_doc = now;
        norm = norm;
        tokens = tokens;
        tokens_are = refl;
        only = more_at doc field (value_token p) [] refl refl (none_at doc field);
        end_position = begin_more ps p (text_at doc field [] []) false refl ∙ known.0 ∙ sym end;
        num_tokens = group_more ps p (text_at doc field [] []) false refl ∙ known.1 ∙ sym num;
      }) by_path

  -- a text under a prefix changes nothing of where the texts of the field without one end
  pub words_under_stored : (doc field : ℕ) (prefix : List ℕ) (words : List Word)
      → TellAllPaths indexed.paths (ps ++ text_at doc field prefix words ∷ []) paths → bytes_eq prefix [] ≡ false → TellsAll ps (tokens_after [] ps) s → slice_get s.documents field ≡ Some d → d.doc ≡ doc → new.doc ≡ doc
      → new.num_tokens ≡ d.num_tokens → new.end_position ≡ d.end_position → new.norm ≡ min (d.norm + length (kept_words words)) u32_max
      → StoresTokens entries indexed (tokens_after [] ps ++ piece_tokens ps (text_at doc field prefix words))
      → StoresPieces entries (record { indexed = indexed; opened = record s { documents = slice_set s.documents field new }; paths = paths }) (ps ++ text_at doc field prefix words ∷ [])
  words_under_stored doc field prefix words by_path some told found at now num end norm tokens =
      let p = text_at doc field prefix words in
      let begin = begin_after ps p in
      let known = begin_known ps (tokens_after [] ps) s doc field [] d told found at in
      piece_stored p (piece_tokens ps p) (record {
        told = told;
        found = found;
        old_doc = at;
        new_doc = now;
        norm = norm ∙ ap (λ (n : ℕ). min (d.norm + n) u32_max) (sym (length-map (kept_words words) (word_token p begin)));
        tokens = tokens;
        tokens_are = refl;
        only = words_at p begin (kept_words words);
        end_position = begin_more ps p (text_at doc field [] []) false (other_text doc field prefix words some) ∙ known.0 ∙ sym end;
        num_tokens = group_more ps p (text_at doc field [] []) false (other_text doc field prefix words some) ∙ known.1 ∙ sym num;
      }) by_path

-- why a text is refused, by what is known of its field
pub text_refused : {T : Type 0} (option : IndexRecordOption) (ps : List Piece) (s : OpenDocumentsState) (doc field : ℕ) (words : List Word) (d : OpenDocument) (at : IndexingPosition) (result : Result T Fault)
    → TellsAll ps (tokens_after [] ps) s → slice_get s.documents field ≡ Some d → d.doc ≡ doc → at ≡ record { num_tokens = d.num_tokens; end_position = d.end_position }
    → IsRefusedBy (text_fault option (text_at doc field [] words) at (tokens_after [] ps)) result → IsRefusedBy (piece_fault option ps (text_at doc field [] words)) result
text_refused {T} option ps s doc field words d at result told found same is refused =
    let p = text_at doc field [] words in
    let ts = tokens_after [] ps in
    let known = begin_known ps ts s doc field words d told found same in
    let begin : at ≡ record { num_tokens = group_count ps p; end_position = begin_after ps p } = is ∙ ap (λ (n : ℕ). record { num_tokens = n; end_position = d.end_position }) (sym known.1) ∙ ap (λ (n : ℕ). record { num_tokens = group_count ps p; end_position = n }) (sym known.0) in
    subst (λ (a : IndexingPosition). IsRefusedBy (text_fault option p a ts) result) begin refused

-- nothing lies above the document of the piece
pub reach_put : (s : OpenDocumentsState) (field doc : ℕ) (new : OpenDocument) → new.doc ≡ doc → ReachTo doc s → ReachTo doc (record s { documents = slice_set s.documents field new })
reach_put s field doc new at h f d is = by (field == f) refl
  where
    by : (b : Bool) → (field == f) ≡ b → d.doc ≤ doc
    by true same =
        let eq = eqb-true field f same in
        let value : d ≡ new = set_value s.documents field new d (subst (λ (g : ℕ). slice_get (slice_set s.documents field new) g ≡ Some d) (sym eq) is) in
        omega (arith, at, ap (λ (e : OpenDocument). e.doc) value)
    by false other = h f d (sym (set_other s.documents field f new other) ∙ is)
