-- The documents of keys in an index of two documents, and what is left of it.
use Rattle.std.proofs.Common.{◌≡◌, ◌∙◌, ◌<◌, ◌&&◌, ℕ, Bool, true, List, [], ◌∷◌, Some, Result, Ok, Err, ap, filter, length, map, refl, subst, sym}
use Rattle.std.specs.Prelude.{replicate}
use Rattle.std.specs.List.{AllZip, range_with_len}
use Rattle.ii_io.specs.declared.faults.Part.{Part}
use Rattle.ii_base.specs.Schema.{SchemaEntry}
use Rattle.ii_base.specs.Terms.{TermState}
use Rattle.ii_base.specs.Words.{Word}
use Rattle.ii_definitions.specs.Fields.{option_of}
use Rattle.ii_definitions.specs.Files.{HoldTokens}
use Rattle.ii_definitions.specs.Norms.{HoldNorms}
use Rattle.ii_directory.specs.Directory.{Files}
use Rattle.ii_reader.specs.OpenIndex.{IndexHolds}
use Rattle.ii_schema_text.specs.SchemaText.{text_schema}
use Rattle.ii_segment_store.specs.Changes.{changed_index, segment_without, without}
use Rattle.ii_segment_store.specs.Contents.{IndexContents, SegmentContents, as_index, contents_view, files_contents, index_contents, segment_contents}
use Rattle.ii_segment_store.specs.declared.stored_segments.SegmentFiles.{SegmentFiles}
use Rattle.ii_segment_store.specs.declared.stored_segments.StoredSegment.{StoredSegment}
use Rattle.ii_segment_store.specs.declared.stored_segments.StoredSegments.{StoredSegments}
use Rattle.ii_segments.specs.Segments.{is_living}
use Rattle.ii_store.specs.declared.faults.IndexFault.{IndexFault}
use Rattle.nequllpa_searching.specs.Deleting.{docs_with_terms, has_one_of, key_docs_in_each}
use Rattle.nequllpa_opening.specs.OpenedSegments.{OpensAs}
use Rattle.nequllpa_opening.specs.Stored.{HoldsTokens}
use Rattle.nequllpa_opening.specs.declared.opened.Opened.{Opened}
use Rattle.nequllpa_searching.proofs.DeletingLaws.{key_docs_held}
use Rattle.nequllpa_indexing.specs.Documents.{DocumentsState}
use Rattle.nequllpa_indexing.specs.FieldTokens.{tokens_by}
use Rattle.nequllpa_indexing.specs.KeyedLines.{AddsLines}
use Rattle.ii_folder_promises.specs.Replacing.{HoldsReplaced, HoldsTwo, byte_term, two_tokens}

-- ---- the documents that have one of two keys
abbrev pub keys : List TermState
keys = byte_term 99 ∷ byte_term 98 ∷ []

module _ (entries : List SchemaEntry) (schema : List ℕ) (c : SegmentContents) (parsed : text_schema schema ≡ Ok entries) (some : 0 < length entries) (holds : HoldsTokens entries (as_index schema c) two_tokens) (both : c.alive ≡ true ∷ true ∷ []) where
  -- the second document of the only segment
  in_segment : (s : StoredSegment) (o : Opened) (docs : List ℕ) → segment_contents s ≡ c → OpensAs schema s o → docs_with_terms o.index o.alive keys ≡ Ok docs → docs ≡ 1 ∷ []
  in_segment s o docs is opens found =
      let tokens : HoldsTokens entries (as_index schema (segment_contents s)) two_tokens = subst (λ (x : SegmentContents). HoldsTokens entries (as_index schema x) two_tokens) (sym is) holds in
      let index : IndexHolds entries s.files.num_docs o.index two_tokens = opens.holds entries two_tokens parsed tokens in
      let all = key_docs_held entries s.files.num_docs o.index two_tokens o.alive index keys docs (some, (some, tt)) found in
      let alive : o.alive ≡ true ∷ true ∷ [] = opens.alive ∙ ap (λ (x : SegmentContents). x.alive) is ∙ both in
      all ∙ ap (λ (flags : List Bool). filter (λ (doc : ℕ). is_living flags doc && has_one_of keys two_tokens doc) (range_with_len 0 (length flags))) alive

  found_in : (s : StoredSegment) (o : Opened) (deleted : List (List ℕ)) (r : Result (List ℕ) Part) → segment_contents s ≡ c → OpensAs schema s o → docs_with_terms o.index o.alive keys ≡ r → key_docs_in_each (o ∷ []) keys ≡ Ok deleted → deleted ≡ (1 ∷ []) ∷ []
  found_in s o deleted (Ok docs) is opens given found =
      let one : ◌≡◌ {A = Result (List (List ℕ)) Part} (Ok (docs ∷ [])) (Ok deleted) = rw given at found in
      let same : docs ∷ [] ≡ deleted = cc in
      sym same ∙ ap (λ (ds : List ℕ). ds ∷ []) (in_segment s o docs is opens given)
  found_in s o deleted (Err part) is opens given found = absurd (let none : ◌≡◌ {A = Result (List (List ℕ)) Part} (Err part) (Ok deleted) = rw given at found in cc)

  found_in_two : (segments : List StoredSegment) (os : List Opened) (deleted : List (List ℕ)) → map segment_contents segments ≡ c ∷ [] → AllZip (OpensAs schema) segments os → key_docs_in_each os keys ≡ Ok deleted → deleted ≡ (1 ∷ []) ∷ []
  found_in_two [] os deleted is opens found = absurd cc
  found_in_two (s ∷ []) [] deleted is opens found = absurd opens
  found_in_two (s ∷ []) (o ∷ []) deleted is opens found = found_in s o deleted (docs_with_terms o.index o.alive keys) (head_is is) opens.0 refl found
    where
      head_is : segment_contents s ∷ [] ≡ c ∷ [] → segment_contents s ≡ c
      head_is e = cc
  found_in_two (s ∷ []) (o ∷ p ∷ os) deleted is opens found = absurd opens.1
  found_in_two (s ∷ t ∷ ss) os deleted is opens found = absurd cc

-- of what was loaded
pub found_of : (entries : List SchemaEntry) (schema : List ℕ) (files : Files) (two : HoldsTwo entries schema files) (some : 0 < length entries) (stored : StoredSegments) (os : List Opened) (terms : List TermState) (deleted : List (List ℕ)) → index_contents files ≡ Ok (contents_view stored)
    → AllZip (OpensAs stored.schema.items) stored.segments.items os → terms ≡ keys → key_docs_in_each os terms ≡ Ok deleted → deleted ≡ (1 ∷ []) ∷ []
found_of entries schema files two some stored os terms deleted read opens are found =
    let same : contents_view stored ≡ record { schema = schema; segments = two.segment ∷ [] } = ok_same (contents_view stored) (record { schema = schema; segments = two.segment ∷ [] }) (sym read ∙ two.read) in
    let segments : map segment_contents stored.segments.items ≡ two.segment ∷ [] = ap (λ (c : IndexContents). c.segments) same in
    let text : stored.schema.items ≡ schema = ap (λ (c : IndexContents). c.schema) same in
    found_in_two entries schema two.segment two.parsed some two.holds two.alive stored.segments.items os deleted segments
    (subst (λ (t : List ℕ). AllZip (OpensAs t) stored.segments.items os) text opens)
    (ap (key_docs_in_each os) (sym are) ∙ found)
  where
    ok_same : (a b : IndexContents) → ◌≡◌ {A = Result IndexContents IndexFault} (Ok a) (Ok b) → a ≡ b
    ok_same a b is = cc

-- ---- documents that were added have the same schema
pub same_schema : (old new : DocumentsState) (lines : List (List ℕ)) → AddsLines old new lines → new.schema ≡ old.schema
same_schema old new [] adds = ap (λ (s : DocumentsState). s.schema) adds
same_schema old new (line ∷ lines) adds = same_schema adds.0 new lines adds.2 ∙ ap (λ (s : DocumentsState). s.schema) adds.1.4

-- ---- what is left after the commit
pub replaced_in : (schema : List ℕ) (words : ℕ → List ℕ → List Word) (empty documents : DocumentsState) (lines : List (List ℕ)) (old new : Files) (deleted : List (List ℕ)) (f : SegmentFiles) → HoldsTwo empty.schema schema old → deleted ≡ (1 ∷ []) ∷ []
    → index_contents new ≡ changed_index deleted (Some (files_contents f)) (index_contents old) → AddsLines empty documents lines → f.num_docs ≡ documents.num_docs
    → HoldTokens (option_of documents.schema) f.terms.items f.postings.items f.positions.items (tokens_by words documents.calls) → HoldNorms documents.schema documents.num_docs f.fieldnorms.items (tokens_by words documents.calls)
    → HoldsReplaced empty.schema schema words empty lines new
replaced_in schema words empty documents lines old new deleted f two are changed adds many tokens norms =
    let same : documents.schema ≡ empty.schema = same_schema empty documents lines adds in
    let ts = tokens_by words documents.calls in
    record {
      first = segment_without (1 ∷ []) two.segment;
      added = files_contents f;
      read = changed ∙ ap (λ (ds : List (List ℕ)). changed_index ds (Some (files_contents f)) (index_contents old)) are ∙ ap (changed_index ((1 ∷ []) ∷ []) (Some (files_contents f))) two.read;
      holds = record { tokens = two.holds.tokens; norms = two.holds.norms };
      alive = ap (without (1 ∷ [])) two.alive;
      documents = documents;
      of_lines = adds;
      added_holds = record {
        tokens = subst (λ (es : List SchemaEntry). HoldTokens (option_of es) f.terms.items f.postings.items f.positions.items ts) same tokens;
        norms = subst (λ (n : ℕ). HoldNorms empty.schema n f.fieldnorms.items ts) (sym many) (subst (λ (es : List SchemaEntry). HoldNorms es documents.num_docs f.fieldnorms.items ts) same norms);
      };
      added_alive = ap (λ (n : ℕ). replicate n true) many;
    }
