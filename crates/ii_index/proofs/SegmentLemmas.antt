-- The files that are built of documents hold the segment of these.
use Rattle.std.proofs.Common.{◌≡◌, ℕ, Bool, true, List, Option, None, Some, length, subst, sym, ap}
use Rattle.std.specs.Prelude.{IsSomeAnd, Vec, option_map, replicate}
use Rattle.std.proofs.lemmas.List.{length-replicate}
use Rattle.std.specs.declared.alloc.Global.{Global}
use Rattle.ii_base.specs.Schema.{SchemaEntry}
use Rattle.ii_base.specs.Words.{Word}
use Rattle.ii_definitions.specs.Fields.{option_of}
use Rattle.ii_definitions.specs.Files.{HoldTokens}
use Rattle.ii_definitions.specs.Norms.{HoldNorms}
use Rattle.ii_definitions.specs.Tokens.{Call}
use Rattle.ii_segment_store.specs.Contents.{files_contents}
use Rattle.ii_segment_store.specs.declared.stored_segments.SegmentFiles.{SegmentFiles}
use Rattle.ii_segments.specs.HoldCounts.{HoldCounts}
use Rattle.ii_segments.specs.Segments.{AreSegmentTokens, Segment}
use Rattle.ii_index.specs.Segments.{HaveLines, segment_of}
use Rattle.ii_index.proofs.TokenLaws.{are_segment_tokens}
use Rattle.nequllpa_indexing.specs.Documents.{DocumentsState, WereCalls}
use Rattle.nequllpa_indexing.specs.FieldTokens.{tokens_by}
use Rattle.nequllpa_indexing.specs.StoredLines.{StoresLines}
use Rattle.nequllpa_merging.specs.HeldSegments.{HasCountsOf, HoldsSegment}
use Rattle.nequllpa_merging.specs.StoredDocuments.{HoldsSomeDocuments}

-- What the files that are built of documents hold.
pub record AreFilesOf (words : ℕ → List ℕ → List Word) (d : DocumentsState) (f : SegmentFiles) : Type 0 where
  pub num_docs : f.num_docs ≡ d.num_docs
  pub tokens : HoldTokens (option_of d.schema) f.terms.items f.postings.items f.positions.items (tokens_by words d.calls)
  pub norms : HoldNorms d.schema d.num_docs f.fieldnorms.items (tokens_by words d.calls)
  pub counts : IsSomeAnd f.counts (λ v. HoldCounts d.schema d.num_docs v.items (tokens_by words d.calls))
  pub lines : StoresLines d.lines (option_map (λ v. v.items) f.store)

abbrev flags : ℕ → List Bool
flags n = replicate n true

many_flags : (n : ℕ) → n ≡ length (flags n)
many_flags n = sym (length-replicate n true)

some_counts : (entries : List SchemaEntry) (s : Segment) (counts : Option (Vec ℕ Global)) → IsSomeAnd counts (λ v. HoldCounts entries (length s.alive) v.items s.tokens) → HasCountsOf entries (option_map (λ v. v.items) counts) s
some_counts entries s None holds = absurd holds
some_counts entries s (Some v) holds = holds

some_lines : (n : ℕ) (lines : Option (List (List ℕ))) (file : Option (List ℕ)) → HaveLines n lines → StoresLines lines file → HoldsSomeDocuments file n
some_lines n None None have stores = tt
some_lines n None (Some bytes) have stores = absurd (cc)
some_lines n (Some lines) None have stores = absurd stores
some_lines n (Some lines) (Some bytes) have stores = (lines, stores.holds, have)

-- so they hold the segment of these documents
pub files_hold : (words : ℕ → List ℕ → List Word) (d : DocumentsState) (f : SegmentFiles) → WereCalls d.schema d.num_docs d.calls → HaveLines d.num_docs d.lines → AreFilesOf words d f → HoldsSegment d.schema (files_contents f) (segment_of words d)
files_hold words d f were have are =
    let s = segment_of words d in
    let many = many_flags d.num_docs in
    let own = are_segment_tokens d.schema d.num_docs words (flags d.num_docs) were.made (sym many) were.may in
    record {
      lists = are.tokens;
      norms = subst (λ (n : ℕ). HoldNorms d.schema n f.fieldnorms.items s.tokens) many are.norms;
      counts = some_counts d.schema s f.counts (subst (λ (n : ℕ). IsSomeAnd f.counts (λ (v : Vec ℕ Global). HoldCounts d.schema n v.items s.tokens)) many are.counts);
      store = subst (HoldsSomeDocuments (option_map (λ (v : Vec ℕ Global). v.items) f.store)) many (some_lines d.num_docs d.lines (option_map (λ (v : Vec ℕ Global). v.items) f.store) have are.lines);
      alive = ap flags are.num_docs;
      are = subst (λ (calls : List Call). AreSegmentTokens d.schema (record { alive = flags d.num_docs; tokens = tokens_by words calls })) (sym were.are) own;
    }
