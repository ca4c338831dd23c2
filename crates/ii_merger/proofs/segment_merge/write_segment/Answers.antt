use Rattle.std.proofs.Common.{sym, subst, ◌∙◌, ◌≡◌, ℕ, List, Some, map, ap}
use Rattle.ii_io.specs.CountingWriter.{Grows, Writes, Wrote}
use Rattle.ii_io.proofs.WriteSteps.{writes_grows, writes_went}
use Rattle.ii_recorder.specs.IndexBodies.{IndexBodiesState}
use Rattle.ii_merger.specs.MergedFiles.{AreBegun, WroteParts, merging_of}
use Rattle.ii_merger.proofs.FileLemmas.{all_begun}
use Rattle.ii_merger.proofs.segment_merge.write_segment.Goals as goal
use Rattle.std.specs.Prelude.{OnOk}
use Rattle.ii_io.specs.Composite.{Body, composite}
use Rattle.ii_base.specs.Schema.{SchemaEntry}
use Rattle.ii_definitions.specs.Fields.{option_of}
use Rattle.ii_definitions.specs.Files.{HoldTokens}
use Rattle.ii_definitions.specs.TrueBounds.{HaveTrueBodies}
use Rattle.ii_postings_writer.proofs.TermIndexLemmas.{on_ok}
use Rattle.ii_segments.specs.Segments.{index_tokens}
use Rattle.ii_merger.specs.MergedIndex.{opened_segment}
use Rattle.ii_merger.specs.MergedNorms.{merged_norm_bytes}
use Rattle.ii_merger.proofs.PartLemmas.{files_refused, norm_file_fails, wrote_merged}
use Rattle.ii_indexing.specs.IndexFiles.{begun_files}
use Rattle.ii_indexing.proofs.WrittenFiles.{files_bound, files_counted, norms_refused}

pub write_terms-terms-requires-clause-begun : goal.write_terms-terms-requires-clause-begun
write_terms-terms-requires-clause-begun g c =
    subst AreBegun (sym c.open.ensures.bodies) (all_begun c.args.writers.terms c.args.writers.postings c.args.writers.positions)

pub returns-clause-grow : goal.returns-clause-grow
returns-clause-grow g c =
    let old = c.args.writers in
    let r = c.write_terms-terms.result in
    let norms = writes_grows old.fieldnorms c.write_file-written.new.writer _ c.write_file-written.result c.write_file-written.ensures.written in
    let grown = subst (λ (b : IndexBodiesState). Grows b.terms.writer r.0 × Grows b.postings.writer r.1 × Grows b.positions.writer r.2) c.open.ensures.bodies c.write_terms-terms.ensures.grow in
    record { terms = grown.0; postings = grown.1; positions = grown.2; fieldnorms = norms }

pub returns-clause-failures : goal.returns-clause-failures
returns-clause-failures g c =
    let r = c.write_terms-terms.result in
    files_counted c.args.writers c.write_file-written.new.writer r.0 r.1 r.2 c.args.file.now c.open.result.bodies c.write_file-written.result r.3 (sym c.if-is_err.false ∙ c.is_err.ensures.value) (subst (λ (bytes : List ℕ). Writes c.args.writers.fieldnorms c.write_file-written.new.writer bytes c.write_file-written.result) c.deref.ensures c.write_file-written.ensures.written) c.open.ensures.bodies c.write_terms-terms.ensures.failures

pub returns-clause-fault : goal.returns-clause-fault
returns-clause-fault g c =
    let ss = map opened_segment c.args.sources.now in
    let r = c.write_terms-terms.result in
    files_refused (record { entries = c.args.schema.now; num_tokens = c.args.num_tokens.now; norms = c.args.norms.now; segments = ss }) (merging_of c.args.schema.now c.args.num_tokens.now ss) c.open.result.bodies (begun_files c.args.writers) _ r.3
    (ap (λ (bs : List Body). record { entries = c.args.schema.now; num_tokens = c.args.num_tokens.now; norms = bs; segments = ss }) c.requires.norms) c.open.ensures.bodies c.write_terms-terms.ensures.fault

pub returns-clause-wrote : goal.returns-clause-wrote
returns-clause-wrote g c =
    let ss = map opened_segment c.args.sources.now in
    let r = c.write_terms-terms.result in
    let w = c.args.writers in
    wrote_merged c.args.schema.now c.args.num_tokens.now c.args.norms.now ss w c.write_file-written.new.writer r.0 r.1 r.2 c.write_file-written.result r.3 c.requires.norms c.requires.sound (sym c.if-is_err.false ∙ c.is_err.ensures.value)
    (subst (λ (bytes : List ℕ). Writes w.fieldnorms c.write_file-written.new.writer bytes c.write_file-written.result) c.requires.file (subst (λ (bytes : List ℕ). Writes c.args.writers.fieldnorms c.write_file-written.new.writer bytes c.write_file-written.result) c.deref.ensures c.write_file-written.ensures.written))
    (subst (λ (b : IndexBodiesState). OnOk r.3 (WroteParts (record { entries = c.args.schema.now; num_tokens = c.args.num_tokens.now; norms = c.args.norms.now; segments = ss }) b.terms.writer b.postings.writer b.positions.writer r.0 r.1 r.2)) c.open.ensures.bodies c.write_terms-terms.ensures.wrote)

pub returns-then-is_err-clause-failures : goal.returns-then-is_err-clause-failures
returns-then-is_err-clause-failures g c = norms_refused c.args.writers c.write_file-written.new.writer c.args.file.now c.write_file-written.result (subst (λ (bytes : List ℕ). Writes c.args.writers.fieldnorms c.write_file-written.new.writer bytes c.write_file-written.result) c.deref.ensures c.write_file-written.ensures.written)

pub returns-then-is_err-clause-fault : goal.returns-then-is_err-clause-fault
returns-then-is_err-clause-fault g c =
    let ss = map opened_segment c.args.sources.now in
    norm_file_fails (merging_of c.args.schema.now c.args.num_tokens.now ss) (begun_files c.args.writers) c.args.writers.fieldnorms c.write_file-written.new.writer (merged_norm_bytes c.args.schema.now ss) c.write_file-written.result
    (subst (λ (bytes : List ℕ). Writes c.args.writers.fieldnorms c.write_file-written.new.writer bytes c.write_file-written.result) c.requires.file (subst (λ (bytes : List ℕ). Writes c.args.writers.fieldnorms c.write_file-written.new.writer bytes c.write_file-written.result) c.deref.ensures c.write_file-written.ensures.written))

pub returns-clause-holds : goal.returns-clause-holds
returns-clause-holds g c ss hold counts norms =
    let r = c.write_terms-terms.result in
    let entries = c.open.ensures.entries ∙ c.requires.copy in
    let bodies = c.open.ensures.bodies in
    let went = sym c.if-is_err.false ∙ c.is_err.ensures.value in
    let bytes = c.args.file.now in
    let wrote = writes_went c.args.writers.fieldnorms c.write_file-written.new.writer bytes c.write_file-written.result went (subst (λ (xs : List ℕ). Writes c.args.writers.fieldnorms c.write_file-written.new.writer xs c.write_file-written.result) c.deref.ensures c.write_file-written.ensures.written) in
    on_ok r.3 _ _
    (λ held. record {
      terms = record {
        terms = held.terms;
        postings = held.postings;
        positions = held.positions;
        wrote_terms = subst (λ (b : IndexBodiesState). Wrote b.terms.writer r.0 held.terms) bodies held.wrote_terms;
        wrote_postings = subst (λ (b : IndexBodiesState). Wrote b.postings.writer r.1 held.postings) bodies held.wrote_postings;
        wrote_positions = subst (λ (b : IndexBodiesState). Wrote b.positions.writer r.2 held.positions) bodies held.wrote_positions;
        hold = subst (λ (es : List SchemaEntry). HoldTokens (option_of es) held.terms held.postings held.positions (index_tokens ss)) entries held.hold;
      };
      norms = record { fieldnorms = bytes; wrote = wrote; hold = norms };
      bounds = files_bound (option_of c.args.schema.now) held.terms held.postings bytes c.args.norms.now c.requires.read
          (subst (λ (es : List SchemaEntry). (tb pb : List Body) → composite held.terms ≡ Some tb → composite held.postings ≡ Some pb → HaveTrueBodies (option_of es) tb pb c.args.norms.now) entries held.bounds);
    })
    (c.write_terms-terms.ensures.holds ss hold counts)
