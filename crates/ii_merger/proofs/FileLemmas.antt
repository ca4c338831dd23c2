-- The files of a merged segment.
use Rattle.std.proofs.Common.{◌≡◌, ◌-◌, ◌^◌, ◌<◌, List, [], ◌∷◌, true, false, length, map, Result, Ok, Err, refl, sym, arith, ◌+◌, ◌∙◌, subst}
use Rattle.std.specs.Prelude.{OnOk, IsErrOf}
use Rattle.std.specs.List.{AllByRecursion}
use Rattle.ii_io.specs.declared.faults.Fault.{Fault}
use Rattle.ii_io.specs.Composite.{Body, fit_fields, written_composite}
use Rattle.ii_io.specs.CompositeWrite.{CompositeWriteState, HasBodies, WroteComposite}
use Rattle.ii_io.specs.CountingWriter.{CountingWriterState}
use Rattle.ii_base.specs.Schema.{SchemaEntry}
use Rattle.ii_definitions.specs.Tokens.{IndexToken}
use Rattle.ii_recorder.specs.IndexBodies.{IndexBodiesState}
use Rattle.ii_segments.specs.Segments.{AreSegmentTokens, Segment, index_tokens}
use Rattle.ii_segments.specs.SegmentLaws.{MergedIsSegment}
use Rattle.ii_merger.specs.MergedFiles.{AreBegun}
use Rattle.ii_merger.specs.MergedIndex.{FieldsBelow, HasMergedFields, MergeSourceState, MergeSourcesHold, positions_body_of, postings_body_of, terms_body_of}
use Rattle.ii_merger.proofs.IndexMergeLemmas.{bodies_bound, fit_parts, hold_tokens}
use Rattle.ii_indexing.proofs.WrittenFiles.{bodies_bound as same_bound}
use Rattle.ii_io.specs.StepLemmas.{some-same}
use Rattle.ii_definitions.specs.TrueBounds.{HaveTrueBodies}
use Rattle.ii_merger.proofs.NormLemmas.{starts_none}
use Rattle.ii_recorder.proofs.GrowthLemmas.{begun_bodies}
use Rattle.ii_io.specs.declared.faults.Fault.TheVariants.{Write}
use Rattle.ii_indexing.specs.IndexFiles.{ClosedFiles, CountsIndexFailures}
use Rattle.ii_indexing.specs.declared.index_writers.IndexWriters.{IndexWriters}
use Rattle.ii_recorder.specs.IndexSerializer.{IndexSerializerState}
use Rattle.ii_definitions.specs.Fields.{option_of}
use Rattle.ii_definitions.specs.Files.{HoldTokens}

-- ---- files in which nothing was written yet
pub all_begun : (t p q : CountingWriterState) → AreBegun (record {
  terms = record { writer = t; base = t.written_bytes; starts = []; closed = false };
  postings = record { writer = p; base = p.written_bytes; starts = []; closed = false };
  positions = record { writer = q; base = q.written_bytes; starts = []; closed = false };
})
all_begun t p q = record { terms = begun_bodies t; postings = begun_bodies p; positions = begun_bodies q }

pub none_below : (b : IndexBodiesState) → AreBegun b → FieldsBelow 0 b
none_below b h = record { terms = starts_none b.terms h.terms.starts; postings = starts_none b.postings h.postings.starts; positions = starts_none b.positions h.positions.starts }

pub none_merged : (entries : List SchemaEntry) (b : IndexBodiesState) (norms : List Body) (ts : List IndexToken) → AreBegun b → HasMergedFields entries b b 0 norms ts
none_merged entries b norms ts h = record {
  parts = [];
  below = tt;
  terms = h.terms;
  postings = h.postings;
  positions = h.positions;
  present = λ field low. absurd (omega (arith, low));
  holds = tt;
  bounds = tt;
}

-- ---- files that were closed
abbrev pub Closes : CompositeWriteState → CountingWriterState → Result (Unit {0}) Fault → Type 0
Closes c new result = (initial : CountingWriterState) (bodies : List Body) → HasBodies initial c bodies → fit_fields bodies ≡ true → OnOk result (WroteComposite initial new bodies)

are_segments : (entries : List SchemaEntry) (ss : List MergeSourceState) (gs : List Segment) → MergeSourcesHold entries ss gs → AllByRecursion (AreSegmentTokens entries) gs
are_segments entries [] [] h = tt
are_segments entries [] (g ∷ gs) h = absurd (h)
are_segments entries (s ∷ ss) [] h = absurd (h)
are_segments entries (s ∷ ss) (g ∷ gs) h = (h.0.tokens, are_segments entries ss gs h.1)

pub closed_files : (entries : List SchemaEntry) (begun : IndexSerializerState) (now : IndexBodiesState) (t p q : CountingWriterState) (result : Result (Unit {0}) Fault) (norms : List Body) (ss : List MergeSourceState) (gs : List Segment) → length entries < 2 ^ 32 - 1 → entries ≡ begun.entries → MergedIsSegment → MergeSourcesHold entries ss gs
    → HasMergedFields entries begun.bodies now (length entries) norms (index_tokens gs) → Closes now.terms t result → Closes now.postings p result → Closes now.positions q result
    → OnOk result (ClosedFiles begun t p q norms (index_tokens gs))
closed_files entries begun now t p q result norms ss gs few same law hold h terms postings positions =
    let n = length entries in
    let low : length entries < 2 ^ 32 = omega (arith, few) in
    by result
    (terms begun.bodies.terms.writer (map terms_body_of h.parts) h.terms (fit_parts terms_body_of (λ r. refl) n h.parts low h.below))
    (postings begun.bodies.postings.writer (map postings_body_of h.parts) h.postings (fit_parts postings_body_of (λ r. refl) n h.parts low h.below))
    (positions begun.bodies.positions.writer (map positions_body_of h.parts) h.positions (fit_parts positions_body_of (λ r. refl) n h.parts low h.below))
  where
    known : AllByRecursion (λ (k : IndexToken). k.field < length entries) (index_tokens gs)
    known = (law entries gs (are_segments entries ss gs hold)).known

    by : (r : Result (Unit {0}) Fault) → OnOk r (WroteComposite begun.bodies.terms.writer t (map terms_body_of h.parts)) → OnOk r (WroteComposite begun.bodies.postings.writer p (map postings_body_of h.parts)) → OnOk r (WroteComposite begun.bodies.positions.writer q (map positions_body_of h.parts))
        → OnOk r (ClosedFiles begun t p q norms (index_tokens gs))
    by (Err e) a b c = tt
    by (Ok x) a b c = record {
      terms = written_composite (map terms_body_of h.parts);
      postings = written_composite (map postings_body_of h.parts);
      positions = written_composite (map positions_body_of h.parts);
      wrote_terms = a.wrote;
      wrote_postings = b.wrote;
      wrote_positions = c.wrote;
      hold = subst (λ (es : List SchemaEntry). HoldTokens (option_of es) (written_composite (map terms_body_of h.parts)) (written_composite (map postings_body_of h.parts)) (written_composite (map positions_body_of h.parts)) (index_tokens gs)) same
          (hold_tokens entries begun.bodies now norms (index_tokens gs) h known a.reads_back b.reads_back c.reads_back);
      bounds = λ tb pb terms_are postings_are.
          same_bound (option_of begun.entries) (map terms_body_of h.parts) (map postings_body_of h.parts) tb pb norms (some-same (sym a.reads_back ∙ terms_are)) (some-same (sym b.reads_back ∙ postings_are))
          (subst (λ (es : List SchemaEntry). HaveTrueBodies (option_of es) (map terms_body_of h.parts) (map postings_body_of h.parts) norms) same (bodies_bound entries begun.bodies now norms (index_tokens gs) h known));
    }

-- ---- failures of the four writers
-- nothing was written
pub none_failed : {W : Type 0} (w : IndexWriters W) (e : Fault) → ¬ (e ≡ Write) → CountsIndexFailures w w (Err e)
none_failed w e other = record {
  once = record { ok = tt; write = ((λ is. absurd (other (write_is (Err e) refl is))), (λ more. absurd (omega (arith, more)))); by_one = λ is. absurd (other (write_is (Err e) refl is)) };
  terms = omega arith;
  postings = omega arith;
  positions = omega arith;
  fieldnorms = omega arith;
}
  where
    write_is : (r : Result (Unit {0}) Fault) → r ≡ Err e → IsErrOf r Write → e ≡ Write
    write_is r here is = cc
