-- What the files of an index hold once they were closed.
use Rattle.std.proofs.Common.{Err, List, Ok, Result, Some, [], ap, arith, false, inl, inr, is_err, length, map, refl, subst, sym, true, true≢false, ℕ, ⊎_elim, ◌+◌, ◌<◌, ◌^◌, ◌∙◌, ◌∷◌, ◌≡◌}
use Rattle.std.specs.Prelude.{◌⊎◌, ◌↔◌, IsTrue, IfErr, IsErrOf, OnOk, nat_le}
use Rattle.std.specs.List.{AllByRecursion}
use Rattle.std.proofs.lemmas.Bool.{le-leb}
use Rattle.ii_io.specs.declared.faults.Fault.{Fault}
use Rattle.ii_io.specs.declared.faults.Fault.TheVariants.{Limit, OutOfMemory, SerializerClosed, Write}
use Rattle.ii_io.specs.declared.faults.LimitName.TheVariants as limit
use Rattle.ii_io.specs.Composite.{Body, composite, fit_fields, written_composite}
use Rattle.ii_io.specs.StepLemmas.{some-same}
use Rattle.ii_base.specs.declared.schema.index_record_option.IndexRecordOption.{IndexRecordOption}
use Rattle.ii_definitions.specs.Fields.{option_of}
use Rattle.ii_definitions.specs.TrueBounds.{HaveTrueBodies, HaveTrueBounds}
use Rattle.ii_io.specs.CompositeWrite.{CompositeWriteState, HasBodies, WroteComposite}
use Rattle.ii_io.specs.CountingWriter.{CountingWriterState, IsFull, Writes}
use Rattle.ii_base.specs.Schema.{SchemaEntry}
use Rattle.ii_definitions.specs.Tokens.{IndexToken}
use Rattle.ii_recorder.specs.IndexBodies.{CountsFailuresOf, OneIsFull, IndexBodiesState, failed_calls, tables_of, begun_file}
use Rattle.ii_recorder.specs.IndexSerializer.{IndexSerializerState}
use Rattle.ii_postings_writer.specs.FieldParts.{FieldPart, HasFields, WroteContext, positions_of_part, postings_body, terms_body}
use Rattle.ii_postings_writer.specs.HeldBodies.{HaveTokens, WroteTokens}
use Rattle.ii_indexing.specs.IndexFiles.{ClosedFiles, CountsIndexFailures, HaveNoRoom, PassLimits, begun_files}
use Rattle.ii_indexing.specs.declared.index_writers.IndexWriters.{IndexWriters}
use Rattle.ii_postings_writer.specs.IndexingContext.{TermIndex}
use Rattle.ii_postings_writer.specs.PostingsWriter.{PostingsWriterState}
use Rattle.ii_postings_writer.specs.WriteFaults.{IsContextFault, IsTokensFault}
use Rattle.ii_postings_writer.specs.TokenFiles.{file_bodies}
use Rattle.ii_postings_writer.proofs.TokenFaults.{HasFiles, tokens_fault, wrote_files}
use Rattle.ii_recorder.proofs.GrowthLemmas.{begun_bodies, counts_more, table_full, bodies_full}

-- three files in which nothing was written yet
pub begun_fields : (entries : List SchemaEntry) (t p q : CountingWriterState)
    → HasFields entries (record { terms = begun_file t; postings = begun_file p; positions = begun_file q }) (record { terms = begun_file t; postings = begun_file p; positions = begun_file q }) []
begun_fields entries t p q = record { terms = begun_bodies t; postings = begun_bodies p; positions = begun_bodies q; held = tt }

-- the fields of parts have 32 bits
fit_parts : (body : FieldPart → Body) (same : (p : FieldPart) → (body p).field ≡ p.field) (n : ℕ) (fs : List FieldPart) → n < 2 ^ 32 → AllByRecursion (λ (p : FieldPart). p.field < n) fs → fit_fields (map body fs) ≡ true
fit_parts body same n [] few known = refl
fit_parts body same n (p ∷ ps) few known =
    let first : nat_le ((body p).field + 1) (2 ^ 32) ≡ true = le-leb ((body p).field + 1) (2 ^ 32) (omega (arith, same p, known.0, few)) in
    rw first (fit_parts body same n ps few known.1)

-- A composite that is closed holds the bodies that were written to it.
abbrev pub Closes : CompositeWriteState → CountingWriterState → Result (Unit {0}) Fault → Type 0
Closes c new result = (initial : CountingWriterState) (bodies : List Body) → HasBodies initial c bodies → fit_fields bodies ≡ true → OnOk result (WroteComposite initial new bodies)

-- bodies that are the same have the same bounds
pub bodies_bound : (option : ℕ → IndexRecordOption) (terms postings terms' postings' norms : List Body) → terms ≡ terms' → postings ≡ postings' → HaveTrueBodies option terms postings norms → HaveTrueBodies option terms' postings' norms
bodies_bound option terms postings terms' postings' norms a b h =
    subst (λ (xs : List Body). HaveTrueBodies option xs postings' norms) a (subst (λ (xs : List Body). HaveTrueBodies option terms xs norms) b h)

-- bounds of bodies are those of the files, with the norms of a file
pub files_bound : (option : ℕ → IndexRecordOption) (terms postings fieldnorms : List ℕ) (norms : List Body) → composite fieldnorms ≡ Some norms
    → ((tb pb : List Body) → composite terms ≡ Some tb → composite postings ≡ Some pb → HaveTrueBodies option tb pb norms) → HaveTrueBounds option terms postings fieldnorms
files_bound option terms postings fieldnorms norms read h = record {
  bodies = λ tb pb nb terms_are postings_are norms_are. subst (λ (xs : List Body). HaveTrueBodies option tb pb xs) (some-same (sym read ∙ norms_are)) (h tb pb terms_are postings_are);
}

-- the three files
pub closed_files : (old now : IndexSerializerState) (t p q : CountingWriterState) (result : Result (Unit {0}) Fault) (norms : List Body) (ts : List IndexToken) → length old.entries < 2 ^ 32 → WroteTokens old now norms ts
    → Closes now.bodies.terms t result → Closes now.bodies.postings p result → Closes now.bodies.positions q result → OnOk result (ClosedFiles old t p q norms ts)
closed_files old now t p q result norms ts few wrote terms postings positions =
    let n = length old.entries in
    let a = terms old.bodies.terms.writer (map (terms_body old.entries) wrote.fs) wrote.fields.terms (fit_parts (terms_body old.entries) (λ f. refl) n wrote.fs few wrote.known) in
    let b = postings old.bodies.postings.writer (map (postings_body old.entries) wrote.fs) wrote.fields.postings (fit_parts (postings_body old.entries) (λ f. refl) n wrote.fs few wrote.known) in
    let c = positions old.bodies.positions.writer (map (positions_of_part old.entries) wrote.fs) wrote.fields.positions (fit_parts (positions_of_part old.entries) (λ f. refl) n wrote.fs few wrote.known) in
    by result a b c
  where
    by : (r : Result (Unit {0}) Fault) → OnOk r (WroteComposite old.bodies.terms.writer t (map (terms_body old.entries) wrote.fs)) → OnOk r (WroteComposite old.bodies.postings.writer p (map (postings_body old.entries) wrote.fs))
        → OnOk r (WroteComposite old.bodies.positions.writer q (map (positions_of_part old.entries) wrote.fs)) → OnOk r (ClosedFiles old t p q norms ts)
    by (Err e) a b c = tt
    by (Ok x) a b c = record {
      terms = written_composite (map (terms_body old.entries) wrote.fs);
      postings = written_composite (map (postings_body old.entries) wrote.fs);
      positions = written_composite (map (positions_of_part old.entries) wrote.fs);
      wrote_terms = a.wrote;
      wrote_postings = b.wrote;
      wrote_positions = c.wrote;
      hold = record {
        term_bodies = map (terms_body old.entries) wrote.fs;
        postings_bodies = map (postings_body old.entries) wrote.fs;
        positions_bodies = map (positions_of_part old.entries) wrote.fs;
        opened_terms = a.reads_back;
        opened_postings = b.reads_back;
        opened_positions = c.reads_back;
        present = wrote.held.present;
        fields = wrote.held.fields;
      };
      bounds = λ tb pb terms_are postings_are. bodies_bound (option_of old.entries) (map (terms_body old.entries) wrote.fs) (map (postings_body old.entries) wrote.fs) tb pb norms (some-same (sym a.reads_back ∙ terms_are)) (some-same (sym b.reads_back ∙ postings_are)) wrote.bounds;
    }

-- norms that were refused, before anything else was written
pub norms_refused : {W : Type 0} (old : IndexWriters W) (now : CountingWriterState) (bytes : List ℕ) (written : Result (Unit {0}) Fault) → Writes old.fieldnorms now bytes written → CountsIndexFailures old (record old { fieldnorms = now }) written
norms_refused old now bytes (Ok x) h =
    let same = h.ok.failed_calls in
    record {
      once = record { ok = omega (arith, same); write = (λ is. absurd (cc), λ more. absurd (omega (arith, same, more))); by_one = λ is. absurd (cc) };
      terms = omega arith;
      postings = omega arith;
      positions = omega arith;
      fieldnorms = omega (arith, same);
    }
norms_refused old now bytes (Err e) h = record {
  once = record { ok = tt; write = (λ is. let more = h.write.0 is in omega (arith, more), λ more. h.write.1 (omega (arith, more))); by_one = λ is. let one = h.by_one is in omega (arith, one) };
  terms = omega arith;
  postings = omega arith;
  positions = omega arith;
  fieldnorms = h.prefix.failed_calls;
}

-- and the other files, after norms that were written
pub files_counted : {W : Type 0} (old : IndexWriters W) (now t p q : CountingWriterState) (bytes : List ℕ) (begun : IndexBodiesState) (written result : Result (Unit {0}) Fault) → false ≡ is_err written → Writes old.fieldnorms now bytes written
    → begun ≡ begun_files old → CountsFailuresOf begun t p q result → CountsIndexFailures old (record { terms = t; postings = p; positions = q; fieldnorms = now }) result
files_counted old now t p q bytes begun (Ok x) result went h is last =
    let same = h.ok.failed_calls in
    let counted = subst (λ (b : IndexBodiesState). CountsFailuresOf b t p q result) is last in
    record {
      once = counts_more (failed_calls (begun_files old)) (t.failed_calls + p.failed_calls + q.failed_calls) old.fieldnorms.failed_calls now.failed_calls result same counted.once;
      terms = counted.terms_kept;
      postings = counted.postings_kept;
      positions = counted.positions_kept;
      fieldnorms = omega (arith, same);
    }
files_counted old now t p q bytes begun (Err e) result went h is last = absurd (cc)

-- Why the tables can't be written.
pub record ClosesBy (s : IndexSerializerState) (result : Result (Unit {0}) Fault) : Type 0 where
  pub full : IsErrOf result (Limit limit.Offset) → OneIsFull s.bodies (tables_of s.bodies)
  pub closed : IsErrOf result SerializerClosed ↔ IsTrue s.closed
  pub only : IfErr result (λ e. (e ≡ Write) ⊎ (e ≡ Limit limit.Offset) ⊎ (e ≡ SerializerClosed))

-- the limits of tokens that are written after the bytes of three files
abbrev pub PassesBehind : List SchemaEntry → IndexBodiesState → List IndexToken → Fault → Type 0
PassesBehind entries b ts e = (e ≡ OutOfMemory) ⊎ (e ≡ Write) ⊎ PassLimits entries b.terms.writer b.postings.writer b.positions.writer ts e

pub limits_of : (entries : List SchemaEntry) (b : IndexBodiesState) (ts : List IndexToken) (e : Fault) → IsTokensFault entries b ts e → PassesBehind entries b ts e
limits_of entries b ts e (inl memory) = inl memory
limits_of entries b ts e (inr (inl write)) = inr (inl write)
limits_of entries b ts e (inr (inr (inl sum))) = inr (inr (inl sum))
limits_of entries b ts e (inr (inr (inr (inl long)))) = inr (inr (inr (inl long)))
limits_of entries b ts e (inr (inr (inr (inr (offset, inl (inl full)))))) = inr (inr (inr (inr (offset, inl (inl (bodies_full b.terms.writer (file_bodies (λ f. f.terms) entries ts) full))))))
limits_of entries b ts e (inr (inr (inr (inr (offset, inl (inr (inl full))))))) = inr (inr (inr (inr (offset, inl (inr (inl (bodies_full b.postings.writer (file_bodies (λ f. f.postings) entries ts) full)))))))
limits_of entries b ts e (inr (inr (inr (inr (offset, inl (inr (inr full))))))) = inr (inr (inr (inr (offset, inl (inr (inr (bodies_full b.positions.writer (file_bodies (λ f. f.positions) entries ts) full)))))))
limits_of entries b ts e (inr (inr (inr (inr (offset, inr far))))) = inr (inr (inr (inr (offset, inr far))))

-- terms that can't be written
pub terms_fault : (old : IndexSerializerState) (writers : List PostingsWriterState) (readers : List Body) (ctx : TermIndex) (ts : List IndexToken) (result : Result (Unit {0}) Fault) → length old.entries < 2 ^ 32 → HaveTokens old.entries ctx writers ts
    → old.closed ≡ false → (IsErrOf result SerializerClosed → IsTrue old.closed) → IfErr result (λ e. (e ≡ OutOfMemory) ⊎ (e ≡ SerializerClosed) ⊎ IsContextFault old writers readers ctx e) → IfErr result (PassesBehind old.entries old.bodies ts)
terms_fault old writers readers ctx ts (Ok x) few has running closed fault = tt
terms_fault old writers readers ctx ts (Err e) few has running closed (inl memory) = inl memory
terms_fault old writers readers ctx ts (Err e) few has running closed (inr (inl is)) = absurd (true≢false (sym (closed (ap (λ (f : Fault). Err f) is)) ∙ running))
terms_fault old writers readers ctx ts (Err e) few has running closed (inr (inr cause)) = limits_of old.entries old.bodies ts e (tokens_fault old writers readers ctx ts e few has cause)

pub table_fault : (old now : IndexSerializerState) (writers : List PostingsWriterState) (readers : List Body) (ctx : TermIndex) (ts : List IndexToken) (result : Result (Unit {0}) Fault) → length old.entries < 2 ^ 32 → HaveTokens old.entries ctx writers ts
    → now.closed ≡ false → WroteContext old now writers readers ctx → ClosesBy now result → IfErr result (PassesBehind old.entries old.bodies ts)
table_fault old now writers readers ctx ts (Ok x) few has running wrote h = tt
table_fault old now writers readers ctx ts (Err e) few has running wrote h =
    ⊎_elim (λ write. inr (inl write))
    (λ others. ⊎_elim (λ full. inr (inr (inr (inr (full, inl (no_room (h.full (ap (λ (f : Fault). Err f) full)))))))) (λ closed. absurd (not_closed (h.closed.0 (ap (λ (f : Fault). Err f) closed)))) others) h.only
  where
    files : HasFiles old.entries old.bodies now.bodies ts
    files = wrote_files old now writers readers ctx ts few has wrote

    no_room : OneIsFull now.bodies (tables_of now.bodies) → HaveNoRoom old.entries old.bodies.terms.writer old.bodies.postings.writer old.bodies.positions.writer ts
    no_room (inl full) = inl (subst (IsFull old.bodies.terms.writer) files.terms.room (table_full old.bodies.terms.writer now.bodies.terms files.terms.bodies files.terms.has full))
    no_room (inr (inl full)) = inr (inl (subst (IsFull old.bodies.postings.writer) files.postings.room (table_full old.bodies.postings.writer now.bodies.postings files.postings.bodies files.postings.has full)))
    no_room (inr (inr full)) = inr (inr (subst (IsFull old.bodies.positions.writer) files.positions.room (table_full old.bodies.positions.writer now.bodies.positions files.positions.bodies files.positions.has full)))

    not_closed : IsTrue now.closed → ⊥
    not_closed is = absurd (cc)
