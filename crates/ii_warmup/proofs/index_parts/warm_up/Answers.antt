use Rattle.std.proofs.Common.{◌≡◌, ◌∙◌, Err, List, Option, ap, inl, length, map, subst, sym, ℕ}
use Rattle.ii_io.specs.declared.faults.Fault.TheVariants as faults
use Rattle.ii_io.specs.declared.faults.Part.TheVariants as parts
use Rattle.ii_base.specs.declared.schema.index_record_option.IndexRecordOption.{IndexRecordOption}
use Rattle.ii_file_slice.specs.declared.faults.FileFault.TheVariants.{Index}
use Rattle.ii_reader.specs.OpenIndex.{OpenIndexState}
use Rattle.ii_warmup.specs.IndexParts.{AreTooLong, ArePartsOf, HaveNormsFor, IsWarmupFault, LieOutside, requests}
use Rattle.ii_warmup.specs.Parts.{IsPartFor}
use Rattle.ii_warmup.specs.QueryTerms.{QueryRangeState, QueryTermState, query_ranges, range_view, requested_terms, term_view}
use Rattle.ii_warmup.proofs.IndexPartLemmas.{index_of_bodies, memory_or_limit, same_requests, same_tables}
use Rattle.ii_warmup.proofs.index_parts.warm_up.Goals as goal

pub returns-in-Err-open-clause-range : goal.returns-in-Err-open-clause-range
returns-in-Err-open-clause-range g c = λ whole h damaged.
    let f = c.args.files.now in
    let i = index_of_bodies (g.H.FileHandle.bytes f.terms.now) (g.H.FileHandle.bytes f.postings.now) (g.H.FileHandle.bytes f.positions.now) (g.H.FileHandle.bytes f.fieldnorms.now) c.args.schema.now whole h in
    let here : c.in-Err-open.fault ≡ Index (faults.Damaged parts.Range) = cc in
    absurd (c.in-Err-open.ensures.part i.bodies i.tables parts.Range here)

pub returns-in-Err-open-clause-long : goal.returns-in-Err-open-clause-long
returns-in-Err-open-clause-long g c = λ whole h damaged.
    let f = c.args.files.now in
    let i = index_of_bodies (g.H.FileHandle.bytes f.terms.now) (g.H.FileHandle.bytes f.postings.now) (g.H.FileHandle.bytes f.positions.now) (g.H.FileHandle.bytes f.fieldnorms.now) c.args.schema.now whole h in
    let here : c.in-Err-open.fault ≡ Index (faults.Damaged parts.TermStore) = cc in
    absurd (c.in-Err-open.ensures.part i.bodies i.tables parts.TermStore here)

pub returns-in-Err-open-clause-sound : goal.returns-in-Err-open-clause-sound
returns-in-Err-open-clause-sound g c = λ whole h t_sound p_sound q_sound n_sound.
    let f = c.args.files.now in
    let i = index_of_bodies (g.H.FileHandle.bytes f.terms.now) (g.H.FileHandle.bytes f.postings.now) (g.H.FileHandle.bytes f.positions.now) (g.H.FileHandle.bytes f.fieldnorms.now) c.args.schema.now whole h in
    inl (c.in-Err-open.ensures.sound i.bodies i.tables t_sound p_sound q_sound)

pub returns-in-Err-open_fields-clause-range : goal.returns-in-Err-open_fields-clause-range
returns-in-Err-open_fields-clause-range g c = λ whole h damaged.
    let f = c.args.files.now in
    let i = index_of_bodies (g.H.FileHandle.bytes f.terms.now) (g.H.FileHandle.bytes f.postings.now) (g.H.FileHandle.bytes f.positions.now) (g.H.FileHandle.bytes f.fieldnorms.now) c.args.schema.now whole h in
    let requested = same_requests c.deref.result.now c.deref-2.result.now c.args.query.now (ap (map term_view) c.deref.ensures.value ∙ c.in-Ok.ensures.terms) (ap (map range_view) c.deref-2.ensures.value ∙ c.in-Ok-query_ranges.ensures.ranges) in
    let opened = c.in-Ok-open.ensures in
    let tables = same_tables g.H.FileHandle.bytes c.in-Ok-open.tables.terms.file c.in-Ok-open.tables.postings.file c.in-Ok-open.tables.positions.file f.terms.now f.postings.now f.positions.now i.bodies opened.terms opened.postings opened.positions i.tables in
    let here : c.in-Err-open_fields.fault ≡ Index (faults.Damaged parts.Range) = cc in
    subst (λ (r : ℕ → List ℕ → Option IndexRecordOption). LieOutside r whole.readers) requested (c.in-Err-open_fields.ensures.range i.bodies whole.readers tables i.readers (ap Err here))

pub returns-in-Err-open_fields-clause-long : goal.returns-in-Err-open_fields-clause-long
returns-in-Err-open_fields-clause-long g c = λ whole h damaged.
    let f = c.args.files.now in
    let i = index_of_bodies (g.H.FileHandle.bytes f.terms.now) (g.H.FileHandle.bytes f.postings.now) (g.H.FileHandle.bytes f.positions.now) (g.H.FileHandle.bytes f.fieldnorms.now) c.args.schema.now whole h in
    let requested = same_requests c.deref.result.now c.deref-2.result.now c.args.query.now (ap (map term_view) c.deref.ensures.value ∙ c.in-Ok.ensures.terms) (ap (map range_view) c.deref-2.ensures.value ∙ c.in-Ok-query_ranges.ensures.ranges) in
    let opened = c.in-Ok-open.ensures in
    let tables = same_tables g.H.FileHandle.bytes c.in-Ok-open.tables.terms.file c.in-Ok-open.tables.postings.file c.in-Ok-open.tables.positions.file f.terms.now f.postings.now f.positions.now i.bodies opened.terms opened.postings opened.positions i.tables in
    let here : c.in-Err-open_fields.fault ≡ Index (faults.Damaged parts.TermStore) = cc in
    subst (λ (r : ℕ → List ℕ → Option IndexRecordOption). AreTooLong r whole.readers) requested (c.in-Err-open_fields.ensures.long i.bodies whole.readers tables i.readers (ap Err here))

pub returns-in-Err-open_fields-clause-sound : goal.returns-in-Err-open_fields-clause-sound
returns-in-Err-open_fields-clause-sound g c = λ whole h t_sound p_sound q_sound n_sound.
    let f = c.args.files.now in
    let i = index_of_bodies (g.H.FileHandle.bytes f.terms.now) (g.H.FileHandle.bytes f.postings.now) (g.H.FileHandle.bytes f.positions.now) (g.H.FileHandle.bytes f.fieldnorms.now) c.args.schema.now whole h in
    let requested = same_requests c.deref.result.now c.deref-2.result.now c.args.query.now (ap (map term_view) c.deref.ensures.value ∙ c.in-Ok.ensures.terms) (ap (map range_view) c.deref-2.ensures.value ∙ c.in-Ok-query_ranges.ensures.ranges) in
    let opened = c.in-Ok-open.ensures in
    let tables = same_tables g.H.FileHandle.bytes c.in-Ok-open.tables.terms.file c.in-Ok-open.tables.postings.file c.in-Ok-open.tables.positions.file f.terms.now f.postings.now f.positions.now i.bodies opened.terms opened.postings opened.positions i.tables in
    subst (λ (r : ℕ → List ℕ → Option IndexRecordOption). IsWarmupFault r whole.readers c.in-Err-open_fields.fault) requested
    (c.in-Err-open_fields.ensures.sound i.bodies whole.readers tables i.readers (subst (λ x. g.H.FileHandle.is_sound x) (sym opened.terms) t_sound) (subst (λ x. g.H.FileHandle.is_sound x) (sym opened.postings) p_sound) (subst (λ x. g.H.FileHandle.is_sound x) (sym opened.positions) q_sound))

pub returns-in-Ok-open_norms-clause-part : goal.returns-in-Ok-open_norms-clause-part
returns-in-Ok-open_norms-clause-part g c = λ whole h.
    let f = c.args.files.now in
    let i = index_of_bodies (g.H.FileHandle.bytes f.terms.now) (g.H.FileHandle.bytes f.postings.now) (g.H.FileHandle.bytes f.positions.now) (g.H.FileHandle.bytes f.fieldnorms.now) c.args.schema.now whole h in
    let requested = same_requests c.deref.result.now c.deref-2.result.now c.args.query.now (ap (map term_view) c.deref.ensures.value ∙ c.in-Ok.ensures.terms) (ap (map range_view) c.deref-2.ensures.value ∙ c.in-Ok-query_ranges.ensures.ranges) in
    let opened = c.in-Ok-open.ensures in
    let tables = same_tables g.H.FileHandle.bytes c.in-Ok-open.tables.terms.file c.in-Ok-open.tables.postings.file c.in-Ok-open.tables.positions.file f.terms.now f.postings.now f.positions.now i.bodies opened.terms opened.postings opened.positions i.tables in
    let all = subst (λ (r : ℕ → List ℕ → Option IndexRecordOption). ArePartsOf r c.in-Ok-open_fields.readers.items whole.readers) requested (c.in-Ok-open_fields.ensures.parts i.bodies whole.readers tables i.readers) in
    subst (λ (o : OpenIndexState). IsPartFor c.args.query.now o whole) (sym c.new.ensures) all

pub returns-in-Ok-open_norms-clause-norms : goal.returns-in-Ok-open_norms-clause-norms
returns-in-Ok-open_norms-clause-norms g c = λ whole h.
    let f = c.args.files.now in
    let i = index_of_bodies (g.H.FileHandle.bytes f.terms.now) (g.H.FileHandle.bytes f.postings.now) (g.H.FileHandle.bytes f.positions.now) (g.H.FileHandle.bytes f.fieldnorms.now) c.args.schema.now whole h in
    let terms_are = ap (map term_view) c.deref-3.ensures.value ∙ c.in-Ok.ensures.terms in
    let ranges_are = ap (map range_view) c.deref-4.ensures.value ∙ c.in-Ok-query_ranges.ensures.ranges in
    let norms = c.in-Ok-open_norms.fieldnorms in
    let own = c.in-Ok-open_norms.ensures.norms whole.fieldnorms i.norms in
    subst (λ (o : OpenIndexState). HaveNormsFor c.args.scoring (requested_terms c.args.query.now) (query_ranges c.args.query.now) (length c.args.schema.now) o.fieldnorms whole.fieldnorms) (sym c.new.ensures)
    (subst (λ (ts : List QueryTermState). HaveNormsFor c.args.scoring ts (query_ranges c.args.query.now) (length c.args.schema.now) norms whole.fieldnorms) terms_are
    (subst (λ (rs : List QueryRangeState). HaveNormsFor c.args.scoring (map term_view c.deref-3.result.now) rs (length c.args.schema.now) norms whole.fieldnorms) ranges_are own))

pub returns-clause-range : goal.returns-clause-range
returns-clause-range g c = λ whole h damaged.
    let f = c.args.files.now in
    let i = index_of_bodies (g.H.FileHandle.bytes f.terms.now) (g.H.FileHandle.bytes f.postings.now) (g.H.FileHandle.bytes f.positions.now) (g.H.FileHandle.bytes f.fieldnorms.now) c.args.schema.now whole h in
    let here : c.in-Err-open_norms.fault ≡ Index (faults.Damaged parts.Range) = cc in
    absurd (c.in-Err-open_norms.ensures.damaged whole.fieldnorms parts.Range i.norms (ap Err here))

pub returns-clause-long : goal.returns-clause-long
returns-clause-long g c = λ whole h damaged.
    let f = c.args.files.now in
    let i = index_of_bodies (g.H.FileHandle.bytes f.terms.now) (g.H.FileHandle.bytes f.postings.now) (g.H.FileHandle.bytes f.positions.now) (g.H.FileHandle.bytes f.fieldnorms.now) c.args.schema.now whole h in
    let here : c.in-Err-open_norms.fault ≡ Index (faults.Damaged parts.TermStore) = cc in
    absurd (c.in-Err-open_norms.ensures.damaged whole.fieldnorms parts.TermStore i.norms (ap Err here))

pub returns-clause-sound : goal.returns-clause-sound
returns-clause-sound g c = λ whole h t_sound p_sound q_sound n_sound.
    let f = c.args.files.now in
    let i = index_of_bodies (g.H.FileHandle.bytes f.terms.now) (g.H.FileHandle.bytes f.postings.now) (g.H.FileHandle.bytes f.positions.now) (g.H.FileHandle.bytes f.fieldnorms.now) c.args.schema.now whole h in
    memory_or_limit (requests c.args.query.now) whole.readers c.in-Err-open_norms.fault (c.in-Err-open_norms.ensures.sound whole.fieldnorms i.norms n_sound)
