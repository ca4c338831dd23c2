use Rattle.std.proofs.Common.{◌∙◌, ◌+◌, ◌++◌, ℕ, Option, drop, map, sym, ap, subst, arith}
use Rattle.std.specs.List.{AllByRecursion}
use Rattle.ii_base.specs.declared.doc_id.TheConstants.{TERMINATED}
use Rattle.ii_alive.specs.Alive.{num_living}
use Rattle.ii_fieldnorm.specs.Readers.{Norms}
use Rattle.ii_postings_writer.proofs.FieldEndings.{grow_by_none}
use Rattle.ii_postings_writer.proofs.SerializeLemmas.{always_on_ok}
use Rattle.ii_segments.specs.Segments.{living_entries}
use Rattle.ii_termstore.specs.declared.term_info.TermInfo.{TermInfo}
use Rattle.ii_merger.specs.MergeSources.{entries_under, source_damage, list_under, source_of, living_in_sources}
use Rattle.ii_merger.specs.MergedTerm.{CoversBelow, IsPushFault, IsReadableEntry, LieBetween, Merges, skip_of}
use Rattle.ii_merger.proofs.MergeLemmas.{merges_ends, merges_norms}
use Rattle.ii_merger.proofs.SourceLemmas.{info_at, none_after, numbers_fit}
use Rattle.ii_definitions.proofs.ListLaws.{mapped_at}
use Rattle.ii_merger.proofs.TermMergeLemmas.{IsMergingTerm, closing_fault, closing_writing, merging_all, merging_fault, merging_next, sound_term}
use Rattle.ii_merger.proofs.merging.merge_term.Goals as goal

pub merge_list-requires-clause-numbered : goal.merge_list-requires-clause-numbered
merge_list-requires-clause-numbered g c =
    let all = map source_of c.args.sources.now in
    let place = c.loop-place.place in
    let s = c.index-sources-place.result in
    numbers_fit all (drop place all) (drop (place + 1) all) (source_of s) c.loop-place.base TERMINATED c.loop-place.invariant.merging.base_is (mapped_at source_of c.args.sources.now place s c.loop-place-test.true c.index-sources-place.is) c.requires.few

pub merge_list-requires-clause-covered : goal.merge_list-requires-clause-covered
merge_list-requires-clause-covered g c doc low =
    let all = map source_of c.args.sources.now in
    let place = c.loop-place.place in
    let s = c.index-sources-place.result in
    let h = c.loop-place.invariant.merging in
    let fits = numbers_fit all (drop place all) (drop (place + 1) all) (source_of s) c.loop-place.base (living_in_sources all) h.base_is (mapped_at source_of c.args.sources.now place s c.loop-place-test.true c.index-sources-place.is) (omega arith) in
    let norms = merges_norms c.args.term.key.now c.args.term.kind c.args.serializer.now.index.now c.loop-place.begun c.loop-place.serializer.index.now h.done h.merges in
    subst (λ (n : Option Norms). CoversBelow n (living_in_sources all)) (sym norms) c.requires.covered doc (omega (arith, low, fits))

pub returns-in-Err-clause-grow : goal.returns-in-Err-clause-grow
returns-in-Err-clause-grow g c =
    let h = c.loop-place.invariant.merging in
    let before = merges_ends c.args.term.key.now c.args.term.kind c.args.serializer.now.index.now c.loop-place.begun c.loop-place.serializer.index.now h.done c.requires.start h.merges in
    grow_by_none c.args.serializer.now.index.now.bodies c.merge_list.new.serializer.index.now.bodies (c.in-Err.ensures.ends.bodies ∙ before.bodies)

pub returns-in-Err-clause-fault : goal.returns-in-Err-clause-fault
returns-in-Err-clause-fault g c initial field tokens norms ts writing =
    let all = map source_of c.args.sources.now in
    let key = c.args.term.key.now in
    let kind = c.args.term.kind in
    let first = c.args.serializer.now.index.now in
    let place = c.loop-place.place in
    let s = source_of c.index-sources-place.result in
    let h = c.loop-place.invariant.merging in
    let info = info_at key c.args.sources.now c.args.infos.now place c.index-sources-place.result c.loop-place-test.true c.index-sources-place.is c.requires.infos in
    let own = subst (λ (o : Option TermInfo). IsPushFault (source_damage kind s.alive (list_under kind s o)) (skip_of first.field.term.mode kind) kind (h.done ++ living_entries c.loop-place.base s.alive (entries_under kind s o)) c.in-Err.fault) info
    (c.in-Err.ensures.fault first h.done c.requires.start h.merges) in
    merging_fault key kind first all (drop place all) c.loop-place.begun c.loop-place.base c.loop-place.serializer.index.now h s (drop (place + 1) all) c.in-Err.fault initial tokens norms ts
    (mapped_at source_of c.args.sources.now place c.index-sources-place.result c.loop-place-test.true c.index-sources-place.is) c.requires.kind own

pub overflow_add-base : goal.overflow_add-base
overflow_add-base g c =
    let all = map source_of c.args.sources.now in
    let place = c.loop-place.place in
    let s = c.index-sources-place.result in
    let fits = numbers_fit all (drop place all) (drop (place + 1) all) (source_of s) c.loop-place.base TERMINATED c.loop-place.invariant.merging.base_is (mapped_at source_of c.args.sources.now place s c.loop-place-test.true c.index-sources-place.is) c.requires.few in
    omega (arith, fits, c.num_living-base.ensures)

pub loop-place-preserved : goal.loop-place-preserved
loop-place-preserved g c =
    let all = map source_of c.args.sources.now in
    let key = c.args.term.key.now in
    let kind = c.args.term.kind in
    let first = c.args.serializer.now.index.now in
    let place = c.loop-place.place in
    let base = c.loop-place.base in
    let s = source_of c.index-sources-place.result in
    let h = c.loop-place.invariant.merging in
    let new = c.merge_list.new.serializer.index.now in
    let info = info_at key c.args.sources.now c.args.infos.now place c.index-sources-place.result c.loop-place-test.true c.index-sources-place.is c.requires.infos in
    let merges = subst (λ (o : Option TermInfo). Merges c.in-Ok.begun key kind first new (h.done ++ living_entries base s.alive (entries_under kind s o))) info (c.in-Ok.ensures.merges first h.done c.requires.start h.merges) in
    let docs = subst (λ (o : Option TermInfo). LieBetween base (base + num_living s.alive) (living_entries base s.alive (entries_under kind s o))) info c.in-Ok.ensures.docs in
    let readable = subst (λ (o : Option TermInfo). AllByRecursion (IsReadableEntry kind) (living_entries base s.alive (entries_under kind s o))) info c.in-Ok.ensures.readable in
    let sound = sym (ap (λ (o : Option TermInfo). source_damage kind s.alive (list_under kind s o)) info) ∙ c.in-Ok.ensures.sound in
    let next = merging_next key kind first all (drop place all) c.loop-place.begun base c.loop-place.serializer.index.now h s (drop (place + 1) all) c.in-Ok.begun new
    (mapped_at source_of c.args.sources.now place c.index-sources-place.result c.loop-place-test.true c.index-sources-place.is) merges docs readable sound in
    record {
      same = c.merge_list.ensures.same_reference ∙ c.loop-place.invariant.same;
      merging = subst (λ (n : ℕ). IsMergingTerm key kind first all (drop (place + 1) all) c.in-Ok.begun (base + n) new) (sym c.num_living-base.ensures) next;
    }

pub returns-clause-writing : goal.returns-clause-writing
returns-clause-writing g c initial field tokens norms ts writing =
    let all = map source_of c.args.sources.now in
    let key = c.args.term.key.now in
    let kind = c.args.term.kind in
    let first = c.args.serializer.now.index.now in
    let place = c.loop-place.place in
    let h = c.loop-place.invariant.merging in
    let whole = merging_all key kind first all (drop place all) c.loop-place.begun c.loop-place.base c.loop-place.serializer.index.now h (none_after c.args.sources.now place c.loop-place-test.false) in
    rw whole
    (closing_writing key kind first c.loop-place.serializer.index.now c.close_term.new.self.index.now c.close_term.result c.close_term.ensures.none c.loop-place.begun h.done h.merges c.requires.start c.requires.kind h.readable initial field tokens norms ts writing
    (λ inside w. c.close_term.ensures.writing initial field tokens norms ts key inside w))

pub returns-clause-sound : goal.returns-clause-sound
returns-clause-sound g c =
    let all = map source_of c.args.sources.now in
    let place = c.loop-place.place in
    let h = c.loop-place.invariant.merging in
    let none = none_after c.args.sources.now place c.loop-place-test.false in
    always_on_ok c.close_term.result _
    (sound_term c.args.term.key.now c.args.term.kind c.args.serializer.now.index.now all (drop place all) c.loop-place.begun c.loop-place.base c.loop-place.serializer.index.now h none c.requires.kind (omega (arith, h.base_is, c.requires.few)))

pub returns-clause-fault : goal.returns-clause-fault
returns-clause-fault g c initial field tokens norms ts writing =
    let all = map source_of c.args.sources.now in
    let key = c.args.term.key.now in
    let kind = c.args.term.kind in
    let first = c.args.serializer.now.index.now in
    let place = c.loop-place.place in
    let h = c.loop-place.invariant.merging in
    let whole = merging_all key kind first all (drop place all) c.loop-place.begun c.loop-place.base c.loop-place.serializer.index.now h (none_after c.args.sources.now place c.loop-place-test.false) in
    closing_fault key kind first c.loop-place.serializer.index.now c.close_term.new.self.index.now c.close_term.result c.close_term.ensures.none c.loop-place.begun h.done all h.merges c.requires.start c.requires.kind h.readable whole
    initial field tokens norms ts writing c.close_term.ensures.ends c.close_term.ensures.fault
