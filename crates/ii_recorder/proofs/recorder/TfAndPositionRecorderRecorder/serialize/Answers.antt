use Rattle.std.proofs.Common.{rules, length, List, [], ◌∷◌, ℕ, ap, ◌≡◌, ◌+◌, ◌<◌, ◌^◌, arith, refl, sym, ◌∙◌}
use Rattle.std.specs.List.{AllByRecursion}
use Rattle.ii_recorder.specs.Pushed.{MayPush}
use Rattle.ii_base.specs.Entries.{Entry}
use Rattle.ii_base.specs.declared.schema.index_record_option.IndexRecordOption.TheVariants.{WithFreqsAndPositions}
use Rattle.ii_recorder.specs.Gathered.{all_of, behind_positions, first_positions, gathered, located_at, none_after, positions_in, with_number}
use Rattle.ii_recorder.proofs.GatheredLemmas.{fewer_behind, positions_left}
use Rattle.ii_recorder.proofs.PushLemmas.{pushing_below, pushing_each, pushing_may, pushing_next, pushing_none, pushing_refused, pushes_one}
use Rattle.ii_recorder.specs.Gathered.{positions_state}
use Rattle.ii_recorder.specs.Recorded.{entries_of_recorder}
use Rattle.ii_recorder.specs.VintRows.{numbers}
use Rattle.ii_recorder.proofs.DeltaLemmas.{few_positions, have_deltas}
use Rattle.ii_recorder.proofs.VintRowLemmas.{length_numbers}
use Rattle.ii_recorder.proofs.recorder.TfAndPositionRecorderRecorder.serialize.Given as given
use Rattle.ii_recorder.proofs.recorder.TfAndPositionRecorderRecorder.serialize.Goals as goal

pub overflow_add-doc : goal.overflow_add-doc
overflow_add-doc g c =
    let last = c.loop-delta.last in
    let delta = c.in-Some.delta in
    let rest = c.next.new.self in
    let all = all_of (positions_in c.new-numbers.result) in
    let may : MayPush WithFreqsAndPositions c.args.serializer.now.index.now all = search rules in
    let left = positions_left last delta c.loop-delta.numbers rest c.in-Some.ensures.steps in
    let below = pushing_below WithFreqsAndPositions c.args.serializer.now.index.now c.loop-delta.serializer.index.now
    all (all_of (gathered with_number (none_after last) c.loop-delta.numbers)) (located_at (last + delta) (first_positions rest)) (all_of (gathered with_number (none_after (last + delta)) (behind_positions rest)))
    c.loop-delta.invariant.3 left may in
    omega (arith, below)

pub take_deltas-requires : goal.take_deltas-requires
take_deltas-requires g c =
    let last = c.loop-delta.last in
    let delta = c.in-Some.delta in
    let rest = c.next.new.self in
    let all = all_of (positions_in c.new-numbers.result) in
    let same : all ≡ entries_of_recorder (positions_state c.self.inside.positions.items) = ap (λ (ns : List ℕ). all_of (positions_in ns)) (c.new-numbers.ensures ∙ ap numbers (c.all_bytes.ensures.value ∙ c.deref.ensures.value)) in
    let counted : AllByRecursion (λ (e : Entry). e.term_freq < 2 ^ 32) all = rw same c.self.invariant.counted in
    let left = positions_left last delta c.loop-delta.numbers rest c.in-Some.ensures.steps in
    record {
      few = pushing_each (λ (e : Entry). e.term_freq < 2 ^ 32) WithFreqsAndPositions c.args.serializer.now.index.now c.loop-delta.serializer.index.now
          all (all_of (gathered with_number (none_after last) c.loop-delta.numbers)) (located_at (last + delta) (first_positions rest)) (all_of (gathered with_number (none_after (last + delta)) (behind_positions rest)))
          c.loop-delta.invariant.3 left counted;
    }

-- the next document may be added
may_push : (g : given.Over) (c : goal.After-deref-in-Some g) → MayPush WithFreqsAndPositions c.loop-delta.serializer.index.now (located_at (c.loop-delta.last + c.in-Some.delta) (first_positions c.next.new.self) ∷ [])
may_push g c =
    let last = c.loop-delta.last in
    let delta = c.in-Some.delta in
    let rest = c.next.new.self in
    let all = all_of (positions_in c.new-numbers.result) in
    let may : MayPush WithFreqsAndPositions c.args.serializer.now.index.now all = search rules in
    let left = positions_left last delta c.loop-delta.numbers rest c.in-Some.ensures.steps in
    pushing_may WithFreqsAndPositions c.args.serializer.now.index.now c.loop-delta.serializer.index.now
    all (all_of (gathered with_number (none_after last) c.loop-delta.numbers)) (located_at (last + delta) (first_positions rest)) (all_of (gathered with_number (none_after (last + delta)) (behind_positions rest)))
    c.loop-delta.invariant.3 left may

pub write_doc-pushed-requires-clause-ascending : goal.write_doc-pushed-requires-clause-ascending
write_doc-pushed-requires-clause-ascending g c opened = (may_push g c).ascending opened

pub write_doc-pushed-requires-clause-counted : goal.write_doc-pushed-requires-clause-counted
write_doc-pushed-requires-clause-counted g c opened has = rw c.in-Ok.ensures.count ((may_push g c).counted opened has).0

pub write_doc-pushed-requires-clause-covered : goal.write_doc-pushed-requires-clause-covered
write_doc-pushed-requires-clause-covered g c opened = ((may_push g c).covered opened).0

pub returns-then-is_err-2-clause-pushes : goal.returns-then-is_err-2-clause-pushes
returns-then-is_err-2-clause-pushes g c =
    let e = c.write_doc-pushed.ensures in
    let located = c.deref-in-Some.ensures.value ∙ c.in-Ok.ensures.ok in
    let pushed = pushes_one WithFreqsAndPositions c.loop-delta.serializer.index.now c.write_doc-pushed.new.self.index.now (located_at (c.loop-delta.last + c.in-Some.delta) (first_positions c.next.new.self)) c.in-Ok.count c.deref-in-Some.result.now
    c.write_doc-pushed.result c.in-Ok.ensures.count located (search rules) e.ok e.ends e.limit e.only in
    let last = c.loop-delta.last in
    let delta = c.in-Some.delta in
    let rest = c.next.new.self in
    let all = all_of (positions_in c.new-numbers.result) in
    let left = positions_left last delta c.loop-delta.numbers rest c.in-Some.ensures.steps in
    let refused = sym c.if-is_err-2.true ∙ c.is_err-in-Some.ensures.value in
    let same : all ≡ entries_of_recorder (positions_state c.self.inside.positions.items) = ap (λ (ns : List ℕ). all_of (positions_in ns)) (c.new-numbers.ensures ∙ ap numbers (c.all_bytes.ensures.value ∙ c.deref.ensures.value)) in
    rw (← c.self.view_is) (rw same at (pushing_refused WithFreqsAndPositions c.args.serializer.now.index.now c.loop-delta.serializer.index.now c.write_doc-pushed.new.self.index.now
    all (all_of (gathered with_number (none_after last) c.loop-delta.numbers)) (located_at (last + delta) (first_positions rest)) (all_of (gathered with_number (none_after (last + delta)) (behind_positions rest)))
    c.write_doc-pushed.result c.loop-delta.invariant.3 left refused pushed))

pub loop-delta-smaller : goal.loop-delta-smaller
loop-delta-smaller g c =
    let fewer = fewer_behind c.next.new.self in
    rw (c.in-Ok.ensures.rest, c.in-Some.ensures.steps) (omega (arith, fewer))

pub loop-delta-preserved : goal.loop-delta-preserved
loop-delta-preserved g c =
    let e = c.write_doc-pushed.ensures in
    let located = c.deref-in-Some.ensures.value ∙ c.in-Ok.ensures.ok in
    let pushed = pushes_one WithFreqsAndPositions c.loop-delta.serializer.index.now c.write_doc-pushed.new.self.index.now (located_at (c.loop-delta.last + c.in-Some.delta) (first_positions c.next.new.self)) c.in-Ok.count c.deref-in-Some.result.now
    c.write_doc-pushed.result c.in-Ok.ensures.count located (search rules) e.ok e.ends e.limit e.only in
    let last = c.loop-delta.last in
    let delta = c.in-Some.delta in
    let rest = c.next.new.self in
    let all = all_of (positions_in c.new-numbers.result) in
    let left = positions_left last delta c.loop-delta.numbers rest c.in-Some.ensures.steps in
    let went = sym c.if-is_err-2.false ∙ c.is_err-in-Some.ensures.value in
    let next = pushing_next WithFreqsAndPositions c.args.serializer.now.index.now c.loop-delta.serializer.index.now c.write_doc-pushed.new.self.index.now
    all (all_of (gathered with_number (none_after last) c.loop-delta.numbers)) (located_at (last + delta) (first_positions rest)) (all_of (gathered with_number (none_after (last + delta)) (behind_positions rest)))
    c.write_doc-pushed.result c.loop-delta.invariant.3 left went pushed in
    (tt, tt, c.write_doc-pushed.ensures.same_reference ∙ c.loop-delta.invariant.2, rw c.in-Ok.ensures.rest next)

pub loop-delta-init : goal.loop-delta-init
loop-delta-init g c =
    (tt, tt, refl, pushing_none WithFreqsAndPositions c.args.serializer.now.index.now (all_of (positions_in c.new-numbers.result)) c.check_open-checked.result c.check_open-checked.ensures (sym c.is_err.ensures.value ∙ c.if-is_err.false))

pub returns-clause-located : goal.returns-clause-located
returns-clause-located g c =
    let bytes = c.self.inside.positions.items in
    let few : length bytes < 2 ^ 64 = rw c.deref.ensures.value at c.all_bytes.ensures.few in
    let counts = few_positions (numbers bytes) in
    let count = length_numbers bytes in
    rw (← c.self.view_is) (λ _. have_deltas (entries_of_recorder (positions_state bytes)) c.self.invariant.located (omega (arith, few, counts, count)))

pub returns-in-Err-clause-located : goal.returns-in-Err-clause-located
returns-in-Err-clause-located g c =
    let bytes = c.self.inside.positions.items in
    let few : length bytes < 2 ^ 64 = rw c.deref.ensures.value at c.all_bytes.ensures.few in
    let counts = few_positions (numbers bytes) in
    let count = length_numbers bytes in
    rw (← c.self.view_is) (λ _. have_deltas (entries_of_recorder (positions_state bytes)) c.self.invariant.located (omega (arith, few, counts, count)))

pub returns-then-is_err-clause-located : goal.returns-then-is_err-clause-located
returns-then-is_err-clause-located g c =
    let bytes = c.self.inside.positions.items in
    let few : length bytes < 2 ^ 64 = rw c.deref.ensures.value at c.all_bytes.ensures.few in
    let counts = few_positions (numbers bytes) in
    let count = length_numbers bytes in
    rw (← c.self.view_is) (λ _. have_deltas (entries_of_recorder (positions_state bytes)) c.self.invariant.located (omega (arith, few, counts, count)))

pub returns-then-is_err-2-clause-located : goal.returns-then-is_err-2-clause-located
returns-then-is_err-2-clause-located g c =
    let bytes = c.self.inside.positions.items in
    let few : length bytes < 2 ^ 64 = rw c.deref.ensures.value at c.all_bytes.ensures.few in
    let counts = few_positions (numbers bytes) in
    let count = length_numbers bytes in
    rw (← c.self.view_is) (λ _. have_deltas (entries_of_recorder (positions_state bytes)) c.self.invariant.located (omega (arith, few, counts, count)))
