use Rattle.std.proofs.Common.{◌≡◌, ◌+◌, ℕ, List, [], ◌∷◌, ap, arith, refl, rules, sym, ◌∙◌}
use Rattle.ii_base.specs.Entries.{counted}
use Rattle.ii_base.specs.declared.schema.index_record_option.IndexRecordOption.TheVariants.{WithFreqs}
use Rattle.ii_recorder.specs.Gathered.{counted_all, counts_in, counts_state, gathered, none_after, with_count}
use Rattle.ii_recorder.specs.Pushed.{MayPush}
use Rattle.ii_recorder.specs.Recorded.{entries_of_recorder}
use Rattle.ii_recorder.specs.VintRows.{numbers}
use Rattle.ii_recorder.proofs.GatheredLemmas.{counts_left}
use Rattle.ii_recorder.proofs.PushLemmas.{pushing_below, pushing_may, pushing_next, pushing_none, pushing_refused, pushes_one}
use Rattle.ii_recorder.proofs.recorder.TermFrequencyRecorderRecorder.serialize.Given as given
use Rattle.ii_recorder.proofs.recorder.TermFrequencyRecorderRecorder.serialize.Goals as goal

pub overflow_add-doc : goal.overflow_add-doc
overflow_add-doc g c =
    let open_freq = c.self.inside.term_freq in
    let last = c.loop-delta.last in
    let delta = c.in-Some.delta in
    let count = c.next_or-term_freq.result in
    let all = counted_all open_freq (counts_in c.new-numbers.result) in
    let may : MayPush WithFreqs c.args.serializer.now.index.now all = search rules in
    let left = counts_left open_freq last delta count c.loop-delta.numbers c.next.new.self c.next_or-term_freq.new.numbers c.in-Some.ensures.steps c.next_or-term_freq.ensures.number c.next_or-term_freq.ensures.rest in
    let below = pushing_below WithFreqs c.args.serializer.now.index.now c.loop-delta.serializer.index.now
    all (counted_all open_freq (gathered with_count (none_after last) c.loop-delta.numbers)) (counted (last + delta) count) (counted_all open_freq (gathered with_count (none_after (last + delta)) c.next_or-term_freq.new.numbers))
    c.loop-delta.invariant.3 left may in
    omega (arith, below)

-- the next document may be added
may_push : (g : given.Over) (c : goal.After-write_doc-arg-in-Some-2-1 g) → MayPush WithFreqs c.loop-delta.serializer.index.now (counted (c.loop-delta.last + c.in-Some.delta) c.next_or-term_freq.result ∷ [])
may_push g c =
    let open_freq = c.self.inside.term_freq in
    let last = c.loop-delta.last in
    let delta = c.in-Some.delta in
    let count = c.next_or-term_freq.result in
    let all = counted_all open_freq (counts_in c.new-numbers.result) in
    let may : MayPush WithFreqs c.args.serializer.now.index.now all = search rules in
    let left = counts_left open_freq last delta count c.loop-delta.numbers c.next.new.self c.next_or-term_freq.new.numbers c.in-Some.ensures.steps c.next_or-term_freq.ensures.number c.next_or-term_freq.ensures.rest in
    pushing_may WithFreqs c.args.serializer.now.index.now c.loop-delta.serializer.index.now
    all (counted_all open_freq (gathered with_count (none_after last) c.loop-delta.numbers)) (counted (last + delta) count) (counted_all open_freq (gathered with_count (none_after (last + delta)) c.next_or-term_freq.new.numbers))
    c.loop-delta.invariant.3 left may

pub write_doc-pushed-requires-clause-ascending : goal.write_doc-pushed-requires-clause-ascending
write_doc-pushed-requires-clause-ascending g c opened = (may_push g c).ascending opened

pub write_doc-pushed-requires-clause-counted : goal.write_doc-pushed-requires-clause-counted
write_doc-pushed-requires-clause-counted g c opened has = ((may_push g c).counted opened has).0

pub write_doc-pushed-requires-clause-covered : goal.write_doc-pushed-requires-clause-covered
write_doc-pushed-requires-clause-covered g c opened = ((may_push g c).covered opened).0

pub returns-then-is_err-2-clause-pushes : goal.returns-then-is_err-2-clause-pushes
returns-then-is_err-2-clause-pushes g c =
    let e = c.write_doc-pushed.ensures in
    let count = c.next_or-term_freq.result in
    let pushed = pushes_one WithFreqs c.loop-delta.serializer.index.now c.write_doc-pushed.new.self.index.now (counted (c.loop-delta.last + c.in-Some.delta) count) count [] c.write_doc-pushed.result refl refl (search rules) e.ok e.ends e.limit e.only in
    let open_freq = c.self.inside.term_freq in
    let last = c.loop-delta.last in
    let delta = c.in-Some.delta in
    let count = c.next_or-term_freq.result in
    let all = counted_all open_freq (counts_in c.new-numbers.result) in
    let left = counts_left open_freq last delta count c.loop-delta.numbers c.next.new.self c.next_or-term_freq.new.numbers c.in-Some.ensures.steps c.next_or-term_freq.ensures.number c.next_or-term_freq.ensures.rest in
    let same : all ≡ entries_of_recorder (counts_state c.self.inside.counts.items open_freq) = ap (λ (ns : List ℕ). counted_all open_freq (counts_in ns)) (c.new-numbers.ensures ∙ ap numbers c.deref.ensures.value) in
    let refused = sym c.if-is_err-2.true ∙ c.is_err-in-Some.ensures.value in
    rw (← c.self.view_is) (rw same at (pushing_refused WithFreqs c.args.serializer.now.index.now c.loop-delta.serializer.index.now c.write_doc-pushed.new.self.index.now
    all (counted_all open_freq (gathered with_count (none_after last) c.loop-delta.numbers)) (counted (last + delta) count) (counted_all open_freq (gathered with_count (none_after (last + delta)) c.next_or-term_freq.new.numbers))
    c.write_doc-pushed.result c.loop-delta.invariant.3 left refused pushed))

pub loop-delta-preserved : goal.loop-delta-preserved
loop-delta-preserved g c =
    let e = c.write_doc-pushed.ensures in
    let count = c.next_or-term_freq.result in
    let pushed = pushes_one WithFreqs c.loop-delta.serializer.index.now c.write_doc-pushed.new.self.index.now (counted (c.loop-delta.last + c.in-Some.delta) count) count [] c.write_doc-pushed.result refl refl (search rules) e.ok e.ends e.limit e.only in
    let open_freq = c.self.inside.term_freq in
    let last = c.loop-delta.last in
    let delta = c.in-Some.delta in
    let count = c.next_or-term_freq.result in
    let all = counted_all open_freq (counts_in c.new-numbers.result) in
    let left = counts_left open_freq last delta count c.loop-delta.numbers c.next.new.self c.next_or-term_freq.new.numbers c.in-Some.ensures.steps c.next_or-term_freq.ensures.number c.next_or-term_freq.ensures.rest in
    let went = sym c.if-is_err-2.false ∙ c.is_err-in-Some.ensures.value in
    let next = pushing_next WithFreqs c.args.serializer.now.index.now c.loop-delta.serializer.index.now c.write_doc-pushed.new.self.index.now
    all (counted_all open_freq (gathered with_count (none_after last) c.loop-delta.numbers)) (counted (last + delta) count) (counted_all open_freq (gathered with_count (none_after (last + delta)) c.next_or-term_freq.new.numbers))
    c.write_doc-pushed.result c.loop-delta.invariant.3 left went pushed in
    (tt, tt, c.write_doc-pushed.ensures.same_reference ∙ c.loop-delta.invariant.2, next)

pub loop-delta-init : goal.loop-delta-init
loop-delta-init g c =
    (tt, tt, refl, pushing_none WithFreqs c.args.serializer.now.index.now (counted_all c.self.inside.term_freq (counts_in c.new-numbers.result)) c.check_open-checked.result c.check_open-checked.ensures (sym c.is_err.ensures.value ∙ c.if-is_err.false))
