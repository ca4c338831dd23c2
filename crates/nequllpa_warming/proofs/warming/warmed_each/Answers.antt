use Rattle.std.proofs.Common.{◌≡◌, [], arith, inl, refl}
use Rattle.std.proofs.lemmas.List.{nil_from_length}
use Rattle.std.proofs.lemmas.Result.{err_from_is_err_and}
use Rattle.nequllpa_opening.proofs.OpenLemmas.{making_ends, making_goes_on}
use Rattle.nequllpa_warming.specs.Faults.{warmup_memory}
use Rattle.nequllpa_warming.specs.WarmedSegments.{IsWarmupRefusal, WarmsAs}
use Rattle.nequllpa_warming.proofs.WarmingLemmas.{holds_of_next}
use Rattle.nequllpa_warming.proofs.warming.warmed_each.Goals as goal

pub returns-in-Err-clause-refused : goal.returns-in-Err-clause-refused
returns-in-Err-clause-refused g c = λ entries is.
    holds_of_next (WarmsAs entries c.args.query.now c.args.scoring) (λ s. IsWarmupRefusal c.args.schema.now entries c.args.query.now s c.in-Err.fault) c.args.segments.items c.loop-segment.yielded c.loop-segment.segment-iterator.rest.items c.next.new.self.rest.items c.loop-segment.opened.items c.in-Some.segment
    c.in-Some.ensures.steps.0 (c.in-Err.ensures.refused entries is) (c.loop-segment.invariant entries is)

pub loop-segment-preserved : goal.loop-segment-preserved
loop-segment-preserved g c = λ entries is.
    making_goes_on (WarmsAs entries c.args.query.now c.args.scoring) c.args.segments.items c.loop-segment.yielded c.loop-segment.segment-iterator.rest.items c.next.new.self.rest.items c.loop-segment.opened.items c.push.new.self.items c.in-Some.segment c.in-Ok.one
    c.in-Some.ensures.steps.0 c.in_ok-push.ensures.items (c.in-Ok.ensures.opened entries is) (c.loop-segment.invariant entries is)

pub returns-in_err-push-clause-refused : goal.returns-in_err-push-clause-refused
returns-in_err-push-clause-refused g c = λ entries is.
    let p = err_from_is_err_and c.from_residual.result c.from_residual.ensures.1 in
    rw (p.1, p.2) (holds_of_next (WarmsAs entries c.args.query.now c.args.scoring) (λ s. IsWarmupRefusal c.args.schema.now entries c.args.query.now s warmup_memory) c.args.segments.items c.loop-segment.yielded c.loop-segment.segment-iterator.rest.items c.next.new.self.rest.items c.loop-segment.opened.items c.in-Some.segment
    c.in-Some.ensures.steps.0 (λ whole holds tables. inl refl) (c.loop-segment.invariant entries is))

pub returns-clause-opened : goal.returns-clause-opened
returns-clause-opened g c = λ entries is.
    let rest = c.loop-segment.segment-iterator.rest in
    let none : rest.items ≡ [] = nil_from_length rest.items (omega (arith, rest.ok, c.in-None.ensures.steps.0)) in
    making_ends (WarmsAs entries c.args.query.now c.args.scoring) c.args.segments.items c.loop-segment.yielded rest.items c.loop-segment.opened.items none (c.loop-segment.invariant entries is)
