use Rattle.std.proofs.Common.{◌∙◌, ◌-◌, ◌+◌, ◌≡◌, sym, arith, suc, nat_cmp}
use Rattle.std.specs.BTreeSet.{contains}
use Rattle.ii_io.specs.Composite.{has_place}
use Rattle.ii_io.proofs.CompositeReadLemmas.{left-short, left-outside, left-repeated, left-more, within-more, distinct-more, seen-step, not_added, was_added}
use Rattle.ii_file_slice.proofs.composite_slices.read_places.Goals as goal

pub returns-in_default-clause-damaged : goal.returns-in_default-clause-damaged
returns-in_default-clause-damaged c =
    λ _. c.loop-i.invariant.left_over ∙ left-short c.args.size c.loop-i.places.items (c.args.count - c.loop-i._i) c.loop-i.rest.now (omega arith) (sym c.in_default.ensures.value)

pub returns-then-not-lies_within-clause-damaged : goal.returns-then-not-lies_within-clause-damaged
returns-then-not-lies_within-clause-damaged c =
    λ _. c.loop-i.invariant.left_over ∙ left-outside c.args.size c.loop-i.places.items (c.args.count - c.loop-i._i) c.loop-i.rest.now c.deserialize.new.reader.now c.in-Some.place (omega arith) (sym c.in-Some.ensures.value) (sym c.if-not-lies_within.ensures)

pub returns-then-not-branch-clause-damaged : goal.returns-then-not-branch-clause-damaged
returns-then-not-branch-clause-damaged c =
    let places = c.loop-i.places.items in
    let seen = c.loop-i.invariant.seen c.in-Some.place.field in
    let added = rw c.field_id.ensures at c.in_ok-insert.ensures.added in
    let repeated = not_added c.in_ok-insert.field-0 (contains nat_cmp c.loop-i.fields c.in-Some.place.field) (has_place c.in-Some.place.field places) added c.if-not-branch.true seen in
    λ _. c.loop-i.invariant.left_over ∙ left-repeated c.args.size places (c.args.count - c.loop-i._i) c.loop-i.rest.now c.deserialize.new.reader.now c.in-Some.place (omega arith) (sym c.in-Some.ensures.value) repeated

pub loop-i-preserved : goal.loop-i-preserved
loop-i-preserved c =
    let known = c.loop-i.invariant in
    let places = c.loop-i.places.items in
    let place = c.in-Some.place in
    let added = rw c.field_id.ensures at c.in_ok-insert.ensures.added in
    let new_field = was_added c.in_ok-insert.field-0 (contains nat_cmp c.loop-i.fields place.field) (has_place place.field places) added c.if-not-branch.false (known.seen place.field) in
    let one_more : c.args.count - c.loop-i._i ≡ suc (c.args.count - (c.loop-i._i + 1)) = omega arith in
    rw c.in_ok-push.ensures.items (record {
      left_over = known.left_over ∙ left-more c.args.size places (c.args.count - c.loop-i._i) (c.args.count - (c.loop-i._i + 1)) c.loop-i.rest.now c.deserialize.new.reader.now place one_more (sym c.in-Some.ensures.value);
      within = within-more c.args.size places place known.within (sym c.if-not-lies_within.ensures);
      distinct = distinct-more places place known.distinct new_field;
      seen = seen-step (λ q. contains nat_cmp c.loop-i.fields q) (λ q. contains nat_cmp c.insert.new.self q) places place c.field_id.result c.field_id.ensures known.seen c.in_ok-insert.ensures.updates.0;
    })
