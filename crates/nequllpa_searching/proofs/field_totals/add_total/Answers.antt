use Rattle.std.proofs.Common.{refl}
use Rattle.nequllpa_searching.specs.declared.field_totals.FieldTotal.{FieldTotal}
use Rattle.nequllpa_searching.proofs.TotalsLemmas.{exact_new, has_new, has_old}
use Rattle.nequllpa_searching.proofs.field_totals.add_total.Goals as goal

pub returns-clause-here : goal.returns-clause-here
returns-clause-here c =
    let t : FieldTotal = record { field = c.args.field; num_tokens = c.in-Ok.num_tokens } in
    has_new c.args.totals.now.items c.push.new.self.items t c.in_ok-push.ensures.items c.args.field refl

pub returns-clause-keeps : goal.returns-clause-keeps
returns-clause-keeps c =
    let t : FieldTotal = record { field = c.args.field; num_tokens = c.in-Ok.num_tokens } in
    has_old c.args.totals.now.items c.push.new.self.items t c.in_ok-push.ensures.items

pub returns-clause-exact : goal.returns-clause-exact
returns-clause-exact c =
    let t : FieldTotal = record { field = c.args.field; num_tokens = c.in-Ok.num_tokens } in
    exact_new c.args.totals.now.items c.push.new.self.items t c.in_ok-push.ensures.items c.args.segments.now (record { known = c.in-Ok.ensures.known; counted = c.in-Ok.ensures.counted })
