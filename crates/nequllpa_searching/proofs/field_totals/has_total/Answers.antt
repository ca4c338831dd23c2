use Rattle.std.proofs.Common.{◌∙◌, ◌+◌, ap, drop, sym}
use Rattle.std.proofs.lemmas.List.{drop_all}
use Rattle.ii_statistics.proofs.CountLemmas.{dropped_at}
use Rattle.nequllpa_searching.specs.OpenedNumbers.{has_total}
use Rattle.nequllpa_searching.proofs.TotalsLemmas.{has_here, has_later}
use Rattle.nequllpa_searching.proofs.field_totals.has_total.Goals as goal

pub returns-then-eq : goal.returns-then-eq
returns-then-eq c =
    let l = c.loop-place in
    let ts = c.args.totals.now in
    let t = c.index-totals-place.result in
    has_here (drop l.place ts) (drop (l.place + 1) ts) t (dropped_at ts l.place t c.loop-place-test.true c.index-totals-place.is) c.args.field (has_total ts c.args.field) (sym c.eq.ensures ∙ c.if-eq.true) l.invariant

pub loop-place-preserved : goal.loop-place-preserved
loop-place-preserved c =
    let l = c.loop-place in
    let ts = c.args.totals.now in
    let t = c.index-totals-place.result in
    has_later (drop l.place ts) (drop (l.place + 1) ts) t (dropped_at ts l.place t c.loop-place-test.true c.index-totals-place.is) c.args.field (has_total ts c.args.field) (sym c.eq.ensures ∙ c.if-eq.false) l.invariant

pub returns : goal.returns
returns c =
    let l = c.loop-place in
    sym (ap (λ us. has_total us c.args.field) (drop_all l.place c.args.totals.now c.loop-place-test.false)) ∙ l.invariant
