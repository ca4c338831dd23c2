use Rattle.std.proofs.Common.{◌∙◌, ◌+◌, arith, drop, sym}
use Rattle.ii_statistics.proofs.CountLemmas.{dropped_at}
use Rattle.nequllpa_searching.specs.OpenedNumbers.{total_of}
use Rattle.nequllpa_searching.proofs.TotalsLemmas.{total_here, total_later}
use Rattle.nequllpa_searching.proofs.field_totals.FieldTotalsFieldTokens.num_tokens.Goals as goal

pub returns-then-eq : goal.returns-then-eq
returns-then-eq c =
    let l = c.loop-place in
    let ts = c.args.self.now.totals.items in
    let t = c.index.result.now in
    total_here (drop l.place ts) (drop (l.place + 1) ts) t (dropped_at ts l.place t (omega (arith, c.loop-place-test.true, c.len-place-end.ensures)) c.index.ensures) c.args.field (total_of ts c.args.field) (sym c.eq.ensures ∙ c.if-eq.true) l.invariant

pub loop-place-preserved : goal.loop-place-preserved
loop-place-preserved c =
    let l = c.loop-place in
    let ts = c.args.self.now.totals.items in
    let t = c.index.result.now in
    total_later (drop l.place ts) (drop (l.place + 1) ts) t (dropped_at ts l.place t (omega (arith, c.loop-place-test.true, c.len-place-end.ensures)) c.index.ensures) c.args.field (total_of ts c.args.field) (sym c.eq.ensures ∙ c.if-eq.false) l.invariant
