use Rattle.std.proofs.lemmas.Int.{to_z-of_z}
use Rattle.std.specs.Int.{w64, w128}
use Rattle.jiff_core.proofs.SignedLemmas.{signed_arith}
use Rattle.std.proofs.Common.{ap, arith, FitsSigned, of_z, to_z, ◌≡◌, rules, ◌∙◌}
use Rattle.ii_dates.specs.Dates.{date_text}
use Rattle.ii_dates.proofs.DateLaws.{printed_is}
use Rattle.ii_dates.proofs.dates.push_date.Goals as goal

pub returns : goal.returns
returns c =
    let fits = c.ranges.nanoseconds in
    let wide : FitsSigned w128 c.args.nanoseconds = omega (arith, signed_arith, fits) in
    let narrow = to_z-of_z w64 c.args.nanoseconds fits in
    let same = to_z-of_z w128 c.args.nanoseconds wide in
    let shown = c.timestamp_text-date.ensures in
    let is = shown.1 ∙ ap (λ z. to_z w128 (of_z w128 z)) narrow ∙ same in
    let printed = printed_is c.new.result c.args.nanoseconds c.timestamp_text-date.result.bytes c.new.ensures fits shown.0 is shown.2 in
    let text : c.as_str.result.now ≡ date_text c.args.nanoseconds = c.as_str.ensures.value ∙ printed in
    rw (← text) (search rules)
