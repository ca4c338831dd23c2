use Rattle.std.proofs.Common.{arith, rules}
use Rattle.std.proofs.lemmas.Str.{IsCharBoundary-after_ascii, IsCharBoundary-before_ascii}
use Rattle.ii_query_parser.proofs.TermLemmas.{dot_at}
use Rattle.ii_query_parser.proofs.literal.cut_at_dot.Goals as goal

pub split_at-requires : goal.split_at-requires
split_at-requires c =
    let dot = dot_at c.args.name.now c.in-Some.place (search rules) in
    let here = dot.1 in
    IsCharBoundary-before_ascii c.args.name.now c.in-Some.place dot.0 (omega (arith, here))

pub split_at-requires-2 : goal.split_at-requires-2
split_at-requires-2 c =
    let dot = dot_at c.args.name.now c.in-Some.place (search rules) in
    let here = dot.1 in
    IsCharBoundary-after_ascii c.args.name.now c.in-Some.place c.utf8.name dot.0 (omega (arith, here))
