use Rattle.ii_query_parser.proofs.LeftLemmas.{and_not_means, both_left}
use Rattle.ii_query_parser.proofs.query_parser.and_not_left.Goals as goal

pub returns : goal.returns
returns c = λ q s t of_first of_other.
    let e = c.in_ok-and_not.ensures in
    let first = c.in-Some.first in
    let other = c.in-Some-other.other in
    let query = c.in_ok-and_not.field-0 in
    both_left q s t first other query (λ u v left right. and_not_means q u v first other query e.matches e.fields e.positions e.covers left right) (rw c.in-Some.is at of_first) (rw c.in-Some-other.is at of_other)
