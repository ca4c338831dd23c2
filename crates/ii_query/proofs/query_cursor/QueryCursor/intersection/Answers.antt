use Rattle.std.proofs.Common.{◌≡◌, ◌∷◌, ◌∙◌, IsPermutation, ap, arith, get_or, length, rules}
use Rattle.std.specs.List.{AllZip, swap_remove}
use Rattle.std.proofs.lemmas.List.Sorted.{IsPermutation-swap_remove}
use Rattle.ii_query.specs.Combined.{intersection_of}
use Rattle.ii_query.specs.QueryCursor.{cursors_under, rests}
use Rattle.ii_query.proofs.HintLemmas.{intersection_short, leads_with, stands_within}
use Rattle.ii_query.proofs.MeetLemmas.{intersection_permuted}
use Rattle.ii_query.proofs.query_cursor.QueryCursor.intersection.Goals as goal

pub returns-clause-rest : goal.returns-clause-rest
returns-clause-rest g c =
    let cs = c.args.cursors.items in
    let leader = c.swap_remove-leader.result in
    let others = swap_remove cs c.rarest-at.result leader in
    let shuffled : IsPermutation cs (leader ∷ others) = IsPermutation-swap_remove cs c.rarest-at.result leader c.rarest-at.ensures.inside c.swap_remove-leader.ensures.value in
    let met : intersection_of (rests (c.meet-doc.new.leader ∷ c.meet-doc.new.others.items)) ≡ intersection_of (rests (leader ∷ others)) = search rules in
    met ∙ intersection_permuted cs (leader ∷ others) shuffled c.rarest-at.ensures.sound

pub returns-clause-work : goal.returns-clause-work
returns-clause-work g c =
    let cs = c.args.cursors.items in
    let leader = c.swap_remove-leader.result in
    let others = swap_remove cs c.rarest-at.result leader in
    let shuffled : IsPermutation cs (leader ∷ others) = IsPermutation-swap_remove cs c.rarest-at.result leader c.rarest-at.ensures.inside c.swap_remove-leader.ensures.value in
    let work : AllZip g.T.DocSet.went (cursors_under (leader ∷ others)) (cursors_under (c.meet-doc.new.leader ∷ c.meet-doc.new.others.items)) = search rules in
    let at : leader ≡ get_or cs c.rarest-at.result leader = c.swap_remove-leader.ensures.value in
    (leader ∷ others, shuffled, work, leads_with c.rarest-at.result c.bound-hint.result cs others leader at c.rarest-at.ensures.least shuffled c.bound-hint.ensures.hint)

pub invariant_of-result : goal.invariant_of-result
invariant_of-result g c =
    let leader = c.swap_remove-leader.result in
    let others = swap_remove c.args.cursors.items c.rarest-at.result leader in
    let met : intersection_of (rests (c.meet-doc.new.leader ∷ c.meet-doc.new.others.items)) ≡ intersection_of (rests (leader ∷ others)) = search rules in
    let few = intersection_short leader.rest (rests others) in
    let low = c.bound-hint.ensures.enough in
    let long = ap length met in
    stands_within c.meet-doc.result c.bound-hint.result (intersection_of (rests (c.meet-doc.new.leader ∷ c.meet-doc.new.others.items))) c.meet-doc.ensures.at (omega (arith, few, low, long))
