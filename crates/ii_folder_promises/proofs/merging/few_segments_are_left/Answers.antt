use Rattle.std.proofs.Common.{◌≤◌, ℕ, length, subst, sym, arith}
use Rattle.nequllpa_merging.specs.MergePolicy.{first_outgrown, joined_from}
use Rattle.ii_folder_promises.proofs.merging.few_segments_are_left.Goals as goal

pub returns : goal.returns
returns c = λ few.
    let counts = c.args.num_living.now in
    let law = c.merges_settle.ensures counts in
    let total = law.total in
    subst (λ (first : ℕ). length (joined_from first counts) ≤ 32) (sym c.first_to_merge.ensures) (c.settled_are_few.ensures (joined_from (first_outgrown counts) counts) law.settled (omega (arith, total, few)))
