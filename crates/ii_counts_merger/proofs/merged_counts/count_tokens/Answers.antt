use Rattle.std.proofs.Common.{◌∙◌, ◌++◌, List, ℕ, ap, arith, length}
use Rattle.ii_counts_merger.specs.CountsSources.{living_row, opened_counts}
use Rattle.ii_counts_merger.proofs.RowLemmas.{row_length}
use Rattle.ii_counts_merger.proofs.merged_counts.count_tokens.Goals as goal

pub sum_of-requires : goal.sum_of-requires
sum_of-requires c =
    let row = living_row c.args.field (opened_counts c.args.source) in
    omega (
      arith,
      c.num_docs-num_docs.type_inv,
      c.num_docs-num_docs.ensures,
      row_length c.args.field (opened_counts c.args.source),
      ap length (c.as_slice.ensures.value ∙ c.in-Ok.ensures.ok ∙ ap (λ (xs : List ℕ). xs ++ row) c.new-row.ensures.items),
    )
