use Rattle.std.proofs.Common.{◌∙◌, inr, List, ℕ, length, map, subst}
use Rattle.ii_counts.specs.CountsWriter.{HoldRows, IsRowsFault}
use Rattle.ii_counts_merger.specs.CountsSources.{opened_counts}
use Rattle.ii_counts_merger.proofs.HoldLemmas.{rows_held, totals_held}
use Rattle.ii_counts_merger.proofs.RowLemmas.{rows_are}
use Rattle.ii_counts_merger.proofs.merged_counts.merge_counts.Goals as goal

pub returns-in-Ok-into_file-clause-rows : goal.returns-in-Ok-into_file-clause-rows
returns-in-Ok-into_file-clause-rows c =
    let are = rows_are (length c.args.schema.now) c.args.num_docs (map opened_counts c.args.sources.now) c.in-Ok.rows.0 c.requires.docs c.in-Ok.ensures.rows in
    subst (λ (rows : List (List ℕ)). HoldRows rows c.in-Ok-into_file.bytes.items) are c.in-Ok-into_file.ensures.holds

pub returns-in-Ok-into_file-clause-holds : goal.returns-in-Ok-into_file-clause-holds
returns-in-Ok-into_file-clause-holds c = λ ss hold.
    let cs = map opened_counts c.args.sources.now in
    let are = rows_are (length c.args.schema.now) c.args.num_docs cs c.in-Ok.rows.0 c.requires.docs c.in-Ok.ensures.rows in
    subst (λ (rows : List (List ℕ)). HoldRows rows c.in-Ok-into_file.bytes.items) (are ∙ rows_held c.args.schema.now cs ss (λ field. c.counts_of_segments.ensures field ss) hold) c.in-Ok-into_file.ensures.holds

pub returns-in-Ok-into_file-clause-counted : goal.returns-in-Ok-into_file-clause-counted
returns-in-Ok-into_file-clause-counted c = λ ss hold.
    let cs = map opened_counts c.args.sources.now in
    c.in-Ok.ensures.totals ∙ totals_held c.args.schema.now cs ss (λ field. c.counts_of_segments.ensures field ss) hold

pub returns-in-Err-into_file-clause-fault : goal.returns-in-Err-into_file-clause-fault
returns-in-Err-into_file-clause-fault c =
    let cs = map opened_counts c.args.sources.now in
    inr (subst (λ (rows : List (List ℕ)). IsRowsFault rows c.in-Err-into_file.fault) (rows_are (length c.args.schema.now) c.args.num_docs cs c.in-Ok.rows.0 c.requires.docs c.in-Ok.ensures.rows) c.in-Err-into_file.ensures.fault)
