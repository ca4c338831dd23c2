use Rattle.std.proofs.Common.{◌≡◌, ◌∙◌, List, ap, map, subst, ℕ}
use Rattle.std.specs.Prelude.{IfErr, IfOk}
use Rattle.ii_fieldnorm.specs.Buffers.{filled}
use Rattle.ii_counts.specs.CountsWriter.{HoldRows, IsRowsFault, first_counts}
use Rattle.ii_counts.proofs.RowLaws.{rows_filled}
use Rattle.ii_counts.proofs.writer.CountsWriter.into_file.Goals as goal

pub returns-clause-holds : goal.returns-clause-holds
returns-clause-holds c =
    let n = c.args.num_docs in
    let are : c.as_slice.result.now ≡ map (first_counts n) c.args.self = c.as_slice.ensures.value ∙ c.in_ok-fill_rows.ensures.ok ∙ ap (map (filled n)) c.self.view_is ∙ rows_filled n c.args.self in
    subst (λ (rows : List (List ℕ)). IfOk c.rows_file.result (λ v. HoldRows rows v.items)) are c.rows_file.ensures.holds

pub returns-clause-fault : goal.returns-clause-fault
returns-clause-fault c =
    let n = c.args.num_docs in
    let are : c.as_slice.result.now ≡ map (first_counts n) c.args.self = c.as_slice.ensures.value ∙ c.in_ok-fill_rows.ensures.ok ∙ ap (map (filled n)) c.self.view_is ∙ rows_filled n c.args.self in
    subst (λ (rows : List (List ℕ)). IfErr c.rows_file.result (IsRowsFault rows)) are c.rows_file.ensures.fault
