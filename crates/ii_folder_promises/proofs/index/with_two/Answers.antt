use Rattle.std.proofs.Common.{◌≡◌, ◌∙◌, ◌+◌, [], List, ap, subst, sym}
use Rattle.ii_index.specs.Index.{IndexState, IndexWriterState}
use Rattle.ii_definitions.specs.Tokens.{IndexToken}
use Rattle.ii_index.specs.Pending.{HasPending}
use Rattle.ii_index.specs.Segments.{HoldsIndexOf, no_documents}
use Rattle.ii_folder_promises.proofs.IndexLaws.{nothing_pending, some_tokens}
use Rattle.ii_folder_promises.proofs.index.with_two.Goals as goal

pub returns-clause-empty : goal.returns-clause-empty
returns-clause-empty g c =
    let seen = g.D.Directory.seen in
    let w = c.in-Ok-writer.writer in
    let is = c.in-Ok-writer.ensures.ok in
    let start = nothing_pending (seen w.index.directory) w (ap (λ (x : IndexWriterState _). x.flushed) is) (ap (λ (x : IndexWriterState _). x.documents) is ∙ ap (λ (x : IndexWriterState _). no_documents x.index.schema) (sym is)) in
    let held = subst (λ (x : IndexWriterState _). HoldsIndexOf x.index.schema.schema (seen x.index.directory) 0 []) (sym is) (c.in-Ok.ensures.empty c.requires) in
    let one = c.in-Some.ensures.pending 0 [] start in
    c.with_document-2.ensures.index (0 + 1) _ one 0 [] (c.in-Some.ensures.index 0 [] start 0 [] held)

pub returns-clause-two : goal.returns-clause-two
returns-clause-two g c =
    let seen = g.D.Directory.seen in
    let w = c.in-Ok-writer.writer in
    let is = c.in-Ok-writer.ensures.ok in
    let start = nothing_pending (seen w.index.directory) w (ap (λ (x : IndexWriterState _). x.flushed) is) (ap (λ (x : IndexWriterState _). x.documents) is ∙ ap (λ (x : IndexWriterState _). no_documents x.index.schema) (sym is)) in
    let one = c.in-Some.ensures.pending 0 [] start in
    some_tokens (λ (x : IndexWriterState _) (vs : List IndexToken). HasPending (seen x.index.directory) x 2 vs) c.with_document-2.result _ (c.with_document-2.ensures.pending (0 + 1) _ one)
