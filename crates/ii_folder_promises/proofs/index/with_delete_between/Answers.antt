use Rattle.std.proofs.Common.{◌≡◌, ◌+◌, [], ◌++◌, List, subst, sym}
use Rattle.ii_definitions.specs.Tokens.{IndexToken}
use Rattle.ii_index.specs.Index.{IndexWriterState}
use Rattle.ii_index.specs.Pending.{HasPending, document_tokens}
use Rattle.ii_index.specs.Segments.{HoldsIndexOf}
use Rattle.ii_folder_promises.proofs.IndexLaws.{nothing_pending, some_tokens}
use Rattle.ii_folder_promises.proofs.index.with_delete_between.Goals as goal

pub returns-clause-empty : goal.returns-clause-empty
returns-clause-empty g c =
    let seen = g.D.Directory.seen in
    let w = c.args.writer in
    let is = c.in-Ok.ensures.ok in
    let start = nothing_pending (seen w.index.directory) w c.requires.nothing.flushed c.requires.nothing.documents in
    let one = c.in-Some.ensures.pending 0 [] start in
    let pending = subst (λ (x : IndexWriterState _). HasPending (seen x.index.directory) x (0 + 1) ([] ++ document_tokens w.index.schema 0 c.args.first.now)) (sym is) one in
    let held = subst (λ (x : IndexWriterState _). HoldsIndexOf x.index.schema.schema (seen x.index.directory) 0 []) (sym is) (c.in-Some.ensures.index 0 [] start 0 [] c.requires.empty) in
    c.with_document-2.ensures.index (0 + 1) _ pending 0 [] held

pub returns-clause-two : goal.returns-clause-two
returns-clause-two g c =
    let seen = g.D.Directory.seen in
    let w = c.args.writer in
    let start = nothing_pending (seen w.index.directory) w c.requires.nothing.flushed c.requires.nothing.documents in
    let one = c.in-Some.ensures.pending 0 [] start in
    let pending = subst (λ (x : IndexWriterState _). HasPending (seen x.index.directory) x (0 + 1) ([] ++ document_tokens w.index.schema 0 c.args.first.now)) (sym c.in-Ok.ensures.ok) one in
    some_tokens (λ (x : IndexWriterState _) (vs : List IndexToken). HasPending (seen x.index.directory) x 2 vs) c.with_document-2.result _ (c.with_document-2.ensures.pending (0 + 1) _ pending)
