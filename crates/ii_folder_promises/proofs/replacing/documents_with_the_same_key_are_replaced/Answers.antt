use Rattle.std.proofs.Common.{◌≡◌, ◌∙◌, ◌∷◌, [], ℕ, List, Some, Vec, Global, ap, map, subst}
use Rattle.ii_segment_store.specs.Changes.{changed_index}
use Rattle.ii_segment_store.specs.Contents.{files_contents, index_contents}
use Rattle.nequllpa_indexing.specs.KeyedLines.{AddsLines, KeyedLinesState, key_terms, last_of_each_key, line_texts}
use Rattle.ii_folder_promises.specs.Replacing.{byte_term}
use Rattle.ii_folder_promises.proofs.ReplacingLaws.{replaced_in}
use Rattle.ii_folder_promises.proofs.replacing.documents_with_the_same_key_are_replaced.Goals as goal

pub returns : goal.returns
returns g c = λ schema first second third two lines ok.
    let old = g.D.Directory.seen c.args.directory.now in
    let new = g.D.Directory.seen c.commit_changes.new.directory in
    let segment = c.in-Ok-into_segment.segment in
    let empty = c.args.documents in
    let documents = c.add_to.new.documents in
    let keys : c.in-Ok.keys.items ≡ byte_term 99 ∷ byte_term 98 ∷ [] = c.in-Ok.ensures.keys ∙ ap (λ (k : KeyedLinesState). key_terms k.field (last_of_each_key k.lines)) lines in
    let are = c.in-Some.ensures empty.schema schema two c.requires.some (c.as_slice.ensures.value ∙ keys) in
    let adds : AddsLines empty documents (second ∷ third ∷ []) = subst (λ (k : KeyedLinesState). AddsLines empty documents (line_texts (last_of_each_key k.lines))) lines c.in-Ok.ensures.added in
    let changed = c.in-Ok-commit_changes.ensures.changed c.requires.known
    ∙ ap (λ (ds : List (Vec ℕ Global)). changed_index (map (λ v. v.items) ds) (Some (files_contents segment)) (index_contents old)) c.as_slice-2.ensures.value in
    replaced_in schema (g.F.FieldAnalyzers.words c.args.analyzers.now) empty documents (second ∷ third ∷ []) old new (map (λ v. v.items) c.in-Some.replaced.items) segment two are changed adds
    c.in-Ok-into_segment.ensures.docs c.in-Ok-into_segment.ensures.holds c.in-Ok-into_segment.ensures.norms
