use Rattle.std.proofs.Common.{◌≡◌, ◌∙◌, ◌+◌, ◌++◌, [], ◌∷◌, List, ap, subst, sym, true}
use Rattle.ii_definitions.specs.Tokens.{IndexToken}
use Rattle.ii_index.specs.Index.{IndexState}
use Rattle.ii_index.specs.Pending.{document_tokens}
use Rattle.ii_index.specs.Segments.{HoldsIndexOf, with_tokens}
use Rattle.ii_schema_text.specs.SchemaText.{TextSchemaState}
use Rattle.ii_folder_promises.proofs.IndexLaws.{nothing_pending}
use Rattle.ii_folder_promises.proofs.index.committed_texts_have_their_tokens.Goals as goal

pub returns : goal.returns
returns g c =
    let seen = g.D.Directory.seen in
    let w = c.args.writer in
    let a : IndexToken = record { doc = 0; field = 0; key = 97 ∷ []; position = 0; of_text = true } in
    let b : IndexToken = record { doc = 1; field = 0; key = 98 ∷ []; position = 0; of_text = true } in
    let start = nothing_pending (seen w.index.directory) w c.requires.nothing.flushed c.requires.nothing.documents in
    let one = c.in-Some.ensures.pending 0 [] start in
    let both = c.in-Some-with_document.ensures.pending (0 + 1) _ one in
    let held = c.in-Some-with_document.ensures.index (0 + 1) _ one 0 [] (c.in-Some.ensures.index 0 [] start 0 [] c.requires.empty) in
    let none = c.in-Some-with_document.ensures.deletes ∙ c.in-Some.ensures.deletes ∙ c.requires.nothing.deletes in
    let all = c.in-Ok.ensures.added c.in-Some-with_document.ensures.known none (0 + 1 + 1) _ both 0 [] held in
    let tokens =
    ap (λ (xs : List IndexToken). with_tokens 0 [] (([] ++ xs) ++ document_tokens c.in-Some.one.index.schema 1 c.args.second.now)) c.requires.first
    ∙ ap (λ (s : TextSchemaState). with_tokens 0 [] (([] ++ a ∷ []) ++ document_tokens s 1 c.args.second.now)) c.in-Some.ensures.schema
    ∙ ap (λ (xs : List IndexToken). with_tokens 0 [] (([] ++ a ∷ []) ++ xs)) c.requires.second in
    let new = c.commit.new.self.index in
    let there = subst (λ (xs : List IndexToken). HoldsIndexOf c.in-Some-with_document.two.index.schema.schema (seen new.directory) 2 xs) tokens all in
    let kept = subst (λ (s : TextSchemaState). HoldsIndexOf s.schema (seen new.directory) 2 (a ∷ b ∷ [])) (sym c.in-Ok.ensures.schema) there in
    subst (λ (i : IndexState _). HoldsIndexOf i.schema.schema (seen i.directory) 2 (a ∷ b ∷ [])) (sym c.into_index.ensures) kept
