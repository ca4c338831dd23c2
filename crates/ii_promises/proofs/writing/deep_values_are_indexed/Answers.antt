use Rattle.std.proofs.Common.{◌≡◌, ◌∙◌, ◌⊎◌, ◌++◌, List, Option, Some, ap, subst}
use Rattle.std.specs.Prelude.{IfErr}
use Rattle.ii_io.specs.declared.faults.Fault.{Fault}
use Rattle.ii_io.specs.declared.faults.Fault.TheVariants.{OutOfMemory}
use Rattle.ii_base.specs.Json.{json_leaves}
use Rattle.ii_definitions.specs.Fields.{option_of}
use Rattle.ii_definitions.specs.IndexCalls.{expands_dots_in}
use Rattle.ii_definitions.specs.Tokens.{Piece}
use Rattle.ii_indexing.specs.Indexer.{Stores}
use Rattle.ii_postings_writer.proofs.TermIndexLemmas.{on_ok}
use Rattle.ii_promises.proofs.DeepLaws.{fault_of_one, leaves_in_arrays, pieces_of_one, refused_if}
use Rattle.ii_promises.proofs.writing.deep_values_are_indexed.Goals as goal

pub returns-clause-stored : goal.returns-clause-stored
returns-clause-stored g c =
    let e = expands_dots_in c.args.indexer.now.schema c.args.field in
    let words = g.A.TextAnalyzer.words c.args.analyzer.now in
    on_ok c.index.result _ _
    (λ stored levels l ps is old.
    subst (λ (p : List Piece). Stores c.index.new.self (ps ++ p)) (pieces_of_one words c.args.doc c.args.field l _ (ap (json_leaves e) is ∙ leaves_in_arrays e levels l)) (stored ps old))
    c.index.ensures.stored

pub returns-clause-fault : goal.returns-clause-fault
returns-clause-fault g c levels l ps is old =
    let e = expands_dots_in c.args.indexer.now.schema c.args.field in
    let words = g.A.TextAnalyzer.words c.args.analyzer.now in
    subst (λ (cause : Option Fault). IfErr c.index.result (λ f. (f ≡ OutOfMemory) ⊎ (cause ≡ Some f)))
    (fault_of_one words (option_of c.args.indexer.now.schema c.args.field) ps c.args.doc c.args.field l _ (ap (json_leaves e) is ∙ leaves_in_arrays e levels l))
    (refused_if _ c.index.result (c.index.ensures.refused c.requires.running ps old))
