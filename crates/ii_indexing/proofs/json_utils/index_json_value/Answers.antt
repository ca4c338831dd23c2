use Rattle.std.proofs.Common.{rules, ◌≡◌, ◌∙◌, ◌++◌, [], ap, subst}
use Rattle.std.specs.List.{flat_map}
use Rattle.ii_base.specs.Json.{json_of, leaves_below}
use Rattle.ii_base.specs.Paths.{PathState}
use Rattle.ii_definitions.specs.Fields.{option_of}
use Rattle.ii_definitions.specs.Tokens.{leaf_pieces}
use Rattle.ii_json.specs.LeafVisit.{IsRefusedBy, leaves_at, leaves_fault}
use Rattle.ii_indexing.specs.Indexer.{IndexedFieldsState, LeafConstant, StoresAll}
use Rattle.ii_indexing.specs.Refusals.{next_leaf_fault}
use Rattle.ii_indexing.proofs.LeafLaws.{first_held}
use Rattle.ii_postings_writer.proofs.TermIndexLemmas.{on_both}
use Rattle.ii_indexing.proofs.json_utils.index_json_value.Goals as goal

pub returns-clause-stored : goal.returns-clause-stored
returns-clause-stored g c =
    let words = g.A.TextAnalyzer.words c.args.analyzer.now in
    let begin : c.set_expand_dots.new.self ≡ record { segments = []; expand_dots = c.args.expand_dots } = c.set_expand_dots.ensures ∙ ap (λ (w : PathState). record w { expand_dots = c.args.expand_dots }) c.new-writer.ensures in
    let sink = c.visit_leaves.new.sink in
    on_both c.visit_leaves.result _ _ _
    (λ held same entries ps takes stored.
    let taken = subst (λ (k : LeafConstant). StoresAll entries sink.fields.now (ps ++ flat_map (leaf_pieces k.words k.doc k.field) (leaves_at c.set_expand_dots.new.self c.args.value.now))) same
    (held (record { entries = entries; pieces = ps }) [] (takes, first_held entries c.args.fields.now ps stored)).1 in
    let told = subst (λ (w : PathState). StoresAll entries sink.fields.now (ps ++ flat_map (leaf_pieces words c.args.doc c.args.field) (leaves_at w c.args.value.now))) begin taken in
    subst (λ (s : IndexedFieldsState). StoresAll entries s (ps ++ flat_map (leaf_pieces words c.args.doc c.args.field) (leaves_below c.args.expand_dots [] (json_of c.args.value.now)))) (search rules) told)
    c.visit_leaves.ensures.leaves c.visit_leaves.ensures.constant

pub returns-clause-refused : goal.returns-clause-refused
returns-clause-refused g c entries ps takes stored =
    let words = g.A.TextAnalyzer.words c.args.analyzer.now in
    let begin : c.set_expand_dots.new.self ≡ record { segments = []; expand_dots = c.args.expand_dots } = c.set_expand_dots.ensures ∙ ap (λ (w : PathState). record w { expand_dots = c.args.expand_dots }) c.new-writer.ensures in
    let refused = c.visit_leaves.ensures.refused (record { entries = entries; pieces = ps }) [] (takes, first_held entries c.args.fields.now ps stored) in
    subst (λ (w : PathState). IsRefusedBy (leaves_fault (next_leaf_fault words (option_of entries c.args.field) ps c.args.doc c.args.field) [] (leaves_at w c.args.value.now)) c.visit_leaves.result) begin refused
