use Rattle.std.proofs.Common.{sym, subst}
use Rattle.std.specs.Prelude.{OnOk}
use Rattle.ii_base.specs.Json.{leaf_of, text_leaf, value_leaf}
use Rattle.ii_base.specs.declared.json_value.JsonLeaf.{JsonLeaf}
use Rattle.ii_indexing.proofs.LeafLaws.{LeafRefused, LeafTaken, leaf_held, text_leaf_refused, value_leaf_refused}
use Rattle.ii_postings_writer.proofs.TermIndexLemmas.{on_ok}
use Rattle.ii_indexing.proofs.json_utils.LeafIndexerLeafSink.take_leaf.Goals as goal

pub returns-in_ok-tokens-in-Text-clause-refused : goal.returns-in_ok-tokens-in-Text-clause-refused
returns-in_ok-tokens-in-Text-clause-refused g c =
    let s = c.args.self.now in
    let words = g.A.TextAnalyzer.words s.analyzer.now in
    let told = rw c.in_ok-tokens-in-Text.ensures.ok at c.index_text_at.ensures.refused in
    subst (λ (l : JsonLeaf). LeafRefused words s.doc s.field s.fields.now c.index_text_at.result (c.args.path.now, leaf_of l)) (sym c.in-Text.is)
    (text_leaf_refused words s.doc s.field s.fields.now c.index_text_at.result c.args.path.now c.in-Text.text.now told)

pub returns-in_ok-tokens-in-Text-clause-ok : goal.returns-in_ok-tokens-in-Text-clause-ok
returns-in_ok-tokens-in-Text-clause-ok g c =
    let s = c.args.self.now in
    let new = c.index_text_at.new.self in
    let words = g.A.TextAnalyzer.words s.analyzer.now in
    let told = rw c.in_ok-tokens-in-Text.ensures.ok at c.index_text_at.ensures.stored in
    subst (λ (l : JsonLeaf). OnOk c.index_text_at.result (LeafTaken words s.doc s.field s.fields.now new (c.args.path.now, leaf_of l))) (sym c.in-Text.is)
    (on_ok c.index_text_at.result _ _ (leaf_held words s.doc s.field s.fields.now new (c.args.path.now, text_leaf c.in-Text.text.now)) told)

pub returns-in-Value-clause-refused : goal.returns-in-Value-clause-refused
returns-in-Value-clause-refused g c =
    let s = c.args.self.now in
    let words = g.A.TextAnalyzer.words s.analyzer.now in
    subst (λ (l : JsonLeaf). LeafRefused words s.doc s.field s.fields.now c.index_number_at.result (c.args.path.now, leaf_of l)) (sym c.in-Value.is)
    (value_leaf_refused words s.doc s.field s.fields.now c.index_number_at.result c.args.path.now c.in-Value.value_type c.in-Value.number c.index_number_at.ensures.refused)

pub returns-in-Value-clause-ok : goal.returns-in-Value-clause-ok
returns-in-Value-clause-ok g c =
    let s = c.args.self.now in
    let new = c.index_number_at.new.self in
    let words = g.A.TextAnalyzer.words s.analyzer.now in
    subst (λ (l : JsonLeaf). OnOk c.index_number_at.result (LeafTaken words s.doc s.field s.fields.now new (c.args.path.now, leaf_of l))) (sym c.in-Value.is)
    (on_ok c.index_number_at.result _ _ (leaf_held words s.doc s.field s.fields.now new (c.args.path.now, value_leaf c.in-Value.value_type c.in-Value.number)) c.index_number_at.ensures.stored)
