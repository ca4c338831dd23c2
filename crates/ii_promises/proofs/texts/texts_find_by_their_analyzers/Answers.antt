use Rattle.ii_promises.proofs.TextLaws.{text_found, text_refused}
use Rattle.ii_promises.proofs.texts.texts_find_by_their_analyzers.Goals as goal

pub returns-in-Ok-clause-found : goal.returns-in-Ok-clause-found
returns-in-Ok-clause-found g c = λ num_docs tokens holds.
    text_found (record { texts = record { analyze = g.F.FieldAnalyzers.words c.args.analyzers.now; entries = c.args.schema.now }; prefixes = g.F.FieldAnalyzers.prefix_words c.args.analyzers.now; defaults = c.args.default_fields.now }) c.args.text.now c.in-Ok.query tokens c.searched.result
    c.in-Ok.ensures (c.searched.ensures.gives c.args.schema.now num_docs tokens holds c.in-Ok.ensures.fields c.in-Ok.ensures.positions)

pub returns-in-Ok-clause-refused : goal.returns-in-Ok-clause-refused
returns-in-Ok-clause-refused g c = λ num_docs tokens holds.
    text_refused (record { texts = record { analyze = g.F.FieldAnalyzers.words c.args.analyzers.now; entries = c.args.schema.now }; prefixes = g.F.FieldAnalyzers.prefix_words c.args.analyzers.now; defaults = c.args.default_fields.now }) c.args.text.now c.in-Ok.query tokens c.searched.result
    (c.searched.ensures.gives c.args.schema.now num_docs tokens holds c.in-Ok.ensures.fields c.in-Ok.ensures.positions)
