use Rattle.std.proofs.Common.{List, [], ◌∷◌, ap, ◌∙◌, rules}
use Rattle.ii_base.specs.Schema.{SchemaEntry}
use Rattle.ii_definitions.specs.Fields.{option_of}
use Rattle.ii_recorder.specs.IndexSerializer.{IndexSerializerState}
use Rattle.ii_recorder.specs.OpenTerm.{OpenTermState}
use Rattle.ii_termdict.proofs.FirstKey.{first_ascends}
use Rattle.ii_reader_tests.proofs.RecordedTermLemmas.{held_as, none_lacking, still_writing, term_is}
use Rattle.ii_reader_tests.proofs.recorder_tests.write_recorder.Goals as goal

pub new_term-requires-clause-ascending : goal.new_term-requires-clause-ascending
new_term-requires-clause-ascending g c = λ _. first_ascends c.in_ok-field.field.index.now.field.places.keys _ c.in_ok-field.ensures.begins.terms.keys

pub returns : goal.returns
returns g c =
    let r = g.R.Recorder.state c.args.recorder.now in
    let begun = c.in_ok-field.ensures.begins in
    let opened = c.in_ok-new_term.ensures.writing _ _ _ _ _ begun in
    let entries = c.in_ok-serialize.ensures.pushes.ok in
    let pushed = still_writing _ _ _ _ _ _ _ _ entries opened in
    let inside = ap (λ (s : IndexSerializerState). s.field.term_open) entries ∙ c.in_ok-new_term.ensures.inside in
    let written = c.in_ok-close_term.ensures.writing _ _ _ _ _ (97 ∷ []) inside pushed in
    let same = c.in_ok-close_term.ensures.ends.entries ∙ c.in_ok-serialize.ensures.pushes.ends.entries ∙ c.in_ok-new_term.ensures.ends.entries ∙ c.in_ok-field.ensures.started.entries in
    let field = c.from_field_id.ensures in
    let mode = begun.mode ∙ ap (λ (es : List SchemaEntry). option_of es c.from_field_id.result) c.in_ok-field.ensures.started.entries ∙ ap (option_of c.args.index.now.entries) field in
    let last = written.mode ∙ ap (λ (es : List SchemaEntry). option_of es c.from_field_id.result) same ∙ ap (option_of c.args.index.now.entries) field in
    held_as c.close.result _ _ _ _ last (term_is c.in_ok-field.field.index.now.field.term _ _ r _ _ begun.norms_are c.in_ok-new_term.ensures.term c.has_term_freq.ensures mode entries) (c.close.ensures.holds _ _ _ _ _ c.in_ok-close_term.ensures.between written)

pub serialize-requires : goal.serialize-requires
serialize-requires g c =
    let term = c.in_ok-new_term.ensures.term in
    record {
      inside = λ still. c.in_ok-new_term.ensures.inside;
      ascending = λ still. rw (ap (λ (t : OpenTermState). t.docs) term) c.requires.docs;
      counted = search rules;
      covered = λ still. none_lacking c.new_term.new.self.index.now.field.term.norms _ (ap (λ (t : OpenTermState). t.norms) term ∙ c.in_ok-field.ensures.begins.norms_are);
    }
