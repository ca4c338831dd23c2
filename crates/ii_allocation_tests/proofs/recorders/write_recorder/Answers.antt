use Rattle.std.proofs.Common.{ap, ◌∙◌, rules}
use Rattle.ii_recorder.specs.OpenTerm.{OpenTermState}
use Rattle.ii_termdict.proofs.FirstKey.{first_ascends}
use Rattle.ii_allocation_tests.proofs.ReadingBack.{none_lacking}
use Rattle.ii_allocation_tests.proofs.recorders.write_recorder.Goals as goal

pub new_term-requires-clause-ascending : goal.new_term-requires-clause-ascending
new_term-requires-clause-ascending g c = λ _. first_ascends c.in_ok-field.field.index.now.field.places.keys _ c.in_ok-field.ensures.begins.terms.keys

pub serialize-requires : goal.serialize-requires
serialize-requires g c =
    let term = c.in_ok-new_term.ensures.term in
    record {
      inside = λ still. c.in_ok-new_term.ensures.inside;
      ascending = λ still. rw (ap (λ (t : OpenTermState). t.docs) term) c.requires.docs;
      counted = search rules;
      covered = λ still. none_lacking c.new_term.new.self.index.now.field.term.norms _ (ap (λ (t : OpenTermState). t.norms) term ∙ c.in_ok-field.ensures.begins.norms_are);
    }
