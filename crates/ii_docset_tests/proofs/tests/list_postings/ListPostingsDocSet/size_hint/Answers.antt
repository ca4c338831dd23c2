use Rattle.std.proofs.Common.{arith, length}
use Rattle.std.specs.Prelude.{map}
use Rattle.std.proofs.lemmas.List.{length-map}
use Rattle.ii_base.specs.Entries.{Entry}
use Rattle.ii_docset.proofs.CursorLemmas.{length_below}
use Rattle.ii_docset_tests.specs.declared.tests.list_postings.Place.{Place}
use Rattle.ii_docset_tests.proofs.tests.list_postings.ListPostingsDocSet.size_hint.Goals as goal

pub overflow_cast-result : goal.overflow_cast-result
overflow_cast-result c =
    let entry : Place → Entry = λ p. record { doc = p.doc; term_freq = length p.positions.now; positions = p.positions.now } in
    let few = length_below (map entry c.self.inside.left.now) c.self.invariant.ascending in
    let size = length-map c.self.inside.left.now entry in
    omega (arith, few, size)

pub returns-clause-enough : goal.returns-clause-enough
returns-clause-enough c =
    let entry : Place → Entry = λ p. record { doc = p.doc; term_freq = length p.positions.now; positions = p.positions.now } in
    let size = length-map c.self.inside.left.now entry in
    rw (← c.self.view_is) (omega (arith, size))
