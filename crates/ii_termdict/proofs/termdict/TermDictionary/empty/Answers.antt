use Rattle.std.proofs.Common.{refl}
use Rattle.ii_termdict.proofs.WorkedRows.{empty as no_terms}
use Rattle.ii_termdict.proofs.termdict.TermDictionary.empty.Goals as goal

pub invariant_of-result : goal.invariant_of-result
invariant_of-result c = rw (c.from_static.ensures, no_terms) refl

pub returns : goal.returns
returns c = rw (c.from_static.ensures, no_terms) refl
