use Rattle.std.proofs.Common.{arith}
use Rattle.ii_living_docs.proofs.living_docs.pass.Goals as goal

pub returns-clause-at : goal.returns-clause-at
returns-clause-at g c = record { sound = c.loop-doc.invariant.sound; living = λ inside. absurd (omega (arith, inside, c.requires.short, c.loop-doc-test.false, c.loop-doc.invariant.here)) }
