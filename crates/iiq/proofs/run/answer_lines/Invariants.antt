use Rattle.std.proofs.Common.{length}
use Rattle.iiq.specs.Known.{Knows}
use Rattle.iiq.specs.Session.{Session}
use Rattle.iiq.proofs.RunLemmas.{IsAnswering}
use Rattle.iiq.proofs.run.answer_lines.Given as goal

abbrev pub invariant-loop-line : goal.invariant-loop-line
invariant-loop-line g l = (s : Session) × Knows l.session s × IsAnswering l.commands (g.W.Write.contents l.fn.writer) (g.W.Write.contents l.writer) l.text l.lines s l.fine

abbrev pub decreases-loop-line : goal.decreases-loop-line
decreases-loop-line g l = length l.lines
