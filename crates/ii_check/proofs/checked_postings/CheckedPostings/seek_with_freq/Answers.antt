use Rattle.std.proofs.Common.{sym, ◌∙◌}
use Rattle.ii_check.proofs.SeekLemmas.{passes_first, passes_on, seeks_freq}
use Rattle.ii_check.proofs.checked_postings.CheckedPostings.seek_with_freq.Goals as goal

pub loop-skip-init : goal.loop-skip-init
loop-skip-init c = passes_first c.args.target c.args.least c.args.self.now c.args.skip.now c.advance.new.skip c.requires.full c.advance.ensures.at c.advance.ensures.block

pub loop-skip-preserved : goal.loop-skip-preserved
loop-skip-preserved c =
    passes_on c.args.target c.args.least c.args.self.now c.args.skip.now.block c.loop-skip.skip c.advance-in-loop-skip.new.skip c.skip_data-entries.ensures.given c.loop-skip.invariant c.requires.up_to (sym c.is_passed.ensures ∙ c.loop-skip-test.true) c.advance-in-loop-skip.ensures.at c.advance-in-loop-skip.ensures.block

pub returns-clause-seeks : goal.returns-clause-seeks
returns-clause-seeks c =
    seeks_freq c.args.target c.args.least c.args.self.now c.args.skip.now.block c.loop-skip.skip c.skip_data-entries.ensures.given c.loop-skip.invariant (sym c.is_passed.ensures ∙ c.loop-skip-test.false)
