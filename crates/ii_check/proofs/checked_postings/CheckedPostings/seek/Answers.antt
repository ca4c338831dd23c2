use Rattle.ii_check.proofs.SeekLemmas.{seeks_block}
use Rattle.ii_check.proofs.checked_postings.CheckedPostings.seek.Goals as goal

pub returns-clause-seeks : goal.returns-clause-seeks
returns-clause-seeks c = seeks_block c.args.self.now c.args.skip.now c.seek.new.self c.skip_data.result.now c.args.target c.skip_data.ensures.given c.requires.at c.skip_data.ensures.entries c.seek.ensures.seeks
