use Rattle.ii_merger.proofs.MergeLemmas.{started_by}
use Rattle.ii_merger.proofs.pushing.begin_term.Goals as goal

pub returns-clause-started : goal.returns-clause-started
returns-clause-started g c new =
    started_by c.args.term.key.now c.args.term.kind c.args.serializer.now.index.now c.new_term.new.self.index.now c.new_term.result c.has_freq.result c.has_freq.ensures c.new_term.ensures.term c.new_term.ensures.inside c.new_term.ensures.writing c.new_term.ensures.ends
