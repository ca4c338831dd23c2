use Rattle.ii_damage.proofs.WalkedLemmas.{walked_by}
use Rattle.ii_damage.proofs.walking.TermWalk.walk_term.Goals as goal

pub returns-in-Some-clause-walked : goal.returns-in-Some-clause-walked
returns-in-Some-clause-walked c =
    walked_by c.args.reader.now c.record_option.result c.args.info.now c.in-Ok.cursor c.args.self.now c.walk_list.new.self c.record_option.ensures c.in-Ok.ensures.ok.list c.in_ok-doc-in-Ok.ensures.walked

pub returns-in-Ok-clause-walked : goal.returns-in-Ok-clause-walked
returns-in-Ok-clause-walked c =
    walked_by c.args.reader.now c.record_option.result c.args.info.now c.in-Ok.cursor c.args.self.now c.walk_list.new.self c.record_option.ensures c.in-Ok.ensures.ok.list c.in_ok-doc-in-Ok.ensures.walked
