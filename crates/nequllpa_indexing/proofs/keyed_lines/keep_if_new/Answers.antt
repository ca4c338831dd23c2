use Rattle.std.proofs.Common.{rules}
use Rattle.nequllpa_indexing.proofs.KeyLemmas.{keeps_later, keeps_more}
use Rattle.nequllpa_indexing.proofs.keyed_lines.keep_if_new.Goals as goal

pub returns-then-not-branch : goal.returns-then-not-branch
returns-then-not-branch c = λ later h. keeps_later later c.args.line c.args.seen.now.keys c.insert.new.self.keys c.args.kept.now.items c.in_ok-key.key (search rules) c.in_ok-insert.ensures.keys h (search rules)

pub returns : goal.returns
returns c = λ later h. keeps_more later c.args.line c.args.seen.now.keys c.insert.new.self.keys c.args.kept.now.items c.in_ok-key.key (search rules) c.in_ok-insert.ensures.keys h (search rules) c.push.new.self.items (search rules)
