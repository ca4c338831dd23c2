use Rattle.std.proofs.Common.{◌≡◌, ◌<◌, ◌≤◌, drop, rules}
use Rattle.ii_base.specs.declared.doc_id.TheConstants.{TERMINATED}
use Rattle.ii_damage.proofs.WalkedLemmas.{list_ends, list_next, list_over}
use Rattle.ii_damage.proofs.walking.TermWalk.walk_list.Goals as goal

pub returns-then-doc-ge-TERMINATED-clause-stray : goal.returns-then-doc-ge-TERMINATED-clause-stray
returns-then-doc-ge-TERMINATED-clause-stray c =
    let end : TERMINATED ≤ c.doc-doc.result = search rules in
    (list_ends c.args.num_docs c.args.cursor.now.doc_freq c.loop-i._i c.doc-doc.result c.args.cursor.now.rest c.loop-i.cursor.rest c.loop-i.stray c.args.self.now c.loop-i.self c.doc-doc.ensures.doc end c.doc-doc.ensures.sound.ascending c.loop-i.invariant).found

pub returns-then-doc-ge-TERMINATED-clause-walked : goal.returns-then-doc-ge-TERMINATED-clause-walked
returns-then-doc-ge-TERMINATED-clause-walked c =
    let end : TERMINATED ≤ c.doc-doc.result = search rules in
    (list_ends c.args.num_docs c.args.cursor.now.doc_freq c.loop-i._i c.doc-doc.result c.args.cursor.now.rest c.loop-i.cursor.rest c.loop-i.stray c.args.self.now c.loop-i.self c.doc-doc.ensures.doc end c.doc-doc.ensures.sound.ascending c.loop-i.invariant).walked

pub loop-i-preserved : goal.loop-i-preserved
loop-i-preserved c =
    let low : c.doc-doc.result < TERMINATED = search rules in
    let left : c.advance.new.self.rest ≡ drop 1 c.loop-i.cursor.rest = rw (← c.in_ok-walk_posting.ensures.rest) c.advance.ensures.rest in
    list_next c.args.num_docs c.args.cursor.now.doc_freq c.loop-i._i c.doc-doc.result c.args.cursor.now.rest c.loop-i.cursor.rest c.advance.new.self.rest c.loop-i.stray c.first_stray-stray.result c.args.self.now c.loop-i.self c.walk_posting.new.self
    c.doc-doc.ensures.doc low c.first_stray-stray.ensures c.in_ok-walk_posting.ensures.walked left c.loop-i.invariant

pub returns-clause-walked : goal.returns-clause-walked
returns-clause-walked c =
    let end : c.args.cursor.now.doc_freq ≤ c.loop-i._i = search rules in
    (list_over c.args.num_docs c.args.cursor.now.doc_freq c.loop-i._i c.args.cursor.now.rest c.loop-i.cursor.rest c.loop-i.stray c.args.self.now c.loop-i.self end c.loop-i.invariant).walked
