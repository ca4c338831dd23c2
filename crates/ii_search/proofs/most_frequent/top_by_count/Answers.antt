use Rattle.std.proofs.Common.{arith}
use Rattle.ii_search.proofs.TopLemmas.{shorter}
use Rattle.ii_search.proofs.TopWorkLemmas.{at_end, tops_all, tops_none, tops_on}
use Rattle.ii_search.proofs.most_frequent.top_by_count.Goals as goal

pub loop-doc-init : goal.loop-doc-init
loop-doc-init c = tops_none c.args.n c.doc-doc.result c.args.cursor.now c.new-best.result.items c.new-best.ensures.items c.doc-doc.ensures.doc c.doc-doc.ensures.sound c.doc-doc.ensures.place

pub loop-doc-smaller : goal.loop-doc-smaller
loop-doc-smaller c = shorter c.loop-doc.doc c.least_of-least.result c.loop-doc.cursor.rest c.seek_with_freq-doc.new.self.rest c.loop-doc.invariant.doc_is c.loop-doc-test.true c.seek_with_freq-doc.ensures.rest

pub loop-doc-preserved : goal.loop-doc-preserved
loop-doc-preserved c =
    let sought = c.seek_with_freq-doc.ensures in
    tops_on c.args.n c.loop-doc.doc c.term_freq-count.result c.least_of-least.result c.seek_with_freq-doc.result c.args.cursor.now c.loop-doc.cursor c.seek_with_freq-doc.new.self c.loop-doc.best.items c.put.new.best.items c.loop-doc.invariant c.loop-doc-test.true
    c.term_freq-count.ensures.entry c.in_ok-put.ensures.ok c.in_ok-put.ensures.few (rw c.as_slice.ensures.value at c.least_of-least.ensures) (record { doc = sought.doc; rest = sought.rest; sound = sought.sound; went = sought.work; place = sought.place; doc_blocks = sought.doc_blocks; freq_blocks = sought.freq_blocks; docs = sought.decodes; freqs = sought.freqs })

pub returns-clause-top : goal.returns-clause-top
returns-clause-top c =
    let over = c.loop-doc-test.false in
    tops_all c.args.n c.loop-doc.doc c.args.cursor.now c.loop-doc.cursor c.loop-doc.best.items c.loop-doc.invariant (omega arith)

pub returns-clause-ends : goal.returns-clause-ends
returns-clause-ends c =
    let over = c.loop-doc-test.false in
    at_end c.args.n c.loop-doc.doc c.args.cursor.now c.loop-doc.cursor c.loop-doc.best.items c.loop-doc.invariant (omega arith)
