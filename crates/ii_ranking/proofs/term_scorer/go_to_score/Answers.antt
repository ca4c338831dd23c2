use Rattle.ii_ranking.proofs.SkipLemmas.{skips_first, skips_more}
use Rattle.ii_ranking.proofs.term_scorer.go_to_score.Goals as goal

pub loop-doc-init : goal.loop-doc-init
loop-doc-init c = skips_first c.args.by.now c.args.target c.args.least c.args.freq c.go_to_freq-doc.result c.args.cursor.now.rest c.go_to_freq-doc.new.cursor.rest c.requires.freq c.go_to_freq-doc.ensures

pub loop-doc-preserved : goal.loop-doc-preserved
loop-doc-preserved c =
    let l = c.loop-doc in
    skips_more c.args.by.now c.args.target c.args.least c.args.freq l.doc c.go_to_freq-doc-in-loop-doc.result c.term_freq.result c.score.result c.args.cursor.now.rest l.cursor.rest c.go_to_freq-doc-in-loop-doc.new.cursor.rest
    c.requires.freq c.loop-doc-test.true c.term_freq.ensures.entry c.score.ensures c.if-score-least.false l.invariant c.go_to_freq-doc-in-loop-doc.ensures
