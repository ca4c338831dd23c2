use Rattle.std.proofs.Common.{◌∙◌, Some, ap}
use Rattle.ii_io.specs.Composite.{body_of}
use Rattle.ii_query_parser.specs.Queries.{tree_of}
use Rattle.ii_ranking.specs.Shares.{ShareState}
use Rattle.ii_ranking.proofs.ShareEntryLemmas.{counted_phrase, no_phrase_share}
use Rattle.ii_ranking.proofs.shares.phrase_share.Goals as goal

pub returns-then-count-eq0-clause-found : goal.returns-then-count-eq0-clause-found
returns-then-count-eq0-clause-found g c =
    let st = g.S.Bm25StatisticsProvider.statistics c.args.statistics.now in
    no_phrase_share c.args.index.now st c.args.first.now c.args.others.now c.args.slop c.args.doc c.in_ok-count.count (c.in_ok-count.ensures.count st) c.if-count-eq0.true

pub returns-clause-found : goal.returns-clause-found
returns-clause-found g c =
    let st = g.S.Bm25StatisticsProvider.statistics c.args.statistics.now in
    let first = c.args.first.now in
    let id = c.norm_id.ensures.ids (body_of first.field c.args.index.now.fieldnorms) c.in_ok-norms.ensures.norms in
    ap (λ (share : ShareState). Some share) c.share_of_count.ensures
    ∙ counted_phrase c.args.index.now st first c.args.others.now c.args.slop c.args.doc (tree_of c.args.part.now) c.in_ok-norms.weight c.norm_id.result c.in_ok-count.count (c.in_ok-count.ensures.count st) c.if-count-eq0.false c.requires.part c.in_ok-norms.ensures.weight id
