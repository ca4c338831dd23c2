use Rattle.std.proofs.Common.{map}
use Rattle.ii_ranking.specs.Segments.{segment_of}
use Rattle.ii_statistics.specs.Statistics.{query_statistics}
use Rattle.nequllpa_searching.specs.Explained.{IsExplained}
use Rattle.nequllpa_opening.specs.RowFormats.{is_json}
use Rattle.nequllpa_searching.proofs.ShareTextLemmas.{zip_next}
use Rattle.nequllpa_searching.proofs.explaining.explanations.Goals as goal

pub loop-one-preserved : goal.loop-one-preserved
loop-one-preserved c =
    zip_next (IsExplained (query_statistics c.args.statistics.now) c.args.query.now (map segment_of c.args.segments.now) (is_json c.args.format) c.args.schema.now) c.args.best.now c.loop-one.one-index c.loop-one.texts.items c.push.new.self.items c.in_ok-text.text
    c.loop-one-test.true c.in_ok-push.ensures.items c.loop-one.invariant c.in_ok-text.ensures.explained
