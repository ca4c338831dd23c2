use Rattle.std.proofs.Common.{map, take}
use Rattle.std.specs.List.{AllZip}
use Rattle.std.specs.String.{string_bytes}
use Rattle.ii_ranking.specs.Segments.{segment_of}
use Rattle.ii_statistics.specs.Statistics.{query_statistics}
use Rattle.nequllpa_searching.specs.Explained.{IsExplained}
use Rattle.nequllpa_opening.specs.RowFormats.{is_json}
use Rattle.nequllpa_searching.proofs.explaining.explanations.Given as goal

abbrev pub invariant-loop-one : goal.invariant-loop-one
invariant-loop-one l = AllZip (IsExplained (query_statistics l.statistics) l.query (map segment_of l.segments) (is_json l.format) l.schema) (take l.one-index l.best) (map string_bytes l.texts.items)
