use Rattle.std.proofs.Common.{drop, map}
use Rattle.ii_query_parser.specs.declared.query.Query.TheVariants.{Term}
use Rattle.ii_ranking.specs.Segments.{segment_of}
use Rattle.ii_statistics.proofs.ListedLemmas.{IsAdding}
use Rattle.ii_statistics.proofs.doc_freqs.doc_freq.Given as goal

abbrev pub invariant-loop-place : goal.invariant-loop-place
invariant-loop-place l = IsAdding (Term l.term) (map segment_of l.segments) (drop l.place (map segment_of l.segments)) l.total
