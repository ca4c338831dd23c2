use Rattle.std.proofs.Common.{◌≡◌, drop, length}
use Rattle.std.specs.List.{list_all}
use Rattle.ii_query_parser.specs.Queries.{has_fields}
use Rattle.nequllpa_searching.proofs.ranking.have_fields.Given as goal

abbrev pub invariant-loop-place : goal.invariant-loop-place
invariant-loop-place l = list_all (λ o. has_fields (length o.index.readers) l.query) (drop l.place l.segments) ≡ list_all (λ o. has_fields (length o.index.readers) l.query) l.segments
