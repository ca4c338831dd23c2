use Rattle.std.proofs.Common.{◌≡◌, drop}
use Rattle.ii_prepared_term.proofs.PreparedSegmentLemmas.{AddsSegments}
use Rattle.ii_prepared_term.proofs.prepared_segments.PreparedSegments.push_all.Given as goal

abbrev pub invariant-loop-place : goal.invariant-loop-place
invariant-loop-place l = record {
  adds : AddsSegments l.self-inside.segments.items (drop l.place l.self-inside.segments.items) l.base l.initial.computer l.computer;
  wanted : l.computer.top_n ≡ l.initial.computer.top_n;
}
