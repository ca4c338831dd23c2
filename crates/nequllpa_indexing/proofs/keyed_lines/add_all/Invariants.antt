use Rattle.std.proofs.Common.{◌≡◌, ◌++◌, map}
use Rattle.nequllpa_indexing.specs.KeyedLines.{AddsLines, line_view, key_terms, line_texts}
use Rattle.nequllpa_indexing.proofs.keyed_lines.add_all.Given as goal

-- the lines so far were added, and their keys kept
abbrev pub invariant-loop-line : goal.invariant-loop-line
invariant-loop-line l = record {
  whole : l.yielded ++ l.line-iterator.rest.items ≡ l.fn.lines.items;
  added : AddsLines l.fn.documents l.documents (line_texts (map line_view l.yielded));
  keys : l.keys.items ≡ key_terms l.fn.field (map line_view l.yielded);
}
