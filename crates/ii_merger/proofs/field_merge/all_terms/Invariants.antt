use Rattle.std.proofs.Common.{◌≡◌, map, take}
use Rattle.std.specs.List.{AllByRecursion}
use Rattle.ii_termdict.specs.Dictionary.{TermEntry, entry_keys}
use Rattle.std.proofs.Common.{List}
use Rattle.ii_termdict.specs.ReadBack.{AreAscending}
use Rattle.ii_merger.specs.declared.field_source.FieldSource.{FieldSource}
use Rattle.ii_merger.proofs.field_merge.all_terms.Given as goal

abbrev pub invariant-loop-place : goal.invariant-loop-place
invariant-loop-place l = record {
  terms : l.dictionaries.items ≡ map (λ (s : FieldSource). s.reader.now.terms) (take l.place l.sources);
  ascending : AllByRecursion (λ (es : List TermEntry). AreAscending (entry_keys es)) l.dictionaries.items;
}
