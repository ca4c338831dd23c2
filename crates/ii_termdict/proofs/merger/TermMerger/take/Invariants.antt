use Rattle.std.proofs.Common.{◌≡◌, ◌++◌, drop, length, map, take}
use Rattle.ii_termdict.specs.TermMerger.{behind_key, first_info}
use Rattle.ii_termdict.proofs.merger.TermMerger.take.Given as goal

abbrev pub invariant-loop-place : goal.invariant-loop-place
invariant-loop-place l =
    (l.infos.items ≡ map (first_info l.key) (take l.place l.initial.self-inside.dictionaries.items))
    × (l.self-inside.dictionaries.items ≡ map (behind_key l.key) (take l.place l.initial.self-inside.dictionaries.items) ++ drop l.place l.initial.self-inside.dictionaries.items)
    × (length l.self-inside.dictionaries.items ≡ length l.initial.self-inside.dictionaries.items)
