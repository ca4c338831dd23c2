use Rattle.std.proofs.Common.{◌≡◌, take}
use Rattle.std.specs.List.{count_by}
use Rattle.ii_store.specs.Collect.{is_garbage}
use Rattle.ii_store.specs.IndexMeta.{meta_view}
use Rattle.ii_store.proofs.CollectLaws.{IsCollecting}
use Rattle.ii_store.proofs.collect.remove_garbage.Given as goal

-- the garbage among the names before the index was removed and counted, and the directory still obeys
abbrev pub invariant-loop-name : goal.invariant-loop-name
invariant-loop-name g l =
    let d = g.D.Directory in
    let m = meta_view l.meta in
    record {
      counted : l.removed ≡ count_by (is_garbage m) (take l.name-index l.names);
      still : d.may_refuse l.directory → d.may_refuse l.fn.directory;
      collecting : d.is_known l.fn.directory → IsCollecting d.moment d.left_since d.is_known d.seen m (take l.name-index l.names) l.fn.directory l.directory;
    }
