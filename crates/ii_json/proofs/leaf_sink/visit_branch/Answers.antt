use Rattle.std.proofs.Common.{refl, sym, is_some, reverse}
use Rattle.ii_json.specs.declared.branch.OuterBranch.{OuterBranch}
use Rattle.ii_json.specs.Branches.{key_bytes}
use Rattle.ii_json.proofs.BranchLemmas.{IsSplit, below_opened, innermost_clean, opened, opened_last}
use Rattle.ii_json.proofs.LeafVisitLemmas.{handed_same}
use Rattle.ii_json.proofs.leaf_sink.visit_branch.Goals as goal

pub visit_part-requires-clause-path : goal.visit_part-requires-clause-path
visit_part-requires-clause-path g c = innermost_clean c.loop-part.writer (reverse c.loop-part.outer.items) c.loop-part.invariant.0.clean

pub open_branch-requires-clause-path : goal.open_branch-requires-clause-path
open_branch-requires-clause-path g c = innermost_clean c.loop-part.writer (reverse c.loop-part.outer.items) c.loop-part.invariant.0.clean

pub loop-part-preserved : goal.loop-part-preserved
loop-part-preserved g c =
    let l = c.loop-part in
    let outer = reverse l.outer.items in
    let part = c.in-Some.part in
    let ok = c.in_ok-open_branch.ensures in
    let b : OuterBranch = record { branch = c.in-Some.rest; has_key = is_some (key_bytes part) } in
    let last = opened_last c.open_branch.new.outer.items l.outer.items b ok.outer in
    let split : IsSplit l.current c.in-Some.rest part = record { leaves = c.in-Some.ensures.leaves } in
    let clean = sym c.if-has_zero.ensures in
    rw last (
      below_opened c.args.writer.now l.writer c.open_branch.new.writer part b outer l.invariant.0 ok.ok refl ok.path,
      handed_same g.S.LeafSink.constant g.S.LeafSink.ready g.S.LeafSink.holds g.S.LeafSink.fault _ _ _ _ _ l.invariant.1 (opened l.writer c.open_branch.new.writer l.current c.in-Some-of.inner part b outer split clean ok.ok refl c.in-Some-of.ensures.leaves),
    )
