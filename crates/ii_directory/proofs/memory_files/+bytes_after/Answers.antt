use Rattle.std.proofs.Common.{Some, ap, sym, ◌∙◌}
use Rattle.ii_directory.specs.MemoryFiles.{changed}
use Rattle.ii_directory.proofs.MemoryLaws.{flushed_elsewhere, found_at_ok, no_changes, put_elsewhere, put_here, removed_elsewhere, removed_here, renamed_elsewhere, renamed_from, renamed_to}
use Rattle.ii_directory.proofs.memory_files.+bytes_after.Goals as goal

pub returns-in_default-clause-found : goal.returns-in_default-clause-found
returns-in_default-clause-found t c = no_changes c.args.changes.now c.args.name c.in_default.ensures.cases

pub returns-then-is_same-clause-found : goal.returns-then-is_same-clause-found
returns-then-is_same-clause-found t c =
    let here = put_here c.args.changes.now c.in-Some.before.now c.in-Some.last.now c.args.name c.in-Some.ensures.cases.0 c.in-Put.put c.in-Put.bytes c.in-Put.is
    (sym c.is_same.ensures ∙ c.if-is_same.true) in
    ap (λ bytes. Some bytes) (c.in_ok-to_vec-in-Put.ensures.items_if_clones_equal (λ x y same. same) ∙ c.deref.ensures.value) ∙ here

pub returns-else-is_same-clause-found : goal.returns-else-is_same-clause-found
returns-else-is_same-clause-found t c =
    found_at_ok c.bytes_after.result _ _ (put_elsewhere c.args.changes.now c.in-Some.before.now c.in-Some.last.now c.args.name c.in-Some.ensures.cases.0 c.in-Put.put c.in-Put.bytes c.in-Put.is
    (sym c.is_same.ensures ∙ c.if-is_same.false)) c.bytes_after.ensures.found

pub returns-then-is_same-2-clause-found : goal.returns-then-is_same-2-clause-found
returns-then-is_same-2-clause-found t c = removed_here c.args.changes.now c.in-Some.before.now c.in-Some.last.now c.args.name c.in-Some.ensures.cases.0 c.in-Removed.removed c.in-Removed.is
    (sym c.is_same-in-Removed.ensures ∙ c.if-is_same-2.true)

pub returns-else-is_same-2-clause-found : goal.returns-else-is_same-2-clause-found
returns-else-is_same-2-clause-found t c =
    found_at_ok c.bytes_after-in-Removed.result _ _ (removed_elsewhere c.args.changes.now c.in-Some.before.now c.in-Some.last.now c.args.name c.in-Some.ensures.cases.0 c.in-Removed.removed c.in-Removed.is
    (sym c.is_same-in-Removed.ensures ∙ c.if-is_same-2.false)) c.bytes_after-in-Removed.ensures.found

pub returns-then-is_same-3-clause-found : goal.returns-then-is_same-3-clause-found
returns-then-is_same-3-clause-found t c =
    found_at_ok c.bytes_after-then-is_same-3.result _ _ (renamed_to c.args.changes.now c.in-Some.before.now c.in-Some.last.now c.args.name c.in-Some.ensures.cases.0 c.in-Renamed.from c.in-Renamed.to c.in-Renamed.is
    (sym c.is_same-in-Renamed.ensures ∙ c.if-is_same-3.true)) c.bytes_after-then-is_same-3.ensures.found

pub returns-then-is_same-4-clause-found : goal.returns-then-is_same-4-clause-found
returns-then-is_same-4-clause-found t c = renamed_from c.args.changes.now c.in-Some.before.now c.in-Some.last.now c.args.name c.in-Some.ensures.cases.0 c.in-Renamed.from c.in-Renamed.to c.in-Renamed.is
    (sym c.is_same-in-Renamed.ensures ∙ c.if-is_same-3.false) (sym c.is_same-in-Renamed-2.ensures ∙ c.if-is_same-4.true)

pub returns-else-is_same-4-clause-found : goal.returns-else-is_same-4-clause-found
returns-else-is_same-4-clause-found t c =
    found_at_ok c.bytes_after-in-Renamed.result _ _ (renamed_elsewhere c.args.changes.now c.in-Some.before.now c.in-Some.last.now c.args.name c.in-Some.ensures.cases.0 c.in-Renamed.from c.in-Renamed.to c.in-Renamed.is
    (sym c.is_same-in-Renamed.ensures ∙ c.if-is_same-3.false) (sym c.is_same-in-Renamed-2.ensures ∙ c.if-is_same-4.false)) c.bytes_after-in-Renamed.ensures.found

pub returns-in-Flushed-clause-found : goal.returns-in-Flushed-clause-found
returns-in-Flushed-clause-found t c =
    found_at_ok c.bytes_after-in-Flushed.result _ _ (flushed_elsewhere c.args.changes.now c.in-Some.before.now c.in-Some.last.now c.args.name c.in-Some.ensures.cases.0
    (λ files name. ap (λ change. changed change files name) c.in-Flushed.is)) c.bytes_after-in-Flushed.ensures.found

pub returns-in-FlushedNames-clause-found : goal.returns-in-FlushedNames-clause-found
returns-in-FlushedNames-clause-found t c =
    found_at_ok c.bytes_after-in-FlushedNames.result _ _ (flushed_elsewhere c.args.changes.now c.in-Some.before.now c.in-Some.last.now c.args.name c.in-Some.ensures.cases.0
    (λ files name. ap (λ change. changed change files name) c.in-FlushedNames.is)) c.bytes_after-in-FlushedNames.ensures.found
