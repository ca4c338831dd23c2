use Rattle.std.proofs.Common.{◌∙◌, ap}
use Rattle.std.specs.Prelude.{string_bytes}
use Rattle.ii_json.proofs.KnownPaths.{more_seen}
use Rattle.ii_json.proofs.path_to_unordered_id.PathToUnorderedId.known_paths.Goals as goal

pub loop-path-preserved : goal.loop-path-preserved
loop-path-preserved c =
    let l = c.loop-path in
    rw c.in_ok-push.ensures.items (more_seen (λ text. text.now) string_bytes l.paths.items c.as_slice-path-items.result.now l.path-index c.as_str.result c.path-item.result c.loop-path-test.true l.invariant (c.as_str.ensures.value ∙ ap string_bytes c.path-item.is))
