use Rattle.std.proofs.Common.{◌<◌, ◌==◌, length, sym, ap, ◌∙◌}
use Rattle.std.specs.Prelude.{List, ℕ}
use Rattle.ii_recorder.specs.Recorded.{current_doc}
use Rattle.ii_recorder.proofs.StateLemmas.{docs_current}
use Rattle.ii_recorder.proofs.VintRowLemmas.{some_bytes}
use Rattle.ii_recorder.proofs.recorder.DocIdRecorderRecorder.current_doc.Goals as goal

pub returns : goal.returns
returns c =
    let bytes = c.self.inside.deltas.items in
    let some : 0 < length bytes = some_bytes (length bytes) (sym c.if-is_empty.false ∙ c.is_empty.ensures ∙ ap (λ (bs : List ℕ). length bs == 0) c.as_slice.ensures) in
    docs_current bytes c.self.inside.last c.self.inside.is_open c.self.invariant some ∙ ap current_doc c.self.view_is
