use Rattle.std.proofs.Common.{List, ℕ, ap, ◌∙◌, ◌++◌}
use Rattle.ii_docset.specs.Cursor.{positions_at}
use Rattle.ii_docset.proofs.CursorLemmas.{positions_fit, map-add_zero}
use Rattle.ii_reader.proofs.loaded_postings.load_positions.Goals as goal

pub append_positions_with_offset-requires-clause-fits : goal.append_positions_with_offset-requires-clause-fits
append_positions_with_offset-requires-clause-fits g c = positions_fit (g.P.DocSet.rest c.args.source.now) c.doc-doc.ensures.sound

pub returns-in-Ok-clause-ok : goal.returns-in-Ok-clause-ok
returns-in-Ok-clause-ok g c =
    c.in_ok-append_positions_with_offset.ensures.ok ∙ ap (λ (ps : List ℕ). c.args.positions.now.items ++ ps) (map-add_zero (positions_at (g.P.DocSet.rest c.args.source.now)))
