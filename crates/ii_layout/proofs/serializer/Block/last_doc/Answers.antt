use Rattle.std.proofs.Common.{length-take, sym, arith}
use Rattle.std.proofs.lemmas.List.{get_or-take}
use Rattle.ii_layout.proofs.serializer.Block.last_doc.Goals as goal

pub returns : goal.returns
returns c =
    let docs = c.self.inside.doc_ids in
    let size = rw (← c.self.view_is) at c.requires in
    rw (← c.self.view_is) (sym (get_or-take c.self.inside.len docs 127 0 (omega (arith, size, length-take c.self.inside.len docs))))
