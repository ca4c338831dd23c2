use Rattle.std.proofs.Common.{List, ℕ, set, ap, ◌∙◌}
use Rattle.ii_layout.proofs.SkipWriting.{code_after}
use Rattle.ii_layout.proofs.skip.SkipSerializer.write_doc.Goals as goal

pub returns : goal.returns
returns c =
    let bytes = ap (λ (bytes : List ℕ). set bytes 4 c.encode_bitwidth.result) c.write_u32.ensures ∙ code_after c.args.last_doc c.args.doc_num_bits c.encode_bitwidth.result c.encode_bitwidth.ensures in
    rw (← bytes) c.add.ensures
