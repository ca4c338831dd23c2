use Rattle.std.proofs.Common.{◌∙◌, sym}
use Rattle.std.proofs.lemmas.List.Splits.{join_with_byte-slice_split}
use Rattle.std.proofs.lemmas.Result.{IfOk-weaker}
use Rattle.iiq.proofs.commands.text_of.Goals as goal

pub returns-in-Ok : goal.returns-in-Ok
returns-in-Ok c =
    rw c.in-Some.is
    (IfOk-weaker c.from_str.result _ _ (λ text is. is ∙ c.in-Ok.ensures.cases.0 ∙ sym (join_with_byte-slice_split 32 c.in-Some.bytes.now)) c.from_str.ensures.ok)
