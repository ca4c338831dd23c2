use Rattle.std.proofs.Common.{◌≡◌, ◌-◌, suc, sym, ap, ◌∙◌, arith}
use Rattle.ii_doc_store.specs.StoreReader.{ends_before_from}
use Rattle.ii_doc_store.proofs.IndexLaws.{ends_before_at}
use Rattle.ii_doc_store.proofs.reader.ends_before.Goals as goal

pub returns : goal.returns
returns c =
    let n = c.args.number in
    let next : n ≡ suc (n - 1) = omega (arith, c.if-number-eq0.false) in
    sym (ap (ends_before_from 0 0 c.args.checkpoints.now) next ∙ ends_before_at 0 0 (n - 1) c.args.checkpoints.now _ (omega (arith, c.if-number-eq0.false, c.requires)))
