use Rattle.std.proofs.Common.{false}
use Rattle.ii_doc_store.specs.declared.faults.StoreDamage.TheVariants.{Footer}
use Rattle.ii_doc_store.proofs.IndexLaws.{index_with, named, no_footer, no_index, parts_index}
use Rattle.ii_doc_store.proofs.reader.read_index.Goals as goal

pub returns-in_default-clause-damaged : goal.returns-in_default-clause-damaged
returns-in_default-clause-damaged c = λ damage is. named Footer damage c.args.bytes.now (no_footer c.args.bytes.now c.in_default.ensures) is

pub returns-clause-index : goal.returns-clause-index
returns-clause-index c =
    let bytes = c.args.bytes.now in
    parts_index bytes c.in-Some.num_blocks c.read_parts.result c.in-Some.ensures.0 c.in-Some.ensures.1 c.read_parts.ensures.checkpoints (rw c.split_at.ensures.back at c.read_parts.ensures.sound)

pub returns-clause-damaged : goal.returns-clause-damaged
returns-clause-damaged c = λ damage is.
    let bytes = c.args.bytes.now in
    let h = rw c.split_at.ensures.back at (c.read_parts.ensures.damaged damage is) in
    rw h.0 (no_index bytes c.in-Some.ensures.0 (index_with bytes c.in-Some.num_blocks false c.in-Some.ensures.1 h.1))
