use Rattle.std.proofs.Common.{◌≡◌, ◌∷◌, length, rules, sym, ◌∙◌}
use Rattle.ii_recorder.specs.VintRows.{numbers}
use Rattle.ii_recorder.proofs.VintRowLemmas.{can_read, some_bytes, vints_read}
use Rattle.ii_recorder.proofs.recorder.VInt32ReaderIterator.next.Goals as goal

pub read_u32_vint-number-requires : goal.read_u32_vint-number-requires
read_u32_vint-number-requires c = can_read c.self.inside.bytes.now c.self.invariant (some_bytes (length c.self.inside.bytes.now) (sym c.if-is_empty.false ∙ c.is_empty.ensures))

pub invariant_of-self : goal.invariant_of-self
invariant_of-self c =
    (vints_read c.self.inside.bytes.now c.read_u32_vint-number.new.bytes.now c.read_u32_vint-number.result c.self.invariant (some_bytes (length c.self.inside.bytes.now) (sym c.if-is_empty.false ∙ c.is_empty.ensures)) c.read_u32_vint-number.ensures).0

pub returns-clause-steps : goal.returns-clause-steps
returns-clause-steps c =
    sym c.self.view_is
    ∙ (vints_read c.self.inside.bytes.now c.read_u32_vint-number.new.bytes.now c.read_u32_vint-number.result c.self.invariant (some_bytes (length c.self.inside.bytes.now) (sym c.if-is_empty.false ∙ c.is_empty.ensures)) c.read_u32_vint-number.ensures).1

pub returns-clause-goes : goal.returns-clause-goes
returns-clause-goes c =
    let steps : c.args.self.now ≡ c.read_u32_vint-number.result ∷ numbers c.read_u32_vint-number.new.bytes.now = sym c.self.view_is
    ∙ (vints_read c.self.inside.bytes.now c.read_u32_vint-number.new.bytes.now c.read_u32_vint-number.result c.self.invariant (some_bytes (length c.self.inside.bytes.now) (sym c.if-is_empty.false ∙ c.is_empty.ensures)) c.read_u32_vint-number.ensures).1
    in
    rw steps (search rules)
