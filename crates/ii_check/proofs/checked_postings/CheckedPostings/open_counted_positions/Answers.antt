use Rattle.std.proofs.Common.{◌^◌, is_some, sym, ap, ◌∙◌, arith}
use Rattle.std.specs.List.{sum}
use Rattle.std.proofs.lemmas.Bool.{and_parts, ltb-true}
use Rattle.ii_base.specs.Options.{downgrade, has_positions}
use Rattle.ii_codes.specs.BlockDecoder.{BlockDecoderState}
use Rattle.ii_check.proofs.PositionLemmas.{small_given}
use Rattle.ii_check.proofs.SpentLemmas.{checks_large, checks_small}
use Rattle.ii_check.proofs.checked_postings.CheckedPostings.open_counted_positions.Goals as goal

pub returns-then-is_small-clause-ok : goal.returns-then-is_small-clause-ok
returns-then-is_small-clause-ok c =
    let p = c.args.self.now in
    let deltas = c.in-Ok.reader.deltas in
    let read = and_parts (has_positions (downgrade p.recorded p.requested)) (is_some p.postings.freqs) (sym c.reads_positions.ensures ∙ c.if-not-reads_positions.false) in
    let small = ltb-true (sum deltas) (2 ^ 32) (sym c.has_small_sum-is_small.ensures.small ∙ c.if-is_small.true) in
    let len = c.len.ensures in
    let count = c.from.ensures in
    let same = c.if-len-from.false in
    rw (read.0, c.in-Some.is) (small_given p.postings.freqs c.in-Some.bytes deltas c.num_positions.result read.1 c.in-Ok.ensures.ok c.num_positions.ensures (omega arith) small)

pub returns-then-is_small-clause-checked : goal.returns-then-is_small-clause-checked
returns-then-is_small-clause-checked c =
    let small = sym c.has_small_sum-is_small.ensures.small ∙ c.if-is_small.true in
    let none = ap (λ (d : BlockDecoderState). d.decodes) c.with_val-decoder.ensures in
    let few = c.has_small_sum-is_small.ensures.decodes c.in-Ok.ensures.block in
    let positions = c.add_positions.ensures.positions in
    rw c.in-Some.is (checks_small _ _ c.in-Ok.reader.deltas _ _ c.in-Ok.ensures.ok small c.add_positions.ensures.lists.0 c.add_positions.ensures.lists.1 (omega arith))

pub returns-clause-checked : goal.returns-clause-checked
returns-clause-checked c =
    let small = sym c.has_small_sum-is_small.ensures.small ∙ c.if-is_small.false in
    let none = ap (λ (d : BlockDecoderState). d.decodes) c.with_val-decoder.ensures in
    let few = c.has_small_sum-is_small.ensures.decodes c.in-Ok.ensures.block in
    let summed = c.add_positions.ensures.positions in
    let are = c.if-not-are_positions.false in
    let docs = c.are_positions.ensures.docs_checked are in
    let freqs = c.are_positions.ensures.freqs_checked are in
    let same = c.are_positions.ensures.positions_checked are in
    let read = c.are_positions.ensures.decodes are in
    let one = c.in-Ok.ensures.decodes in
    let added = c.add_reader.ensures.positions in
    rw c.in-Some.is
    (checks_large _ _ c.in-Ok.reader.deltas _ _ c.in-Ok.ensures.ok small (omega (arith, c.add_reader.ensures.lists.0, c.add_positions.ensures.lists.0)) (omega (arith, c.add_reader.ensures.lists.1, c.add_positions.ensures.lists.1)) (omega arith))
