use Rattle.std.proofs.Common.{arith, refl, inl, inr}
use Rattle.ii_io.specs.Composite.{table_bytes}
use Rattle.ii_io.specs.CompositeWrite.{places_until}
use Rattle.ii_io.proofs.WriteSteps.{writes_limit}
use Rattle.ii_io.proofs.CompositeWriteLemmas.{length-places_until, length-table_bytes}
use Rattle.ii_io.proofs.composite_file.composite_write.write_table.Goals as goal

pub returns-then-written_bytes-size-clause-written : goal.returns-then-written_bytes-size-clause-written
returns-then-written_bytes-size-clause-written g c =
    let places = places_until c.args.starts.now c.args.end in
    let count = length-places_until c.args.starts.now c.args.end in
    let size = length-table_bytes places in
    writes_limit c.args.writer.now (table_bytes places) (inl (omega arith))

pub returns-then-written_bytes-size-clause-limit : goal.returns-then-written_bytes-size-clause-limit
returns-then-written_bytes-size-clause-limit g c =
    let places = places_until c.args.starts.now c.args.end in
    let count = length-places_until c.args.starts.now c.args.end in
    let size = length-table_bytes places in
    (λ _. inl (omega arith), λ _. refl)

pub returns-clause-limit : goal.returns-clause-limit
returns-clause-limit g c =
    let places = places_until c.args.starts.now c.args.end in
    let count = length-places_until c.args.starts.now c.args.end in
    let size = length-table_bytes places in
    (c.write_places_and_number.ensures.limit, λ full. absurd (elim full [ inl long ↦ omega arith | inr most ↦ omega arith ]))
