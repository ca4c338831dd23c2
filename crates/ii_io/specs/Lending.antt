-- How a composite writer lends out its writer for a body.
use Rattle.std.specs.Prelude.{◌≡◌, ℕ, true, ◌∷◌, [], ◌++◌, Result}
use Rattle.std.specs.Borrow.{Lends, LendsSoOk, MutBor, Fml, RattleType}
use Rattle.std.specs.declared.io.Write as write
use Rattle.ii_io.specs.declared.faults.Fault.{Fault}
use Rattle.ii_io.specs.CountingWriter.{CountingWriterState}
use Rattle.ii_io.specs.CompositeWrite.{CompositeWriteState, next_start}
use Rattle.ii_io.specs.contracts.composite_file.composite_write.CompositeWrite as composite_write
use Rattle.ii_io.specs.contracts.counting_writer.CountingWriter as counting_writer

module _ (W : RattleType) (g : write.Ghosts W.Denot) where
  -- The writer is borrowed and the field's body starts, or the composite writer is closed.
  abbrev pub LendsForField : MutBor CompositeWriteState → ℕ → Result (MutBor CountingWriterState) Fault → Fml
  LendsForField s field r =
      LendsSoOk (composite_write.the_row W g) (counting_writer.the_row W g) s r
      (λ n w. n ≡ record s.now { writer = w; starts = s.now.starts ++ next_start s.now field ∷ [] }) (λ n. n ≡ record s.now { closed = true })

  -- The writer is borrowed for more bytes of the body that was opened last.
  abbrev pub LendsWriter : MutBor CompositeWriteState → MutBor CountingWriterState → Fml
  LendsWriter s r = Lends (composite_write.the_row W g) (counting_writer.the_row W g) s r (λ w. record s.now { writer = w })
