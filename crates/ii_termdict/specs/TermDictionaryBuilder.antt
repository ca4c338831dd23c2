-- A builder of a dictionary: its writer, the keys and the terms, and whether a call failed.
use Rattle.std.specs.Prelude.{Bool, ℕ, List}
use Rattle.ii_io.specs.CountingWriter.{CountingWriterState}
use Rattle.ii_termstore.specs.declared.term_info.TermInfo.{TermInfo}

pub record TermDictionaryBuilderState : Type 0 where
  pub writer : CountingWriterState
  pub keys : List (List ℕ)
  pub infos : List TermInfo
  pub closed : Bool
