-- The list of the writers of fields.
use Rattle.std.proofs.Common.{◌≡◌, ℕ, ◌<◌, List, ◌∙◌, length, map, get_or, slice_get, slice_set, Some, option_map, sym, ap}
use Rattle.std.proofs.lemmas.List.{map-set}
use Rattle.std.proofs.lemmas.Option.{slice_get-get_or, slice_get-map}
use Rattle.ii_postings_writer.specs.PostingsWriter.{PostingsWriterState}
use Rattle.ii_postings_writer.specs.PostingsWriterKind.{state_of_kind}
use Rattle.ii_postings_writer.specs.declared.postings_writer.PostingsWriterKind.{PostingsWriterKind}

module _ (writers : List PostingsWriterKind) (states : List PostingsWriterState) (is : map state_of_kind writers ≡ states) (field : ℕ) where
  -- one of them
  pub writer_at : (writer : PostingsWriterKind) → field < length writers → writer ≡ get_or writers field writer → slice_get states field ≡ Some (state_of_kind writer)
  writer_at writer low at =
      ap (λ (s : List PostingsWriterState). slice_get s field) (sym is)
      ∙ slice_get-map state_of_kind writers field
      ∙ ap (option_map state_of_kind) (slice_get-get_or writers field writer low ∙ ap (λ (w : PostingsWriterKind). Some w) (sym at))

  -- and another in its place
  pub writer_set : (writer : PostingsWriterKind) → map state_of_kind (slice_set writers field writer) ≡ slice_set states field (state_of_kind writer)
  writer_set writer = map-set state_of_kind writers field writer ∙ ap (λ (s : List PostingsWriterState). slice_set s field (state_of_kind writer)) is
