-- Rows of the definitions, worked out by hand.
use Rattle.std.proofs.Common.{◌≡◌, true, false, [], ◌∷◌, None, Some, refl}
use Rattle.ii_open_segments.specs.OpenFiles.{OpenFileState}
use Rattle.ii_open_segments.specs.OpenSegments.{OpenSegmentState}
use Rattle.std.specs.Prelude.{Option}
use Rattle.nequllpa_warming.specs.WarmedSegments.{known_bytes, lacks_file}

-- a file of two bytes, whose table is of a file of so many
abbrev file_of_two : Option OpenFileState
file_of_two = Some (record { bytes = Some (7 ∷ 8 ∷ []); table = record { len = 2; bytes = [] } })

abbrev file_cut : Option OpenFileState
file_cut = Some (record { bytes = Some (7 ∷ []); table = record { len = 2; bytes = [] } })

known_whole : known_bytes file_of_two ≡ Some (7 ∷ 8 ∷ [])
known_whole = refl

known_cut : known_bytes file_cut ≡ None
known_cut = refl

abbrev segment_of : Option OpenFileState → OpenSegmentState
segment_of norms = record { num_docs = 1; terms = file_of_two; postings = file_of_two; positions = file_of_two; fieldnorms = norms; alive = true ∷ [] }

lacks_none : lacks_file (segment_of file_of_two) ≡ false
lacks_none = refl

lacks_norms : lacks_file (segment_of None) ≡ true
lacks_norms = refl
