-- Result of opening the bodies of a field.
use Rattle.std.specs.Prelude.{◌≡◌, Result, Ok, Err}
use Rattle.ii_io.specs.declared.faults.Part.{Part}
use Rattle.ii_reader.specs.InvertedIndexReader.{InvertedIndexReaderState}
use Rattle.ii_directory.specs.declared.name.Kind.{Kind}
use Rattle.ii_damage.specs.declared.walked_files.OpenedField.{OpenedField}
use Rattle.ii_damage.specs.declared.walked_files.OpenedField.TheVariants.{Reader, Damaged}

-- A field opened as its reader, or failed with the damaged file and its first damaged part.
abbrev pub Opens : Result InvertedIndexReaderState (Kind × Part) → OpenedField → Type 0
Opens found (Reader reader) = found ≡ Ok reader
Opens found (Damaged kind part) = found ≡ Err (kind, part)
