-- Rows of the definitions of damages.
use Rattle.std.proofs.Common.{◌≡◌, true, false, List, [], ◌∷◌, None, Some, Ok, Err, refl}
use Rattle.std.specs.Prelude.{codes}
use Rattle.ii_io.specs.declared.faults.Part.TheVariants as parts
use Rattle.ii_base.specs.Entries.{Entry, counted}
use Rattle.ii_base.specs.Schema.{SchemaEntry}
use Rattle.ii_base.specs.Values.{json_key, text_key, typed_key}
use Rattle.ii_base.specs.declared.schema.index_record_option.IndexRecordOption.TheVariants.{WithFreqs}
use Rattle.ii_base.specs.declared.schema.value_type.ValueType.TheVariants.{I64, Json}
use Rattle.ii_definitions.specs.JsonKeys.{type_in}
use Rattle.ii_directory.specs.declared.name.Kind.TheVariants.{Terms, Postings, Positions}
use Rattle.ii_termstore.specs.declared.term_info.TermInfo.{TermInfo}
use Rattle.ii_damage.specs.declared.damage.Damage.TheVariants as damages
use Rattle.ii_damage.specs.declared.damage.FieldPlaces.{FieldPlaces}
use Rattle.ii_damage.specs.Damages.{bytes_of_damage, keeps_counts, list_damage, may_have, num_occurrences, tokens_of_doc}

abbrev json : SchemaEntry
json = record { name = codes "j"; value_type = Json; option = WithFreqs; is_indexed = true; has_fieldnorms = false; expands_dots = false }

-- of a text in a JSON field counts are kept, and of a number documents alone
pub counts_of_text : keeps_counts json (json_key (codes "size") (text_key (codes "big"))) ≡ true
unfolding type_in
counts_of_text = refl

pub documents_of_number : keeps_counts json (json_key (codes "size") (typed_key I64 40)) ≡ false
unfolding type_in
documents_of_number = refl

-- a number that stands twice in a document is in one entry: a field with two tokens may have one listed, and one with none may not
pub twice_in_a_document : may_have false 2 1 ≡ true
twice_in_a_document = refl

pub more_than_counted : may_have false 0 1 ≡ false
more_than_counted = refl

-- where counts are kept of each key the numbers are the same
pub less_than_counted : may_have true 2 1 ≡ false
less_than_counted = refl

abbrev entries : List Entry
entries = counted 0 2 ∷ counted 3 1 ∷ counted 4 5 ∷ []

pub tokens_of_entries : num_occurrences entries ≡ 8
tokens_of_entries = refl

pub tokens_of_one : tokens_of_doc 3 entries ≡ 1
tokens_of_one = refl

-- the first document that an index of three, or of five, doesn't have
pub first_stray_document : list_damage 3 (Ok entries) ≡ Some (damages.Document 3)
first_stray_document = refl

pub no_stray_document : list_damage 5 (Ok entries) ≡ None
no_stray_document = refl

pub damaged_list : list_damage 5 (Err parts.Documents) ≡ Some (damages.Part parts.Documents)
damaged_list = refl

abbrev places : FieldPlaces
places = record { field = 1; terms = record { start = 10; end = 90 }; lists = 108; positions = 200 }

abbrev info : TermInfo
info = record { doc_freq = 3; postings_range = record { start = 6; end = 12 }; positions_range = record { start = 4; end = 9 } }

-- documents that fail are in the postings after the number of tokens, positions in their file, and ranges in the terms
pub bytes_of_documents : bytes_of_damage places info (damages.Part parts.Documents) ≡ (Postings, record { start = 114; end = 120 })
bytes_of_documents = refl

pub bytes_of_positions : bytes_of_damage places info (damages.Part parts.Positions) ≡ (Positions, record { start = 204; end = 209 })
bytes_of_positions = refl

pub bytes_of_range : bytes_of_damage places info (damages.Part parts.Range) ≡ (Terms, record { start = 10; end = 90 })
bytes_of_range = refl
