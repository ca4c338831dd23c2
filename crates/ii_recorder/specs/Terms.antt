-- The terms of a field: the bytes that are written for each, and its info.
use Rattle.std.specs.Prelude.{ℕ, ◌+◌, ◌^◌, ◌<◌, if◌then◌else◌, List, [], ◌∷◌, ◌++◌, length, map, Option}
use Rattle.std.specs.List.{flat_map}
use Rattle.ii_base.specs.declared.schema.index_record_option.IndexRecordOption.{IndexRecordOption}
use Rattle.ii_base.specs.Options.{has_positions}
use Rattle.ii_fieldnorm.specs.Readers.{Norms}
use Rattle.ii_io.specs.Numbers.{le_bytes}
use Rattle.ii_layout.specs.Written.{written_postings}
use Rattle.ii_layout.specs.Positions.{written_positions}
use Rattle.ii_termstore.specs.declared.term_info.TermInfo.{TermInfo}
use Rattle.ii_termstore.specs.TermInfos.{term_info_from}
use Rattle.ii_termdict.specs.Written.{written_dictionary}

-- A term: its key, the norms of its field, the shape of its entries, documents, frequencies, and all deltas.
pub record WrittenTerm : Type 0 where
  pub key : List ℕ
  pub norms : Option Norms
  pub skip_info : IndexRecordOption
  pub docs : List ℕ
  pub freqs : List ℕ
  pub deltas : List ℕ

-- the bytes of its postings
abbrev pub postings_bytes : WrittenTerm → List ℕ
postings_bytes t = written_postings t.norms t.skip_info t.docs t.freqs

-- the bytes of positions by their deltas, none in a field that doesn't record them
abbrev pub positions_bytes : IndexRecordOption → List ℕ → List ℕ
positions_bytes mode deltas = if has_positions mode then written_positions deltas else []

-- The postings and the positions of a term have fewer than 2 ^ 32 bytes each.
abbrev pub IsShort : IndexRecordOption → WrittenTerm → Type 0
IsShort mode t = (length (postings_bytes t) < 2 ^ 32) × (length (positions_bytes mode t.deltas) < 2 ^ 32)

-- the infos of terms whose postings and positions follow each other from these places on
abbrev pub infos_from : IndexRecordOption → ℕ → ℕ → List WrittenTerm → List TermInfo
infos_from mode postings positions [] = []
infos_from mode postings positions (t ∷ ts) =
    let postings_end = postings + length (postings_bytes t) in
    let positions_end = positions + length (positions_bytes mode t.deltas) in
    term_info_from (length t.docs) postings postings_end positions positions_end ∷ infos_from mode postings_end positions_end ts

-- The bodies of a field in the three files of an index.
pub record FieldBodies : Type 0 where
  pub terms : List ℕ
  pub postings : List ℕ
  pub positions : List ℕ

-- the positions of all terms, one after the other
abbrev pub positions_body : IndexRecordOption → List WrittenTerm → List ℕ
positions_body mode ts = flat_map (λ (t : WrittenTerm). positions_bytes mode t.deltas) ts

-- the dictionary, the number of the field's tokens with all postings, and all positions
abbrev pub field_bodies : IndexRecordOption → ℕ → List WrittenTerm → FieldBodies
field_bodies mode tokens ts = record {
  terms = written_dictionary (map (λ (t : WrittenTerm). t.key) ts) (infos_from mode 0 0 ts);
  postings = le_bytes 8 tokens ++ flat_map postings_bytes ts;
  positions = positions_body mode ts;
}

-- the bodies before the dictionary is written
abbrev pub open_bodies : IndexRecordOption → ℕ → List WrittenTerm → FieldBodies
open_bodies mode tokens ts = record (field_bodies mode tokens ts) { terms = [] }
