-- Files of segments that are open with their tables.
use Rattle.std.proofs.Common.{◌≡◌, List, Ok, eq-eqb, length, refl}
use Rattle.ii_base.specs.Schema.{SchemaEntry}
use Rattle.ii_reader.specs.OpenIndex.{OpenIndexState, index_of_files}
use Rattle.ii_segment_store.specs.Contents.{SegmentContents}
use Rattle.ii_open_segments.specs.OpenSegments.{opened_of}
use Rattle.nequllpa_warming.specs.WarmedSegments.{HasItsTables, SegmentHolds}

-- the open files of a segment that was written hold its index
pub written_hold : (s : SegmentContents) (entries : List SchemaEntry) (whole : OpenIndexState) → index_of_files s.terms s.postings s.positions s.fieldnorms entries ≡ Ok whole → SegmentHolds (opened_of s) entries whole × HasItsTables (opened_of s)
written_hold s entries whole is = (
  record {
    terms_bytes = s.terms;
    postings_bytes = s.postings;
    positions_bytes = s.positions;
    norms_bytes = s.fieldnorms;
    terms_are = rw (eq-eqb (length s.terms) (length s.terms) refl) refl;
    postings_are = rw (eq-eqb (length s.postings) (length s.postings) refl) refl;
    positions_are = rw (eq-eqb (length s.positions) (length s.positions) refl) refl;
    norms_are = rw (eq-eqb (length s.fieldnorms) (length s.fieldnorms) refl) refl;
    index_is = is;
  },
  record { terms = refl; postings = refl; positions = refl; fieldnorms = refl },
)
