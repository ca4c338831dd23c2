-- What a merge of segments keeps, in other words.
use Rattle.std.proofs.Common.{◌≡◌, List, Result, Ok, Err}
use Rattle.std.specs.Prelude.{OnOk}
use Rattle.ii_base.specs.Schema.{SchemaEntry}
use Rattle.ii_directory.specs.Directory.{Files}
use Rattle.ii_segments.specs.Segments.{Segment, index_tokens, num_docs_of}
use Rattle.nequllpa_merging.specs.Joins.{HoldsIndex, HoldsSameIndex}

-- the same documents, in other segments
abbrev pub AreSame : List SchemaEntry → Files → List Segment → Type 0
AreSame entries files ss = (ts : List Segment) × HoldsIndex entries files ts × (index_tokens ts ≡ index_tokens ss) × (num_docs_of ts ≡ num_docs_of ss)

pub same_documents : (entries : List SchemaEntry) (files : Files) (ss : List Segment) → HoldsSameIndex entries files ss → AreSame entries files ss
same_documents entries files ss h = (h.segments, h.holds, h.tokens, h.num_docs)

pub same_if_done : {A E : Type 0} (entries : List SchemaEntry) (files : Files) (ss : List Segment) (result : Result A E) → OnOk result (HoldsSameIndex entries files ss) → OnOk result (AreSame entries files ss)
same_if_done entries files ss (Ok x) h = same_documents entries files ss h
same_if_done entries files ss (Err e) h = tt
