-- What a merge of segments keeps, and how an index of segments follows from its segments.
use Rattle.std.specs.Prelude.{◌≡◌, ℕ, List, ◌∷◌, ◌++◌, sum}
use Rattle.std.specs.List.{AllByRecursion, flat_map}
use Rattle.ii_base.specs.declared.schema.index_record_option.IndexRecordOption.{IndexRecordOption}
use Rattle.ii_base.specs.Schema.{SchemaEntry}
use Rattle.ii_definitions.specs.Norms.{norm_ids}
use Rattle.ii_definitions.specs.Postings.{field_count, key_postings}
use Rattle.ii_segments.specs.Segments.{AreSegmentTokens, Segment, doc_counts, index_tokens, living_counts, living_norms, merged, num_docs_of, postings_from_segments}

-- One segment in place of neighbours changes no token of an index, and no document's number.
abbrev pub MergeKeeps : Type 0
MergeKeeps = (before chosen after : List Segment) → index_tokens (before ++ merged chosen ∷ after) ≡ index_tokens (before ++ (chosen ++ after))

-- Segments are merged into a segment.
abbrev pub MergedIsSegment : Type 0
MergedIsSegment = (entries : List SchemaEntry) (ss : List Segment) → AllByRecursion (AreSegmentTokens entries) ss → AreSegmentTokens entries (merged ss)

-- The postings of a key are those of the living documents of each segment, one after the other.
abbrev pub KeysOfSegments : Type 0
KeysOfSegments = (entries : List SchemaEntry) (option requested : IndexRecordOption) (field : ℕ) (key : List ℕ) (ss : List Segment) → AllByRecursion (AreSegmentTokens entries) ss
    → key_postings option field key requested (index_tokens ss) ≡ postings_from_segments option field key requested 0 ss

-- The numbers of tokens in a field, and its norms, are those of the living documents of each segment, one after the other.
pub record CountsOfSegments (field : ℕ) (ss : List Segment) : Type 0 where
  pub counts : doc_counts (num_docs_of ss) field (index_tokens ss) ≡ flat_map (living_counts field) ss
  pub norms : norm_ids (num_docs_of ss) field (index_tokens ss) ≡ flat_map (living_norms field) ss
  pub total : field_count field (index_tokens ss) ≡ sum (flat_map (living_counts field) ss)
