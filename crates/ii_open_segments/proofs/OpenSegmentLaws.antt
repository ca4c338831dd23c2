-- A segment that is there as it was written opens.
use Rattle.std.proofs.Common.{◌≡◌, ℕ, Bool, true, List, Ok, ap, refl, sym}
use Rattle.std.specs.Prelude.{replicate}
use Rattle.ii_directory.specs.declared.name.SegmentComponent.TheVariants.{FieldNorms, Positions, Postings, Terms}
use Rattle.ii_directory.specs.Directory.{Files}
use Rattle.ii_segment_store.specs.BlockTables.{segment_tables}
use Rattle.ii_segment_store.specs.Commits.{HasSegment, listed_segment}
use Rattle.ii_segment_store.specs.Contents.{SegmentContents}
use Rattle.ii_open_segments.specs.OpenSegments.{opened_of, opened_segment}
use Rattle.ii_segment_store.proofs.CommitLaws.{flags_again, no_flags}
use Rattle.ii_open_segments.proofs.OpenLaws.{opens}

pub segment_opens : (id : ℕ) (s : SegmentContents) (files : Files) → HasSegment id s files → s.alive ≡ replicate s.num_docs true → opened_segment (listed_segment id s) files ≡ Ok (opened_of s)
unfolding opened_segment
segment_opens id s files there all =
    rw (
      opens id s files there Terms s.terms refl,
      opens id s files there Postings s.postings refl,
      opens id s files there Positions s.positions refl,
      opens id s files there FieldNorms s.fieldnorms refl,
      no_flags s.terms s.postings s.positions s.fieldnorms (segment_tables s) s.counts s.store,
      flags_again (listed_segment id s) refl files,
    ) (ap (λ (alive : List Bool). Ok (record (opened_of s) { alive = alive })) (sym all))
