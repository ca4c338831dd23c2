use Rattle.std.proofs.Common.{ℕ, length, map, subst, sym}
use Rattle.ii_segment_store.specs.Contents.{segment_contents}
use Rattle.ii_index.specs.Searching.{HaveReaders}
use Rattle.ii_index.proofs.OpenLemmas.{have_readers}
use Rattle.ii_index.proofs.opening.open_searcher.Goals as goal

pub new-requires-in-Some : goal.new-requires-in-Some
new-requires-in-Some c =
    subst (λ (n : ℕ). HaveReaders n c.in-Some.searcher) (sym c.num_fields.ensures.value)
    (subst (HaveReaders (length c.args.schema.now)) (sym c.in-Some.ensures.some) (have_readers c.args.schema.now (map segment_contents c.args.segments.items) c.in-Ok.both.0.items c.in-Ok.ensures.opens))
