use Rattle.std.proofs.Common.{refl}
use Rattle.ii_segment_store.specs.Contents.{files_contents}
use Rattle.ii_tokenizers.specs.Tokenizers.{analyzed_in}
use Rattle.ii_index.specs.Segments.{no_documents}
use Rattle.ii_index.proofs.IndexLemmas.{created}
use Rattle.ii_index.proofs.index.create_in.Goals as goal

pub returns-in-Ok-replace_index-clause-empty : goal.returns-in-Ok-replace_index-clause-empty
returns-in-Ok-replace_index-clause-empty g c = λ known.
    let schema = c.in-Ok.both.1 in
    created schema.schema (analyzed_in schema.tokenizers) (no_documents schema) (g.D.Directory.seen c.replace_index.new.directory) c.in-Ok.both.0.items (files_contents c.in-Ok-empty_segment.segment)
    refl refl (c.in-Ok-replace_index.ensures.replaced known) c.in-Ok-empty_segment.ensures.holds
