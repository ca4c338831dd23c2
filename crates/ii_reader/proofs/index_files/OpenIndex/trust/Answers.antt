use Rattle.std.proofs.Common.{List, ap, subst, sym, ◌∙◌}
use Rattle.std.specs.List.{All}
use Rattle.ii_reader.specs.InvertedIndexReader.{AllOpen, InvertedIndexReaderState}
use Rattle.ii_reader.specs.OpenIndex.{OpenIndexState}
use Rattle.ii_reader.proofs.index_files.OpenIndex.trust.Goals as goal

pub trust_all-requires : goal.trust_all-requires
trust_all-requires c =
    let readers = ap (λ (index : OpenIndexState). index.readers) (sym c.self.view_is) in
    subst (λ (rs : List InvertedIndexReaderState). All AllOpen rs) (readers ∙ sym c.deref_mut.ensures.value) c.requires
