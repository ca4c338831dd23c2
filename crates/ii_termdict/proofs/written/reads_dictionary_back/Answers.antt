use Rattle.ii_termdict.proofs.ReadDictionaryLemmas.{reads_dictionary_back as law}
use Rattle.ii_termdict.proofs.written.reads_dictionary_back.Goals as goal

pub returns : goal.returns
returns c = law c.reads_store_back.ensures
