use Rattle.std.proofs.Common.{sym}
use Rattle.ii_termdict.proofs.SearchLemmas.{length-entries_of}
use Rattle.ii_termdict.proofs.key_parts.count_terms.Goals as goal

pub returns : goal.returns
returns c = rw c.opened.ensures.entries (sym (length-entries_of c.opened.result.num_terms c.opened.result.ends.now c.opened.result.body.now c.opened.ensures.valid))
