use Rattle.std.proofs.Common.{ap, Some, ◌∙◌, sym, List, ℕ}
use Rattle.ii_termdict.proofs.SearchLemmas.{length-entries_of, key_found}
use Rattle.ii_termdict.proofs.key_parts.key_at.Goals as goal

pub read_key-requires-clause-within : goal.read_key-requires-clause-within
read_key-requires-clause-within c =
    let size = length-entries_of c.opened-parts.result.num_terms c.opened-parts.result.ends.now c.opened-parts.result.body.now c.opened-parts.ensures.valid in
    let within = rw c.opened-parts.ensures.entries at c.requires in
    rw (← size) within

pub returns : goal.returns
returns c =
    let size = length-entries_of c.opened-parts.result.num_terms c.opened-parts.result.ends.now c.opened-parts.result.body.now c.opened-parts.ensures.valid in
    let within = rw c.opened-parts.ensures.entries at c.requires in
    rw c.opened-parts.ensures.entries
    (key_found c.opened-parts.result.num_terms c.opened-parts.result.ends.now c.opened-parts.result.body.now c.args.ord c.opened-parts.ensures.valid (rw (← size) within) ∙ ap (λ (k : List ℕ). Some k) (sym c.read_key.ensures))
