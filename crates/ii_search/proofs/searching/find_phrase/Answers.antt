use Rattle.std.proofs.Common.{◌∷◌}
use Rattle.ii_query.specs.Phrase.{cursors_in}
use Rattle.ii_search.proofs.DecodesLaws.{all_spent}
use Rattle.ii_search.proofs.searching.find_phrase.Goals as goal

pub returns-in-Ok-phrase_parts-clause-lazy : goal.returns-in-Ok-phrase_parts-clause-lazy
returns-in-Ok-phrase_parts-clause-lazy c =
    let few = all_spent (c.in-Ok.first ∷ cursors_in c.in-Ok-phrase_parts.others.items) c.new.result.phrase.cursors c.new.ensures.work (c.in-Ok.ensures.lazy, c.in-Ok-phrase_parts.ensures.lazy) in
    rw (c.one.ensures.cursors) (few, tt)
