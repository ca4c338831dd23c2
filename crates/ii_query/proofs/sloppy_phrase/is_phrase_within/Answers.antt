use Rattle.std.proofs.Common.{◌∙◌, ℕ, ap, sym}
use Rattle.std.specs.List.{list_any}
use Rattle.ii_docset.specs.Cursor.{positions_at}
use Rattle.ii_query.specs.Phrase.{parts_in, stand_here}
use Rattle.ii_query.specs.SloppyPhrase.{stand_near_here}
use Rattle.ii_query.proofs.PhraseLemmas.{any_alike}
use Rattle.ii_query.proofs.SloppyLemmas.{zero_here}
use Rattle.ii_query.proofs.sloppy_phrase.is_phrase_within.Goals as goal

pub returns-then-slop-eq0-clause-phrase : goal.returns-then-slop-eq0-clause-phrase
returns-then-slop-eq0-clause-phrase g c =
    let others = parts_in c.args.others.now.items in
    let starts = positions_at c.args.first.now.part.rest in
    c.is_phrase.ensures.phrase ∙ sym (any_alike (stand_near_here 0 others) (stand_here others) starts (zero_here others)) ∙ ap (λ (slop : ℕ). list_any (stand_near_here slop others) starts) (sym c.if-slop-eq0.true)
