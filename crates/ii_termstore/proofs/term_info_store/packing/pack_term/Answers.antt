use Rattle.ii_termstore.proofs.PackLemmas.{three_rows}
use Rattle.ii_termstore.proofs.term_info_store.packing.pack_term.Goals as goal

pub returns-clause-row : goal.returns-clause-row
returns-clause-row c = λ row h.
    let first = c.pack-count.ensures.row row h in
    let second = c.pack-count-2.ensures.row _ first in
    let third = c.pack.ensures.row _ second in
    let all = rw three_rows at third in
    rw (← c.postings_of-postings.ensures, ← c.positions_of-positions.ensures, ← c.from.ensures) all
