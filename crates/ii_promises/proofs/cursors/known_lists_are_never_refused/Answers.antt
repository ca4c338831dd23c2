use Rattle.ii_promises.proofs.OpenedLaws.{none_of_known}
use Rattle.ii_promises.proofs.cursors.known_lists_are_never_refused.Goals as goal

pub returns-clause-no_validation : goal.returns-clause-no_validation
returns-clause-no_validation c =
    let opened = c.open_known.ensures in
    none_of_known c.args.doc_freq c.args.positions c.open_known.result opened.checked opened.positions_checked

pub returns-clause-list : goal.returns-clause-list
returns-clause-list c = c.open_known.ensures.list

pub returns-clause-many : goal.returns-clause-many
returns-clause-many c = c.open_known.ensures.many

pub returns-clause-decodes : goal.returns-clause-decodes
returns-clause-decodes c = let opened = c.open_known.ensures in (opened.doc_decodes, opened.freq_decodes, opened.position_decodes)
