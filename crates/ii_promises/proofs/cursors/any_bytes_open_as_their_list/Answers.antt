use Rattle.std.proofs.lemmas.Result.{IfOk-weaker}
use Rattle.ii_promises.proofs.OpenedLaws.{few, few_by_lists, few_of_small, few_positions, none_of_short}
use Rattle.ii_promises.proofs.cursors.any_bytes_open_as_their_list.Goals as goal

pub returns-clause-list : goal.returns-clause-list
returns-clause-list c = IfOk-weaker c.open.result _ _ (λ cursor o. o.list) c.open.ensures.opened

pub returns-clause-many : goal.returns-clause-many
returns-clause-many c = IfOk-weaker c.open.result _ _ (λ cursor o. o.many) c.open.ensures.opened

pub returns-clause-at_front : goal.returns-clause-at_front
returns-clause-at_front c = IfOk-weaker c.open.result _ _ (λ cursor o. (o.doc_freq_is, o.first)) c.open.ensures.opened

pub returns-clause-decodes : goal.returns-clause-decodes
returns-clause-decodes c = IfOk-weaker c.open.result _ _ (λ cursor o. (o.doc_decodes, o.freq_decodes, o.position_decodes)) c.open.ensures.opened

pub returns-clause-entries : goal.returns-clause-entries
returns-clause-entries c = IfOk-weaker c.open.result _ _ (λ cursor o. o.entries_read) c.open.ensures.opened

pub returns-clause-validation : goal.returns-clause-validation
returns-clause-validation c = IfOk-weaker c.open.result _ _ (λ cursor o. few cursor.freq_reading c.args.doc_freq cursor.checked o.checked) c.open.ensures.opened

pub returns-clause-short : goal.returns-clause-short
returns-clause-short c = λ less. IfOk-weaker c.open.result _ _ (λ cursor o. none_of_short cursor.freq_reading c.args.doc_freq cursor.checked less o.checked) c.open.ensures.opened

pub returns-clause-position_lists : goal.returns-clause-position_lists
returns-clause-position_lists c = IfOk-weaker c.open.result _ _ (λ cursor o. few_by_lists c.args.doc_freq c.args.positions cursor.positions_checked o.positions_checked) c.open.ensures.opened

pub returns-clause-position_blocks : goal.returns-clause-position_blocks
returns-clause-position_blocks c = IfOk-weaker c.open.result _ _ (λ cursor o. few_positions c.args.doc_freq c.args.positions cursor.positions_checked o.positions_checked) c.open.ensures.opened

pub returns-clause-small_sum : goal.returns-clause-small_sum
returns-clause-small_sum c = IfOk-weaker c.open.result _ _ (λ cursor o. few_of_small c.args.doc_freq c.args.positions cursor.positions_checked o.positions_checked) c.open.ensures.opened
