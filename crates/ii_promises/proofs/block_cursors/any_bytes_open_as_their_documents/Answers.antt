use Rattle.std.proofs.Common.{arith}
use Rattle.std.proofs.lemmas.Result.{IfOk-weaker}
use Rattle.ii_promises.proofs.OpenedLaws.{few}
use Rattle.ii_promises.proofs.block_cursors.any_bytes_open_as_their_documents.Goals as goal

pub returns-clause-list : goal.returns-clause-list
returns-clause-list c = IfOk-weaker c.open.result _ _ (λ cursor o. o.docs) c.open.ensures.opened

pub returns-clause-many : goal.returns-clause-many
returns-clause-many c = IfOk-weaker c.open.result _ _ (λ cursor o. o.entries.many) c.open.ensures.opened

pub returns-clause-first : goal.returns-clause-first
returns-clause-first c = IfOk-weaker c.open.result _ _ (λ cursor o. o.first) c.open.ensures.opened

pub returns-clause-docs : goal.returns-clause-docs
returns-clause-docs c = IfOk-weaker c.open.result _ _ (λ cursor o. (let same = o.doc_decodes in omega arith)) c.open.ensures.opened

pub returns-clause-entries : goal.returns-clause-entries
returns-clause-entries c = IfOk-weaker c.open.result _ _ (λ cursor o. (let same = o.entries_read in omega arith)) c.open.ensures.opened

pub returns-clause-validation : goal.returns-clause-validation
returns-clause-validation c = IfOk-weaker c.open.result _ _ (λ cursor o. few cursor.freq_reading c.args.doc_freq cursor.checked o.checked) c.open.ensures.opened
