use Rattle.std.proofs.Common.{refl}
use Rattle.ii_reader.specs.InvertedIndexReader.{trusted_reader}
use Rattle.ii_promises.proofs.CheckingLaws.{look_up_opens}
use Rattle.ii_promises.proofs.OpenedLaws.{opened_list, trusted_lookup}
use Rattle.ii_promises.proofs.opening.trusted_readers_open_every_term.Goals as goal

pub returns-clause-memory : goal.returns-clause-memory
returns-clause-memory c = look_up_opens c.trust.new.self c.args.term.now.value c.args.requested c.read_postings.result (rw c.trust.ensures c.requires) c.read_postings.ensures.none c.read_postings.ensures.err

pub returns-clause-list : goal.returns-clause-list
returns-clause-list c = let opens = rw c.trust.ensures at c.read_postings.ensures.ok in opened_list c.args.reader.now c.args.term.now.value c.args.requested c.read_postings.result opens

pub returns-clause-no_validation : goal.returns-clause-no_validation
returns-clause-no_validation c = let opens = rw c.trust.ensures at c.read_postings.ensures.ok in trusted_lookup (trusted_reader c.args.reader.now) c.args.term.now.value c.args.requested c.read_postings.result refl opens
