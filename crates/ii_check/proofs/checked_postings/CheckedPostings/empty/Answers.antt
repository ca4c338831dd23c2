use Rattle.std.proofs.Common.{ap}
use Rattle.std.proofs.Math.Bool.{and-false}
use Rattle.ii_base.specs.Options.{has_freq}
use Rattle.ii_layout.specs.Postings.{Postings}
use Rattle.ii_check.proofs.CheckedPostingsLemmas.{empty_checked, empty_given, empty_has}
use Rattle.ii_check.proofs.checked_postings.CheckedPostings.empty.Goals as goal

pub invariant_of-result : goal.invariant_of-result
invariant_of-result c = rw (c.from_static.ensures, c.freq_reading_option.ensures, and-false (has_freq c.args.record_option)) (empty_checked c.args.record_option c.args.requested_option)

pub returns-clause-documents : goal.returns-clause-documents
returns-clause-documents c = rw c.from_static.ensures (ap (λ (p : Postings). p.docs) (empty_given c.args.record_option c.args.requested_option))

pub returns-clause-freqs : goal.returns-clause-freqs
returns-clause-freqs c = rw c.from_static.ensures (ap (λ (p : Postings). p.freqs) (empty_given c.args.record_option c.args.requested_option))

pub returns-clause-has : goal.returns-clause-has
returns-clause-has c = rw (c.from_static.ensures, c.freq_reading_option.ensures, and-false (has_freq c.args.record_option)) (empty_has c.args.record_option c.args.requested_option)

pub returns-clause-entries : goal.returns-clause-entries
returns-clause-entries c = rw c.from_static.ensures (ap (λ (p : Postings). p.skip.entries) (empty_given c.args.record_option c.args.requested_option))
