use Rattle.std.proofs.Common.{◌≡◌, ◌≤◌, None, ap, arith, refl, subst, sym}
use Rattle.std.proofs.lemmas.Result.{on_err_weaker, on_ok_weaker}
use Rattle.ii_check.specs.declared.validation.Validation.TheVariants.{Complete}
use Rattle.ii_reader.specs.SegmentPostings.{OpensList, SegmentPostingsState, postings_of_none}
use Rattle.ii_promises.proofs.OpenedLaws.{AreFew, either, few, few_by_lists, few_positions, none_by_positions}
use Rattle.ii_promises.proofs.cursors.reset_opens_anew.Goals as goal

pub returns-clause-list : goal.returns-clause-list
returns-clause-list c = on_ok_weaker c.reset.result (λ (o : OpensList Complete c.args.recorded c.args.requested c.args.doc_freq c.args.postings c.args.positions c.reset.new.self). o.list) c.reset.ensures.opened

pub returns-clause-emptied : goal.returns-clause-emptied
returns-clause-emptied c = on_err_weaker c.reset.result (λ (e : c.reset.new.self ≡ postings_of_none c.args.recorded c.args.requested). ap (λ (s : SegmentPostingsState). s.rest) e) c.reset.ensures.emptied

pub returns-clause-first : goal.returns-clause-first
returns-clause-first c =
    either c.reset.result (λ (o : OpensList Complete c.args.recorded c.args.requested c.args.doc_freq c.args.postings c.args.positions c.reset.new.self). o.first)
    (λ (e : c.reset.new.self ≡ postings_of_none c.args.recorded c.args.requested). subst (λ (s : SegmentPostingsState). s.block ≡ 0) (sym e) refl) c.reset.ensures.opened c.reset.ensures.emptied

pub returns-clause-decodes : goal.returns-clause-decodes
returns-clause-decodes c =
    either c.reset.result (λ (o : OpensList Complete c.args.recorded c.args.requested c.args.doc_freq c.args.postings c.args.positions c.reset.new.self). (o.doc_decodes, o.freq_decodes, o.position_decodes))
    (λ (e : c.reset.new.self ≡ postings_of_none c.args.recorded c.args.requested). subst (λ (s : SegmentPostingsState). (s.doc_decodes ≤ 1) × (s.freq_decodes ≤ 1) × (s.position_decodes ≤ 1)) (sym e) (omega arith, omega arith, omega arith)) c.reset.ensures.opened c.reset.ensures.emptied

pub returns-clause-entries : goal.returns-clause-entries
returns-clause-entries c =
    either c.reset.result (λ (o : OpensList Complete c.args.recorded c.args.requested c.args.doc_freq c.args.postings c.args.positions c.reset.new.self). o.entries_read)
    (λ (e : c.reset.new.self ≡ postings_of_none c.args.recorded c.args.requested). subst (λ (s : SegmentPostingsState). s.entries_read ≤ 1) (sym e) (omega arith)) c.reset.ensures.opened c.reset.ensures.emptied

pub returns-clause-validation : goal.returns-clause-validation
returns-clause-validation c =
    either c.reset.result (λ (o : OpensList Complete c.args.recorded c.args.requested c.args.doc_freq c.args.postings c.args.positions c.reset.new.self). few c.reset.new.self.freq_reading c.args.doc_freq c.reset.new.self.checked o.checked)
    (λ (e : c.reset.new.self ≡ postings_of_none c.args.recorded c.args.requested). subst (λ (s : SegmentPostingsState). AreFew c.args.doc_freq s.checked) (sym e) (omega arith, omega arith)) c.reset.ensures.opened c.reset.ensures.emptied

pub returns-clause-position_lists : goal.returns-clause-position_lists
returns-clause-position_lists c =
    either c.reset.result (λ (o : OpensList Complete c.args.recorded c.args.requested c.args.doc_freq c.args.postings c.args.positions c.reset.new.self). few_by_lists c.args.doc_freq c.args.positions c.reset.new.self.positions_checked o.positions_checked)
    (λ (e : c.reset.new.self ≡ postings_of_none c.args.recorded c.args.requested). few_by_lists c.args.doc_freq None c.reset.new.self.positions_checked (ap (λ (s : SegmentPostingsState). s.positions_checked) e)) c.reset.ensures.opened c.reset.ensures.emptied

pub returns-clause-position_blocks : goal.returns-clause-position_blocks
returns-clause-position_blocks c =
    either c.reset.result (λ (o : OpensList Complete c.args.recorded c.args.requested c.args.doc_freq c.args.postings c.args.positions c.reset.new.self). few_positions c.args.doc_freq c.args.positions c.reset.new.self.positions_checked o.positions_checked)
    (λ (e : c.reset.new.self ≡ postings_of_none c.args.recorded c.args.requested). none_by_positions c.args.positions c.reset.new.self.positions_checked (ap (λ (s : SegmentPostingsState). s.positions_checked) e)) c.reset.ensures.opened c.reset.ensures.emptied
