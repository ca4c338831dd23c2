use Rattle.std.proofs.Common.{◌≡◌, ◌≤◌, ap, arith, refl, subst, sym}
use Rattle.std.proofs.lemmas.Result.{on_err_weaker, on_ok_weaker}
use Rattle.ii_check.specs.declared.validation.Validation.TheVariants.{Complete}
use Rattle.ii_reader.specs.BlockSegmentPostings.{BlockSegmentPostingsState, OpensDocs, cursor_of_none}
use Rattle.ii_promises.proofs.OpenedLaws.{either}
use Rattle.ii_promises.proofs.block_cursors.reset_opens_anew.Goals as goal

pub returns-clause-list : goal.returns-clause-list
returns-clause-list c = on_ok_weaker c.reset.result (λ (o : OpensDocs Complete c.args.cursor.now.recorded c.args.cursor.now.requested c.args.doc_freq c.args.bytes c.reset.new.self). o.docs) c.reset.ensures.opened

pub returns-clause-emptied : goal.returns-clause-emptied
returns-clause-emptied c = on_err_weaker c.reset.result (λ (e : c.reset.new.self ≡ cursor_of_none c.args.cursor.now.recorded c.args.cursor.now.requested). (ap (λ (s : BlockSegmentPostingsState). s.docs) e, ap (λ (s : BlockSegmentPostingsState). s.freqs) e)) c.reset.ensures.emptied

pub returns-clause-options : goal.returns-clause-options
returns-clause-options c =
    either c.reset.result (λ (o : OpensDocs Complete c.args.cursor.now.recorded c.args.cursor.now.requested c.args.doc_freq c.args.bytes c.reset.new.self). (o.recorded_is, o.requested_is))
    (λ (e : c.reset.new.self ≡ cursor_of_none c.args.cursor.now.recorded c.args.cursor.now.requested). subst (λ (s : BlockSegmentPostingsState). (s.recorded ≡ c.args.cursor.now.recorded) × (s.requested ≡ c.args.cursor.now.requested)) (sym e) (refl, refl)) c.reset.ensures.opened c.reset.ensures.emptied

pub returns-clause-first : goal.returns-clause-first
returns-clause-first c =
    either c.reset.result (λ (o : OpensDocs Complete c.args.cursor.now.recorded c.args.cursor.now.requested c.args.doc_freq c.args.bytes c.reset.new.self). o.first)
    (λ (e : c.reset.new.self ≡ cursor_of_none c.args.cursor.now.recorded c.args.cursor.now.requested). subst (λ (s : BlockSegmentPostingsState). s.block ≡ 0) (sym e) refl) c.reset.ensures.opened c.reset.ensures.emptied

pub returns-clause-docs : goal.returns-clause-docs
returns-clause-docs c =
    either c.reset.result (λ (o : OpensDocs Complete c.args.cursor.now.recorded c.args.cursor.now.requested c.args.doc_freq c.args.bytes c.reset.new.self). (let same = o.doc_decodes in omega arith))
    (λ (e : c.reset.new.self ≡ cursor_of_none c.args.cursor.now.recorded c.args.cursor.now.requested). subst (λ (s : BlockSegmentPostingsState). s.doc_decodes ≤ 1) (sym e) (omega arith)) c.reset.ensures.opened c.reset.ensures.emptied

pub returns-clause-entries : goal.returns-clause-entries
returns-clause-entries c =
    either c.reset.result (λ (o : OpensDocs Complete c.args.cursor.now.recorded c.args.cursor.now.requested c.args.doc_freq c.args.bytes c.reset.new.self). (let same = o.entries_read in omega arith))
    (λ (e : c.reset.new.self ≡ cursor_of_none c.args.cursor.now.recorded c.args.cursor.now.requested). subst (λ (s : BlockSegmentPostingsState). s.entries_read ≤ 1) (sym e) (omega arith)) c.reset.ensures.opened c.reset.ensures.emptied
