use Rattle.std.proofs.Common.{◌∙◌, ℕ, ap, refl}
use Rattle.std.specs.Option.{option_map}
use Rattle.ii_io.specs.Composite.{body_of}
use Rattle.ii_block_shares.specs.BlockShares.{runs_of, share_of}
use Rattle.ii_fieldnorm.specs.Readers.{norms_of_ids}
use Rattle.ii_reader.specs.SegmentPostings.{SegmentPostingsState}
use Rattle.ii_ranking.proofs.LeafLemmas.{term_opened}
use Rattle.ii_prepared_term.proofs.BoundLemmas.{bound_opened}
use Rattle.ii_prepared_term.proofs.PreparedLemmas.{first_prepared, prepared_ends, state_of}
use Rattle.ii_prepared_term.proofs.prepared_term.PreparedTerm.open.Goals as goal

pub invariant_of-result : goal.invariant_of-result
invariant_of-result g c = (first_prepared (state_of c.in_ok-weight.weight c.in_ok-norms.norms c.in_ok-shares.shares c.in_ok-cursor.cursor) c.in_ok-walked.walked c.in_ok-walked.ensures.same c.doc-first.ensures.sound c.in_ok-shares.ensures.bounds c.in_ok-shares.ensures.ends, c.in_ok-cursor.ensures.start)

pub returns-clause-scores : goal.returns-clause-scores
returns-clause-scores g c =
    term_opened c.args.index.now (g.S.Bm25StatisticsProvider.statistics c.args.statistics.now) c.args.term.now c.in_ok-cursor.cursor.rest c.in_ok-norms.norms c.in_ok-weight.weight c.in_ok-cursor.ensures.listed
    (c.in_ok-norms.ensures.found ∙ ap (λ (field : ℕ). option_map norms_of_ids (body_of field c.args.index.now.fieldnorms)) c.field.ensures) c.in_ok-weight.ensures.made

pub returns-clause-bounds : goal.returns-clause-bounds
returns-clause-bounds g c =
    let shares = share_of c.in_ok-weight.weight c.in_ok-norms.norms in
    bound_opened c.args.index.now (g.S.Bm25StatisticsProvider.statistics c.args.statistics.now) c.args.term.now c.in_ok-cursor.cursor.rest c.in_ok-norms.norms c.in_ok-weight.weight c.in_ok-shares.shares c.in_ok-cursor.ensures.listed
    (c.in_ok-norms.ensures.found ∙ ap (λ (field : ℕ). option_map norms_of_ids (body_of field c.args.index.now.fieldnorms)) c.field.ensures) c.in_ok-weight.ensures.made
    (c.in_ok-shares.ensures.runs ∙ ap (λ (s : SegmentPostingsState). runs_of shares s.rest) c.in_ok-walked.ensures.same)

pub returns-clause-sound : goal.returns-clause-sound
returns-clause-sound g c = rw (c.in_ok-cursor.ensures.listed, ← c.field.ensures) c.in_ok-norms.ensures.sound

pub returns-clause-ends : goal.returns-clause-ends
returns-clause-ends g c =
    let s = state_of c.in_ok-weight.weight c.in_ok-norms.norms c.in_ok-shares.shares c.in_ok-cursor.cursor in
    prepared_ends s (first_prepared s c.in_ok-walked.walked c.in_ok-walked.ensures.same c.doc-first.ensures.sound c.in_ok-shares.ensures.bounds c.in_ok-shares.ensures.ends)

pub returns-clause-list : goal.returns-clause-list
returns-clause-list g c = rw c.in_ok-cursor.ensures.listed refl
