use Rattle.std.proofs.Common.{◌≡◌, ◌∙◌, ℕ, ap, subst, sym}
use Rattle.ii_reader.specs.SegmentPostings.{SegmentPostingsState}
use Rattle.ii_scorer.specs.Scorers.{score_of}
use Rattle.ii_prepared_term.specs.PreparedScorers.{IsScorer, IsUnread, PreparedScorerState, prepared_list, prepared_state}
use Rattle.ii_prepared_term.specs.PreparedTerms.{PreparedTermState, prepared_score}
use Rattle.ii_prepared_term.proofs.PreparedLemmas.{prepared_scores, state_of}
use Rattle.ii_prepared_term.proofs.ReadLemmas.{first_scorer}
use Rattle.ii_prepared_term.proofs.prepared_term.PreparedTerm.scorer.Goals as goal

pub new-requires : goal.new-requires
new-requires c =
    let s = c.self.inside in
    let t : PreparedTermState = state_of s.weight s.norms s.shares s.cursor in
    rw (← c.self.view_is) (subst (λ (cursor : SegmentPostingsState). IsScorer (record { term = t; cursor = cursor })) (sym c.in_ok-cursor.ensures.same) (first_scorer t c.self.invariant.0 c.self.invariant.1))

-- the scorer that is made
module _ (c : goal.After-new) where
  abbrev made : PreparedTermState
  made = state_of c.self.inside.weight c.self.inside.norms c.self.inside.shares c.self.inside.cursor

  now_is : c.new.result ≡ record { term = c.args.self.now; cursor = c.args.self.now.cursor }
  now_is = c.new.ensures ∙ ap (λ (cursor : SegmentPostingsState). record { term = c.args.self.now; cursor = cursor }) (c.in_ok-cursor.ensures.same ∙ ap (λ (t : PreparedTermState). t.cursor) c.self.view_is)

  result_is : c.new.result ≡ record { term = made; cursor = made.cursor }
  result_is = now_is ∙ ap (λ (t : PreparedTermState). record { term = t; cursor = t.cursor }) (sym c.self.view_is)

pub returns-clause-scores : goal.returns-clause-scores
returns-clause-scores c =
    let t = made c in
    subst (λ (s : PreparedTermState). (doc : ℕ) → score_of (prepared_state c.new.result) doc ≡ prepared_score s doc) c.self.view_is
    (subst (λ (s : PreparedScorerState). (doc : ℕ) → score_of (prepared_state s) doc ≡ prepared_score t doc) (sym (result_is c)) (prepared_scores (record { term = t; cursor = t.cursor }) c.self.invariant.0))

pub returns-clause-starts : goal.returns-clause-starts
returns-clause-starts c = now_is c

pub returns-clause-unread : goal.returns-clause-unread
returns-clause-unread c = subst (λ (s : PreparedScorerState). IsUnread (prepared_list s)) (sym (result_is c)) c.self.invariant.1.unread
