use Rattle.std.proofs.Common.{◌≡◌, ◌∙◌, ◌++◌, ℕ, List, Option, None, append_assoc, ap, get_or, subst, sym, rules}
use Rattle.std.proofs.lemmas.List.{get_or_default}
use Rattle.ii_scorer.specs.TopDocs.{scored_docs, with_score}
use Rattle.ii_scorer.specs.TopNComputer.{KeepsBest}
use Rattle.ii_scorer.proofs.TopLemmas.{scored_more}
use Rattle.ii_ranking.proofs.ranking.push_scores.Goals as goal

pub loop-place-preserved : goal.loop-place-preserved
loop-place-preserved c =
    let l = c.loop-place in
    let scores = c.args.scores.now.items in
    let score : c.index.result.now ≡ get_or scores l.place None = c.index.ensures ∙ get_or_default scores l.place c.index.result.now None (search rules) in
    let before = scored_docs l.place (λ (doc : ℕ). get_or scores doc None) in
    record {
      kept = λ scored h.
          subst (λ (row : List (ℕ × ℕ)). KeepsBest row c.push_scored.new.self)
          (append_assoc scored before (with_score c.index.result.now l.place)
          ∙ ap (λ (row : List (ℕ × ℕ)). scored ++ row) (ap (λ (s : Option ℕ). before ++ with_score s l.place) score ∙ sym (scored_more (λ (doc : ℕ). doc) l.place (λ (doc : ℕ). get_or scores doc None))))
          (c.in_ok-push_scored.ensures.kept (scored ++ before) (l.invariant.kept scored h));
      wanted = c.push_scored.ensures.wanted ∙ l.invariant.wanted;
    }
