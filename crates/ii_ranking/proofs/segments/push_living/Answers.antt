use Rattle.std.proofs.Common.{◌≡◌, ◌∙◌, ◌+◌, ◌++◌, ℕ, List, Option, None, append_assoc, ap, get_or, if◌then◌else◌, rules, subst, sym}
use Rattle.std.proofs.lemmas.List.{get_or_default}
use Rattle.ii_alive.specs.Alive.{rank}
use Rattle.ii_segments.specs.Segments.{is_living}
use Rattle.ii_ranking.specs.Segments.{living_row}
use Rattle.ii_scorer.specs.TopDocs.{with_score}
use Rattle.ii_scorer.specs.TopNComputer.{KeepsBest}
use Rattle.ii_scorer.proofs.TopLemmas.{scored_more}
use Rattle.ii_ranking.proofs.segments.push_living.Goals as goal

pub loop-doc-preserved : goal.loop-doc-preserved
loop-doc-preserved c =
    let l = c.loop-doc in
    let alive = c.args.alive.now in
    let base = c.args.base in
    let scores = c.args.scores.now.items in
    let read : c.index.result.now ≡ get_or scores l.doc None = c.index.ensures ∙ get_or_default scores l.doc c.index.result.now None (search rules) in
    let score : c.score_if_living-score.result ≡ (if is_living alive l.doc then get_or scores l.doc None else None) = c.score_if_living-score.ensures ∙ ap (λ (s : Option ℕ). if is_living alive l.doc then s else None) read in
    let number = ap (λ (n : ℕ). base + n) c.rank.ensures in
    let before = living_row base alive l.doc scores in
    record {
      kept = λ scored h.
          subst (λ (row : List (ℕ × ℕ)). KeepsBest row c.push_scored.new.self)
          (append_assoc scored before (with_score c.score_if_living-score.result (base + c.rank.result))
          ∙ ap (λ (row : List (ℕ × ℕ)). scored ++ row) ((λ j. before ++ with_score (score j) (number j)) ∙ sym (scored_more (λ (doc : ℕ). base + rank alive doc) l.doc (λ (doc : ℕ). if is_living alive doc then get_or scores doc None else None))))
          (c.in_ok-push_scored.ensures.kept (scored ++ before) (l.invariant.kept scored h));
      wanted = c.push_scored.ensures.wanted ∙ l.invariant.wanted;
    }
