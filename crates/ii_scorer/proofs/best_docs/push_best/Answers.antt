use Rattle.std.proofs.Common.{◌≡◌, ◌∙◌, ◌++◌, ◌^◌, ◌<◌, ◌≤◌, ℕ, List, append-nil, arith, inl, refl, rules, subst, sym}
use Rattle.ii_base.specs.declared.doc_id.TheConstants.{TERMINATED}
use Rattle.ii_scorer.specs.BestDocs.{IsNeeded, first_numbered}
use Rattle.ii_scorer.specs.Scorers.{IsBelow, score_of}
use Rattle.ii_scorer.specs.TopNComputer.{KeepsBest}
use Rattle.ii_scorer.proofs.BlockListLaws.{all_none}
use Rattle.ii_scorer.proofs.NeededLemmas.{least_needed, push_needed, skip_needed}
use Rattle.ii_scorer.proofs.PassLemmas.{below_all, numbered_more, past_end, passes_to}
use Rattle.ii_scorer.proofs.best_docs.push_best.Goals as goal

pub returns-then-next-min-clause-kept : goal.returns-then-next-min-clause-kept
returns-then-next-min-clause-kept g c = λ scored h.
    let l = c.loop-doc in
    let n = g.N.DocNumbers.numbering c.args.numbers.now in
    let f = score_of (g.T.Scorer.state c.args.scorer.now) in
    let next = c.skip_to_score-next.result in
    let end = c.if-next-min.true in
    let many = c.num_docs-num_docs.ensures in
    let least = c.min.ensures in
    let fits : c.in-Some.least < 2 ^ 64 = search rules in
    passes_to n f scored l.computer c.in-Some.least l.doc n.num_docs (omega (arith, fits)) l.invariant.inside
    (λ d from inside. (
      c.requires.fit d inside,
      subst (IsBelow c.in-Some.least) (l.invariant.alike d from) (c.skip_to_score-next.ensures.next.passed d from (past_end next n.num_docs d (omega (arith, end, many, least)) inside)),
      λ k low. c.in-Some.ensures.passed k (n.number d) (omega (arith, low, fits)) (subst (λ (m : ℕ). m ≤ n.number d) (sym c.number.ensures) (c.requires.ascend l.doc d from inside)) low,
    ))
    (l.invariant.kept scored h)

pub returns-in_default-clause-kept : goal.returns-in_default-clause-kept
returns-in_default-clause-kept g c = λ scored h.
    let l = c.loop-doc in
    let n = g.N.DocNumbers.numbering c.args.numbers.now in
    let f = score_of (g.T.Scorer.state c.args.scorer.now) in
    passes_to n f scored l.computer (2 ^ 64) l.doc n.num_docs (omega arith) l.invariant.inside
    (λ d from inside. (
      c.requires.fit d inside,
      subst (IsBelow (2 ^ 64)) (l.invariant.alike d from) (below_all (g.T.Scorer.state l.scorer) d c.max_score-most.ensures.bounded),
      λ k low. c.in_default.ensures.passed k (n.number d) low (subst (λ (m : ℕ). m ≤ n.number d) (sym c.number.ensures) (c.requires.ascend l.doc d from inside)) tt,
    ))
    (l.invariant.kept scored h)

pub loop-doc-preserved : goal.loop-doc-preserved
loop-doc-preserved g c =
    let l = c.loop-doc in
    let n = g.N.DocNumbers.numbering c.args.numbers.now in
    let f = score_of (g.T.Scorer.state c.args.scorer.now) in
    let next = c.skip_to_score-next.result in
    let up = c.skip_to_score-next.ensures.next.low in
    let many = c.num_docs-num_docs.ensures in
    let least = c.min.ensures in
    let before = c.if-next-min.false in
    let fits : c.in-Some.least < 2 ^ 64 = search rules in
    let inside : next < n.num_docs = omega (arith, many, least, before) in
    let low : next < TERMINATED = omega (arith, least, before) in
    let sought : (d : ℕ) → next ≤ d → score_of (g.T.Scorer.state c.skip_to_score-next.new.self) d ≡ f d = λ d from. c.skip_to_score-next.ensures.kept.alike d from ∙ l.invariant.alike d (omega (arith, from, up)) in
    record {
      low = omega (arith, low);
      inside = omega (arith, inside);
      alike = λ d from. c.push_doc.ensures.moved.alike d (omega (arith, from)) ∙ sought d (omega (arith, from));
      kept = λ scored h.
          numbered_more n f (score_of (g.T.Scorer.state c.skip_to_score-next.new.self)) scored next c.push_doc.new.computer (sought next (omega arith))
          (c.in_ok-push_doc.ensures.kept (scored ++ first_numbered n next f)
          (passes_to n f scored l.computer c.in-Some.least l.doc next (omega (arith, fits)) up
          (λ d from below. (
            c.requires.fit d (omega (arith, below, inside)),
            subst (IsBelow c.in-Some.least) (l.invariant.alike d from) (c.skip_to_score-next.ensures.next.passed d from (inl below)),
            λ k less. c.in-Some.ensures.passed k (n.number d) (omega (arith, less, fits)) (subst (λ (m : ℕ). m ≤ n.number d) (sym c.number.ensures) (c.requires.ascend l.doc d from (omega (arith, below, inside)))) less,
          ))
          (l.invariant.kept scored h)));
      wanted = c.push_doc.ensures.wanted ∙ l.invariant.wanted;
      bounds = c.push_doc.ensures.moved.bounds ∙ c.skip_to_score-next.ensures.kept.bounds ∙ l.invariant.bounds;
      work = λ scored h after.
          push_needed n (g.T.Scorer.state c.args.scorer.now) (g.T.Scorer.state l.scorer) scored c.args.computer.now.top_n l.doc c.in-Some.least next l.invariant.bounds
          (least_needed n f scored l.computer c.args.computer.now.top_n l.doc c.number.result c.in-Some.least c.number.ensures (search rules) l.invariant.wanted after (l.invariant.kept scored h) c.in-Some.ensures.needed)
          (λ d from below. subst (IsBelow c.in-Some.least) (l.invariant.alike d from) (c.skip_to_score-next.ensures.next.passed d from (inl below)))
          (g.T.Scorer.state c.args.scorer.now).lists (g.T.Scorer.state c.skip_to_score-next.new.self).lists (g.T.Scorer.state c.push_doc.new.scorer).lists up (c.skip_to_score-next.ensures.reached low) (l.invariant.work scored h after) c.skip_to_score-next.ensures.work c.push_doc.ensures.work;
    }

pub returns-clause-kept : goal.returns-clause-kept
returns-clause-kept g c = λ scored h.
    let l = c.loop-doc in
    let n = g.N.DocNumbers.numbering c.args.numbers.now in
    let many = c.num_docs-num_docs.ensures in
    let over = c.loop-doc-test.false in
    let within = l.invariant.inside in
    let all : l.doc ≡ n.num_docs = omega (arith, many, over, within) in
    subst (λ (k : ℕ). KeepsBest (scored ++ first_numbered n k (score_of (g.T.Scorer.state c.args.scorer.now))) l.computer) all (l.invariant.kept scored h)

pub loop-doc-init : goal.loop-doc-init
loop-doc-init g c = record {
  low = omega arith;
  inside = omega arith;
  alike = λ d from. refl;
  kept = λ scored h. subst (λ (rows : List (ℕ × ℕ)). KeepsBest rows c.args.computer.now) (sym (append-nil scored)) h;
  wanted = refl;
  bounds = refl;
  work = λ scored h after. all_none (IsNeeded scored (g.N.DocNumbers.numbering c.args.numbers.now) (g.T.Scorer.state c.args.scorer.now) c.args.computer.now.top_n) (g.T.Scorer.state c.args.scorer.now).lists;
}

pub returns-then-next-min-clause-work : goal.returns-then-next-min-clause-work
returns-then-next-min-clause-work g c = λ scored h after.
    let l = c.loop-doc in
    let n = g.N.DocNumbers.numbering c.args.numbers.now in
    let f = score_of (g.T.Scorer.state c.args.scorer.now) in
    let next = c.skip_to_score-next.result in
    skip_needed n (g.T.Scorer.state c.args.scorer.now) (g.T.Scorer.state l.scorer) scored c.args.computer.now.top_n l.doc c.in-Some.least next l.invariant.bounds
    (least_needed n f scored l.computer c.args.computer.now.top_n l.doc c.number.result c.in-Some.least c.number.ensures (search rules) l.invariant.wanted after (l.invariant.kept scored h) c.in-Some.ensures.needed)
    (λ d from below. subst (IsBelow c.in-Some.least) (l.invariant.alike d from) (c.skip_to_score-next.ensures.next.passed d from (inl below)))
    (g.T.Scorer.state c.args.scorer.now).lists (g.T.Scorer.state c.skip_to_score-next.new.self).lists (l.invariant.work scored h after) c.skip_to_score-next.ensures.work

pub returns-in_err-push_doc-clause-work : goal.returns-in_err-push_doc-clause-work
returns-in_err-push_doc-clause-work g c = λ scored h after.
    let l = c.loop-doc in
    let n = g.N.DocNumbers.numbering c.args.numbers.now in
    let f = score_of (g.T.Scorer.state c.args.scorer.now) in
    let next = c.skip_to_score-next.result in
    let least = c.min.ensures in
    let before = c.if-next-min.false in
    let low : next < TERMINATED = omega (arith, least, before) in
    push_needed n (g.T.Scorer.state c.args.scorer.now) (g.T.Scorer.state l.scorer) scored c.args.computer.now.top_n l.doc c.in-Some.least next l.invariant.bounds
    (least_needed n f scored l.computer c.args.computer.now.top_n l.doc c.number.result c.in-Some.least c.number.ensures (search rules) l.invariant.wanted after (l.invariant.kept scored h) c.in-Some.ensures.needed)
    (λ d from below. subst (IsBelow c.in-Some.least) (l.invariant.alike d from) (c.skip_to_score-next.ensures.next.passed d from (inl below)))
    (g.T.Scorer.state c.args.scorer.now).lists (g.T.Scorer.state c.skip_to_score-next.new.self).lists (g.T.Scorer.state c.push_doc.new.scorer).lists c.skip_to_score-next.ensures.next.low (c.skip_to_score-next.ensures.reached low) (l.invariant.work scored h after) c.skip_to_score-next.ensures.work c.push_doc.ensures.work
