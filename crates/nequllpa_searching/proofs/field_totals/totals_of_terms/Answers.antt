use Rattle.std.proofs.Common.{◌≡◌, ◌∙◌, ◌+◌, List, [], arith, ap, drop, length, map, subst, sym, ℕ}
use Rattle.std.proofs.lemmas.List.{drop_all, length-map}
use Rattle.ii_base.specs.Terms.{TermState}
use Rattle.ii_ranking.specs.Scores.{IsScoreFault}
use Rattle.ii_statistics.specs.Listed.{HaveField}
use Rattle.ii_definitions.proofs.ListLaws.{mapped_at}
use Rattle.ii_statistics.proofs.ListedLemmas.{all_dropped}
use Rattle.nequllpa_searching.specs.OpenedNumbers.{has_total, knows_tokens, open_segment}
use Rattle.nequllpa_searching.proofs.TotalsLemmas.{totalling_next, totalling_refused, totals_all, totals_sound, unless_known}
use Rattle.nequllpa_searching.proofs.field_totals.totals_of_terms.Goals as goal

pub add_total-requires : goal.add_total-requires
add_total-requires c =
    let l = c.loop-place in
    let all : List TermState = map (λ t. t.now) c.args.terms.now in
    let t = c.index-terms-place.result.now in
    let at = mapped_at (λ t. t.now) c.args.terms.now l.place c.index-terms-place.result c.loop-place-test.true c.index-terms-place.is in
    subst (HaveField (map open_segment c.args.segments.now)) (sym c.field.ensures)
    (all_dropped (λ (u : TermState). HaveField (map open_segment c.args.segments.now) u.field) all l.place t (drop (l.place + 1) all) c.requires at)

pub returns-in-Err-clause-fault : goal.returns-in-Err-clause-fault
returns-in-Err-clause-fault c =
    let l = c.loop-place in
    let all : List TermState = map (λ t. t.now) c.args.terms.now in
    let t = c.index-terms-place.result.now in
    let at = mapped_at (λ t. t.now) c.args.terms.now l.place c.index-terms-place.result c.loop-place-test.true c.index-terms-place.is in
    totalling_refused c.args.segments.now all (drop l.place all) (drop (l.place + 1) all) t at l.totals.items l.invariant c.in-Err.fault
    (subst (λ (f : ℕ). IsScoreFault (unless_known (knows_tokens c.args.segments.now f)) c.in-Err.fault) c.field.ensures c.in-Err.ensures.fault)

pub loop-place-preserved : goal.loop-place-preserved
loop-place-preserved c =
    let l = c.loop-place in
    let all : List TermState = map (λ t. t.now) c.args.terms.now in
    let t = c.index-terms-place.result.now in
    let at = mapped_at (λ t. t.now) c.args.terms.now l.place c.index-terms-place.result c.loop-place-test.true c.index-terms-place.is in
    totalling_next c.args.segments.now all (drop l.place all) (drop (l.place + 1) all) t at l.totals.items l.invariant c.add_total.new.totals.items (ap (has_total c.add_total.new.totals.items) (sym c.field.ensures) ∙ c.in-Ok.ensures.here)
    c.in-Ok.ensures.keeps c.in-Ok.ensures.exact

pub returns-clause-totals : goal.returns-clause-totals
returns-clause-totals c =
    let l = c.loop-place in
    let all : List TermState = map (λ t. t.now) c.args.terms.now in
    let many : length all ≡ length c.args.terms.now = length-map c.args.terms.now (λ t. t.now) in
    let none : drop l.place all ≡ [] = drop_all l.place all (omega (arith, many, c.loop-place-test.false)) in
    totals_all c.args.segments.now all (drop l.place all) none l.totals.items l.invariant

pub returns-clause-sound : goal.returns-clause-sound
returns-clause-sound c =
    let l = c.loop-place in
    let all : List TermState = map (λ t. t.now) c.args.terms.now in
    let many : length all ≡ length c.args.terms.now = length-map c.args.terms.now (λ t. t.now) in
    let none : drop l.place all ≡ [] = drop_all l.place all (omega (arith, many, c.loop-place-test.false)) in
    totals_sound c.args.segments.now all (drop l.place all) none l.totals.items l.invariant
