use Rattle.std.proofs.Common.{◌+◌, ◌-◌, true, false, length, take, drop, get_or, refl, sym, ◌∙◌, arith}
use Rattle.std.specs.List.{sum}
use Rattle.std.proofs.lemmas.Bool.{le-leb, lt-leb}
use Rattle.ii_codes.specs.Sums.{fit_u32, running_sums}
use Rattle.ii_check.proofs.PositionLemmas.{next_suffices, none_suffices, sum_next}
use Rattle.ii_check.proofs.positions.end_of_positions.Goals as goal

pub returns-then-from-len : goal.returns-then-from-len
returns-then-from-len c =
    let l = c.loop-freq in
    let i = l.freq-index in
    let deltas = c.args.reader.now.deltas in
    let freqs = c.args.freqs.now in
    let high = c.if-from-len.true in
    let len = l.invariant.len_is in
    let end = l.invariant.end_is in
    let here = c.from-in-loop-freq.ensures in
    let few = lt-leb c.from.result (length deltas - (c.args.start + sum (take i freqs))) (omega arith) in
    let none = next_suffices freqs deltas i c.args.start c.from.result false false c.loop-freq-test.true c.from.ensures l.invariant.enough few (λ e. absurd (cc)) (λ e. refl) in
    record { end = rw (none_suffices freqs (drop c.args.start deltas) (i + 1) none) refl; deltas = l.invariant.same; decodes = tt }

pub returns-then-not-position_fits-clause-end : goal.returns-then-not-position_fits-clause-end
returns-then-not-position_fits-clause-end c =
    let l = c.loop-freq in
    let i = l.freq-index in
    let deltas = c.args.reader.now.deltas in
    let freqs = c.args.freqs.now in
    let low = c.if-from-len.false in
    let len = l.invariant.len_is in
    let end = l.invariant.end_is in
    let here = c.from-in-loop-freq.ensures in
    let n = c.from.ensures in
    let many = le-leb (get_or freqs i 0) (length deltas - (c.args.start + sum (take i freqs))) (omega arith) in
    let fits = sym c.if-not-position_fits.true ∙ c.position_fits.ensures.fits ∙ (λ j. fit_u32 (running_sums 0 (take (get_or freqs i 0) (drop (end j) (l.invariant.same j))))) in
    let none = next_suffices freqs deltas i c.args.start (get_or freqs i 0) true false c.loop-freq-test.true refl l.invariant.enough many (λ e. fits) (λ e. absurd (cc)) in
    rw (none_suffices freqs (drop c.args.start deltas) (i + 1) none) refl

pub loop-freq-preserved : goal.loop-freq-preserved
loop-freq-preserved c =
    let l = c.loop-freq in
    let i = l.freq-index in
    let deltas = c.args.reader.now.deltas in
    let freqs = c.args.freqs.now in
    let low = c.if-from-len.false in
    let len = l.invariant.len_is in
    let end = l.invariant.end_is in
    let here = c.from-in-loop-freq.ensures in
    let n = c.from.ensures in
    let many = le-leb (get_or freqs i 0) (length deltas - (c.args.start + sum (take i freqs))) (omega arith) in
    let fits = sym c.if-not-position_fits.false ∙ c.position_fits.ensures.fits ∙ (λ j. fit_u32 (running_sums 0 (take (get_or freqs i 0) (drop (end j) (l.invariant.same j))))) in
    let next = sum_next freqs i c.loop-freq-test.true in
    let added = c.from-end.ensures in
    record {
      same = c.position_fits.ensures.deltas ∙ l.invariant.same;
      len_is = len;
      end_is = omega arith;
      enough = next_suffices freqs deltas i c.args.start (get_or freqs i 0) true true c.loop-freq-test.true refl l.invariant.enough many (λ e. fits) (λ e. absurd (cc));
      decodes = λ before some. rw added (c.position_fits.ensures.decodes c.if-not-position_fits.false before (l.invariant.decodes before some));
    }
