use Rattle.std.proofs.Common.{◌≡◌, ◌+◌, ◌++◌, ap, ◌∙◌, drop, length, take, ℕ, rules}
use Rattle.ii_codes.specs.Sums.{fit_u32, running_sums}
use Rattle.ii_reader.proofs.PieceLemmas.{IsPiece, piece_fits, piece_past, piece_read}
use Rattle.ii_reader.proofs.segment_postings.read_piece.Goals as goal

pub returns-then-from-count-clause-read : goal.returns-then-from-count-clause-read
returns-then-from-count-clause-read c = piece_past c.args.reader.now.deltas c.args.output.now c.args.start c.args.count c.args.from c.requires.inside c.if-from-count.true

pub read_positions-requires-clause-fits : goal.read_positions-requires-clause-fits
read_positions-requires-clause-fits c =
    let a = c.args in
    let ds = a.reader.now.deltas in
    let size : length c.split_at_mut-front.result.0.now ≡ c.min-many.result = search rules in
    let p : IsPiece ds a.start a.count a.from a.before c.min-many.result (length a.output.now) = record { inside = c.requires.inside; within = c.if-from-count.false; before_is = c.requires.before; many_is = c.min-many.ensures } in
    ap (λ (n : ℕ). fit_u32 (running_sums a.before (take n (drop (a.start + a.from) ds)))) size ∙ piece_fits ds a.start a.count a.from a.before c.min-many.result (length a.output.now) p c.requires.fits

pub returns-clause-read : goal.returns-clause-read
returns-clause-read c =
    let a = c.args in
    let ds = a.reader.now.deltas in
    let size : length c.split_at_mut-front.result.0.now ≡ c.min-many.result = search rules in
    let back : c.split_at_mut-front.result.1.now ≡ drop c.min-many.result a.output.now = search rules in
    let p : IsPiece ds a.start a.count a.from a.before c.min-many.result (length a.output.now) = record { inside = c.requires.inside; within = c.if-from-count.false; before_is = c.requires.before; many_is = c.min-many.ensures } in
    (λ j. c.read_positions.ensures.read j ++ back j)
    ∙ ap (λ (n : ℕ). running_sums a.before (take n (drop (a.start + a.from) ds)) ++ drop c.min-many.result a.output.now) size
    ∙ piece_read ds a.output.now a.start a.count a.from a.before c.min-many.result p
