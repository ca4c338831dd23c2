use Rattle.std.proofs.Common.{◌≡◌, ℕ, get_or, ap, ◌∙◌, arith}
use Rattle.std.proofs.lemmas.List.{get_or_default}
use Rattle.ii_bm25.specs.Bm25.{score}
use Rattle.ii_bm25.proofs.LengthLemmas.{block_bounds}
use Rattle.ii_bm25.proofs.bm25.Bm25Weight.block_max_score.Goals as goal

pub returns-clause-bounds : goal.returns-clause-bounds
returns-clause-bounds c = λ id count low within few.
    rw (← c.self.view_is) (let most = block_bounds (record { weight = c.self.inside.weight; lengths = c.self.inside.lengths.items }) c.self.invariant c.args.fieldnorm_id id count c.args.max_term_freq low within few in
    let value : c.score.result ≡ score c.self.inside.weight c.args.max_term_freq (get_or c.self.inside.lengths.items c.args.fieldnorm_id 1) = c.score.ensures.value ∙ ap (λ (n : ℕ). score c.self.inside.weight c.args.max_term_freq n)
    (c.index.ensures ∙ get_or_default c.self.inside.lengths.items c.args.fieldnorm_id c.index.result.now 1 (omega (arith, c.self.invariant.all, c.ranges.fieldnorm_id.fits))) in
    omega (arith, most, value))
