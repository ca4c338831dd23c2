use Rattle.std.proofs.Common.{◌≡◌, ◌<◌, ◌∙◌, ℕ, get_or, arith, subst}
use Rattle.std.proofs.lemmas.List.{get_or_default}
use Rattle.ii_bm25.specs.Bm25.{IsLeastCount, score}
use Rattle.ii_bm25.proofs.LengthLemmas.{block_bounds}
use Rattle.ii_bm25.proofs.bm25.Bm25Weight.least_term_freq.Goals as goal

pub returns-clause-value : goal.returns-clause-value
returns-clause-value c =
    let here : c.index-length.result.now ≡ get_or c.self.inside.lengths.items c.args.fieldnorm_id 1 = c.index-length.ensures ∙ get_or_default c.self.inside.lengths.items c.args.fieldnorm_id c.index-length.result.now 1 (omega (arith, c.self.invariant.all, c.ranges.fieldnorm_id.fits)) in
    rw (← c.self.view_is) (subst (λ (length : ℕ). IsLeastCount (λ (count : ℕ). score c.self.inside.weight count length) c.args.least c.least_count.result) here c.least_count.ensures)

pub returns-clause-bounds : goal.returns-clause-bounds
returns-clause-bounds c = λ id count low within few.
    let here : c.index-length.result.now ≡ get_or c.self.inside.lengths.items c.args.fieldnorm_id 1 = c.index-length.ensures ∙ get_or_default c.self.inside.lengths.items c.args.fieldnorm_id c.index-length.result.now 1 (omega (arith, c.self.invariant.all, c.ranges.fieldnorm_id.fits)) in
    let found = subst (λ (length : ℕ). IsLeastCount (λ (n : ℕ). score c.self.inside.weight n length) c.args.least c.least_count.result) here c.least_count.ensures in
    let less = found.below count few in
    rw (← c.self.view_is) (let most = block_bounds (record { weight = c.self.inside.weight; lengths = c.self.inside.lengths.items }) c.self.invariant c.args.fieldnorm_id id count count low within (omega arith) in omega (arith, most, less))
