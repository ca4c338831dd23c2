use Rattle.std.proofs.Common.{◌∙◌, arith, sym}
use Rattle.nequllpa_searching.proofs.RankingLemmas.{all_of_few, none_of_many, none_without_fields}
use Rattle.nequllpa_searching.proofs.ranking.num_rankable.Goals as goal

pub returns-then-not-have_fields : goal.returns-then-not-have_fields
returns-then-not-have_fields c = none_without_fields c.args.query.now c.args.segments.now (sym c.have_fields.ensures ∙ c.if-not-have_fields.true)

pub returns-then-num_living-from : goal.returns-then-num_living-from
returns-then-num_living-from c =
    none_of_many c.args.query.now c.args.segments.now c.num_living.result (sym c.have_fields.ensures ∙ c.if-not-have_fields.false) c.num_living.ensures (omega (arith, c.if-num_living-from.true, c.from.ensures))

pub returns : goal.returns
returns c =
    all_of_few c.args.query.now c.args.segments.now c.num_living.result (sym c.have_fields.ensures ∙ c.if-not-have_fields.false) c.num_living.ensures (omega (arith, c.if-num_living-from.false, c.from.ensures))
