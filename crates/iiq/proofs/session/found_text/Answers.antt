use Rattle.std.proofs.Common.{◌∙◌, length, sym}
use Rattle.iiq.specs.Session.{fields}
use Rattle.iiq.proofs.SearchLemmas.{found_bounded}
use Rattle.iiq.proofs.session.found_text.Goals as goal

pub found_below-requires : goal.found_below-requires
found_below-requires c = record {
  many = c.requires.many;
  fields = c.bound.ensures.fields (length fields) ∙ c.requires.fields;
  positions = c.bound.ensures.positions fields ∙ c.requires.positions;
}

pub returns : goal.returns
returns c = λ ts o few. found_bounded c.args.num_docs ts c.args.query c.bound.new.self _ (λ doc below. c.bound.ensures.same ts doc below) (c.found_below.ensures ts o few)
