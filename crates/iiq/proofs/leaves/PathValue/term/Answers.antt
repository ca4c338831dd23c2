use Rattle.std.proofs.Common.{◌≡◌, rules, true, false}
use Rattle.std.specs.Prelude.{is_none}
use Rattle.ii_base.specs.Paths.{has_zero}
use Rattle.iiq.specs.Known.{leaf_or_none}
use Rattle.iiq.proofs.LeafLemmas.{leaf_term_is, zero_path}
use Rattle.iiq.proofs.leaves.PathValue.term.Goals as goal

pub returns-then-contains : goal.returns-then-contains
returns-then-contains c =
    let zero : has_zero c.args.self.now.path.now ≡ true = search rules in
    zero_path c.args.self.now.path.now (leaf_or_none c.args.self.now.value) zero

pub returns-in-Ok-append_to : goal.returns-in-Ok-append_to
returns-in-Ok-append_to c =
    let zero : has_zero c.args.self.now.path.now ≡ false = search rules in
    let some : is_none (leaf_or_none c.args.self.now.value) ≡ false = search rules in
    leaf_term_is c.args.self.now.path.now (leaf_or_none c.args.self.now.value) c.from_field_id-field.result c.in-Ok.term c.append_to.new.term zero some c.from_field_id-field.ensures c.in-Ok.ensures.ok c.in-Ok-append_to.ensures.ok
