use Rattle.iiq.specs.Known.{leaf_or_none}
use Rattle.iiq.proofs.LeafLemmas.{object_leaves}
use Rattle.iiq.proofs.leaves.PathValue.json_value.Goals as goal

pub returns : goal.returns
returns c = object_leaves c.in_ok-path.path c.in_ok-value.value c.push.new.self c.args.self.path.now (leaf_or_none c.args.self.value) (rw c.new-members.ensures.items at c.in_ok-push.ensures.items) c.in_ok-path.ensures c.in_ok-value.ensures
