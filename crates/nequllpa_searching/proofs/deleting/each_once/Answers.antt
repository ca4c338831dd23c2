use Rattle.std.proofs.Common.{nat_eq}
use Rattle.std.proofs.lemmas.List.Filters.{dedup_is}
use Rattle.nequllpa_searching.proofs.OnceLemmas.{each_once}
use Rattle.nequllpa_searching.proofs.deleting.each_once.Goals as goal

pub returns : goal.returns
returns c = λ n below. each_once c.args.docs.items c.sort_unstable.new.self.items c.dedup.new.self.items n c.sort_unstable.ensures.permutation c.sort_unstable.ensures.sorted (dedup_is nat_eq _ _ c.dedup.ensures.filtered) below
