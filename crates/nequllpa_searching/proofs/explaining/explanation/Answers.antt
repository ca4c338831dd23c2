use Rattle.std.proofs.Common.{map, refl}
use Rattle.ii_ranking.specs.Shares.{share_of}
use Rattle.nequllpa_searching.proofs.explaining.explanation.Goals as goal

pub returns-clause-explained : goal.returns-clause-explained
returns-clause-explained c =
    let shares = map share_of c.in_ok-shares.shares.items in
    record {
      shares = shares;
      are = c.in_ok-shares.ensures.shares;
      sum = c.in_ok-shares.ensures.sum c.args.best.0 c.requires.scored;
      prints = rw (c.in_ok-push_shares.ensures.text, c.deref.ensures.value, c.new-text.ensures.bytes) refl;
    }
