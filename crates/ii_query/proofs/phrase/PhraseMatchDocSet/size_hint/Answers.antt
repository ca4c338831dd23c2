use Rattle.std.proofs.Common.{◌≤◌, arith, length, rules}
use Rattle.ii_query.specs.Phrase.{begins_phrase}
use Rattle.ii_query.proofs.HintLemmas.{kept_short}
use Rattle.ii_query.proofs.phrase.PhraseMatchDocSet.size_hint.Goals as goal

pub returns-clause-enough : goal.returns-clause-enough
returns-clause-enough g c =
    let few = kept_short (begins_phrase c.args.self.now.others) c.args.self.now.first in
    let first : length c.args.self.now.first ≤ c.size_hint.result = search rules in
    omega (arith, few, first)
