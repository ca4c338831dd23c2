use Rattle.std.proofs.Common.{◌≤◌, arith, length, rules}
use Rattle.ii_query.specs.SloppyPhrase.{begins_near}
use Rattle.ii_query.proofs.HintLemmas.{kept_short}
use Rattle.ii_query.proofs.sloppy_phrase.SloppyPhraseMatchDocSet.size_hint.Goals as goal

pub returns-clause-enough : goal.returns-clause-enough
returns-clause-enough g c =
    let few = kept_short (begins_near c.args.self.now.slop c.args.self.now.phrase.others) c.args.self.now.phrase.first in
    let first : length c.args.self.now.phrase.first ≤ c.size_hint.result = search rules in
    omega (arith, few, first)
