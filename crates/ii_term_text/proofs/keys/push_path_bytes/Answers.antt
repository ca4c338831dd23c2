use Rattle.std.proofs.Common.{rules}
use Rattle.ii_term_text.specs.PathTexts.{path_text}
use Rattle.ii_term_text.proofs.KeyLemmas.{utf8_is}
use Rattle.ii_term_text.proofs.keys.push_path_bytes.Goals as goal

pub returns-in-Ok : goal.returns-in-Ok
returns-in-Ok c = rw (utf8_is path_text c.args.path.now c.in-Ok.ensures.cases.1) (search rules)
