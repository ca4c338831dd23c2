use Rattle.std.proofs.Common.{◌∙◌, ap}
use Rattle.std.proofs.lemmas.Iterator.{YieldsList-from_chars}
use Rattle.std.proofs.lemmas.Iterator.Consumers.{YieldsList-end}
use Rattle.std.specs.Prelude.{string_bytes}
use Rattle.ii_json.specs.DottedPaths.{with_dots}
use Rattle.ii_json.proofs.DottedLemmas.{dots_all, dots_more}
use Rattle.ii_json.proofs.json_utils.json_path_sep_to_dot.Goals as goal

pub loop-character-preserved : goal.loop-character-preserved
loop-character-preserved c = c.in_ok-push.ensures.bytes ∙ dots_more (string_bytes c.loop-character.dotted) c.loop-character.yielded c.in-Some.character c.dot_between.result c.loop-character.invariant c.dot_between.ensures

pub returns-clause-ok : goal.returns-clause-ok
returns-clause-ok c =
    let all = YieldsList-end (YieldsList-from_chars c.deref.result.now c.deref.utf8 cc) c.loop-character.yielded _ c.loop-character.yielded_by _ _ c.in-None.is c.next.ensures.steps in
    dots_all c.deref.result.now (string_bytes c.loop-character.dotted) c.loop-character.yielded c.deref.utf8 all.0 c.loop-character.invariant ∙ ap with_dots c.deref.ensures
