use Rattle.std.proofs.Common.{◌<◌, ◌∙◌, length, rules, ap}
use Rattle.std.specs.Prelude.{slice_set}
use Rattle.std.proofs.lemmas.List.Edits.{map_over_more}
use Rattle.ii_query.specs.Phrase.{unread}
use Rattle.ii_query.proofs.phrase.clear_all.Goals as goal

pub loop-i-preserved : goal.loop-i-preserved
loop-i-preserved g c =
    let l = c.loop-i in
    let inside : l.i < length c.args.others.now.items = search rules in
    record { cleared = ap (slice_set l.others.items l.i) c.clear.ensures ∙ map_over_more unread c.args.others.now.items l.others.items l.i c.index_mut.result.now inside l.invariant.cleared c.index_mut.ensures.value }
