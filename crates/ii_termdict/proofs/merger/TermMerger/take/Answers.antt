use Rattle.std.proofs.Common.{◌≡◌, ◌<◌, List, get_or, length, set, ap, ◌∙◌, arith}
use Rattle.std.proofs.lemmas.List.{length-set}
use Rattle.std.proofs.lemmas.List.Edits.{map_over_more}
use Rattle.ii_termdict.specs.Dictionary.{TermEntry}
use Rattle.ii_termdict.specs.TermMerger.{behind_key}
use Rattle.ii_termdict.proofs.MergerLemmas.{infos_more, over_here}
use Rattle.ii_termdict.proofs.merger.TermMerger.take.Goals as goal

pub loop-place-preserved : goal.loop-place-preserved
loop-place-preserved c =
    let init = c.self.inside.dictionaries.items in
    let place = c.loop-place.place in
    let x = c.index_mut.result.now in
    let within : place < length init = omega (arith) in
    let here : x ≡ get_or init place x = c.index_mut.ensures.value ∙ ap (λ (ess : List (List TermEntry)). get_or ess place x) c.loop-place.invariant.1 ∙ over_here (behind_key c.args.key.now) init place x within in (
      c.in_ok-push.ensures.items ∙ infos_more c.args.key.now init place x _ _ within here c.loop-place.invariant.0 c.take.ensures.info,
      ap (set c.loop-place.self-inside.dictionaries.items place) c.take.ensures.rest ∙ map_over_more (behind_key c.args.key.now) init c.loop-place.self-inside.dictionaries.items place x within c.loop-place.invariant.1 c.index_mut.ensures.value,
      length-set _ _ _ ∙ c.loop-place.invariant.2,
    )
