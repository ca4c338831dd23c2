use Rattle.std.proofs.Common.{◌≡◌, ◌<◌, get_or, length, rules, subst}
use Rattle.ii_query.proofs.HintLemmas.{least_ends, least_first, least_kept, least_less}
use Rattle.ii_query.proofs.PartsLemmas.{SoundTo, sound_ends, sound_next}
use Rattle.ii_query.proofs.query_cursor.rarest.Goals as goal
use Rattle.ii_query.proofs.query_cursor.rarest.Goals.{then-bound-least, else-bound-least}

pub loop-i-init : goal.loop-i-init
loop-i-init g c =
    let cs = c.args.cursors.now.items in
    let is : c.index.result.now ≡ get_or cs 0 c.index.result.now = search rules in
    record { least = least_first cs c.index.result.now c.bound-least.result c.requires is c.bound-least.ensures.hint; sound = tt }

pub loop-i-preserved : goal.loop-i-preserved
loop-i-preserved g c =
    let l = c.loop-i in
    let cs = c.args.cursors.now.items in
    let x = c.index-in-loop-i.result.now in
    let inside : l.i < length cs = search rules in
    let is : x ≡ get_or cs l.i x = search rules in
    record {
      least = elim c.if-bound-least.branch [
        | then-bound-least w ↦ rw (w.at-is, w.least-is) (least_less l.i l.at l.least cs x c.bound-bound.result inside is c.bound-bound.ensures.hint w.if-bound-least.true l.invariant.least)
        | else-bound-least w ↦ rw (w.at-is, w.least-is) (least_kept l.i l.at l.least cs x c.bound-bound.result inside is c.bound-bound.ensures.hint w.if-bound-least.false l.invariant.least)
      ];
      sound = sound_next l.i cs x inside is c.bound-bound.ensures.sound l.invariant.sound;
    }

pub returns-clause-least : goal.returns-clause-least
returns-clause-least g c =
    let ended : c.loop-i.i ≡ length c.args.cursors.now.items = search rules in
    least_ends c.loop-i.i c.loop-i.at c.loop-i.least c.args.cursors.now.items ended c.loop-i.invariant.least

pub returns-clause-sound : goal.returns-clause-sound
returns-clause-sound g c =
    let l = c.loop-i in
    let cs = c.args.cursors.now.items in
    let ended : l.i ≡ length cs = search rules in
    sound_ends cs (subst (λ n. SoundTo n cs) ended l.invariant.sound)
