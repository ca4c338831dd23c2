use Rattle.std.proofs.Common.{◌≡◌, ◌<◌, ◌∙◌, ℕ, get_or, length, min, rules, ap, subst, sym}
use Rattle.ii_query.specs.Combined.{StandsAt, union_of}
use Rattle.ii_query.specs.QueryCursor.{rests}
use Rattle.ii_query.proofs.PartsLemmas.{SoundTo, least_at, least_to, sound_ends, sound_next, union_at}
use Rattle.ii_query.proofs.query_cursor.least_doc.Goals as goal

pub loop-i-preserved : goal.loop-i-preserved
loop-i-preserved g c =
    let l = c.loop-i in
    let cs = c.args.parts.now.items in
    let inside : l.i < length cs = search rules in
    let is : c.index.result.now ≡ get_or cs l.i c.index.result.now = search rules in
    let least : c.min-least.result ≡ min (least_to l.i cs) c.current.result = search rules in
    record {
      least = least ∙ ap (λ (d : ℕ). min (least_to l.i cs) d) c.current.ensures.doc ∙ sym (least_at l.i cs c.index.result.now inside is);
      sound = sound_next l.i cs c.index.result.now inside is c.current.ensures.sound l.invariant.sound;
    }

pub returns : goal.returns
returns g c =
    let l = c.loop-i in
    let cs = c.args.parts.now.items in
    let ended : l.i ≡ length cs = search rules in
    let all = sound_ends cs (subst (λ n. SoundTo n cs) ended l.invariant.sound) in
    let least : least_to (length cs) cs ≡ l.least = ap (λ n. least_to n cs) (sym ended) ∙ sym l.invariant.least in
    record { at = subst (λ doc. StandsAt doc (union_of (rests cs))) least (union_at cs all) }
