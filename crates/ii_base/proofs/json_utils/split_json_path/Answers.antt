use Rattle.std.proofs.Common.{◌≡◌, ◌++◌, ◌∷◌, [], map, string_bytes, rules}
use Rattle.std.proofs.lemmas.List.{map-append}
use lib.Utf8.{encode}
use Rattle.ii_base.proofs.SplitLemmas.{splitting_first, splitting_dot, splitting_char, splitting_kept}
use Rattle.ii_base.proofs.json_utils.split_json_path.Goals as goal

pub loop-c-init : goal.loop-c-init
loop-c-init c = rw (c.new-segments.ensures.items, c.new-segment.ensures.bytes, c.chars-chars.ensures.rest) (splitting_first c.args.path.now)

pub loop-c-preserved-then-c-eq46 : goal.loop-c-preserved-then-c-eq46
loop-c-preserved-then-c-eq46 c =
    let next = splitting_dot _ _ _ _ _ c.in-Some.c c.loop-c.invariant c.in-Some.ensures.steps.0 c.if-c-eq46.true in
    let empty : string_bytes c.replace.new.dest ≡ [] = search rules in
    let items : map string_bytes c.push.new.self.items ≡ map string_bytes c.loop-c.segments.items ++ string_bytes c.loop-c.segment ∷ [] = search (rules, map-append) in
    rw (empty, items) next

pub loop-c-preserved-then-c-ne92 : goal.loop-c-preserved-then-c-ne92
loop-c-preserved-then-c-ne92 c =
    let written : string_bytes c.push-then-c-ne92.new.self ≡ string_bytes c.loop-c.segment ++ encode c.in-Some.c = c.in_ok-push-2.ensures.bytes in
    rw written (splitting_char _ _ _ _ _ c.in-Some.c c.loop-c.invariant c.in-Some.ensures.steps.0 c.if-c-eq46.false c.if-c-ne92.true)

pub loop-c-preserved : goal.loop-c-preserved
loop-c-preserved c =
    let written : string_bytes c.push-in-Some.new.self ≡ string_bytes c.loop-c.segment ++ encode c.in-Some-next.kept = c.in_ok-push-3.ensures.bytes in
    rw written (splitting_kept _ _ _ _ _ _ c.in-Some.c c.in-Some-next.kept c.loop-c.invariant c.in-Some.ensures.steps.0 c.if-c-ne92.false c.in-Some-next.ensures.steps.0)
