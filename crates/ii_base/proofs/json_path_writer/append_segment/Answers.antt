use Rattle.std.proofs.Common.{◌≡◌, ◌++◌, [], ◌∷◌, string_bytes, rules}
use lib.Utf8.{encode}
use lib.Utf8.{encode}
use Rattle.ii_base.proofs.CharLemmas.{expanded_dot, expanded_other, expanding_begun, expanding_more}
use Rattle.ii_base.proofs.json_path_writer.append_segment.Goals as goal

pub loop-c-preserved : goal.loop-c-preserved
loop-c-preserved c =
    let next = expanded_other c.in-Some.c _ _ c.in-Some.ensures.steps.0 c.if-c-eq46.false in
    let written : string_bytes c.push-in-loop-c.new.self ≡ string_bytes c.loop-c.path ++ encode c.in-Some.c = c.in_ok-push-2.ensures.bytes in
    rw written (expanding_more _ _ _ _ _ _ c.loop-c.invariant next)

pub loop-c-preserved-then-c-eq46 : goal.loop-c-preserved-then-c-eq46
unfolding encode
loop-c-preserved-then-c-eq46 c =
    let next = expanded_dot c.in-Some.c _ _ c.in-Some.ensures.steps.0 c.if-c-eq46.true in
    let written : string_bytes c.push.new.self ≡ string_bytes c.loop-c.path ++ 1 ∷ [] = c.in_ok-push.ensures.bytes in
    rw written (expanding_more _ _ _ _ _ _ c.loop-c.invariant next)

pub loop-c-init : goal.loop-c-init
loop-c-init c = expanding_begun _ _ _ (search rules)
