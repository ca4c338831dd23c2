use Rattle.std.proofs.Common.{◌≡◌, ◌++◌, ◌∷◌, [], ℕ, ◌+◌, Bool, List, length, string_bytes, take, not, ◌==◌, rules, ap, ◌∙◌}
use Rattle.std.proofs.lemmas.Str.{IsUtf8-string_bytes}
use mir.Val.{bool_byte}
use Rattle.ii_base.specs.Paths.{IsPathOf, PathState, cut_at, segment_bytes}
use Rattle.ii_base.proofs.CharLemmas.{cut_behind_front}
use Rattle.ii_base.proofs.PathLemmas.{cut_holds, cut_is, pushed}
use Rattle.ii_base.proofs.json_path_writer.JsonPathWriter.push.Goals as goal

pub truncate-requires : goal.truncate-requires
truncate-requires c =
    let len : c.len-len.result ≡ length (string_bytes c.self.inside.path) = search rules in
    let front = ap (λ (n : ℕ). take n (string_bytes c.append.new.path)) c.len-len.ensures ∙ c.in-Err.ensures.err in
    let cut = cut_behind_front _ _ c.len-len.result (IsUtf8-string_bytes c.append.new.path) (IsUtf8-string_bytes c.self.inside.path) front len in
    λ within. (cut.0, λ some. cut.1)

longer : (c : goal.In_default) → IsPathOf (cut_at (string_bytes c.self.inside.path) c.self.inside.starts.items ++ segment_bytes c.self.inside.expand_dots c.args.segment.now ∷ []) (string_bytes c.append.new.path) c.push.new.self.items
longer c =
    let first : c.is_empty-is_first.result ≡ (length c.self.inside.starts.items == 0) = search rules in
    let start : c.len-len.result + c.from.result ≡ length (string_bytes c.self.inside.path) + bool_byte (not c.is_empty-is_first.result) = search rules in
    rw (c.in_default.ensures.ok, c.in_ok-push.ensures.items) (pushed _ _ _ _ _ _ c.self.invariant first start)

pub invariant_of-self-in_default : goal.invariant_of-self-in_default
invariant_of-self-in_default c = cut_holds _ _ _ (longer c)

pub returns-clause-ok : goal.returns-clause-ok
returns-clause-ok c =
    let is = cut_is _ _ _ (longer c) in
    let here : Bool → List (List ℕ) → PathState = λ e s. record { segments = s; expand_dots = e } in
    let more : PathState → PathState = λ p. record { segments = p.segments ++ segment_bytes p.expand_dots c.args.segment.now ∷ []; expand_dots = p.expand_dots } in
    ap (here c.self.inside.expand_dots) is ∙ ap more c.self.view_is
