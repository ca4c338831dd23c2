use Rattle.std.proofs.Common.{◌≡◌, ◌∙◌, ◌<◌, List, ℕ, length, get_or, arith, sym, ap}
use Rattle.std.proofs.lemmas.Bool.{eqb-false}
use Rattle.std.proofs.lemmas.Str.{IsCharBoundary-after_ascii}
use Rattle.ii_query_grammar.proofs.cut.strip.Goals as goal

pub split_at-requires : goal.split_at-requires
split_at-requires c =
    let same : c.as_bytes-bytes.result.now ≡ c.args.text.now = c.as_bytes-bytes.ensures.value in
    let some = eqb-false (length c.as_bytes-bytes.result.now) 0 (sym c.is_empty.ensures ∙ c.if-is_empty.false) in
    let long : 0 < length c.args.text.now = omega (arith, some, ap (λ (l : List ℕ). length l) same) in
    let first : get_or c.args.text.now 0 0 ≡ c.args.byte = ap (λ (l : List ℕ). get_or l 0 0) (sym same) ∙ c.if-bytes-byte.false in
    let small = c.requires in
    IsCharBoundary-after_ascii c.args.text.now 0 c.utf8.text long (omega (arith, first, small))
