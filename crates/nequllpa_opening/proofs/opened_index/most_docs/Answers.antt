use Rattle.std.proofs.Common.{◌≡◌, ◌<◌, ◌≤◌, ◌∙◌, ℕ, suc, ◌+◌, Bool, List, ◌∷◌, ap, arith, drop, drop-cons, get_or, length, max, refl, rules, sym}
use Rattle.std.proofs.lemmas.List.{drop_all}
use Rattle.nequllpa_opening.specs.declared.opened.Opened.{Opened}
use Rattle.nequllpa_opening.proofs.OpenLemmas.{fewer_all, fewer_first, fewer_next}
use Rattle.nequllpa_opening.proofs.opened_index.most_docs.Goals as goal

pub loop-segment-init : goal.loop-segment-init
loop-segment-init c = fewer_first c.args.segments.now.items _ 0 refl

pub loop-segment-preserved : goal.loop-segment-preserved
loop-segment-preserved c =
    let all = c.args.segments.now.items in
    let i = c.loop-segment.segment-index in
    let s = c.segment-item.result in
    let within : i < length all = search rules in
    let greatest : c.max-most.result ≡ max c.loop-segment.most c.num_docs.result = search rules in
    let count : c.num_docs.result ≡ length s.alive = c.num_docs.ensures ∙ ap (λ (bits : List Bool). length bits) c.alive.ensures in
    let is : s ≡ get_or all i s = c.segment-item.is ∙ ap (λ (xs : List Opened). get_or xs i s) c.deref-segment-items.ensures.value in
    let next : suc i ≡ i + 1 = omega arith in
    let split : drop i all ≡ s ∷ drop (i + 1) all = drop-cons all i s within ∙ ap (λ (o : Opened). o ∷ drop (suc i) all) (sym is) ∙ ap (λ (n : ℕ). s ∷ drop n all) next in
    fewer_next all (drop i all) (drop (i + 1) all) s c.loop-segment.most c.max-most.result split (greatest ∙ ap (max c.loop-segment.most) count) c.loop-segment.invariant

pub returns : goal.returns
returns c =
    let past : length c.args.segments.now.items ≤ c.loop-segment.segment-index = search rules in
    fewer_all c.args.segments.now.items _ c.loop-segment.most (drop_all c.loop-segment.segment-index c.args.segments.now.items past) c.loop-segment.invariant
