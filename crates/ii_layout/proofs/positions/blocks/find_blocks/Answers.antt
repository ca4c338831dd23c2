use Rattle.std.proofs.Common.{ℕ, ◌+◌, ◌-◌, length, take, drop, refl, ap, arith}
use Rattle.std.proofs.lemmas.Option.{IfSome_then}
use Rattle.ii_layout.proofs.AnchorLemmas.{anchors_all, finds_more, last_end, last_found, piece_found}
use Rattle.ii_layout.proofs.positions.blocks.find_blocks.Goals as goal

pub returns-in_default-clause-found : goal.returns-in_default-clause-found
returns-in_default-clause-found c =
    let l = c.loop-first in
    (piece_found c.args.widths.now c.args.body.now l.anchors c.args.stride l.place l.first l.anchor l.invariant (omega arith) _ c.args.stride _ (omega arith)
    (ap (λ (n : ℕ). take n (drop l.first c.args.widths.now)) (omega arith)) c.in_default.ensures.found).1 refl

pub loop-first-preserved : goal.loop-first-preserved
loop-first-preserved c =
    let l = c.loop-first in
    finds_more c.args.widths.now c.args.body.now l.anchors c.args.stride l.place l.first l.anchor l.invariant (omega arith) c.in-Some.end (take (l.first + c.args.stride - l.first) (drop l.first c.args.widths.now)) _ (omega arith)
    (ap (λ (n : ℕ). take n (drop l.first c.args.widths.now)) (omega arith)) c.in-Some.ensures.found c.in-Some.ensures.end refl

pub returns-clause-found : goal.returns-clause-found
returns-clause-found c =
    let l = c.loop-first in
    last_found c.args.widths.now c.args.body.now l.anchors c.args.stride l.place l.first l.anchor l.invariant (omega arith) c.end_of-2.result (length c.args.widths.now - l.first) _ (let inside = l.invariant.inside in omega arith) refl c.end_of-2.ensures.found

pub returns-clause-end : goal.returns-clause-end
returns-clause-end c =
    let l = c.loop-first in
    last_end c.args.widths.now c.args.body.now l.anchors c.args.stride l.place l.first l.anchor l.invariant (omega arith) c.end_of-2.result (length c.args.widths.now - l.first) _ (let inside = l.invariant.inside in omega arith) refl c.end_of-2.ensures.end

pub returns-clause-anchors : goal.returns-clause-anchors
returns-clause-anchors c =
    let l = c.loop-first in
    IfSome_then c.end_of-2.result c.end_of-2.ensures.end (λ end is. anchors_all c.args.widths.now c.args.body.now l.anchors c.args.stride l.place l.first l.anchor l.invariant (omega arith) (omega arith))
