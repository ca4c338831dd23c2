use Rattle.std.proofs.Common.{sym}
use Rattle.ii_store.specs.Collect.{KeepsOthers}
use Rattle.ii_directory.specs.Directory.{Elsewhere}
use Rattle.ii_store.specs.IndexMeta.{meta_view}
use Rattle.ii_store.proofs.CollectLaws.{elsewhere_keeps, removed_none, removed_one}
use Rattle.ii_directory.proofs.Elapsing.{elapses_implies, elapses_none}
use Rattle.ii_store.proofs.collect.remove_unlisted.Goals as goal

pub returns-then-not-is_unlisted-clause-removed : goal.returns-then-not-is_unlisted-clause-removed
returns-then-not-is_unlisted-clause-removed g c = λ known. removed_none (meta_view c.args.meta.now) c.args.name (g.D.Directory.seen c.args.directory.now) (sym c.if-not-is_unlisted.ensures)

pub returns-then-not-is_unlisted-clause-time : goal.returns-then-not-is_unlisted-clause-time
returns-then-not-is_unlisted-clause-time g c = λ known.
    let d = g.D.Directory in
    elapses_none d.moment d.left_since c.args.directory.now (KeepsOthers (meta_view c.args.meta.now) (d.seen c.args.directory.now))

pub returns-in_err-remove-clause-time : goal.returns-in_err-remove-clause-time
returns-in_err-remove-clause-time g c = λ known.
    let d = g.D.Directory in
    let m = meta_view c.args.meta.now in
    let old = c.args.directory.now in
    elapses_implies d.moment d.left_since old c.remove.new.self (Elsewhere c.args.name (d.seen old)) (KeepsOthers m (d.seen old)) (c.remove.ensures.time known)
    (λ files elsewhere. elsewhere_keeps m c.args.name (d.seen old) files (sym c.if-not-is_unlisted.ensures) elsewhere)

pub returns-clause-removed : goal.returns-clause-removed
returns-clause-removed g c = λ known.
    let d = g.D.Directory in
    removed_one (meta_view c.args.meta.now) c.args.name (d.seen c.args.directory.now) (d.seen c.remove.new.self) (sym c.if-not-is_unlisted.ensures) (c.in_ok-remove.ensures.removed known)

pub returns-clause-time : goal.returns-clause-time
returns-clause-time g c = λ known.
    let d = g.D.Directory in
    let m = meta_view c.args.meta.now in
    let old = c.args.directory.now in
    elapses_implies d.moment d.left_since old c.remove.new.self (Elsewhere c.args.name (d.seen old)) (KeepsOthers m (d.seen old)) (c.remove.ensures.time known)
    (λ files elsewhere. elsewhere_keeps m c.args.name (d.seen old) files (sym c.if-not-is_unlisted.ensures) elsewhere)
