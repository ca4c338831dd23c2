use Rattle.std.proofs.Common.{◌<◌, ◌+◌, ◌∙◌, Bool, ◌&&◌, length, drop, rules, ap, subst, sym, refl}
use Rattle.std.specs.List.{AllByRecursion}
use Rattle.ii_docset.specs.Cursor.{IsCurrent}
use Rattle.ii_query.specs.Phrase.{PhrasePartState, PhraseTermState, ReadsOnce, is_left, parts_in, stand_left}
use Rattle.ii_query.specs.WorkLaws.{none_went, reads_in_turn, reads_nothing}
use Rattle.ii_query.proofs.ReadsLemmas.{all_set, kept_at, kept_more, left_next}
use Rattle.ii_query.proofs.WorkLemmas.{each_at, part_got, parts_many, parts_same, work_set}
use Rattle.ii_query.proofs.phrase.stand_from.Goals as goal

pub loop-i-init : goal.loop-i-init
loop-i-init g c = record {
  same = refl;
  kept = refl;
  left = refl;
  later = λ s up. refl;
  work = none_went (ReadsOnce g.P.Postings.spent) (λ t. reads_nothing g.P.Postings.spent t (g.met.P.Postings.spent_moving t.cursor t.cursor (g.met.P.DocSet.went_nowhere t.cursor))) c.args.others.now.items;
}

pub stands_from-requires : goal.stands_from-requires
stands_from-requires g c =
    let l = c.loop-i in
    let inside : l.i < length l.others.items = search rules in
    each_at (λ (p : PhrasePartState). IsCurrent p.rest) (parts_in l.others.items) l.i c.index_mut.result.now.part
    (subst (λ ps. AllByRecursion (λ (p : PhrasePartState). IsCurrent p.rest) ps) (sym l.invariant.same) c.requires)
    (rw (parts_many l.others.items) inside)
    (part_got l.others.items l.i c.index_mut.result.now inside c.index_mut.ensures.value)

pub returns-then-not-stands_from-clause-stand : goal.returns-then-not-stands_from-clause-stand
returns-then-not-stands_from-clause-stand g c =
    let l = c.loop-i in
    let t = c.index_mut.result.now in
    let inside : l.i < length c.args.others.now.items = search rules in
    let got = kept_at c.args.others.now.items l.others.items l.i t l.invariant.kept c.index_mut.ensures.value in
    let misses = sym c.stands_from.ensures.stands ∙ c.if-not-stands_from.true in
    sym (sym l.invariant.left ∙ left_next c.args.others.now.items l.i c.args.start t inside got ∙ ap (λ (b : Bool). b && stand_left (drop (l.i + 1) c.args.others.now.items) c.args.start) misses)

pub returns-then-not-stands_from-clause-later : goal.returns-then-not-stands_from-clause-later
returns-then-not-stands_from-clause-later g c s up =
    let l = c.loop-i in
    let inside : l.i < length l.others.items = search rules in
    all_set (λ (u : PhraseTermState _). is_left u s) l.others.items l.i c.index_mut.result.now c.stands_from.new.self inside c.index_mut.ensures.value (c.stands_from.ensures.later s up) ∙ l.invariant.later s up

pub returns-then-not-stands_from-clause-same : goal.returns-then-not-stands_from-clause-same
returns-then-not-stands_from-clause-same g c =
    let l = c.loop-i in
    let inside : l.i < length l.others.items = search rules in
    parts_same l.others.items l.i c.index_mut.result.now c.stands_from.new.self inside c.index_mut.ensures.value c.stands_from.ensures.same ∙ l.invariant.same

pub returns-then-not-stands_from-clause-work : goal.returns-then-not-stands_from-clause-work
returns-then-not-stands_from-clause-work g c =
    let l = c.loop-i in
    let inside : l.i < length l.others.items = search rules in
    work_set (ReadsOnce g.P.Postings.spent) (reads_in_turn g.P.Postings.spent g.met.P.Postings.spent_on) c.args.others.now.items l.others.items l.i c.index_mut.result.now c.stands_from.new.self inside c.index_mut.ensures.value c.stands_from.ensures.work l.invariant.work

pub loop-i-preserved : goal.loop-i-preserved
loop-i-preserved g c =
    let l = c.loop-i in
    let t = c.index_mut.result.now in
    let start = c.args.others.now.items in
    let inside : l.i < length l.others.items = search rules in
    let within : l.i < length start = search rules in
    let got = kept_at start l.others.items l.i t l.invariant.kept c.index_mut.ensures.value in
    let has = sym c.stands_from.ensures.stands ∙ c.if-not-stands_from.false in
    record {
      same = parts_same l.others.items l.i t c.stands_from.new.self inside c.index_mut.ensures.value c.stands_from.ensures.same ∙ l.invariant.same;
      kept = kept_more start l.others.items l.i c.stands_from.new.self l.invariant.kept;
      left = sym (ap (λ (b : Bool). b && stand_left (drop (l.i + 1) start) c.args.start) has) ∙ sym (left_next start l.i c.args.start t within got) ∙ l.invariant.left;
      later = λ s up. all_set (λ (u : PhraseTermState _). is_left u s) l.others.items l.i t c.stands_from.new.self inside c.index_mut.ensures.value (c.stands_from.ensures.later s up) ∙ l.invariant.later s up;
      work = work_set (ReadsOnce g.P.Postings.spent) (reads_in_turn g.P.Postings.spent g.met.P.Postings.spent_on) start l.others.items l.i t c.stands_from.new.self inside c.index_mut.ensures.value c.stands_from.ensures.work l.invariant.work;
    }
