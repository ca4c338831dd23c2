use Rattle.std.proofs.Common.{◌∙◌, ◌<◌, ◌+◌, ◌≤◌, ◌&&◌, Some, None, Option, List, length, take, rules, subst, sym, refl, arith}
use Rattle.std.specs.List.{AllByRecursion, list_all}
use Rattle.std.proofs.lemmas.List.{take_all}
use Rattle.ii_docset.specs.Cursor.{IsCurrent}
use Rattle.ii_query.specs.Phrase.{PhrasePartState, PhraseTermState, ReadsOnce, parts_in}
use Rattle.ii_query.specs.SloppyPhrase.{IsRaised, are_in_window, is_in_window}
use Rattle.ii_query.specs.WorkLaws.{none_went, reads_in_turn, reads_nothing}
use Rattle.ii_query.proofs.ReadsLemmas.{all_set, kept_at, kept_more}
use Rattle.ii_query.proofs.WindowLemmas.{front_fails, front_more, raised_alike, raised_both, raised_first}
use Rattle.ii_query.proofs.WorkLemmas.{each_at, part_got, parts_many, parts_same, work_set}
use Rattle.ii_query.proofs.sloppy_phrase.raise_window.Goals as goal

pub loop-i-init : goal.loop-i-init
loop-i-init g c = record {
  same = refl;
  kept = refl;
  up_to = c.requires.up_to;
  raised = raised_first c.args.low;
  later = λ w up. refl;
  work = none_went (ReadsOnce g.P.Postings.spent) (λ t. reads_nothing g.P.Postings.spent t (g.met.P.Postings.spent_moving t.cursor t.cursor (g.met.P.DocSet.went_nowhere t.cursor))) c.args.terms.now.items;
}

pub next_window-requires-clause-current : goal.next_window-requires-clause-current
next_window-requires-clause-current g c =
    let l = c.loop-i in
    let inside : l.i < length l.terms.items = search rules in
    each_at (λ (p : PhrasePartState). IsCurrent p.rest) (parts_in l.terms.items) l.i c.index_mut.result.now.part
    (subst (λ ps. AllByRecursion (λ (p : PhrasePartState). IsCurrent p.rest) ps) (sym l.invariant.same) c.requires.current)
    (rw (parts_many l.terms.items) inside)
    (part_got l.terms.items l.i c.index_mut.result.now inside c.index_mut.ensures.value)

pub returns-in_default-clause-raised : goal.returns-in_default-clause-raised
returns-in_default-clause-raised g c n up =
    let l = c.loop-i in
    let t = c.index_mut.result.now in
    let ts = c.args.terms.now.items in
    let inside : l.i < length ts = search rules in
    let got = kept_at ts l.terms.items l.i t l.invariant.kept c.index_mut.ensures.value in
    let next = subst (λ (found : Option _). IsRaised (λ w. is_in_window c.args.slop w t) l.window found) c.in_default.is c.next_window.ensures.raised in
    let both = raised_both (are_in_window c.args.slop (take l.i ts)) (λ w. is_in_window c.args.slop w t) c.args.low l.window None l.invariant.raised next in
    front_fails (is_in_window c.args.slop n) (l.i + 1) ts (sym (front_more (is_in_window c.args.slop n) ts l.i t inside got) ∙ both n up)

pub returns-in_default-clause-same : goal.returns-in_default-clause-same
returns-in_default-clause-same g c =
    let l = c.loop-i in
    let inside : l.i < length l.terms.items = search rules in
    parts_same l.terms.items l.i c.index_mut.result.now c.next_window.new.self inside c.index_mut.ensures.value c.next_window.ensures.same ∙ l.invariant.same

pub returns-in_default-clause-work : goal.returns-in_default-clause-work
returns-in_default-clause-work g c =
    let l = c.loop-i in
    let inside : l.i < length l.terms.items = search rules in
    work_set (ReadsOnce g.P.Postings.spent) (reads_in_turn g.P.Postings.spent g.met.P.Postings.spent_on) c.args.terms.now.items l.terms.items l.i c.index_mut.result.now c.next_window.new.self inside c.index_mut.ensures.value c.next_window.ensures.work l.invariant.work

pub loop-i-preserved : goal.loop-i-preserved
loop-i-preserved g c =
    let l = c.loop-i in
    let t = c.index_mut.result.now in
    let ts = c.args.terms.now.items in
    let inside : l.i < length l.terms.items = search rules in
    let within : l.i < length ts = search rules in
    let got = kept_at ts l.terms.items l.i t l.invariant.kept c.index_mut.ensures.value in
    let both = raised_both (are_in_window c.args.slop (take l.i ts)) (λ w. is_in_window c.args.slop w t) c.args.low l.window (Some c.in-Some.next) l.invariant.raised c.in-Some.ensures.raised in
    let from = c.in-Some.ensures.raised.0 in
    record {
      same = parts_same l.terms.items l.i t c.next_window.new.self inside c.index_mut.ensures.value c.next_window.ensures.same ∙ l.invariant.same;
      kept = kept_more ts l.terms.items l.i c.next_window.new.self l.invariant.kept;
      up_to = c.in-Some.ensures.up_to;
      raised = raised_alike (λ n. list_all (is_in_window c.args.slop n) (take l.i ts) && is_in_window c.args.slop n t) (are_in_window c.args.slop (take (l.i + 1) ts)) c.args.low (Some c.in-Some.next) (λ n. front_more (is_in_window c.args.slop n) ts l.i t within got) both;
      later = λ w up.
          let above : l.window ≤ w = omega (arith, from, up) in
          all_set (is_in_window c.args.slop w) l.terms.items l.i t c.next_window.new.self inside c.index_mut.ensures.value (c.next_window.ensures.later w above) ∙ l.invariant.later w above;
      work = work_set (ReadsOnce g.P.Postings.spent) (reads_in_turn g.P.Postings.spent g.met.P.Postings.spent_on) ts l.terms.items l.i t c.next_window.new.self inside c.index_mut.ensures.value c.next_window.ensures.work l.invariant.work;
    }

pub returns-clause-raised : goal.returns-clause-raised
returns-clause-raised g c =
    let l = c.loop-i in
    let ts = c.args.terms.now.items in
    let ended : length ts ≤ l.i = search rules in
    subst (λ (front : List (PhraseTermState _)). IsRaised (are_in_window c.args.slop front) c.args.low (Some l.window)) (take_all l.i ts ended) l.invariant.raised
