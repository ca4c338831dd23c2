use Rattle.std.proofs.Common.{◌≡◌, ◌<◌, ◌≤◌, ◌*◌, ℕ, Some, drop, take}
use Rattle.std.specs.List.{AllZip}
use Rattle.ii_query.specs.declared.phrase.TheConstants.{BEFORE_TEXT}
use Rattle.ii_query.specs.Phrase.{ReadsOnce, parts_in}
use Rattle.ii_query.specs.SloppyPhrase.{IsRaised, are_in_window}
use Rattle.ii_query.proofs.sloppy_phrase.raise_window.Given as goal

abbrev pub invariant-loop-i : goal.invariant-loop-i
invariant-loop-i g l = record {
  same : parts_in l.terms.items ≡ parts_in l.fn.terms.items;
  kept : drop l.i l.terms.items ≡ drop l.i l.fn.terms.items;
  up_to : l.window < 2 * BEFORE_TEXT;
  raised : IsRaised (are_in_window l.slop (take l.i l.fn.terms.items)) l.low (Some l.window);
  later : (w : ℕ) → l.window ≤ w → are_in_window l.slop l.terms.items w ≡ are_in_window l.slop l.fn.terms.items w;
  work : AllZip (ReadsOnce g.P.Postings.spent) l.fn.terms.items l.terms.items;
}
