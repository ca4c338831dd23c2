use Rattle.std.proofs.Common.{◌+◌, ◌-◌, ◌≡◌, ◌<◌, ◌≤◌, ◌*◌, ℕ, false}
use Rattle.std.specs.List.{AllZip}
use Rattle.ii_query.specs.declared.phrase.TheConstants.{BEFORE_TEXT}
use Rattle.ii_query.specs.Phrase.{ReadsOnce, parts_in}
use Rattle.ii_query.specs.SloppyPhrase.{are_in_window}
use Rattle.ii_query.proofs.phrase_starts.raise_to.Given as goal

abbrev pub invariant-loop-window : goal.invariant-loop-window
invariant-loop-window g l = record {
  same : parts_in l.others.items ≡ parts_in l.fn.others.items;
  from : l.low ≤ l.window;
  up_to : l.window < 2 * BEFORE_TEXT;
  none : (w : ℕ) → l.low ≤ w → w < l.window → are_in_window l.slop l.fn.others.items w ≡ false;
  later : (w : ℕ) → l.window ≤ w → are_in_window l.slop l.others.items w ≡ are_in_window l.slop l.fn.others.items w;
  work : AllZip (ReadsOnce g.P.Postings.spent) l.fn.others.items l.others.items;
}

abbrev pub decreases-loop-window : goal.decreases-loop-window
decreases-loop-window g l = l.end + 1 - l.window
