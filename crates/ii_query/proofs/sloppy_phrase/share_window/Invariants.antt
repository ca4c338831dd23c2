use Rattle.std.proofs.Common.{◌≡◌, ◌<◌, ◌≤◌, ◌*◌, ◌-◌, ◌∷◌, ℕ, false}
use Rattle.std.specs.List.{AllZip}
use Rattle.ii_query.specs.declared.phrase.TheConstants.{BEFORE_TEXT}
use Rattle.ii_query.specs.Phrase.{ReadsOnce, parts_in}
use Rattle.ii_query.specs.SloppyPhrase.{are_in_window}
use Rattle.ii_query.proofs.sloppy_phrase.share_window.Given as goal

abbrev pub invariant-loop-window : goal.invariant-loop-window
invariant-loop-window g l = record {
  first_same : l.first.part ≡ l.fn.first.part;
  others_same : parts_in l.others.items ≡ parts_in l.fn.others.items;
  up_to : l.low < 2 * BEFORE_TEXT;
  none : (w : ℕ) → w < l.low → are_in_window l.slop (l.fn.first ∷ l.fn.others.items) w ≡ false;
  later : (w : ℕ) → l.low ≤ w → are_in_window l.slop (l.first ∷ l.others.items) w ≡ are_in_window l.slop (l.fn.first ∷ l.fn.others.items) w;
  first_work : ReadsOnce g.P.Postings.spent l.fn.first l.first;
  other_work : AllZip (ReadsOnce g.P.Postings.spent) l.fn.others.items l.others.items;
}

abbrev pub decreases-loop-window : goal.decreases-loop-window
decreases-loop-window g l = 2 * BEFORE_TEXT - l.low
