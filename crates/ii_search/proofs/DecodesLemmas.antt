-- Cursors that are put together: what they give, and that they have decoded few blocks where each of them has.
use Rattle.std.proofs.Common.{List, ◌++◌, Result, Ok, Err}
use Rattle.std.specs.Prelude.{IfOk}
use Rattle.std.specs.List.{AllByRecursion, AllZip}
use Rattle.ii_io.specs.declared.faults.Fault.{Fault}
use Rattle.ii_query.specs.Combined.{QueryCursorState}
use Rattle.ii_query.specs.TermOrPhrase.{WentOn}
use Rattle.ii_query.specs.declared.term_or_phrase.TermOrPhrase.{TermOrPhrase}
use Rattle.ii_reader.specs.SegmentPostings.{SegmentPostingsState, SpentLazily, WentLazily}
use Rattle.ii_search.specs.Decodes.{EachDecodesFew}
use Rattle.ii_definitions.proofs.ListLaws.{all_both}
use Rattle.ii_search.proofs.DecodesLaws.{all_went}

-- one beside the other
pub few_beside : (xs ys : List (TermOrPhrase SegmentPostingsState)) (r : Result (QueryCursorState (TermOrPhrase SegmentPostingsState)) Fault) → AllByRecursion EachDecodesFew xs → AllByRecursion EachDecodesFew ys
    → IfOk r (λ cursor. AllZip (WentOn WentLazily SpentLazily) (xs ++ ys) cursor.cursors) → IfOk r (λ cursor. AllByRecursion EachDecodesFew cursor.cursors)
few_beside xs ys (Ok cursor) few also went = all_went (xs ++ ys) cursor.cursors went (all_both EachDecodesFew xs ys few also)
few_beside xs ys (Err fault) few also went = tt
