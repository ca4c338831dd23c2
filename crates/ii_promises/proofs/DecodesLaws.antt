-- What the cursors of a query have decoded, as it was reported and as it is promised.
use Rattle.std.proofs.Common.{List}
use Rattle.std.specs.List.{AllByRecursion, AllZip}
use Rattle.ii_query.specs.TermOrPhrase.{WentOn}
use Rattle.ii_query.specs.declared.term_or_phrase.TermOrPhrase.{TermOrPhrase}
use Rattle.ii_query.specs.declared.term_or_phrase.TermOrPhrase.TheVariants.{Term, Phrase}
use Rattle.ii_reader.specs.SegmentPostings.{SegmentPostingsState, SpentLazily, WentLazily}
use Rattle.ii_search.specs.Decodes.{DecodesFew, EachDecodesFew}
use Rattle.ii_search.proofs.DecodesLaws.{all_went}
use Rattle.ii_postings_writer.proofs.SortedLemmas.{all_mapped}
use Rattle.ii_promises.specs.Decodes.{HasDecodedFew, HaveDecodedFew}

told : (t : TermOrPhrase SegmentPostingsState) → EachDecodesFew t → HaveDecodedFew t
told (Term cursor) few = (few.doc_decodes, few.freq_decodes, few.doc_blocks, few.freq_blocks)
told (Phrase cursor) few = all_mapped DecodesFew HasDecodedFew (λ s f. (f.doc_decodes, f.freq_decodes, f.doc_blocks, f.freq_blocks)) cursor.phrase.cursors few

asked : (t : TermOrPhrase SegmentPostingsState) → HaveDecodedFew t → EachDecodesFew t
asked (Term cursor) few = record { doc_decodes = few.0; freq_decodes = few.1; doc_blocks = few.2; freq_blocks = few.3 }
asked (Phrase cursor) few = all_mapped HasDecodedFew DecodesFew (λ s f. record { doc_decodes = f.0; freq_decodes = f.1; doc_blocks = f.2; freq_blocks = f.3 }) cursor.phrase.cursors few

pub few_are_told : (ts : List (TermOrPhrase SegmentPostingsState)) → AllByRecursion EachDecodesFew ts → AllByRecursion HaveDecodedFew ts
few_are_told ts few = all_mapped EachDecodesFew HaveDecodedFew told ts few

-- they stay few where the cursors go on
pub few_go_on : (ts us : List (TermOrPhrase SegmentPostingsState)) → AllZip (WentOn WentLazily SpentLazily) ts us → AllByRecursion HaveDecodedFew ts → AllByRecursion HaveDecodedFew us
few_go_on ts us went few = few_are_told us (all_went ts us went (all_mapped HaveDecodedFew EachDecodesFew asked ts few))
