-- Cursors that have decoded few blocks go on.
use Rattle.std.proofs.Common.{List, [], ◌∷◌, ◌≤◌, ℕ, arith, subst, sym}
use Rattle.std.specs.List.{AllByRecursion, AllZip}
use Rattle.ii_check.specs.DecodedBlocks.{AscendWithin, DecodesLater}
use Rattle.ii_check.proofs.DecodedBlocksLaws.{ascend_on}
use Rattle.ii_query.specs.Phrase.{Spent}
use Rattle.ii_query.specs.TermOrPhrase.{WentOn}
use Rattle.ii_query.specs.declared.term_or_phrase.TermOrPhrase.{TermOrPhrase}
use Rattle.ii_query.specs.declared.term_or_phrase.TermOrPhrase.TheVariants.{Term, Phrase}
use Rattle.ii_reader.specs.SegmentPostings.{SegmentPostingsState, SpentLazily, WentLazily}
use Rattle.ii_search.specs.Decodes.{DecodesFew, EachDecodesFew}

-- blocks that were decoded later are after those that were
ascend_later : (old new : ℕ) (blocks blocks' : List ℕ) → old ≤ new → AscendWithin 0 old blocks → DecodesLater old new blocks blocks' → AscendWithin 0 new blocks'
ascend_later old new blocks blocks' forward before later =
    subst (AscendWithin 0 new) (sym later.are) (ascend_on 0 old new blocks later.added (omega arith) forward before later.ascend)

few_went : (a b : SegmentPostingsState) → WentLazily a b → DecodesFew a → DecodesFew b
few_went a b went few =
    let d = went.doc_decodes in
    let e = went.freq_decodes in
    let f = few.doc_decodes in
    let g = few.freq_decodes in
    record {
      doc_decodes = omega (arith, d, f);
      freq_decodes = omega (arith, e, g);
      doc_blocks = ascend_later a.block b.block a.doc_blocks b.doc_blocks went.forward few.doc_blocks went.doc_blocks;
      freq_blocks = ascend_later a.block b.block a.freq_blocks b.freq_blocks went.forward few.freq_blocks went.freq_blocks;
    }

few_spent : (a b : SegmentPostingsState) → Spent SpentLazily a b → DecodesFew a → DecodesFew b
few_spent a b spent few =
    let d = spent.by.doc_decodes in
    let e = spent.by.freq_decodes in
    let f = few.doc_decodes in
    let g = few.freq_decodes in
    record {
      doc_decodes = omega (arith, d, f);
      freq_decodes = omega (arith, e, g);
      doc_blocks = ascend_later a.block b.block a.doc_blocks b.doc_blocks spent.by.forward few.doc_blocks spent.by.doc_blocks;
      freq_blocks = ascend_later a.block b.block a.freq_blocks b.freq_blocks spent.by.forward few.freq_blocks spent.by.freq_blocks;
    }

-- what holds of each cursor, and is kept by what it did
pub all_kept : {T : Type 0} (R : T → T → Type 0) (P : T → Type 0) → ((a b : T) → R a b → P a → P b) → (xs ys : List T) → AllZip R xs ys → AllByRecursion P xs → AllByRecursion P ys
all_kept R P kept [] [] moved all = tt
all_kept R P kept [] (y ∷ ys) moved all = elim moved [ ]
all_kept R P kept (x ∷ xs) [] moved all = elim moved [ ]
all_kept R P kept (x ∷ xs) (y ∷ ys) moved all = (kept x y moved.0 all.0, all_kept R P kept xs ys moved.1 all.1)

-- reading positions of the cursors of a phrase
pub all_spent : (xs ys : List SegmentPostingsState) → AllZip (Spent SpentLazily) xs ys → AllByRecursion DecodesFew xs → AllByRecursion DecodesFew ys
all_spent xs ys spent all = all_kept (Spent SpentLazily) DecodesFew few_spent xs ys spent all

each_went : (a b : TermOrPhrase SegmentPostingsState) → WentOn WentLazily SpentLazily a b → EachDecodesFew a → EachDecodesFew b
each_went (Term a) (Term b) went few = few_went a b went few
each_went (Phrase a) (Phrase b) went few = all_spent a.phrase.cursors b.phrase.cursors went.0 few
each_went (Term a) (Phrase b) went few = elim went [ ]
each_went (Phrase a) (Term b) went few = elim went [ ]

-- moves of the cursor of a query
pub all_went : (xs ys : List (TermOrPhrase SegmentPostingsState)) → AllZip (WentOn WentLazily SpentLazily) xs ys → AllByRecursion EachDecodesFew xs → AllByRecursion EachDecodesFew ys
all_went xs ys went all = all_kept (WentOn WentLazily SpentLazily) EachDecodesFew each_went xs ys went all
