-- What a phrase of two terms reads.
use Rattle.std.proofs.Common.{◌≡◌, ℕ, ◌+◌, ◌/◌, ◌≤◌, List, [], ◌∷◌, length, ap₂, ◌∙◌, subst, arith}
use Rattle.std.specs.List.{AllByRecursion, AllZip, sum_by}
use Rattle.std.proofs.lemmas.List.Sums.{sum_by-cons}
use Rattle.ii_base.specs.Entries.{Entry}
use Rattle.ii_query.specs.Phrase.{IsUnread, PhraseTermState, ReadsOnce, cursors_in, most_reads, num_positions, unread_term}
use Rattle.ii_query.proofs.ReadsLemmas.{whole_positions, whole_reads}
use Rattle.ii_reader.specs.SegmentPostings.{SegmentPostingsState, SpentLazily}
use Rattle.ii_promises.specs.Decodes.{ReadsEachOnce}

-- the calls for all documents, for all their positions together
few_calls : (es : List Entry) → sum_by (λ (e : Entry). most_reads (length e.positions)) es ≤ num_positions es / 64 + length es
few_calls [] = omega arith
few_calls (e ∷ es) = omega (arith, few_calls es, sum_by-cons (λ (f : Entry). most_reads (length f.positions)) e es, sum_by-cons (λ (f : Entry). length f.positions) e es)

-- a term of which nothing was read
read_once : (distance : ℕ) (old : SegmentPostingsState) (new : PhraseTermState SegmentPostingsState) → ReadsOnce SpentLazily (unread_term distance old.rest old) new → ReadsEachOnce old new.cursor
read_once distance old new once =
    omega (arith, once.by.position_decodes, once.reads, once.positions, whole_reads old.rest, whole_positions old.rest, few_calls old.rest)

pub both_read_once : (first second : SegmentPostingsState) (part : PhraseTermState SegmentPostingsState) (others terms : List (PhraseTermState SegmentPostingsState)) → others ≡ part ∷ []
    → IsUnread part → part.part.rest ≡ second.rest → part.cursor ≡ second → (AllByRecursion IsUnread others → AllZip (ReadsOnce SpentLazily) (unread_term 0 first.rest first ∷ others) terms)
    → AllZip ReadsEachOnce (first ∷ second ∷ []) (cursors_in terms)
both_read_once first second part others terms others_is unread_part rest cursor reads = by terms (subst (λ (os : List (PhraseTermState SegmentPostingsState)). AllByRecursion IsUnread os → AllZip (ReadsOnce SpentLazily) (unread_term 0 first.rest first ∷ os) terms) others_is reads (unread_part, tt))
  where
    part_is : part ≡ unread_term part.part.distance second.rest second
    part_is = unread_part ∙ ap₂ (unread_term part.part.distance) rest cursor

    by : (ts : List (PhraseTermState SegmentPostingsState)) → AllZip (ReadsOnce SpentLazily) (unread_term 0 first.rest first ∷ part ∷ []) ts → AllZip ReadsEachOnce (first ∷ second ∷ []) (cursors_in ts)
    by [] zip = absurd zip
    by (t ∷ []) zip = absurd zip.1
    by (t ∷ u ∷ []) zip = (read_once 0 first t zip.0, (read_once part.part.distance second u (subst (λ (p : PhraseTermState SegmentPostingsState). ReadsOnce SpentLazily p u) part_is zip.1.0), tt))
    by (t ∷ u ∷ v ∷ ts) zip = absurd zip.1.1
