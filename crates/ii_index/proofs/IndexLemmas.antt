-- What an index holds after it was created, and after documents were added.
use Rattle.std.proofs.Common.{◌≡◌, ◌∙◌, ◌+◌, ◌<◌, ℕ, Bool, true, List, [], ◌∷◌, ◌++◌, Ok, ap, append-nil, arith, inl, inr, map, refl, subst, sym}
use Rattle.std.specs.Prelude.{replicate}
use Rattle.std.specs.List.{AllByRecursion, AllZip}
use Rattle.ii_alive.proofs.RankLemmas.{all_living}
use Rattle.ii_base.specs.Schema.{SchemaEntry}
use Rattle.ii_base.specs.Words.{Word}
use Rattle.ii_definitions.specs.Tokens.{IndexToken}
use Rattle.ii_directory.specs.Directory.{Files, Same}
use Rattle.ii_segment_store.specs.Commits.{HoldsOldOr, index_of_segment}
use Rattle.ii_segment_store.specs.Contents.{SegmentContents, index_contents}
use Rattle.ii_segments.specs.Segments.{Segment, index_tokens, num_docs_of}
use Rattle.ii_segments.proofs.MergeLaws.{all_alive, from_append}
use Rattle.ii_index.specs.Searching.{OpensIndex, SearcherState}
use Rattle.ii_index.specs.Ranking.{SearcherHolds}
use Rattle.ii_index.specs.Segments.{HaveTokens, HoldsIndexOf, after, segment_of, with_tokens}
use Rattle.ii_index.proofs.OpenLemmas.{index_counted, index_open}
use Rattle.nequllpa_indexing.specs.Documents.{DocumentsState}
use Rattle.nequllpa_indexing.specs.FieldTokens.{tokens_by}
use Rattle.nequllpa_merging.specs.HeldSegments.{HoldsSegment}
use Rattle.nequllpa_merging.specs.Joins.{HoldsSameIndex}

pub zip_more : {A B : Type 0} (R : A → B → Type 0) (xs : List A) (ys : List B) (x : A) (y : B) → AllZip R xs ys → R x y → AllZip R (xs ++ x ∷ []) (ys ++ y ∷ [])
zip_more R [] [] x y zip holds = (holds, tt)
zip_more R [] (b ∷ ys) x y zip holds = absurd zip
zip_more R (a ∷ xs) [] x y zip holds = absurd zip
zip_more R (a ∷ xs) (b ∷ ys) x y zip holds = (zip.0, zip_more R xs ys x y zip.1 holds)

module _ (words : ℕ → List ℕ → List Word) (d : DocumentsState) where
  abbrev tokens : List IndexToken
  tokens = tokens_by words d.calls

  abbrev flags : List Bool
  flags = replicate d.num_docs true

  -- documents come after those of other segments
  pub have_more : (n : ℕ) (ts : List IndexToken) (ss : List Segment) → AllByRecursion (λ (t : IndexToken). t.doc < d.num_docs) tokens → HaveTokens n ts ss → HaveTokens (n + d.num_docs) (with_tokens n ts (tokens_by words d.calls)) (ss ++ segment_of words d ∷ [])
  have_more n ts ss below have = record {
    num_docs = omega (arith, docs_more ss, all_living d.num_docs, have.num_docs);
    tokens =
        from_append 0 ss (segment_of words d ∷ [])
        ∙ ap (λ (us : List IndexToken). index_tokens ss ++ us) (append-nil _ ∙ all_alive (0 + num_docs_of ss) d.num_docs tokens below)
        ∙ ap (λ (us : List IndexToken). us ++ map (after (0 + num_docs_of ss)) tokens) have.tokens
        ∙ ap (λ (m : ℕ). ts ++ map (after m) tokens) first;
  }
    where
      first : 0 + num_docs_of ss ≡ n
      first = omega (arith, have.num_docs)

      docs_more : (us : List Segment) → num_docs_of (us ++ segment_of words d ∷ []) ≡ num_docs_of us + num_docs_of (segment_of words d ∷ [])
      docs_more [] = omega arith
      docs_more (u ∷ us) = omega (arith, docs_more us)

-- the same contents hold the same index
pub same_holds : (entries : List SchemaEntry) (old new : Files) (n : ℕ) (ts : List IndexToken) → index_contents new ≡ index_contents old → HoldsIndexOf entries old n ts → HoldsIndexOf entries new n ts
same_holds entries old new n ts same h = record {
  segments = h.segments;
  holds = record { contents = h.holds.contents; read = same ∙ h.holds.read; hold = h.holds.hold };
  have = h.have;
}

-- files that hold what an index held hold the same documents
pub left_holds : (entries : List SchemaEntry) (old files : Files) (n : ℕ) (ts : List IndexToken) → HoldsOldOr (index_contents old) old files → HoldsIndexOf entries old n ts → HoldsIndexOf entries files n ts
left_holds entries old files n ts (inl same) h = same_holds entries old files n ts same h
left_holds entries old files n ts (inr same) h = same_holds entries old files n ts same h

-- files with the same bytes are the same
same_files : (old new : Files) → Same old new → new ≡ old
same_files old new same = λ i name. same name i

-- the same files hold the same index
pub same_files_hold : (entries : List SchemaEntry) (old new : Files) (n : ℕ) (ts : List IndexToken) → Same old new → HoldsIndexOf entries old n ts → HoldsIndexOf entries new n ts
same_files_hold entries old new n ts same h = same_holds entries old new n ts (ap index_contents (same_files old new same)) h

-- an index of one segment without documents
pub created : (entries : List SchemaEntry) (words : ℕ → List ℕ → List Word) (d : DocumentsState) (files : Files) (text : List ℕ) (c : SegmentContents) → d.num_docs ≡ 0 → d.calls ≡ [] → index_contents files ≡ Ok (index_of_segment text c) → HoldsSegment entries c (segment_of words d)
    → HoldsIndexOf entries files 0 []
created entries words d files text c none no_calls read holds =
    let have = have_more words d 0 [] [] holds_below (record { num_docs = refl; tokens = refl }) in
    record {
      segments = segment_of words d ∷ [];
      holds = record { contents = index_of_segment text c; read = read; hold = (holds, tt) };
      have = record {
        num_docs = have.num_docs ∙ omega (arith, none);
        tokens = have.tokens ∙ ap (map (after 0)) no_tokens;
      };
    }
  where
    no_tokens : tokens_by words d.calls ≡ []
    no_tokens = ap (tokens_by words) no_calls

    holds_below : AllByRecursion (λ (t : IndexToken). t.doc < d.num_docs) (tokens_by words d.calls)
    holds_below = subst (AllByRecursion (λ (t : IndexToken). t.doc < d.num_docs)) (sym no_tokens) tt

-- merged segments have the same documents
pub merged_holds : (entries : List SchemaEntry) (files : Files) (n : ℕ) (ts : List IndexToken) (ss : List Segment) → HaveTokens n ts ss → HoldsSameIndex entries files ss → HoldsIndexOf entries files n ts
merged_holds entries files n ts ss have h = record {
  segments = h.segments;
  holds = h.holds;
  have = record { num_docs = h.num_docs ∙ have.num_docs; tokens = h.tokens ∙ have.tokens };
}

-- what is read of an index holds its documents
pub index_open_of : (entries : List SchemaEntry) (files : Files) (n : ℕ) (ts : List IndexToken) (s : SearcherState) → OpensIndex entries (index_contents files) s → HoldsIndexOf entries files n ts → SearcherHolds entries s n ts
index_open_of entries files n ts s opens h = record { segments = h.segments; hold = index_open entries files h.segments s opens h.holds; have = h.have; counts = index_counted entries files h.segments s opens h.holds }
