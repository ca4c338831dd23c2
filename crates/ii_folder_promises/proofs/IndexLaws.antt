-- How many documents the segments of an index have.
use Rattle.std.proofs.Common.{◌≡◌, ◌∙◌, ◌+◌, ◌≤◌, ℕ, Bool, true, false, List, [], ◌∷◌, Option, None, Some, IfSome, arith, ap, not, refl, subst, sym}
use Rattle.ii_alive.specs.Alive.{num_living}
use Rattle.ii_directory.specs.Directory.{Files}
use Rattle.ii_base.specs.Schema.{SchemaEntry}
use Rattle.ii_base.specs.Terms.{TermState}
use Rattle.ii_definitions.specs.Tokens.{IndexToken}
use Rattle.ii_index.specs.Deletes.{DeleteState, committed, is_deleted}
use Rattle.ii_index.specs.Ranking.{SearcherHolds}
use Rattle.ii_index.specs.Searching.{SearcherState}
use Rattle.ii_index.specs.Index.{FlushedState, IndexWriterState}
use Rattle.ii_index.specs.Pending.{HasPending, HoldsFlushedIf}
use Rattle.ii_index.specs.Segments.{HaveTokens, HoldsIndexOf, no_documents, segment_of, with_tokens}
use Rattle.ii_schema_text.specs.SchemaText.{TextSchemaState}
use Rattle.ii_segment_store.specs.Contents.{index_contents}
use Rattle.ii_tokenizers.specs.Tokenizers.{analyzed_in}
use Rattle.ii_segment_search.specs.Searcher.{OpenSegmentState, SegmentsHold, total_living}
use Rattle.ii_segments.specs.Segments.{Segment, num_docs_of}
use Rattle.nequllpa_indexing.specs.Documents.{DocumentsState}
use Rattle.ii_index.proofs.HeldLemmas.{same_living}

-- open segments have as many documents as the index that they hold
pub all_counted : (entries : List SchemaEntry) (s : SearcherState) (n : ℕ) (ts : List IndexToken) → SearcherHolds entries s n ts → total_living s.segments ≡ n
all_counted entries s n ts h = omega (arith, same_living entries s.segments h.segments h.hold, h.have.num_docs)

-- a number is 1 or 2
pub record IsOneOrTwo (n : ℕ) : Type 0 where
  pub least : 1 ≤ n
  pub most : n ≤ 2

one_or_two : (b : Bool) → IsOneOrTwo (num_living (b ∷ true ∷ []) + 0)
one_or_two true = record { least = omega arith; most = omega arith }
one_or_two false = record { least = omega arith; most = omega arith }

-- of two documents, between which a term is deleted, the second is left
pub second_left : (deletes : List DeleteState) (term : TermState) (us : List IndexToken) → deletes ≡ (record { term = term; num_pending = 1 }) ∷ [] → IsOneOrTwo (num_docs_of (committed deletes 0 [] 2 us ∷ []))
second_left deletes term us is =
    let delete : DeleteState = record { term = term; num_pending = 1 } in
    subst (λ (ds : List DeleteState). IsOneOrTwo (num_docs_of (committed ds 0 [] 2 us ∷ []))) (sym is) (one_or_two (not (is_deleted (delete ∷ []) 0 (with_tokens 0 [] us) 0)))

-- a writer without documents that weren't committed
pub nothing_pending : {D : Type 0} (files : Files) (w : IndexWriterState D) → w.flushed ≡ None → w.documents ≡ no_documents w.index.schema → HasPending files w 0 []
nothing_pending files w none empty = record {
  segments = [];
  holds = subst (λ (x : Option FlushedState). HoldsFlushedIf w.index.schema.schema files x []) (sym none) refl;
  have = subst (λ (d : DocumentsState). HaveTokens 0 [] (segment_of (analyzed_in w.index.schema.tokenizers) d ∷ [])) (sym empty) (record { num_docs = refl; tokens = refl });
}

-- if there is a value of which something holds with these tokens, it holds with some tokens
pub some_tokens : {A : Type 0} (P : A → List IndexToken → Type 0) (r : Option A) (us : List IndexToken) → IfSome r (λ (a : A). P a us) → IfSome r (λ (a : A). (vs : List IndexToken) × P a vs)
some_tokens P None us holds = tt
some_tokens P (Some a) us holds = (us, holds)

-- the same contents hold the same index
pub index_kept : (s t : TextSchemaState) (old new : Files) (n : ℕ) (ts : List IndexToken) → t ≡ s → index_contents new ≡ index_contents old → HoldsIndexOf s.schema old n ts → HoldsIndexOf t.schema new n ts
index_kept s t old new n ts schema same h =
    subst (λ (x : TextSchemaState). HoldsIndexOf x.schema new n ts) (sym schema)
    (record {
      segments = h.segments;
      holds = record { contents = h.holds.contents; read = same ∙ h.holds.read; hold = h.holds.hold };
      have = h.have;
    })
