-- Documents that weren't committed, in segments that were written and in memory.
use Rattle.std.proofs.Common.{◌≡◌, ◌∙◌, ℕ, zero, suc, ◌+◌, Bool, true, false, List, [], ◌∷◌, ◌++◌, Option, None, Some, Result, Ok, Err, ap, append-nil, append_assoc, arith, drop, filter, length, map, inl, inr, refl, subst, sym, true≢false}
use Rattle.std.specs.Prelude.{◌<◌, ◌⊎◌, IsSome, Vec, if◌then◌else◌, is_some, nat_lt, not, replicate}
use Rattle.std.specs.Option.{option_map}
use Rattle.std.specs.declared.alloc.Global.{Global}
use Rattle.std.proofs.lemmas.List.{length-append, length-replicate, map-append}
use Rattle.ii_tokenizers.specs.declared.field_tokenizer.FieldTokenizer.{FieldTokenizer}
use Rattle.ii_segment_store.specs.declared.stored_segments.SegmentFiles.{SegmentFiles}
use Rattle.ii_segment_store.specs.Commits.{HoldsOldOr}
use Rattle.std.specs.List.{AllByRecursion, AllZip}
use Rattle.ii_alive.specs.Alive.{num_living}
use Rattle.ii_alive.proofs.RankLemmas.{all_living}
use Rattle.ii_base.specs.Schema.{SchemaEntry}
use Rattle.ii_base.specs.Words.{Word}
use Rattle.ii_base.specs.declared.doc_id.TheConstants.{TERMINATED}
use Rattle.ii_definitions.specs.IndexCalls.{MayBeIndexed, call_of}
use Rattle.ii_definitions.specs.Tokens.{Call, IndexToken}
use Rattle.ii_definitions.specs.declared.index_call.IndexCall.{IndexCall}
use Rattle.ii_directory.specs.Directory.{Files}
use Rattle.ii_documents.specs.JsonLines.{Refusal, line_calls_by, too_long, too_many_documents}
use Rattle.ii_documents.specs.declared.floats.FloatNumbers.TheVariants as floats
use Rattle.ii_documents.proofs.NumberLaws.{all_of_doc, of_doc, renumbered}
use Rattle.ii_index.specs.Index.{AreReadBy, FlushedState}
use Rattle.ii_index.specs.Pending.{ArePending, AreWritten, HoldsFlushed, IsWrittenSegment, document_tokens, tokens_if, with_segments}
use Rattle.ii_index.specs.Segments.{HaveLines, HaveTokens, HoldsIndexOf, after, segment_of, with_tokens}
use Rattle.ii_index.proofs.IndexLemmas.{same_holds, zip_more}
use Rattle.ii_segments.proofs.MergeLaws.{docs_of_both}
use Rattle.ii_segment_store.specs.Changes.{segments_without}
use Rattle.ii_segment_store.specs.Contents.{IndexContents, SegmentContents, all_contents, files_contents, index_contents, list_contents, segment_in, with_segment, all_of}
use Rattle.ii_segment_store.specs.Pending.{FollowsFlags, IsPending}
use Rattle.ii_segments.specs.Segments.{Segment, at_rank, index_tokens, is_living, living_tokens, num_docs_of, tokens_from}
use Rattle.ii_segments.proofs.MergeLaws.{from_append, from_shift}
use Rattle.ii_schema_text.specs.SchemaText.{TextSchemaState}
use Rattle.ii_store.specs.declared.faults.IndexFault.{IndexFault}
use Rattle.ii_store.specs.Index.{◌>>=◌}
use Rattle.ii_store.specs.IndexMeta.{MetaState, SegmentState}
use Rattle.ii_tokenizers.specs.Tokenizers.{analyzed_in}
use Rattle.nequllpa_indexing.specs.Documents.{AddsLine, AddsRecord, DocumentsState, WereCalls, may_be_stored, next_calls, with_document}
use Rattle.nequllpa_indexing.specs.FieldTokens.{tokens_by}
use Rattle.nequllpa_indexing.proofs.LineTokens.{doc_after, doc_with, docs_hold, docs_with}
use Rattle.nequllpa_merging.specs.HeldSegments.{HoldSegments, HoldsSegment}
use Rattle.nequllpa_merging.proofs.OpenLemmas.{all_tokens}

-- ---- lists
pub zip_both : {A B : Type 0} (R : A → B → Type 0) (xs : List A) (ys : List B) (us : List A) (vs : List B) → AllZip R xs ys → AllZip R us vs → AllZip R (xs ++ us) (ys ++ vs)
zip_both R [] [] us vs one two = two
zip_both R [] (y ∷ ys) us vs one two = absurd one
zip_both R (x ∷ xs) [] us vs one two = absurd one
zip_both R (x ∷ xs) (y ∷ ys) us vs one two = (one.0, zip_both R xs ys us vs one.1 two)

pub zip_length : {A B : Type 0} (R : A → B → Type 0) (xs : List A) (ys : List B) → AllZip R xs ys → length ys ≡ length xs
zip_length R [] [] zip = refl
zip_length R [] (y ∷ ys) zip = absurd zip
zip_length R (x ∷ xs) [] zip = absurd zip
zip_length R (x ∷ xs) (y ∷ ys) zip = ap suc (zip_length R xs ys zip.1)

-- documents of the first segments were deleted, and then those of others
pub without_both : (gone more : List (List ℕ)) (cs ds : List SegmentContents) → length gone ≡ length cs → segments_without (gone ++ more) (cs ++ ds) ≡ segments_without gone cs ++ segments_without more ds
without_both [] more [] ds many = refl
without_both [] more (c ∷ cs) ds many = absurd (omega (arith, many))
without_both (docs ∷ gone) more [] ds many = absurd (omega (arith, many))
without_both (docs ∷ gone) more (c ∷ cs) ds many = ap (λ (xs : List SegmentContents). segments_without (docs ∷ []) (c ∷ []) ++ xs) (without_both gone more cs ds (omega (arith, many)))

-- ---- tokens
-- segments have the documents of the first ones, and then those of others
pub have_both : (n k : ℕ) (ts us : List IndexToken) (ss vs : List Segment) → HaveTokens n ts ss → HaveTokens k us vs → HaveTokens (n + k) (with_tokens n ts us) (ss ++ vs)
have_both n k ts us ss vs one two =
    let start : 0 + num_docs_of ss ≡ n + 0 = omega (arith, one.num_docs) in
    record {
      num_docs = omega (arith, docs_of_both ss vs, one.num_docs, two.num_docs);
      tokens = from_append 0 ss vs
          ∙ ap (λ (m : ℕ). index_tokens ss ++ tokens_from m vs) start
          ∙ ap (λ (xs : List IndexToken). index_tokens ss ++ xs) (from_shift n 0 vs)
          ∙ ap (λ (xs : List IndexToken). xs ++ map (after n) (index_tokens vs)) one.tokens
          ∙ ap (λ (xs : List IndexToken). ts ++ map (after n) xs) two.tokens;
    }

-- no document is alive
dead : (doc : ℕ) → is_living [] doc ≡ false
dead zero = refl
dead (suc doc) = refl

none_kept : {A : Type 0} (p : A → Bool) (xs : List A) → ((x : A) → p x ≡ false) → filter p xs ≡ []
none_kept p [] none = refl
none_kept p (x ∷ xs) none = rw (none x) (none_kept p xs none)

no_tokens : (base : ℕ) (ts : List IndexToken) → living_tokens base (record { alive = []; tokens = ts }) ≡ []
no_tokens base ts = ap (map (at_rank base [])) (none_kept (λ (t : IndexToken). is_living [] t.doc) ts (λ t. dead t.doc))

no_tokens_of : (base n : ℕ) (ts : List IndexToken) → n ≡ 0 → living_tokens base (record { alive = replicate n true; tokens = ts }) ≡ []
no_tokens_of base n ts none = ap (λ (m : ℕ). living_tokens base (record { alive = replicate m true; tokens = ts })) none ∙ no_tokens base ts

module _ (words : ℕ → List ℕ → List Word) (d : DocumentsState) (ss : List Segment) (none : d.num_docs ≡ 0) where
  abbrev longer : List Segment
  longer = ss ++ segment_of words d ∷ []

  same_tokens : index_tokens longer ≡ index_tokens ss
  same_tokens =
      from_append 0 ss (segment_of words d ∷ [])
      ∙ ap (λ (xs : List IndexToken). index_tokens ss ++ xs) (append-nil _ ∙ no_tokens_of (0 + num_docs_of ss) d.num_docs (segment_of words d).tokens none)
      ∙ append-nil (index_tokens ss)

  same_docs : num_docs_of longer ≡ num_docs_of ss
  same_docs = omega (arith, docs_of_both ss (segment_of words d ∷ []), all_living d.num_docs, none)

  -- no documents in memory add nothing
  pub without_last : (k : ℕ) (us : List IndexToken) → HaveTokens k us longer → HaveTokens k us ss
  without_last k us have = record { num_docs = sym same_docs ∙ have.num_docs; tokens = sym same_tokens ∙ have.tokens }

  pub with_last : (k : ℕ) (us : List IndexToken) → HaveTokens k us ss → HaveTokens k us longer
  with_last k us have = record { num_docs = same_docs ∙ have.num_docs; tokens = same_tokens ∙ have.tokens }

-- ---- lists of segments
abbrev listed : List ℕ → Result (List SegmentContents) IndexFault → Result IndexContents IndexFault
listed schema r = r >>= λ segments. Ok (record { schema = schema; segments = segments })

listed_all : (schema : List ℕ) (r : Result (List SegmentContents) IndexFault) (c : IndexContents) → listed schema r ≡ Ok c → r ≡ Ok c.segments
listed_all schema (Ok segments) c is = ap (λ (x : Result IndexContents IndexFault). segments_in x) is
  where
    segments_in : Result IndexContents IndexFault → Result (List SegmentContents) IndexFault
    segments_in (Ok x) = Ok x.segments
    segments_in (Err fault) = Err fault
listed_all schema (Err fault) c is = absurd (cc)

-- what all segments of a list hold
pub list_all : (m : MetaState) (files : Files) (c : IndexContents) → list_contents m files ≡ Ok c → all_contents m.segments files ≡ Ok c.segments
unfolding list_contents
list_all m files c is = listed_all m.schema (all_contents m.segments files) c is

-- The first segment of some is read, and the others.
record IsReadFirst (first : Result SegmentContents IndexFault) (others : Result (List SegmentContents) IndexFault) (cs : List SegmentContents) : Type 0 where
  one : SegmentContents
  more : List SegmentContents
  others_are : others ≡ Ok more
  are : cs ≡ one ∷ more

read_first : (first : Result SegmentContents IndexFault) (others : Result (List SegmentContents) IndexFault) (cs : List SegmentContents) → (first >>= λ one. others >>= λ more. Ok (one ∷ more)) ≡ Ok cs → IsReadFirst first others cs
read_first (Ok one) (Ok more) cs is = record { one = one; more = more; others_are = refl; are = sym (cc) }
read_first (Ok one) (Err fault) cs is = absurd (cc)
read_first (Err fault) others cs is = absurd (cc)

all_many : (ss : List SegmentState) (files : Files) (cs : List SegmentContents) → all_contents ss files ≡ Ok cs → length ss ≡ length cs
unfolding all_of
all_many [] files cs is = ap length nothing
  where
    nothing : [] ≡ cs
    nothing = cc
all_many (s ∷ ss) files cs is =
    let read = read_first (segment_in s files) (all_contents ss files) cs is in
    ap suc (all_many ss files read.more read.others_are) ∙ sym (ap length read.are)

all_dropped : (n : ℕ) (ss : List SegmentState) (files : Files) (cs : List SegmentContents) → all_contents ss files ≡ Ok cs → all_contents (drop n ss) files ≡ Ok (drop n cs)
unfolding all_of
all_dropped zero ss files cs is = is
all_dropped (suc n) [] files cs is = ap (λ (x : List SegmentContents). Ok x) nothing
  where
    nothing : [] ≡ drop (suc n) cs
    nothing = cc
all_dropped (suc n) (s ∷ ss) files cs is =
    let read = read_first (segment_in s files) (all_contents ss files) cs is in
    all_dropped n ss files read.more read.others_are ∙ ap (λ (xs : List SegmentContents). Ok (drop (suc n) xs)) (sym read.are)

-- a list has as many segments as the index that it holds
pub list_many : (m : MetaState) (files : Files) (c : IndexContents) → list_contents m files ≡ Ok c → length m.segments ≡ length c.segments
list_many m files c is = all_many m.segments files c.segments (list_all m files c is)

-- ---- segments that were written
no_more : (r : Result IndexContents IndexFault) → r ≡ with_segments [] r
no_more (Ok c) = ap (λ (xs : List SegmentContents). Ok (record { schema = c.schema; segments = xs })) (sym (append-nil c.segments))
no_more (Err fault) = refl

one_more : (c : SegmentContents) (cs : List SegmentContents) (r : Result IndexContents IndexFault) → with_segment c (with_segments cs r) ≡ with_segments (cs ++ c ∷ []) r
one_more c cs (Ok x) = ap (λ (xs : List SegmentContents). Ok (record { schema = x.schema; segments = xs })) (append_assoc x.segments cs (c ∷ []))
one_more c cs (Err fault) = refl

-- the next list of an index has no more segments at first
pub none_flushed : (entries : List SchemaEntry) (files : Files) (x : FlushedState) → IsPending x.list files → FollowsFlags x.list files → x.first ≡ length x.list.segments → x.num_docs ≡ 0 → list_contents x.list files ≡ index_contents files → HoldsFlushed entries files x []
none_flushed entries files x pending follows first none holds = record {
  pending = pending;
  follows = follows;
  first = λ c is. first ∙ list_many x.list files c (holds ∙ is);
  contents = [];
  read = holds ∙ no_more (index_contents files);
  written = tt;
  num_docs = none;
}

-- one more segment was written
pub one_flushed : (entries : List SchemaEntry) (old new : Files) (x y : FlushedState) (ss : List Segment) (c : SegmentContents) (s : Segment) → HoldsFlushed entries old x ss → IsWrittenSegment entries c s → IsPending y.list new → FollowsFlags y.list new → y.first ≡ x.first → y.num_docs ≡ x.num_docs + num_living s.alive
    → list_contents y.list new ≡ with_segment c (list_contents x.list old) → index_contents new ≡ index_contents old → HoldsFlushed entries new y (ss ++ s ∷ [])
one_flushed entries old new x y ss c s h own pending follows first many holds same = record {
  pending = pending;
  follows = follows;
  first = λ contents is. first ∙ h.first contents (sym same ∙ is);
  contents = h.contents ++ c ∷ [];
  read = holds ∙ ap (with_segment c) h.read ∙ one_more c h.contents (index_contents old) ∙ ap (with_segments (h.contents ++ c ∷ [])) (sym same);
  written = zip_more (IsWrittenSegment entries) h.contents ss c s h.written own;
  num_docs = omega (arith, many, h.num_docs, docs_of_both ss (s ∷ []));
}

-- the segments that come after those of the index
pub flushed_contents : (entries : List SchemaEntry) (files : Files) (x : FlushedState) (ss : List Segment) (c : IndexContents) (h : HoldsFlushed entries files x ss) → index_contents files ≡ Ok c → all_contents (drop x.first x.list.segments) files ≡ Ok h.contents
flushed_contents entries files x ss c h is =
    let both = list_all x.list files (record { schema = c.schema; segments = c.segments ++ h.contents }) (h.read ∙ ap (with_segments h.contents) is) in
    all_dropped x.first x.list.segments files (c.segments ++ h.contents) both
    ∙ ap (λ (n : ℕ). Ok (drop n (c.segments ++ h.contents))) (h.first c is)
    ∙ ap (λ (xs : List SegmentContents). Ok xs) (past c.segments)
  where
    past : (cs : List SegmentContents) → drop (length cs) (cs ++ h.contents) ≡ h.contents
    past [] = refl
    past (d ∷ ds) = past ds

-- ---- documents that weren't committed
-- segments that were written are followed by no documents
pub pending_written : (s : TextSchemaState) (files : Files) (x : FlushedState) (d : DocumentsState) (k : ℕ) (us : List IndexToken) → d.num_docs ≡ 0 → AreWritten s.schema files x k us → ArePending s files (Some x) d k us
pending_written s files x d k us none h = record { segments = h.segments; holds = h.flushed; have = with_last (analyzed_in s.tokenizers) d h.segments none k us h.have }

-- ---- a document more
-- the segment of documents has their tokens
own_tokens : (words : ℕ → List ℕ → List Word) (d : DocumentsState) → AllByRecursion (λ (c : Call). c.doc < d.num_docs) d.calls → HaveTokens d.num_docs (tokens_by words d.calls) (segment_of words d ∷ [])
own_tokens words d below =
    let many : length (replicate d.num_docs true) ≡ d.num_docs = length-replicate d.num_docs true in
    let living : num_living (replicate d.num_docs true) ≡ d.num_docs = all_living d.num_docs in
    record {
      num_docs = omega (arith, living);
      tokens = all_tokens (segment_of words d) (living ∙ sym many) (docs_hold words (λ (doc : ℕ). doc < length (replicate d.num_docs true)) d.calls (subst (λ (n : ℕ). AllByRecursion (λ (c : Call). c.doc < n) d.calls) (sym many) below));
    }

fine : List Call → Result (List Call) Refusal
fine cs = Ok cs

abbrev calls_in : Result (List Call) Refusal → List Call
calls_in (Ok cs) = cs
calls_in (Err refusal) = []

module _ (s : TextSchemaState) (d : DocumentsState) (cs : List Call) (line : List ℕ) (lines : Option (List (List ℕ))) (below : AllByRecursion (λ (c : Call). c.doc < d.num_docs) d.calls)
    (are : line_calls_by s.unknown_keys floats.Refuse s.schema d.num_docs line ≡ Ok cs) where
  abbrev words : ℕ → List ℕ → List Word
  words = analyzed_in s.tokenizers

  abbrev own : List Call
  own = map (of_doc d.num_docs) cs

  own_calls : own ≡ cs
  own_calls = ap calls_in (ap (all_of_doc d.num_docs) (sym are) ∙ sym (renumbered floats.Refuse d.num_docs d.num_docs s.unknown_keys s.schema line) ∙ are)

  -- the calls under another number
  tokens_under : (k : ℕ) → document_tokens s k line ≡ tokens_by words (map (of_doc k) cs)
  tokens_under k = ap (tokens_if words) (renumbered floats.Refuse k d.num_docs s.unknown_keys s.schema line ∙ ap (all_of_doc k) are)

  abbrev grown : DocumentsState
  grown = with_document d cs line lines

  all_below : AllByRecursion (λ (c : Call). c.doc < grown.num_docs) grown.calls
  all_below = subst (λ (xs : List Call). AllByRecursion (λ (c : Call). c.doc < d.num_docs + 1) (d.calls ++ xs)) own_calls (docs_with d.num_docs d.calls cs below)

  tokens_of_both : tokens_by words grown.calls ≡ tokens_by words d.calls ++ tokens_by words own
  tokens_of_both = ap (λ (xs : List Call). tokens_by words (d.calls ++ xs)) (sym own_calls) ∙ doc_with words d.num_docs d.calls cs below

  -- after what was pending come the tokens of the document
  pub pending_more : (files : Files) (flushed : Option FlushedState) (k : ℕ) (us : List IndexToken) → ArePending s files flushed d k us → ArePending s files flushed grown (k + 1) (us ++ document_tokens s k line)
  pending_more files flushed k us h = record { segments = h.segments; holds = h.holds; have = record { num_docs = count; tokens = tokens } }
    where
      before : HaveTokens (num_docs_of h.segments + d.num_docs) (with_tokens (num_docs_of h.segments) (index_tokens h.segments) (tokens_by words d.calls)) (h.segments ++ segment_of words d ∷ [])
      before = have_both (num_docs_of h.segments) d.num_docs (index_tokens h.segments) (tokens_by words d.calls) h.segments (segment_of words d ∷ []) (record { num_docs = refl; tokens = refl }) (own_tokens words d below)

      later : HaveTokens (num_docs_of h.segments + grown.num_docs) (with_tokens (num_docs_of h.segments) (index_tokens h.segments) (tokens_by words grown.calls)) (h.segments ++ segment_of words grown ∷ [])
      later = have_both (num_docs_of h.segments) grown.num_docs (index_tokens h.segments) (tokens_by words grown.calls) h.segments (segment_of words grown ∷ []) (record { num_docs = refl; tokens = refl }) (own_tokens words grown all_below)

      many : num_docs_of h.segments + d.num_docs ≡ k
      many = sym before.num_docs ∙ h.have.num_docs

      count : num_docs_of (h.segments ++ segment_of words grown ∷ []) ≡ k + 1
      count = omega (arith, later.num_docs, many)

      tokens : index_tokens (h.segments ++ segment_of words grown ∷ []) ≡ us ++ document_tokens s k line
      tokens =
          later.tokens
          ∙ ap (λ (xs : List IndexToken). index_tokens h.segments ++ map (after (num_docs_of h.segments)) xs) tokens_of_both
          ∙ ap (λ (xs : List IndexToken). index_tokens h.segments ++ xs) (map-append (after (num_docs_of h.segments)) (tokens_by words d.calls) (tokens_by words own))
          ∙ sym (append_assoc (index_tokens h.segments) (map (after (num_docs_of h.segments)) (tokens_by words d.calls)) (map (after (num_docs_of h.segments)) (tokens_by words own)))
          ∙ ap (λ (xs : List IndexToken). xs ++ map (after (num_docs_of h.segments)) (tokens_by words own)) (sym before.tokens ∙ h.have.tokens)
          ∙ ap (λ (xs : List IndexToken). us ++ xs) (doc_after words (num_docs_of h.segments) d.num_docs cs ∙ ap (λ (m : ℕ). tokens_by words (map (of_doc m) cs)) many ∙ sym (tokens_under k))

-- the calls of documents are below their number
pub calls_below : (entries : List SchemaEntry) (n : ℕ) (calls : List Call) → WereCalls entries n calls → AllByRecursion (λ (c : Call). c.doc < n) calls
calls_below entries n calls were = subst (AllByRecursion (λ (c : Call). c.doc < n)) (sym were.are) (each were.made were.may.each)
  where
    each : (made : List IndexCall) → AllByRecursion (MayBeIndexed entries n) made → AllByRecursion (λ (c : Call). c.doc < n) (map (call_of entries) made)
    each [] may = tt
    each (c ∷ made) may = (may.0.below, each made may.1)

-- the calls of a line that was added, as the schema's text says
line_calls : (s : TextSchemaState) (d : DocumentsState) (line : List ℕ) (cs : List Call) → AreReadBy s d → next_calls d line ≡ Ok cs → line_calls_by s.unknown_keys floats.Refuse s.schema d.num_docs line ≡ Ok cs
line_calls s d line cs read is = rw (read.unknown_keys, read.floats, read.schema) at (taken (nat_lt d.num_docs TERMINATED) (may_be_stored d.stored line) (line_calls_by d.unknown_keys d.floats d.schema d.num_docs line) is)
  where
    taken : (fits stored : Bool) (r : Result (List Call) Refusal) → (if fits then (if stored then r else Err too_long) else Err too_many_documents) ≡ Ok cs → r ≡ Ok cs
    taken true true r is = is
    taken true false r is = absurd (cc)
    taken false stored r is = absurd (cc)

-- The text that a line adds is a document, and its tokens are pending.
pub adds_line : (s : TextSchemaState) (d e : DocumentsState) (line : List ℕ) → AreReadBy s d → WereCalls d.schema d.num_docs d.calls → AddsLine d e line
    → (files : Files) (flushed : Option FlushedState) (k : ℕ) (us : List IndexToken) → ArePending s files flushed d k us → ArePending s files flushed e (k + 1) (us ++ document_tokens s k line)
adds_line s d e line read were adds files flushed k us h =
    subst (λ (x : DocumentsState). ArePending s files flushed x (k + 1) (us ++ document_tokens s k line)) (sym adds.4)
    (pending_more s d adds.0 line adds.1 (calls_below d.schema d.num_docs d.calls were) (line_calls s d line adds.0 read adds.2) files flushed k us h)

-- segments that were written hold what they hold
pub written_hold : (entries : List SchemaEntry) (cs : List SegmentContents) (ss : List Segment) → AllZip (IsWrittenSegment entries) cs ss → HoldSegments entries cs ss
written_hold entries [] [] written = tt
written_hold entries [] (s ∷ ss) written = absurd written
written_hold entries (c ∷ cs) [] written = absurd written
written_hold entries (c ∷ cs) (s ∷ ss) written = (written.0.holds, written_hold entries cs ss written.1)

-- the files of a segment of documents that were indexed
some_file : (counts : Option (Vec ℕ Global)) → IsSome counts → IsSome (option_map (λ (v : Vec ℕ Global). v.items) counts)
some_file None some = absurd (true≢false (sym some))
some_file (Some v) some = refl

pub written_segment : (s : TextSchemaState) (es : List SchemaEntry) (by : List FieldTokenizer) (d : DocumentsState) (f : SegmentFiles) → es ≡ s.schema → by ≡ s.tokenizers → IsSome f.counts → HoldsSegment es (files_contents f) (segment_of (analyzed_in by) d)
    → IsWrittenSegment s.schema (files_contents f) (segment_of (analyzed_in s.tokenizers) d)
written_segment s es by d f schema tokenizers counted holds = record {
  holds = subst (λ (xs : List SchemaEntry). HoldsSegment xs (files_contents f) (segment_of (analyzed_in s.tokenizers) d)) schema (subst (λ (b : List FieldTokenizer). HoldsSegment es (files_contents f) (segment_of (analyzed_in b) d)) tokenizers holds);
  counted = some_file f.counts counted;
  alive = ap (λ (m : ℕ). replicate m true) (sym (length-replicate d.num_docs true));
}

-- no segments were written
pub none_written : (x : Option FlushedState) (b : Bool) → is_some x ≡ not b → b ≡ true → x ≡ None
none_written None b is none = refl
none_written (Some x) b is none = absurd (true≢false (is ∙ ap not none))

-- ---- an index with segments that were written
module _ (entries : List SchemaEntry) (n k : ℕ) (ts us : List IndexToken) where
  pub segments_added : (old new : Files) (added : List SegmentContents) (vs : List Segment) → index_contents new ≡ with_segments added (index_contents old) → AllZip (IsWrittenSegment entries) added vs → HaveTokens k us vs → HoldsIndexOf entries old n ts
      → HoldsIndexOf entries new (n + k) (with_tokens n ts us)
  segments_added old new added vs result written have h = record {
    segments = h.segments ++ vs;
    holds = record {
      contents = record { schema = h.holds.contents.schema; segments = h.holds.contents.segments ++ added };
      read = result ∙ ap (with_segments added) h.holds.read;
      hold = zip_both (HoldsSegment entries) h.holds.contents.segments h.segments added vs h.holds.hold (written_hold entries added vs written);
    };
    have = have_both n k ts us h.segments vs h.have have;
  }

  pub segments_or_not : (old new : Files) (added : List SegmentContents) (vs : List Segment) → HoldsOldOr (with_segments added (index_contents old)) old new → AllZip (IsWrittenSegment entries) added vs → HaveTokens k us vs → HoldsIndexOf entries old n ts
      → HoldsIndexOf entries new n ts ⊎ HoldsIndexOf entries new (n + k) (with_tokens n ts us)
  segments_or_not old new added vs (inl same) written have h = inl (same_holds entries old new n ts same h)
  segments_or_not old new added vs (inr result) written have h = inr (segments_added old new added vs result written have h)

  -- no documents were added
  pub nothing_added : (s : TextSchemaState) (files : Files) (d : DocumentsState) → d.num_docs ≡ 0 → ArePending s files None d k us → HoldsIndexOf entries files n ts → HoldsIndexOf entries files (n + k) (with_tokens n ts us)
  nothing_added s files d none pending h =
      let words = analyzed_in s.tokenizers in
      let last = without_last words d pending.segments none k us pending.have in
      let no_segments = subst (HaveTokens k us) pending.holds last in
      record {
        segments = h.segments;
        holds = h.holds;
        have = subst (HaveTokens (n + k) (with_tokens n ts us)) (append-nil h.segments) (have_both n k ts us h.segments [] h.have no_segments);
      }
