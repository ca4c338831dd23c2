-- Fields that are written in order.
use Rattle.std.proofs.Common.{Option, nat_eq, append-nil, zero-add, Result, Ok, Err, OnOk, ◌≡◌, ℕ, zero, suc, ◌+◌, ◌-◌, ◌≤◌, ◌<◌, false, List, [], ◌∷◌, ◌++◌, length, map, refl, sym, ap, ◌∙◌, subst, arith, Some}
use Rattle.std.specs.Prelude.{◌^◌, slice_get, slice_index_or}
use Rattle.std.specs.List.{AllByRecursion, flat_map, range_with_len}
use Rattle.std.proofs.lemmas.Bool.{ne_eqb}
use Rattle.std.proofs.lemmas.Grind.{flat_map-append}
use Rattle.std.proofs.lemmas.List.{length-map, map-append}
use Rattle.ii_termstore.proofs.ListLemmas.{range_more}
use Rattle.ii_io.specs.Composite.{Body}
use Rattle.ii_io.specs.CompositeWrite.{CompositeWriteState, HasBodies, has_start, starts_from}
use Rattle.ii_io.proofs.CompositeSteps.{HasBodies-more}
use Rattle.ii_io.specs.CountingWriter.{CountingWriterState}
use Rattle.ii_base.specs.Schema.{SchemaEntry}
use Rattle.ii_definitions.specs.Fields.{option_of}
use Rattle.ii_recorder.specs.IndexBodies.{AddsBodies, IndexBodiesState, LacksField}
use Rattle.ii_postings_writer.specs.FieldParts.{FieldPart, HasFields, HoldsPart, WroteContext, WroteTerms, bodies_of, first_parts, parts_of, positions_of_part, postings_body, terms_body, tokens_in, written_terms}
use Rattle.std.proofs.lemmas.List.FromFn.{length-map-range_with_len}
use Rattle.ii_termdict.specs.ReadBack.{AreAscending}
use Rattle.ii_recorder.specs.IndexSerializer.{IndexSerializerState}
use Rattle.ii_recorder.specs.Recorded.{RecorderState}
use Rattle.ii_postings_writer.specs.IndexingContext.{TermIndex, recorder_of}
use Rattle.ii_postings_writer.specs.IndexingTerm.{AreTermBytes}
use Rattle.ii_postings_writer.specs.PostingsWriter.{PostingsWriterState}
use Rattle.ii_postings_writer.specs.TermLimits.{AreWithin}
use Rattle.ii_postings_writer.specs.SortedTerms.{norms_in, IsTold, SortedTerm, state_of, terms_in}
use Rattle.ii_recorder.specs.HeldTerms.{HoldsTerms}
use Rattle.ii_postings_writer.specs.declared.sorted_terms.TermOfField.{TermOfField}
use Rattle.ii_io.proofs.CompositeStartLemmas.{length-starts_from}
use Rattle.ii_fieldnorm.specs.Readers.{Norms}
use Rattle.ii_layout.proofs.BoundLemmas.{all_push}

pushed_body : (body : FieldPart → Body) (initial : CountingWriterState) (c : CompositeWriteState) (fs : List FieldPart) (p : FieldPart) → HasBodies initial c (map body fs ++ body p ∷ []) → HasBodies initial c (map body (fs ++ p ∷ []))
pushed_body body initial c fs p has = subst (HasBodies initial c) (sym (map-append body fs (p ∷ []))) has

-- one more field was written
pub part_added : (entries : List SchemaEntry) (initial old new : IndexBodiesState) (fs : List FieldPart) (p : FieldPart) → HasFields entries initial old fs → AddsBodies old new p.field (bodies_of entries p) → HoldsPart entries p
    → HasFields entries initial new (fs ++ p ∷ [])
part_added entries initial old new fs p has adds holds = record {
  terms = pushed_body (terms_body entries) initial.terms.writer new.terms fs p (HasBodies-more initial.terms.writer old.terms new.terms (map (terms_body entries) fs) p.field (bodies_of entries p).terms has.terms adds.terms);
  postings = pushed_body (postings_body entries) initial.postings.writer new.postings fs p (HasBodies-more initial.postings.writer old.postings new.postings (map (postings_body entries) fs) p.field (bodies_of entries p).postings has.postings adds.postings);
  positions = pushed_body (positions_of_part entries) initial.positions.writer new.positions fs p (HasBodies-more initial.positions.writer old.positions new.positions (map (positions_of_part entries) fs) p.field (bodies_of entries p).positions has.positions adds.positions);
  held = all_push (HoldsPart entries) fs p has.held holds;
}

-- the part of a field that has terms
abbrev pub part_of : List SchemaEntry → ℕ → ℕ → Option Norms → List SortedTerm → FieldPart
part_of entries field tokens norms terms = record { field = field; tokens = tokens; norms = norms; terms = terms }

pub some_part : (entries : List SchemaEntry) (field tokens : ℕ) (norms : Option Norms) (terms : List SortedTerm) → 0 < length terms → parts_of entries field tokens norms terms ≡ part_of entries field tokens norms terms ∷ []
some_part entries field tokens norms [] some = absurd (omega (arith, some))
some_part entries field tokens norms (t ∷ ts) some = refl

pub keys_seen : (terms : List TermOfField) → map (λ (t : SortedTerm). t.key) (map state_of terms) ≡ map (λ (t : TermOfField). (state_of t).key) terms
keys_seen [] = refl
keys_seen (t ∷ ts) = ap (λ (ks : List (List ℕ)). (state_of t).key ∷ ks) (keys_seen ts)

pub tokens_of_writer : (writers : List PostingsWriterState) (field : ℕ) (w : PostingsWriterState) → slice_get writers field ≡ Some w → w.total_num_tokens ≡ tokens_in writers field
tokens_of_writer writers field w is = rw is refl

-- how a call ends that writes a field with terms
pub part_wrote : {A E : Type 0} (result : Result A E) (entries : List SchemaEntry) (initial old new : IndexBodiesState) (fs : List FieldPart) (p : FieldPart) → HasFields entries initial old fs → 0 < length p.terms
    → OnOk result (AddsBodies old new p.field (bodies_of entries p)) → OnOk result (HoldsTerms (option_of entries p.field) p.tokens (bodies_of entries p) (written_terms entries p)) → OnOk result (AllByRecursion (IsTold (option_of entries p.field)) p.terms)
    → OnOk result (AreWithin (option_of entries p.field) (written_terms entries p)) → OnOk result (HasFields entries initial new (fs ++ parts_of entries p.field p.tokens p.norms p.terms))
part_wrote (Ok x) entries initial old new fs p has some adds holds told within = rw (some_part entries p.field p.tokens p.norms p.terms some) (part_added entries initial old new fs p has adds (record { terms = holds; told = told; within = within }))
part_wrote (Err e) entries initial old new fs p has some adds holds told within = tt

pub some_seen : (terms : List TermOfField) → 0 < length terms → 0 < length (map state_of terms)
some_seen terms some = omega (arith, some, length-map terms state_of)

-- a field above all that have bodies has none
no_start : (body : FieldPart → Body) → ((p : FieldPart) → (body p).field ≡ p.field) → (n start : ℕ) (fs : List FieldPart) → AllByRecursion (λ (p : FieldPart). p.field < n) fs → has_start n (starts_from start (map body fs)) ≡ false
no_start body same n start [] below = refl
no_start body same n start (p ∷ ps) below =
    let other : nat_eq (body p).field n ≡ false = ne_eqb (body p).field n (λ is. absurd (omega (arith, is, same p, below.0))) in
    rw other (no_start body same n (start + length (body p).bytes) ps below.1)

few_starts : (body : FieldPart → Body) (n : ℕ) (fs : List FieldPart) → length fs ≤ n → n < 2 ^ 32 - 1 → length (starts_from 0 (map body fs)) < 2 ^ 32 - 1
few_starts body n fs few low = omega (arith, length-starts_from 0 (map body fs), length-map fs body, few, low)

module _ (entries : List SchemaEntry) (writers : List PostingsWriterState) (readers : List Body) (terms : List (List SortedTerm)) where
  abbrev parts_at : ℕ → List FieldPart
  parts_at field = parts_of entries field (tokens_in writers field) (norms_in readers field) (slice_index_or terms field [])

  pub one_more_part : (n : ℕ) → first_parts entries writers readers terms (n + 1) ≡ first_parts entries writers readers terms n ++ parts_at n
  one_more_part n =
      ap (flat_map parts_at) (range_more 0 n ∙ ap (λ (k : ℕ). range_with_len 0 n ++ k ∷ []) (zero-add n))
      ∙ flat_map-append parts_at (range_with_len 0 n) (n ∷ [])
      ∙ ap (λ (ps : List FieldPart). first_parts entries writers readers terms n ++ ps) (append-nil (parts_at n))

  below_here : (field n : ℕ) (ts : List SortedTerm) (rest : List FieldPart) → field < n → AllByRecursion (λ (p : FieldPart). p.field < n) rest → AllByRecursion (λ (p : FieldPart). p.field < n) (parts_of entries field (tokens_in writers field) (norms_in readers field) ts ++ rest)
  below_here field n [] rest low all = all
  below_here field n (t ∷ ts) rest low all = (low, all)

  below_from : (first k n : ℕ) → first + k ≤ n → AllByRecursion (λ (p : FieldPart). p.field < n) (flat_map parts_at (range_with_len first k))
  below_from first zero n low = tt
  below_from first (suc k) n low = below_here first n (slice_index_or terms first []) (flat_map parts_at (range_with_len (first + 1) k)) (omega (arith, low)) (below_from (first + 1) k n (omega (arith, low)))

  few_here : (field k : ℕ) (ts : List SortedTerm) (rest : List FieldPart) → length rest ≤ k → length (parts_of entries field (tokens_in writers field) (norms_in readers field) ts ++ rest) ≤ suc k
  few_here field k [] rest few = omega (arith, few)
  few_here field k (t ∷ ts) rest few = omega (arith, few)

  few_from : (first k : ℕ) → length (flat_map parts_at (range_with_len first k)) ≤ k
  few_from first zero = omega (arith)
  few_from first (suc k) = few_here first k (slice_index_or terms first []) (flat_map parts_at (range_with_len (first + 1) k)) (few_from (first + 1) k)

  -- the body of the next field may begin
  pub lacks_next : (n : ℕ) (initial now : IndexBodiesState) → n < 2 ^ 32 - 1 → HasFields entries initial now (first_parts entries writers readers terms n) → LacksField n now
  lacks_next n initial now low has =
      let below = below_from 0 n n (omega (arith)) in
      let few = few_from 0 n in
      record {
        terms = rw has.terms.starts (no_start (terms_body entries) (λ p. refl) n 0 (first_parts entries writers readers terms n) below);
        postings = rw has.postings.starts (no_start (postings_body entries) (λ p. refl) n 0 (first_parts entries writers readers terms n) below);
        positions = rw has.positions.starts (no_start (positions_of_part entries) (λ p. refl) n 0 (first_parts entries writers readers terms n) below);
        few_terms = rw has.terms.starts (few_starts (terms_body entries) n (first_parts entries writers readers terms n) few low);
        few_postings = rw has.postings.starts (few_starts (postings_body entries) n (first_parts entries writers readers terms n) few low);
        few_positions = rw has.positions.starts (few_starts (positions_of_part entries) n (first_parts entries writers readers terms n) few low);
      }

-- what was written of the first fields and of the next one
pub next_part : (first entries : List SchemaEntry) (writers : List PostingsWriterState) (readers : List Body) (terms : List (List SortedTerm)) (n field : ℕ) (ts : List SortedTerm) (initial new : IndexBodiesState)
    → entries ≡ first → field ≡ n → ts ≡ slice_index_or terms n []
    → HasFields entries initial new (first_parts first writers readers terms n ++ parts_of entries field (tokens_in writers field) (norms_in readers field) ts) → HasFields first initial new (first_parts first writers readers terms (n + 1))
next_part first entries writers readers terms n field ts initial new same is at has =
    let fs = first_parts first writers readers terms n in
    let by_schema = subst (λ (e : List SchemaEntry). HasFields e initial new (fs ++ parts_of e field (tokens_in writers field) (norms_in readers field) ts)) same has in
    let by_field = subst (λ (f : ℕ). HasFields first initial new (fs ++ parts_of first f (tokens_in writers f) (norms_in readers f) ts)) is by_schema in
    let by_terms = subst (λ (us : List SortedTerm). HasFields first initial new (fs ++ parts_of first n (tokens_in writers n) (norms_in readers n) us)) at by_field in
    subst (HasFields first initial new) (sym (one_more_part first writers readers terms n)) by_terms

-- The lists of the terms of the first `n` fields, of a context whose terms were sorted.
pub record AreLists (n : ℕ) (terms sorted : TermIndex) (lists : List (List SortedTerm)) : Type 0 where
  pub same : (bytes : List ℕ) → recorder_of sorted bytes ≡ recorder_of terms bytes
  pub ascending : AreAscending (map (λ (t : List ℕ × RecorderState). t.0) sorted)
  pub whole : AllByRecursion AreTermBytes (map (λ (t : List ℕ × RecorderState). t.0) sorted)
  pub are : lists ≡ map (λ (field : ℕ). terms_in field sorted) (range_with_len 0 n)

-- how a call ends that writes them
pub wrote_terms : {A E : Type 0} (result : Result A E) (old new : IndexSerializerState) (writers : List PostingsWriterState) (readers : List Body) (terms sorted : TermIndex) (lists : List (List SortedTerm)) → AreLists (length old.entries) terms sorted lists
    → OnOk result (HasFields old.entries old.bodies new.bodies (first_parts old.entries writers readers lists (length lists))) → OnOk result (WroteTerms old new writers readers terms sorted)
wrote_terms (Ok x) old new writers readers terms sorted lists h has =
    let count : length lists ≡ length old.entries = ap length h.are ∙ length-map-range_with_len (λ (field : ℕ). terms_in field sorted) 0 (length old.entries) in
    record {
      same = h.same;
      ascending = h.ascending;
      whole = h.whole;
      fields = subst (λ (ls : List (List SortedTerm)). HasFields old.entries old.bodies new.bodies (first_parts old.entries writers readers ls (length old.entries))) h.are
          (subst (λ (m : ℕ). HasFields old.entries old.bodies new.bodies (first_parts old.entries writers readers lists m)) count has);
    }
wrote_terms (Err e) old new writers readers terms sorted lists h has = tt

pub wrote_context : {A E : Type 0} (result : Result A E) (old new : IndexSerializerState) (writers : List PostingsWriterState) (readers : List Body) (terms sorted : TermIndex) → OnOk result (WroteTerms old new writers readers terms sorted) → OnOk result (WroteContext old new writers readers terms)
wrote_context (Ok x) old new writers readers terms sorted wrote = record { sorted = sorted; wrote = wrote }
wrote_context (Err e) old new writers readers terms sorted wrote = tt
