-- Why the terms of a context can't be written.
use Rattle.std.proofs.Common.{◌≡◌, ℕ, zero, suc, ◌+◌, ◌<◌, ◌⊎◌, inl, inr, List, [], ◌∷◌, length, map, add-one, zero-add, nat_eq, true, eq-eqb, refl, sym, ap, ◌∙◌, subst, arith}
use Rattle.std.specs.Prelude.{slice_index_or}
use Rattle.std.specs.List.{AllByRecursion, range_with_len}
use Rattle.std.proofs.lemmas.List.FromFn.{get_or-map-range_with_len, length-map-range_with_len}
use Rattle.ii_io.specs.declared.faults.Fault.{Fault}
use Rattle.ii_io.specs.declared.faults.Fault.TheVariants.{OutOfMemory, SerializerClosed}
use Rattle.ii_base.specs.Schema.{SchemaEntry}
use Rattle.ii_recorder.specs.IndexSerializer.{IndexSerializerState}
use Rattle.ii_recorder.specs.Recorded.{RecorderState}
use Rattle.ii_postings_writer.specs.FieldParts.{first_parts}
use Rattle.ii_postings_writer.specs.IndexingContext.{TermIndex}
use Rattle.ii_postings_writer.specs.IndexingTerm.{field_in}
use Rattle.ii_postings_writer.specs.PostingsWriter.{PostingsWriterState}
use Rattle.ii_postings_writer.specs.SortedTerms.{SortedTerm, terms_in}
use Rattle.ii_postings_writer.specs.WriteFaults.{IsContextFault, IsPartsFault}
use Rattle.ii_postings_writer.proofs.FaultLemmas.{all_some, no_part}
use Rattle.ii_postings_writer.proofs.PartLemmas.{AreLists}
use Rattle.ii_postings_writer.proofs.SortedLemmas.{found_first}
use Rattle.ii_io.specs.Composite.{Body}

pub context_fault : (old : IndexSerializerState) (writers : List PostingsWriterState) (readers : List Body) (terms sorted : TermIndex) (lists : List (List SortedTerm)) (e : Fault) → AreLists (length old.entries) terms sorted lists
    → (e ≡ SerializerClosed) ⊎ IsPartsFault old.entries old.bodies (first_parts old.entries writers readers lists (length lists)) e → (e ≡ OutOfMemory) ⊎ (e ≡ SerializerClosed) ⊎ IsContextFault old writers readers terms e
context_fault old writers readers terms sorted lists e h (inl closed) = inr (inl closed)
context_fault old writers readers terms sorted lists e h (inr fault) =
    let n = length old.entries in
    let many : length lists ≡ n = ap length h.are ∙ length-map-range_with_len (λ (field : ℕ). terms_in field sorted) 0 n in
    let counted = subst (λ (m : ℕ). IsPartsFault old.entries old.bodies (first_parts old.entries writers readers lists m) e) many fault in
    inr (inr (record {
      sorted = sorted;
      same = h.same;
      ascending = h.ascending;
      whole = h.whole;
      cause = subst (λ (ls : List (List SortedTerm)). IsPartsFault old.entries old.bodies (first_parts old.entries writers readers ls n) e) h.are counted;
    }))

none_at : (first k i : ℕ) → slice_index_or (map (λ (field : ℕ). terms_in field []) (range_with_len first k)) i [] ≡ []
none_at first zero i = refl
none_at first (suc k) zero = refl
none_at first (suc k) (suc i) = none_at (first + 1) k i

no_parts : (entries : List SchemaEntry) (writers : List PostingsWriterState) (readers : List Body) (lists : List (List SortedTerm)) → ((i : ℕ) → slice_index_or lists i [] ≡ []) → (m : ℕ) → first_parts entries writers readers lists m ≡ []
no_parts entries writers readers lists none zero = refl
no_parts entries writers readers lists none (suc m) =
    subst (λ (k : ℕ). first_parts entries writers readers lists k ≡ []) (add-one m) (no_part entries writers readers lists m (slice_index_or lists m []) refl (none m) (no_parts entries writers readers lists none m))

-- a context without terms has no parts
pub some_terms : (entries : List SchemaEntry) (writers : List PostingsWriterState) (readers : List Body) (n : ℕ) (terms sorted : TermIndex) (lists : List (List SortedTerm)) → AreLists n terms sorted lists → 0 < length (first_parts entries writers readers lists (length lists)) → 0 < length terms
some_terms entries writers readers n (t ∷ ts) sorted lists h some = omega (arith)
some_terms entries writers readers n [] (u ∷ us) lists h some = let found = sym (found_first u us) ∙ h.same u.0 in absurd (cc)
some_terms entries writers readers n [] [] lists h some =
    let none = no_parts entries writers readers lists (λ i. ap (λ (ls : List (List SortedTerm)). slice_index_or ls i []) h.are ∙ none_at 0 n i) (length lists) in
    absurd (omega (arith, some, ap length none))

-- and one with terms has some
pub no_terms : (entries : List SchemaEntry) (writers : List PostingsWriterState) (readers : List Body) (n : ℕ) (terms sorted : TermIndex) (lists : List (List SortedTerm)) → AreLists n terms sorted lists → AllByRecursion (λ (t : List ℕ × RecorderState). field_in t.0 < n) sorted
    → first_parts entries writers readers lists (length lists) ≡ [] → terms ≡ []
no_terms entries writers readers n [] sorted lists h known none = refl
no_terms entries writers readers n (t ∷ ts) [] lists h known none = let found = h.same t.0 ∙ found_first t ts in absurd (cc)
no_terms entries writers readers n (t ∷ ts) (u ∷ us) lists h known none =
    let field = field_in u.0 in
    let own : nat_eq field field ≡ true = eq-eqb field field refl in
    let some : 0 < length (terms_in field (u ∷ us)) = rw own (omega (arith)) in
    let many : length lists ≡ n = ap length h.are ∙ length-map-range_with_len (λ (f : ℕ). terms_in f (u ∷ us)) 0 n in
    let at : slice_index_or lists field [] ≡ terms_in field (u ∷ us) =
    ap (λ (ls : List (List SortedTerm)). slice_index_or ls field []) h.are ∙ get_or-map-range_with_len (λ (f : ℕ). terms_in f (u ∷ us)) 0 n field field [] known.0 (zero-add field) in
    let parts = all_some entries entries writers readers lists field field (terms_in field (u ∷ us)) (record { schema = refl; number = refl; at = sym at; some = some; low = omega (arith, many, known.0) }) in
    absurd (omega (arith, parts, ap length none))
