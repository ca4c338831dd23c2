-- Terms of a field that are written in order.
use Rattle.std.proofs.Common.{Option, Result, Ok, Err, OnOk, zero, suc, ◌+◌, ◌<◌, arith, append_assoc, take, map, length, Ordering, Less, get_or, ◌≡◌, ℕ, List, [], ◌∷◌, ◌++◌, refl, sym, ap, ◌∙◌, subst}
use Rattle.std.specs.List.{AllByRecursion}
use Rattle.std.specs.List.Sorted.{IsStrictlySortedBy}
use Rattle.std.specs.Cmp.Lexicographic.{slice_cmp}
use Rattle.std.specs.Ordering.{nat_cmp}
use Rattle.std.proofs.lemmas.List.{map-append, take_more}
use Rattle.std.specs.List.{take-map}
use Rattle.std.proofs.Math.Seq.{take-append-add}
use Rattle.ii_termdict.specs.ReadBack.{AreAscending}
use Rattle.ii_base.specs.Schema.{SchemaEntry}
use Rattle.ii_definitions.specs.Fields.{option_of}
use Rattle.ii_postings_writer.specs.declared.sorted_terms.TermOfField.{TermOfField}
use Rattle.ii_base.specs.declared.schema.index_record_option.IndexRecordOption.{IndexRecordOption}
use Rattle.ii_base.specs.Entries.{Entry}
use Rattle.ii_recorder.specs.IndexBodies.{IndexBodiesState}
use Rattle.ii_recorder.specs.IndexSerializer.{IndexSerializerState, IsWriting}
use Rattle.ii_recorder.specs.Pushed.{with_entries}
use Rattle.ii_recorder.specs.Terms.{WrittenTerm}
use Rattle.ii_postings_writer.specs.SortedTerms.{IsTold, IsWritable, state_of, written_term}
use Rattle.ii_fieldnorm.specs.Readers.{Norms}
use Rattle.ii_layout.proofs.BoundLemmas.{all_push}
use Rattle.ii_recorder.proofs.PushLemmas.{writing_pushed}

-- documents that are pushed change nothing of what is written
pub pushed_writing : (option : IndexRecordOption) (es : List Entry) (initial : IndexBodiesState) (s new : IndexSerializerState) (field tokens : ℕ) (norms : Option Norms) (ts : List WrittenTerm) (pending : List (List ℕ))
    → new ≡ with_entries option s es → IsWriting initial s field tokens norms ts pending → IsWriting initial new field tokens norms ts pending
pushed_writing option es initial s new field tokens norms ts pending is w =
    subst (λ (n : IndexSerializerState). IsWriting initial n field tokens norms ts pending) (sym is) (writing_pushed option initial s es field tokens norms ts pending w)

all_taken : {X : Type 0} (P : X → Type 0) (n : ℕ) (xs : List X) → AllByRecursion P xs → AllByRecursion P (take n xs)
all_taken P zero xs all = tt
all_taken P (suc n) [] all = tt
all_taken P (suc n) (x ∷ xs) all = (all.0, all_taken P n xs all.1)

-- the first of keys that ascend
ascend_taken : {K : Type 0} (c : K → K → Ordering) (n : ℕ) (ks : List K) → IsStrictlySortedBy c ks → IsStrictlySortedBy c (take n ks)
unfolding IsStrictlySortedBy
ascend_taken c zero ks sorted = tt
ascend_taken c (suc n) [] sorted = tt
ascend_taken c (suc n) (k ∷ ks) sorted = (all_taken (λ y. c k y ≡ Less) n ks sorted.0, ascend_taken c n ks sorted.1)

-- the key of a borrowed term
abbrev pub key_of : TermOfField → List ℕ
key_of t = (state_of t).key

module _ (norms : Option Norms) (mode : IndexRecordOption) where
  -- terms as they are written
  abbrev pub all_written : List TermOfField → List WrittenTerm
  all_written terms = map (written_term norms mode) (map state_of terms)

  pub written_keys : (terms : List TermOfField) → map (λ (t : WrittenTerm). t.key) (all_written terms) ≡ map key_of terms
  written_keys [] = refl
  written_keys (t ∷ ts) = ap (λ (ks : List (List ℕ)). key_of t ∷ ks) (written_keys ts)

  pub one_more_written : (terms : List TermOfField) (k : ℕ) (d : TermOfField) → k < length terms → all_written (take (k + 1) terms) ≡ all_written (take k terms) ++ written_term norms mode (state_of (get_or terms k d)) ∷ []
  one_more_written terms k d inside =
      ap all_written (take_more terms k d inside)
      ∙ ap (map (written_term norms mode)) (map-append state_of (take k terms) (get_or terms k d ∷ []))
      ∙ map-append (written_term norms mode) (map state_of (take k terms)) (state_of (get_or terms k d) ∷ [])

-- the next key is above the ones before it
pub next_above : (terms : List TermOfField) (k : ℕ) (d : TermOfField) (before keys : List (List ℕ)) → k < length terms → AreAscending (before ++ map key_of terms)
    → keys ≡ before ++ map key_of (take k terms) → AreAscending (keys ++ key_of (get_or terms k d) ∷ [])
next_above terms k d before keys inside ascending known =
    let next : map key_of (take (k + 1) terms) ≡ map key_of (take k terms) ++ key_of (get_or terms k d) ∷ [] = ap (map key_of) (take_more terms k d inside) ∙ map-append key_of (take k terms) (get_or terms k d ∷ []) in
    let all : take (length before + (k + 1)) (before ++ map key_of terms) ≡ keys ++ key_of (get_or terms k d) ∷ [] =
    take-append-add before (map key_of terms) (k + 1)
    ∙ ap (λ (ks : List (List ℕ)). before ++ ks) (take-map key_of (k + 1) terms ∙ next)
    ∙ sym (append_assoc before (map key_of (take k terms)) (key_of (get_or terms k d) ∷ []))
    ∙ ap (λ (ks : List (List ℕ)). ks ++ key_of (get_or terms k d) ∷ []) (sym known) in
    subst AreAscending all (ascend_taken (slice_cmp nat_cmp) (length before + (k + 1)) (before ++ map key_of terms) ascending)

pub writable_at : (norms : Option Norms) (terms : List TermOfField) (k : ℕ) (d : TermOfField) → k < length terms → AllByRecursion (IsWritable norms) (map state_of terms) → IsWritable norms (state_of (get_or terms k d))
writable_at norms [] k d inside all = absurd (omega (arith, inside))
writable_at norms (t ∷ ts) zero d inside all = all.0
writable_at norms (t ∷ ts) (suc k) d inside all = writable_at norms ts k d (omega (arith, inside)) all.1

-- and one more is written as its field records it
pub next_written : (norms : Option Norms) (first entries : List SchemaEntry) (field : ℕ) (terms : List TermOfField) (k : ℕ) (t : TermOfField) → k < length terms → t ≡ get_or terms k t → entries ≡ first
    → all_written norms (option_of first field) (take k terms) ++ written_term norms (option_of entries field) (state_of t) ∷ [] ≡ all_written norms (option_of first field) (take (k + 1) terms)
next_written norms first entries field terms k t inside is same =
    let here : written_term norms (option_of entries field) (state_of t) ≡ written_term norms (option_of first field) (state_of (get_or terms k t)) =
    ap (λ (es : List SchemaEntry). written_term norms (option_of es field) (state_of t)) same ∙ ap (λ (u : TermOfField). written_term norms (option_of first field) (state_of u)) is in
    ap (λ (u : WrittenTerm). all_written norms (option_of first field) (take k terms) ++ u ∷ []) here ∙ sym (one_more_written norms (option_of first field) terms k t inside)

pub one_more_told : (mode : IndexRecordOption) (terms : List TermOfField) (k : ℕ) (t : TermOfField) → k < length terms → t ≡ get_or terms k t → IsTold mode (state_of t) → AllByRecursion (IsTold mode) (map state_of (take k terms))
    → AllByRecursion (IsTold mode) (map state_of (take (k + 1) terms))
one_more_told mode terms k t inside is told all =
    let more : map state_of (take (k + 1) terms) ≡ map state_of (take k terms) ++ state_of t ∷ [] =
    ap (map state_of) (take_more terms k t inside) ∙ map-append state_of (take k terms) (get_or terms k t ∷ []) ∙ ap (λ (u : TermOfField). map state_of (take k terms) ++ state_of u ∷ []) (sym is) in
    subst (AllByRecursion (IsTold mode)) (sym more) (all_push (IsTold mode) (map state_of (take k terms)) (state_of t) all told)

pub always_on_ok : {X E : Type 0} (r : Result X E) (P : Type 0) → P → OnOk r P
always_on_ok (Ok x) P p = p
always_on_ok (Err e) P p = tt
