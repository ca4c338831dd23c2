-- What an indexer has taken of a list of calls.
use Rattle.std.proofs.Common.{inl, inr, ◌≡◌, ℕ, suc, ◌≤◌, false, List, [], ◌∷◌, ◌++◌, map, length, Option, Some, None, refl, sym, ap, ◌∙◌, subst, arith, append_assoc, append-nil, ⊎_elim}
use Rattle.std.specs.Prelude.{◌⊎◌, ⊤, slice_index_or}
use Rattle.std.specs.List.{AllByRecursion}
use Rattle.std.specs.List.Sorted.{IsNonDecreasingBy}
use Rattle.std.proofs.lemmas.List.{map-append}
use Rattle.ii_io.specs.declared.faults.Fault.{Fault}
use Rattle.ii_io.specs.declared.faults.Fault.TheVariants.{OutOfMemory}
use Rattle.ii_base.specs.Schema.{SchemaEntry}
use Rattle.ii_base.specs.Words.{Word}
use Rattle.ii_definitions.specs.Fields.{option_of}
use Rattle.ii_definitions.specs.Tokens.{Call, call_pieces, pieces_of}
use Rattle.ii_definitions.specs.IndexCalls.{MayAllBeIndexed, MayBeIndexed, call_of, doc_of, field_of}
use Rattle.ii_indexing.specs.Indexer.{IndexerState, Stores}
use Rattle.ii_indexing.specs.Refusals.{call_fault, calls_fault}
use Rattle.ii_json.specs.LeafVisit.{first_fault}
use Rattle.ii_indexing.proofs.CallLaws.{pieces_with}
use Rattle.ii_definitions.specs.declared.index_call.IndexCall.{IndexCall}

-- No document lies below the one before, or below a least one.
abbrev pub FollowFrom : ℕ → List IndexCall → Type 0
FollowFrom least [] = ⊤
FollowFrom least (c ∷ cs) = (least ≤ doc_of c) × FollowFrom (doc_of c) cs

rest_ordered : (c : IndexCall) (cs : List IndexCall) → IsNonDecreasingBy doc_of (c ∷ cs) → IsNonDecreasingBy doc_of cs
rest_ordered c cs h i j d low inside = h (suc i) (suc j) d (omega (arith, low)) (omega (arith, inside))

follow : (least : ℕ) (cs : List IndexCall) → ((c : IndexCall) (rest : List IndexCall) → cs ≡ c ∷ rest → least ≤ doc_of c) → IsNonDecreasingBy doc_of cs → FollowFrom least cs
follow least [] first h = tt
follow least (c ∷ cs) first h = (first c cs refl, follow (doc_of c) cs next (rest_ordered c cs h))
  where
    next : (d : IndexCall) (rest : List IndexCall) → cs ≡ d ∷ rest → doc_of c ≤ doc_of d
    next d rest is = subst (λ (xs : List IndexCall). doc_of c ≤ doc_of (slice_index_or xs 0 c)) is (h 0 1 c (omega arith) (omega (arith, ap length is)))

-- An indexer has taken some calls of a list, and these are left.
pub record IsTaking (analyze : List ℕ → List Word) (entries : List SchemaEntry) (num_docs : ℕ) (all done rest : List IndexCall) (i : IndexerState) : Type 0 where
  pub running : i.failed ≡ false
  pub schema : i.schema ≡ entries
  pub docs : i.num_docs ≡ num_docs
  pub whole : done ++ rest ≡ all
  pub stored : Stores i (pieces_of analyze (map (call_of entries) done))
  pub each : AllByRecursion (MayBeIndexed entries num_docs) rest
  pub ordered : FollowFrom i.last_doc rest
  pub faults : calls_fault analyze (option_of entries) [] (map (call_of entries) all) ≡ calls_fault analyze (option_of entries) (map (call_of entries) done) (map (call_of entries) rest)

-- What a new one knows.
pub record IsNew (entries : List SchemaEntry) (num_docs : ℕ) (i : IndexerState) : Type 0 where
  pub made : (i.schema ≡ entries) × (i.num_docs ≡ num_docs) × (i.last_doc ≡ 0) × (i.failed ≡ false)

pub begins : (analyze : List ℕ → List Word) (entries : List SchemaEntry) (num_docs : ℕ) (all : List IndexCall) (i : IndexerState) → IsNew entries num_docs i → Stores i [] → MayAllBeIndexed entries num_docs all
    → IsTaking analyze entries num_docs all [] all i
begins analyze entries num_docs all i new stored may = record {
  running = new.made.3;
  schema = new.made.0;
  docs = new.made.1;
  whole = refl;
  stored = stored;
  each = may.each;
  ordered = follow i.last_doc all (λ c rest is. omega (arith, new.made.2)) may.ordered;
  faults = refl;
}

module _ (analyze : List ℕ → List Word) (entries : List SchemaEntry) (num_docs : ℕ) (all done rest : List IndexCall) (c : IndexCall) (old : IndexerState) (t : IsTaking analyze entries num_docs all done (c ∷ rest) old) where
  abbrev cause : Option Fault
  cause = call_fault analyze (option_of old.schema (field_of c)) (pieces_of analyze (map (call_of entries) done)) (call_of old.schema c)

  abbrev later : Option Fault
  later = calls_fault analyze (option_of entries) (map (call_of entries) done ++ call_of entries c ∷ []) (map (call_of entries) rest)

  faults_are : calls_fault analyze (option_of entries) [] (map (call_of entries) all) ≡ first_fault cause later
  faults_are = t.faults ∙ ap (λ (es : List SchemaEntry). first_fault (call_fault analyze (option_of es (field_of c)) (pieces_of analyze (map (call_of entries) done)) (call_of es c)) later) (sym t.schema)

  -- the call was taken
  pub takes_more : (new : IndexerState) → (new.schema ≡ old.schema) × (new.num_docs ≡ old.num_docs) × (new.last_doc ≡ doc_of c) × (new.failed ≡ false) → Stores new (pieces_of analyze (map (call_of entries) done) ++ call_pieces analyze (call_of old.schema c)) → cause ≡ None
      → IsTaking analyze entries num_docs all (done ++ c ∷ []) rest new
  takes_more new keeps stored none =
      let more : map (call_of entries) (done ++ c ∷ []) ≡ map (call_of entries) done ++ call_of entries c ∷ [] = map-append (call_of entries) done (c ∷ []) in
      record {
        running = keeps.3;
        schema = keeps.0 ∙ t.schema;
        docs = keeps.1 ∙ t.docs;
        whole = append_assoc done (c ∷ []) rest ∙ t.whole;
        stored = subst (λ (cs : List Call). Stores new (pieces_of analyze cs)) (sym more)
            (subst (Stores new) (sym (pieces_with analyze (map (call_of entries) done) (call_of entries c)))
            (subst (λ (es : List SchemaEntry). Stores new (pieces_of analyze (map (call_of entries) done) ++ call_pieces analyze (call_of es c))) t.schema stored));
        each = t.each.1;
        ordered = subst (λ (doc : ℕ). FollowFrom doc rest) (sym keeps.2) t.ordered.1;
        faults = faults_are ∙ ap (λ (f : Option Fault). first_fault f later) none ∙ ap (λ (cs : List Call). calls_fault analyze (option_of entries) cs (map (call_of entries) rest)) (sym more);
      }

  -- or refused
  pub takes_none : (fault : Fault) → (fault ≡ OutOfMemory) ⊎ (cause ≡ Some fault) → (fault ≡ OutOfMemory) ⊎ (calls_fault analyze (option_of entries) [] (map (call_of entries) all) ≡ Some fault)
  takes_none fault why = ⊎_elim inl (λ by_cause. inr (faults_are ∙ ap (λ (f : Option Fault). first_fault f later) by_cause)) why

-- all were taken
pub takes_all : (analyze : List ℕ → List Word) (entries : List SchemaEntry) (num_docs : ℕ) (all done rest : List IndexCall) (i : IndexerState) → rest ≡ [] → IsTaking analyze entries num_docs all done rest i
    → (calls_fault analyze (option_of entries) [] (map (call_of entries) all) ≡ None) × Stores i (pieces_of analyze (map (call_of entries) all))
takes_all analyze entries num_docs all done rest i is t =
    let same : done ≡ all = sym (append-nil done) ∙ ap (λ (cs : List IndexCall). done ++ cs) (sym is) ∙ t.whole in (
      t.faults ∙ ap (λ (cs : List IndexCall). calls_fault analyze (option_of entries) (map (call_of entries) done) (map (call_of entries) cs)) is,
      subst (λ (cs : List IndexCall). Stores i (pieces_of analyze (map (call_of entries) cs))) same t.stored,
    )
