-- What an indexer has taken of a list of calls, each by the analyzer of its field.
use Rattle.std.proofs.Common.{inl, inr, ◌≡◌, ℕ, false, List, [], ◌∷◌, ◌++◌, map, Option, Some, None, refl, sym, ap, ◌∙◌, subst, append_assoc, append-nil, ⊎_elim}
use Rattle.std.specs.Prelude.{◌⊎◌}
use Rattle.std.specs.List.{AllByRecursion}
use Rattle.std.proofs.lemmas.Grind.{flat_map-append}
use Rattle.std.proofs.lemmas.List.{map-append}
use Rattle.ii_io.specs.declared.faults.Fault.{Fault}
use Rattle.ii_io.specs.declared.faults.Fault.TheVariants.{OutOfMemory}
use Rattle.ii_base.specs.Schema.{SchemaEntry}
use Rattle.ii_base.specs.Words.{Word}
use Rattle.ii_definitions.specs.Fields.{option_of}
use Rattle.ii_definitions.specs.Tokens.{Call, Piece, call_pieces}
use Rattle.ii_definitions.specs.IndexCalls.{MayAllBeIndexed, MayBeIndexed, call_of, doc_of, field_of}
use Rattle.ii_definitions.specs.declared.index_call.IndexCall.{IndexCall}
use Rattle.ii_indexing.specs.Indexer.{IndexerState, Stores}
use Rattle.ii_indexing.specs.Refusals.{call_fault}
use Rattle.ii_indexing.proofs.CallsLaws.{FollowFrom, IsNew, begins}
use Rattle.ii_json.specs.LeafVisit.{first_fault}
use Rattle.nequllpa_indexing.specs.FieldTokens.{calls_fault_by, pieces_by}

-- An indexer has taken some calls of a list, and these are left.
pub record IsTakingBy (analyze : ℕ → List ℕ → List Word) (entries : List SchemaEntry) (num_docs : ℕ) (all done rest : List IndexCall) (i : IndexerState) : Type 0 where
  pub running : i.failed ≡ false
  pub schema : i.schema ≡ entries
  pub docs : i.num_docs ≡ num_docs
  pub whole : done ++ rest ≡ all
  pub stored : Stores i (pieces_by analyze (map (call_of entries) done))
  pub each : AllByRecursion (MayBeIndexed entries num_docs) rest
  pub ordered : FollowFrom i.last_doc rest
  pub faults : calls_fault_by analyze (option_of entries) [] (map (call_of entries) all) ≡ calls_fault_by analyze (option_of entries) (map (call_of entries) done) (map (call_of entries) rest)

pub begins_by : (analyze : ℕ → List ℕ → List Word) (entries : List SchemaEntry) (num_docs : ℕ) (all : List IndexCall) (i : IndexerState) → IsNew entries num_docs i → Stores i [] → MayAllBeIndexed entries num_docs all
    → IsTakingBy analyze entries num_docs all [] all i
begins_by analyze entries num_docs all i new stored may = record {
  running = new.made.3;
  schema = new.made.0;
  docs = new.made.1;
  whole = refl;
  stored = stored;
  each = may.each;
  ordered = (begins (analyze 0) entries num_docs all i new stored may).ordered;
  faults = refl;
}

-- the pieces of one call more
pub pieces_with_by : (analyze : ℕ → List ℕ → List Word) (calls : List Call) (c : Call) → pieces_by analyze (calls ++ c ∷ []) ≡ pieces_by analyze calls ++ call_pieces (analyze c.field) c
pieces_with_by analyze calls c =
    flat_map-append (λ (x : Call). call_pieces (analyze x.field) x) calls (c ∷ []) ∙ ap (λ (ps : List Piece). pieces_by analyze calls ++ ps) (append-nil (call_pieces (analyze c.field) c))

module _ (analyze : ℕ → List ℕ → List Word) (entries : List SchemaEntry) (num_docs : ℕ) (all done rest : List IndexCall) (c : IndexCall) (old : IndexerState) (t : IsTakingBy analyze entries num_docs all done (c ∷ rest) old) (words : List ℕ → List Word) (are : words ≡ analyze (field_of c)) where
  abbrev cause : Option Fault
  cause = call_fault words (option_of old.schema (field_of c)) (pieces_by analyze (map (call_of entries) done)) (call_of old.schema c)

  abbrev later : Option Fault
  later = calls_fault_by analyze (option_of entries) (map (call_of entries) done ++ call_of entries c ∷ []) (map (call_of entries) rest)

  faults_are : calls_fault_by analyze (option_of entries) [] (map (call_of entries) all) ≡ first_fault cause later
  faults_are =
      t.faults ∙ ap (λ (es : List SchemaEntry). first_fault (call_fault (analyze (field_of c)) (option_of es (field_of c)) (pieces_by analyze (map (call_of entries) done)) (call_of es c)) later) (sym t.schema)
      ∙ ap (λ (by : List ℕ → List Word). first_fault (call_fault by (option_of old.schema (field_of c)) (pieces_by analyze (map (call_of entries) done)) (call_of old.schema c)) later) (sym are)

  -- the call was taken
  pub takes_more_by : (new : IndexerState) → (new.schema ≡ old.schema) × (new.num_docs ≡ old.num_docs) × (new.last_doc ≡ doc_of c) × (new.failed ≡ false)
      → Stores new (pieces_by analyze (map (call_of entries) done) ++ call_pieces words (call_of old.schema c)) → cause ≡ None → IsTakingBy analyze entries num_docs all (done ++ c ∷ []) rest new
  takes_more_by new keeps stored none =
      let more : map (call_of entries) (done ++ c ∷ []) ≡ map (call_of entries) done ++ call_of entries c ∷ [] = map-append (call_of entries) done (c ∷ []) in
      record {
        running = keeps.3;
        schema = keeps.0 ∙ t.schema;
        docs = keeps.1 ∙ t.docs;
        whole = append_assoc done (c ∷ []) rest ∙ t.whole;
        stored = subst (λ (cs : List Call). Stores new (pieces_by analyze cs)) (sym more)
            (subst (Stores new) (sym (pieces_with_by analyze (map (call_of entries) done) (call_of entries c)))
            (subst (λ (by : List ℕ → List Word). Stores new (pieces_by analyze (map (call_of entries) done) ++ call_pieces by (call_of entries c))) are
            (subst (λ (es : List SchemaEntry). Stores new (pieces_by analyze (map (call_of entries) done) ++ call_pieces words (call_of es c))) t.schema stored)));
        each = t.each.1;
        ordered = subst (λ (doc : ℕ). FollowFrom doc rest) (sym keeps.2) t.ordered.1;
        faults = faults_are ∙ ap (λ (f : Option Fault). first_fault f later) none ∙ ap (λ (cs : List Call). calls_fault_by analyze (option_of entries) cs (map (call_of entries) rest)) (sym more);
      }

  -- or refused
  pub takes_none_by : (fault : Fault) → (fault ≡ OutOfMemory) ⊎ (cause ≡ Some fault) → (fault ≡ OutOfMemory) ⊎ (calls_fault_by analyze (option_of entries) [] (map (call_of entries) all) ≡ Some fault)
  takes_none_by fault why = ⊎_elim inl (λ by_cause. inr (faults_are ∙ ap (λ (f : Option Fault). first_fault f later) by_cause)) why

-- all were taken
pub takes_all_by : (analyze : ℕ → List ℕ → List Word) (entries : List SchemaEntry) (num_docs : ℕ) (all done rest : List IndexCall) (i : IndexerState) → rest ≡ [] → IsTakingBy analyze entries num_docs all done rest i
    → (calls_fault_by analyze (option_of entries) [] (map (call_of entries) all) ≡ None) × Stores i (pieces_by analyze (map (call_of entries) all))
takes_all_by analyze entries num_docs all done rest i is t =
    let same : done ≡ all = sym (append-nil done) ∙ ap (λ (cs : List IndexCall). done ++ cs) (sym is) ∙ t.whole in (
      t.faults ∙ ap (λ (cs : List IndexCall). calls_fault_by analyze (option_of entries) (map (call_of entries) done) (map (call_of entries) cs)) is,
      subst (λ (cs : List IndexCall). Stores i (pieces_by analyze (map (call_of entries) cs))) same t.stored,
    )
