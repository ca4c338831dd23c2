-- What the terms of a context's fields say about what is written of them.
use Rattle.std.proofs.Common.{◌≡◌, ℕ, ◌<◌, ◌⊎◌, List, [], length, map, Result, sym, ap, ◌∙◌, subst, arith}
use Rattle.std.specs.Prelude.{OnOk, IfErr, slice_index_or}
use Rattle.std.specs.List.{AllByRecursion, range_with_len}
use Rattle.std.proofs.lemmas.List.{length-map}
use Rattle.std.proofs.lemmas.List.FromFn.{length-map-range_with_len}
use Rattle.std.proofs.lemmas.Result.{IfErr-weaker}
use Rattle.ii_io.specs.declared.faults.Fault.{Fault}
use Rattle.ii_io.specs.declared.faults.Fault.TheVariants.{OutOfMemory, SerializerClosed}
use Rattle.ii_io.specs.Composite.{Body}
use Rattle.ii_base.specs.Schema.{SchemaEntry}
use Rattle.ii_definitions.specs.Tokens.{IndexToken}
use Rattle.ii_recorder.specs.IndexSerializer.{IndexSerializerState}
use Rattle.ii_recorder.specs.Recorded.{RecorderState}
use Rattle.ii_termdict.specs.ReadBack.{AreAscending}
use Rattle.ii_postings_writer.specs.FieldParts.{HasFields, WroteContext, WroteTerms, first_parts}
use Rattle.ii_postings_writer.specs.HeldBodies.{HaveTokens}
use Rattle.ii_postings_writer.specs.IndexingContext.{TermIndex}
use Rattle.ii_postings_writer.specs.PostingsWriter.{PostingsWriterState}
use Rattle.ii_postings_writer.specs.ResolvedTerms.{AreFieldTerms, HaveHeldTokens, MayWriteTerms, json_fields, resolved_terms}
use Rattle.ii_postings_writer.specs.SortedTerms.{IsWritable, MayBeWritten, SortedTerm, norms_in, terms_in}
use Rattle.ii_postings_writer.specs.WriteFaults.{EndsParts, IsContextFault, IsPartsFault}
use Rattle.ii_postings_writer.proofs.ContextFaults.{context_fault, no_terms, some_terms}
use Rattle.ii_postings_writer.proofs.HeldBodies.{IsWritten}
use Rattle.ii_postings_writer.proofs.PartLemmas.{AreLists, wrote_context, wrote_terms}
use Rattle.ii_postings_writer.proofs.ResolvedParts.{had_resolved, have_resolved, may_be_under_keys, no_resolved, resolve, same_keys, whole_keys}
use Rattle.ii_postings_writer.proofs.SortedLemmas.{all_writable, fields_known, lists_ascend}
use Rattle.ii_postings_writer.proofs.TermIndexLemmas.{on_ok}

module _ (first : IndexSerializerState) (schema : List SchemaEntry) (same : schema ≡ first.entries) (readers : List Body) (paths : List (List ℕ)) (old : TermIndex) (fields : List (List SortedTerm)) (may : MayWriteTerms schema readers paths old) (are : AreFieldTerms schema paths old fields) where
  abbrev pub keyed : TermIndex
  keyed = resolved_terms (json_fields schema) paths are.sorted

  abbrev terms : TermIndex
  terms = resolved_terms (json_fields schema) paths old

  pub lists : AreLists (length first.entries) terms keyed fields
  lists = record {
    same = same_keys (json_fields schema) paths are.distinct may.clean are.few_paths old are.sorted are.moved are.in_order;
    ascending = are.in_order.ascending;
    whole = whole_keys (json_fields schema) paths are.distinct may.clean are.few_paths old are.sorted are.moved are.in_order;
    are = are.are ∙ ap (λ (n : ℕ). map (λ (field : ℕ). terms_in field keyed) (range_with_len 0 n)) (ap length same);
  }

  all_may : AllByRecursion (λ (t : List ℕ × RecorderState). MayBeWritten (length first.entries) readers t.0 t.1) keyed
  all_may =
      subst (λ (n : ℕ). AllByRecursion (λ (t : List ℕ × RecorderState). MayBeWritten n readers t.0 t.1) keyed) (ap length same)
      (may_be_under_keys (json_fields schema) paths are.distinct may.clean are.few_paths old are.sorted are.moved are.in_order (length schema) readers may.may)

  pub count : length fields ≡ length first.entries
  count = ap length lists.are ∙ length-map-range_with_len (λ (field : ℕ). terms_in field keyed) 0 (length first.entries)

  pub ascend : AllByRecursion (λ (ts : List SortedTerm). AreAscending (map (λ (t : SortedTerm). t.key) ts)) fields
  ascend = subst (AllByRecursion (λ (ts : List SortedTerm). AreAscending (map (λ (t : SortedTerm). t.key) ts))) (sym lists.are) (lists_ascend 0 (length first.entries) keyed lists.whole lists.ascending)

  pub writable : (field : ℕ) → field < length fields → AllByRecursion (IsWritable (norms_in readers field)) (slice_index_or fields field [])
  writable field inside =
      subst (λ (ls : List (List SortedTerm)). AllByRecursion (IsWritable (norms_in readers field)) (slice_index_or ls field [])) (sym lists.are)
      (all_writable (length first.entries) (length first.entries) field readers keyed all_may (omega (arith, count, inside)))

  module _ (writers : List PostingsWriterState) where
    pub written : (ts : List IndexToken) → HaveHeldTokens first.entries paths old writers ts → IsWritten first.entries writers readers keyed ts
    written ts has = record {
      few = omega (arith, are.few_fields, ap length same);
      whole = lists.whole;
      ascending = lists.ascending;
      may = all_may;
      tokens = have_resolved (json_fields schema) paths are.distinct may.clean are.few_paths old are.sorted are.moved are.in_order first.entries writers ts (ap json_fields (sym same)) has;
    }

    pub had : (ts : List IndexToken) → HaveHeldTokens first.entries paths old writers ts → HaveTokens first.entries terms writers ts
    had ts has = had_resolved (json_fields schema) paths are.distinct may.clean are.few_paths old are.sorted are.moved are.in_order first.entries writers ts (ap json_fields (sym same)) has

    module _ (result : Result (Unit {0}) Fault) (last : IndexSerializerState) where
      pub wrote_all : OnOk result (HasFields first.entries first.bodies last.bodies (first_parts first.entries writers readers fields (length fields))) → OnOk result (WroteTerms first last writers readers terms keyed)
      wrote_all wrote = wrote_terms result first last writers readers terms keyed fields lists wrote

      pub wrote_it : OnOk result (HasFields first.entries first.bodies last.bodies (first_parts first.entries writers readers fields (length fields))) → OnOk result (WroteContext first last writers readers terms)
      wrote_it wrote = wrote_context result first last writers readers terms keyed (wrote_all wrote)

      pub fault_of : IfErr result (λ e. (e ≡ SerializerClosed) ⊎ IsPartsFault first.entries first.bodies (first_parts first.entries writers readers fields (length fields)) e)
          → IfErr result (λ e. (e ≡ OutOfMemory) ⊎ (e ≡ SerializerClosed) ⊎ IsContextFault first writers readers terms e)
      fault_of fault = IfErr-weaker result _ _ (λ e cause. context_fault first writers readers terms keyed fields e lists cause) fault

      pub ends_context : EndsParts (first_parts first.entries writers readers fields (length fields)) first last result → EndsParts old first last result
      ends_context ends =
          let none = no_terms first.entries writers readers (length first.entries) terms keyed fields lists (fields_known (length first.entries) readers keyed all_may) in
          record {
            entries = ends.entries;
            closes = ends.closes;
            failures = ends.failures;
            grow = ends.grow;
            closed = λ is. (let closed = ends.closed is in (closed.0, omega (arith, some_terms first.entries writers readers (length first.entries) terms keyed fields lists closed.1, length-map old (resolve (json_fields schema) paths))));
            refused = λ closed.
                (let stays = ends.refused closed in
                record {
                  same = stays.same;
                  none = on_ok result _ _ (λ empty. no_resolved (json_fields schema) paths old (none empty)) stays.none;
                  only = stays.only;
                });
          }
