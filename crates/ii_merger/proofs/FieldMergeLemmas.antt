-- The terms of a field that are merged, one key after the other.
use Rattle.std.proofs.Common.{inl, inr, ◌≡◌, ℕ, Bool, true, false, if◌then◌else◌, List, [], ◌∷◌, ◌++◌, map, Option, Some, None, Result, Ok, Err, refl, sym, ap, ◌∙◌, subst, Less}
use Rattle.std.specs.Prelude.{◌⊎◌, ◌||◌, ◌==◌, IfErr, bytes_eq, is_some}
use Rattle.std.specs.Cmp.Lexicographic.{slice_cmp}
use Rattle.std.specs.List.{AllByRecursion, list_any}
use Rattle.std.specs.List.Sorted.{IsStrictlySortedBy}
use Rattle.std.specs.Ordering.{nat_cmp}
use Rattle.std.proofs.lemmas.Cmp.{nat_list_eq_equiv}
use Rattle.std.proofs.lemmas.Grind.{flat_map-append}
use Rattle.std.proofs.lemmas.List.{append-nil, map-append}
use Rattle.ii_io.specs.declared.faults.Fault.{Fault}
use Rattle.ii_base.specs.declared.schema.index_record_option.IndexRecordOption.{IndexRecordOption}
use Rattle.ii_base.specs.declared.schema.index_record_option.IndexRecordOption.TheVariants.{Basic}
use Rattle.ii_base.specs.Entries.{Entry}
use Rattle.ii_base.specs.Schema.{SchemaEntry}
use Rattle.ii_definitions.specs.Fields.{option_of}
use Rattle.ii_definitions.specs.JsonKeys.{is_key_of_text}
use Rattle.ii_definitions.proofs.ListLaws.{all_both}
use Rattle.ii_fieldnorm.specs.Readers.{Norms}
use Rattle.ii_termstore.specs.declared.term_info.TermInfo.{TermInfo}
use Rattle.ii_termdict.specs.Dictionary.{TermEntry, entry_keys, info_under}
use Rattle.ii_termdict.specs.ReadBack.{AreAscending}
use Rattle.ii_termdict.specs.TermMerger.{FirstInfosAreAll, behind_key, first_info, least_key}
use Rattle.ii_recorder.specs.IndexBodies.{AllGrow, IndexBodiesState}
use Rattle.ii_recorder.specs.IndexSerializer.{EndsWriting, IndexSerializerState, IsWriting}
use Rattle.ii_recorder.specs.Terms.{WrittenTerm}
use Rattle.ii_recorder.proofs.GrowthLemmas.{AllGrow-trans}
use Rattle.ii_postings_writer.proofs.FieldEndings.{grow_by_none}
use Rattle.ii_merger.specs.MergeSources.{FieldSourceState, source_has_key, source_info, merged_from, source_of}
use Rattle.ii_merger.specs.MergedField.{IsFreshField, IsKeyFault, IsSoundTerm, IsTermMergeFault, WroteTerms, kind_under, merged_terms, term_of_entries}
use Rattle.ii_merger.specs.MergedTerm.{MayStart}
use Rattle.ii_merger.specs.declared.field_source.FieldSource.{FieldSource}
use Rattle.ii_merger.proofs.KeyLemmas.{IsMergingKeys, IsNextKey, all_passed, any_push, merging_none, next_key}

-- what a key keeps is what its field records, or documents alone
kind_which : (entry : SchemaEntry) (key : List ℕ) → (kind_under entry key ≡ entry.option) ⊎ (kind_under entry key ≡ Basic)
kind_which entry key = by (is_key_of_text entry.value_type key)
  where
    by : (b : Bool) → ((if b then entry.option else Basic) ≡ entry.option) ⊎ ((if b then entry.option else Basic) ≡ Basic)
    by true = inl refl
    by false = inr refl

pub kept_kind : (entry : SchemaEntry) (key : List ℕ) (kind mode : IndexRecordOption) → kind ≡ kind_under entry key → mode ≡ entry.option → (kind ≡ mode) ⊎ (kind ≡ Basic)
kept_kind entry key kind mode is same = by (kind_which entry key)
  where
    by : (kind_under entry key ≡ entry.option) ⊎ (kind_under entry key ≡ Basic) → (kind ≡ mode) ⊎ (kind ≡ Basic)
    by (inl own) = inl (is ∙ own ∙ sym same)
    by (inr basic) = inr (is ∙ basic)

pub err_more : {T : Type 0} (r : Result T Fault) (P Q : Fault → Type 0) → ((e : Fault) → P e → Q e) → IfErr r P → IfErr r Q
err_more (Ok x) P Q f h = tt
err_more (Err e) P Q f h = f e h

-- ---- dictionaries of sources
abbrev pub dictionaries : List FieldSourceState → List (List TermEntry)
dictionaries ss = map (λ (s : FieldSourceState). s.reader.terms) ss

pub lent_dictionaries : (xs : List FieldSource) → map (λ (x : FieldSource). x.reader.now.terms) xs ≡ dictionaries (map source_of xs)
lent_dictionaries [] = refl
lent_dictionaries (x ∷ xs) = ap (λ (ess : List (List TermEntry)). x.reader.now.terms ∷ ess) (lent_dictionaries xs)

infos_are : (key : List ℕ) (ss : List FieldSourceState) → map (info_under key) (dictionaries ss) ≡ map (source_info key) ss
infos_are key [] = refl
infos_are key (s ∷ ss) = ap (λ (os : List (Option TermInfo)). source_info key s ∷ os) (infos_are key ss)

has_any : (key : List ℕ) (ss : List FieldSourceState) → list_any (λ (es : List TermEntry). is_some (info_under key es)) (dictionaries ss) ≡ list_any (source_has_key key) ss
has_any key [] = refl
has_any key (s ∷ ss) = ap (λ (b : Bool). source_has_key key s || b) (has_any key ss)

-- ---- written keys
-- whether there are no entries
abbrev is_none : List Entry → Bool
is_none [] = true
is_none (e ∷ es) = false

module _ (norms : Option Norms) (entry : SchemaEntry) (ss : List FieldSourceState) where
  abbrev terms : List (List ℕ) → List WrittenTerm
  terms keys = merged_terms norms entry ss keys

  abbrev keys_written : List (List ℕ) → List (List ℕ)
  keys_written keys = map (λ (t : WrittenTerm). t.key) (terms keys)

  one_key : (k : List ℕ) (es : List Entry) (kind : IndexRecordOption) → map (λ (t : WrittenTerm). t.key) (term_of_entries norms kind k es) ≡ (if is_none es then [] else k ∷ [])
  one_key k [] kind = refl
  one_key k (e ∷ es) kind = refl

  more_keys : (k : List ℕ) (ks : List (List ℕ)) → keys_written (k ∷ ks) ≡ (if is_none (merged_from (kind_under entry k) k 0 ss) then [] else k ∷ []) ++ keys_written ks
  more_keys k ks =
      map-append (λ (t : WrittenTerm). t.key) (term_of_entries norms (kind_under entry k) k (merged_from (kind_under entry k) k 0 ss)) (terms ks)
      ∙ ap (λ (ls : List (List ℕ)). ls ++ keys_written ks) (one_key k (merged_from (kind_under entry k) k 0 ss) (kind_under entry k))

  all_written : (P : List ℕ → Type 0) (key : List ℕ) (ks : List (List ℕ)) → AllByRecursion P (ks ++ key ∷ []) → AllByRecursion P (keys_written ks ++ key ∷ [])
  all_written P key [] all = all
  all_written P key (k ∷ ks) all = rw (more_keys k ks) (by (is_none (merged_from (kind_under entry k) k 0 ss)) (all_written P key ks all.1))
    where
      by : (b : Bool) → AllByRecursion P (keys_written ks ++ key ∷ []) → AllByRecursion P (((if b then [] else k ∷ []) ++ keys_written ks) ++ key ∷ [])
      by true others = others
      by false others = (all.0, others)

  pub written_ascend : (key : List ℕ) (ks : List (List ℕ)) → AreAscending (ks ++ key ∷ []) → AreAscending (keys_written ks ++ key ∷ [])
  unfolding IsStrictlySortedBy
  written_ascend key [] ascending = ascending
  written_ascend key (k ∷ ks) ascending = rw (more_keys k ks) (by (is_none (merged_from (kind_under entry k) k 0 ss)) (written_ascend key ks ascending.1))
    where
      by : (b : Bool) → AreAscending (keys_written ks ++ key ∷ []) → AreAscending (((if b then [] else k ∷ []) ++ keys_written ks) ++ key ∷ [])
      by true others = others
      by false others = (all_written (λ (y : List ℕ). slice_cmp nat_cmp k y ≡ Less) key ks ascending.0, others)

  pub one_more : (keys : List (List ℕ)) (key : List ℕ) → terms (keys ++ key ∷ []) ≡ terms keys ++ term_of_entries norms (kind_under entry key) key (merged_from (kind_under entry key) key 0 ss)
  one_more keys key =
      flat_map-append (λ (k : List ℕ). term_of_entries norms (kind_under entry k) k (merged_from (kind_under entry k) k 0 ss)) keys (key ∷ [])
      ∙ ap (λ (ts : List WrittenTerm). terms keys ++ ts) (append-nil (term_of_entries norms (kind_under entry key) key (merged_from (kind_under entry key) key 0 ss)))

-- ---- one key after the other
module _ (entry : SchemaEntry) (ss : List FieldSourceState) (first : IndexSerializerState) where
  abbrev Sound : List ℕ → Type 0
  Sound key = IsSoundTerm (kind_under entry key) ss key

  -- The terms of the keys before those that are to come were merged.
  pub record IsMergingField (coming : List (List TermEntry)) (now : IndexSerializerState) : Type 0 where
    pub done : List (List ℕ)
    pub keys : IsMergingKeys (dictionaries ss) done coming
    pub sound : AllByRecursion Sound done
    pub writing : (initial : IndexBodiesState) (field tokens : ℕ) (norms : Option Norms) → IsWriting initial first field tokens norms [] [] → IsWriting initial now field tokens norms (merged_terms norms entry ss done) []
    pub between : now.field.term_open ≡ false
    pub ends : EndsWriting {A = Unit {0}} first now (Ok tt)
    pub grow : AllGrow first.bodies now.bodies

  pub field_none : (coming : List (List TermEntry)) → coming ≡ dictionaries ss → AllByRecursion (λ (es : List TermEntry). AreAscending (entry_keys es)) coming → first.field.term_open ≡ false → EndsWriting {A = Unit {0}} first first (Ok tt) → IsMergingField coming first
  field_none coming are ascending between ends = record {
    done = [];
    keys = subst (λ (ess : List (List TermEntry)). IsMergingKeys (dictionaries ss) [] ess) (sym are) (merging_none (dictionaries ss) (subst (AllByRecursion (λ (es : List TermEntry). AreAscending (entry_keys es))) are ascending));
    sound = tt;
    writing = λ initial field tokens norms w. w;
    between = between;
    ends = ends;
    grow = grow_by_none first.bodies first.bodies refl;
  }

  module _ (coming : List (List TermEntry)) (now : IndexSerializerState) (h : IsMergingField coming now) (fresh : IsFreshField first) where
    own : IsWriting fresh.initial now fresh.field fresh.tokens fresh.norms (merged_terms fresh.norms entry ss h.done) []
    own = h.writing fresh.initial fresh.field fresh.tokens fresh.norms fresh.writing

    pub same_mode : now.field.term.mode ≡ first.field.term.mode
    same_mode = own.mode ∙ ap (λ (es : List SchemaEntry). option_of es fresh.field) h.ends.entries ∙ sym fresh.writing.mode

    pub same_norms : now.field.term.norms ≡ first.field.term.norms
    same_norms = own.norms_are ∙ sym fresh.writing.norms_are

    module _ (key : List ℕ) (is : least_key coming ≡ Some key) where
      next : IsNextKey (dictionaries ss) h.done coming key
      next = next_key (dictionaries ss) h.done coming h.keys key is

      pub may_start : MayStart key now
      may_start = record {
        unclosed = h.ends.closing.closes.ok;
        between = h.between;
        ascending = subst (λ (ks : List (List ℕ)). AreAscending (ks ++ key ∷ [])) (sym (own.terms.keys ∙ append-nil (map (λ (t : WrittenTerm). t.key) (merged_terms fresh.norms entry ss h.done)))) (written_ascend fresh.norms entry ss key h.done next.ascending);
      }

      pub all_infos : FirstInfosAreAll → map (first_info key) coming ≡ map (source_info key) ss
      all_infos law = law coming key h.keys.each is ∙ next.all_infos ∙ infos_are key ss

      known_key : list_any (source_has_key key) ss ≡ true
      known_key = sym (has_any key ss) ∙ next.next.known key (any_push key h.done key ∙ ap (λ (b : Bool). b || list_any (bytes_eq key) h.done) (nat_list_eq_equiv.refl key))

      pub key_fault : (initial : IndexBodiesState) (field tokens : ℕ) (norms : Option Norms) (e : Fault) → first.field.term.mode ≡ entry.option → IsTermMergeFault (kind_under entry key) key ss initial now.field.term.mode tokens norms (merged_terms norms entry ss h.done) e
          → IsKeyFault entry ss initial tokens norms e
      key_fault initial field tokens norms e mode fault = record {
        keys = h.done;
        key = key;
        ascending = next.ascending;
        known = known_key;
        sound = h.sound;
        cause = subst (λ (m : IndexRecordOption). IsTermMergeFault (kind_under entry key) key ss initial m tokens norms (merged_terms norms entry ss h.done) e) (same_mode ∙ mode) fault;
      }

      pub field_next : (new : IndexSerializerState) → Sound key
          → ((initial : IndexBodiesState) (field tokens : ℕ) (norms : Option Norms) (ts : List WrittenTerm) → IsWriting initial now field tokens norms ts [] → IsWriting initial new field tokens norms (ts ++ term_of_entries norms (kind_under entry key) key (merged_from (kind_under entry key) key 0 ss)) [])
          → new.field.term_open ≡ false → EndsWriting {A = Unit {0}} first new (Ok tt) → AllGrow now.bodies new.bodies → IsMergingField (map (behind_key key) coming) new
      field_next new sound writing between ends grow = record {
        done = h.done ++ key ∷ [];
        keys = next.next;
        sound = all_both Sound h.done (key ∷ []) h.sound (sound, tt);
        writing = λ initial field tokens norms w.
            subst (λ (ts : List WrittenTerm). IsWriting initial new field tokens norms ts []) (sym (one_more norms entry ss h.done key)) (writing initial field tokens norms (merged_terms norms entry ss h.done) (h.writing initial field tokens norms w));
        between = between;
        ends = ends;
        grow = AllGrow-trans first.bodies now.bodies new.bodies h.grow grow;
      }

    -- all terms were merged
    pub field_all : least_key coming ≡ None → (initial : IndexBodiesState) (field tokens : ℕ) (norms : Option Norms) → IsWriting initial first field tokens norms [] [] → WroteTerms entry ss initial now field tokens norms
    field_all none initial field tokens norms w = record {
      keys = h.done;
      are = record { ascending = h.keys.ascending; exact = λ key. all_passed (dictionaries ss) h.done coming h.keys key none ∙ has_any key ss };
      sound = h.sound;
      writing = h.writing initial field tokens norms w;
    }
