-- Collecting the documents of the lists of the keys in a range.
use Rattle.std.proofs.Common.{◌≡◌, ◌∙◌, ℕ, zero, suc, ◌+◌, ◌≤◌, Bool, true, false, ◌||◌, List, [], ◌∷◌, ◌++◌, Some, Result, Ok, Err, add-one, append-nil, drop, filter, inl, inr, length, map, refl, sym, ap, arith}
use Rattle.std.specs.Prelude.{slice_get}
use Rattle.std.specs.List.{AllByRecursion}
use Rattle.std.proofs.Math.Seq.{drop-cons}
use Rattle.std.proofs.lemmas.Option.{get_or_from_slice_get, slice_get_within}
use Rattle.ii_io.specs.declared.faults.Fault.{Fault}
use Rattle.ii_io.specs.declared.faults.Part.{Part}
use Rattle.ii_base.specs.Entries.{Entry, document, docs_of}
use Rattle.ii_docset.specs.Cursor.{IsSound}
use Rattle.ii_docset.specs.Intersection.{has_doc}
use Rattle.ii_docset.proofs.CursorLemmas.{documents_sound}
use Rattle.ii_definitions.proofs.ListLaws.{all_both}
use Rattle.ii_query.specs.BitSet.{docs_of_set, is_in}
use Rattle.ii_query.specs.Combined.{put_all, union_of}
use Rattle.ii_query.proofs.MatchLaws.{or_swap, union_has}
use Rattle.ii_query.proofs.SetLemmas.{collected, none_in}
use Rattle.ii_query.proofs.UnionLemmas.{either_sound}
use Rattle.ii_query_parser.specs.declared.term_range.TermRange.{TermRange}
use Rattle.ii_query_parser.specs.Ranges.{in_range}
use Rattle.ii_reader.specs.InvertedIndexReader.{IsRefusal}
use Rattle.ii_reader.specs.OpenIndex.{all_or_first}
use Rattle.ii_reader.proofs.IndexLemmas.{in_front, in_front_of_none, one_more}
use Rattle.ii_termdict.specs.Dictionary.{TermEntry, entry_keys}
use Rattle.ii_search.specs.Found.{combined_lists}
use Rattle.ii_search.specs.Ranges.{AddsIfInRange}

-- the documents of a union
abbrev docs_of_union : List (List Entry) → List ℕ
docs_of_union [] = []
docs_of_union (es ∷ lists) = put_all (docs_of es) (docs_of (union_of lists))

drop_end : {A : Type 0} (i : ℕ) (xs : List A) → length xs ≤ i → drop i xs ≡ []
drop_end zero [] h = refl
drop_end (suc i) [] h = refl
drop_end zero (x ∷ xs) h = absurd (omega arith)
drop_end (suc i) (x ∷ xs) h = drop_end i xs (omega arith)

keys_many : (entries : List TermEntry) → length (entry_keys entries) ≡ length entries
keys_many [] = refl
keys_many (e ∷ es) = ap suc (keys_many es)

module _ (found : List ℕ → Result (List Entry) Part) (range : TermRange) (entries : List TermEntry) where
  -- the keys of the field from one on
  abbrev left : ℕ → List (List ℕ)
  left ord = drop ord (entry_keys entries)

  -- what the keys of a list that are in the range give
  abbrev lists_of : List (List ℕ) → Result (List (List Entry)) Part
  lists_of keys = all_or_first (map found (filter (in_range range) keys))

  -- what all keys in the range give
  abbrev pub lists_in_range : Result (List (List Entry)) Part
  lists_in_range = lists_of (entry_keys entries)

  -- The set has the documents of the lists so far; in front of those of the keys that are left they are all.
  pub record IsCollecting (ord : ℕ) (words : List ℕ) : Type 0 where
    pub lists : List (List Entry)
    pub listed : lists_in_range ≡ in_front lists (lists_of (left ord))
    pub set : (d : ℕ) → is_in words d ≡ has_doc (union_of lists) d
    pub sound : AllByRecursion IsSound lists

  pub collecting_first : (words : List ℕ) → words ≡ [] → IsCollecting 0 words
  collecting_first words none = record {
    lists = [];
    listed = in_front_of_none lists_in_range;
    set = λ d. ap (λ (ws : List ℕ). is_in ws d) none ∙ none_in d;
    sound = tt;
  }

  -- the key at a place
  key_at : (ord : ℕ) (key : List ℕ) → slice_get (entry_keys entries) ord ≡ Some key → left ord ≡ key ∷ left (ord + 1)
  key_at ord key is =
      let inside = slice_get_within (entry_keys entries) ord key is in
      drop-cons (entry_keys entries) ord [] inside ∙ rw (get_or_from_slice_get (entry_keys entries) ord key [] is, add-one ord) refl

  -- one list more
  union_more : (lists : List (List Entry)) (es : List Entry) (d : ℕ) → has_doc (union_of (lists ++ es ∷ [])) d ≡ (has_doc es d || has_doc (union_of lists) d)
  union_more [] es d = union_has es [] d
  union_more (fs ∷ lists) es d =
      union_has fs (lists ++ es ∷ []) d ∙ ap (λ (b : Bool). has_doc fs d || b) (union_more lists es d) ∙ or_swap (has_doc fs d) (has_doc es d) (has_doc (union_of lists) d)
      ∙ ap (λ (b : Bool). has_doc es d || b) (sym (union_has fs lists d))

  pub collecting_next : (ord : ℕ) (key old new : List ℕ) → IsCollecting ord old → slice_get (entry_keys entries) ord ≡ Some key → AddsIfInRange (found key) (in_range range key) old new → IsCollecting (ord + 1) new
  collecting_next ord key old new c at adds = by (in_range range key) refl adds
    where
      by : (b : Bool) → in_range range key ≡ b → AddsIfInRange (found key) b old new → IsCollecting (ord + 1) new
      by true is adds = record {
        lists = c.lists ++ adds.es ∷ [];
        listed =
            let here : lists_in_range ≡ in_front c.lists (all_or_first (found key ∷ map found (filter (in_range range) (left (ord + 1))))) =
            c.listed ∙ ap (λ (ks : List (List ℕ)). in_front c.lists (lists_of ks)) (key_at ord key at) ∙ rw is refl in
            one_more lists_in_range c.lists (found key) (map found (filter (in_range range) (left (ord + 1)))) adds.es here adds.is;
        set = λ d. adds.added d ∙ ap (λ (b : Bool). has_doc adds.es d || b) (c.set d) ∙ sym (union_more c.lists adds.es d);
        sound = all_both IsSound c.lists (adds.es ∷ []) c.sound (adds.sound, tt);
      }
      by false is adds = record {
        lists = c.lists;
        listed = c.listed ∙ ap (λ (ks : List (List ℕ)). in_front c.lists (lists_of ks)) (key_at ord key at) ∙ rw is refl;
        set = λ d. ap (λ (ws : List ℕ). is_in ws d) adds ∙ c.set d;
        sound = c.sound;
      }

  pub collecting_refused : (ord : ℕ) (key words : List ℕ) (fault : Fault) → IsCollecting ord words → slice_get (entry_keys entries) ord ≡ Some key → (in_range range key ≡ true) × IsRefusal (found key) fault
      → IsRefusal (combined_lists union_of lists_in_range) fault
  collecting_refused ord key words fault c at (is, inl memory) = inl memory
  collecting_refused ord key words fault c at (is, inr (part, why, err)) =
      let here : lists_in_range ≡ in_front c.lists (all_or_first (found key ∷ map found (filter (in_range range) (left (ord + 1))))) =
      c.listed ∙ ap (λ (ks : List (List ℕ)). in_front c.lists (lists_of ks)) (key_at ord key at) ∙ rw is refl in
      let all : lists_in_range ≡ Err part = here ∙ rw err refl in
      inr (part, why, rw all refl)

  union_sound : (lists : List (List Entry)) → AllByRecursion IsSound lists → IsSound (union_of lists)
  union_sound [] sound = documents_sound [] refl
  union_sound (es ∷ lists) sound = either_sound es (union_of lists) sound.0 (union_sound lists sound.1)

  -- a union has documents alone
  union_docs : (lists : List (List Entry)) → union_of lists ≡ map document (docs_of_union lists)
  union_docs [] = refl
  union_docs (es ∷ lists) = refl

  pub collecting_all : (ord : ℕ) (words : List ℕ) → length entries ≤ ord → IsCollecting ord words → combined_lists union_of lists_in_range ≡ Ok (docs_of_set words)
  collecting_all ord words end c =
      let none : left ord ≡ [] = drop_end ord (entry_keys entries) (omega (arith, end, keys_many entries)) in
      let all : lists_in_range ≡ Ok c.lists = c.listed ∙ rw none (ap (λ (ls : List (List Entry)). Ok ls) (append-nil c.lists)) in
      rw all (ap (λ (es : List Entry). Ok es) (sym (collected words (docs_of_union c.lists) (union_of c.lists) (union_docs c.lists) (union_sound c.lists c.sound).ascending c.set)))
