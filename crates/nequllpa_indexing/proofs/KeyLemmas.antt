-- The key of a line, and the last line of each key.
use Rattle.std.proofs.Common.{◌≡◌, ◌∙◌, ◌<◌, ◌+◌, ◌==◌, ℕ, Bool, true, false, ◌||◌, List, [], ◌∷◌, ◌++◌, Option, None, Some, append_assoc, ap, filter, get_or, inl, inr, length, map, refl, reverse, subst, sym, take, drop, take-append-drop}
use Rattle.std.specs.Prelude.{IfErr, IfOk, OnOk, Result, Ok, Err, Vec, bytes_eq}
use Rattle.std.specs.List.{list_any}
use Rattle.std.specs.Option.{is_some, option_and_then, option_map, option_to_list}
use Rattle.std.specs.declared.alloc.Global.{Global}
use Rattle.std.proofs.lemmas.List.{drop_more, map-append, reverse-append}
use Rattle.std.proofs.lemmas.List.Elements.{filter-append}
use Rattle.std.proofs.lemmas.List.Folds.{list_any-append}
use Rattle.std.proofs.lemmas.Slice.Eq.{bytes_eq-Decides}
use Rattle.indexmap.specs.IndexSet.{insert_key}
use Rattle.ii_base.specs.Schema.{SchemaEntry}
use Rattle.ii_base.specs.Terms.{TermState}
use Rattle.ii_base.specs.Words.{Word}
use Rattle.ii_definitions.specs.IndexCalls.{call_of, content_of, expands_dots_in, field_of}
use Rattle.ii_definitions.specs.Tokens.{Call}
use Rattle.ii_definitions.specs.declared.index_call.IndexCall.{IndexCall}
use Rattle.ii_documents.specs.declared.faults.LineFault.{LineFault}
use Rattle.ii_documents.specs.declared.faults.LineFault.TheVariants.{OutOfMemory}
use Rattle.nequllpa_indexing.specs.Documents.{AddsLine, DocumentsState, IsLineFault}
use Rattle.nequllpa_indexing.specs.KeyedLines.{AddsLines, AnswersWithKey, KeepsLast, KeyedLineState, KeyedLinesState, StopsAdding, TellsOfKey, content_key, line_has_key, key_of_calls, line_key, line_view, only_of, key_terms, line_texts, told_of_refusal, with_line, with_text}
use Rattle.nequllpa_indexing.specs.declared.faults.InputFault.TheVariants.{Line}
use Rattle.nequllpa_indexing.specs.declared.faults.LineRefusal.{LineRefusal}
use Rattle.nequllpa_indexing.specs.declared.faults.LineRefusal.TheVariants.{Input}
use Rattle.nequllpa_indexing.specs.declared.keyed_lines.KeyedLine.{KeyedLine}

-- ---- the only call in a field
-- of two items that pass a test, none is the only one
pub two_found : {A : Type 0} (p : A → Bool) (xs : List A) (i : ℕ) (x d : A) (o : Option A) → i < length xs → x ≡ get_or xs i d → p x ≡ true → is_some o ≡ true → filter p (take i xs) ≡ option_to_list o → None ≡ only_of (filter p xs)
two_found p xs i x d None inside is passes some found = absurd cc
two_found p xs i x d (Some y) inside is passes some found =
    let split : xs ≡ take i xs ++ x ∷ drop (i + 1) xs = sym (take-append-drop i xs) ∙ ap (λ (ys : List _). take i xs ++ ys) (drop_more xs i d inside ∙ ap (λ (z : _). z ∷ drop (i + 1) xs) (sym is)) in
    let all : filter p xs ≡ y ∷ x ∷ filter p (drop (i + 1) xs) = ap (filter p) split ∙ filter-append p (take i xs) (x ∷ drop (i + 1) xs) ∙ rw (found, passes) refl in
    sym (ap only_of all)

only_of-map : {A B : Type 0} (f : A → B) (xs : List A) → only_of (map f xs) ≡ option_map f (only_of xs)
only_of-map f [] = refl
only_of-map f (x ∷ []) = refl
only_of-map f (x ∷ y ∷ ys) = refl

module _ (analyze : ℕ → List ℕ → List Word) (field : ℕ) (entries : List SchemaEntry) where
  abbrev key_of : Call → Option (List ℕ)
  key_of c = content_key (analyze c.field) c.content

  in_field : (calls : List IndexCall) → filter (λ (c : Call). c.field == field) (map (call_of entries) calls) ≡ map (call_of entries) (filter (λ (c : IndexCall). field_of c == field) calls)
  in_field [] = refl
  in_field (c ∷ cs) = by (field_of c == field) refl (in_field cs)
    where
      by : (b : Bool) → (field_of c == field) ≡ b → filter (λ (x : Call). x.field == field) (map (call_of entries) cs) ≡ map (call_of entries) (filter (λ (x : IndexCall). field_of x == field) cs)
          → filter (λ (x : Call). x.field == field) (map (call_of entries) (c ∷ cs)) ≡ map (call_of entries) (filter (λ (x : IndexCall). field_of x == field) (c ∷ cs))
      by true is later = rw is (ap (λ (ys : List Call). call_of entries c ∷ ys) later)
      by false is later = rw is later

  -- the key of a document is that of its only call in the field
  pub key_of_only : (calls : List IndexCall) (only : Option IndexCall) → only ≡ only_of (filter (λ (c : IndexCall). field_of c == field) calls) → key_of_calls analyze field (map (call_of entries) calls) ≡ option_and_then key_of (option_map (call_of entries) only)
  key_of_only calls only is =
      ap (option_and_then key_of) (ap only_of (in_field calls) ∙ only_of-map (call_of entries) (filter (λ (c : IndexCall). field_of c == field) calls) ∙ ap (option_map (call_of entries)) (sym is))

-- a key that was found is that of the document
pub key_found : {E : Type 0} (analyze : ℕ → List ℕ → List Word) (field : ℕ) (calls : List IndexCall) (call : IndexCall) (by : List ℕ → List Word) (result : Result (Option (Vec ℕ Global)) E) → Some call ≡ only_of (filter (λ (c : IndexCall). field_of c == field) calls) → by ≡ analyze (field_of call)
    → IfOk result (λ key. (expand_dots : Bool) → option_map (λ v. v.items) key ≡ content_key by (content_of expand_dots call))
    → IfOk result (λ key. (entries : List SchemaEntry) → option_map (λ v. v.items) key ≡ key_of_calls analyze field (map (call_of entries) calls))
key_found analyze field calls call by (Ok key) only are is = λ entries.
    is (expands_dots_in entries (field_of call)) ∙ ap (λ (a : List ℕ → List Word). content_key a (content_of (expands_dots_in entries (field_of call)) call)) are ∙ sym (key_of_only analyze field entries calls (Some call) only)
key_found analyze field calls call by (Err e) only are is = tt

-- a line that has a key is taken, unless an allocation failed
pub answers_pushed : (analyze : ℕ → List ℕ → List Word) (s : DocumentsState) (old new : KeyedLinesState) (line key : List ℕ) (result : Result (Unit {0}) LineRefusal) → (length line == 0) ≡ false → line_key analyze s old.field line ≡ Ok key
    → OnOk result (new ≡ record { field = old.field; lines = old.lines ++ (record { key = key; text = line }) ∷ [] }) → IfErr result (λ e. e ≡ Input (Line OutOfMemory)) → AnswersWithKey (λ _. new) result (with_text analyze s old line)
answers_pushed analyze s old new [] key result some is pushed memory = absurd cc
answers_pushed analyze s old new (b ∷ bs) key (Ok u) some is pushed memory = ap (with_line old (b ∷ bs)) is ∙ ap (λ (x : KeyedLinesState). Ok x) (sym pushed)
answers_pushed analyze s old new (b ∷ bs) key (Err e) some is pushed memory = subst (λ (x : LineRefusal). TellsOfKey (told_of_refusal x) (with_text analyze s old (b ∷ bs))) (sym memory) tt

-- ---- the last line of each key
-- equality of keys
abbrev pub same_key : Vec ℕ Global → Vec ℕ Global → Bool
same_key a b = bytes_eq a.items b.items

-- one key more in a set
one_key_more : (keys : List (Vec ℕ Global)) (k : Vec ℕ Global) (key : List ℕ)
    → list_any (λ (x : Vec ℕ Global). bytes_eq key x.items) (insert_key same_key keys k) ≡ (bytes_eq key k.items || list_any (λ (x : Vec ℕ Global). bytes_eq key x.items) keys)
one_key_more keys k key = by (list_any (same_key k) keys) (bytes_eq key k.items) refl refl
  where
    or_false : (b : Bool) → b ≡ (b || false)
    or_false true = refl
    or_false false = refl

    or_comm : (a b : Bool) → (a || b) ≡ (b || a)
    or_comm true true = refl
    or_comm true false = refl
    or_comm false true = refl
    or_comm false false = refl

    by : (known same : Bool) → list_any (same_key k) keys ≡ known → bytes_eq key k.items ≡ same
        → list_any (λ (x : Vec ℕ Global). bytes_eq key x.items) (insert_key same_key keys k) ≡ (bytes_eq key k.items || list_any (λ (x : Vec ℕ Global). bytes_eq key x.items) keys)
    by true true known same =
        let is : key ≡ k.items = (bytes_eq-Decides key k.items).0 same in
        let there : list_any (λ (x : Vec ℕ Global). bytes_eq key x.items) keys ≡ true = ap (λ (y : List ℕ). list_any (λ (x : Vec ℕ Global). bytes_eq y x.items) keys) is ∙ known in
        rw (known, same) there
    by true false known same = rw (known, same) refl
    by false same known is =
        rw known (list_any-append (λ (x : Vec ℕ Global). bytes_eq key x.items) keys (k ∷ [])
        ∙ ap (λ (b : Bool). list_any (λ (x : Vec ℕ Global). bytes_eq key x.items) keys || b) (sym (or_false (bytes_eq key k.items)))
        ∙ or_comm (list_any (λ (x : Vec ℕ Global). bytes_eq key x.items) keys) (bytes_eq key k.items))

module _ (later : List KeyedLineState) (line : KeyedLine) (keys new : List (Vec ℕ Global)) (kept : List KeyedLine) (k : Vec ℕ Global) (is : k.items ≡ line.key.items) (more : new ≡ insert_key same_key keys k) (h : KeepsLast later keys kept) where
  keys_more : (key : List ℕ) → list_any (λ (x : Vec ℕ Global). bytes_eq key x.items) new ≡ list_any (line_has_key key) (line_view line ∷ later)
  keys_more key =
      ap (list_any (λ (x : Vec ℕ Global). bytes_eq key x.items)) more ∙ one_key_more keys k key ∙ ap (λ (b : Bool). bytes_eq key k.items || b) (h.keys_are key)
      ∙ ap (λ (y : List ℕ). bytes_eq key y || list_any (line_has_key key) later) is

  here : list_any (line_has_key line.key.items) later ≡ list_any (same_key k) keys
  here = sym (h.keys_are line.key.items) ∙ ap (λ (y : List ℕ). list_any (λ (x : Vec ℕ Global). bytes_eq y x.items) keys) (sym is)

  -- a line with the key of a later one
  pub keeps_later : list_any (same_key k) keys ≡ true → KeepsLast (line_view line ∷ later) new kept
  keeps_later known = record { keys_are = keys_more; kept_are = rw (here ∙ known) h.kept_are }

  -- a line with a key that no later one has
  pub keeps_more : list_any (same_key k) keys ≡ false → (now : List KeyedLine) → now ≡ kept ++ line ∷ [] → KeepsLast (line_view line ∷ later) new now
  keeps_more unknown now one = record {
    keys_are = keys_more;
    kept_are = rw (here ∙ unknown) (ap (λ (ls : List KeyedLine). map line_view (reverse ls)) one ∙ ap (map line_view) (reverse-append kept (line ∷ [])) ∙ ap (λ (ls : List KeyedLineState). line_view line ∷ ls) h.kept_are);
  }

-- ---- lines that are added one after the other
abbrev pub texts : List KeyedLine → List (List ℕ)
texts lines = line_texts (map line_view lines)

texts-append : (xs ys : List KeyedLine) → texts (xs ++ ys) ≡ texts xs ++ texts ys
texts-append xs ys = ap line_texts (map-append line_view xs ys) ∙ map-append (λ (l : KeyedLineState). l.text) (map line_view xs) (map line_view ys)

adds_then : (old mid new : DocumentsState) (lines : List (List ℕ)) (line : List ℕ) → AddsLines old mid lines → AddsLine mid new line → AddsLines old new (lines ++ line ∷ [])
adds_then old mid new [] line adds more = (new, subst (λ (s : DocumentsState). AddsLine s new line) adds more, refl)
adds_then old mid new (l ∷ ls) line adds more = (adds.0, adds.1, adds_then adds.0 mid new ls line adds.2 more)

module _ (old mid new : DocumentsState) (all done rest : List KeyedLine) (line : KeyedLine) (whole : done ++ line ∷ rest ≡ all) (added : AddsLines old mid (texts done)) where
  -- one line more was added
  pub adds_more : AddsLine mid new (line_view line).text → AddsLines old new (texts (done ++ line ∷ []))
  adds_more more = subst (AddsLines old new) (sym (texts-append done (line ∷ []))) (adds_then old mid new (texts done) (line_view line).text added more)

  -- the line was refused
  pub stops_at : (fault : LineFault) → new ≡ mid → IsLineFault fault mid (line_view line).text → StopsAdding fault old new (texts all)
  stops_at fault same why = record {
    done = texts done;
    rest = texts (line ∷ rest);
    all = sym (ap texts whole) ∙ texts-append done (line ∷ rest);
    added = subst (λ (s : DocumentsState). AddsLines old s (texts done)) (sym same) added;
    why = inr (subst (λ (s : DocumentsState). IsLineFault fault s (line_view line).text) (sym same) why);
  }

  -- an allocation failed after the line was added
  pub stops_after : AddsLine mid new (line_view line).text → StopsAdding OutOfMemory old new (texts all)
  stops_after more = record {
    done = texts (done ++ line ∷ []);
    rest = texts rest;
    all = sym (ap texts (append_assoc done (line ∷ []) rest ∙ whole)) ∙ texts-append (done ++ line ∷ []) rest;
    added = adds_more more;
    why = inl refl;
  }

-- the keys of lines, and one more
pub terms_more : (field : ℕ) (done : List KeyedLine) (line : KeyedLine) (keys more : List TermState) (key : TermState) (bytes : List ℕ) → keys ≡ key_terms field (map line_view done) → key ≡ record { field = field; value = bytes } → bytes ≡ line.key.items → more ≡ keys ++ key ∷ []
    → more ≡ key_terms field (map line_view (done ++ line ∷ []))
terms_more field done line keys more key bytes are is same pushed =
    pushed ∙ ap (λ (ts : List TermState). ts ++ key ∷ []) are
    ∙ ap (λ (t : TermState). key_terms field (map line_view done) ++ t ∷ []) (is ∙ ap (λ (b : List ℕ). record { field = field; value = b }) same)
    ∙ sym (ap (key_terms field) (map-append line_view done (line ∷ [])) ∙ map-append (λ (l : KeyedLineState). record { field = field; value = l.key }) (map line_view done) (line_view line ∷ []))
