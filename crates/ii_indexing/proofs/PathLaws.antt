-- What one more piece changes of what is known path by path.
use Rattle.std.proofs.Common.{◌≡◌, ℕ, zero, suc, ◌+◌, ◌<◌, ◌≤◌, ◌==◌, ◌&&◌, Bool, true, false, List, [], ◌∷◌, ◌++◌, length, cond, Some, refl, sym, ap, ◌∙◌, subst, arith, length-append}
use Rattle.std.specs.Prelude.{slice_get, slice_index_or, slice_set, bytes_eq, if◌then◌else◌}
use Rattle.std.proofs.lemmas.List.{length-set}
use Rattle.std.proofs.lemmas.List.Folds.{position_or_len_push}
use Rattle.std.proofs.lemmas.Bool.{eqb-true, eq-eqb}
use Rattle.std.proofs.lemmas.Cmp.{nat_list_eq_equiv}
use Rattle.std.proofs.lemmas.Slice.Eq.{bytes_eq-Decides}
use Rattle.ii_base.specs.Paths.{has_zero}
use Rattle.ii_base.specs.Values.{text_key}
use Rattle.ii_base.specs.Words.{Word}
use Rattle.ii_definitions.proofs.KeyLaws.{path_of_key}
use Rattle.ii_definitions.specs.JsonKeys.{path_in}
use Rattle.ii_definitions.specs.Tokens.{Piece, begin_after, end_after, is_same_group, kept_words, text_at, value_at}
use Rattle.ii_json.specs.Paths.{is_known, path_id, with_path}
use Rattle.ii_postings_writer.proofs.ResolvedLaws.{path_of_id}
use Rattle.ii_indexing.specs.OpenPaths.{IsKnownBy, OpenPathsState, PathsReachTo, PutsPosition, TellAllPaths, TellsPaths, no_texts, opened_path, position_by, path_positions_at, text_prefix, texts_at}
use Rattle.ii_indexing.specs.Refusals.{group_count}
use Rattle.ii_postings_writer.specs.declared.indexing_position.IndexingPosition.{IndexingPosition}
use Rattle.ii_indexing.proofs.DocumentLaws.{set_value}
use Rattle.ii_indexing.proofs.HeldLaws.{id_kept, unknown_id}
use Rattle.ii_indexing.proofs.PieceLaws.{begin_more, group_more}
use Rattle.ii_indexing.proofs.StoreLaws.{set_other, set_same}

-- what is known with a text more
abbrev pub with_text : IndexingPosition → List Word → IndexingPosition
with_text at ws = record { num_tokens = at.num_tokens + length (kept_words ws); end_position = end_after at.end_position ws }

-- a piece of another group changes nothing, and a piece of the group is one more text
abbrev texts_if : Bool → IndexingPosition → List Word → IndexingPosition
texts_if b at ws = record { num_tokens = cond b (at.num_tokens + length (kept_words ws)) at.num_tokens; end_position = cond b (end_after at.end_position ws) at.end_position }

-- no text at a path has the empty prefix, nor that of another path
pub some_prefix : (path : List ℕ) → bytes_eq (text_prefix path) [] ≡ false
some_prefix [] = refl
some_prefix (b ∷ bs) = refl

path_of_prefix : (p q : List ℕ) → has_zero p ≡ false → has_zero q ≡ false → text_prefix p ≡ text_prefix q → p ≡ q
path_of_prefix p q clean other is = sym (path_of_key p (text_key []) clean) ∙ ap path_in is ∙ path_of_key q (text_key []) other

same_prefix : (p q : List ℕ) (b : Bool) → has_zero p ≡ false → has_zero q ≡ false → bytes_eq p q ≡ b → bytes_eq (text_prefix p) (text_prefix q) ≡ b
same_prefix p q true clean other is = (bytes_eq-Decides (text_prefix p) (text_prefix q)).1 (ap text_prefix ((bytes_eq-Decides p q).0 is))
same_prefix p q false clean other is = by (bytes_eq (text_prefix p) (text_prefix q)) refl
  where
    by : (b : Bool) → bytes_eq (text_prefix p) (text_prefix q) ≡ b → b ≡ false
    by true same = sym ((bytes_eq-Decides p q).1 (path_of_prefix p q clean other ((bytes_eq-Decides (text_prefix p) (text_prefix q)).0 same))) ∙ is
    by false differs = refl

-- a known path's id is no other path's
other_id : (known : List (List ℕ)) (path other : List ℕ) → is_known known path ≡ true → path_id known other ≡ path_id known path → other ≡ path
other_id known path other is same = by (is_known known other) refl
  where
    by : (b : Bool) → is_known known other ≡ b → other ≡ path
    by true there = sym (path_of_id known other there).1 ∙ ap (λ (i : ℕ). slice_index_or known i []) same ∙ (path_of_id known path is).1
    by false none = absurd (omega (arith, unknown_id known other none, same, (path_of_id known path is).0))

-- an unknown path's id is above those of known ones, also with one more path
free_id : (known : List (List ℕ)) (path q : List ℕ) → is_known known q ≡ false → length known ≤ path_id (with_path known path) q
free_id known path q none = by (is_known known path)
  where
    last : (n m : ℕ) (b c : Bool) → n ≡ m → m ≤ cond b (m + cond c 0 1) n
    last n m true true is = omega arith
    last n m true false is = omega arith
    last n m false c is = omega (arith, is)

    by : (b : Bool) → length known ≤ path_id (if b then known else known ++ path ∷ []) q
    by true = omega (arith, unknown_id known q none)
    by false = subst (λ (n : ℕ). length known ≤ n) (sym (position_or_len_push (bytes_eq q) known path)) (last (path_id known q) (length known) (path_id known q == length known) (bytes_eq q path) (unknown_id known q none))

texts_after : (doc field : ℕ) (path : List ℕ) (ps : List Piece) (p : Piece) (b : Bool) → is_same_group (text_at doc field (text_prefix path) []) p ≡ b
    → texts_at doc field path (ps ++ p ∷ []) ≡ texts_if b (texts_at doc field path ps) p.words
texts_after doc field path ps p b is =
    let q = text_at doc field (text_prefix path) [] in
    ap (λ (n : ℕ). record { num_tokens = n; end_position = begin_after (ps ++ p ∷ []) q }) (group_more ps p q b is)
    ∙ ap (λ (n : ℕ). record { num_tokens = cond b (group_count ps q + length (kept_words p.words)) (group_count ps q); end_position = n }) (begin_more ps p q b is)

not_fourth : (a b c d : Bool) → d ≡ false → (((a && b) && c) && d) ≡ false
not_fourth true true true d none = none
not_fourth true true false d none = refl
not_fourth true false c d none = refl
not_fourth false b c d none = refl

not_third : (a b c d : Bool) → c ≡ false → (((a && b) && c) && d) ≡ false
not_third true true c d none = rw none refl
not_third true false c d none = refl
not_third false b c d none = refl

not_second : (a b c d : Bool) → b ≡ false → (((a && b) && c) && d) ≡ false
not_second true b c d none = rw none refl
not_second false b c d none = refl

-- A piece is in no group of a prefix.
abbrev pub HasNoPrefix : Piece → Type 0
HasNoPrefix p = (doc field : ℕ) (prefix : List ℕ) → bytes_eq prefix [] ≡ false → is_same_group (text_at doc field prefix []) p ≡ false

pub text_has_none : (doc field : ℕ) (ws : List Word) → HasNoPrefix (text_at doc field [] ws)
text_has_none doc field ws x f prefix some = not_fourth true (doc == x) (field == f) (bytes_eq [] prefix) (sym (nat_list_eq_equiv.symm prefix []) ∙ some)

pub value_has_none : (doc field : ℕ) (key : List ℕ) → HasNoPrefix (value_at doc field key)
value_has_none doc field key x f prefix some = refl

pub paths_kept : (known : List (List ℕ)) (ps : List Piece) (p : Piece) (paths : List OpenPathsState) → HasNoPrefix p → TellAllPaths known ps paths → TellAllPaths known (ps ++ p ∷ []) paths
paths_kept known ps p paths none h field o is =
    let tells = h field o is in
    record { told = λ doc path from clean. texts_after doc field path ps p false (none doc field (text_prefix path) (some_prefix path)) ∙ tells.told doc path from clean; free = tells.free }

-- a path becomes known
pub paths_known : (known : List (List ℕ)) (path : List ℕ) (ps : List Piece) (paths : List OpenPathsState) → TellAllPaths known ps paths → TellAllPaths (with_path known path) ps paths
paths_known known path ps paths h field o is =
    let tells = h field o is in
    record { told = λ doc q from clean. tells.told doc q from clean ∙ same doc q tells (is_known known q) refl; free = λ id above. tells.free id (omega (arith, above, longer (is_known known path))) }
  where
    longer : (b : Bool) → length known ≤ length (if b then known else known ++ path ∷ [])
    longer true = omega arith
    longer false = omega (arith, length-append known (path ∷ []))

    none_by : (doc id : ℕ) (b : Bool) → position_by id o.positions ≡ no_texts → position_by id (if b then o.positions else []) ≡ no_texts
    none_by doc id true none = none
    none_by doc id false none = refl

    same : (doc : ℕ) (q : List ℕ) → TellsPaths known field ps o → (b : Bool) → is_known known q ≡ b → position_by (path_id known q) (path_positions_at doc o) ≡ position_by (path_id (with_path known path) q) (path_positions_at doc o)
    same doc q tells true there = ap (λ (id : ℕ). position_by id (path_positions_at doc o)) (sym (id_kept known path q there))
    same doc q tells false none =
        none_by doc (path_id known q) (o.doc == doc) (tells.free (path_id known q) (omega (arith, unknown_id known q none)))
        ∙ sym (none_by doc (path_id (with_path known path) q) (o.doc == doc) (tells.free (path_id (with_path known path) q) (free_id known path q none)))

-- A text follows those at its path: its document is open, and the new state was put.
pub record PutsText (known : List (List ℕ)) (paths : List OpenPathsState) (doc field id : ℕ) (path : List ℕ) (ws : List Word) (old new : OpenPathsState) : Type 0 where
  pub found : slice_get paths field ≡ Some old
  pub old_doc : old.doc ≡ doc
  pub new_doc : new.doc ≡ doc
  pub has_id : IsKnownBy known path id
  pub put : (other : ℕ) → position_by other new.positions ≡ (if id == other then with_text (position_by id old.positions) ws else position_by other old.positions)

module _ (known : List (List ℕ)) (ps : List Piece) (paths : List OpenPathsState) (doc field id : ℕ) (path : List ℕ) (ws : List Word) (old new : OpenPathsState) (h : PutsText known paths doc field id path ws old new) (told : TellAllPaths known ps paths) where
  abbrev p : Piece
  p = text_at doc field (text_prefix path) ws

  positions_same : (o : OpenPathsState) → o.doc ≡ doc → path_positions_at doc o ≡ o.positions
  positions_same o at = rw (eq-eqb o.doc doc at) refl

  positions_other : (o : OpenPathsState) (x : ℕ) → o.doc ≡ doc → (doc == x) ≡ false → path_positions_at x o ≡ []
  positions_other o x at other = rw (at, other) refl

  before : (q : List ℕ) → has_zero q ≡ false → texts_at doc field q ps ≡ position_by (path_id known q) old.positions
  before q clean = (told field old h.found).told doc q (omega (arith, h.old_doc)) clean ∙ ap (position_by (path_id known q)) (positions_same old h.old_doc)

  group : (q : List ℕ) (b : Bool) → has_zero q ≡ false → bytes_eq path q ≡ b → is_same_group (text_at doc field (text_prefix q) []) p ≡ b
  group q b clean is = rw (eq-eqb doc doc refl, eq-eqb field field refl) (same_prefix path q b h.has_id.clean clean is)

  put_other : (q : List ℕ) → bytes_eq path q ≡ false → position_by (path_id known q) new.positions ≡ position_by (path_id known q) old.positions
  put_other q differs = by (id == path_id known q) refl
    where
      by : (b : Bool) → (id == path_id known q) ≡ b → position_by (path_id known q) new.positions ≡ position_by (path_id known q) old.positions
      by true same =
          let is : q ≡ path = other_id known path q h.has_id.known_is (sym (eqb-true id (path_id known q) same) ∙ sym h.has_id.id_is) in
          let equal : true ≡ false = sym ((bytes_eq-Decides path q).1 (sym is)) ∙ differs in
          absurd (cc)
      by false other = h.put (path_id known q) ∙ rw other refl

  here : (q : List ℕ) → has_zero q ≡ false → (b : Bool) → bytes_eq path q ≡ b → texts_at doc field q (ps ++ p ∷ []) ≡ position_by (path_id known q) new.positions
  here q clean true same =
      let is : path ≡ q = (bytes_eq-Decides path q).0 same in
      let after : position_by id new.positions ≡ with_text (position_by id old.positions) ws = h.put id ∙ rw (eq-eqb id id refl) refl in
      let by_id : path_id known q ≡ id = ap (path_id known) (sym is) ∙ h.has_id.id_is in
      texts_after doc field q ps p true (group q true clean same)
      ∙ ap (λ (at : IndexingPosition). with_text at ws) (before q clean ∙ ap (λ (i : ℕ). position_by i old.positions) by_id) ∙ sym after ∙ ap (λ (i : ℕ). position_by i new.positions) (sym by_id)
  here q clean false differs = texts_after doc field q ps p false (group q false clean differs) ∙ before q clean ∙ sym (put_other q differs)

  at_doc : (x : ℕ) (q : List ℕ) → old.doc ≤ x → has_zero q ≡ false → (b : Bool) → (doc == x) ≡ b → texts_at x field q (ps ++ p ∷ []) ≡ position_by (path_id known q) (path_positions_at x new)
  at_doc x q from clean true same =
      let is : doc ≡ x = eqb-true doc x same in
      subst (λ (y : ℕ). texts_at y field q (ps ++ p ∷ []) ≡ position_by (path_id known q) (path_positions_at y new)) is
      (here q clean (bytes_eq path q) refl ∙ ap (position_by (path_id known q)) (sym (positions_same new h.new_doc)))
  at_doc x q from clean false other =
      let apart : is_same_group (text_at x field (text_prefix q) []) p ≡ false = not_second true (doc == x) (field == field) (bytes_eq (text_prefix path) (text_prefix q)) other in
      texts_after x field q ps p false apart ∙ (told field old h.found).told x q from clean
      ∙ ap (position_by (path_id known q)) (positions_other old x h.old_doc other ∙ sym (positions_other new x h.new_doc other))

  still_free : (other : ℕ) → length known ≤ other → position_by other new.positions ≡ no_texts
  still_free other above =
      let apart : (id == other) ≡ false = grind (arith, (path_of_id known path h.has_id.known_is).0, h.has_id.id_is, above) in
      h.put other ∙ rw apart refl ∙ (told field old h.found).free other above

  pub paths_put : TellAllPaths known (ps ++ p ∷ []) (slice_set paths field new)
  paths_put f o is = by (field == f) refl
    where
      by : (b : Bool) → (field == f) ≡ b → TellsPaths known f (ps ++ p ∷ []) o
      by true same =
          let at = eqb-true field f same in
          let value : o ≡ new = set_value paths field new o (subst (λ (g : ℕ). slice_get (slice_set paths field new) g ≡ Some o) (sym at) is) in
          subst (λ (g : ℕ). TellsPaths known g (ps ++ p ∷ []) o) at
          (subst (TellsPaths known field (ps ++ p ∷ [])) (sym value) (record { told = λ x q from clean. at_doc x q (omega (arith, from, h.old_doc, h.new_doc)) clean (doc == x) refl; free = still_free }))
      by false other =
          let found : slice_get paths f ≡ Some o = sym (set_other paths field f new other) ∙ is in
          let tells = told f o found in
          record {
            told = λ x q from clean.
                let apart : is_same_group (text_at x f (text_prefix q) []) p ≡ false = not_third true (doc == x) (field == f) (bytes_eq (text_prefix path) (text_prefix q)) other in
                texts_after x f q ps p false apart ∙ tells.told x q from clean;
            free = tells.free;
          }

-- nothing lies above the document of a text
pub reach_paths : (paths : List OpenPathsState) (field doc : ℕ) (new : OpenPathsState) → new.doc ≡ doc → PathsReachTo doc paths → PathsReachTo doc (slice_set paths field new)
reach_paths paths field doc new at h f o is = by (field == f) refl
  where
    by : (b : Bool) → (field == f) ≡ b → o.doc ≤ doc
    by true same =
        let eq = eqb-true field f same in
        let value : o ≡ new = set_value paths field new o (subst (λ (g : ℕ). slice_get (slice_set paths field new) g ≡ Some o) (sym eq) is) in
        omega (arith, at, ap (λ (e : OpenPathsState). e.doc) value)
    by false other = h f o (sym (set_other paths field f new other) ∙ is)

-- a document was opened that isn't below the open one
module _ (known : List (List ℕ)) (ps : List Piece) (paths : List OpenPathsState) (doc field : ℕ) (old : OpenPathsState) (found : slice_get paths field ≡ Some old) (reach : old.doc ≤ doc) where
  positions_later : (x : ℕ) → doc ≤ x → path_positions_at x (opened_path doc old) ≡ path_positions_at x old
  positions_later x from = by (doc == x) refl
    where
      by : (b : Bool) → (doc == x) ≡ b → (if b then path_positions_at doc old else []) ≡ path_positions_at x old
      by true same = ap (λ (y : ℕ). path_positions_at y old) (eqb-true doc x same)
      by false other =
          let above : (old.doc == x) ≡ false = grind (arith, other, from, reach) in
          rw above refl

  opened_free : TellsPaths known field ps old → (id : ℕ) → length known ≤ id → position_by id (path_positions_at doc old) ≡ no_texts
  opened_free tells id above = by (old.doc == doc)
    where
      by : (b : Bool) → position_by id (if b then old.positions else []) ≡ no_texts
      by true = tells.free id above
      by false = refl

  pub paths_opened : TellAllPaths known ps paths → TellAllPaths known ps (slice_set paths field (opened_path doc old))
  paths_opened told f o is = by (field == f) refl
    where
      by : (b : Bool) → (field == f) ≡ b → TellsPaths known f ps o
      by true same =
          let at = eqb-true field f same in
          let tells = told field old found in
          let value : o ≡ opened_path doc old = set_value paths field (opened_path doc old) o (subst (λ (g : ℕ). slice_get (slice_set paths field (opened_path doc old)) g ≡ Some o) (sym at) is) in
          subst (λ (g : ℕ). TellsPaths known g ps o) at
          (subst (TellsPaths known field ps) (sym value) (record {
            told = λ x q from clean. tells.told x q (omega (arith, from, reach)) clean ∙ ap (position_by (path_id known q)) (sym (positions_later x from));
            free = opened_free tells;
          }))
      by false other = told f o (sym (set_other paths field f (opened_path doc old) other) ∙ is)

  -- the state of its texts at a path is right
  pub position_told : (path : List ℕ) (id : ℕ) → IsKnownBy known path id → TellAllPaths known ps paths → texts_at doc field path ps ≡ position_by id (opened_path doc old).positions
  position_told path id h told = (told field old found).told doc path reach h.clean ∙ ap (λ (i : ℕ). position_by i (path_positions_at doc old)) h.id_is

-- The field of a schema whose open document isn't above one.
pub record HasPath (paths : List OpenPathsState) (doc field : ℕ) : Type 0 where
  pub old : OpenPathsState
  pub found : slice_get paths field ≡ Some old
  pub reach : old.doc ≤ doc

inside_found : {A : Type 0} (xs : List A) (i : ℕ) → i < length xs → (x : A) × (slice_get xs i ≡ Some x)
inside_found [] i low = absurd (omega (arith, low))
inside_found (x ∷ xs) zero low = (x, refl)
inside_found (x ∷ xs) (suc i) low = inside_found xs i (omega (arith, low))

pub has_path : (paths : List OpenPathsState) (doc field : ℕ) → field < length paths → PathsReachTo doc paths → HasPath paths doc field
has_path paths doc field low reach =
    let o = inside_found paths field low in
    record { old = o.0; found = o.1; reach = reach field o.0 o.1 }

-- A document was opened in a field, and what is known of the texts at the path with an id was put.
module _ (paths : List OpenPathsState) (doc field : ℕ) (h : HasPath paths doc field) (id : ℕ) (last : IndexingPosition) (opened after : List OpenPathsState) (is : opened ≡ slice_set paths field (opened_path doc h.old))
    (puts : (o : OpenPathsState) → slice_get opened field ≡ Some o → PutsPosition field id last opened after o) where
  now_open : slice_get opened field ≡ Some (opened_path doc h.old)
  now_open = ap (λ (q : List OpenPathsState). slice_get q field) is ∙ set_same paths field h.old (opened_path doc h.old) h.found

  put_last : PutsPosition field id last opened after (opened_path doc h.old)
  put_last = puts (opened_path doc h.old) now_open

  pub text_told : (known : List (List ℕ)) (ps : List Piece) (path : List ℕ) (ws : List Word) (first : IndexingPosition) → first ≡ position_by id (opened_path doc h.old).positions → last ≡ with_text first ws → IsKnownBy known path id
      → TellAllPaths known ps paths → TellAllPaths known (ps ++ text_at doc field (text_prefix path) ws ∷ []) after
  text_told known ps path ws first begins ends has_id told =
      let put = put_last in
      let lasts : last ≡ with_text (position_by id (opened_path doc h.old).positions) ws = ends ∙ ap (λ (p : IndexingPosition). with_text p ws) begins in
      let all = paths_put known ps opened doc field id path ws (opened_path doc h.old) put.new (record {
        found = now_open;
        old_doc = refl;
        new_doc = put.doc;
        has_id = has_id;
        put = λ other. put.put other ∙ ap (λ (p : IndexingPosition). if id == other then p else position_by other (opened_path doc h.old).positions) lasts;
      }) (subst (TellAllPaths known ps) (sym is) (paths_opened known ps paths doc field h.old h.found h.reach told)) in
      subst (TellAllPaths known (ps ++ text_at doc field (text_prefix path) ws ∷ [])) (sym put.set) all

  pub text_reach : PathsReachTo doc paths → PathsReachTo doc after
  text_reach reach =
      let put = put_last in
      let one = subst (PathsReachTo doc) (sym is) (reach_paths paths field doc (opened_path doc h.old) refl reach) in
      subst (PathsReachTo doc) (sym put.set) (reach_paths opened field doc put.new put.doc one)

  pub text_length : length after ≡ length paths
  text_length =
      let put = put_last in
      ap length put.set ∙ length-set opened field put.new ∙ ap length is ∙ length-set paths field (opened_path doc h.old)
