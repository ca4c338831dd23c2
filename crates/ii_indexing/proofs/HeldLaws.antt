-- Tokens under the keys that terms hold: with the ids of their paths.
use Rattle.std.proofs.Common.{◌≡◌, ℕ, zero, suc, ◌+◌, ◌≤◌, ◌^◌, ◌==◌, Bool, true, false, List, [], ◌∷◌, ◌++◌, map, length, cond, Some, None, Option, refl, sym, ap, ◌∙◌, arith, length-append}
use Rattle.std.specs.Prelude.{if◌then◌else◌, nat_lt, bytes_eq, slice_get, unwrap_or}
use Rattle.std.specs.List.{AllByRecursion, find, list_any, position_or_len}
use Rattle.std.specs.Option.{option_map}
use Rattle.std.proofs.lemmas.Cmp.{nat_list_eq_equiv}
use Rattle.std.proofs.lemmas.List.{map-append}
use Rattle.std.proofs.lemmas.List.Folds.{list_any-append}
use Rattle.std.proofs.lemmas.List.Sums.{sum_by-cons}
use Rattle.ii_io.specs.Steps.{◌>>=◌}
use Rattle.ii_io.specs.declared.faults.Fault.{Fault}
use Rattle.ii_io.specs.declared.faults.Fault.TheVariants.{Limit}
use Rattle.ii_io.specs.declared.faults.LimitName.TheVariants as limit
use Rattle.ii_base.specs.Schema.{SchemaEntry}
use Rattle.ii_base.specs.Values.{json_key}
use Rattle.ii_base.specs.Words.{Word}
use Rattle.ii_base.specs.declared.schema.index_record_option.IndexRecordOption.{IndexRecordOption}
use Rattle.ii_base.specs.declared.schema.index_record_option.IndexRecordOption.TheVariants.{Basic}
use Rattle.ii_base.specs.declared.schema.value_type.ValueType.{ValueType}
use Rattle.ii_base.specs.Options.{downgrade}
use Rattle.ii_base.specs.Entries.{Entry as DocEntry}
use Rattle.ii_definitions.proofs.ListLaws.{all_both}
use Rattle.ii_definitions.specs.Cut.{cut_entry}
use Rattle.ii_definitions.specs.JsonKeys.{is_json, path_in, type_in, type_of_code, type_under}
use Rattle.ii_definitions.specs.Postings.{field_count, grouped, kind_of, postings_from, tokens_at}
use Rattle.ii_definitions.specs.Tokens.{IndexToken, Piece, word_token}
use Rattle.ii_json.specs.LeafVisit.{first_fault}
use Rattle.ii_json.specs.Paths.{AreDistinct, is_known, path_fault, path_id, with_path}
use Rattle.ii_recorder.specs.Recorded.{begun}
use Rattle.ii_postings_writer.specs.IndexingTerm.{field_bytes}
use Rattle.ii_postings_writer.specs.PostingsWriter.{kept_as}
use Rattle.ii_postings_writer.specs.ResolvedTerms.{AreClean, HasPath, IsKnownToken, behind_path, held_key, held_token, held_value, is_json_field, json_fields}
use Rattle.ii_postings_writer.specs.WordRefusals.{open_entry, word_fault, words_fault}
use Rattle.ii_postings_writer.proofs.ResolvedRecords.{grouped_held, kind_held, tokens_held}
use Rattle.ii_indexing.specs.IndexedTerms.{AreKnownPaths, TakesTexts, held_kept_at, held_kept_under, held_type, kept_at, kept_under}

module _ (flags : List Bool) (paths : List (List ℕ)) where
  pub count_held : (field : ℕ) (ts : List IndexToken) → field_count field (map (held_token flags paths) ts) ≡ field_count field ts
  count_held field [] = refl
  count_held field (t ∷ ts) =
      sum_by-cons (λ (u : IndexToken). cond (u.field == field) 1 0) (held_token flags paths t) (map (held_token flags paths) ts)
      ∙ ap (λ (n : ℕ). cond (t.field == field) 1 0 + n) (count_held field ts)
      ∙ sym (sum_by-cons (λ (u : IndexToken). cond (u.field == field) 1 0) t ts)

  postings_held : (option requested : IndexRecordOption) (ts : List IndexToken) → postings_from option requested (map (held_token flags paths) ts) ≡ postings_from option requested ts
  postings_held option requested ts =
      ap (λ (o : IndexRecordOption). map (cut_entry (downgrade o requested)) (grouped (map (held_token flags paths) ts))) (kind_held flags paths option ts)
      ∙ ap (map (cut_entry (downgrade (kind_of option ts) requested))) (grouped_held flags paths ts)

-- A text's words, and what is held of them.
module _ (entries : List SchemaEntry) (paths : List (List ℕ)) (ok : AreKnownPaths paths) (p q : Piece) (same_field : q.field ≡ p.field) (same_doc : q.doc ≡ p.doc) (takes : TakesTexts entries paths p.field q.prefix p.prefix) where
  abbrev flags : List Bool
  flags = json_fields entries

  word_held : (begin : ℕ) (w : Word) → held_token flags paths (word_token p begin w) ≡ word_token q begin w
  word_held begin w =
      ap (λ (key : List ℕ). record (word_token p begin w) { key = key }) (takes.holds w.text)
      ∙ ap (λ (f : ℕ). record (record (word_token p begin w) { key = q.prefix ++ w.text }) { field = f }) (sym same_field)
      ∙ ap (λ (d : ℕ). record (record (word_token p begin w) { key = q.prefix ++ w.text; field = q.field }) { doc = d }) (sym same_doc)

  pub words_held : (begin : ℕ) (ws : List Word) → map (held_token flags paths) (map (word_token p begin) ws) ≡ map (word_token q begin) ws
  words_held begin [] = refl
  words_held begin (w ∷ ws) = ap (λ (t : IndexToken). t ∷ map (held_token flags paths) (map (word_token p begin) ws)) (word_held begin w) ∙ ap (λ (ts : List IndexToken). word_token q begin w ∷ ts) (words_held begin ws)

  word_known : (begin : ℕ) (w : Word) → IsKnownToken flags paths (word_token p begin w)
  word_known begin w json = takes.has_path w.text json

  pub words_known : (begin : ℕ) (ws : List Word) → AllByRecursion (IsKnownToken flags paths) (map (word_token p begin) ws)
  words_known begin [] = tt
  words_known begin (w ∷ ws) = (word_known begin w, words_known begin ws)

  pub keys_held : (ts : List IndexToken) (key : List ℕ) → AllByRecursion (IsKnownToken flags paths) ts → tokens_at p.field (q.prefix ++ key) (map (held_token flags paths) ts) ≡ map (held_token flags paths) (tokens_at p.field (p.prefix ++ key) ts)
  keys_held ts key known =
      ap (λ (k : List ℕ). tokens_at p.field k (map (held_token flags paths) ts)) (sym (takes.holds key))
      ∙ tokens_held flags paths ok.distinct ok.clean ok.few ts p.field (p.prefix ++ key) known (λ json. takes.has_path key json)

  entry_held : (option : IndexRecordOption) (ts : List IndexToken) (begin : ℕ) (w : Word) → AllByRecursion (IsKnownToken flags paths) ts → open_entry option (word_token q begin w) (map (held_token flags paths) ts) ≡ open_entry option (word_token p begin w) ts
  entry_held option ts begin w known =
      let at_field : tokens_at q.field (q.prefix ++ w.text) (map (held_token flags paths) ts) ≡ map (held_token flags paths) (tokens_at p.field (p.prefix ++ w.text) ts)
      = ap (λ (f : ℕ). tokens_at f (q.prefix ++ w.text) (map (held_token flags paths) ts)) same_field ∙ keys_held ts w.text known in
      let postings = ap (postings_from option option) at_field ∙ postings_held flags paths option option (tokens_at p.field (p.prefix ++ w.text) ts) in
      ap (λ (es : List DocEntry). unwrap_or (find (λ (e : DocEntry). e.doc == q.doc) es) (begun option q.doc)) postings
      ∙ ap (λ (d : ℕ). unwrap_or (find (λ (e : DocEntry). e.doc == d) (postings_from option option (tokens_at p.field (p.prefix ++ w.text) ts))) (begun option d)) same_doc

  fault_held : (option : IndexRecordOption) (ts : List IndexToken) (begin n : ℕ) (w : Word) → AllByRecursion (IsKnownToken flags paths) ts → word_fault option q begin n (map (held_token flags paths) ts) w ≡ word_fault option p begin n ts w
  fault_held option ts begin n w known =
      let counted : field_count q.field (map (held_token flags paths) ts) ≡ field_count p.field ts = ap (λ (f : ℕ). field_count f (map (held_token flags paths) ts)) same_field ∙ count_held flags paths p.field ts in
      rw (counted, entry_held option ts begin w known) refl

  pub words_fault_held : (option : IndexRecordOption) (ts : List IndexToken) (begin n : ℕ) (ws : List Word) → AllByRecursion (IsKnownToken flags paths) ts → words_fault option q begin n (map (held_token flags paths) ts) ws ≡ words_fault option p begin n ts ws
  words_fault_held option ts begin n [] known = refl
  words_fault_held option ts begin n (w ∷ ws) known =
      let more : map (held_token flags paths) ts ++ word_token q begin w ∷ [] ≡ map (held_token flags paths) (ts ++ word_token p begin w ∷ [])
      = ap (λ (t : IndexToken). map (held_token flags paths) ts ++ t ∷ []) (sym (word_held begin w)) ∙ sym (map-append (held_token flags paths) ts (word_token p begin w ∷ [])) in
      ap (λ (f : Option Fault). first_fault f (words_fault option q begin (n + 1) (map (held_token flags paths) ts ++ word_token q begin w ∷ []) ws)) (fault_held option ts begin n w known)
      ∙ ap (λ (us : List IndexToken). first_fault (word_fault option p begin n ts w) (words_fault option q begin (n + 1) us ws)) more
      ∙ ap (first_fault (word_fault option p begin n ts w)) (words_fault_held option (ts ++ word_token p begin w ∷ []) begin (n + 1) ws (all_both (IsKnownToken flags paths) ts (word_token p begin w ∷ []) known (word_known begin w, tt)))

-- a path that becomes known changes no other one's id
place_kept : (p : List ℕ → Bool) (xs ys : List (List ℕ)) → list_any p xs ≡ true → position_or_len p (xs ++ ys) ≡ position_or_len p xs
place_kept p [] ys some = absurd (cc)
place_kept p (x ∷ xs) ys some = by (p x) refl (place_kept p xs ys)
  where
    by : (b : Bool) → p x ≡ b → (list_any p xs ≡ true → position_or_len p (xs ++ ys) ≡ position_or_len p xs) → position_or_len p ((x ∷ xs) ++ ys) ≡ position_or_len p (x ∷ xs)
    by true is rest = rw is refl
    by false is rest = rw is (omega (arith, rest (sym (rw is refl) ∙ some)))

pub id_kept : (known : List (List ℕ)) (path q : List ℕ) → is_known known q ≡ true → path_id (with_path known path) q ≡ path_id known q
id_kept known path q is = by (is_known known path)
  where
    by : (b : Bool) → path_id (if b then known else known ++ path ∷ []) q ≡ path_id known q
    by true = refl
    by false = place_kept (bytes_eq q) known (path ∷ []) is

pub known_kept : (known : List (List ℕ)) (path q : List ℕ) → is_known known q ≡ true → is_known (with_path known path) q ≡ true
known_kept known path q is = by (is_known known path)
  where
    by : (b : Bool) → is_known (if b then known else known ++ path ∷ []) q ≡ true
    by true = is
    by false = list_any-append (bytes_eq q) known (path ∷ []) ∙ rw is refl

-- an unknown path's id is above those of known paths
pub unknown_id : (known : List (List ℕ)) (q : List ℕ) → is_known known q ≡ false → path_id known q ≡ length known
unknown_id [] q none = refl
unknown_id (x ∷ xs) q none = by (bytes_eq q x) refl (unknown_id xs q)
  where
    by : (b : Bool) → bytes_eq q x ≡ b → (is_known xs q ≡ false → path_id xs q ≡ length xs) → path_id (x ∷ xs) q ≡ length (x ∷ xs)
    by true is rest = let some : true ≡ false = sym (rw is refl) ∙ none in absurd (cc)
    by false is rest = rw is (omega (arith, rest (sym (rw is refl) ∙ none)))

-- the id that a path got
unknown_place : (q : List ℕ) (xs : List (List ℕ)) → list_any (bytes_eq q) xs ≡ false → position_or_len (bytes_eq q) (xs ++ q ∷ []) ≡ position_or_len (bytes_eq q) xs
unknown_place q [] none = rw (nat_list_eq_equiv.refl q) refl
unknown_place q (x ∷ xs) none = by (bytes_eq q x) refl (unknown_place q xs)
  where
    by : (b : Bool) → bytes_eq q x ≡ b → (list_any (bytes_eq q) xs ≡ false → position_or_len (bytes_eq q) (xs ++ q ∷ []) ≡ position_or_len (bytes_eq q) xs) → position_or_len (bytes_eq q) ((x ∷ xs) ++ q ∷ []) ≡ position_or_len (bytes_eq q) (x ∷ xs)
    by true is rest = let some : true ≡ false = sym (rw is refl) ∙ none in absurd (cc)
    by false is rest = rw is (omega (arith, rest (sym (rw is refl) ∙ none)))

pub own_id : (known : List (List ℕ)) (path : List ℕ) → (is_known (with_path known path) path ≡ true) × (path_id (with_path known path) path ≡ path_id known path)
own_id known path = by (is_known known path) refl
  where
    by : (b : Bool) → is_known known path ≡ b → (is_known (with_path known path) path ≡ true) × (path_id (with_path known path) path ≡ path_id known path)
    by true is = (known_kept known path path is, id_kept known path path is)
    by false is = (
      rw is (list_any-append (bytes_eq path) known (path ∷ []) ∙ rw (is, nat_list_eq_equiv.refl path) refl),
      rw is (unknown_place path known is),
    )

module _ (flags : List Bool) (known : List (List ℕ)) (path : List ℕ) where
  key_kept : (field : ℕ) (key : List ℕ) → (is_json_field flags field ≡ true → HasPath known key) → held_key flags (with_path known path) field key ≡ held_key flags known field key
  key_kept field key has = by (is_json_field flags field) refl
    where
      by : (b : Bool) → is_json_field flags field ≡ b → (if b then held_value (path_id (with_path known path) (path_in key)) (behind_path key) else key) ≡ (if b then held_value (path_id known (path_in key)) (behind_path key) else key)
      by true is = ap (λ (i : ℕ). held_value i (behind_path key)) (id_kept known path (path_in key) (has is).known)
      by false is = refl

  pub tokens_kept : (ts : List IndexToken) → AllByRecursion (IsKnownToken flags known) ts → map (held_token flags (with_path known path)) ts ≡ map (held_token flags known) ts
  tokens_kept [] all = refl
  tokens_kept (t ∷ ts) all =
      ap (λ (key : List ℕ). record t { key = key } ∷ map (held_token flags (with_path known path)) ts) (key_kept t.field t.key all.0)
      ∙ ap (λ (us : List IndexToken). held_token flags known t ∷ us) (tokens_kept ts all.1)

  pub still_known : (ts : List IndexToken) → AllByRecursion (IsKnownToken flags known) ts → AllByRecursion (IsKnownToken flags (with_path known path)) ts
  still_known [] all = tt
  still_known (t ∷ ts) all = ((λ json. let has = all.0 json in record { known = known_kept known path (path_in t.key) has.known; whole = has.whole }), still_known ts all.1)

clean_more : (known : List (List ℕ)) (path : List ℕ) → AreClean known → AreClean (path ∷ []) → AreClean (with_path known path)
clean_more known path clean none = by (is_known known path)
  where
    by : (b : Bool) → AreClean (if b then known else known ++ path ∷ [])
    by true = clean
    by false = all_both _ known (path ∷ []) clean none

pub paths_more : (known : List (List ℕ)) (path : List ℕ) → AreKnownPaths known → AreClean (path ∷ []) → path_fault known path ≡ None → AreDistinct (with_path known path) → AreKnownPaths (with_path known path)
paths_more known path ok none fits distinct = record { distinct = distinct; clean = clean_more known path ok.clean none; few = by (is_known known path) (nat_lt (length known) (2 ^ 32)) refl refl }
  where
    by : (a b : Bool) → is_known known path ≡ a → nat_lt (length known) (2 ^ 32) ≡ b → length (with_path known path) ≤ 2 ^ 32
    by true b is low = rw is ok.few
    by false true is low = rw is (grind (arith, low, length-append known (path ∷ [])))
    by false false is low = let fault : path_fault known path ≡ Some (Limit limit.Paths) = rw (is, low) refl in let none_is : Some (Limit limit.Paths) ≡ None = sym fault ∙ fits in absurd (cc)

-- what is kept of a key is kept of what is held of it
after_zero : (path rest : List ℕ) → slice_get (json_key path rest) (length path + 1) ≡ slice_get rest 0
after_zero [] rest = refl
after_zero (b ∷ bs) rest =
    let next : length (b ∷ bs) + 1 ≡ suc (length bs + 1) = omega arith in
    ap (slice_get (b ∷ json_key bs rest)) next ∙ after_zero bs rest

pub after_id : (id : ℕ) (rest : List ℕ) → slice_get (field_bytes id ++ rest) 4 ≡ slice_get rest 0
unfolding field_bytes
after_id id rest = refl

type_held : (key : List ℕ) → key ≡ json_key (path_in key) (behind_path key) → type_in key ≡ (slice_get (behind_path key) 0 >>= type_of_code)
unfolding type_in
type_held key whole = ap (λ (o : Option ℕ). o >>= type_of_code) (ap (λ (k : List ℕ). slice_get k (length (path_in key) + 1)) whole ∙ after_zero (path_in key) (behind_path key))

flag_of : (entries : List SchemaEntry) (field : ℕ) (e : SchemaEntry) → slice_get entries field ≡ Some e → is_json_field (json_fields entries) field ≡ is_json e.value_type
flag_of [] field e found = absurd (cc)
flag_of (f ∷ fs) zero e found = let same : f ≡ e = cc in ap (λ (x : SchemaEntry). is_json x.value_type) same
flag_of (f ∷ fs) (suc field) e found = flag_of fs field e found

pub json_flag : (entries : List SchemaEntry) (field : ℕ) (e : SchemaEntry) (b : Bool) → slice_get entries field ≡ Some e → is_json e.value_type ≡ b → is_json_field (json_fields entries) field ≡ b
json_flag entries field e b found is = flag_of entries field e found ∙ is

pub kept_held : (entries : List SchemaEntry) (paths : List (List ℕ)) (field : ℕ) (key : List ℕ) → (is_json_field (json_fields entries) field ≡ true → HasPath paths key)
    → held_kept_at entries field (held_key (json_fields entries) paths field key) ≡ kept_at entries field key
kept_held entries paths field key has = by (slice_get entries field) refl
  where
    in_entry : (e : SchemaEntry) → (b : Bool) → is_json e.value_type ≡ b → is_json_field (json_fields entries) field ≡ b → held_type e.value_type (held_key (json_fields entries) paths field key) ≡ type_under e.value_type key
    in_entry e false is flag = rw is refl
    in_entry e true is flag =
        let h = has flag in
        let id = path_id paths (path_in key) in
        let held : held_key (json_fields entries) paths field key ≡ held_value id (behind_path key) = rw flag refl in
        rw (is, held, after_id id (behind_path key), type_held key h.whole) refl

    by : (o : Option SchemaEntry) → slice_get entries field ≡ o → unwrap_or (option_map (held_kept_under (held_key (json_fields entries) paths field key)) o) Basic ≡ unwrap_or (option_map (kept_under key) o) Basic
    by None is = refl
    by (Some e) is = ap (λ (t : ValueType). kept_as t e.option) (in_entry e (is_json e.value_type) refl (flag_of entries field e is))
