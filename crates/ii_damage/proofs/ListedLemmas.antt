-- Concatenated lists of damages.
use Rattle.std.proofs.Common.{◌≡◌, ◌∙◌, ◌+◌, ◌≤◌, ℕ, zero, suc, Bool, true, List, [], ◌∷◌, ◌++◌, append-nil, append_assoc, drop, length, Option, Some, refl, sym, ap, subst, arith, add-one}
use Rattle.std.specs.Prelude.{is_some, slice_get}
use Rattle.std.specs.List.{enumerate_from, flat_map}
use Rattle.std.specs.Option.{option_to_list}
use Rattle.std.proofs.lemmas.List.Concat.{flat_map-cons}
use Rattle.ii_io.specs.Composite.{table_of}
use Rattle.ii_base.specs.Schema.{SchemaEntry}
use Rattle.ii_reader.specs.InvertedIndexReader.{InvertedIndexReaderState}
use Rattle.ii_damage.specs.Damages.{FoundDamageState, IndexFiles, all_keep_counts, count_damages, damages_of, field_damages, field_entries, kept_norms_damage, table_damages, tokens_damage, num_occurrences}

-- the damages of the numbers of tokens of a field, one after the other
pub counts_listed : (files : IndexFiles) (field : ℕ) (entry : SchemaEntry) (reader : InvertedIndexReaderState) (kept : Bool) (num_tokens : ℕ) (tokens norms : Option FoundDamageState) (first all : List FoundDamageState)
    → is_some (table_of files.terms) ≡ true → kept ≡ all_keep_counts entry reader → num_tokens ≡ reader.num_tokens → tokens ≡ tokens_damage files field kept num_tokens (num_occurrences (field_entries reader))
    → norms ≡ kept_norms_damage files field entry kept (field_entries reader) → first ≡ [] ++ option_to_list tokens → all ≡ first ++ option_to_list norms → all ≡ count_damages files field entry reader
counts_listed files field entry reader kept num_tokens tokens norms first all whole kept_is num_is tokens_is norms_is first_is all_is =
    let t : tokens ≡ tokens_damage files field (all_keep_counts entry reader) reader.num_tokens (num_occurrences (field_entries reader)) = rw (← kept_is, ← num_is) tokens_is in
    let n : norms ≡ kept_norms_damage files field entry (all_keep_counts entry reader) (field_entries reader) = rw (← kept_is) norms_is in
    rw whole (all_is ∙ ap (λ (l : List FoundDamageState). l ++ option_to_list norms) first_is ∙ ap (λ (o : Option FoundDamageState). option_to_list o ++ option_to_list norms) t
    ∙ ap (λ (o : Option FoundDamageState). option_to_list (tokens_damage files field (all_keep_counts entry reader) reader.num_tokens (num_occurrences (field_entries reader))) ++ option_to_list o) n)

-- What a loop over the fields knows: the damages so far, in front of those of the fields that are left, are all.
abbrev pub IsFinding : List SchemaEntry → IndexFiles → ℕ → List FoundDamageState → Type 0
IsFinding entries files id found = damages_of entries files ≡ found ++ flat_map (field_damages files) (drop id (enumerate_from 0 entries))

pub field_at : (entries : List SchemaEntry) (n id : ℕ) (entry : SchemaEntry) → slice_get entries id ≡ Some entry → drop id (enumerate_from n entries) ≡ (n + id, entry) ∷ drop (suc id) (enumerate_from n entries)
field_at [] n id entry is = absurd (cc)
field_at (e ∷ es) n zero entry is =
    let same : e ≡ entry = cc in
    let none : n + 0 ≡ n = omega arith in
    rw (none, same) refl
field_at (e ∷ es) n (suc id) entry is =
    let more : n + suc id ≡ n + 1 + id = omega arith in
    rw more (field_at es (n + 1) id entry is)

-- one field more
pub finding_next : (entries : List SchemaEntry) (files : IndexFiles) (id : ℕ) (entry : SchemaEntry) (found more : List FoundDamageState) → slice_get entries id ≡ Some entry → more ≡ found ++ field_damages files (id, entry)
    → IsFinding entries files id found → IsFinding entries files (id + 1) more
finding_next entries files id entry found more at is h =
    let same : 0 + id ≡ id = omega arith in
    let left : drop id (enumerate_from 0 entries) ≡ (id, entry) ∷ drop (suc id) (enumerate_from 0 entries) = subst (λ (k : ℕ). drop id (enumerate_from 0 entries) ≡ (k, entry) ∷ drop (suc id) (enumerate_from 0 entries)) same (field_at entries 0 id entry at) in
    rw (add-one, is) (h ∙ ap (λ (l : List (ℕ × SchemaEntry)). found ++ flat_map (field_damages files) l) left
    ∙ ap (λ (l : List FoundDamageState). found ++ l) (flat_map-cons (field_damages files) (id, entry) (drop (suc id) (enumerate_from 0 entries)))
    ∙ sym (append_assoc found (field_damages files (id, entry)) (flat_map (field_damages files) (drop (suc id) (enumerate_from 0 entries)))))

pub none_left : (entries : List SchemaEntry) (n id : ℕ) → length entries ≤ id → drop id (enumerate_from n entries) ≡ []
none_left [] n zero end = refl
none_left [] n (suc id) end = refl
none_left (e ∷ es) n zero end = absurd (omega (arith, end))
none_left (e ∷ es) n (suc id) end = none_left es (n + 1) id (omega (arith, end))

-- no field is left
pub finding_ends : (entries : List SchemaEntry) (files : IndexFiles) (id : ℕ) (found : List FoundDamageState) → length entries ≤ id → IsFinding entries files id found → found ≡ damages_of entries files
finding_ends entries files id found end h =
    sym (h ∙ ap (λ (l : List (ℕ × SchemaEntry)). found ++ flat_map (field_damages files) l) (none_left entries 0 id end) ∙ append-nil found)
