-- Entries that are kept for the tokens of a key.
use Rattle.std.proofs.Common.{◌≡◌, ◌<◌, ◌==◌, ℕ, Bool, true, false, List, [], ◌∷◌, map, nat_le, None, refl}
use Rattle.std.specs.Prelude.{bytes_eq}
use Rattle.std.specs.List.{AllByRecursion, find}
use Rattle.std.specs.Cmp.Lexicographic.{bytes_decides}
use Rattle.std.proofs.lemmas.Bool.{and_parts, eqb-true, lt-leb}
use Rattle.ii_base.specs.Entries.{Entry}
use Rattle.ii_base.specs.declared.schema.index_record_option.IndexRecordOption.{IndexRecordOption}
use Rattle.ii_definitions.specs.Cut.{cut_entry}
use Rattle.ii_definitions.specs.Postings.{is_at, kind_of, occurs, tokens_at}
use Rattle.ii_definitions.specs.Tokens.{IndexToken}

-- of a key whose tokens are of texts the field's option is kept
pub kind_kept : (option : IndexRecordOption) (field : ℕ) (key : List ℕ) (ts : List IndexToken) → AllByRecursion (λ (t : IndexToken). is_at field key t ≡ true → t.of_text ≡ true) ts → kind_of option (tokens_at field key ts) ≡ option
kind_kept option field key [] texts = refl
kind_kept option field key (t ∷ ts) texts = by_case (is_at field key t) refl (kind_kept option field key ts texts.1)
  where
    by_case : (b : Bool) → is_at field key t ≡ b → kind_of option (tokens_at field key ts) ≡ option → kind_of option (tokens_at field key (t ∷ ts)) ≡ option
    by_case true is rest = rw (is, texts.0 is) refl
    by_case false is rest = rw is rest

-- a token of a key has its field and its key
pub at_parts : (field : ℕ) (key : List ℕ) (t : IndexToken) → is_at field key t ≡ true → (t.field ≡ field) × (t.key ≡ key)
at_parts field key t is =
    let parts = and_parts (t.field == field) (bytes_eq t.key key) is in
    (eqb-true t.field field parts.0, (bytes_decides t.key key).0 parts.1)

-- documents of entries stay below where they are cut
pub cut_below : (n : ℕ) (option : IndexRecordOption) (es : List Entry) → AllByRecursion (λ (e : Entry). e.doc < n) es → AllByRecursion (λ (e : Entry). e.doc < n) (map (cut_entry option) es)
cut_below n option [] below = tt
cut_below n option (e ∷ es) below = (below.0, cut_below n option es below.1)

-- so no document is one that the index doesn't have
pub none_stray : (n : ℕ) (es : List Entry) → AllByRecursion (λ (e : Entry). e.doc < n) es → find (λ (e : Entry). nat_le n e.doc) es ≡ None
none_stray n [] below = refl
none_stray n (e ∷ es) below = rw (lt-leb n e.doc below.0) (none_stray n es below.1)

-- a field with tokens of a key has it
pub occurs_at : (field : ℕ) (ts : List IndexToken) → AllByRecursion (λ (t : IndexToken). (t.field == field) ≡ true → occurs field t.key ts ≡ true) ts
occurs_at field ts = each ts (λ key is. is)
  where
    found : (t : IndexToken) (us : List IndexToken) → (t.field == field) ≡ true → occurs field t.key (t ∷ us) ≡ true
    found t us is =
        let same : bytes_eq t.key t.key ≡ true = (bytes_decides t.key t.key).1 refl in
        rw (is, same) refl

    later : (key : List ℕ) (t : IndexToken) (us : List IndexToken) → occurs field key us ≡ true → occurs field key (t ∷ us) ≡ true
    later key t us is = by_case (is_at field key t) refl
      where
        by_case : (b : Bool) → is_at field key t ≡ b → occurs field key (t ∷ us) ≡ true
        by_case true here = rw here refl
        by_case false here = rw here is

    each : (us : List IndexToken) → ((key : List ℕ) → occurs field key us ≡ true → occurs field key ts ≡ true) → AllByRecursion (λ (t : IndexToken). (t.field == field) ≡ true → occurs field t.key ts ≡ true) us
    each [] more = tt
    each (t ∷ us) more = (λ is. more t.key (found t us is), each us (λ key is. more key (later key t us is)))
