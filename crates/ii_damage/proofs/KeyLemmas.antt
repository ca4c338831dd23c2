-- Walks over the keys of a field.
use Rattle.std.proofs.Common.{◌≡◌, ◌∙◌, ◌+◌, ◌<◌, ◌≤◌, ℕ, zero, suc, Bool, true, false, ◌&&◌, List, [], ◌∷◌, length, drop, nat_lt, None, Some, refl, sym, ap, arith, add-one}
use Rattle.std.specs.Prelude.{if◌then◌else◌, slice_get}
use Rattle.std.specs.List.{list_all}
use Rattle.std.proofs.lemmas.Bool.{lt-ltb}
use Rattle.ii_base.specs.Schema.{SchemaEntry}
use Rattle.ii_termdict.specs.Dictionary.{TermEntry, entry_keys}
use Rattle.ii_termdict.specs.TermStreamer.{TermStreamerState}
use Rattle.ii_reader.specs.InvertedIndexReader.{InvertedIndexReaderState}
use Rattle.ii_reader.proofs.JsonLemmas.{none_past}
use Rattle.ii_damage.specs.Damages.{all_keep_counts, keeps_counts}

-- whether counts are kept of each of these keys
abbrev pub kept_of : SchemaEntry → List TermEntry → Bool
kept_of entry es = list_all (λ (e : TermEntry). keeps_counts entry e.0) es

-- What a loop over the keys of a field knows: counts are kept of all where they are of those that are left.
pub record IsAsking (entry : SchemaEntry) (reader : InvertedIndexReaderState) (terms : TermStreamerState) (ord : ℕ) : Type 0 where
  pub terms_are : terms ≡ record { entries = reader.terms; passed = ord }
  pub left : all_keep_counts entry reader ≡ kept_of entry (drop ord reader.terms)

key_at : (entry : SchemaEntry) (es : List TermEntry) (ord : ℕ) (key : List ℕ) → Some key ≡ slice_get (entry_keys es) ord → kept_of entry (drop ord es) ≡ (keeps_counts entry key && kept_of entry (drop (suc ord) es))
key_at entry [] zero key is = absurd (cc)
key_at entry [] (suc ord) key is = absurd (cc)
key_at entry (e ∷ es) zero key is = let same : key ≡ e.0 = cc in rw same refl
key_at entry (e ∷ es) (suc ord) key is = key_at entry es ord key is

step : (entry : SchemaEntry) (reader : InvertedIndexReaderState) (terms : TermStreamerState) (ord : ℕ) (key : List ℕ) → Some key ≡ slice_get (entry_keys terms.entries) terms.passed → IsAsking entry reader terms ord
    → all_keep_counts entry reader ≡ (keeps_counts entry key && kept_of entry (drop (suc ord) reader.terms))
step entry reader terms ord key is h =
    let there : Some key ≡ slice_get (entry_keys reader.terms) ord = rw h.terms_are at is in
    h.left ∙ key_at entry reader.terms ord key there

-- they are kept of the next key
pub asking_next : (entry : SchemaEntry) (reader : InvertedIndexReaderState) (terms next : TermStreamerState) (ord : ℕ) (key : List ℕ) → ord < length reader.terms → Some key ≡ slice_get (entry_keys terms.entries) terms.passed
    → next ≡ record terms { passed = if nat_lt terms.passed (length terms.entries) then terms.passed + 1 else terms.passed } → keeps_counts entry key ≡ true → IsAsking entry reader terms ord → IsAsking entry reader next (ord + 1)
asking_next entry reader terms next ord key low is next_is kept h =
    let passed : next ≡ record { entries = reader.terms; passed = if nat_lt ord (length reader.terms) then ord + 1 else ord } = rw h.terms_are at next_is in
    record {
      terms_are = passed ∙ (let e = lt-ltb ord (length reader.terms) low in rw e refl);
      left = rw add-one (step entry reader terms ord key is h ∙ ap (λ (b : Bool). b && kept_of entry (drop (suc ord) reader.terms)) kept);
    }

-- or not
pub asking_stops : (entry : SchemaEntry) (reader : InvertedIndexReaderState) (terms : TermStreamerState) (ord : ℕ) (key : List ℕ) → Some key ≡ slice_get (entry_keys terms.entries) terms.passed → keeps_counts entry key ≡ false
    → IsAsking entry reader terms ord → false ≡ all_keep_counts entry reader
asking_stops entry reader terms ord key is other h = sym (step entry reader terms ord key is h ∙ ap (λ (b : Bool). b && kept_of entry (drop (suc ord) reader.terms)) other)
