-- The weight of a term with the norms of its field, and which documents of a term score too little.
use Rattle.std.specs.Prelude.{◌≡◌, ⊤, ℕ, ◌<◌, ◌≤◌, List, Option, None, Some}
use Rattle.std.specs.Option.{option_map}
use Rattle.ii_base.specs.Entries.{Entry}
use Rattle.ii_bm25.specs.Bm25.{Bm25State, bm25_score}
use Rattle.ii_docset.specs.Cursor.{IsSound, doc_at, from_doc}
use Rattle.ii_fieldnorm.specs.Readers.{Norms}
use Rattle.ii_scorer.specs.Scorers.{IsBelow}
use Rattle.ii_ranking.specs.NormIds.{id_among}
use Rattle.ii_ranking.specs.Scores.{entry_at}

-- the weight of a term, and the norms of its field
pub record TermWeightState : Type 0 where
  pub weight : Bm25State
  pub norms : Option Norms

-- Each document has a norm id of one byte, at least this.
abbrev pub IsLeastId : Option Norms → ℕ → Type 0
IsLeastId norms id = (doc : ℕ) → (id ≤ id_among norms doc) × (id_among norms doc < 256)

-- The same, if it is known.
abbrev pub IsKnownId : Option Norms → Option ℕ → Type 0
IsKnownId norms None = ⊤
IsKnownId norms (Some id) = IsLeastId norms id

-- A document in which the term occurs less often than this scores less.
abbrev pub IsFreqFor : TermWeightState → ℕ → ℕ → Type 0
IsFreqFor w least freq = (doc count : ℕ) → count < freq → bm25_score w.weight (id_among w.norms doc) count < least

-- An entry has a term frequency below this, if there is an entry.
abbrev pub IsFewer : ℕ → Option Entry → Type 0
IsFewer freq None = ⊤
IsFewer freq (Some e) = e.term_freq < freq

-- A cursor went to a document from a target on; those between have a term frequency below this.
pub record SkipsFewer (target freq doc : ℕ) (old new : List Entry) : Type 0 where
  pub low : target ≤ doc
  pub current : doc ≡ doc_at new
  pub rest : new ≡ from_doc doc old
  pub sound : IsSound new
  pub passed : (d : ℕ) → target ≤ d → d < doc → IsFewer freq (entry_at old d)

-- what a document scores by its entry
abbrev pub score_by_entry : TermWeightState → ℕ → Option Entry → Option ℕ
score_by_entry w doc found = option_map (λ (e : Entry). bm25_score w.weight (id_among w.norms doc) e.term_freq) found

-- A cursor went to a document from a target on; those between score less than this by their entries.
pub record SkipsLess (score_by : ℕ → Option Entry → Option ℕ) (target least doc : ℕ) (old new : List Entry) : Type 0 where
  pub low : target ≤ doc
  pub current : doc ≡ doc_at new
  pub rest : new ≡ from_doc doc old
  pub sound : IsSound new
  pub passed : (d : ℕ) → target ≤ d → d < doc → IsBelow least (score_by d (entry_at old d))
