-- The numbers that scores need, as they were gathered.
use Rattle.std.specs.Prelude.{ℕ, Bool, ◌&&◌, ◌==◌, List, [], ◌∷◌, bytes_eq, get_or, if◌then◌else◌}
use Rattle.std.specs.List.{list_any}
use Rattle.ii_base.specs.Terms.{TermState}
use Rattle.ii_bm25.specs.Statistics.{Statistics}
use Rattle.ii_ranking.specs.declared.statistics.GatheredStatistics.{GatheredStatistics}
use Rattle.ii_ranking.specs.declared.statistics.TermCount.{TermCount}

-- whether a number is of a field's key
abbrev pub is_of : ℕ → List ℕ → TermCount → Bool
is_of field key c = (c.field == field) && bytes_eq c.key.items key

-- how many documents have a key, by the first number for it; none if there is none
abbrev pub doc_freq_in : List TermCount → ℕ → List ℕ → ℕ
doc_freq_in [] field key = 0
doc_freq_in (c ∷ cs) field key = if is_of field key c then c.doc_freq else doc_freq_in cs field key

-- how many documents have a key, after a number was set for a term: the earlier number, if there is one
abbrev pub doc_freq_after : List TermCount → TermState → ℕ → ℕ → List ℕ → ℕ
doc_freq_after cs term doc_freq field key =
    if list_any (is_of field key) cs then doc_freq_in cs field key
    else if (term.field == field) && bytes_eq term.value key then doc_freq
    else 0

-- the numbers that scores need
abbrev pub statistics_of : GatheredStatistics → Statistics
statistics_of s = record {
  num_docs = s.num_docs;
  num_tokens = λ field. get_or s.num_tokens.items field 0;
  doc_freq = λ field key. doc_freq_in s.terms.items field key;
}
