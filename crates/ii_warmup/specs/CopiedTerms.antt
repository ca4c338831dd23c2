-- Terms that were copied, each with its bytes after those of the previous one.
use Rattle.std.specs.Prelude.{ℕ, ◌+◌, Bool, List, [], ◌∷◌, ◌++◌, length}
use Rattle.ii_termstore.specs.declared.term_info.TermInfo.{TermInfo}
use Rattle.ii_termstore.specs.TermInfos.{term_info_from}

-- the terms that were copied: their keys and infos, the bytes before their postings, and those of their postings and positions
pub record CopiedTermsState : Type 0 where
  pub keys : List (List ℕ)
  pub infos : List TermInfo
  pub count : List ℕ
  pub postings : List ℕ
  pub positions : List ℕ
  pub closed : Bool

-- these terms, and one more whose bytes follow theirs
abbrev pub with_copy : CopiedTermsState → List ℕ → ℕ → List ℕ → List ℕ → CopiedTermsState
with_copy s key doc_freq postings positions = record {
  keys = s.keys ++ key ∷ [];
  infos = s.infos ++ term_info_from doc_freq (length s.postings) (length s.postings + length postings) (length s.positions) (length s.positions + length positions) ∷ [];
  count = s.count;
  postings = s.postings ++ postings;
  positions = s.positions ++ positions;
  closed = s.closed;
}
