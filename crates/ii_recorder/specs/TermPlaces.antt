-- The places of a field's terms: keys, infos, the ends of postings and positions, and whether a call failed.
use Rattle.std.specs.Prelude.{ℕ, ◌+◌, Bool, List, ◌∷◌, [], ◌++◌}
use Rattle.ii_termstore.specs.declared.term_info.TermInfo.{TermInfo}
use Rattle.ii_termstore.specs.TermInfos.{term_info_from}

pub record TermPlacesState : Type 0 where
  pub keys : List (List ℕ)
  pub infos : List TermInfo
  pub postings_end : ℕ
  pub positions_end : ℕ
  pub closed : Bool

-- the places with one more term of a given document frequency and size
abbrev pub with_term : TermPlacesState → ℕ → ℕ → ℕ → TermPlacesState
with_term p doc_freq postings positions =
    record p {
      infos = p.infos ++ term_info_from doc_freq p.postings_end (p.postings_end + postings) p.positions_end (p.positions_end + positions) ∷ [];
      postings_end = p.postings_end + postings;
      positions_end = p.positions_end + positions;
    }
