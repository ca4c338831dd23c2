-- Calls that are taken: texts whose tokens are in order, and single values.
use Rattle.std.specs.Prelude.{ℕ, ◌≤◌, ⊤, List, [], ◌∷◌, length}
use Rattle.std.specs.List.{sum_by}
use Rattle.ii_base.specs.Words.{Word}
use Rattle.ii_definitions.specs.Tokens.{Call, Content, Piece, end_after, kept_words, leaves, pieces_of, text, value, words}

-- The positions of words don't decrease, from a least one on.
abbrev pub AreInOrder : ℕ → List Word → Type 0
AreInOrder least [] = ⊤
AreInOrder least (w ∷ ws) = (least ≤ w.position) × AreInOrder w.position ws

-- A text whose kept tokens are in order, or a value whose key has at most a million bytes.
abbrev pub IsOrderly : (List ℕ → List Word) → Content → Type 0
IsOrderly analyze (text t) = AreInOrder 0 (kept_words (analyze t))
IsOrderly analyze (words ws) = AreInOrder 0 (kept_words ws)
IsOrderly analyze (value key) = length key ≤ 1000000
IsOrderly analyze (leaves ls) = ⊥

-- the positions that calls take: each text those up to its end
abbrev pub num_positions_of : (List ℕ → List Word) → List Call → ℕ
num_positions_of analyze calls = sum_by (λ (p : Piece). end_after 0 p.words) (pieces_of analyze calls)
