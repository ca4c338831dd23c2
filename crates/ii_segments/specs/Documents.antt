-- The documents of an index, and segments in which each of them is alive.
use Rattle.std.specs.Prelude.{◌≡◌, ℕ, ◌+◌, true, List, [], ◌∷◌, ◌++◌, length, map, replicate}
use Rattle.std.specs.List.{flat_map}
use Rattle.ii_base.specs.Words.{Word}
use Rattle.ii_definitions.specs.Tokens.{Call, IndexToken, tokens_of}
use Rattle.ii_segments.specs.Segments.{Segment, index_tokens}

-- A document is its calls, whatever its number.
abbrev pub Document : Type 0
Document = List Call

-- the calls of a document under its number
abbrev pub calls_of_doc : ℕ → Document → List Call
calls_of_doc doc calls = map (λ (c : Call). record c { doc = doc }) calls

-- the calls of documents, given the number of the first one
abbrev pub numbered_calls : ℕ → List Document → List Call
numbered_calls doc [] = []
numbered_calls doc (x ∷ xs) = calls_of_doc doc x ++ numbered_calls (doc + 1) xs

-- the tokens of documents, given an analyzer of texts
abbrev pub documents_tokens : (List ℕ → List Word) → List Document → List IndexToken
documents_tokens analyze xs = tokens_of analyze (numbered_calls 0 xs)

-- the segment of documents, each of them alive
abbrev pub segment_of : (List ℕ → List Word) → List Document → Segment
segment_of analyze xs = record { alive = replicate (length xs) true; tokens = documents_tokens analyze xs }

-- Documents indexed in several segments have the tokens of one index of all of them.
abbrev pub SegmentsAreOneIndex : Type 0
SegmentsAreOneIndex = (analyze : List ℕ → List Word) (xss : List (List Document))
    → index_tokens (map (segment_of analyze) xss) ≡ documents_tokens analyze (flat_map (λ (xs : List Document). xs) xss)
