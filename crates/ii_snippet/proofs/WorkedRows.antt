-- Worked rows: the tokens of `the sea and the old sea`, of which `sea` and `old` are wanted.
use Rattle.std.proofs.Common.{◌≡◌, ◌∷◌, [], List, None, Some, false, true, codes, map, refl}
use Rattle.serde_json.specs.Data.{Items, array, item, no_items, null, string}
use Rattle.ii_snippet.specs.declared.windows.SnippetToken.{SnippetToken}
use Rattle.ii_snippet.specs.FieldTexts.{texts_of}
use Rattle.ii_snippet.specs.Fragments.{Piece, cut, is_boundary, pieces_of}
use Rattle.ii_snippet.specs.Marks.{html_char, terminal_char}
use Rattle.ii_snippet.specs.Windows.{num_different, shown_from, span, weight, window, window_weight}

abbrev the_first : SnippetToken
the_first = record { offset_from = 0; offset_to = 3; wanted = None }

abbrev sea_first : SnippetToken
sea_first = record { offset_from = 4; offset_to = 7; wanted = Some 0 }

abbrev and_word : SnippetToken
and_word = record { offset_from = 8; offset_to = 11; wanted = None }

abbrev the_second : SnippetToken
the_second = record { offset_from = 12; offset_to = 15; wanted = None }

abbrev old_word : SnippetToken
old_word = record { offset_from = 16; offset_to = 19; wanted = Some 1 }

abbrev sea_second : SnippetToken
sea_second = record { offset_from = 20; offset_to = 23; wanted = Some 0 }

abbrev row : List SnippetToken
row = the_first ∷ sea_first ∷ and_word ∷ the_second ∷ old_word ∷ sea_second ∷ []

different_words : num_different (1 ∷ 0 ∷ 1 ∷ 1 ∷ []) ≡ 2
different_words = refl

two_words_weigh : weight (1 ∷ 0 ∷ 1 ∷ []) ≡ 8589934595
two_words_weigh = refl

-- a window begins with a wanted word, or weighs nothing
windows_weigh : (window_weight 3 row 0 ∷ window_weight 3 row 1 ∷ window_weight 3 row 4 ∷ window_weight 3 row 5 ∷ []) ≡ (0 ∷ 4294967297 ∷ 8589934594 ∷ 4294967297 ∷ [])
windows_weigh = refl

spans : (span row ∷ span (window 3 row 1) ∷ span (window 3 row 4) ∷ span (window 1 row 0) ∷ []) ≡ (6 ∷ 1 ∷ 2 ∷ 0 ∷ [])
spans = refl

-- the shown tokens begin before the window, so that it is in the middle, or that none is missing at the end
begin_before : (shown_from 3 row 4 ∷ shown_from 5 row 1 ∷ shown_from 10 row 4 ∷ []) ≡ (3 ∷ 1 ∷ 0 ∷ [])
begin_before = refl

-- the shown text in pieces
old_sea : map (λ (p : Piece). p.text) (pieces_of (codes "the sea and the old sea") (window 3 row 3)) ≡ (codes "the " ∷ codes "old" ∷ codes " " ∷ codes "sea" ∷ [] ∷ [])
old_sea = refl

wanted_pieces : map (λ (p : Piece). p.is_wanted) (pieces_of (codes "the sea and the old sea") (window 3 row 3)) ≡ (false ∷ true ∷ false ∷ true ∷ false ∷ [])
wanted_pieces = refl

-- a text of a letter of two bytes isn't cut inside it
boundaries : (is_boundary (195 ∷ 164 ∷ 98 ∷ []) 0 ∷ is_boundary (195 ∷ 164 ∷ 98 ∷ []) 1 ∷ is_boundary (195 ∷ 164 ∷ 98 ∷ []) 2 ∷ is_boundary (195 ∷ 164 ∷ 98 ∷ []) 4 ∷ []) ≡ (true ∷ false ∷ true ∷ false ∷ [])
boundaries = refl

cuts : (cut (195 ∷ 164 ∷ 98 ∷ []) 0 2 ∷ cut (195 ∷ 164 ∷ 98 ∷ []) 0 1 ∷ cut (195 ∷ 164 ∷ 98 ∷ []) 2 0 ∷ []) ≡ ((195 ∷ 164 ∷ []) ∷ [] ∷ [] ∷ [])
cuts = refl

characters : (html_char 60 ∷ html_char 97 ∷ terminal_char 27 ∷ terminal_char 155 ∷ []) ≡ ((38 ∷ 108 ∷ 116 ∷ 59 ∷ []) ∷ (97 ∷ []) ∷ (239 ∷ 191 ∷ 189 ∷ []) ∷ (239 ∷ 191 ∷ 189 ∷ []) ∷ [])
unfolding lib.Utf8.encode
characters = refl

-- an array of two texts, and null
abbrev old_and_sea : Items
old_and_sea = item (string (codes "old")) (item null (item (string (codes "sea")) no_items))

texts_of_an_array : texts_of (Some (array old_and_sea)) ≡ codes "old" ∷ codes "sea" ∷ []
texts_of_an_array = refl

texts_of_a_text : texts_of (Some (string (codes "old"))) ≡ codes "old" ∷ []
texts_of_a_text = refl

texts_of_no_value : texts_of None ≡ []
texts_of_no_value = refl
