-- Addresses and bytes in texts of queries, each computed.
use Rattle.std.specs.Prelude.{◌≡◌, ℕ, List, [], ◌∷◌, ◌++◌, Some, codes, filter, refl, replicate}
use Rattle.std.specs.Net.Reader.{read_ipv4, read_ipv6, read_number, read_octet, read_segment, read_segments}
use Rattle.hex.specs.Hex.{decode_pairs}
use Rattle.ii_base.specs.AsciiWords.{ascii_words}
use Rattle.ii_definitions.specs.Tokens.{Call, IndexToken, tokens_of, value}
use Rattle.ii_query_grammar.specs.Lexemes.{set_values, tokens}
use Rattle.ii_term_text.specs.Addresses.{address_in, segments_in}
use Rattle.ii_query_parser.specs.QueryTexts.{text_matches_by}
use Rattle.ii_query_parser.specs.declared.query_parser_error.QueryParserError.TheVariants as errors
use Rattle.ii_query_parser.proofs.RangeRows.{fields, refusal_of}

-- a key of a document
abbrev kept : ℕ → ℕ → List ℕ → Call
kept doc field key = record { doc = doc; field = field; content = value key }

-- the key of an IPv4 address
abbrev mapped : List ℕ → List ℕ
mapped octets = replicate 10 0 ++ 0xFF ∷ 0xFF ∷ octets

-- 10.0.0.5, 10.0.0.40, 10.0.1.0, ::1, and two bytes
abbrev values : List IndexToken
values =
    tokens_of ascii_words
    (kept 0 3 (mapped (10 ∷ 0 ∷ 0 ∷ 5 ∷ [])) ∷ kept 1 3 (mapped (10 ∷ 0 ∷ 0 ∷ 40 ∷ [])) ∷ kept 2 3 (mapped (10 ∷ 0 ∷ 1 ∷ 0 ∷ [])) ∷ kept 3 3 (replicate 15 0 ++ 1 ∷ []) ∷ kept 4 4 (0 ∷ 0xFF ∷ []) ∷ [])

abbrev docs_of : List ℕ → List ℕ
docs_of query = filter (λ (doc : ℕ). text_matches_by fields query values doc) (0 ∷ 1 ∷ 2 ∷ 3 ∷ 4 ∷ [])

abbrev one_address : docs_of (codes "ip:10.0.0.40") ≡ 1 ∷ []
unfolding tokens address_in segments_in read_ipv4 read_octet read_number
one_address = refl

abbrev in_version_six : docs_of (codes "ip:\"::ffff:a00:5\"") ≡ 0 ∷ []
unfolding tokens address_in segments_in read_ipv4 read_octet read_number read_ipv6 read_segments read_segment
in_version_six = refl

-- by their numbers, of which texts are in another order
abbrev addresses_between : docs_of (codes "ip:[10.0.0.5 TO 10.0.1.0}") ≡ 0 ∷ 1 ∷ []
unfolding tokens address_in segments_in read_ipv4 read_octet read_number
addresses_between = refl

abbrev addresses_above : docs_of (codes "ip:{\"::1\" TO *]") ≡ 0 ∷ 1 ∷ 2 ∷ []
unfolding tokens address_in segments_in read_ipv4 read_octet read_number read_ipv6 read_segments read_segment
addresses_above = refl

abbrev set_of_addresses : docs_of (codes "ip:IN [10.0.1.0 \"::1\" 10.0.0.6]") ≡ 2 ∷ 3 ∷ []
unfolding tokens set_values address_in segments_in read_ipv4 read_octet read_number read_ipv6 read_segments read_segment
set_of_addresses = refl

abbrev one_value_of_bytes : docs_of (codes "mark:00Ff") ≡ 4 ∷ []
unfolding tokens decode_pairs
one_value_of_bytes = refl

abbrev bytes_between : docs_of (codes "mark:[00 TO 00ff]") ≡ 4 ∷ []
unfolding tokens decode_pairs
bytes_between = refl

abbrev no_address : refusal_of (codes "ip:>a") ≡ Some (errors.ExpectedIpAddr 3)
unfolding tokens address_in segments_in read_ipv4 read_octet read_number read_ipv6 read_segments read_segment
no_address = refl

abbrev no_address_in_set : refusal_of (codes "ip:IN [10.0.0.256]") ≡ Some (errors.ExpectedIpAddr 3)
unfolding tokens set_values address_in segments_in read_ipv4 read_octet read_number read_ipv6 read_segments read_segment
no_address_in_set = refl

abbrev no_bytes : refusal_of (codes "mark:0") ≡ Some (errors.ExpectedBytes 4)
unfolding tokens decode_pairs
no_bytes = refl
