-- Keys as text, and texts as keys, computed.
use Rattle.std.proofs.Common.{◌≡◌, false, [], ◌∷◌, ◌++◌, None, Some, codes, decimal, refl}
use Rattle.std.specs.Net.Reader.{read_ipv4, read_ipv6, read_number, read_octet, read_segment, read_segments}
use Rattle.std.specs.Net.Text.{ipv4_text}
use Rattle.hex.specs.Hex.{encode_lower}
use Rattle.ii_dates.proofs.OnLiterals.{dates_on_literals}
use Rattle.ii_base.specs.declared.schema.value_type.ValueType.TheVariants as types
use Rattle.ii_term_text.specs.Addresses.{address_in, segments_in}
use Rattle.ii_term_text.specs.KeyTexts.{key_in, text_of_key}

number_text : text_of_key types.U64 (0 ∷ 0 ∷ 0 ∷ 0 ∷ 0 ∷ 0 ∷ 4 ∷ 210 ∷ []) ≡ decimal 1234
number_text = refl

-- -2 is encoded as 2^63 - 2
signed_text : text_of_key types.I64 (127 ∷ 255 ∷ 255 ∷ 255 ∷ 255 ∷ 255 ∷ 255 ∷ 254 ∷ []) ≡ codes "-" ++ decimal 2
signed_text = refl

-- the keys of -1 and of 1
minus_one_read : key_in types.I64 false (codes "-1") ≡ Some (0x7F ∷ 0xFF ∷ 0xFF ∷ 0xFF ∷ 0xFF ∷ 0xFF ∷ 0xFF ∷ 0xFF ∷ [])
minus_one_read = refl

one_read : key_in types.I64 false (codes "1") ≡ Some (0x80 ∷ 0 ∷ 0 ∷ 0 ∷ 0 ∷ 0 ∷ 0 ∷ 1 ∷ [])
one_read = refl

boolean_key : text_of_key types.Bool (0 ∷ 0 ∷ 0 ∷ 0 ∷ 0 ∷ 0 ∷ 0 ∷ 1 ∷ []) ≡ codes "true"
boolean_key = refl

-- three bytes are no number
short_key : text_of_key types.U64 (1 ∷ 2 ∷ 171 ∷ []) ≡ codes "0x" ++ encode_lower (1 ∷ 2 ∷ 171 ∷ [])
short_key = refl

mapped_key : text_of_key types.IpAddr (0 ∷ 0 ∷ 0 ∷ 0 ∷ 0 ∷ 0 ∷ 0 ∷ 0 ∷ 0 ∷ 0 ∷ 255 ∷ 255 ∷ 192 ∷ 0 ∷ 2 ∷ 33 ∷ []) ≡ ipv4_text (192 ∷ 0 ∷ 2 ∷ 33 ∷ [])
mapped_key = refl

-- an IPv4 address is mapped; the key's first byte is the highest
mapped_read : key_in types.IpAddr false (codes "192.0.2.33") ≡ Some (0 ∷ 0 ∷ 0 ∷ 0 ∷ 0 ∷ 0 ∷ 0 ∷ 0 ∷ 0 ∷ 0 ∷ 255 ∷ 255 ∷ 192 ∷ 0 ∷ 2 ∷ 33 ∷ [])
unfolding address_in segments_in read_ipv4 read_octet read_number
mapped_read = refl

address_read : key_in types.IpAddr false (codes "2001:db8::1") ≡ Some (0x20 ∷ 1 ∷ 0x0D ∷ 0xB8 ∷ 0 ∷ 0 ∷ 0 ∷ 0 ∷ 0 ∷ 0 ∷ 0 ∷ 0 ∷ 0 ∷ 0 ∷ 0 ∷ 1 ∷ [])
unfolding address_in segments_in read_ipv4 read_octet read_number read_ipv6 read_segments read_segment
address_read = refl

-- the value 5 at the key "x y" under the key "a.b"
path_read : key_in types.Json false (codes "a\\.b.x\\ y u 5") ≡ Some (97 ∷ 46 ∷ 98 ∷ 1 ∷ 120 ∷ 32 ∷ 121 ∷ 0 ∷ 117 ∷ 0 ∷ 0 ∷ 0 ∷ 0 ∷ 0 ∷ 0 ∷ 0 ∷ 5 ∷ [])
path_read = refl

-- another spelling of a number, and a text that spells none
padded_number : key_in types.U64 false (codes "007") ≡ Some (0 ∷ 0 ∷ 0 ∷ 0 ∷ 0 ∷ 0 ∷ 0 ∷ 7 ∷ [])
padded_number = refl

no_number : key_in types.U64 false (codes "seven") ≡ None
no_number = refl

no_letter_x : key_in types.Json false (codes "a x 5") ≡ None
no_letter_x = refl

-- the first instant of 1990 is 631,152,000,000,000,000 nanoseconds, which with 2^63 is 88C24D6667470000
date_key : text_of_key types.Date (0x88 ∷ 0xC2 ∷ 0x4D ∷ 0x66 ∷ 0x67 ∷ 0x47 ∷ 0 ∷ 0 ∷ []) ≡ codes "1990-01-01T00:00:00Z"
unfolding dates_on_literals
date_key = refl

-- the first of 2001, spelled with an offset
date_read : key_in types.Date false (codes "2001-01-01T01:00:00+01:00") ≡ Some (0x8D ∷ 0x93 ∷ 0xA5 ∷ 0x37 ∷ 0x11 ∷ 0x35 ∷ 0 ∷ 0 ∷ [])
unfolding dates_on_literals
date_read = refl
