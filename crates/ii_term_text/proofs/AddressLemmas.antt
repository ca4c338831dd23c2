-- Which address a text spells, by std's grammar of addresses.
use Rattle.std.proofs.Common.{◌≡◌, ◌∙◌, ℕ, List, [], ◌∷◌, Some, None, append-nil, length, lit≤, refl, subst, sym}
use Rattle.std.proofs.Math.Dec.{eqb-suc-zero}
use Rattle.std.specs.Net.Grammar.{IsColonHex, IsDotted, IsIpv4Text, IsIpv6Text}
use Rattle.std.specs.Net.Reader.{Read, read_ipv4, read_ipv6, whole_value}
use Rattle.std.specs.declared.net.ipv4_addr.Ipv4Addr.{Ipv4Addr}
use Rattle.std.specs.declared.net.ipv6_addr.Ipv6Addr.{Ipv6Addr}
use Rattle.std.proofs.NetLemmas.Ipv4.{read_ipv4_complete, read_ipv4_sound}
use Rattle.std.proofs.NetLemmas.Ipv6.{EndsGroups-nil, IsDotted-not_colon_hex, read_ipv6_complete, read_ipv6_sound}
use Rattle.ii_term_text.specs.Addresses.{mapped, segments_in}

-- a reader that leaves something, or reads nothing, has no complete value
not_whole : (r : Read (List ℕ)) → ((value : List ℕ) → r ≡ Some (value, []) → ⊥) → whole_value r ≡ None
not_whole None none = refl
not_whole (Some (value, [])) none = absurd (none value refl)
not_whole (Some (value, byte ∷ bytes)) none = rw (eqb-suc-zero (length bytes)) refl

reads_v4 : (text octets : List ℕ) → IsDotted text octets → read_ipv4 text ≡ Some (octets, [])
reads_v4 text octets h = rw append-nil at (read_ipv4_complete text octets [] h (lit≤ tt))

reads_v6 : (text segments : List ℕ) → IsColonHex text segments → read_ipv6 text ≡ Some (segments, [])
reads_v6 text segments h = rw append-nil at (read_ipv6_complete text segments [] h EndsGroups-nil)

-- what was read completely is spelled by the complete text
spelled_v4 : (text octets : List ℕ) → read_ipv4 text ≡ Some (octets, []) → IsDotted text octets
spelled_v4 text octets e =
    let s = read_ipv4_sound text octets [] e in
    subst (λ t. IsDotted t octets) (sym (s.1 ∙ append-nil s.0)) s.2

spelled_v6 : (text segments : List ℕ) → read_ipv6 text ≡ Some (segments, []) → IsColonHex text segments
spelled_v6 text segments e =
    let s = read_ipv6_sound text segments [] e in
    subst (λ t. IsColonHex t segments) (sym (s.1 ∙ append-nil s.0)) s.2

pub v4_segments : (text octets : List ℕ) → IsDotted text octets → segments_in text ≡ Some (mapped octets)
unfolding segments_in
v4_segments text octets h = rw (reads_v4 text octets h) refl

pub v6_segments : (text segments : List ℕ) → IsColonHex text segments → segments_in text ≡ Some segments
unfolding segments_in
v6_segments text segments h =
    let other = not_whole (read_ipv4 text) (λ octets e. IsDotted-not_colon_hex text octets segments (spelled_v4 text octets e) h) in
    rw (other, reads_v6 text segments h) refl

pub no_segments : (text : List ℕ) → ((a : Ipv4Addr) → IsIpv4Text text a → ⊥) → ((a : Ipv6Addr) → IsIpv6Text text a → ⊥) → segments_in text ≡ None
unfolding segments_in
no_segments text no_v4 no_v6 =
    let one = not_whole (read_ipv4 text) (λ octets e. no_v4 (record { octets = octets }) (spelled_v4 text octets e)) in
    let two = not_whole (read_ipv6 text) (λ segments e. no_v6 (record { segments = segments }) (spelled_v6 text segments e)) in
    rw (one, two) refl
