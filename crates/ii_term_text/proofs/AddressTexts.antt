-- The text of an IP address is read back.
use Rattle.std.proofs.Common.{◌≡◌, ◌∙◌, ◌<◌, ◌^◌, ◌/◌, ◌%◌, ◌*◌, ◌+◌, ℕ, zero, suc, Bool, true, false, List, [], ◌∷◌, ◌++◌, Option, Some, ap, arith, cond, drop, get_or, length, option_map, refl, subst, sym, take, take-append-drop}
use Rattle.std.specs.Str.{bytes_eq}
use Rattle.std.proofs.lemmas.Slice.Eq.{bytes_eq-Decides}
use Rattle.std.specs.Int.{bytes_high_first, from_be_bytes, w128}
use Rattle.std.specs.Net.Addr.{IsIpv6Addr, octets_of, segments_of}
use Rattle.std.specs.Net.Text.{ipv4_text, ipv6_text}
use Rattle.std.proofs.NetLemmas.Arrays.{eight_items}
use Rattle.std.proofs.NetLemmas.Texts.{IsColonHex-ipv6_text, IsDotted-ipv4_text}
use Rattle.ii_term_text.specs.Addresses.{address_in, segments_in}
use Rattle.ii_term_text.specs.KeyTexts.{address_text}
use Rattle.ii_term_text.proofs.AddressBytes.{octets_again}
use Rattle.ii_term_text.proofs.AddressLemmas.{v4_segments, v6_segments}

-- segments as octets, and back
pub segments_again : (xs : List ℕ) → segments_of (octets_of xs) ≡ xs
segments_again [] = refl
segments_again (x ∷ xs) = ap (λ (l : List ℕ). (x / 256 * 256 + x % 256) ∷ l) (segments_again xs) ∙ ap (λ (y : ℕ). y ∷ xs) (omega arith)

-- the text of an address, by whether it is an IPv4 address
text_case : (xs : List ℕ) (t : Bool) → bytes_eq (take 6 xs) (0 ∷ 0 ∷ 0 ∷ 0 ∷ 0 ∷ 0xffff ∷ []) ≡ t → address_text xs ≡ cond t (ipv4_text (octets_of (drop 6 xs))) (ipv6_text xs)
text_case xs t is = ap (λ (b : Bool). cond b (ipv4_text (octets_of (drop 6 xs))) (ipv6_text xs)) is

-- two segments are four octets
two_octets : (s t : ℕ) → s < 2 ^ 16 → t < 2 ^ 16 → (k : ℕ) → get_or (s / 256 ∷ s % 256 ∷ t / 256 ∷ t % 256 ∷ []) k 0 < 2 ^ 8
two_octets s t low high zero = omega (arith, low)
two_octets s t low high (suc zero) = omega arith
two_octets s t low high (suc (suc zero)) = omega (arith, high)
two_octets s t low high (suc (suc (suc zero))) = omega arith
two_octets s t low high (suc (suc (suc (suc k)))) = omega arith

-- the text of an address spells its segments
address_read : (xs : List ℕ) → IsIpv6Addr (record { segments = xs }) → segments_in (address_text xs) ≡ Some xs
address_read xs is = by (bytes_eq (take 6 xs) (0 ∷ 0 ∷ 0 ∷ 0 ∷ 0 ∷ 0xffff ∷ [])) refl
  where
    by : (t : Bool) → bytes_eq (take 6 xs) (0 ∷ 0 ∷ 0 ∷ 0 ∷ 0 ∷ 0xffff ∷ []) ≡ t → segments_in (address_text xs) ≡ Some xs
    by true e =
        let octets = octets_of (drop 6 xs) in
        let same : take 6 xs ≡ 0 ∷ 0 ∷ 0 ∷ 0 ∷ 0 ∷ 0xffff ∷ [] = (bytes_eq-Decides (take 6 xs) (0 ∷ 0 ∷ 0 ∷ 0 ∷ 0 ∷ 0xffff ∷ [])).0 e in
        let last : drop 6 xs ≡ get_or xs 6 0 ∷ get_or xs 7 0 ∷ [] = ap (λ (l : List ℕ). drop 6 l) (eight_items xs is.0) in
        let four : length octets ≡ 4 = ap (λ (l : List ℕ). length (octets_of l)) last in
        let fit : (k : ℕ) → get_or octets k 0 < 2 ^ 8 = subst (λ (l : List ℕ). (k : ℕ) → get_or (octets_of l) k 0 < 2 ^ 8) (sym last) (two_octets (get_or xs 6 0) (get_or xs 7 0) (is.1 6) (is.1 7)) in
        ap segments_in (text_case xs true e) ∙ v4_segments (ipv4_text octets) octets (IsDotted-ipv4_text octets four fit)
        ∙ ap Some (ap (λ (l : List ℕ). 0 ∷ 0 ∷ 0 ∷ 0 ∷ 0 ∷ 0xffff ∷ l) (segments_again (drop 6 xs)) ∙ ap (λ (l : List ℕ). l ++ drop 6 xs) (sym same) ∙ take-append-drop 6 xs)
    by false e = ap segments_in (text_case xs false e) ∙ v6_segments (ipv6_text xs) xs (IsColonHex-ipv6_text xs is.0 is.1)

-- the text of an address spells its key
pub address_key_read : (xs : List ℕ) → IsIpv6Addr (record { segments = xs }) → option_map (λ n. bytes_high_first 16 n) (address_in (address_text xs)) ≡ Some (octets_of xs)
unfolding address_in
address_key_read xs is = ap (λ (o : Option (List ℕ)). option_map (λ n. bytes_high_first 16 n) (option_map (λ s. from_be_bytes w128 (octets_of s)) o)) (address_read xs is) ∙ ap Some (octets_again xs is)
