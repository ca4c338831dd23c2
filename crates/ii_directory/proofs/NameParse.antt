-- Names are read back from their texts.
use Rattle.std.proofs.Common.{◌≡◌, true, false, ℕ, suc, ◌+◌, ◌*◌, ◌/◌, ◌%◌, ◌^◌, ◌<◌, ◌≤◌, List, [], ◌∷◌, ◌++◌, length, take, drop, refl, sym, ap, ◌∙◌, append_assoc, arith, lit<}
use Rattle.std.specs.Prelude.{bytes_eq, codes, not}
use Rattle.std.proofs.lemmas.Bool.{not-false}
use Rattle.std.proofs.lemmas.Slice.Eq.{bytes_eq-Decides}
use Rattle.std.proofs.lemmas.Cmp.{nat_list_eq_equiv}
use Rattle.std.proofs.lemmas.List.{take_at, drop_at, take-append-drop, length-append}
use Rattle.std.proofs.Math.Nat.{pow-le-pow_right, pow-suc}
use Rattle.ii_directory.specs.declared.name.Kind.{Kind}
use Rattle.ii_directory.specs.declared.name.Name.{Name}
use Rattle.ii_directory.specs.declared.name.Name.TheVariants.{Meta, NewMeta, File, Segment}
use Rattle.ii_directory.specs.declared.name.SegmentComponent.{SegmentComponent}
use Rattle.ii_directory.specs.declared.name.SegmentComponent.TheVariants as components
use Rattle.ii_directory.specs.declared.name.Slot.TheVariants.{First, Second}
use Rattle.ii_directory.specs.Names.{HasWords, IsNumber, component_generation, component_text, hex_digit, hex_digits, name_text}
use Rattle.ii_directory.proofs.NameLaws.{append_same, file_short, last_same, length_hex, segment_long}

pub number_none : (text : List ℕ) → length text ≡ 0 → IsNumber text 0
unfolding hex_digits
number_none [] e = record { digits = refl; below = omega arith }
number_none (x ∷ text) e = absurd (omega (arith, e))

module _ (text front : List ℕ) (last : ℕ) (split : text ≡ front ++ last ∷ []) where
  pub len_more : length text ≡ suc (length front)
  len_more = ap length split ∙ length-append front (last ∷ []) ∙ omega arith

  limit_more : 16 ^ length text ≡ 16 ^ length front * 16
  limit_more = ap (λ (k : ℕ). 16 ^ k) len_more ∙ pow-suc 16 (length front)

  pub number_more : (high low : ℕ) → IsNumber front high → hex_digit low ≡ last → low < 16 → IsNumber text (high * 16 + low)
  unfolding hex_digits
  number_more high low n digit lt =
      let q : (high * 16 + low) / 16 ≡ high = omega (arith, lt) in
      let r : (high * 16 + low) % 16 ≡ low = omega (arith, lt) in
      let e : hex_digits (suc (length front)) (high * 16 + low) ≡ front ++ last ∷ [] = rw (q, r, n.digits, digit) refl in
      record {
        digits = ap (λ (k : ℕ). hex_digits k (high * 16 + low)) len_more ∙ e ∙ sym split;
        below = omega (arith, limit_more, n.below, lt);
      }

  last_parts : (n : ℕ) → hex_digits (length text) n ≡ text → (hex_digits (length front) (n / 16) ≡ front) × (hex_digit (n % 16) ≡ last)
  unfolding hex_digits
  last_parts n e =
      let same : hex_digits (length front) (n / 16) ++ hex_digit (n % 16) ∷ [] ≡ front ++ last ∷ [] = ap (λ (k : ℕ). hex_digits k n) (sym len_more) ∙ e ∙ split in
      last_same (hex_digits (length front) (n / 16)) front (hex_digit (n % 16)) last (length_hex (length front) (n / 16)) same

  pub no_high : ((n : ℕ) → hex_digits (length front) n ≡ front → ⊥) → (n : ℕ) → hex_digits (length text) n ≡ text → ⊥
  no_high none n e = none (n / 16) (last_parts n e).0

  pub no_low : ((d : ℕ) → d < 16 → hex_digit d ≡ last → ⊥) → (n : ℕ) → hex_digits (length text) n ≡ text → ⊥
  no_low none n e = none (n % 16) (omega arith) (last_parts n e).1

-- a number of at most 16 digits has 64 bits
pub power_le : (k : ℕ) → k ≤ 16 → 16 ^ k ≤ 16 ^ 16
power_le k le = pow-le-pow_right {n = 16} (lit< tt) le

pub number_fits : (text : List ℕ) (n : ℕ) → length text ≤ 16 → IsNumber text n → n < 2 ^ 64
number_fits text n le number = omega (arith, number.below, power_le (length text) le)

-- what comes after the number of a segment

alive_regroup : (g : List ℕ) → codes "." ++ g ++ codes ".alive" ≡ codes "." ++ (g ++ codes ".alive")
alive_regroup g = append_assoc (codes ".") g (codes ".alive")

-- The parts of a text of living documents.
pub record AliveParts (text digits : List ℕ) : Type 0 where
  pub dot : take 1 text ≡ codes "."
  pub number : take 16 (drop 1 text) ≡ digits
  pub end : drop 16 (drop 1 text) ≡ codes ".alive"

pub alive_parts : (text : List ℕ) (generation : ℕ) → component_text (components.Alive generation) ≡ text → AliveParts text (hex_digits 16 generation)
alive_parts text generation e =
    let digits = hex_digits 16 generation in
    let whole : text ≡ codes "." ++ (digits ++ codes ".alive") = sym e ∙ alive_regroup digits in
    let rest : drop 1 text ≡ digits ++ codes ".alive" = ap (drop 1) whole ∙ drop_at (codes ".") (digits ++ codes ".alive") 1 refl in
    record {
      dot = ap (take 1) whole ∙ take_at (codes ".") (digits ++ codes ".alive") 1 refl;
      number = ap (take 16) rest ∙ take_at digits (codes ".alive") 16 (length_hex 16 generation);
      end = ap (drop 16) rest ∙ drop_at digits (codes ".alive") 16 (length_hex 16 generation);
    }

pub alive_made : (text : List ℕ) (generation : ℕ) → AliveParts text (hex_digits 16 generation) → component_text (components.Alive generation) ≡ text
alive_made text generation parts =
    let digits = hex_digits 16 generation in
    alive_regroup digits
    ∙ ap (λ (d : List ℕ). d ++ (digits ++ codes ".alive")) (sym parts.dot)
    ∙ ap (λ (d : List ℕ). take 1 text ++ (d ++ codes ".alive")) (sym parts.number)
    ∙ ap (λ (d : List ℕ). take 1 text ++ (take 16 (drop 1 text) ++ d)) (sym parts.end)
    ∙ ap (λ (d : List ℕ). take 1 text ++ d) (take-append-drop 16 (drop 1 text))
    ∙ take-append-drop 1 text

-- names shorter than sixteen bytes
pub no_fixed : (text : List ℕ) → (text ≡ codes "meta" → ⊥) → (text ≡ codes "meta.new" → ⊥) → ((kind : Kind) → name_text (File First kind) ≡ text → ⊥) → ((kind : Kind) → name_text (File Second kind) ≡ text → ⊥)
    → (name : Name) → length (name_text name) < 16 → name_text name ≡ text → ⊥
no_fixed text a b first second Meta short e = a (sym e)
no_fixed text a b first second NewMeta short e = b (sym e)
no_fixed text a b first second (File First kind) short e = first kind e
no_fixed text a b first second (File Second kind) short e = second kind e
no_fixed text a b first second (Segment id component) short e = omega (arith, segment_long id component, short)

-- what comparisons of bytes tell

pub bytes_same : (a b : List ℕ) → false ≡ not (bytes_eq a b) → a ≡ b
bytes_same a b e = (bytes_eq-Decides a b).0 (not-false (bytes_eq a b) (sym e))

pub bytes_unequal : (a b : List ℕ) → false ≡ bytes_eq a b → a ≡ b → ⊥
bytes_unequal a b differ same =
    let wrong : false ≡ true = differ ∙ ap (bytes_eq a) (sym same) ∙ nat_list_eq_equiv.refl a in
    absurd cc

pub bytes_differ : (a b : List ℕ) → true ≡ not (bytes_eq a b) → a ≡ b → ⊥
bytes_differ a b differ same =
    let wrong : true ≡ false = differ ∙ ap (λ (x : List ℕ). not (bytes_eq a x)) (sym same) ∙ ap not (nat_list_eq_equiv.refl a) in
    absurd cc

-- a text cut after sixteen bytes

module _ (text front rest : List ℕ) (split : text ≡ front ++ rest) (len : length front ≡ 16)
    (fixed : (name : Name) → length (name_text name) < 16 → name_text name ≡ text → ⊥) where
  segment_parts : (id : ℕ) (c : SegmentComponent) → name_text (Segment id c) ≡ text → (hex_digits 16 id ≡ front) × (component_text c ≡ rest)
  segment_parts id c e = append_same (hex_digits 16 id) front (component_text c) rest (length_hex 16 id ∙ sym len) (e ∙ split)

  pub no_id : ((n : ℕ) → hex_digits (length front) n ≡ front → ⊥) → (name : Name) → HasWords name → name_text name ≡ text → ⊥
  no_id none Meta w e = fixed Meta (omega arith) e
  no_id none NewMeta w e = fixed NewMeta (omega arith) e
  no_id none (File slot kind) w e = fixed (File slot kind) (file_short slot kind) e
  no_id none (Segment id c) w e = none id (ap (λ (k : ℕ). hex_digits k id) len ∙ (segment_parts id c e).0)

  pub no_rest : ((c : SegmentComponent) → component_generation c < 2 ^ 64 → component_text c ≡ rest → ⊥) → (name : Name) → HasWords name → name_text name ≡ text → ⊥
  no_rest none Meta w e = fixed Meta (omega arith) e
  no_rest none NewMeta w e = fixed NewMeta (omega arith) e
  no_rest none (File slot kind) w e = fixed (File slot kind) (file_short slot kind) e
  no_rest none (Segment id c) w e = none c w.1 (segment_parts id c e).1

pub segment_made : (text front rest : List ℕ) (id : ℕ) (c : SegmentComponent) → text ≡ front ++ rest → length front ≡ 16 → IsNumber front id → component_text c ≡ rest → name_text (Segment id c) ≡ text
segment_made text front rest id c split len number same =
    ap (λ (x : List ℕ). x ++ component_text c) (ap (λ (k : ℕ). hex_digits k id) (sym len) ∙ number.digits) ∙ ap (λ (x : List ℕ). front ++ x) same ∙ sym split
