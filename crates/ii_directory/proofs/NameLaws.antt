-- Different names differ in their numbers and in their texts.
use Rattle.std.proofs.Common.{◌≡◌, ℕ, zero, suc, ◌+◌, ◌-◌, ◌/◌, ◌%◌, ◌^◌, ◌<◌, ◌≤◌, true, ◌==◌, ◌&&◌, List, [], ◌∷◌, ◌++◌, length, get_or, refl, sym, ap, ◌∙◌, arith}
use Rattle.std.specs.Prelude.{codes}
use Rattle.std.proofs.lemmas.Bool.{and_parts, eqb-true, eq-eqb}
use Rattle.std.proofs.lemmas.List.{length-append}
use Rattle.std.proofs.Math.Nat.{pow-suc}
use Rattle.ii_directory.specs.declared.name.Kind.{Kind}
use Rattle.ii_directory.specs.declared.name.Kind.TheVariants.{Schema, Terms, Postings, Positions, FieldNorms}
use Rattle.ii_directory.specs.declared.name.Name.{Name}
use Rattle.ii_directory.specs.declared.name.Name.TheVariants.{Meta, NewMeta, File, Segment}
use Rattle.ii_directory.specs.declared.name.SegmentComponent.{SegmentComponent}
use Rattle.ii_directory.specs.declared.name.SegmentComponent.TheVariants as components
use Rattle.ii_directory.specs.declared.name.Slot.{Slot}
use Rattle.ii_directory.specs.declared.name.Slot.TheVariants.{First, Second}
use Rattle.ii_directory.specs.Names.{HasWords, component_generation, component_number, component_text, hex_digit, hex_digits, kind_at, kind_number, name_generation, name_id, name_number, name_text, same_name, slot_number}

-- kinds and their numbers

pub kind_below : (kind : Kind) → kind_number kind < 5
kind_below Schema = omega arith
kind_below Terms = omega arith
kind_below Postings = omega arith
kind_below Positions = omega arith
kind_below FieldNorms = omega arith

pub kind_of_number : (kind : Kind) → kind_at (kind_number kind) ≡ kind
kind_of_number Schema = refl
kind_of_number Terms = refl
kind_of_number Postings = refl
kind_of_number Positions = refl
kind_of_number FieldNorms = refl

same_kind : (kind other : Kind) → kind_number kind ≡ kind_number other → kind ≡ other
same_kind kind other same = sym (kind_of_number kind) ∙ ap kind_at same ∙ kind_of_number other

same_file : (slot : Slot) (kind : Kind) (slot_2 : Slot) (kind_2 : Kind) → name_number (File slot kind) ≡ name_number (File slot_2 kind_2) → File slot kind ≡ File slot_2 kind_2
same_file First kind First kind_2 same = ap (λ k. File First k) (same_kind kind kind_2 (omega (arith, same)))
same_file Second kind Second kind_2 same = ap (λ k. File Second k) (same_kind kind kind_2 (omega (arith, same)))
same_file First kind Second kind_2 same = absurd (omega (arith, same, kind_below kind, kind_below kind_2))
same_file Second kind First kind_2 same = absurd (omega (arith, same, kind_below kind, kind_below kind_2))

file_below : (slot : Slot) (kind : Kind) → name_number (File slot kind) < 12
file_below First kind = omega (arith, kind_below kind)
file_below Second kind = omega (arith, kind_below kind)

file_above : (slot : Slot) (kind : Kind) → 2 ≤ name_number (File slot kind)
file_above First kind = omega arith
file_above Second kind = omega arith

same_component : (component other : SegmentComponent) → component_number component ≡ component_number other → component_generation component ≡ component_generation other → component ≡ other
same_component components.Terms components.Terms number generation = refl
same_component components.Postings components.Postings number generation = refl
same_component components.Positions components.Positions number generation = refl
same_component components.FieldNorms components.FieldNorms number generation = refl
same_component components.Counts components.Counts number generation = refl
same_component components.Store components.Store number generation = refl
same_component components.BlockTables components.BlockTables number generation = refl
same_component (components.Alive g) (components.Alive h) number generation = ap (λ (n : ℕ). components.Alive n) generation
same_component component other number generation = absurd (omega (arith, number))

same_numbers : (name other : Name) → name_number name ≡ name_number other → name_id name ≡ name_id other → name_generation name ≡ name_generation other → name ≡ other
same_numbers Meta Meta number id generation = refl
same_numbers NewMeta NewMeta number id generation = refl
same_numbers Meta NewMeta number id generation = absurd (omega (arith, number))
same_numbers NewMeta Meta number id generation = absurd (omega (arith, number))
same_numbers (File slot kind) (File slot_2 kind_2) number id generation = same_file slot kind slot_2 kind_2 number
same_numbers (File slot kind) Meta number id generation = absurd (omega (arith, number, file_above slot kind))
same_numbers (File slot kind) NewMeta number id generation = absurd (omega (arith, number, file_above slot kind))
same_numbers Meta (File slot kind) number id generation = absurd (omega (arith, number, file_above slot kind))
same_numbers NewMeta (File slot kind) number id generation = absurd (omega (arith, number, file_above slot kind))
same_numbers (File slot kind) (Segment segment component) number id generation = absurd (omega (arith, number, file_below slot kind))
same_numbers (Segment segment component) (File slot kind) number id generation = absurd (omega (arith, number, file_below slot kind))
same_numbers Meta (Segment segment component) number id generation = absurd (omega (arith, number))
same_numbers (Segment segment component) Meta number id generation = absurd (omega (arith, number))
same_numbers NewMeta (Segment segment component) number id generation = absurd (omega (arith, number))
same_numbers (Segment segment component) NewMeta number id generation = absurd (omega (arith, number))
same_numbers (Segment segment component) (Segment segment_2 component_2) number id generation =
    let same : component ≡ component_2 = same_component component component_2 (omega (arith, number)) generation in
    cc

pub same_is : (name other : Name) → same_name name other ≡ true → name ≡ other
same_is name other same =
    let all = and_parts (name_number name == name_number other && (name_id name == name_id other)) (name_generation name == name_generation other) same in
    let two = and_parts (name_number name == name_number other) (name_id name == name_id other) all.0 in
    same_numbers name other (eqb-true (name_number name) (name_number other) two.0) (eqb-true (name_id name) (name_id other) two.1) (eqb-true (name_generation name) (name_generation other) all.1)

pub same_itself : (name : Name) → same_name name name ≡ true
same_itself name = rw (eq-eqb (name_number name) (name_number name) refl, eq-eqb (name_id name) (name_id name) refl, eq-eqb (name_generation name) (name_generation name) refl) refl

-- texts

pub append_same : {A : Type 0} (a b x y : List A) → length a ≡ length b → a ++ x ≡ b ++ y → (a ≡ b) × (x ≡ y)
append_same [] [] x y len e = (refl, e)
append_same (h ∷ a) (k ∷ b) x y len e =
    let tail = append_same a b x y (omega (arith, len)) cc in
    let first : h ≡ k = cc in
    let front : a ≡ b = tail.0 in
    (cc, tail.1)
append_same [] (k ∷ b) x y len e = absurd (omega (arith, len))
append_same (h ∷ a) [] x y len e = absurd (omega (arith, len))

pub length_hex : (count n : ℕ) → length (hex_digits count n) ≡ count
unfolding hex_digits
length_hex zero n = refl
length_hex (suc count) n = length-append (hex_digits count (n / 16)) (hex_digit (n % 16) ∷ []) ∙ omega (arith, length_hex count (n / 16))

same_digit : (c d : ℕ) → c < 16 → d < 16 → hex_digit c ≡ hex_digit d → c ≡ d
same_digit c d lt lt_2 e = grind (arith, e)

pub last_same : (a b : List ℕ) (x y : ℕ) → length a ≡ length b → a ++ x ∷ [] ≡ b ++ y ∷ [] → (a ≡ b) × (x ≡ y)
last_same a b x y len e =
    let parts = append_same a b (x ∷ []) (y ∷ []) len e in
    let rest : x ∷ [] ≡ y ∷ [] = parts.1 in
    (parts.0, cc)

pub quotient_below : (count n : ℕ) → n < 16 ^ suc count → n / 16 < 16 ^ count
quotient_below count n lt = omega (arith, rw pow-suc at lt)

pub same_hex : (count n m : ℕ) → n < 16 ^ count → m < 16 ^ count → hex_digits count n ≡ hex_digits count m → n ≡ m
unfolding hex_digits
same_hex zero n m lt lt_2 e = omega (arith, lt, lt_2)
same_hex (suc count) n m lt lt_2 e =
    let parts = last_same (hex_digits count (n / 16)) (hex_digits count (m / 16)) (hex_digit (n % 16)) (hex_digit (m % 16)) (length_hex count (n / 16) ∙ sym (length_hex count (m / 16))) e in
    let high = same_hex count (n / 16) (m / 16) (quotient_below count n lt) (quotient_below count m lt_2) parts.0 in
    let low = same_digit (n % 16) (m % 16) (omega arith) (omega arith) parts.1 in
    omega (arith, high, low)

same_hex_16 : (n m : ℕ) → n < 2 ^ 64 → m < 2 ^ 64 → hex_digits 16 n ≡ hex_digits 16 m → n ≡ m
same_hex_16 n m lt lt_2 e = same_hex 16 n m lt lt_2 e

-- the names of index files and of metas are shorter than sixteen bytes, and differ

pub file_short : (slot : Slot) (kind : Kind) → length (name_text (File slot kind)) < 16
file_short First Schema = omega arith
file_short First Terms = omega arith
file_short First Postings = omega arith
file_short First Positions = omega arith
file_short First FieldNorms = omega arith
file_short Second Schema = omega arith
file_short Second Terms = omega arith
file_short Second Postings = omega arith
file_short Second Positions = omega arith
file_short Second FieldNorms = omega arith

file_long : (slot : Slot) (kind : Kind) → 5 ≤ length (name_text (File slot kind))
file_long First Schema = omega arith
file_long First Terms = omega arith
file_long First Postings = omega arith
file_long First Positions = omega arith
file_long First FieldNorms = omega arith
file_long Second Schema = omega arith
file_long Second Terms = omega arith
file_long Second Postings = omega arith
file_long Second Positions = omega arith
file_long Second FieldNorms = omega arith

-- the first letter of a file's name
abbrev letter : Kind → ℕ
letter Schema = 115
letter Terms = 116
letter Postings = 105
letter Positions = 112
letter FieldNorms = 102

first_letter : (slot : Slot) (kind : Kind) → get_or (name_text (File slot kind)) 0 0 ≡ letter kind
first_letter First Schema = refl
first_letter First Terms = refl
first_letter First Postings = refl
first_letter First Positions = refl
first_letter First FieldNorms = refl
first_letter Second Schema = refl
first_letter Second Terms = refl
first_letter Second Postings = refl
first_letter Second Positions = refl
first_letter Second FieldNorms = refl

last_letter : (slot : Slot) (kind : Kind) → get_or (name_text (File slot kind)) (length (name_text (File slot kind)) - 1) 0 ≡ 48 + slot_number slot
last_letter First Schema = refl
last_letter First Terms = refl
last_letter First Postings = refl
last_letter First Positions = refl
last_letter First FieldNorms = refl
last_letter Second Schema = refl
last_letter Second Terms = refl
last_letter Second Postings = refl
last_letter Second Positions = refl
last_letter Second FieldNorms = refl

letter_below : (kind : Kind) → (letter kind ≡ 109) → ⊥
letter_below Schema e = omega (arith, e)
letter_below Terms e = omega (arith, e)
letter_below Postings e = omega (arith, e)
letter_below Positions e = omega (arith, e)
letter_below FieldNorms e = omega (arith, e)

same_letter : (kind other : Kind) → letter kind ≡ letter other → kind ≡ other
same_letter Schema Schema e = refl
same_letter Terms Terms e = refl
same_letter Postings Postings e = refl
same_letter Positions Positions e = refl
same_letter FieldNorms FieldNorms e = refl
same_letter kind other e = absurd (omega (arith, e))

same_slot : (slot other : Slot) → slot_number slot ≡ slot_number other → slot ≡ other
same_slot First First e = refl
same_slot Second Second e = refl
same_slot slot other e = absurd (omega (arith, e))

file_no_new_meta : (slot : Slot) (kind : Kind) → name_text NewMeta ≡ name_text (File slot kind) → ⊥
file_no_new_meta slot kind e = letter_below kind (sym (first_letter slot kind) ∙ ap (λ (t : List ℕ). get_or t 0 0) (sym e))

file_texts : (slot : Slot) (kind : Kind) (slot_2 : Slot) (kind_2 : Kind) → name_text (File slot kind) ≡ name_text (File slot_2 kind_2) → File slot kind ≡ File slot_2 kind_2
file_texts slot kind slot_2 kind_2 e =
    let kinds = same_letter kind kind_2 (sym (first_letter slot kind) ∙ ap (λ (t : List ℕ). get_or t 0 0) e ∙ first_letter slot_2 kind_2) in
    let last : 48 + slot_number slot ≡ 48 + slot_number slot_2 = sym (last_letter slot kind) ∙ ap (λ (t : List ℕ). get_or t (length t - 1) 0) e ∙ last_letter slot_2 kind_2 in
    let slots = same_slot slot slot_2 (omega (arith, last)) in
    ap (λ (s : Slot). File s kind) slots ∙ ap (λ (k : Kind). File slot_2 k) kinds

pub alive_long : (generation : ℕ) → length (component_text (components.Alive generation)) ≡ 23
alive_long generation = length-append (codes "." ++ hex_digits 16 generation) (codes ".alive") ∙ omega (arith, length-append (codes ".") (hex_digits 16 generation), length_hex 16 generation)

no_alive : (text : List ℕ) (generation : ℕ) → length text < 16 → text ≡ component_text (components.Alive generation) → ⊥
no_alive text generation short e = omega (arith, ap length e, alive_long generation)

same_alive : (g h : ℕ) → component_text (components.Alive g) ≡ component_text (components.Alive h) → hex_digits 16 g ≡ hex_digits 16 h
same_alive g h e =
    let len : length (codes "." ++ hex_digits 16 g) ≡ length (codes "." ++ hex_digits 16 h) = omega (arith, length-append (codes ".") (hex_digits 16 g), length-append (codes ".") (hex_digits 16 h), length_hex 16 g, length_hex 16 h) in
    let front = append_same (codes "." ++ hex_digits 16 g) (codes "." ++ hex_digits 16 h) (codes ".alive") (codes ".alive") len e in
    (append_same (codes ".") (codes ".") (hex_digits 16 g) (hex_digits 16 h) refl front.0).1

pub component_texts : (component other : SegmentComponent) → component_generation component < 2 ^ 64 → component_generation other < 2 ^ 64 → component_text component ≡ component_text other → component ≡ other
component_texts components.Terms components.Terms lt lt_2 e = refl
component_texts components.Postings components.Postings lt lt_2 e = refl
component_texts components.Positions components.Positions lt lt_2 e = refl
component_texts components.FieldNorms components.FieldNorms lt lt_2 e = refl
component_texts components.Counts components.Counts lt lt_2 e = refl
component_texts components.Store components.Store lt lt_2 e = refl
component_texts components.BlockTables components.BlockTables lt lt_2 e = refl
component_texts (components.Alive g) (components.Alive h) lt lt_2 e = ap (λ (n : ℕ). components.Alive n) (same_hex_16 g h lt lt_2 (same_alive g h e))
component_texts components.Terms (components.Alive h) lt lt_2 e = absurd (no_alive (codes ".term") h (omega arith) e)
component_texts components.Postings (components.Alive h) lt lt_2 e = absurd (no_alive (codes ".idx") h (omega arith) e)
component_texts components.Positions (components.Alive h) lt lt_2 e = absurd (no_alive (codes ".pos") h (omega arith) e)
component_texts components.FieldNorms (components.Alive h) lt lt_2 e = absurd (no_alive (codes ".norm") h (omega arith) e)
component_texts components.Counts (components.Alive h) lt lt_2 e = absurd (no_alive (codes ".count") h (omega arith) e)
component_texts components.Store (components.Alive h) lt lt_2 e = absurd (no_alive (codes ".store") h (omega arith) e)
component_texts components.BlockTables (components.Alive h) lt lt_2 e = absurd (no_alive (codes ".blocks") h (omega arith) e)
component_texts (components.Alive g) components.Terms lt lt_2 e = absurd (no_alive (codes ".term") g (omega arith) (sym e))
component_texts (components.Alive g) components.Postings lt lt_2 e = absurd (no_alive (codes ".idx") g (omega arith) (sym e))
component_texts (components.Alive g) components.Positions lt lt_2 e = absurd (no_alive (codes ".pos") g (omega arith) (sym e))
component_texts (components.Alive g) components.FieldNorms lt lt_2 e = absurd (no_alive (codes ".norm") g (omega arith) (sym e))
component_texts (components.Alive g) components.Counts lt lt_2 e = absurd (no_alive (codes ".count") g (omega arith) (sym e))
component_texts (components.Alive g) components.Store lt lt_2 e = absurd (no_alive (codes ".store") g (omega arith) (sym e))
component_texts (components.Alive g) components.BlockTables lt lt_2 e = absurd (no_alive (codes ".blocks") g (omega arith) (sym e))
component_texts component other lt lt_2 e = absurd (omega (arith, ap (λ (t : List ℕ). get_or t 1 0) e))

pub segment_long : (id : ℕ) (component : SegmentComponent) → 16 ≤ length (name_text (Segment id component))
segment_long id component = omega (arith, length-append (hex_digits 16 id) (component_text component), length_hex 16 id)

no_segment : (text : List ℕ) (id : ℕ) (component : SegmentComponent) → length text < 16 → text ≡ name_text (Segment id component) → ⊥
no_segment text id component short e = omega (arith, ap length e, segment_long id component)

pub texts_differ : (first other : Name) → HasWords first → HasWords other → name_text first ≡ name_text other → first ≡ other
texts_differ Meta Meta w w_2 e = refl
texts_differ NewMeta NewMeta w w_2 e = refl
texts_differ Meta NewMeta w w_2 e = absurd (omega (arith, ap length e))
texts_differ NewMeta Meta w w_2 e = absurd (omega (arith, ap length e))
texts_differ (File slot kind) (File slot_2 kind_2) w w_2 e = file_texts slot kind slot_2 kind_2 e
texts_differ Meta (File slot kind) w w_2 e = absurd (omega (arith, ap length e, file_long slot kind))
texts_differ (File slot kind) Meta w w_2 e = absurd (omega (arith, ap length e, file_long slot kind))
texts_differ NewMeta (File slot kind) w w_2 e = absurd (file_no_new_meta slot kind e)
texts_differ (File slot kind) NewMeta w w_2 e = absurd (file_no_new_meta slot kind (sym e))
texts_differ Meta (Segment id component) w w_2 e = absurd (no_segment (name_text Meta) id component (omega arith) e)
texts_differ (Segment id component) Meta w w_2 e = absurd (no_segment (name_text Meta) id component (omega arith) (sym e))
texts_differ NewMeta (Segment id component) w w_2 e = absurd (no_segment (name_text NewMeta) id component (omega arith) e)
texts_differ (Segment id component) NewMeta w w_2 e = absurd (no_segment (name_text NewMeta) id component (omega arith) (sym e))
texts_differ (File slot kind) (Segment id component) w w_2 e = absurd (no_segment (name_text (File slot kind)) id component (file_short slot kind) e)
texts_differ (Segment id component) (File slot kind) w w_2 e = absurd (no_segment (name_text (File slot kind)) id component (file_short slot kind) (sym e))
texts_differ (Segment id component) (Segment id_2 component_2) w w_2 e =
    let parts = append_same (hex_digits 16 id) (hex_digits 16 id_2) (component_text component) (component_text component_2) (length_hex 16 id ∙ sym (length_hex 16 id_2)) e in
    let one : id ≡ id_2 = same_hex_16 id id_2 w.0 w_2.0 parts.0 in
    let two : component ≡ component_2 = component_texts component component_2 w.1 w_2.1 parts.1 in
    cc
