-- What is left of a sound index is all of it.
use Rattle.std.proofs.Common.{◌≡◌, ℕ, Bool, true, false, cond, List, drop, Option, None, Some, Result, Ok, Err, refl, ap}
use Rattle.std.specs.Prelude.{not, bytes_eq, length, take}
use Rattle.std.specs.Int.{w64, to_le_bytes}
use Rattle.sha2.specs.Sha256.{sha256}
use Rattle.ii_store.specs.declared.faults.IndexFault.{IndexFault}
use Rattle.ii_store.specs.declared.faults.IndexFault.TheVariants.{WrongLength, WrongChecksum}
use Rattle.ii_directory.specs.declared.name.Kind.{Kind}
use Rattle.ii_directory.specs.declared.name.Kind.TheVariants.{Schema, Terms, Postings, Positions, FieldNorms}
use Rattle.ii_directory.specs.declared.name.Name.TheVariants.{Meta, File}
use Rattle.ii_directory.specs.Directory.{Files}
use Rattle.ii_store.specs.Index.{Index, ◌>>=◌, file_in, index_at, index_in, index_of, meta_entry_at, num_docs_in, used_slot}
use Rattle.ii_store.specs.SalvagedIndex.{salvaged, salvaged_at, salvaged_by, salvaged_in, sound_file, sound_index}

-- the value of a step that did not fail
pub bind_ok : {A B : Type 0} (r : Result A IndexFault) (f : A → Result B IndexFault) (y : B) → (r >>= f) ≡ Ok y → (x : A) × (r ≡ Ok x) × (f x ≡ Ok y)
bind_ok (Ok x) f y e = (x, refl, e)
bind_ok (Err d) f y e = absurd cc

-- a test that did not fail
pub guard_ok : {A : Type 0} (b : Bool) (d : IndexFault) (r : Result A IndexFault) (y : A) → cond b (Err d) r ≡ Ok y → (b ≡ false) × (r ≡ Ok y)
guard_ok true d r y e = absurd cc
guard_ok false d r y e = (refl, e)

abbrev done : {A : Type 0} → A → Result A IndexFault
done x = Ok x

pub ok_is : {A : Type 0} (x y : A) → done x ≡ done y → x ≡ y
ok_is x y e = cc

found_file : (kind : Kind) (entry : List ℕ) (found : Option (List ℕ)) (bytes : List ℕ) → file_in kind entry found ≡ Ok bytes → salvaged_in kind entry found ≡ sound_file bytes
unfolding salvaged_in file_in
found_file kind entry None bytes e = absurd cc
found_file kind entry (Some b) bytes e =
    let one = guard_ok (not (bytes_eq (take 8 entry) (to_le_bytes w64 (length b)))) (WrongLength kind) (cond (not (bytes_eq (take 32 (drop 8 entry)) (sha256 b))) (Err (WrongChecksum kind)) (Ok b)) bytes e in
    let two = guard_ok (not (bytes_eq (take 32 (drop 8 entry)) (sha256 b))) (WrongChecksum kind) (Ok b) bytes one.1 in
    rw (one.0, two.0) (ap sound_file (ok_is b bytes two.1))

whole_index : (meta : List ℕ) (files : Kind → Option (List ℕ)) (i : Index) → index_at meta (files Schema) (files Terms) (files Postings) (files Positions) (files FieldNorms) ≡ Ok i
    → salvaged_at meta files ≡ Ok (sound_index i)
unfolding index_at salvaged_at
whole_index meta files i e =
    let last : ℕ → List ℕ → List ℕ → List ℕ → List ℕ → List ℕ → Result Index IndexFault = λ n a b c d f. Ok (record { num_docs = n; schema = a; terms = b; postings = c; positions = d; fieldnorms = f }) in
    let file : Kind → Result (List ℕ) IndexFault = λ kind. file_in kind (drop (meta_entry_at kind) meta) (files kind) in
    let step5 : ℕ → List ℕ → List ℕ → List ℕ → List ℕ → Result Index IndexFault = λ n a b c d. file FieldNorms >>= last n a b c d in
    let step4 : ℕ → List ℕ → List ℕ → List ℕ → Result Index IndexFault = λ n a b c. file Positions >>= step5 n a b c in
    let step3 : ℕ → List ℕ → List ℕ → Result Index IndexFault = λ n a b. file Postings >>= step4 n a b in
    let step2 : ℕ → List ℕ → Result Index IndexFault = λ n a. file Terms >>= step3 n a in
    let step1 : ℕ → Result Index IndexFault = λ n. file Schema >>= step2 n in
    let n = bind_ok (num_docs_in meta) step1 i e in
    let a = bind_ok (file Schema) (step2 n.0) i n.2 in
    let b = bind_ok (file Terms) (step3 n.0 a.0) i a.2 in
    let c = bind_ok (file Postings) (step4 n.0 a.0 b.0) i b.2 in
    let d = bind_ok (file Positions) (step5 n.0 a.0 b.0 c.0) i c.2 in
    let f = bind_ok (file FieldNorms) (last n.0 a.0 b.0 c.0 d.0) i d.2 in
    let made : Index = record { num_docs = n.0; schema = a.0; terms = b.0; postings = c.0; positions = d.0; fieldnorms = f.0 } in
    rw (
      n.1,
      found_file Schema (drop 17 meta) (files Schema) a.0 a.1,
      found_file Terms (drop 57 meta) (files Terms) b.0 b.1,
      found_file Postings (drop 97 meta) (files Postings) c.0 c.1,
      found_file Positions (drop 137 meta) (files Positions) d.0 d.1,
      found_file FieldNorms (drop 177 meta) (files FieldNorms) f.0 f.1,
    ) (ap (λ (index : Index). Ok (sound_index index)) (ok_is made i f.2))

whole_in : (meta : Option (List ℕ)) (files : Kind → Option (List ℕ)) (i : Index) → index_in meta files ≡ Ok i → salvaged_by meta files ≡ Ok (sound_index i)
whole_in None files i e = absurd cc
whole_in (Some meta) files i e = whole_index meta files i e

-- what is salvaged of a sound index is all of it, without faults
pub salvage_of_sound : (files : Files) (i : Index) → index_of files ≡ Ok i → salvaged files ≡ Ok (sound_index i)
unfolding index_of salvaged
salvage_of_sound files i e = whole_in (files Meta) (λ kind. files (File (used_slot (files Meta)) kind)) i e
