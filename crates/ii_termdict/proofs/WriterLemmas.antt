-- How a dictionary is written.
use Rattle.std.proofs.Common.{◌≡◌, ℕ, ◌+◌, ◌<◌, List, [], ◌∷◌, ◌++◌, length, take, drop, get_or, Bool, Result, Ok, Err, true, false, ⊎_elim, inl, inr, refl, sym, ap, ◌∙◌, arith, append_assoc, length-append}
use Rattle.std.specs.Prelude.{is_err, OnOk, OnErr, IfErr, IsErrOf, ◌⊎◌, Some, ◌-◌, ◌^◌}
use Rattle.std.specs.List.{flat_map, slice_range, zip}
use Rattle.std.proofs.Math.Seq.{take-append_seam}
use Rattle.std.proofs.lemmas.List.{append-nil, drop_at}
use Rattle.ii_termstore.specs.TermStore.{term_store}
use Rattle.ii_termstore.proofs.ListLemmas.{flat_around}
use Rattle.ii_io.specs.declared.faults.Fault.{Fault}
use Rattle.ii_io.specs.declared.faults.Fault.TheVariants.{OutOfMemory, Limit, SerializerClosed}
use Rattle.ii_io.specs.declared.faults.LimitName.TheVariants.{Offset}
use Rattle.ii_io.specs.CountingWriter.{CountingWriterState, Wrote, Writes}
use Rattle.ii_io.specs.Numbers.{le_bytes}
use Rattle.ii_termstore.specs.declared.term_info.TermInfo.{TermInfo}
use Rattle.ii_termdict.specs.Dictionary.{dictionary}
use Rattle.ii_termdict.specs.ReadBack.{AreAscending}
use Rattle.ii_termstore.specs.Written.{written_store}
use Rattle.ii_termdict.specs.Written.{ends_from, written_dictionary}
use Rattle.ii_termdict.specs.TermDictionaryWriter.{TermDictionaryWriterState, HasKeys, keys_between}
use Rattle.ii_termdict.proofs.ReadDictionaryLemmas.{reads_dictionary, length-ends_from}
use Rattle.ii_io.proofs.WriteSteps.{writes_then, writes_refused_by}

-- a number that was refused among others
pub numbers_refused : (numbers : List ℕ) (i : ℕ) (initial writer new : CountingWriterState) (result : Result (Unit {0}) Fault) → i < length numbers → Wrote initial writer (flat_map (le_bytes 8) (take i numbers)) → true ≡ is_err result
    → Writes writer new (le_bytes 8 (get_or numbers i 0)) result → Writes initial new (flat_map (le_bytes 8) numbers) result
numbers_refused numbers i initial writer new result within h refused put =
    rw (flat_around (le_bytes 8) numbers i 0 within)
    (writes_refused_by initial new (flat_map (le_bytes 8) (take i numbers) ++ le_bytes 8 (get_or numbers i 0)) (flat_map (le_bytes 8) (drop (i + 1) numbers)) result refused
    (writes_then initial writer new (flat_map (le_bytes 8) (take i numbers)) (le_bytes 8 (get_or numbers i 0)) result h put))

keys_push : (keys : List (List ℕ)) (key : List ℕ) → flat_map (λ (k : List ℕ). k) (keys ++ key ∷ []) ≡ flat_map (λ (k : List ℕ). k) keys ++ key
keys_push [] key = append-nil key
keys_push (k ∷ ks) key = ap (λ (zs : List ℕ). k ++ zs) (keys_push ks key) ∙ sym (append_assoc k (flat_map (λ (k : List ℕ). k) ks) key)

ends_push : (start : ℕ) (keys : List (List ℕ)) (key : List ℕ) → ends_from start (keys ++ key ∷ []) ≡ ends_from start keys ++ (start + length (flat_map (λ (k : List ℕ). k) keys ++ key)) ∷ []
ends_push start [] key = refl
ends_push start (k ∷ ks) key =
    let ih = ends_push (start + length k) ks key in
    let size : start + length k + length (flat_map (λ (k : List ℕ). k) ks ++ key) ≡ start + length ((k ++ flat_map (λ (k : List ℕ). k) ks) ++ key) =
    omega (arith, length-append (k ++ flat_map (λ (k : List ℕ). k) ks) key, length-append k (flat_map (λ (k : List ℕ). k) ks), length-append (flat_map (λ (k : List ℕ). k) ks) key) in
    ap (λ (es : List ℕ). (start + length k) ∷ es) (ih ∙ ap (λ (n : ℕ). ends_from (start + length k) ks ++ n ∷ []) size)

-- keys are found between their ends
keys_cut : (start : ℕ) (front : List ℕ) (keys : List (List ℕ)) → length front ≡ start → keys_between start (ends_from start keys) (front ++ flat_map (λ (k : List ℕ). k) keys) ≡ keys
keys_cut start front [] size = refl
keys_cut start front (k ∷ ks) size =
    let rest = flat_map (λ (k : List ℕ). k) ks in
    let width : start + length k - start ≡ length k = omega arith in
    let first : slice_range (front ++ (k ++ flat_map (λ (k : List ℕ). k) ks)) start (start + length k) ≡ k =
    ap (take (start + length k - start)) (drop_at front (k ++ flat_map (λ (k : List ℕ). k) ks) start size) ∙ ap (λ (n : ℕ). take n (k ++ flat_map (λ (k : List ℕ). k) ks)) width ∙ take-append_seam k (flat_map (λ (k : List ℕ). k) ks) in
    let others = ap (keys_between (start + length k) (ends_from (start + length k) ks)) (sym (append_assoc front k (flat_map (λ (k : List ℕ). k) ks)))
    ∙ keys_cut (start + length k) (front ++ k) ks (omega (arith, length-append front k)) in
    ap (λ (l : List ℕ). l ∷ keys_between (start + length k) (ends_from (start + length k) ks) (front ++ (k ++ flat_map (λ (k : List ℕ). k) ks))) first ∙ ap (λ (ls : List (List ℕ)). k ∷ ls) others

pub keys_are : (bytes ends : List ℕ) (keys : List (List ℕ)) → HasKeys bytes ends keys → keys_between 0 ends bytes ≡ keys
keys_are bytes ends keys h = rw (h.joined, h.places) (keys_cut 0 [] keys refl)

-- one key more
has_more : (bytes ends more places : List ℕ) (keys : List (List ℕ)) (key : List ℕ) → HasKeys bytes ends keys → more ≡ bytes ++ key → places ≡ ends ++ length more ∷ [] → length places < 2 ^ 64 → HasKeys more places (keys ++ key ∷ [])
has_more bytes ends more places keys key h new_bytes new_ends small =
    let whole : more ≡ flat_map (λ (k : List ℕ). k) keys ++ key = new_bytes ∙ ap (λ (bs : List ℕ). bs ++ key) h.joined in
    let none : 0 + length (flat_map (λ (k : List ℕ). k) keys ++ key) ≡ length (flat_map (λ (k : List ℕ). k) keys ++ key) = omega arith in
    record {
      joined = whole ∙ sym (keys_push keys key);
      places = new_ends ∙ ap (λ (es : List ℕ). es ++ length more ∷ []) h.places ∙ ap (λ (bs : List ℕ). ends_from 0 keys ++ length bs ∷ []) whole
          ∙ ap (λ (n : ℕ). ends_from 0 keys ++ n ∷ []) (sym none) ∙ sym (ends_push 0 keys key);
      few = small;
    }

-- What the keys of a writer are after a call that adds one.
pub keys_added : (bytes ends more places key : List ℕ) (result : Result (Unit {0}) Fault) → HasKeys bytes ends (keys_between 0 ends bytes) → OnOk result (more ≡ bytes ++ key) → OnOk result (places ≡ ends ++ length more ∷ []) → OnOk result (length places < 2 ^ 64)
    → OnOk result (keys_between 0 places more ≡ keys_between 0 ends bytes ++ key ∷ [])
keys_added bytes ends more places key (Ok u) h new_bytes new_ends few = keys_are more places (keys_between 0 ends bytes ++ key ∷ []) (has_more bytes ends more places (keys_between 0 ends bytes) key h new_bytes new_ends few)
keys_added bytes ends more places key (Err f) h new_bytes new_ends few = tt

pub still_has_keys : (bytes ends more places key : List ℕ) (result : Result (Unit {0}) Fault) → HasKeys bytes ends (keys_between 0 ends bytes) → OnOk result (more ≡ bytes ++ key) → OnOk result (places ≡ ends ++ length more ∷ []) → OnOk result (length places < 2 ^ 64)
    → OnErr result ((more ≡ bytes) × (places ≡ ends)) → HasKeys more places (keys_between 0 places more)
still_has_keys bytes ends more places key (Ok u) h new_bytes new_ends few same =
    let more_keys = has_more bytes ends more places (keys_between 0 ends bytes) key h new_bytes new_ends few in
    rw (keys_are more places (keys_between 0 ends bytes ++ key ∷ []) more_keys) more_keys
still_has_keys bytes ends more places key (Err f) h new_bytes new_ends few same = rw (same.0, same.1) h

pub length-keys : (bytes ends : List ℕ) (keys : List (List ℕ)) → HasKeys bytes ends keys → length ends ≡ length keys
length-keys bytes ends keys h = ap length h.places ∙ length-ends_from 0 keys

-- what is written of keys and terms
pub dictionary_written : (bytes ends : List ℕ) (keys : List (List ℕ)) (infos : List TermInfo) → HasKeys bytes ends keys
    → le_bytes 8 (length ends) ++ flat_map (le_bytes 8) ends ++ bytes ++ written_store infos ≡ written_dictionary keys infos
unfolding written_dictionary
dictionary_written bytes ends keys infos h = rw (h.places, h.joined, length-ends_from 0 keys) refl

pub dictionary_holds : (bytes ends : List ℕ) (keys : List (List ℕ)) (infos : List TermInfo) (result : Result (Unit {0}) Fault) → HasKeys bytes ends keys → length bytes < 2 ^ 64 → length keys ≡ length infos → AreAscending keys
    → OnOk result (term_store (written_store infos) ≡ Some infos) → OnOk result (dictionary (written_dictionary keys infos) ≡ Ok (zip keys infos))
dictionary_holds bytes ends keys infos (Ok u) h small same ascend holds =
    let few = h.few in
    let size = ap length (sym h.joined) in
    let count = length-keys bytes ends keys h in
    let whole = append-nil (written_dictionary keys infos) in
    rw whole at (reads_dictionary keys infos [] same ascend (omega arith) (omega arith) (ap term_store (append-nil (written_store infos)) ∙ holds))
dictionary_holds bytes ends keys infos (Err f) h small same ascend holds = tt

abbrev pub state : List (List ℕ) → List TermInfo → Bool → TermDictionaryWriterState
state keys infos closed = record { keys = keys; infos = infos; closed = closed }

-- a writer's state after a call that adds a key
pub key_added : (keys more : List (List ℕ)) (key : List ℕ) (infos : List TermInfo) (now before : Bool) (result : Result (Unit {0}) Fault) → OnOk result (more ≡ keys ++ key ∷ []) → now ≡ is_err result → before ≡ false
    → OnOk result (state more infos now ≡ state (keys ++ key ∷ []) infos before)
key_added keys more key infos now before (Ok u) e now_is before_is = rw (e, now_is, before_is) refl
key_added keys more key infos now before (Err f) e now_is before_is = tt

-- the number of terms never exceeds 64 bits
pub never_limit : (bytes ends : List ℕ) (keys : List (List ℕ)) (n : ℕ) → HasKeys bytes ends keys → length keys ≡ n + 1 → n + 1 ≡ 2 ^ 64 → ⊥
never_limit bytes ends keys n h size most =
    let count = length-keys bytes ends keys h in
    let few = h.few in
    absurd (omega arith)

pub without_limit : (result : Result (Unit {0}) Fault) → IfErr result (λ e. (e ≡ OutOfMemory) ⊎ (e ≡ Limit Offset) ⊎ (e ≡ SerializerClosed)) → (IsErrOf result (Limit Offset) → ⊥)
    → IfErr result (λ e. (e ≡ OutOfMemory) ⊎ (e ≡ SerializerClosed))
without_limit (Ok u) only never = tt
without_limit (Err f) only never = ⊎_elim (λ memory. inl memory) (λ others. ⊎_elim (λ limit. absurd (never (ap (λ (e : Fault). Err e) limit))) (λ closed. inr closed) others) only
