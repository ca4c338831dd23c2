-- A damaged block is named, and the other blocks stay readable.
use Rattle.std.proofs.Common.{◌≡◌, ℕ, Bool, true, false, List, [], get_or, refl, sym, ◌∙◌}
use Rattle.std.specs.Prelude.{Ok, Err, bytes_eq}
use Rattle.std.proofs.lemmas.Slice.Eq.{bytes_eq-Decides}
use Rattle.sha2.specs.Sha256.{sha256}
use Rattle.ii_doc_store.specs.declared.checkpoint.BlockPlace.{BlockPlace}
use Rattle.ii_doc_store.specs.declared.faults.StoreDamage.TheVariants.{Block}
use Rattle.ii_doc_store.specs.RoundTrip.{NamesDamagedBlocks}
use Rattle.ii_doc_store.specs.StoreReader.{bytes_of_block, document_of, document_of_block}

-- equal blocks give equal documents
same_block : (bytes damaged : List ℕ) (b : BlockPlace) (doc : ℕ) → bytes_of_block damaged b ≡ bytes_of_block bytes b → document_of_block damaged b doc ≡ document_of_block bytes b doc
unfolding document_of_block
same_block bytes damaged b doc same = rw same refl

-- a block that gives a document has its SHA-256
sound_digest : (bytes : List ℕ) (b : BlockPlace) (doc : ℕ) (d : List ℕ) (t : Bool) → bytes_eq b.digest (sha256 (bytes_of_block bytes b)) ≡ t → document_of_block bytes b doc ≡ Ok d → t ≡ true
unfolding document_of_block
sound_digest bytes b doc d true is found = refl
sound_digest bytes b doc d false is found = let none = rw is at found in absurd (cc)

other_block : (bytes : List ℕ) (b : BlockPlace) (doc : ℕ) → bytes_eq b.digest (sha256 (bytes_of_block bytes b)) ≡ false → document_of_block bytes b doc ≡ Err (Block b.number)
unfolding document_of_block
other_block bytes b doc other = rw other refl

other_digest : (digest one other : List ℕ) (t : Bool) → bytes_eq digest other ≡ t → bytes_eq digest one ≡ true → (other ≡ one → ⊥) → bytes_eq digest other ≡ false
other_digest digest one other true is sound differ = absurd (differ (sym ((bytes_eq-Decides digest other).0 is) ∙ (bytes_eq-Decides digest one).0 sound))
other_digest digest one other false is sound differ = is

pub names_damaged_blocks : NamesDamagedBlocks
names_damaged_blocks bytes damaged documents cs doc b held index inside place =
    let known : held.checkpoints ≡ cs = let first = held.index in cc in
    let found : document_of bytes cs doc ≡ Ok (get_or documents doc []) = rw known at (held.each doc inside) in
    let here : document_of_block bytes b doc ≡ Ok (get_or documents doc []) = rw place at found in
    let sound : bytes_eq b.digest (sha256 (bytes_of_block bytes b)) ≡ true = sound_digest bytes b doc (get_or documents doc []) (bytes_eq b.digest (sha256 (bytes_of_block bytes b))) refl here in
    record {
      same = λ same. rw place (same_block bytes damaged b doc same ∙ here);
      other = λ differ. rw place (other_block damaged b doc (other_digest b.digest (sha256 (bytes_of_block bytes b)) (sha256 (bytes_of_block damaged b)) (bytes_eq b.digest (sha256 (bytes_of_block damaged b))) refl sound differ));
    }
