-- How the parts of an index are read in sequence.
use Rattle.std.proofs.Common.{◌≡◌, ℕ, List, Option, drop, Result, Ok, refl}
use Rattle.ii_store.specs.declared.faults.IndexFault.{IndexFault}
use Rattle.ii_store.specs.declared.faults.StoreFault.{StoreFault}
use Rattle.ii_store.specs.declared.faults.StoreFault.TheVariants as faults
use Rattle.ii_directory.specs.declared.name.Kind.TheVariants.{Schema, Terms, Postings, Positions, FieldNorms}
use Rattle.ii_store.specs.Index.{◌>>=◌, Fails, file_in, index_at, num_docs_in}

-- a part that was not read
pub stops : {A B : Type 0} (fault : StoreFault) (part : Result A IndexFault) (more : A → Result B IndexFault) → Fails fault part → Fails fault (part >>= more)
stops (faults.Directory fault) part more failed = tt
stops (faults.Index fault) part more failed = rw failed refl

module _ (meta : List ℕ) (a b c d e : Option (List ℕ)) (n : ℕ) (read : num_docs_in meta ≡ Ok n) where
  pub stops_at_terms : (x0 : List ℕ) → file_in Schema (drop 17 meta) a ≡ Ok x0 → (fault : StoreFault) → Fails fault (file_in Terms (drop 57 meta) b) → Fails fault (index_at meta a b c d e)
  unfolding index_at
  stops_at_terms x0 h0 fault failed = rw (read, h0) (stops fault _ _ failed)

  pub stops_at_postings : (x0 : List ℕ) → file_in Schema (drop 17 meta) a ≡ Ok x0 → (x1 : List ℕ) → file_in Terms (drop 57 meta) b ≡ Ok x1 → (fault : StoreFault) → Fails fault (file_in Postings (drop 97 meta) c) → Fails fault (index_at meta a b c d e)
  unfolding index_at
  stops_at_postings x0 h0 x1 h1 fault failed = rw (read, h0, h1) (stops fault _ _ failed)

  pub stops_at_positions : (x0 : List ℕ) → file_in Schema (drop 17 meta) a ≡ Ok x0 → (x1 : List ℕ) → file_in Terms (drop 57 meta) b ≡ Ok x1 → (x2 : List ℕ) → file_in Postings (drop 97 meta) c ≡ Ok x2 → (fault : StoreFault) → Fails fault (file_in Positions (drop 137 meta) d) → Fails fault (index_at meta a b c d e)
  unfolding index_at
  stops_at_positions x0 h0 x1 h1 x2 h2 fault failed = rw (read, h0, h1, h2) (stops fault _ _ failed)

  pub stops_at_fieldnorms : (x0 : List ℕ) → file_in Schema (drop 17 meta) a ≡ Ok x0 → (x1 : List ℕ) → file_in Terms (drop 57 meta) b ≡ Ok x1 → (x2 : List ℕ) → file_in Postings (drop 97 meta) c ≡ Ok x2 → (x3 : List ℕ) → file_in Positions (drop 137 meta) d ≡ Ok x3 → (fault : StoreFault) → Fails fault (file_in FieldNorms (drop 177 meta) e) → Fails fault (index_at meta a b c d e)
  unfolding index_at
  stops_at_fieldnorms x0 h0 x1 h1 x2 h2 x3 h3 fault failed = rw (read, h0, h1, h2, h3) (stops fault _ _ failed)

  pub reads_all : (x0 : List ℕ) → file_in Schema (drop 17 meta) a ≡ Ok x0 → (x1 : List ℕ) → file_in Terms (drop 57 meta) b ≡ Ok x1 → (x2 : List ℕ) → file_in Postings (drop 97 meta) c ≡ Ok x2 → (x3 : List ℕ) → file_in Positions (drop 137 meta) d ≡ Ok x3 → (x4 : List ℕ) → file_in FieldNorms (drop 177 meta) e ≡ Ok x4 → index_at meta a b c d e ≡ Ok (record { num_docs = n; schema = x0; terms = x1; postings = x2; positions = x3; fieldnorms = x4 })
  unfolding index_at
  reads_all x0 h0 x1 h1 x2 h2 x3 h3 x4 h4 = rw (read, h0, h1, h2, h3, h4) refl
