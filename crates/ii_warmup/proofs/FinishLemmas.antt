-- The reader over copied terms.
use Rattle.std.proofs.Common.{◌≡◌, ◌∙◌, ℕ, ◌≤◌, List, None, Some, drop, length, refl, sym, take}
use Rattle.std.proofs.lemmas.Bool.{le-leb}
use Rattle.ii_io.specs.Numbers.{little_endian, number_at}
use Rattle.ii_base.specs.declared.schema.index_record_option.IndexRecordOption.{IndexRecordOption}
use Rattle.ii_check.specs.declared.validation.Validation.TheVariants.{Complete}
use Rattle.ii_reader.specs.InvertedIndexReader.{InvertedIndexReaderState, reader_over}
use Rattle.ii_termdict.specs.Dictionary.{TermEntry}

-- a reader over bytes that begin with a number
number_there : (items : List ℕ) → 8 ≤ length items → number_at 8 items ≡ Some (little_endian (take 8 items), drop 8 items)
unfolding number_at
number_there items long = rw (le-leb 8 (length items) long) refl

reader_there : (terms : List TermEntry) (items positions : List ℕ) (option : IndexRecordOption) → 8 ≤ length items
    → reader_over terms items positions option ≡ Some (record { terms = terms; postings = drop 8 items; positions = positions; option = option; num_tokens = little_endian (take 8 items); validation = Complete })
reader_there terms items positions option long = rw (number_there items long) refl

pub reader_is : (terms : List TermEntry) (items positions : List ℕ) (option : IndexRecordOption) (reader : InvertedIndexReaderState) → 8 ≤ length items → reader_over terms items positions option ≡ Some reader
    → reader ≡ record { terms = terms; postings = drop 8 items; positions = positions; option = option; num_tokens = little_endian (take 8 items); validation = Complete }
reader_is terms items positions option reader long is = let both = sym is ∙ reader_there terms items positions option long in cc

pub reader_is_there : (terms : List TermEntry) (items positions : List ℕ) (option : IndexRecordOption) → 8 ≤ length items → reader_over terms items positions option ≡ None → ⊥
reader_is_there terms items positions option long none = let both = sym none ∙ reader_there terms items positions option long in absurd (cc)
