-- Laws of the list of a term.
use Rattle.std.proofs.Common.{◌≡◌, ℕ, false, List, Option, Some, None, Result, Ok, Err, refl, ap}
use Rattle.ii_io.specs.declared.faults.Part.{Part}
use Rattle.ii_base.specs.declared.schema.index_record_option.IndexRecordOption.{IndexRecordOption}
use Rattle.ii_base.specs.Options.{downgrade, has_positions}
use Rattle.ii_layout.specs.Postings.{Postings, postings, posting_list, entries_of}
use Rattle.ii_layout.specs.TermList.{list_of, term_list}

unread : (docs : List ℕ) (freqs : Option (List ℕ)) → list_of docs freqs None ≡ entries_of docs freqs
unread docs None = refl
unread docs (Some fs) = refl

plain_cases : (recorded requested : IndexRecordOption) (doc_freq : ℕ) (bytes : List ℕ) (positions : Option (List ℕ)) (r : Result Postings Part) → has_positions (downgrade recorded requested) ≡ false → postings recorded requested doc_freq bytes ≡ r
    → term_list recorded requested doc_freq bytes positions ≡ posting_list recorded requested doc_freq bytes
plain_cases recorded requested doc_freq bytes positions (Err part) none e = rw e refl
plain_cases recorded requested doc_freq bytes positions (Ok p) none e = rw (e, none) (ap Ok (unread p.docs p.freqs))

-- where positions aren't read it is the list without them
pub plain_list : (recorded requested : IndexRecordOption) (doc_freq : ℕ) (bytes : List ℕ) (positions : Option (List ℕ)) → has_positions (downgrade recorded requested) ≡ false → term_list recorded requested doc_freq bytes positions ≡ posting_list recorded requested doc_freq bytes
plain_list recorded requested doc_freq bytes positions none = plain_cases recorded requested doc_freq bytes positions (postings recorded requested doc_freq bytes) none refl
