-- Wanted terms that are looked up in a dictionary.
use Rattle.std.specs.Prelude.{ℕ, List, [], ◌∷◌, Option, None, Some, Vec, map}
use Rattle.std.specs.declared.alloc.Global.{Global}
use Rattle.ii_base.specs.declared.schema.index_record_option.IndexRecordOption.{IndexRecordOption}
use Rattle.ii_termstore.specs.declared.term_info.TermInfo.{TermInfo}
use Rattle.ii_termdict.specs.Dictionary.{TermEntry, info_under}
use Rattle.ii_warmup.specs.Warmup.{WantedTermState}
use Rattle.ii_warmup.specs.declared.wanted_terms.WantedTerm.{WantedTerm}

-- a wanted term, if it has an info and something is requested of it
abbrev pub wanted_if : List ℕ → Option TermInfo → Option IndexRecordOption → Option WantedTermState
wanted_if key (Some info) (Some option) = Some (record { key = key; info = info; option = option })
wanted_if key (Some info) None = None
wanted_if key None requested = None

-- the wanted term of a key, given what is requested of each key
abbrev pub wanted_under : (List ℕ → Option IndexRecordOption) → List TermEntry → List ℕ → Option WantedTermState
wanted_under requested entries key = wanted_if key (info_under key entries) (requested key)

-- the wanted term that was found, if there is one
abbrev pub found_terms : Option WantedTerm → List WantedTerm
found_terms None = []
found_terms (Some term) = term ∷ []

-- the bytes of keys
abbrev pub key_items : List (Vec ℕ Global) → List (List ℕ)
key_items keys = map (λ (k : Vec ℕ Global). k.items) keys
