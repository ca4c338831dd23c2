-- The terms of several dictionaries, merged: the entries of each that are still to come.
use Rattle.std.specs.Prelude.{◌≡◌, ℕ, List, [], ◌∷◌, bytes_eq, map, if◌then◌else◌, Option, None, Some, slice_get}
use Rattle.std.specs.List.{AllByRecursion}
use Rattle.std.specs.Option.{option_map}
use Rattle.ii_termstore.specs.declared.term_info.TermInfo.{TermInfo}
use Rattle.ii_termdict.specs.Dictionary.{TermEntry, entry_keys, info_under, is_below}
use Rattle.ii_termdict.specs.ReadBack.{AreAscending}

-- the first key of entries, if there is one
abbrev pub first_key : List TermEntry → Option (List ℕ)
first_key es = option_map (λ (e : TermEntry). e.0) (slice_get es 0)

-- the less of two keys, or the one that is there
abbrev pub less_key : Option (List ℕ) → Option (List ℕ) → Option (List ℕ)
less_key None other = other
less_key (Some key) None = Some key
less_key (Some key) (Some other) = if is_below other key then Some other else Some key

-- the least of the first keys of several dictionaries, if there is one
abbrev pub least_key : List (List TermEntry) → Option (List ℕ)
least_key [] = None
least_key (es ∷ ess) = less_key (first_key es) (least_key ess)

-- the info of a key, if it is the first one
abbrev pub first_info : List ℕ → List TermEntry → Option TermInfo
first_info key [] = None
first_info key (e ∷ es) = if bytes_eq key e.0 then Some e.1 else None

-- entries without the first one, if that has this key
abbrev pub behind_key : List ℕ → List TermEntry → List TermEntry
behind_key key [] = []
behind_key key (e ∷ es) = if bytes_eq key e.0 then es else e ∷ es

-- The least key of ascending dictionaries has in each of them the info that it is first with, or none.
abbrev pub FirstInfosAreAll : Type 0
FirstInfosAreAll = (ess : List (List TermEntry)) (key : List ℕ) → AllByRecursion (λ (es : List TermEntry). AreAscending (entry_keys es)) ess → least_key ess ≡ Some key → map (first_info key) ess ≡ map (info_under key) ess
