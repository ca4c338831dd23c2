-- What a list that was loaded keeps of each document.
use Rattle.std.proofs.Common.{◌≡◌, ◌∙◌, List, Result, Ok, Err, ap, map}
use Rattle.std.proofs.lemmas.Simd.{map-map}
use Rattle.std.specs.Prelude.{IfOk}
use Rattle.ii_io.specs.declared.faults.Fault.{Fault}
use Rattle.ii_base.specs.Entries.{Entry}
use Rattle.ii_reader.specs.LoadedPostings.{LoadedPostingsState, loaded, loaded_entry}

pub each_is_loaded : {Y : Type 0} (f : Entry → Y) (es : List Entry) (answer : Result LoadedPostingsState Fault) → IfOk answer (λ l. l.rest ≡ loaded es)
    → IfOk answer (λ l. map f l.rest ≡ map (λ (e : Entry). f (loaded_entry e)) es)
each_is_loaded f es (Ok l) is = ap (map f) is ∙ map-map f loaded_entry es
each_is_loaded f es (Err e) is = tt
