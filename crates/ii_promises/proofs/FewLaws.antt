-- Few tokens of few fields exceed no limit.
use Rattle.std.proofs.Common.{inl, inr, ◌≡◌, ℕ, ◌≤◌, List, length, Result, arith}
use Rattle.std.specs.Prelude.{◌⊎◌, IfErr}
use Rattle.ii_io.specs.declared.faults.Fault.{Fault}
use Rattle.ii_io.specs.declared.faults.Fault.TheVariants.{OutOfMemory}
use Rattle.ii_base.specs.Schema.{SchemaEntry}
use Rattle.ii_definitions.specs.Tokens.{IndexToken}
use Rattle.ii_postings_writer.proofs.SizeLemmas.{AreFew, few_are_within, length-file-lt, length-positions_body-le, length-postings_body-le, length-terms-le}
use Rattle.ii_indexing.specs.IndexFiles.{HaveNoRoom}
use Rattle.ii_indexing.specs.RamFiles.{IsRamFault, empty_file}
use Rattle.ii_reader.specs.OpenIndex.{OpenIndexState}
use Rattle.ii_ram.proofs.NoTokens.{room}
use Rattle.ii_ram.proofs.WithinLimits.{memory_within}

-- few tokens of few fields have room
few_have_room : (es : List SchemaEntry) (ts : List IndexToken) → length es ≤ 100000 → AreFew ts → HaveNoRoom es empty_file empty_file empty_file ts → ⊥
few_have_room es ts fields few (inl full) = room _ (length-file-lt es ts (λ b. b.terms) (λ field. omega (arith, length-terms-le es ts few field)) fields) full
few_have_room es ts fields few (inr (inl full)) = room _ (length-file-lt es ts (λ b. b.postings) (length-postings_body-le es ts few) fields) full
few_have_room es ts fields few (inr (inr full)) = room _ (length-file-lt es ts (λ b. b.positions) (λ field. omega (arith, length-positions_body-le es ts few field)) fields) full

-- so only an allocation can fail
pub memory_of_few : (es : List SchemaEntry) (ts : List IndexToken) (n : ℕ) (answer : Result OpenIndexState Fault) → length es ≤ 100000 → AreFew ts → n ≤ 2147483647 → IfErr answer (λ e. (e ≡ OutOfMemory) ⊎ IsRamFault es n ts e)
    → IfErr answer (λ e. e ≡ OutOfMemory)
memory_of_few es ts n answer fields few low fault = memory_within es ts (λ field inside. few_are_within es ts few field) (few_have_room es ts fields few) n answer (omega (arith, fields)) low fault
