use Rattle.std.proofs.Common.{List, ℕ, refl, subst, Result, ap, sym, ◌∙◌}
use Rattle.ii_definitions.specs.Fields.{option_of}
use Rattle.ii_definitions.specs.Files.{HoldTokens}
use Rattle.ii_definitions.specs.Norms.{HoldNorms}
use Rattle.ii_ram.proofs.RamLaws.{same_file, opens_files}
use Rattle.ii_ram.proofs.ram.open_in_ram.Goals as goal
use Rattle.ii_io.specs.declared.faults.Part.{Part}
use Rattle.ii_reader.specs.OpenIndex.{OpenIndexState, index_of_files}
use Rattle.ii_ram.specs.OpenedFiles.{OpensFiles}

pub returns-clause-holds : goal.returns-clause-holds
returns-clause-holds c t p q f n ts terms postings positions fieldnorms hold norms =
    let option = option_of c.args.schema.now in
    let a = same_file c.in_ok-from_vec.field-0 c.finish.result.items t c.args.files.terms.contents c.in_ok-from_vec.ensures.ok c.finish.ensures terms in
    let b = same_file c.in_ok-from_vec-2.field-0 c.finish-2.result.items p c.args.files.postings.contents c.in_ok-from_vec-2.ensures.ok c.finish-2.ensures postings in
    let d = same_file c.in_ok-from_vec-3.field-0 c.finish-3.result.items q c.args.files.positions.contents c.in_ok-from_vec-3.ensures.ok c.finish-3.ensures positions in
    let e = same_file c.in_ok-from_vec-4.field-0 c.finish-4.result.items f c.args.files.fieldnorms.contents c.in_ok-from_vec-4.ensures.ok c.finish-4.ensures fieldnorms in
    let read = subst (λ (x : List ℕ). HoldNorms c.args.schema.now n x ts) e norms in (
      c.open_index_with_norms-2.ensures.holds ts
          (subst (λ (x : List ℕ). HoldTokens option x c.in_ok-from_vec-2.field-0 c.in_ok-from_vec-3.field-0 ts) a (subst (λ (x : List ℕ). HoldTokens option t x c.in_ok-from_vec-3.field-0 ts) b (subst (λ (x : List ℕ). HoldTokens option t p x ts) d hold)))
          (rw read.opened refl),
      c.open_index_with_norms-2.ensures.norms n ts read,
    )

pub returns-clause-opened : goal.returns-clause-opened
returns-clause-opened c t p q f terms postings positions fieldnorms =
    let entries = c.args.schema.now in
    let a = same_file c.in_ok-from_vec.field-0 c.finish.result.items t c.args.files.terms.contents c.in_ok-from_vec.ensures.ok c.finish.ensures terms in
    let b = same_file c.in_ok-from_vec-2.field-0 c.finish-2.result.items p c.args.files.postings.contents c.in_ok-from_vec-2.ensures.ok c.finish-2.ensures postings in
    let d = same_file c.in_ok-from_vec-3.field-0 c.finish-3.result.items q c.args.files.positions.contents c.in_ok-from_vec-3.ensures.ok c.finish-3.ensures positions in
    let e = same_file c.in_ok-from_vec-4.field-0 c.finish-4.result.items f c.args.files.fieldnorms.contents c.in_ok-from_vec-4.ensures.ok c.finish-4.ensures fieldnorms in
    let opened = opens_files (index_of_files c.in_ok-from_vec.field-0 c.in_ok-from_vec-2.field-0 c.in_ok-from_vec-3.field-0 c.in_ok-from_vec-4.field-0 entries) c.open_index_with_norms-2.result c.open_index_with_norms-2.ensures.ok c.open_index_with_norms-2.ensures.err in
    subst (λ (r : Result OpenIndexState Part). OpensFiles r c.open_index_with_norms-2.result)
    (ap (λ (x : List ℕ). index_of_files x c.in_ok-from_vec-2.field-0 c.in_ok-from_vec-3.field-0 c.in_ok-from_vec-4.field-0 entries) (sym a)
    ∙ ap (λ (x : List ℕ). index_of_files t x c.in_ok-from_vec-3.field-0 c.in_ok-from_vec-4.field-0 entries) (sym b)
    ∙ ap (λ (x : List ℕ). index_of_files t p x c.in_ok-from_vec-4.field-0 entries) (sym d)
    ∙ ap (λ (x : List ℕ). index_of_files t p q x entries) (sym e)) opened
