use Rattle.std.proofs.Common.{List, ℕ, Result, Ok, sym, ap, ◌∙◌}
use Rattle.ii_directory.specs.declared.name.Name.TheVariants.{Segment}
use Rattle.ii_store.specs.Segments.{ListedFile}
use Rattle.ii_store.specs.declared.faults.IndexFault.{IndexFault}
use Rattle.ii_block_file.specs.ListedFile.{bytes_or_none}
use Rattle.ii_block_file.proofs.ListedLaws.{opened_bytes, opens, some_bytes}
use Rattle.ii_block_file.proofs.listed_file.open_listed.Goals as goal

abbrev bytes_read : List ℕ → Result (List ℕ) IndexFault
bytes_read bytes = Ok bytes

pub returns-clause-answers : goal.returns-clause-answers
returns-clause-answers g c = λ known.
    let bytes_of = g.D.File.ReadAt.bytes in
    let l : ListedFile = record { id = c.args.id; file = c.args.file.now } in
    let seen = g.D.Directory.seen c.args.directory.now (Segment c.args.id c.args.file.now.component) in
    let (same, there) = rw c.in-Some.is at (c.in_ok-source.ensures.opened known) in
    let (bytes, here, own) = some_bytes seen (bytes_of c.in-Some.source) same there in
    opens l seen (bytes_of c.in-Some.source) bytes c.in_ok-table.table here own (c.in_ok-table.ensures.answers known bytes here own) ∙ ap (λ s. bytes_read (bytes_or_none (bytes_of s))) (sym c.new.ensures.source)

pub returns-clause-known : goal.returns-clause-known
returns-clause-known g c = λ known.
    let bytes_of = g.D.File.ReadAt.bytes in
    let l : ListedFile = record { id = c.args.id; file = c.args.file.now } in
    let seen = g.D.Directory.seen c.args.directory.now (Segment c.args.id c.args.file.now.component) in
    let (same, there) = rw c.in-Some.is at (c.in_ok-source.ensures.opened known) in
    let (bytes, here, own) = some_bytes seen (bytes_of c.in-Some.source) same there in
    record {
      file = bytes;
      known = ap bytes_of c.new.ensures.source ∙ own;
      table = c.new.ensures.table ∙ (opened_bytes l bytes c.in_ok-table.table (c.in_ok-table.ensures.answers known bytes here own)).1;
    }
