use Rattle.std.proofs.Common.{rules, ℕ, ◌∷◌, ◌≡◌, Ok, map, arith}
use Rattle.std.specs.List.{enumerate_from}
use Rattle.ii_base.specs.Schema.{SchemaEntry}
use Rattle.ii_reader.specs.OpenIndex.{field_readers, reader_of_field}
use Rattle.ii_reader.proofs.IndexLemmas.{in_front_of_none, many_fields, one_more}
use Rattle.ii_reader.proofs.index_files.IndexFiles.open_fields.Goals as goal

pub loop-field-init : goal.loop-field-init
loop-field-init c =
    let all : c.into_iter-field-iterator.result ≡ enumerate_from 0 c.args.schema.now = search rules in
    rw (c.in_ok-readers.ensures.items, all) (in_front_of_none (field_readers c.args.self.now c.args.schema.now))

pub loop-field-preserved : goal.loop-field-preserved
loop-field-preserved c =
    let l = c.loop-field in
    let step : l.field-iterator ≡ (c.in-Some.field, c.in-Some.entry.now) ∷ c.next.new.self = search rules in
    rw c.in_ok-push.ensures.items
    (one_more (field_readers c.args.self.now c.args.schema.now) l.readers.items _ (map (λ (f : ℕ × SchemaEntry). reader_of_field c.args.self.now f.0 f.1.option) c.next.new.self) c.in_ok-reader.reader (rw step at l.invariant) (rw c.index_record_option.ensures at c.in_ok-reader.ensures.ok))

pub returns-clause-few : goal.returns-clause-few
returns-clause-few c =
    let found : field_readers c.args.self.now c.args.schema.now ≡ Ok c.loop-field.readers.items = search rules in
    omega (arith, many_fields c.args.self.now c.args.schema.now c.loop-field.readers.items found, c.num_fields.ensures.value, c.num_fields.ensures.bound)
