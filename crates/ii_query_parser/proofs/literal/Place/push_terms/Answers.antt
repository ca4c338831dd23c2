use Rattle.std.proofs.Common.{[]}
use Rattle.std.specs.Int.{bytes_high_first}
use Rattle.std.specs.Result.{result_ok}
use Rattle.hex.specs.Hex.{decode_of}
use Rattle.ii_base.specs.Options.{has_positions}
use Rattle.ii_base.specs.Values.{flipped, number_of_bool, u64_bytes}
use Rattle.ii_dates.specs.Dates.{date_in}
use Rattle.ii_json.specs.FastValues.{bool_in, i64_in, u64_in}
use Rattle.ii_term_text.specs.Addresses.{address_in}
use Rattle.ii_query_parser.specs.declared.query_parser_error.QueryParserError.TheVariants as errors
use Rattle.ii_query_parser.proofs.TermLemmas.{bytes_add, str_adds, value_adds}
use Rattle.ii_query_parser.proofs.literal.Place.push_terms.Goals as goal

pub returns-in-Str : goal.returns-in-Str
returns-in-Str g c =
    rw c.in-Str.is (str_adds (record { analyze = g.A.TextAnalyzer.words c.args.analyzer.now; entries = [] }) c.args.self.field (has_positions c.args.self.option) c.args.self.expand_dots c.args.path.now c.args.phrase.now c.args.terms.now.items c.push_text.new.terms.items c.push_text.result c.push_text.ensures)

pub returns-in-U64 : goal.returns-in-U64
returns-in-U64 g c =
    let term = c.u64_term.ensures in
    let put = c.push_read.ensures in
    rw c.in-U64.is (value_adds c.args.self.field (has_positions c.args.self.option) u64_bytes (u64_in c.args.phrase.now) (errors.ExpectedInt c.args.self.field) c.u64_term.result c.args.terms.now.items c.push_read.new.terms.items c.push_read.result term.ok term.only put.read put.refused)

pub returns-in-I64 : goal.returns-in-I64
returns-in-I64 g c =
    let term = c.i64_term.ensures in
    let put = c.push_read-in-I64.ensures in
    rw c.in-I64.is (value_adds c.args.self.field (has_positions c.args.self.option) (λ n. u64_bytes (flipped n)) (i64_in c.args.phrase.now) (errors.ExpectedInt c.args.self.field) c.i64_term.result c.args.terms.now.items c.push_read-in-I64.new.terms.items c.push_read-in-I64.result term.ok term.only put.read put.refused)

pub returns-in-Date : goal.returns-in-Date
returns-in-Date g c =
    let term = c.date_term.ensures in
    let put = c.push_read-in-Date.ensures in
    rw c.in-Date.is (value_adds c.args.self.field (has_positions c.args.self.option) (λ z. u64_bytes (flipped z)) (date_in c.args.phrase.now) (errors.ExpectedDate c.args.self.field) c.date_term.result c.args.terms.now.items c.push_read-in-Date.new.terms.items c.push_read-in-Date.result term.ok term.only put.read put.refused)

pub returns-in-Bytes : goal.returns-in-Bytes
returns-in-Bytes g c =
    let term = c.bytes_term.ensures in
    let put = c.push_read-in-Bytes.ensures in
    rw c.in-Bytes.is (bytes_add c.args.self.field (has_positions c.args.self.option) (result_ok (decode_of c.args.phrase.now)) (errors.ExpectedBytes c.args.self.field) c.bytes_term.result c.args.terms.now.items c.push_read-in-Bytes.new.terms.items c.push_read-in-Bytes.result term.ok term.only put.read put.refused)

pub returns-in-IpAddr : goal.returns-in-IpAddr
returns-in-IpAddr g c =
    let term = c.address_term.ensures in
    let put = c.push_read-in-IpAddr.ensures in
    rw c.in-IpAddr.is (value_adds c.args.self.field (has_positions c.args.self.option) (λ n. bytes_high_first 16 n) (address_in c.args.phrase.now) (errors.ExpectedIpAddr c.args.self.field) c.address_term.result c.args.terms.now.items c.push_read-in-IpAddr.new.terms.items c.push_read-in-IpAddr.result term.ok term.only put.read put.refused)

pub returns-in-Bool : goal.returns-in-Bool
returns-in-Bool g c =
    let term = c.bool_term.ensures in
    let put = c.push_read-in-Bool.ensures in
    rw c.in-Bool.is (value_adds c.args.self.field (has_positions c.args.self.option) (λ b. u64_bytes (number_of_bool b)) (bool_in c.args.phrase.now) (errors.ExpectedBool c.args.self.field) c.bool_term.result c.args.terms.now.items c.push_read-in-Bool.new.terms.items c.push_read-in-Bool.result term.ok term.only put.read put.refused)
