use Rattle.std.proofs.Common.{ap, sym}
use Rattle.ii_schema_text.specs.Settings.{type_name}
use Rattle.ii_schema_text.proofs.TypeNames.{named_again}
use Rattle.ii_schema_text.proofs.field_type.type_name.Goals as goal

pub returns-in-Str-clause-read : goal.returns-in-Str-clause-read
returns-in-Str-clause-read c = λ t of. named_again c.args.value_type _ t (ap type_name (sym c.in-Str.is)) of

pub returns-in-U64-clause-read : goal.returns-in-U64-clause-read
returns-in-U64-clause-read c = λ t of. named_again c.args.value_type _ t (ap type_name (sym c.in-U64.is)) of

pub returns-in-I64-clause-read : goal.returns-in-I64-clause-read
returns-in-I64-clause-read c = λ t of. named_again c.args.value_type _ t (ap type_name (sym c.in-I64.is)) of

pub returns-in-Bool-clause-read : goal.returns-in-Bool-clause-read
returns-in-Bool-clause-read c = λ t of. named_again c.args.value_type _ t (ap type_name (sym c.in-Bool.is)) of

pub returns-in-Date-clause-read : goal.returns-in-Date-clause-read
returns-in-Date-clause-read c = λ t of. named_again c.args.value_type _ t (ap type_name (sym c.in-Date.is)) of

pub returns-in-Bytes-clause-read : goal.returns-in-Bytes-clause-read
returns-in-Bytes-clause-read c = λ t of. named_again c.args.value_type _ t (ap type_name (sym c.in-Bytes.is)) of

pub returns-in-IpAddr-clause-read : goal.returns-in-IpAddr-clause-read
returns-in-IpAddr-clause-read c = λ t of. named_again c.args.value_type _ t (ap type_name (sym c.in-IpAddr.is)) of

pub returns-in-Json-clause-read : goal.returns-in-Json-clause-read
returns-in-Json-clause-read c = λ t of. named_again c.args.value_type _ t (ap type_name (sym c.in-Json.is)) of
