use Rattle.ii_documents.proofs.values.value_call.Goals as goal

pub returns-in-Str-clause-gives : goal.returns-in-Str-clause-gives
returns-in-Str-clause-gives c = rw (← c.value_type.ensures, c.in-Str.is) (c.text_call.ensures.gives c.args.floats _)

pub returns-in-U64-clause-gives : goal.returns-in-U64-clause-gives
returns-in-U64-clause-gives c = rw (← c.value_type.ensures, c.in-U64.is) (c.u64_call.ensures.gives c.args.floats _)

pub returns-in-I64-clause-gives : goal.returns-in-I64-clause-gives
returns-in-I64-clause-gives c = rw (← c.value_type.ensures, c.in-I64.is) (c.i64_call.ensures.gives c.args.floats _)

pub returns-in-Bool-clause-gives : goal.returns-in-Bool-clause-gives
returns-in-Bool-clause-gives c = rw (← c.value_type.ensures, c.in-Bool.is) (c.bool_call.ensures.gives c.args.floats _)

pub returns-in-Bytes-clause-gives : goal.returns-in-Bytes-clause-gives
returns-in-Bytes-clause-gives c = rw (← c.value_type.ensures, c.in-Bytes.is) (c.bytes_call.ensures.gives c.args.floats _)

pub returns-in-IpAddr-clause-gives : goal.returns-in-IpAddr-clause-gives
returns-in-IpAddr-clause-gives c = rw (← c.value_type.ensures, c.in-IpAddr.is) (c.address_call.ensures.gives c.args.floats _)

pub returns-in-Json-clause-gives : goal.returns-in-Json-clause-gives
returns-in-Json-clause-gives c = rw (← c.value_type.ensures, c.in-Json.is) (c.json_call.ensures.gives _)

pub returns-in-Date-clause-gives : goal.returns-in-Date-clause-gives
returns-in-Date-clause-gives c = rw (← c.value_type.ensures, c.in-Date.is) (c.date_call.ensures.gives c.args.floats _)
