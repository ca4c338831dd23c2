use Rattle.std.proofs.Common.{◌+◌, ◌*◌, arith}
use Rattle.ii_directory.proofs.NameParse.{no_high, no_low, number_fits, number_more, number_none}
use Rattle.ii_directory.proofs.name.+hex_number.Goals as goal

pub returns-in_default : goal.returns-in_default
returns-in_default t c = number_none c.args.text.now c.in_default.ensures.cases

pub returns-in_default-hex_number : goal.returns-in_default-hex_number
returns-in_default-hex_number t c = no_high c.args.text.now c.in-Some.front.now c.in-Some.last.now c.in-Some.ensures.cases.0 c.in_default-hex_number.ensures

pub returns-in_default-hex_value : goal.returns-in_default-hex_value
returns-in_default-hex_value t c = no_low c.args.text.now c.in-Some.front.now c.in-Some.last.now c.in-Some.ensures.cases.0 c.in_default-hex_value.ensures

pub overflow_mul-result : goal.overflow_mul-result
overflow_mul-result t c = omega (arith, number_fits c.args.text.now (c.in-Some-hex_number.high * 16 + c.in-Some-hex_value.low) c.requires (number_more c.args.text.now c.in-Some.front.now c.in-Some.last.now c.in-Some.ensures.cases.0 c.in-Some-hex_number.high c.in-Some-hex_value.low c.in-Some-hex_number.ensures c.in-Some-hex_value.ensures.0 c.in-Some-hex_value.ensures.1))

pub overflow_add-result : goal.overflow_add-result
overflow_add-result t c = omega (arith, number_fits c.args.text.now (c.in-Some-hex_number.high * 16 + c.in-Some-hex_value.low) c.requires (number_more c.args.text.now c.in-Some.front.now c.in-Some.last.now c.in-Some.ensures.cases.0 c.in-Some-hex_number.high c.in-Some-hex_value.low c.in-Some-hex_number.ensures c.in-Some-hex_value.ensures.0 c.in-Some-hex_value.ensures.1), c.from.ensures)

pub returns : goal.returns
returns t c = rw c.from.ensures (number_more c.args.text.now c.in-Some.front.now c.in-Some.last.now c.in-Some.ensures.cases.0 c.in-Some-hex_number.high c.in-Some-hex_value.low c.in-Some-hex_number.ensures c.in-Some-hex_value.ensures.0 c.in-Some-hex_value.ensures.1)
