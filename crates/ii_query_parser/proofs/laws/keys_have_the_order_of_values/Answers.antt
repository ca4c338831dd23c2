use Rattle.ii_query_parser.proofs.ValueOrder.{address_order, bool_order, i64_order, u64_order}
use Rattle.ii_query_parser.proofs.laws.keys_have_the_order_of_values.Goals as goal

pub returns-clause-u64_range : goal.returns-clause-u64_range
returns-clause-u64_range c = u64_order

pub returns-clause-i64_range : goal.returns-clause-i64_range
returns-clause-i64_range c = i64_order

pub returns-clause-address_range : goal.returns-clause-address_range
returns-clause-address_range c = address_order

pub returns-clause-bool_range : goal.returns-clause-bool_range
returns-clause-bool_range c = bool_order
