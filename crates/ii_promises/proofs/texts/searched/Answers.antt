use Rattle.std.proofs.Common.{ap}
use Rattle.ii_io.specs.declared.faults.Fault.{Fault}
use Rattle.ii_query_parser.specs.declared.query_parser_error.QueryParserError.TheVariants as errors
use Rattle.ii_promises.proofs.texts.searched.Goals as goal

pub returns-in-Err-clause-gives : goal.returns-in-Err-clause-gives
returns-in-Err-clause-gives c = λ schema num_docs tokens holds fields keeps. ap (λ (f : Fault). errors.Fault f) (c.in-Err.ensures.holds schema num_docs tokens holds fields keeps)
