use Rattle.std.proofs.Common.{arith, ap, length, rules}
use Rattle.std.proofs.lemmas.List.{length-map}
use Rattle.ii_ranking.specs.Shares.{share_of}
use Rattle.ii_folder_promises.proofs.explanations.numbers_of_no_document_have_no_shares.Goals as goal

pub returns : goal.returns
returns c =
    let none = ap length (c.in_ok-shares.ensures.shares.none (search rules)) in
    let many = length-map c.in_ok-shares.shares.items share_of in
    omega (arith, none, many)
