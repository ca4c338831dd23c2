use Rattle.std.proofs.Common.{◌≡◌, List, [], ◌∷◌, refl}
use Rattle.std.proofs.lemmas.List.{take_rest}
use Rattle.ii_termstore.specs.declared.term_info.TermInfo.{TermInfo}
use Rattle.ii_termstore.specs.Written.{first_of, info_in}
use Rattle.ii_termstore.proofs.GatherLemmas.{open_bits_by}
use Rattle.ii_termstore.proofs.term_info_store.gathered_blocks.put_open_bits.Goals as goal

first_is : (infos : List TermInfo) → info_in infos 0 ≡ first_of infos
first_is [] = refl
first_is (first ∷ others) = refl

pub returns-in-len1-up : goal.returns-in-len1-up
returns-in-len1-up g c =
    let infos = c.args.infos.now in
    let others = take_rest infos 1 in
    let value = rw (first_is infos, others) at c.meta_for.ensures.value in
    rw (← (open_bits_by 0 infos c.meta_for.result value c.in-len1-up.len_at_least)) (rw others at c.put_block.ensures)
