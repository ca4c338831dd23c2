use Rattle.ii_directory.proofs.NameParse.{no_id, no_rest, segment_made}
use Rattle.ii_directory.proofs.name.Name.of_text.Goals as goal

pub returns-in_default-hex_number : goal.returns-in_default-hex_number
returns-in_default-hex_number c = no_id c.args.text.now c.split_at.result.0.now c.split_at.result.1.now c.split_at.ensures.by_index.0 c.split_at.ensures.front_len c.in_default.ensures c.in_default-hex_number.ensures

pub returns-in_default-component_of_text : goal.returns-in_default-component_of_text
returns-in_default-component_of_text c = no_rest c.args.text.now c.split_at.result.0.now c.split_at.result.1.now c.split_at.ensures.by_index.0 c.split_at.ensures.front_len c.in_default.ensures c.in_default-component_of_text.ensures

pub returns : goal.returns
returns c = segment_made c.args.text.now c.split_at.result.0.now c.split_at.result.1.now c.in-Some-hex_number.id c.in-Some-component_of_text.component c.split_at.ensures.by_index.0 c.split_at.ensures.front_len
    c.in-Some-hex_number.ensures c.in-Some-component_of_text.ensures
