use Rattle.std.proofs.Common.{rules, refl}
use Rattle.ii_term_text.proofs.AddressLemmas.{no_segments, v4_segments, v6_segments}
use Rattle.ii_term_text.proofs.addresses.octets_in.Goals as goal

pub returns-in-Ok : goal.returns-in-Ok
returns-in-Ok c = rw (v4_segments c.args.text.now c.in-Ok.address.octets (search rules), c.octets.ensures, c.to_ipv6_mapped.ensures) refl

pub returns-in-Ok-parse_ascii : goal.returns-in-Ok-parse_ascii
returns-in-Ok-parse_ascii c = rw (v6_segments c.args.text.now c.in-Ok-parse_ascii.address.segments (search rules), c.octets-in-Ok-parse_ascii.ensures) refl

pub returns-in-Err-parse_ascii : goal.returns-in-Err-parse_ascii
returns-in-Err-parse_ascii c =
    let no_v4 = rw c.as_bytes.ensures.value at c.in-Err.ensures in
    let no_v6 = rw c.as_bytes-in-Err.ensures.value at c.in-Err-parse_ascii.ensures in
    rw (no_segments c.args.text.now no_v4 no_v6) refl
