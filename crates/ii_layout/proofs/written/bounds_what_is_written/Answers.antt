use Rattle.ii_layout.proofs.BoundLaws as laws
use Rattle.ii_layout.proofs.written.bounds_what_is_written.Goals as goal

pub returns-clause-bounds : goal.returns-clause-bounds
returns-clause-bounds c = laws.bounds_what_is_written

pub returns-clause-room : goal.returns-clause-room
returns-clause-room c = laws.bounds_take_no_room

pub returns-clause-plain : goal.returns-clause-plain
returns-clause-plain c = laws.plain_terms_have_no_bounds

pub returns-clause-read : goal.returns-clause-read
returns-clause-read c = laws.bounds_written_terms
