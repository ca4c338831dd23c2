-- Worked rows of the program's text, each computed.
use Rattle.std.proofs.Common.{◌≡◌, [], ◌∷◌, None, Some, codes, refl}
use Rattle.std.specs.Fmt.{digits}
use Rattle.std.specs.Str.{is_utf8, chars}
use Rattle.hex.specs.Hex.{encode_with, decode_pairs}
use Rattle.ii_io.specs.Vints.{u32_at, u64_at, vint_u32}
use Rattle.ii_codes.specs.Packed.{bits_in, entries_in, unpacked}
use Rattle.ii_codes.specs.Blocks.{sorted_block_at}
use Rattle.ii_layout.specs.SkipList.{entry_at}
use Rattle.iiq.specs.declared.commands.CommandSet.TheVariants.{Strict, WithQueries}
use Rattle.iiq.specs.Commands.{command_of, text_search}
use Rattle.iiq.specs.Output.{AnswersLine}
use Rattle.iiq.specs.Session.{Session, gathering}

abbrev nothing_yet : Session
nothing_yet = gathering []

pub row_ids : AnswersLine WithQueries nothing_yet (codes "ids 0 2 10") nothing_yet (codes "808288" ∷ codes "0 2 10" ∷ [])
unfolding is_utf8 chars digits lib.Utf8.encode encode_with vint_u32
row_ids = (Some _, (refl, refl), refl)

pub row_no_ids : AnswersLine WithQueries nothing_yet (codes "ids") nothing_yet (codes "-" ∷ codes "-" ∷ [])
unfolding is_utf8 chars digits lib.Utf8.encode encode_with vint_u32
row_no_ids = (Some _, (refl, refl), refl)

pub row_repeated : AnswersLine WithQueries nothing_yet (codes "ids 1 1") nothing_yet (codes "error line" ∷ [])
unfolding is_utf8 chars digits lib.Utf8.encode encode_with vint_u32
row_repeated = (None, (refl, refl), refl)

pub row_empty : AnswersLine WithQueries nothing_yet (codes "") nothing_yet []
row_empty = (refl, refl)

pub row_cut : AnswersLine WithQueries nothing_yet (codes "open b b 3 8082") nothing_yet (codes "damaged documents" ∷ [])
unfolding is_utf8 chars digits lib.Utf8.encode decode_pairs u32_at
row_cut = (Some _, (refl, refl), refl)

pub row_zero_groups : AnswersLine WithQueries nothing_yet (codes "open b b 1 0000000080") nothing_yet (codes "0" ∷ [])
unfolding is_utf8 chars digits lib.Utf8.encode decode_pairs u32_at
row_zero_groups = (Some _, (refl, refl), refl)

pub row_six_groups : AnswersLine WithQueries nothing_yet (codes "open b b 1 000000000080") nothing_yet (codes "damaged documents" ∷ [])
unfolding is_utf8 chars digits lib.Utf8.encode decode_pairs u32_at
row_six_groups = (Some _, (refl, refl), refl)

pub row_largest : AnswersLine WithQueries nothing_yet (codes "open b p 1 7E7F7F7f87 00") nothing_yet (codes "2147483646" ∷ [])
unfolding is_utf8 chars digits lib.Utf8.encode decode_pairs u32_at
row_largest = (Some _, (refl, refl), refl)

pub row_end : AnswersLine WithQueries nothing_yet (codes "open b b 1 7F7F7F7F87") nothing_yet (codes "damaged documents" ∷ [])
unfolding is_utf8 chars digits lib.Utf8.encode decode_pairs u32_at
row_end = (Some _, (refl, refl), refl)

pub row_past : AnswersLine WithQueries nothing_yet (codes "open b b 1 7F7F7F7F9F") nothing_yet (codes "damaged documents" ∷ [])
unfolding is_utf8 chars digits lib.Utf8.encode decode_pairs u32_at
row_past = (Some _, (refl, refl), refl)

pub row_nothing : AnswersLine WithQueries nothing_yet (codes "open b b 0 -") nothing_yet (codes "-" ∷ [])
unfolding is_utf8 chars digits lib.Utf8.encode decode_pairs u32_at
row_nothing = (Some _, (refl, refl), refl)

pub row_counts : AnswersLine WithQueries nothing_yet (codes "open f f 3 808288818283") nothing_yet (codes "0:1 2:2 10:3" ∷ [])
unfolding is_utf8 chars digits lib.Utf8.encode decode_pairs u32_at
row_counts = (Some _, (refl, refl), refl)

pub row_counts_unasked : AnswersLine WithQueries nothing_yet (codes "open f b 3 808288FF") nothing_yet (codes "0 2 10" ∷ [])
unfolding is_utf8 chars digits lib.Utf8.encode decode_pairs u32_at
row_counts_unasked = (Some _, (refl, refl), refl)

pub row_no_counts : AnswersLine WithQueries nothing_yet (codes "open f f 3 808288") nothing_yet (codes "0:1 2:1 10:1" ∷ [])
unfolding is_utf8 chars digits lib.Utf8.encode decode_pairs u32_at
row_no_counts = (Some _, (refl, refl), refl)

pub row_counts_damaged : AnswersLine WithQueries nothing_yet (codes "open f f 3 808288FF") nothing_yet (codes "damaged frequencies" ∷ [])
unfolding is_utf8 chars digits lib.Utf8.encode decode_pairs u32_at
row_counts_damaged = (Some _, (refl, refl), refl)

pub row_count_of_zero : AnswersLine WithQueries nothing_yet (codes "open f f 1 8080") nothing_yet (codes "0:0" ∷ [])
unfolding is_utf8 chars digits lib.Utf8.encode decode_pairs u32_at
row_count_of_zero = (Some _, (refl, refl), refl)

pub row_counts_unrecorded : AnswersLine WithQueries nothing_yet (codes "open b f 3 808288") nothing_yet (codes "0 2 10" ∷ [])
unfolding is_utf8 chars digits lib.Utf8.encode decode_pairs u32_at
row_counts_unrecorded = (Some _, (refl, refl), refl)

pub row_positions : AnswersLine WithQueries nothing_yet (codes "open p p 1 8082 808084") nothing_yet (codes "0:2:0,4" ∷ [])
unfolding is_utf8 chars digits lib.Utf8.encode decode_pairs u32_at u64_at
row_positions = (Some _, (refl, refl), refl)

pub row_positions_not_given : AnswersLine WithQueries nothing_yet (codes "open p p 1 8082") nothing_yet (codes "0:2:" ∷ [])
unfolding is_utf8 chars digits lib.Utf8.encode decode_pairs u32_at u64_at
row_positions_not_given = (Some _, (refl, refl), refl)

pub row_positions_cut : AnswersLine WithQueries nothing_yet (codes "open p p 1 8082 8080") nothing_yet (codes "damaged positions" ∷ [])
unfolding is_utf8 chars digits lib.Utf8.encode decode_pairs u32_at u64_at
row_positions_cut = (Some _, (refl, refl), refl)

pub row_positions_empty : AnswersLine WithQueries nothing_yet (codes "open p p 1 8082 -") nothing_yet (codes "damaged positions" ∷ [])
unfolding is_utf8 chars digits lib.Utf8.encode decode_pairs u32_at u64_at
row_positions_empty = (Some _, (refl, refl), refl)

pub row_positions_unasked : AnswersLine WithQueries nothing_yet (codes "open p f 1 8082 8080") nothing_yet (codes "0:2" ∷ [])
unfolding is_utf8 chars digits lib.Utf8.encode decode_pairs u32_at u64_at
row_positions_unasked = (Some _, (refl, refl), refl)

pub row_number : AnswersLine WithQueries nothing_yet (codes "open p p 1 80 80") nothing_yet (codes "0:1:" ∷ [])
unfolding is_utf8 chars digits lib.Utf8.encode decode_pairs u32_at u64_at
row_number = (Some _, (refl, refl), refl)

pub row_spaces : AnswersLine WithQueries nothing_yet (codes "ids 1  2") nothing_yet (codes "error line" ∷ [])
unfolding is_utf8 chars digits lib.Utf8.encode
row_spaces = (None, (refl, refl), refl)

pub row_many : AnswersLine WithQueries nothing_yet (codes "open b b 4294967295 857F00000040") nothing_yet (codes "damaged skip" ∷ [])
unfolding is_utf8 chars digits lib.Utf8.encode decode_pairs u64_at entry_at
row_many = (Some _, (refl, refl), refl)

pub row_last_document : AnswersLine WithQueries nothing_yet (codes "open b b 128 858000000040") nothing_yet (codes "damaged documents" ∷ [])
unfolding is_utf8 chars digits lib.Utf8.encode decode_pairs u64_at entry_at sorted_block_at unpacked entries_in bits_in
row_last_document = (Some _, (refl, refl), refl)

-- a search where queries are known, and no line without them
pub row_query : command_of WithQueries (codes "? query new york") ≡ text_search (codes "new york")
row_query = refl

pub row_query_strict : AnswersLine Strict nothing_yet (codes "? query new york") nothing_yet (codes "error line" ∷ [])
unfolding is_utf8 chars lib.Utf8.encode
row_query_strict = (None, (refl, refl), refl)
