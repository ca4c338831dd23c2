-- Names of files, computed on examples.
use Rattle.std.proofs.Common.{◌≡◌, refl}
use Rattle.std.specs.Prelude.{codes}
use Rattle.ii_directory.specs.declared.name.Name.TheVariants.{Segment}
use Rattle.ii_directory.specs.declared.name.SegmentComponent.TheVariants.{Alive, BlockTables, Store, Terms}
use Rattle.ii_directory.specs.Names.{hex_digits, name_text}

-- the file names of the terms, the lines and the tables of segment 26, and of the living documents of segment 255 as of generation 16

terms_26 : name_text (Segment 26 Terms) ≡ codes "000000000000001a.term"
unfolding hex_digits
terms_26 = refl

store_26 : name_text (Segment 26 Store) ≡ codes "000000000000001a.store"
unfolding hex_digits
store_26 = refl

blocks_26 : name_text (Segment 26 BlockTables) ≡ codes "000000000000001a.blocks"
unfolding hex_digits
blocks_26 = refl

alive_255 : name_text (Segment 255 (Alive 16)) ≡ codes "00000000000000ff.0000000000000010.alive"
unfolding hex_digits
alive_255 = refl
