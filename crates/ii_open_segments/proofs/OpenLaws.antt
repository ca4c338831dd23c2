-- The files of a segment open with the tables that were written with them.
use Rattle.std.proofs.Common.{◌≡◌, ℕ, ◌+◌, ◌*◌, ◌≤◌, true, List, [], ◌∷◌, ◌++◌, length, take, drop, Option, None, Some, Ok, refl, sym, ap, subst, ◌∙◌, arith, append-nil, append_assoc, length-append}
use Rattle.std.proofs.lemmas.Bool.{le-ltb}
use Rattle.std.proofs.lemmas.List.{take_at}
use Rattle.std.proofs.Math.Seq.{drop-append_seam}
use Rattle.ii_store.specs.declared.index_meta.FileMeta.{FileMeta}
use Rattle.ii_directory.specs.declared.name.Name.TheVariants.{Segment}
use Rattle.ii_directory.specs.declared.name.SegmentComponent.{SegmentComponent}
use Rattle.ii_directory.specs.declared.name.SegmentComponent.TheVariants.{Alive, BlockTables, Counts, FieldNorms, Positions, Postings, Store, Terms}
use Rattle.ii_directory.specs.Directory.{Files}
use Rattle.ii_store.specs.IndexMeta.{file_meta}
use Rattle.ii_block_file.specs.BlockTable.{block_table_of, file_block, num_file_blocks}
use Rattle.ii_block_file.proofs.TableLaws.{num_bytes, own_table}
use Rattle.ii_segment_store.specs.BlockTables.{file_table, segment_tables, table_if}
use Rattle.ii_segment_store.specs.Commits.{HasFileIf, HasSegment, listed_if, listed_segment}
use Rattle.ii_segment_store.specs.Contents.{SegmentContents, file_of}
use Rattle.ii_open_segments.specs.OpenFiles.{component_contents, has_table, listed_table, open_found, open_in, open_listed, open_with, table_start}

-- the length of a table
table_long : (bytes : List ℕ) → length (file_table bytes) ≡ 8 * num_file_blocks (length bytes)
table_long bytes = num_bytes (λ (k : ℕ). file_block k bytes) (num_file_blocks (length bytes))

-- bytes between others
between : (xs ys zs all : List ℕ) (start len : ℕ) → all ≡ xs ++ (ys ++ zs) → length xs ≡ start → length ys ≡ len → take len (drop start all) ≡ ys
between xs ys zs all start len parts before long =
    ap (λ (n : ℕ). take len (drop n all)) (sym before) ∙ ap (λ (bs : List ℕ). take len (drop (length xs) bs)) parts ∙ ap (take len) (drop-append_seam xs (ys ++ zs)) ∙ take_at ys zs len (omega (arith, long))

module _ (id : ℕ) (s : SegmentContents) (files : Files) (there : HasSegment id s files) where
  -- a file with a table among those of the segment
  one : (component : SegmentComponent) (front bytes rest : List ℕ) → has_table (file_meta component bytes) ≡ true → file_of component (listed_segment id s).files ≡ Some (file_meta component bytes)
      → file_of BlockTables (listed_segment id s).files ≡ Some (file_meta BlockTables (segment_tables s)) → length front ≡ table_start component (listed_segment id s).files
      → segment_tables s ≡ front ++ (file_table bytes ++ rest) → files (Segment id component) ≡ Some bytes
      → open_in (listed_segment id s) component files ≡ Ok (Some (record { bytes = Some bytes; table = block_table_of bytes }))
  unfolding open_found open_listed listed_table open_with
  one component front bytes rest has found tables before parts here =
      let start = table_start component (listed_segment id s).files in
      let len = 8 * num_file_blocks (length bytes) in
      let all = segment_tables s in
      let cut : take len (drop start all) ≡ file_table bytes = between front (file_table bytes) rest all start len parts before (table_long bytes) in
      let enough : start + len ≤ length all = omega (arith, ap length parts, length-append front (file_table bytes ++ rest), length-append (file_table bytes) rest, before, table_long bytes) in
      rw (found, tables, has, there.tables, has, le-ltb (length all) (start + len) enough, cut, own_table bytes, here) refl

-- the files of a segment, as `meta` lists them

abbrev files_of : List ℕ → List ℕ → List ℕ → List ℕ → Option (List ℕ) → Option (List ℕ) → List ℕ → List FileMeta
files_of a b d e counts store tables = file_meta Terms a ∷ file_meta Postings b ∷ file_meta Positions d ∷ file_meta FieldNorms e ∷ listed_if Counts counts ++ listed_if Store store ++ file_meta BlockTables tables ∷ []

abbrev long : List ℕ → ℕ
long bytes = 8 * num_file_blocks (length bytes)

module _ (a b d e tables : List ℕ) where
  tables_listed : (counts store : Option (List ℕ)) → file_of BlockTables (files_of a b d e counts store tables) ≡ Some (file_meta BlockTables tables)
  tables_listed None None = refl
  tables_listed None (Some y) = refl
  tables_listed (Some x) None = refl
  tables_listed (Some x) (Some y) = refl

  counts_listed : (counts store : Option (List ℕ)) (bytes : List ℕ) → counts ≡ Some bytes → file_of Counts (files_of a b d e counts store tables) ≡ Some (file_meta Counts bytes)
  counts_listed None store bytes is = absurd cc
  counts_listed (Some x) store bytes is = let same : x ≡ bytes = cc in ap (λ (bs : List ℕ). Some (file_meta Counts bs)) same

  store_listed : (counts store : Option (List ℕ)) (bytes : List ℕ) → store ≡ Some bytes → file_of Store (files_of a b d e counts store tables) ≡ Some (file_meta Store bytes)
  store_listed counts None bytes is = absurd cc
  store_listed None (Some y) bytes is = let same : y ≡ bytes = cc in ap (λ (bs : List ℕ). Some (file_meta Store bs)) same
  store_listed (Some x) (Some y) bytes is = let same : y ≡ bytes = cc in ap (λ (bs : List ℕ). Some (file_meta Store bs)) same

  start_terms : (counts store : Option (List ℕ)) → 0 ≡ table_start Terms (files_of a b d e counts store tables)
  start_terms None None = refl
  start_terms None (Some y) = refl
  start_terms (Some x) None = refl
  start_terms (Some x) (Some y) = refl

  start_postings : (counts store : Option (List ℕ)) → long a ≡ table_start Postings (files_of a b d e counts store tables)
  start_postings None None = omega arith
  start_postings None (Some y) = omega arith
  start_postings (Some x) None = omega arith
  start_postings (Some x) (Some y) = omega arith

  start_positions : (counts store : Option (List ℕ)) → long a + long b ≡ table_start Positions (files_of a b d e counts store tables)
  start_positions None None = omega arith
  start_positions None (Some y) = omega arith
  start_positions (Some x) None = omega arith
  start_positions (Some x) (Some y) = omega arith

  start_norms : (counts store : Option (List ℕ)) → long a + long b + long d ≡ table_start FieldNorms (files_of a b d e counts store tables)
  start_norms None None = omega arith
  start_norms None (Some y) = omega arith
  start_norms (Some x) None = omega arith
  start_norms (Some x) (Some y) = omega arith

  start_counts : (counts store : Option (List ℕ)) → long a + long b + long d + long e ≡ table_start Counts (files_of a b d e counts store tables)
  start_counts None None = omega arith
  start_counts None (Some y) = omega arith
  start_counts (Some x) None = omega arith
  start_counts (Some x) (Some y) = omega arith

  start_store : (counts store : Option (List ℕ)) → long a + long b + long d + long e + length (table_if counts) ≡ table_start Store (files_of a b d e counts store tables)
  start_store None None = omega arith
  start_store None (Some y) = omega arith
  start_store (Some x) None = omega (arith, table_long x)
  start_store (Some x) (Some y) = omega (arith, table_long x)

-- bytes in another grouping

three : (a b d x : List ℕ) → a ++ (b ++ (d ++ x)) ≡ (a ++ (b ++ d)) ++ x
three a b d x = sym (append_assoc a (b ++ d) x ∙ ap (λ (r : List ℕ). a ++ r) (append_assoc b d x))

four : (a b d e x : List ℕ) → a ++ (b ++ (d ++ (e ++ x))) ≡ (a ++ (b ++ (d ++ e))) ++ x
four a b d e x = sym (append_assoc a (b ++ (d ++ e)) x ∙ ap (λ (r : List ℕ). a ++ r) (sym (three b d e x)))

five : (a b d e c x : List ℕ) → a ++ (b ++ (d ++ (e ++ (c ++ x)))) ≡ (a ++ (b ++ (d ++ (e ++ c)))) ++ x
five a b d e c x = sym (append_assoc a (b ++ (d ++ (e ++ c))) x ∙ ap (λ (r : List ℕ). a ++ r) (sym (four b d e c x)))

one_by_one : (a b d e c x : List ℕ) → ((((a ++ b) ++ d) ++ e) ++ c) ++ x ≡ a ++ (b ++ (d ++ (e ++ (c ++ x))))
one_by_one a b d e c x = append_assoc (((a ++ b) ++ d) ++ e) c x ∙ append_assoc ((a ++ b) ++ d) e (c ++ x) ∙ append_assoc (a ++ b) d (e ++ (c ++ x)) ∙ append_assoc a b (d ++ (e ++ (c ++ x)))

-- the tables of a segment, one by one
parts_of : (s : SegmentContents) → segment_tables s ≡ file_table s.terms ++ (file_table s.postings ++ (file_table s.positions ++ (file_table s.fieldnorms ++ (table_if s.counts ++ table_if s.store))))
unfolding segment_tables
parts_of s = one_by_one (file_table s.terms) (file_table s.postings) (file_table s.positions) (file_table s.fieldnorms) (table_if s.counts) (table_if s.store)

there_if : (id : ℕ) (component : SegmentComponent) (found : Option (List ℕ)) (files : Files) (bytes : List ℕ) → HasFileIf id component found files → found ≡ Some bytes → files (Segment id component) ≡ Some bytes
there_if id component None files bytes has is = absurd cc
there_if id component (Some x) files bytes has is = let same : x ≡ bytes = cc in has ∙ ap (λ (bs : List ℕ). Some bs) same

module _ (id : ℕ) (s : SegmentContents) (files : Files) (there : HasSegment id s files) where
  abbrev Opens : SegmentComponent → List ℕ → Type 0
  Opens component bytes = open_in (listed_segment id s) component files ≡ Ok (Some (record { bytes = Some bytes; table = block_table_of bytes }))

  all_listed : file_of BlockTables (listed_segment id s).files ≡ Some (file_meta BlockTables (segment_tables s))
  all_listed = tables_listed s.terms s.postings s.positions s.fieldnorms (segment_tables s) s.counts s.store

  tables_with : (bytes : Option (List ℕ)) (bs : List ℕ) → bytes ≡ Some bs → table_if bytes ≡ file_table bs
  tables_with bytes bs is = ap table_if is

  -- a file with a table opens with it
  pub opens : (component : SegmentComponent) (bytes : List ℕ) → component_contents s component ≡ Some bytes → Opens component bytes
  opens Terms bytes is =
      let same : s.terms ≡ bytes = cc in
      subst (Opens Terms) same
      (one id s files there Terms [] s.terms (file_table s.postings ++ (file_table s.positions ++ (file_table s.fieldnorms ++ (table_if s.counts ++ table_if s.store)))) refl refl all_listed
      (start_terms s.terms s.postings s.positions s.fieldnorms (segment_tables s) s.counts s.store) (parts_of s) there.terms)
  opens Postings bytes is =
      let same : s.postings ≡ bytes = cc in
      subst (Opens Postings) same
      (one id s files there Postings (file_table s.terms) s.postings (file_table s.positions ++ (file_table s.fieldnorms ++ (table_if s.counts ++ table_if s.store))) refl refl all_listed
      (table_long s.terms ∙ start_postings s.terms s.postings s.positions s.fieldnorms (segment_tables s) s.counts s.store) (parts_of s) there.postings)
  opens Positions bytes is =
      let same : s.positions ≡ bytes = cc in
      let front = file_table s.terms ++ file_table s.postings in
      let before : length front ≡ long s.terms + long s.postings = omega (arith, length-append (file_table s.terms) (file_table s.postings), table_long s.terms, table_long s.postings) in
      subst (Opens Positions) same
      (one id s files there Positions front s.positions (file_table s.fieldnorms ++ (table_if s.counts ++ table_if s.store)) refl refl all_listed
      (before ∙ start_positions s.terms s.postings s.positions s.fieldnorms (segment_tables s) s.counts s.store)
      (parts_of s ∙ sym (append_assoc (file_table s.terms) (file_table s.postings) (file_table s.positions ++ (file_table s.fieldnorms ++ (table_if s.counts ++ table_if s.store))))) there.positions)
  opens FieldNorms bytes is =
      let same : s.fieldnorms ≡ bytes = cc in
      let front = file_table s.terms ++ (file_table s.postings ++ file_table s.positions) in
      let before : length front ≡ long s.terms + long s.postings + long s.positions = omega (arith, length-append (file_table s.terms) (file_table s.postings ++ file_table s.positions), length-append (file_table s.postings) (file_table s.positions), table_long s.terms, table_long s.postings, table_long s.positions) in
      subst (Opens FieldNorms) same
      (one id s files there FieldNorms front s.fieldnorms (table_if s.counts ++ table_if s.store) refl refl all_listed
      (before ∙ start_norms s.terms s.postings s.positions s.fieldnorms (segment_tables s) s.counts s.store)
      (parts_of s ∙ three (file_table s.terms) (file_table s.postings) (file_table s.positions) (file_table s.fieldnorms ++ (table_if s.counts ++ table_if s.store))) there.fieldnorms)
  opens Counts bytes is =
      let front = file_table s.terms ++ (file_table s.postings ++ (file_table s.positions ++ file_table s.fieldnorms)) in
      let before : length front ≡ long s.terms + long s.postings + long s.positions + long s.fieldnorms = omega (arith, length-append (file_table s.terms) (file_table s.postings ++ (file_table s.positions ++ file_table s.fieldnorms)), length-append (file_table s.postings) (file_table s.positions ++ file_table s.fieldnorms), length-append (file_table s.positions) (file_table s.fieldnorms), table_long s.terms, table_long s.postings, table_long s.positions, table_long s.fieldnorms) in
      one id s files there Counts front bytes (table_if s.store) refl (counts_listed s.terms s.postings s.positions s.fieldnorms (segment_tables s) s.counts s.store bytes is) all_listed
      (before ∙ start_counts s.terms s.postings s.positions s.fieldnorms (segment_tables s) s.counts s.store)
      (parts_of s ∙ four (file_table s.terms) (file_table s.postings) (file_table s.positions) (file_table s.fieldnorms) (table_if s.counts ++ table_if s.store) ∙ ap (λ (t : List ℕ). front ++ (t ++ table_if s.store)) (tables_with s.counts bytes is))
      (there_if id Counts s.counts files bytes there.counts is)
  opens Store bytes is =
      let front = file_table s.terms ++ (file_table s.postings ++ (file_table s.positions ++ (file_table s.fieldnorms ++ table_if s.counts))) in
      let before : length front ≡ long s.terms + long s.postings + long s.positions + long s.fieldnorms + length (table_if s.counts) = omega (arith, length-append (file_table s.terms) (file_table s.postings ++ (file_table s.positions ++ (file_table s.fieldnorms ++ table_if s.counts))), length-append (file_table s.postings) (file_table s.positions ++ (file_table s.fieldnorms ++ table_if s.counts)), length-append (file_table s.positions) (file_table s.fieldnorms ++ table_if s.counts), length-append (file_table s.fieldnorms) (table_if s.counts), table_long s.terms, table_long s.postings, table_long s.positions, table_long s.fieldnorms) in
      one id s files there Store front bytes [] refl (store_listed s.terms s.postings s.positions s.fieldnorms (segment_tables s) s.counts s.store bytes is) all_listed
      (before ∙ start_store s.terms s.postings s.positions s.fieldnorms (segment_tables s) s.counts s.store)
      (parts_of s ∙ five (file_table s.terms) (file_table s.postings) (file_table s.positions) (file_table s.fieldnorms) (table_if s.counts) (table_if s.store) ∙ ap (λ (t : List ℕ). front ++ t) (tables_with s.store bytes is ∙ sym (append-nil (file_table bytes))))
      (there_if id Store s.store files bytes there.store is)
  opens (Alive g) bytes is = absurd cc
  opens BlockTables bytes is = absurd cc
