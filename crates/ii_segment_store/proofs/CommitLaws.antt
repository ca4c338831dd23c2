-- What an index holds, before and after a commit.
use Rattle.std.proofs.Common.{◌≡◌, inl, ⊎_elim, ℕ, zero, suc, ◌<◌, ◌≤◌, ◌==◌, Bool, true, false, not, List, [], ◌∷◌, ◌++◌, Option, None, Some, Result, Ok, Err, refl, sym, ap, ◌∙◌, arith, if◌then◌else◌}
use Rattle.std.specs.Prelude.{IfSome, map, replicate}
use Rattle.std.specs.List.{AllByRecursion, find, list_all}
use Rattle.ii_alive.proofs.RankLemmas.{all_living}
use Rattle.std.proofs.lemmas.Bool.{and_parts, eq-eqb, ltb-true, ne_eqb}
use Rattle.std.proofs.lemmas.Cmp.{nat_list_eq_equiv}
use Rattle.ii_store.specs.declared.faults.IndexFault.{IndexFault}
use Rattle.ii_store.specs.declared.faults.IndexFault.TheVariants.{OtherVersion}
use Rattle.ii_store.specs.declared.index_meta.FileMeta.{FileMeta}
use Rattle.ii_store.specs.declared.index_meta.SegmentMeta.{SegmentMeta}
use Rattle.ii_directory.specs.declared.name.Kind.{Kind}
use Rattle.ii_directory.specs.declared.name.Kind.TheVariants.{Schema}
use Rattle.ii_directory.specs.declared.name.Kind.TheVariants as kinds_of
use Rattle.ii_directory.specs.declared.name.Name.TheVariants.{File, Meta, Segment}
use Rattle.ii_directory.specs.declared.name.SegmentComponent.{SegmentComponent}
use Rattle.ii_directory.specs.declared.name.SegmentComponent.TheVariants.{BlockTables, Counts, FieldNorms, Positions, Postings, Store, Terms}
use Rattle.ii_directory.specs.declared.name.Slot.{Slot}
use Rattle.ii_directory.specs.Directory.{Elapses, Files, Same}
use Rattle.ii_store.specs.FileDigest.{blocks_digest, has_digest}
use Rattle.ii_store.specs.Index.{◌>>=◌, Index, index_at, index_in, index_of, num_docs_in, used_slot, version_in, whole_num_docs_in}
use Rattle.ii_store.specs.IndexMeta.{MetaState, SegmentState, file_meta, is_consistent, is_segment, meta_of, segment_view}
use Rattle.ii_directory.specs.Names.{other_slot}
use Rattle.ii_store.specs.Segments.{list_in, listed_bytes}
use Rattle.ii_directory.proofs.Elapsing.{elapses_none}
use Rattle.ii_store.proofs.ListLaws.{list_consistent, list_version}
use Rattle.ii_store.proofs.SaveLaws.{index_outside}
use Rattle.ii_segment_store.specs.BlockTables.{segment_tables}
use Rattle.ii_segment_store.specs.Commits.{HasFileIf, HasSegment, HaveIdsBelow, HoldsOldOr, IsFresh, LeavesOneIndex, emptied, index_of_segment, listed_if, listed_segment}
use Rattle.ii_segment_store.specs.Contents.{IndexContents, SegmentContents, alive_file, bytes_if_listed, contents_at, contents_in, index_contents, file_of, bytes_of_component, loaded_in, flags_with, list_contents, one_segment, only_segment, segment_in, all_contents, with_segment, all_of}
use Rattle.ii_segment_store.specs.Pending.{with_next}

-- lists that a `meta` file holds

segments_below : (m : MetaState) → is_consistent m ≡ true → list_all (is_segment m.next_segment_id) m.segments ≡ true
unfolding is_consistent
segments_below m e = (and_parts _ _ (and_parts _ _ e).0).0

listed_valid : (found : Option (List ℕ)) (m : MetaState) → list_in found ≡ Ok m → list_all (is_segment m.next_segment_id) m.segments ≡ true
unfolding list_in
listed_valid None m e = absurd cc
listed_valid (Some meta) m e = segments_below m (list_consistent meta m e)

id_below : (next : ℕ) (s : SegmentState) → is_segment next s ≡ true → s.id < next
unfolding is_segment
id_below next s e = ltb-true s.id next (and_parts _ _ (and_parts _ _ (and_parts _ _ e).0).0).0

-- the ids of valid segments are below the next one
ids_below : (next : ℕ) (ss : List SegmentState) → list_all (is_segment next) ss ≡ true → HaveIdsBelow next ss
ids_below next [] all = tt
ids_below next (s ∷ ss) all =
    let p = and_parts (is_segment next s) (list_all (is_segment next) ss) all in
    (id_below next s p.0, ids_below next ss p.1)

pub listed_below : (found : Option (List ℕ)) (m : MetaState) → list_in found ≡ Ok m → HaveIdsBelow m.next_segment_id m.segments
listed_below found m e = ids_below m.next_segment_id m.segments (listed_valid found m e)

-- a list of segments is read as one

listed_by : (meta : List ℕ) (m : MetaState) (files : Files) (version : ℕ) → version_in meta ≡ Ok version → (version == 1) ≡ false → meta_of meta ≡ Ok m → contents_at meta files ≡ list_contents m files
unfolding contents_at
listed_by meta m files version is other e = rw (is, other, e) refl

listed_at : (meta : List ℕ) (m : MetaState) (files : Files) → meta_of meta ≡ Ok m → contents_at meta files ≡ list_contents m files
listed_at meta m files e = let v = list_version meta m e in listed_by meta m files v.0 v.1 v.2 e

listed_found : (found : Option (List ℕ)) (m : MetaState) (files : Files) → list_in found ≡ Ok m → contents_in found files ≡ list_contents m files
unfolding list_in contents_in
listed_found None m files e = absurd cc
listed_found (Some meta) m files e = listed_at meta m files e

pub listed_contents : (m : MetaState) (files : Files) → list_in (files Meta) ≡ Ok m → index_contents files ≡ list_contents m files
unfolding index_contents
listed_contents m files e = listed_found (files Meta) m files e

inside : (x y : MetaState) → ◌≡◌ {A = Result MetaState IndexFault} (Ok x) (Ok y) → x ≡ y
inside x y e = cc

one_list : (r : Result MetaState IndexFault) (x y : MetaState) → r ≡ Ok x → r ≡ Ok y → x ≡ y
one_list r x y ex ey = inside x y (sym ex ∙ ey)

pub fresh_id : (m : MetaState) (files : Files) → list_in (files Meta) ≡ Ok m → IsFresh m.next_segment_id files
fresh_id m files e other is = omega (arith, ap (λ (x : MetaState). x.next_segment_id) (one_list (list_in (files Meta)) m other e is))

-- the same files of segments below an id are the same segments
abbrev pub KeepsBelow : ℕ → Files → Files → Type 0
KeepsBelow id a c = (i : ℕ) (component : SegmentComponent) → i < id → c (Segment i component) ≡ a (Segment i component)

-- a listed file is the same
abbrev pub KeepsFileOf : ℕ → Files → Files → FileMeta → Type 0
KeepsFileOf i a c f = c (Segment i f.component) ≡ a (Segment i f.component)

chosen_has : (b : Bool) (f : FileMeta) (rest : Option FileMeta) (P : FileMeta → Type 0) → P f → IfSome rest P → IfSome (if b then Some f else rest) P
chosen_has true f rest P one others = one
chosen_has false f rest P one others = others

-- what holds of all files holds of the one that is found
pub found_has : (p : FileMeta → Bool) (P : FileMeta → Type 0) (fs : List FileMeta) → AllByRecursion P fs → IfSome (find p fs) P
found_has p P [] all = tt
found_has p P (f ∷ fs) all = chosen_has (p f) f (find p fs) P all.0 (found_has p P fs all.1)

found_same : (i : ℕ) (component : SegmentComponent) (found : Option FileMeta) (a c : Files) → IfSome found (KeepsFileOf i a c) → bytes_of_component i component found c ≡ bytes_of_component i component found a
unfolding bytes_of_component
found_same i component None a c same = refl
found_same i component (Some f) a c same = rw same refl

optional_same : (i : ℕ) (found : Option FileMeta) (a c : Files) → IfSome found (KeepsFileOf i a c) → bytes_if_listed i found c ≡ bytes_if_listed i found a
unfolding bytes_if_listed
optional_same i None a c same = refl
optional_same i (Some f) a c same = rw same refl

pub flags_same : (s : SegmentState) (found : Option FileMeta) (a c : Files) → IfSome found (KeepsFileOf s.id a c) → flags_with s found c ≡ flags_with s found a
unfolding flags_with
flags_same s None a c same = refl
flags_same s (Some f) a c same = rw same refl

-- the same listed files hold the same segment
pub listed_same : (s : SegmentState) (a c : Files) → AllByRecursion (KeepsFileOf s.id a c) s.files → segment_in s c ≡ segment_in s a
unfolding segment_in loaded_in
listed_same s a c all =
    let has : (p : FileMeta → Bool) → IfSome (find p s.files) (KeepsFileOf s.id a c) = λ p. found_has p (KeepsFileOf s.id a c) s.files all in
    rw (
      found_same s.id Terms (file_of Terms s.files) a c (has _),
      found_same s.id Postings (file_of Postings s.files) a c (has _),
      found_same s.id Positions (file_of Positions s.files) a c (has _),
      found_same s.id FieldNorms (file_of FieldNorms s.files) a c (has _),
      optional_same s.id (file_of Counts s.files) a c (has _),
      optional_same s.id (file_of Store s.files) a c (has _),
      flags_same s (alive_file s.files) a c (has _),
    ) refl

each_kept : (i : ℕ) (a c : Files) → ((component : SegmentComponent) → c (Segment i component) ≡ a (Segment i component)) → (fs : List FileMeta) → AllByRecursion (KeepsFileOf i a c) fs
each_kept i a c each [] = tt
each_kept i a c each (f ∷ fs) = (each f.component, each_kept i a c each fs)

pub segment_same : (s : SegmentState) (a c : Files) → ((component : SegmentComponent) → c (Segment s.id component) ≡ a (Segment s.id component)) → segment_in s c ≡ segment_in s a
segment_same s a c each = listed_same s a c (each_kept s.id a c each s.files)

pub segments_same : (next id : ℕ) (ss : List SegmentState) (a c : Files) → next ≤ id → KeepsBelow id a c → HaveIdsBelow next ss → all_contents ss c ≡ all_contents ss a
unfolding all_of
segments_same next id [] a c le keeps all = refl
segments_same next id (s ∷ ss) a c le keeps all =
    rw (segment_same s a c (λ component. keeps s.id component (omega (arith, le, all.0))), segments_same next id ss a c le keeps all.1) refl

-- the same files of segments are the same list
pub list_kept : (m : MetaState) (a c : Files) → KeepsBelow m.next_segment_id a c → HaveIdsBelow m.next_segment_id m.segments → list_contents m c ≡ list_contents m a
unfolding list_contents
list_kept m a c keeps all = rw (segments_same m.next_segment_id m.next_segment_id m.segments a c (omega arith) keeps all) refl

-- files that are the same, where segments have ids below one
pub record SameBelow (id : ℕ) (a c : Files) : Type 0 where
  pub meta : c Meta ≡ a Meta
  pub slots : (slot : Slot) (kind : Kind) → c (File slot kind) ≡ a (File slot kind)
  pub segments : KeepsBelow id a c

abbrev either : Bool → Result IndexContents IndexFault → Result IndexContents IndexFault → Result IndexContents IndexFault
either b one two = if b then one else two

module _ (id : ℕ) (a c : Files) (same : SameBelow id a c) where
  one_same : index_of c ≡ index_of a
  one_same = index_outside a c (record { meta = same.meta; files = λ kind. same.slots (other_slot (other_slot (used_slot (a Meta)))) kind })

  list_same : (m : MetaState) → m.next_segment_id ≤ id → HaveIdsBelow m.next_segment_id m.segments → list_contents m c ≡ list_contents m a
  unfolding list_contents
  list_same m le all = rw (segments_same m.next_segment_id id m.segments a c le same.segments all) refl

  each_list : (r : Result MetaState IndexFault) → ((m : MetaState) → r ≡ Ok m → list_contents m c ≡ list_contents m a) → (r >>= λ m. list_contents m c) ≡ (r >>= λ m. list_contents m a)
  each_list (Ok m) each = each m refl
  each_list (Err fault) each = refl

  each_version : (r : Result ℕ IndexFault) (one_c one_a two_c two_a : Result IndexContents IndexFault) → one_c ≡ one_a → two_c ≡ two_a → (r >>= λ version. either (version == 1) one_c two_c) ≡ (r >>= λ version. either (version == 1) one_a two_a)
  each_version (Ok version) one_c one_a two_c two_a one two = rw (one, two) refl
  each_version (Err fault) one_c one_a two_c two_a one two = refl

  found_contents : (found : Option (List ℕ)) → ((m : MetaState) → list_in found ≡ Ok m → m.next_segment_id ≤ id) → contents_in found c ≡ contents_in found a
  unfolding contents_in contents_at list_in
  found_contents None fresh = refl
  found_contents (Some meta) fresh = each_version (version_in meta) _ _ _ _ (ap (λ (r : Result Index IndexFault). r >>= λ i. Ok (one_segment i)) one_same)
      (each_list (meta_of meta) (λ m is. list_same m (fresh m is) (ids_below m.next_segment_id m.segments (segments_below m (list_consistent meta m is)))))

  -- they hold the same index
  pub same_contents : IsFresh id a → index_contents c ≡ index_contents a
  unfolding index_contents
  same_contents fresh = ap (λ (found : Option (List ℕ)). contents_in found c) same.meta ∙ found_contents (a Meta) fresh

-- the files of a new segment are read back

pub read_back : (id : ℕ) (component : SegmentComponent) (bytes : List ℕ) (found : Option (List ℕ)) → found ≡ Some bytes → listed_bytes (record { id = id; file = file_meta component bytes }) found ≡ Ok bytes
unfolding listed_bytes has_digest
read_back id component bytes found is = rw is (rw (eq-eqb _ _ refl, nat_list_eq_equiv.refl (blocks_digest 4096 bytes)) refl)

-- the files of a new segment, without flags
abbrev listed_files : List ℕ → List ℕ → List ℕ → List ℕ → Option (List ℕ) → Option (List ℕ) → List ℕ → List FileMeta
listed_files a b d e counts store tables = file_meta Terms a ∷ file_meta Postings b ∷ file_meta Positions d ∷ file_meta FieldNorms e ∷ listed_if Counts counts ++ listed_if Store store ++ file_meta BlockTables tables ∷ []

counts_again : (id : ℕ) (a b d e tables : List ℕ) (counts store : Option (List ℕ)) (files : Files) → HasFileIf id Counts counts files → bytes_if_listed id (file_of Counts (listed_files a b d e counts store tables)) files ≡ Ok counts
unfolding bytes_if_listed
counts_again id a b d e tables None None files there = refl
counts_again id a b d e tables None (Some lines) files there = refl
counts_again id a b d e tables (Some bytes) store files there = rw (read_back id Counts bytes (files (Segment id Counts)) there) refl

store_again : (id : ℕ) (a b d e tables : List ℕ) (counts store : Option (List ℕ)) (files : Files) → HasFileIf id Store store files → bytes_if_listed id (file_of Store (listed_files a b d e counts store tables)) files ≡ Ok store
unfolding bytes_if_listed
store_again id a b d e tables None None files there = refl
store_again id a b d e tables (Some bytes) None files there = refl
store_again id a b d e tables None (Some lines) files there = rw (read_back id Store lines (files (Segment id Store)) there) refl
store_again id a b d e tables (Some bytes) (Some lines) files there = rw (read_back id Store lines (files (Segment id Store)) there) refl

pub no_flags : (a b d e tables : List ℕ) (counts store : Option (List ℕ)) → alive_file (listed_files a b d e counts store tables) ≡ None
no_flags a b d e tables None None = refl
no_flags a b d e tables None (Some lines) = refl
no_flags a b d e tables (Some bytes) None = refl
no_flags a b d e tables (Some bytes) (Some lines) = refl

pub flags_again : (s : SegmentState) → s.num_living ≡ s.num_docs → (files : Files) → flags_with s None files ≡ Ok (replicate s.num_docs true)
unfolding flags_with
flags_again s all files = rw (all_living s.num_docs, eq-eqb s.num_docs s.num_living (sym all)) refl

segment_again : (id : ℕ) (s : SegmentContents) (files : Files) → s.alive ≡ replicate s.num_docs true → HasSegment id s files → segment_in (listed_segment id s) files ≡ Ok s
unfolding segment_in loaded_in bytes_of_component
segment_again id s files all there =
    rw (
      read_back id Terms s.terms (files (Segment id Terms)) there.terms,
      read_back id Postings s.postings (files (Segment id Postings)) there.postings,
      read_back id Positions s.positions (files (Segment id Positions)) there.positions,
      read_back id FieldNorms s.fieldnorms (files (Segment id FieldNorms)) there.fieldnorms,
      counts_again id s.terms s.postings s.positions s.fieldnorms (segment_tables s) s.counts s.store files there.counts,
      store_again id s.terms s.postings s.positions s.fieldnorms (segment_tables s) s.counts s.store files there.store,
      no_flags s.terms s.postings s.positions s.fieldnorms (segment_tables s) s.counts s.store,
      flags_again (listed_segment id s) refl files,
    ) (ap (λ (alive : List Bool). Ok (record s { alive = alive })) (sym all))

one_more : (r : Result SegmentContents IndexFault) (rs : Result (List SegmentContents) IndexFault) (z : SegmentContents)
    → (r >>= λ f. (rs >>= λ cs. Ok (cs ++ z ∷ [])) >>= λ os. Ok (f ∷ os)) ≡ ((r >>= λ f. rs >>= λ os. Ok (f ∷ os)) >>= λ cs. Ok (cs ++ z ∷ []))
one_more (Ok f) (Ok os) z = refl
one_more (Ok f) (Err fault) z = refl
one_more (Err fault) rs z = refl

segments_more : (ss : List SegmentState) (s : SegmentState) (files : Files) (z : SegmentContents) → segment_in s files ≡ Ok z → all_contents (ss ++ s ∷ []) files ≡ (all_contents ss files >>= λ cs. Ok (cs ++ z ∷ []))
unfolding all_of
segments_more [] s files z e = rw e refl
segments_more (x ∷ ss) s files z e = rw (segments_more ss s files z e) (one_more (segment_in x files) (all_contents ss files) z)

with_more : (schema : List ℕ) (rs : Result (List SegmentContents) IndexFault) (z : SegmentContents)
    → ((rs >>= λ cs. Ok (cs ++ z ∷ [])) >>= λ segments. Ok (record { schema = schema; segments = segments })) ≡ with_segment z (rs >>= λ segments. Ok (record { schema = schema; segments = segments }))
with_more schema (Ok cs) z = refl
with_more schema (Err fault) z = refl

pub list_more : (m : MetaState) (s : SegmentContents) (files : Files) → s.alive ≡ replicate s.num_docs true → HasSegment m.next_segment_id s files → list_contents (with_next m s) files ≡ with_segment s (list_contents m files)
unfolding list_contents
list_more m s files all there =
    rw (segments_more m.segments (listed_segment m.next_segment_id s) files s (segment_again m.next_segment_id s files all there)) (with_more m.schema (all_contents m.segments files) s)

-- the same files hold the same index

abbrev next_of : Result MetaState IndexFault → ℕ
next_of (Ok m) = m.next_segment_id
next_of (Err fault) = 0

below_next : (r : Result MetaState IndexFault) (m : MetaState) → r ≡ Ok m → m.next_segment_id ≤ next_of r
below_next r m e = omega (arith, ap next_of e)

pub contents_same : (a c : Files) → Same a c → index_contents c ≡ index_contents a
contents_same a c same =
    same_contents (next_of (list_in (a Meta))) a c (record { meta = same Meta; slots = λ slot kind. same (File slot kind); segments = λ i component lt. same (Segment i component) }) (below_next (list_in (a Meta)))

-- the same files of segments and slots hold the same index
pub meta_same_contents : (a c : Files) → c Meta ≡ a Meta → ((slot : Slot) (kind : Kind) → c (File slot kind) ≡ a (File slot kind)) → ((i : ℕ) (component : SegmentComponent) → c (Segment i component) ≡ a (Segment i component)) → index_contents c ≡ index_contents a
meta_same_contents a c meta slots segments =
    same_contents (next_of (list_in (a Meta))) a c (record { meta = meta; slots = slots; segments = λ i component lt. segments i component }) (below_next (list_in (a Meta)))

module _ {D : Type 0} (moment : D → ℕ) (left_since : D → ℕ → Files → Type 0) (seen : D → Files) (old : D) where
  -- what a run leaves that holds the old index or the wanted one
  pub leaves_index : ((c : Files) → left_since old (moment old) c → Same (seen old) c) → (new : D) (wanted : Result IndexContents IndexFault)
      → Elapses (moment old) (moment new) (left_since old) (left_since new) (HoldsOldOr wanted (seen old)) → LeavesOneIndex moment left_since seen old new wanted
  leaves_index only new wanted time = record {
    each = λ c left. ⊎_elim (λ before. inl (contents_same (seen old) c (only c before))) (λ one. one) (time.nothing_else (moment old) c (omega arith) left);
    time = time;
  }

  -- nothing was called yet
  pub holds_none : (wanted : Result IndexContents IndexFault) → Elapses (moment old) (moment old) (left_since old) (left_since old) (HoldsOldOr wanted (seen old))
  holds_none wanted = elapses_none moment left_since old (HoldsOldOr wanted (seen old))

-- a list without segments, which replaces an index

pub emptied_below : (schema : List ℕ) (found : Result MetaState IndexFault) → HaveIdsBelow (emptied schema found).next_segment_id (emptied schema found).segments
emptied_below schema (Ok m) = tt
emptied_below schema (Err fault) = tt

emptied_follows : (schema : List ℕ) (found : Result MetaState IndexFault) → next_of found ≤ (emptied schema found).next_segment_id
emptied_follows schema (Ok m) = omega arith
emptied_follows schema (Err fault) = omega arith

pub emptied_fresh : (schema : List ℕ) (files : Files) → IsFresh (emptied schema (list_in (files Meta))).next_segment_id files
emptied_fresh schema files m is = omega (arith, below_next (list_in (files Meta)) m is, emptied_follows schema (list_in (files Meta)))

-- a list of one segment holds that segment
pub emptied_contents : (schema : List ℕ) (found : Result MetaState IndexFault) (s : SegmentContents) (files : Files) → with_segment s (list_contents (emptied schema found) files) ≡ Ok (index_of_segment schema s)
unfolding list_contents all_of
emptied_contents schema (Ok m) s files = refl
emptied_contents schema (Err fault) s files = refl

-- an index of version 1

bound : {A B : Type 0} (r : Result A IndexFault) (f : A → Result B IndexFault) (y : B) → (r >>= f) ≡ Ok y → (x : A) × (r ≡ Ok x)
bound (Ok x) f y e = (x, refl)
bound (Err fault) f y e = absurd cc

abbrev number_unless : Bool → IndexFault → Result ℕ IndexFault → Result ℕ IndexFault
number_unless b fault rest = if b then Err fault else rest

first_number : (r : Result ℕ IndexFault) (rest : Result ℕ IndexFault) (n : ℕ) → (r >>= λ version. number_unless (not (version == 1)) (OtherVersion version) rest) ≡ Ok n → r ≡ Ok 1
first_number (Ok zero) rest n e = absurd cc
first_number (Ok (suc zero)) rest n e = refl
first_number (Ok (suc (suc k))) rest n e =
    let wrong = rw (ne_eqb (suc (suc k)) 1 (λ same. omega (arith, same))) at e in
    absurd cc
first_number (Err fault) rest n e = absurd cc

first_meta : (meta : List ℕ) (a b c d e : Option (List ℕ)) (i : Index) → index_at meta a b c d e ≡ Ok i → version_in meta ≡ Ok 1
unfolding index_at num_docs_in
first_meta meta a b c d e i is =
    let read = bound (num_docs_in meta) _ i is in
    first_number (version_in meta) (whole_num_docs_in meta) read.0 read.1

has_meta : (found : Option (List ℕ)) (kinds : Kind → Option (List ℕ)) (i : Index) → index_in found kinds ≡ Ok i → (meta : List ℕ) × (found ≡ Some meta) × (version_in meta ≡ Ok 1)
has_meta None kinds i e = absurd cc
has_meta (Some meta) kinds i e = (meta, refl, first_meta meta (kinds Schema) (kinds kinds_of.Terms) (kinds kinds_of.Postings) (kinds kinds_of.Positions) (kinds kinds_of.FieldNorms) i e)

meta_found : (files : Files) (i : Index) → index_of files ≡ Ok i → (meta : List ℕ) × (files Meta ≡ Some meta) × (version_in meta ≡ Ok 1)
unfolding index_of
meta_found files i e = has_meta (files Meta) (λ kind. files (File (used_slot (files Meta)) kind)) i e

first_at : (meta : List ℕ) (files : Files) (i : Index) → version_in meta ≡ Ok 1 → index_of files ≡ Ok i → contents_at meta files ≡ Ok (one_segment i)
unfolding contents_at
first_at meta files i version e = rw (version, e) refl

first_contents : (i : Index) (files : Files) → index_of files ≡ Ok i → index_contents files ≡ Ok (one_segment i)
unfolding index_contents contents_in
first_contents i files e =
    let h = meta_found files i e in
    ap (λ (found : Option (List ℕ)). contents_in found files) h.1 ∙ first_at h.0 files i h.2 e

no_list : (meta : List ℕ) (m : MetaState) → version_in meta ≡ Ok 1 → meta_of meta ≡ Ok m → ⊥
unfolding meta_of
no_list meta m version e =
    let wrong = rw version at e in
    absurd cc

no_list_found : (found : Option (List ℕ)) (meta : List ℕ) (m : MetaState) → found ≡ Some meta → version_in meta ≡ Ok 1 → list_in found ≡ Ok m → ⊥
unfolding list_in
no_list_found found meta m is version e = no_list meta m version (rw is at e)

pub first_fresh : (i : Index) (files : Files) (id : ℕ) → index_of files ≡ Ok i → IsFresh id files
first_fresh i files id e m is = let h = meta_found files i e in absurd (no_list_found (files Meta) h.0 m h.1 h.2 is)

-- a list of no segments, with a schema
abbrev pub empty_list : List ℕ → List SegmentMeta → MetaState
empty_list schema none = record { generation = 0; next_segment_id = 0; schema = schema; segments = map segment_view none }

empty_contents : (schema : List ℕ) (none : List SegmentMeta) (files : Files) → none ≡ [] → list_contents (empty_list schema none) files ≡ Ok (record { schema = schema; segments = [] })
unfolding list_contents all_of
empty_contents schema none files e = rw e refl

-- an index of version 1 and a list of its one segment hold the same
pub first_same : (none : List SegmentMeta) (i : Index) (files : Files) → none ≡ [] → index_of files ≡ Ok i → with_segment (only_segment i) (list_contents (empty_list i.schema none) files) ≡ index_contents files
first_same none i files e found = ap (with_segment (only_segment i)) (empty_contents i.schema none files e) ∙ sym (first_contents i files found)
