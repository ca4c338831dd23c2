-- Laws of the deltas of a term's positions, block by block.
use Rattle.std.proofs.Common.{◌≡◌, ℕ, zero, suc, ◌+◌, ◌-◌, ◌*◌, ◌/◌, ◌<◌, ◌≤◌, min, Bool, true, false, List, [], ◌++◌, length, take, drop, get_or, is_some, unwrap_or, Option, Some, None, MatchBool, nat_lt, refl, sym, ap, ◌∙◌, arith, length-append}
use Rattle.std.proofs.Math.Seq.{take-add}
use Rattle.std.proofs.lemmas.Bool.{lt-ltb, le-ltb, ltb-true, ltb-false}
use Rattle.std.proofs.lemmas.List.{take_all, drop-drop, drop-take, take-take, length-drop, length-take, length-take-le}
use Rattle.std.proofs.lemmas.List.Sums.{sum_by_more}
use Rattle.std.specs.List.{concat}
use Rattle.ii_io.specs.Steps.{◌>>=◌}
use Rattle.ii_io.specs.StepLemmas.{needs-some, step-some, some-same}
use Rattle.ii_codes.specs.Packed.{unpacked}
use Rattle.ii_codes.specs.Blocks.{raised, unsorted_block_at}
use Rattle.ii_codes.specs.UnsortedVints.{u32s_until_end}
use Rattle.ii_codes.proofs.BlockLemmas.{not_raised, unsorted-wide, unsorted-short, unsorted-plain}
use Rattle.ii_layout.specs.Each.{each}
use Rattle.ii_layout.specs.Positions.{PositionList, position_list, place_by_widths, block_deltas, rest_deltas, position_deltas}
use Rattle.ii_layout.specs.PositionReader.{deltas_of, list_at, AreAnchors, rest_at, deltas_at_block, KeepsBlock, LieInBlock, block_kept}
use Rattle.ii_layout.specs.Written.{block_of}
use Rattle.ii_layout.proofs.DocumentLemmas.{each_gives, AreWhole, length-concat, concat_block, last_block}
use Rattle.ii_layout.proofs.FrequencyLemmas.{block_fits}

-- where a block begins, and the one after it
pub place_more : (ws : List ℕ) (i : ℕ) → i < length ws → place_by_widths ws (i + 1) ≡ place_by_widths ws i + 16 * get_or ws i 0
place_more ws i h = omega (arith, sum_by_more (λ w. w) ws i 0 h)

-- a row one of whose values is missing
none_cases : (f : ℕ → Option (List ℕ)) (n : ℕ) (o : Option (List (List ℕ))) → f n ≡ None → each f n ≡ o → each f (suc n) ≡ None
none_cases f n None none e = rw e refl
none_cases f n (Some xs) none e = rw (e, none) refl

pub each_none : (f : ℕ → Option (List ℕ)) (i n : ℕ) (t : Bool) → f i ≡ None → i < n → nat_lt (i + 1) n ≡ t → each f n ≡ None
each_none f i zero t none h test = absurd (omega arith)
each_none f i (suc n) true none h test =
    let below = ltb-true (i + 1) (suc n) test in
    let earlier = each_none f i n (nat_lt (i + 1) n) none (omega arith) refl in
    rw earlier refl
each_none f i (suc n) false none h test =
    let above = ltb-false (i + 1) (suc n) test in
    let last : i ≡ n = omega arith in
    none_cases f n (each f n) (ap f (sym last) ∙ none) refl

more_cases : (f : ℕ → Option (List ℕ)) (n : ℕ) (x : List ℕ) (o : Option (List (List ℕ))) → f n ≡ Some x → each f n ≡ o → is_some o ≡ true → is_some (each f (suc n)) ≡ true
more_cases f n x None last e some = absurd (cc)
more_cases f n x (Some xs) last e some = rw (e, last) refl

pub each_more : (f : ℕ → Option (List ℕ)) (n : ℕ) (x : List ℕ) → f n ≡ Some x → is_some (each f n) ≡ true → is_some (each f (n + 1)) ≡ true
each_more f n x last some =
    let next : n + 1 ≡ suc n = omega arith in
    rw next (more_cases f n x (each f n) last refl some)

-- a block that is there
pub block_there : (widths body : List ℕ) (place block : ℕ) → place ≡ place_by_widths widths block → get_or widths block 0 ≤ 32 → place + 16 * get_or widths block 0 ≤ length body
    → block_deltas (record { widths = widths; body = body }) block ≡ Some (unpacked (get_or widths block 0) (drop place body))
block_there widths body place block place_is narrow enough =
    let w = get_or widths block 0 in
    let plain = sym (not_raised (get_or widths block 0) (drop place body) (raised 0 (unpacked (get_or widths block 0) (drop place body))) refl) in
    let read = unsorted-plain false (get_or widths block 0) (16 * get_or widths block 0) (drop place body) (unpacked (get_or widths block 0) (drop place body)) narrow (omega (arith, length-drop place body)) refl plain refl in
    rw (← place_is, ← read) refl

pub none_is : (o : Option (List (List ℕ))) → o ≡ None → false ≡ is_some o
none_is None e = refl
none_is (Some x) e = absurd (cc)

pub wide_none : (widths body : List ℕ) (block : ℕ) → block < length widths → 32 < get_or widths block 0 → false ≡ is_some (each (block_deltas (record { widths = widths; body = body })) (length widths))
wide_none widths body block h wide =
    let list : PositionList = record { widths = widths; body = body } in
    let none : block_deltas list block ≡ None = rw (← unsorted-wide false (get_or widths block 0) (drop (place_by_widths widths block) body) wide) refl in
    none_is (each (block_deltas list) (length widths)) (each_none (block_deltas list) block (length widths) (nat_lt (block + 1) (length widths)) none h refl)

pub short_none : (widths body : List ℕ) (place block size : ℕ) → block < length widths → place ≡ place_by_widths widths block → get_or widths block 0 ≤ 32 → size ≡ 16 * get_or widths block 0 → length body - place < size
    → false ≡ is_some (each (block_deltas (record { widths = widths; body = body })) (length widths))
short_none widths body place block size h place_is narrow size_is short =
    let list : PositionList = record { widths = widths; body = body } in
    let left = length-drop place body in
    let none : block_deltas list block ≡ None = rw (← place_is, ← unsorted-short false (get_or widths block 0) (drop place body) narrow (omega arith)) refl in
    none_is (each (block_deltas list) (length widths)) (each_none (block_deltas list) block (length widths) (nat_lt (block + 1) (length widths)) none h refl)

-- the deltas of blocks and those after them
abbrev pub all_deltas : PositionList → Option (List ℕ)
all_deltas list = do
  blocks ← each (block_deltas list) (length list.widths)
  rest ← rest_deltas list
  Some (concat blocks ++ rest)

pub deltas_by_list : (bytes : List ℕ) (list : PositionList) → position_list bytes ≡ Some list → position_deltas bytes ≡ all_deltas list
deltas_by_list bytes list e = rw e refl

some_of : (o : Option (List (List ℕ))) → true ≡ is_some o → (blocks : List (List ℕ)) × (o ≡ Some blocks)
some_of None e = absurd (cc)
some_of (Some blocks) e = (blocks, refl)

-- What holds for valid deltas.
pub record StandDeltas (list : PositionList) (deltas : List ℕ) : Type 0 where
  pub blocks : List (List ℕ)
  pub rest : List ℕ
  pub read : each (block_deltas list) (length list.widths) ≡ Some blocks
  pub rest_read : rest_deltas list ≡ Some rest
  pub deltas_are : deltas ≡ concat blocks ++ rest
  pub few : length rest < 128

stand : (list : PositionList) (deltas : List ℕ) → all_deltas list ≡ Some deltas → StandDeltas list deltas
stand list deltas e =
    let blocks = step-some (each (block_deltas list) (length list.widths)) _ deltas e in
    let rest = step-some (rest_deltas list) _ deltas blocks.2 in
    let numbers = step-some (u32s_until_end 128 (drop (place_by_widths list.widths (length list.widths)) list.body)) _ rest.0 rest.1 in
    let few = needs-some (nat_lt (length numbers.0) 128) _ rest.0 numbers.2 in
    let same = some-same few.1 in
    record {
      blocks = blocks.0;
      rest = rest.0;
      read = blocks.1;
      rest_read = rest.1;
      deltas_are = sym (some-same rest.2);
      few = let low = ltb-true (length numbers.0) 128 few.0 in rw (ap length same) at low;
    }

block_read : (list : PositionList) (i : ℕ) (deltas : List ℕ) → block_deltas list i ≡ Some deltas → length deltas ≡ 128
block_read list i deltas e =
    let found = step-some (unsorted_block_at false (get_or list.widths i 0) (drop (place_by_widths list.widths i) list.body)) _ deltas e in
    let fits = block_fits false (get_or list.widths i 0) (drop (place_by_widths list.widths i) list.body) found.0.0 found.0.1 found.1 in
    ap length (sym (some-same found.2)) ∙ fits.many

are_whole : (list : PositionList) (n : ℕ) (blocks : List (List ℕ)) → each (block_deltas list) n ≡ Some blocks → AreWhole blocks
are_whole list n blocks e i h =
    let all = each_gives (block_deltas list) n blocks e in
    let many = all.many in
    block_read list i (get_or blocks i []) (all.at i (omega arith))

-- Valid deltas lie in their blocks, the last of which isn't full.
pub record LieInBlocks (list : PositionList) (deltas : List ℕ) (rest : ℕ) : Type 0 where
  pub blocks : (i : ℕ) → i < length list.widths → block_deltas list i ≡ Some (block_of deltas i)
  pub rest_is : rest_deltas list ≡ Some (block_of deltas (length list.widths))
  pub rest_len : length (block_of deltas (length list.widths)) ≡ rest
  pub many : length deltas ≡ 128 * length list.widths + rest
  pub few : rest < 128

pub lie : (list : PositionList) (deltas : List ℕ) → all_deltas list ≡ Some deltas → (rest : ℕ) × LieInBlocks list deltas rest
lie list deltas e =
    let s = stand list deltas e in
    let all = each_gives (block_deltas list) (length list.widths) s.blocks s.read in
    let many = all.many in
    let whole = are_whole list (length list.widths) s.blocks s.read in
    let few = s.few in
    let size = length-concat s.blocks whole in
    let last : block_of deltas (length list.widths) ≡ s.rest = ap (λ (ds : List ℕ). block_of ds (length list.widths)) s.deltas_are ∙ last_block (length list.widths) s.blocks s.rest whole (sym many) (omega arith) in (
      length s.rest,
      record {
        blocks = λ i h.
            let here : block_of deltas i ≡ get_or s.blocks i [] = ap (λ (ds : List ℕ). block_of ds i) s.deltas_are ∙ concat_block i s.blocks s.rest whole (omega arith) in
            all.at i h ∙ ap Some (sym here);
        rest_is = s.rest_read ∙ ap Some (sym last);
        rest_len = ap length last;
        many = ap length s.deltas_are ∙ omega (arith, length-append (concat s.blocks) s.rest);
        few = few;
      },
    )

-- deltas after the blocks, as they were decoded
pub rest_cases : (bytes row : List ℕ) (n : ℕ) (t : Bool) → Some row ≡ u32s_until_end 128 bytes → length row ≡ n → nat_lt n 128 ≡ t → MatchBool t (Some row ≡ rest_at bytes) (rest_at bytes ≡ None)
rest_cases bytes row n true read size few = rw (← read, size, few) refl
rest_cases bytes row n false read size many = rw (← read, size, many) refl

some_by : {A : Type 0} (o : Option A) → is_some o ≡ true → (x : A) × (o ≡ Some x)
some_by None e = absurd (cc)
some_by (Some x) e = (x, refl)

is_some_by : {A : Type 0} (o : Option A) (x : A) → o ≡ Some x → is_some o ≡ true
is_some_by o x e = ap is_some e

-- What is asked of a decode: which block, where it lies, and that it is there.
pub record AsksBlock (ws bs : List ℕ) (place block : ℕ) (bytes : List ℕ) : Type 0 where
  pub there : is_some (deltas_at_block (record { widths = ws; body = bs }) block) ≡ true
  pub place_is : place ≡ place_by_widths ws block
  pub bytes_are : bytes ≡ drop place bs

at_rest : (ws bs : List ℕ) (place block : ℕ) (bytes : List ℕ) → AsksBlock ws bs place block bytes → block ≡ length ws → deltas_at_block (record { widths = ws; body = bs }) block ≡ rest_at bytes
at_rest ws bs place block bytes a end =
    let past = le-ltb block (length ws) (omega arith) in
    let here : drop (place_by_widths ws (length ws)) bs ≡ bytes = ap (λ (k : ℕ). drop k bs) (sym (ap (place_by_widths ws) end) ∙ sym a.place_is) ∙ sym a.bytes_are in
    rw (past, here) refl

at_block : (ws bs : List ℕ) (place block : ℕ) (bytes : List ℕ) → AsksBlock ws bs place block bytes → block < length ws
    → deltas_at_block (record { widths = ws; body = bs }) block ≡ (unsorted_block_at false (get_or ws block 0) bytes >>= λ found. Some found.0)
at_block ws bs place block bytes a h =
    let below = lt-ltb block (length ws) h in
    let here : drop (place_by_widths ws block) bs ≡ bytes = ap (λ (k : ℕ). drop k bs) (sym a.place_is) ∙ sym a.bytes_are in
    rw (below, here) refl

pub rest_asked : (ws bs : List ℕ) (place block : ℕ) (bytes : List ℕ) → AsksBlock ws bs place block bytes → block ≡ length ws → is_some (u32s_until_end 128 bytes) ≡ true
rest_asked ws bs place block bytes a end =
    let found = some_by (rest_at bytes) (rw (at_rest ws bs place block bytes a end) at a.there) in
    let row = step-some (u32s_until_end 128 bytes) _ found.0 found.1 in
    is_some_by (u32s_until_end 128 bytes) row.0 row.1

pub block_answered : (ws bs : List ℕ) (place block len : ℕ) (bytes row rest : List ℕ) → AsksBlock ws bs place block bytes → block < length ws → Some (row, rest) ≡ unsorted_block_at false (get_or ws block 0) bytes → len ≡ 128
    → Some (take len row) ≡ deltas_at_block (record { widths = ws; body = bs }) block
block_answered ws bs place block len bytes row rest a h read len_is =
    let fits = block_fits false (get_or ws block 0) bytes row rest (sym read) in
    let many = fits.many in
    ap Some (take_all len row (omega arith)) ∙ rw (at_block ws bs place block bytes a h, ← read) refl

-- Widths and blocks that are cut from bytes which hold their list.
pub record AreCut (bytes : List ℕ) (widths body : ℕ) (ws bs : List ℕ) : Type 0 where
  pub order : widths ≤ body
  pub within : body ≤ length bytes
  pub list : position_list bytes ≡ Some (list_at bytes widths body)
  pub ws_are : ws ≡ take (body - widths) (drop widths bytes)
  pub bs_are : bs ≡ drop body bytes

pub length-cut : (bytes : List ℕ) (widths body : ℕ) → widths ≤ body → body ≤ length bytes → length (take (body - widths) (drop widths bytes)) ≡ body - widths
length-cut bytes widths body order within = length-take-le (body - widths) (drop widths bytes) (omega (arith, length-drop widths bytes))

-- What opening has found of the blocks.
pub record FindsAll (ws bs : List ℕ) (stride : ℕ) (anchors : List ℕ) (place : ℕ) : Type 0 where
  pub found : true ≡ is_some (each (block_deltas (record { widths = ws; body = bs })) (length ws))
  pub place_is : place ≡ place_by_widths ws (length ws)
  pub within : place ≤ length bs
  pub many : length anchors ≡ 64
  pub anchors_are : AreAnchors ws stride (length ws) anchors

all_read : (list : PositionList) (blocks : List (List ℕ)) (rest : List ℕ) → each (block_deltas list) (length list.widths) ≡ Some blocks → rest_deltas list ≡ Some rest → all_deltas list ≡ Some (concat blocks ++ rest)
all_read list blocks rest e f = rw (e, f) refl

-- bytes whose blocks and further deltas are there
cut_deltas : (bytes : List ℕ) (widths body stride place : ℕ) (anchors ws bs held : List ℕ) → AreCut bytes widths body ws bs → FindsAll ws bs stride anchors place → Some held ≡ rest_at (drop place bs)
    → position_deltas bytes ≡ Some (deltas_of bytes)
unfolding deltas_of
cut_deltas bytes widths body stride place anchors ws bs held c f read =
    let list : PositionList = record { widths = ws; body = bs } in
    let listed = c.list ∙ (λ j. Some (record { widths = sym c.ws_are j; body = sym c.bs_are j })) in
    let blocks = some_of (each (block_deltas list) (length ws)) f.found in
    let rest : rest_deltas (record { widths = ws; body = bs }) ≡ Some held = rw (← f.place_is) (sym read) in
    let all = deltas_by_list bytes list listed ∙ all_read list blocks.0 held blocks.1 rest in
    all ∙ ap Some (sym (ap (λ (o : Option (List ℕ)). unwrap_or o []) all))

-- the deltas that bytes hold are those of their list
cut_all : (bytes : List ℕ) (widths body : ℕ) → position_list bytes ≡ Some (list_at bytes widths body) → position_deltas bytes ≡ Some (deltas_of bytes) → all_deltas (list_at bytes widths body) ≡ Some (deltas_of bytes)
cut_all bytes widths body listed found = sym (deltas_by_list bytes (list_at bytes widths body) listed) ∙ found

-- What a reader keeps after opening.
pub keeps_rest : (bytes ws bs after anchors held : List ℕ) (widths body stride place rest : ℕ) → AreCut bytes widths body ws bs → FindsAll ws bs stride anchors place → stride ≡ (body - widths) / 64 + 1
    → after ≡ drop place bs → Some held ≡ rest_at after → rest ≡ length held → KeepsBlock bytes widths body stride anchors (body - widths) place held rest
keeps_rest bytes ws bs after anchors held widths body stride place rest c f stride_is after_is read rest_is =
    let list : PositionList = list_at bytes widths body in
    let order = c.order in
    let within = c.within in
    let size = length-cut bytes widths body order within in
    let many : length ws ≡ body - widths = ap length c.ws_are ∙ size in
    let found = cut_deltas bytes widths body stride place anchors ws bs held c f (read ∙ ap rest_at after_is) in
    let lies = lie list (deltas_of bytes) (cut_all bytes widths body c.list found) in
    let few = lies.1.few in
    let all = lies.1.many in
    let here : rest_deltas (record { widths = ws; body = bs }) ≡ Some held = rw (← f.place_is, ← after_is) (sym read) in
    let last : rest_deltas (list_at bytes widths body) ≡ Some held = (λ j. rest_deltas (record { widths = sym c.ws_are j; body = sym c.bs_are j })) ∙ here in
    let same : held ≡ block_of (deltas_of bytes) (length list.widths) = some-same (sym last ∙ lies.1.rest_is) in
    let held_len = ap length same in
    let rest_len = lies.1.rest_len in
    let place_within = f.within in
    let bs_len = ap length c.bs_are in
    let end : place ≡ place_by_widths (list_at bytes widths body).widths (body - widths) = f.place_is ∙ (λ j. place_by_widths (c.ws_are j) (many j)) in
    record {
      there = record { order = order; within = within; list = c.list; deltas = found };
      many = f.many;
      stride_is = omega arith;
      anchors_are = λ k h. f.anchors_are k (omega arith) ∙ ap (λ (w : List ℕ). place_by_widths w (k * stride)) c.ws_are;
      inside = omega arith;
      place_is = end;
      held_is = same ∙ ap (block_of (deltas_of bytes)) size;
      len = omega arith;
      few = omega arith;
      room = omega (arith, length-drop body bytes);
    }

-- a block of deltas that lie in blocks
lies_at : (list : PositionList) (deltas : List ℕ) (rest block : ℕ) (t : Bool) → LieInBlocks list deltas rest → nat_lt block (length list.widths) ≡ t → block ≤ length list.widths → deltas_at_block list block ≡ Some (block_of deltas block)
lies_at list deltas rest block true l test h = rw test (l.blocks block (ltb-true block (length list.widths) test))
lies_at list deltas rest block false l test h =
    let past = ltb-false block (length list.widths) test in
    let end : length list.widths ≡ block = omega arith in
    rw test (l.rest_is ∙ ap (λ (i : ℕ). Some (block_of deltas i)) end)

pub kept_at : (bytes ws bs anchors held : List ℕ) (widths body stride block place rest other : ℕ) → KeepsBlock bytes widths body stride anchors block place held rest
    → ws ≡ take (body - widths) (drop widths bytes) → bs ≡ drop body bytes → other ≤ body - widths → deltas_at_block (record { widths = ws; body = bs }) other ≡ Some (block_of (deltas_of bytes) other)
kept_at bytes ws bs anchors held widths body stride block place rest other k ws_are bs_are h =
    let lies = lie (list_at bytes widths body) (deltas_of bytes) (cut_all bytes widths body k.there.list k.there.deltas) in
    let size = length-cut bytes widths body k.there.order k.there.within in
    (λ j. deltas_at_block (record { widths = ws_are j; body = bs_are j }) other) ∙ lies_at (list_at bytes widths body) (deltas_of bytes) lies.0 other (nat_lt other (length (list_at bytes widths body).widths)) lies.1 refl (omega arith)

-- a block in which deltas lie is there
pub asked_within : (bytes anchors held : List ℕ) (widths body stride block place rest other : ℕ) → KeepsBlock bytes widths body stride anchors block place held rest → 128 * other < length (deltas_of bytes) → other ≤ body - widths
asked_within bytes anchors held widths body stride block place rest other k h =
    let len = k.len in
    let few = k.few in
    omega arith

pub asked_there : (bytes ws bs anchors held : List ℕ) (widths body stride block place rest other : ℕ) → KeepsBlock bytes widths body stride anchors block place held rest
    → ws ≡ take (body - widths) (drop widths bytes) → bs ≡ drop body bytes → other ≤ body - widths → is_some (deltas_at_block (record { widths = ws; body = bs }) other) ≡ true
asked_there bytes ws bs anchors held widths body stride block place rest other k ws_are bs_are h =
    is_some_by (deltas_at_block (record { widths = ws; body = bs }) other) _ (kept_at bytes ws bs anchors held widths body stride block place rest other k ws_are bs_are h)

-- What is kept once another block was decoded.
pub keeps_other : (bytes ws bs anchors held new : List ℕ) (widths body stride block place rest other there : ℕ) → KeepsBlock bytes widths body stride anchors block place held rest
    → ws ≡ take (body - widths) (drop widths bytes) → bs ≡ drop body bytes → other ≤ body - widths → there ≡ place_by_widths ws other → Some new ≡ deltas_at_block (record { widths = ws; body = bs }) other
    → KeepsBlock bytes widths body stride anchors other there new rest
keeps_other bytes ws bs anchors held new widths body stride block place rest other there k ws_are bs_are h there_is read =
    let same = some-same (read ∙ kept_at bytes ws bs anchors held widths body stride block place rest other k ws_are bs_are h) in
    record {
      there = k.there;
      many = k.many;
      stride_is = k.stride_is;
      anchors_are = k.anchors_are;
      inside = h;
      place_is = there_is ∙ ap (λ (w : List ℕ). place_by_widths w other) ws_are;
      held_is = same;
      len = k.len;
      few = k.few;
      room = k.room;
    }

-- How far a range was read: the output holds `count` deltas, and no block was decoded twice.
pub record ReadsPart (deltas : List ℕ) (before offset count : ℕ) (output : List ℕ) (decodes block start done : ℕ) : Type 0 where
  pub inside : offset + count ≤ length deltas
  pub some : done ≤ count
  pub read : take done output ≡ take done (drop offset deltas)
  pub place : done < count → 128 * block + start ≡ offset + done
  pub reached : 128 * block < offset + done + 128
  pub low : start < 128
  pub spent : decodes + offset / 128 ≤ before + block
  pub kept : before ≤ decodes

-- a part of the block that holds the next delta
part_of_block : (deltas : List ℕ) (offset block start done n : ℕ) → 128 * block + start ≡ offset + done → n + start ≤ 128 → take n (drop start (block_of deltas block)) ≡ take n (drop done (drop offset deltas))
part_of_block deltas offset block start done n place few =
    let whole : 128 ≡ start + (128 - start) = omega arith in
    let here : 128 * block + start ≡ offset + done = place in
    ap (λ (m : ℕ). take n (drop start (take m (drop (128 * block) deltas)))) whole
    ∙ ap (take n) (drop-take start (128 - start) (drop (128 * block) deltas))
    ∙ take-take n (128 - start) (drop start (drop (128 * block) deltas)) (omega arith)
    ∙ ap (take n) (drop-drop start (128 * block) deltas ∙ ap (λ (m : ℕ). drop m deltas) here ∙ sym (drop-drop done offset deltas))

length-block : (deltas : List ℕ) (block : ℕ) → length (block_of deltas block) ≡ min 128 (length deltas - 128 * block)
length-block deltas block = length-take 128 (drop (128 * block) deltas) ∙ ap (min 128) (length-drop (128 * block) deltas)

pub block_few : (deltas held : List ℕ) (block : ℕ) → held ≡ block_of deltas block → length held ≤ 128
block_few deltas held block held_is = let size = ap length held_is ∙ length-block deltas block in omega arith

-- the next delta is in its block
pub starts_within : (deltas held output : List ℕ) (before offset count decodes block start done : ℕ) → ReadsPart deltas before offset count output decodes block start done → done < count → held ≡ block_of deltas block → start < length held
starts_within deltas held output before offset count decodes block start done r h held_is =
    let size = ap length held_is ∙ length-block deltas block in
    let inside = r.inside in
    let place = r.place h in
    let low = r.low in
    omega arith

pub reads_more : (deltas held output new : List ℕ) (before offset count decodes more block start done n : ℕ) → ReadsPart deltas before offset count output decodes block start done → done < count
    → held ≡ block_of deltas block → n ≡ min (length held - start) (count - done) → take (done + n) new ≡ take done output ++ take n (drop start held) → more ≤ decodes + 1 → decodes ≤ more
    → ReadsPart deltas before offset count new more (block + 1) 0 (done + n)
reads_more deltas held output new before offset count decodes more block start done n r h held_is n_is new_is one rises =
    let size = ap length held_is ∙ length-block deltas block in
    let within = starts_within deltas held output before offset count decodes block start done r h held_is in
    let inside = r.inside in
    let place = r.place h in
    let low = r.low in
    let reached = r.reached in
    let spent = r.spent in
    let kept = r.kept in
    let part = ap (λ (xs : List ℕ). take n (drop start xs)) held_is ∙ part_of_block deltas offset block start done n place (omega arith) in
    record {
      inside = inside;
      some = omega arith;
      read = new_is ∙ (λ j. r.read j ++ part j) ∙ sym (take-add done n (drop offset deltas));
      place = λ left. omega arith;
      reached = omega arith;
      low = omega arith;
      spent = omega arith;
      kept = omega arith;
    }

-- The kept block and the number of decodes while a range of deltas is read.
pub record KeepsReading (held before kept decodes offset count done : ℕ) : Type 0 where
  pub none : done ≡ 0 → kept ≡ held
  pub from : 0 < done → 128 * kept < offset + done
  pub to : 0 < done → offset + done ≤ 128 * kept + 128
  pub same : LieInBlock held offset count → decodes ≡ before
  pub nothing : done ≡ 0 → decodes ≡ before
  pub once : 0 < done → decodes + offset / 128 ≤ before + kept + 1
  pub forward : held ≤ offset / 128 → decodes + held ≤ before + kept

loads_here : (held before kept decodes offset count block start done : ℕ) → KeepsReading held before kept decodes offset count done → LieInBlock held offset count → 128 * block + start ≡ offset + done → start < 128 → done < count → block ≡ kept
loads_here held before kept decodes offset count block start zero k lie place low left =
    let same = k.none refl in
    let from = lie.from in
    let to = lie.to in
    omega arith
loads_here held before kept decodes offset count block start (suc done) k lie place low left =
    let begin = k.from (omega arith) in
    let end = k.to (omega arith) in
    let from = lie.from in
    let to = lie.to in
    omega arith

-- what it costs to go on to a block, which may be the kept one
step_cost : (kept decodes block more : ℕ) (t : Bool) → nat_lt kept block ≡ t → kept ≤ block → (kept ≡ block → more ≡ decodes) → more ≤ decodes + 1 → more + kept ≤ decodes + block
step_cost kept decodes block more true later order stays one =
    let behind = ltb-true kept block later in
    omega arith
step_cost kept decodes block more false later order stays one =
    let before = ltb-false kept block later in
    let here = stays (omega arith) in
    omega arith

once_more : (held before kept decodes offset count block start done more : ℕ) → KeepsReading held before kept decodes offset count done → 128 * block + start ≡ offset + done → start < 128 → (kept ≡ block → more ≡ decodes) → more ≤ decodes + 1 → more + offset / 128 ≤ before + block + 1
once_more held before kept decodes offset count block start zero more k place low stays one =
    let same = k.nothing refl in
    omega arith
once_more held before kept decodes offset count block start (suc done) more k place low stays one =
    let from = k.from (omega arith) in
    let once = k.once (omega arith) in
    let cost = step_cost kept decodes block more (nat_lt kept block) refl (omega arith) stays one in
    omega arith

forward_more : (held before kept decodes offset count block start done more : ℕ) → KeepsReading held before kept decodes offset count done → 128 * block + start ≡ offset + done → start < 128 → (kept ≡ block → more ≡ decodes) → more ≤ decodes + 1 → held ≤ offset / 128 → more + held ≤ before + block
forward_more held before kept decodes offset count block start zero more k place low stays one order =
    let same = k.none refl in
    let none = k.nothing refl in
    let cost = step_cost kept decodes block more (nat_lt kept block) refl (omega arith) stays one in
    omega arith
forward_more held before kept decodes offset count block start (suc done) more k place low stays one order =
    let from = k.from (omega arith) in
    let spent = k.forward order in
    let cost = step_cost kept decodes block more (nat_lt kept block) refl (omega arith) stays one in
    omega arith

pub keeps_more : (held before kept decodes offset count block start done next more n size : ℕ) → KeepsReading held before kept decodes offset count done → 128 * block + start ≡ offset + done → start < 128 → done < count
    → next ≡ block → (kept ≡ block → more ≡ decodes) → more ≤ decodes + 1 → n ≡ min (size - start) (count - done) → start < size → size ≤ 128 → KeepsReading held before next more offset count (done + n)
keeps_more held before kept decodes offset count block start done next more n size k place low left at stays one n_is some few = record {
  none = λ e. absurd (omega arith);
  from = λ on. omega arith;
  to = λ on. omega arith;
  same = λ lie. stays (sym (loads_here held before kept decodes offset count block start done k lie place low left)) ∙ k.same lie;
  nothing = λ e. absurd (omega arith);
  once = λ on. omega (arith, at, once_more held before kept decodes offset count block start done more k place low stays one);
  forward = λ order. omega (arith, at, forward_more held before kept decodes offset count block start done more k place low stays one order);
}

kept_cases : (held before kept decodes offset count : ℕ) → KeepsReading held before kept decodes offset count count → kept ≡ block_kept held offset count
kept_cases held before kept decodes offset zero k = k.none refl
kept_cases held before kept decodes offset (suc n) k =
    let from = k.from (omega arith) in
    let to = k.to (omega arith) in
    omega arith

pub keeps_all : (held before kept decodes offset count done : ℕ) → KeepsReading held before kept decodes offset count done → count ≤ done → done ≤ count → kept ≡ block_kept held offset count
keeps_all held before kept decodes offset count done k most some =
    let same : done ≡ count = omega arith in
    kept_cases held before kept decodes offset count (rw same at k)
