-- Recorders after one more number.
use Rattle.std.proofs.Common.{◌≡◌, ℕ, suc, ◌+◌, ◌-◌, ◌^◌, ◌<◌, ◌≤◌, Bool, true, false, List, [], ◌∷◌, ◌++◌, length, map, take, rules, Option, Some, None, refl, sym, ap, subst, ◌∙◌, arith, append-nil, length-append}
use Rattle.std.specs.Prelude.{unwrap_or, min, IfSome, IsSome, if◌then◌else◌}
use Rattle.std.proofs.Math.Seq.{take-append_seam}
use Rattle.std.specs.Option.{option_map, option_to_list}
use Rattle.std.specs.List.{AllByRecursion, sum}
use Rattle.std.proofs.lemmas.List.{map-append, take_all}
use Rattle.ii_io.specs.Vints.{vint_u32}
use Rattle.ii_base.specs.declared.schema.index_record_option.IndexRecordOption.TheVariants.{Basic, WithFreqs, WithFreqsAndPositions}
use Rattle.ii_codes.specs.Sums.{running_sums}
use Rattle.ii_base.specs.Entries.{Entry, counted, document}
use Rattle.ii_recorder.specs.Gathered.{Gathered, counts_in, counts_state, docs_by_deltas, docs_read, docs_state, more_positions, none_after, positions_in, positions_state, recounted, with_count, with_number}
use Rattle.ii_recorder.specs.Kept.{IsCount, IsLastDoc, IsLocated, KeepsCounts, KeepsDocs, KeepsPositions}
use Rattle.ii_recorder.specs.Recorded.{RecorderState, begun, current_doc, entries_of_recorder, last_doc, last_position, u32_max, with_position}
use Rattle.ii_recorder.specs.VintRows.{numbers}
use Rattle.ii_recorder.proofs.DeltaLemmas.{last_position_more, located_more}
use Rattle.ii_recorder.proofs.GatheredLemmas.{gathered_more, sum_more, sums_more, sums_split}
use Rattle.ii_recorder.proofs.RecorderLemmas.{above_last, all_closed, closed_alone, count_begun, count_closed, count_moved, last_begun, last_closed, last_doc_push, last_moved, same_closed}
use Rattle.ii_recorder.proofs.VintRowLemmas.{begins, longer}
use Rattle.ii_codes.proofs.LengthLemmas.{length-running_sums}
use Rattle.ii_layout.proofs.BoundLemmas.{all_push}

if_some : {X : Type 0} (P : X → Type 0) (o : Option X) (x : X) → IfSome o P → o ≡ Some x → P x
if_some P None x h e = absurd (cc)
if_some P (Some y) x h e = subst P (let same : y ≡ x = cc in same) h

-- Documents.

docs_split : (ns : List ℕ) → 0 < length ns → running_sums 0 ns ≡ take (length ns - 1) (running_sums 0 ns) ++ sum ns ∷ []
docs_split [] some = absurd (omega (arith, some))
docs_split (d ∷ ds) some =
    let none : 0 + sum (d ∷ ds) ≡ sum (d ∷ ds) = omega arith in
    let place : length ds ≡ length (d ∷ ds) - 1 = omega arith in
    sums_split 0 d ds ∙ ap (λ (n : ℕ). take (length ds) (running_sums 0 (d ∷ ds)) ++ n ∷ []) none ∙ ap (λ (k : ℕ). take k (running_sums 0 (d ∷ ds)) ++ sum (d ∷ ds) ∷ []) place

docs_parts : (ns : List ℕ) → 0 < length ns → docs_by_deltas ns ≡ map document (take (length ns - 1) (running_sums 0 ns)) ++ document (sum ns) ∷ []
docs_parts ns some = ap (map document) (docs_split ns some) ∙ map-append document (take (length ns - 1) (running_sums 0 ns)) (sum ns ∷ [])

docs_all : (ns : List ℕ) → take (length ns) (running_sums 0 ns) ≡ running_sums 0 ns
docs_all ns = take_all (length ns) (running_sums 0 ns) (omega (arith, length-running_sums 0 ns))

docs_by : (ns : List ℕ) (b : Bool) → (b ≡ true → 0 < length ns) → entries_of_recorder (docs_read ns b) ≡ docs_by_deltas ns
docs_by ns false some = append-nil (map document (take (length ns) (running_sums 0 ns))) ∙ ap (map document) (docs_all ns)
docs_by ns true some = sym (docs_parts ns (some refl))

-- all documents
pub docs_are : (bytes : List ℕ) (last : ℕ) (b : Bool) → KeepsDocs bytes last b → entries_of_recorder (docs_state bytes b) ≡ docs_by_deltas (numbers bytes)
docs_are bytes last b k = docs_by (numbers bytes) b k.some

docs_last : (ns : List ℕ) (other : ℕ) → 0 < length ns → unwrap_or (last_doc (docs_by_deltas ns)) other ≡ sum ns
docs_last ns other some =
    ap (λ (es : List Entry). unwrap_or (last_doc es) other) (docs_parts ns some) ∙ ap (λ (o : Option ℕ). unwrap_or o other) (last_doc_push (map document (take (length ns - 1) (running_sums 0 ns))) (document (sum ns)))

pub record DocsGo (bytes : List ℕ) (last : ℕ) (b : Bool) (s : RecorderState) : Type 0 where
  pub state : docs_state bytes b ≡ s
  pub keeps : KeepsDocs bytes last b

low_by : (ns : List ℕ) (last doc : ℕ) → sum ns ≡ last → IfSome (last_doc (docs_by_deltas ns)) (λ l. l < doc) → last ≤ doc
low_by [] last doc is above = omega (arith, is)
low_by (d ∷ ds) last doc is above =
    let here : last_doc (docs_by_deltas (d ∷ ds)) ≡ Some (sum (d ∷ ds)) = ap last_doc (docs_parts (d ∷ ds) (omega arith)) ∙ last_doc_push (map document (take (length (d ∷ ds) - 1) (running_sums 0 (d ∷ ds)))) (document (sum (d ∷ ds))) in
    let less = if_some (λ l. l < doc) (last_doc (docs_by_deltas (d ∷ ds))) (sum (d ∷ ds)) above here in
    omega (arith, is, less)

docs_opened : (ns : List ℕ) (doc : ℕ) → sum ns ≤ doc → docs_read (ns ++ (doc - sum ns) ∷ []) true ≡ record { option = Basic; closed = docs_by_deltas ns; pending = Some (document doc) }
docs_opened ns doc low =
    let ms = ns ++ (doc - sum ns) ∷ [] in
    let place : length ms - 1 ≡ length (running_sums 0 ns) = omega (arith, length-append ns ((doc - sum ns) ∷ []), length-running_sums 0 ns) in
    let total : sum ms ≡ doc = omega (arith, low, sum_more ns (doc - sum ns)) in
    let front = ap (take (length ms - 1)) (sums_more 0 ns (doc - sum ns)) ∙ ap (λ (k : ℕ). take k (running_sums 0 ns ++ (0 + sum ns + (doc - sum ns)) ∷ [])) place ∙ take-append_seam (running_sums 0 ns) ((0 + sum ns + (doc - sum ns)) ∷ []) in
    ap (λ (xs : List ℕ). record { option = Basic; closed = map document xs; pending = Some (document (sum ms)) }) front ∙ ap (λ (n : ℕ). record { option = Basic; closed = docs_by_deltas ns; pending = Some (document n) }) total

pub docs_begun : (bytes new : List ℕ) (last : ℕ) (b : Bool) (doc : ℕ) → KeepsDocs bytes last b → (docs_state bytes b).pending ≡ None → IfSome (last_doc (docs_state bytes b).closed) (λ l. l < doc)
    → doc < 2 ^ 32 → new ≡ bytes ++ vint_u32 (doc - last) → DocsGo new doc true (record (docs_state bytes b) { pending = Some (begun Basic doc) })
docs_begun bytes new last true doc k none above fits is = absurd (cc)
docs_begun bytes new last false doc k none above fits is =
    let ns = numbers bytes in
    let all = docs_all ns in
    let low = low_by ns last doc k.total (subst (λ (xs : List ℕ). IfSome (last_doc (map document xs)) (λ l. l < doc)) all above) in
    let long = longer bytes new (doc - last) k.vints (omega (arith, fits)) is in
    let read : numbers new ≡ ns ++ (doc - sum ns) ∷ [] = long.numbers ∙ ap (λ (n : ℕ). ns ++ (doc - n) ∷ []) (sym k.total) in
    let total : sum (numbers new) ≡ sum ns + (doc - sum ns) = ap sum read ∙ sum_more ns (doc - sum ns) in
    let count : length (numbers new) ≡ length ns + 1 = ap length read ∙ length-append ns ((doc - sum ns) ∷ []) in
    record {
      state = ap (λ (ms : List ℕ). docs_read ms true) read ∙ docs_opened ns doc (omega (arith, low, k.total)) ∙ ap (λ (xs : List ℕ). record { option = Basic; closed = map document xs; pending = Some (document doc) }) (sym all);
      keeps = record { vints = long.vints; total = omega (arith, total, low, k.total); fits = fits; some = λ h. omega (arith, count) };
    }

pub docs_ended : (bytes : List ℕ) (last : ℕ) (b : Bool) → KeepsDocs bytes last b → DocsGo bytes last false (all_closed (docs_state bytes b))
docs_ended bytes last b k = record {
  state = ap (λ (es : List Entry). record { option = Basic; closed = es; pending = None }) (ap (map document) (docs_all (numbers bytes)) ∙ sym (docs_are bytes last b k));
  keeps = record { vints = k.vints; total = k.total; fits = k.fits; some = λ h. absurd (cc) };
}

positioned_by : (b : Bool) (n position : ℕ) → (if b then Some (document n) else None) ≡ option_map (with_position Basic position) (if b then Some (document n) else None)
positioned_by true n position = refl
positioned_by false n position = refl

pub docs_positioned : (bytes : List ℕ) (b : Bool) (position : ℕ) → docs_state bytes b ≡ record (docs_state bytes b) { pending = option_map (with_position Basic position) (docs_state bytes b).pending }
docs_positioned bytes b position = ap (λ (p : Option Entry). record (docs_state bytes b) { pending = p }) (positioned_by b (sum (numbers bytes)) position)

pub docs_current : (bytes : List ℕ) (last : ℕ) (b : Bool) → KeepsDocs bytes last b → 0 < length bytes → last ≡ current_doc (docs_state bytes b)
docs_current bytes last b k some =
    let first = begins bytes k.vints some in
    let count : length (numbers bytes) ≡ suc (length (numbers first.rest)) = ap length first.numbers in
    sym k.total ∙ sym (docs_last (numbers bytes) u32_max (omega (arith, count))) ∙ ap (λ (es : List Entry). unwrap_or (last_doc es) u32_max) (sym (docs_are bytes last b k))

-- Counts.

unmapped : (f : Entry → Entry) (p : Option Entry) → option_map f p ≡ None → p ≡ None
unmapped f None e = refl
unmapped f (Some x) e = absurd (cc)

-- what is read with one delta more, where no document is open
counts_opened : (closed : List Entry) (pending : Option Entry) (last doc : ℕ) → pending ≡ None → last ≤ doc → with_count (record { closed = closed; pending = pending; last = last }) (doc - last) ≡ record { closed = closed; pending = Some (counted doc 0); last = doc }
counts_opened closed None last doc none low =
    let value : last + (doc - last) ≡ doc = omega (arith, low) in
    ap (λ (n : ℕ). record { closed = closed; pending = Some (counted n 0); last = n }) value
counts_opened closed (Some e) last doc none low = absurd (cc)

-- and with a count more, where one is
counts_closed : (closed : List Entry) (pending : Option Entry) (last count : ℕ) → IsSome (option_map (recounted count) pending)
    → with_count (record { closed = closed; pending = pending; last = last }) count ≡ record { closed = closed ++ option_to_list (option_map (recounted count) pending); pending = None; last = last }
counts_closed closed None last count some = absurd (search rules)
counts_closed closed (Some e) last count some = refl

-- What a step gives: the new state, and what is kept in addition to the new bytes.
pub record CountsGo (bytes : List ℕ) (last freq count : ℕ) (s : RecorderState) : Type 0 where
  pub state : counts_state bytes freq ≡ s
  pub keeps : KeepsCounts bytes last freq count

pub counts_begun : (bytes new : List ℕ) (last freq count doc more : ℕ) → KeepsCounts bytes last freq count → (counts_state bytes freq).pending ≡ None → IfSome (last_doc (counts_state bytes freq).closed) (λ l. l < doc)
    → doc < 2 ^ 32 → new ≡ bytes ++ vint_u32 (doc - last) → more ≡ min (count + 1) u32_max → CountsGo new doc 0 more (record (counts_state bytes freq) { pending = Some (begun WithFreqs doc) })
counts_begun bytes new last freq count doc more k none above fits is one =
    let s = counts_state bytes freq in
    let g = counts_in (numbers bytes) in
    let low = above_last s last doc none above k.is_last in
    let long = longer bytes new (doc - last) k.vints (omega (arith, fits)) is in
    let read : counts_in (numbers new) ≡ record { closed = g.closed; pending = Some (counted doc 0); last = doc } =
    ap counts_in long.numbers ∙ gathered_more with_count (none_after 0) (numbers bytes) (doc - last) ∙ ap (λ (n : ℕ). with_count g (doc - n)) (sym k.read)
    ∙ counts_opened g.closed g.pending g.last doc (unmapped (recounted freq) g.pending none) (rw k.read low)
    in
    let state : counts_state new 0 ≡ record s { pending = Some (begun WithFreqs doc) } = ap (λ (h : Gathered). record { option = WithFreqs; closed = h.closed; pending = option_map (recounted 0) h.pending }) read in
    record {
      state = state;
      keeps = record {
        vints = long.vints;
        read = ap (λ (h : Gathered). h.last) read;
        is_last = subst (IsLastDoc doc) (sym state) (last_begun s (begun WithFreqs doc));
        is_count = subst (IsCount more) (sym state) (count_begun s (begun WithFreqs doc) count more none k.is_count one);
      };
    }

some_of : {X : Type 0} (o : Option X) → IsSome o → (x : X) × (o ≡ Some x)
some_of None h = absurd (search rules)
some_of (Some x) h = (x, refl)

pub counts_ended : (bytes new : List ℕ) (last freq count : ℕ) → KeepsCounts bytes last freq count → IsSome (counts_state bytes freq).pending → freq < 2 ^ 32 → new ≡ bytes ++ vint_u32 freq
    → CountsGo new last freq count (all_closed (counts_state bytes freq))
counts_ended bytes new last freq count k some fits is =
    let s = counts_state bytes freq in
    let g = counts_in (numbers bytes) in
    let long = longer bytes new freq k.vints fits is in
    let read : counts_in (numbers new) ≡ record { closed = entries_of_recorder s; pending = None; last = g.last } =
    ap counts_in long.numbers ∙ gathered_more with_count (none_after 0) (numbers bytes) freq ∙ counts_closed g.closed g.pending g.last freq some
    in
    let state : counts_state new freq ≡ all_closed s = ap (λ (h : Gathered). record { option = WithFreqs; closed = h.closed; pending = option_map (recounted freq) h.pending }) read in
    record {
      state = state;
      keeps = record {
        vints = long.vints;
        read = ap (λ (h : Gathered). h.last) read ∙ k.read;
        is_last = subst (IsLastDoc last) (sym state) (last_closed s last k.is_last);
        is_count = subst (IsCount count) (sym state) (count_closed s count k.is_count);
      };
    }

-- Positions.

positions_opened : (closed : List Entry) (pending : Option Entry) (last doc : ℕ) → pending ≡ None → last ≤ doc → with_number (record { closed = closed; pending = pending; last = last }) (doc - last) ≡ record { closed = closed; pending = Some (counted doc 0); last = doc }
positions_opened closed None last doc none low =
    let value : last + (doc - last) ≡ doc = omega (arith, low) in
    ap (λ (n : ℕ). record { closed = closed; pending = Some (counted n 0); last = n }) value
positions_opened closed (Some e) last doc none low = absurd (cc)

pub record PositionsGo (bytes : List ℕ) (last freq position count : ℕ) (s : RecorderState) : Type 0 where
  pub state : positions_state bytes ≡ s
  pub keeps : KeepsPositions bytes last freq position count

pub positions_begun : (bytes new : List ℕ) (last freq position count doc more : ℕ) → KeepsPositions bytes last freq position count → (positions_state bytes).pending ≡ None → IfSome (last_doc (positions_state bytes).closed) (λ l. l < doc)
    → doc < 2 ^ 32 → new ≡ bytes ++ vint_u32 (doc - last) → more ≡ min (count + 1) u32_max → PositionsGo new doc 0 0 more (record (positions_state bytes) { pending = Some (begun WithFreqsAndPositions doc) })
positions_begun bytes new last freq position count doc more k none above fits is one =
    let s = positions_state bytes in
    let g = positions_in (numbers bytes) in
    let e = begun WithFreqsAndPositions doc in
    let low = above_last s last doc none above k.is_last in
    let long = longer bytes new (doc - last) k.vints (omega (arith, fits)) is in
    let read : positions_in (numbers new) ≡ record { closed = g.closed; pending = Some (counted doc 0); last = doc } =
    ap positions_in long.numbers ∙ gathered_more with_number (none_after 0) (numbers bytes) (doc - last) ∙ ap (λ (n : ℕ). with_number g (doc - n)) (sym k.read)
    ∙ positions_opened g.closed g.pending g.last doc none (rw k.read low)
    in
    let state : positions_state new ≡ record s { pending = Some e } = ap (λ (h : Gathered). record { option = WithFreqsAndPositions; closed = h.closed; pending = h.pending }) read in
    let alone = closed_alone s none in
    record {
      state = state;
      keeps = record {
        vints = long.vints;
        read = ap (λ (h : Gathered). h.last) read;
        is_last = subst (IsLastDoc doc) (sym state) (last_begun s e);
        is_count = subst (IsCount more) (sym state) (count_begun s e count more none k.is_count one);
        located = subst (λ (t : RecorderState). AllByRecursion IsLocated (entries_of_recorder t)) (sym state) (all_push IsLocated s.closed e (subst (AllByRecursion IsLocated) alone k.located) (refl, tt, tt));
        counted = subst (λ (t : RecorderState). AllByRecursion (λ (f : Entry). f.term_freq < 2 ^ 32) (entries_of_recorder t)) (sym state)
            (all_push (λ (f : Entry). f.term_freq < 2 ^ 32) s.closed e (subst (AllByRecursion (λ (f : Entry). f.term_freq < 2 ^ 32)) alone k.counted) (omega arith));
        pending = subst (λ (t : RecorderState). IfSome t.pending (λ f. (f.term_freq ≡ 0) × (last_position f.positions ≡ 0))) (sym state) (refl, refl);
      };
    }

positions_moved : (closed : List Entry) (pending : Option Entry) (last p : ℕ) (e : Entry) → pending ≡ Some e → with_number (record { closed = closed; pending = pending; last = last }) (p + 1) ≡ record { closed = closed; pending = Some (more_positions e (p ∷ [])); last = last }
positions_moved closed None last p e is = absurd (cc)
positions_moved closed (Some f) last p e is =
    let next : p + 1 ≡ suc p = omega arith in
    let same : f ≡ e = cc in
    rw (next, same) refl

all_front : {A : Type 0} (P : A → Type 0) (xs : List A) (x : A) → AllByRecursion P (xs ++ x ∷ []) → AllByRecursion P xs
all_front P [] x h = tt
all_front P (y ∷ ys) x h = (h.0, all_front P ys x h.1)

all_last : {A : Type 0} (P : A → Type 0) (xs : List A) (x : A) → AllByRecursion P (xs ++ x ∷ []) → P x
all_last P [] x h = h.0
all_last P (y ∷ ys) x h = all_last P ys x h.1

pub positions_positioned : (bytes new : List ℕ) (last freq position count p : ℕ) → KeepsPositions bytes last freq position count → IsSome (positions_state bytes).pending → position ≤ p → p + 1 < 2 ^ 32 → freq + 1 < 2 ^ 32 → new ≡ bytes ++ vint_u32 (p + 1)
    → PositionsGo new last (freq + 1) p count (record (positions_state bytes) { pending = option_map (with_position WithFreqsAndPositions p) (positions_state bytes).pending })
positions_positioned bytes new last freq position count p k some low fits few is =
    let s = positions_state bytes in
    let g = positions_in (numbers bytes) in
    let open_one = some_of s.pending some in
    let e = open_one.0 in
    let f = more_positions e (p ∷ []) in
    let held = if_some (λ (e : Entry). (e.term_freq ≡ freq) × (last_position e.positions ≡ position)) s.pending e k.pending open_one.1 in
    let long = longer bytes new (p + 1) k.vints fits is in
    let read : positions_in (numbers new) ≡ record { closed = g.closed; pending = Some f; last = g.last } =
    ap positions_in long.numbers ∙ gathered_more with_number (none_after 0) (numbers bytes) (p + 1) ∙ positions_moved g.closed g.pending g.last p e open_one.1
    in
    let there : positions_state new ≡ record s { pending = Some f } = ap (λ (h : Gathered). record { option = WithFreqsAndPositions; closed = h.closed; pending = h.pending }) read in
    let state : positions_state new ≡ record s { pending = option_map (with_position WithFreqsAndPositions p) s.pending } = there ∙ ap (λ (o : Option Entry). record s { pending = option_map (with_position WithFreqsAndPositions p) o }) (sym open_one.1) in
    let located = subst (λ (o : Option Entry). AllByRecursion IsLocated (s.closed ++ option_to_list o)) open_one.1 k.located in
    let counted = subst (λ (o : Option Entry). AllByRecursion (λ (d : Entry). d.term_freq < 2 ^ 32) (s.closed ++ option_to_list o)) open_one.1 k.counted in
    record {
      state = state;
      keeps = record {
        vints = long.vints;
        read = ap (λ (h : Gathered). h.last) read ∙ k.read;
        is_last = subst (IsLastDoc last) (sym there) (last_moved s e f last open_one.1 refl k.is_last);
        is_count = subst (IsCount count) (sym there) (count_moved s e f count open_one.1 k.is_count);
        located = subst (λ (t : RecorderState). AllByRecursion IsLocated (entries_of_recorder t)) (sym there)
            (all_push IsLocated s.closed f (all_front IsLocated s.closed e located) (located_more e p (all_last IsLocated s.closed e located) (omega (arith, held.1, low)) (omega (arith, fits))));
        counted = subst (λ (t : RecorderState). AllByRecursion (λ (d : Entry). d.term_freq < 2 ^ 32) (entries_of_recorder t)) (sym there)
            (all_push (λ (d : Entry). d.term_freq < 2 ^ 32) s.closed f (all_front (λ (d : Entry). d.term_freq < 2 ^ 32) s.closed e counted) (omega (arith, held.0, few)));
        pending = subst (λ (t : RecorderState). IfSome t.pending (λ d. (d.term_freq ≡ freq + 1) × (last_position d.positions ≡ p))) (sym there) (ap (λ (n : ℕ). n + 1) held.0, last_position_more e.positions p);
      };
    }

positions_closed : (closed : List Entry) (pending : Option Entry) (last : ℕ) → IsSome pending → with_number (record { closed = closed; pending = pending; last = last }) 0 ≡ record { closed = closed ++ option_to_list pending; pending = None; last = last }
positions_closed closed None last some = absurd (search rules)
positions_closed closed (Some e) last some = refl

pub positions_ended : (bytes new : List ℕ) (last freq position count : ℕ) → KeepsPositions bytes last freq position count → IsSome (positions_state bytes).pending → new ≡ bytes ++ vint_u32 0
    → PositionsGo new last freq position count (all_closed (positions_state bytes))
positions_ended bytes new last freq position count k some is =
    let s = positions_state bytes in
    let g = positions_in (numbers bytes) in
    let long = longer bytes new 0 k.vints (omega arith) is in
    let read : positions_in (numbers new) ≡ record { closed = entries_of_recorder s; pending = None; last = g.last } =
    ap positions_in long.numbers ∙ gathered_more with_number (none_after 0) (numbers bytes) 0 ∙ positions_closed g.closed g.pending g.last some
    in
    let state : positions_state new ≡ all_closed s = ap (λ (h : Gathered). record { option = WithFreqsAndPositions; closed = h.closed; pending = h.pending }) read in
    let same = same_closed s in
    record {
      state = state;
      keeps = record {
        vints = long.vints;
        read = ap (λ (h : Gathered). h.last) read ∙ k.read;
        is_last = subst (IsLastDoc last) (sym state) (last_closed s last k.is_last);
        is_count = subst (IsCount count) (sym state) (count_closed s count k.is_count);
        located = subst (λ (t : RecorderState). AllByRecursion IsLocated (entries_of_recorder t)) (sym state) (subst (AllByRecursion IsLocated) (sym same) k.located);
        counted = subst (λ (t : RecorderState). AllByRecursion (λ (d : Entry). d.term_freq < 2 ^ 32) (entries_of_recorder t)) (sym state) (subst (AllByRecursion (λ (d : Entry). d.term_freq < 2 ^ 32)) (sym same) k.counted);
        pending = subst (λ (t : RecorderState). IfSome t.pending (λ d. (d.term_freq ≡ freq) × (last_position d.positions ≡ position))) (sym state) tt;
      };
    }
