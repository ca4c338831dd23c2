-- What a check of each term finds.
use Rattle.std.proofs.Common.{◌≡◌, ◌∙◌, ◌+◌, ◌-◌, ◌*◌, ◌/◌, ◌%◌, ◌<◌, ◌≤◌, ℕ, zero, suc, cond, Bool, true, false, ◌&&◌, List, [], ◌∷◌, length, drop, nat_le, nat_lt, Option, None, Some, Ok, Err, inl, inr, refl, sym, ap, subst, arith, add-one}
use Rattle.std.specs.Prelude.{◌↔◌, Result, IfSome, IsOk, ok_or, slice_get, slice_index_or, bytes_eq, if◌then◌else◌}
use Rattle.std.specs.List.{All, AllByRecursion, cons_option, enumerate_from, filter_map, list_all}
use Rattle.std.specs.List.Sorted.{IsStrictlySortedBy}
use Rattle.std.specs.Cmp.Lexicographic.{bytes_decides}
use Rattle.std.specs.Option.{option_map, option_or}
use Rattle.std.specs.Result.{result_err}
use Rattle.std.proofs.lemmas.Bool.{and_parts, lt-ltb, ltb-false, ltb-true}
use Rattle.std.proofs.lemmas.Cmp.{nat_list_eq_equiv}
use Rattle.std.proofs.lemmas.List.{drop_all, get_or_default}
use Rattle.ii_io.specs.StepLemmas.{needs-some, some-same, step-some}
use Rattle.ii_io.specs.Vints.{u64_at}
use Rattle.ii_io.specs.declared.faults.Fault.{Fault}
use Rattle.ii_io.specs.declared.faults.Fault.TheVariants.{Damaged}
use Rattle.ii_io.specs.declared.faults.Part.{Part}
use Rattle.ii_io.specs.declared.faults.Part.TheVariants.{Documents, Frequencies, Skip}
use Rattle.ii_io.specs.Parts.{◌>>=◌}
use Rattle.ii_base.specs.declared.schema.index_record_option.IndexRecordOption.{IndexRecordOption}
use Rattle.ii_base.specs.declared.schema.index_record_option.IndexRecordOption.TheVariants.{Basic, WithFreqs, WithFreqsAndPositions}
use Rattle.ii_base.specs.Options.{downgrade, has_freq, has_positions}
use Rattle.ii_base.specs.Entries.{Entry}
use Rattle.ii_layout.specs.SkipList.{SkipEntry, SkipList, entries_at, entry_size, skip_info_of, skip_list}
use Rattle.ii_layout.specs.Documents.{documents_at}
use Rattle.ii_layout.specs.Frequencies.{freqs_if, has_freqs}
use Rattle.ii_layout.specs.Postings.{Postings, postings}
use Rattle.ii_layout.specs.TermList.{docs_and_freqs}
use Rattle.ii_termstore.specs.declared.term_info.TermInfo.{TermInfo}
use Rattle.ii_termdict.specs.Dictionary.{TermEntry, entry_infos, entry_keys, info_under}
use Rattle.ii_termdict.specs.ReadBack.{AreAscending}
use Rattle.ii_termdict.specs.TermStreamer.{TermStreamerState}
use Rattle.ii_definitions.specs.Files.{bytes_in}
use Rattle.ii_check.specs.declared.validation.Validation.TheVariants.{Complete}
use Rattle.ii_reader.specs.declared.damage.DamagedTerm.{DamagedTerm}
use Rattle.ii_reader.specs.Damage.{damage_of, damage_of_field, damaged_term, first_damaged_field, first_damaged_term}
use Rattle.ii_reader.specs.InvertedIndexReader.{AllOpen, InvertedIndexReaderState, IsRefusal, OpensTerm, lies_in, ranges_lie, reads_positions, term_of_file}
use Rattle.ii_reader.specs.SegmentPostings.{SegmentPostingsState}
use Rattle.ii_reader.proofs.KnownLemmas.{docs_known, lie_known, postings_known, with_deltas}
use Rattle.ii_termdict.proofs.LeastKey.{none_above}

-- What opens with all that is recorded opens as far as less is requested.
bind_less : {A B C : Type 0} (found : Result A Part) (f : A → Result B Part) (g : A → Result C Part) → ((x : A) → found ≡ Ok x → IsOk (f x) → IsOk (g x)) → IsOk (found >>= f) → IsOk (found >>= g)
bind_less (Ok x) f g less known = less x refl known
bind_less (Err part) f g less known = absurd (cc)

ok_then : {A B : Type 0} (found : Result A Part) (f : A → B) → IsOk found → IsOk (found >>= λ (x : A). Ok (f x))
ok_then (Ok x) f known = refl
ok_then (Err part) f known = absurd (cc)

-- what comes after the skip list of a term, and after its documents
abbrev after_docs : IndexRecordOption → ℕ → SkipList → List ℕ × List ℕ → Result Postings Part
after_docs requested n skip found =
    ok_or (freqs_if (has_freq requested && has_freqs skip found.1) skip (n % 128) found.1) Frequencies >>= λ (freqs : Option (List ℕ)). Ok (record { skip = skip; docs = found.0; after = found.1; freqs = freqs })

abbrev after_skip : IndexRecordOption → ℕ → SkipList → Result Postings Part
after_skip requested n skip = ok_or (documents_at skip (n % 128)) Documents >>= after_docs requested n skip

-- counts that aren't requested aren't read
postings_basic : (recorded requested : IndexRecordOption) (n : ℕ) (bytes : List ℕ) → IsOk (postings recorded requested n bytes) → IsOk (postings recorded Basic n bytes)
postings_basic recorded requested n bytes known =
    bind_less (ok_or (skip_list recorded (n / 128) bytes) Skip) (after_skip requested n) (after_skip Basic n)
    (λ skip is. bind_less (ok_or (documents_at skip (n % 128)) Documents) (after_docs requested n skip) (after_docs Basic n skip) (λ found is there. refl)) known

-- nor are positions that aren't recorded: the entries don't hold them
basic_if : (t : Bool) → ◌≡◌ {A = IndexRecordOption} (if t then Basic else Basic) Basic
basic_if true = refl
basic_if false = refl

skip_basic : (blocks : ℕ) (bytes : List ℕ) (skip : SkipList) → skip_list Basic blocks bytes ≡ Some skip → skip.skip_info ≡ Basic
skip_basic zero bytes skip e = ap (λ (s : SkipList). s.skip_info) (sym (some-same e))
skip_basic (suc more) bytes skip e =
    let len = step-some (u64_at bytes) _ skip e in
    let info = skip_info_of Basic (suc more) len.0.0 in
    let whole = needs-some (nat_le len.0.0 (length len.0.1)) _ skip len.2 in
    let enough = needs-some (nat_le (entry_size info * suc more) len.0.0) _ skip whole.1 in
    let narrow = needs-some (list_all (λ (e : SkipEntry). nat_le e.tf_num_bits 32) (entries_at info (suc more) len.0.1)) _ skip enough.1 in
    ap (λ (s : SkipList). s.skip_info) (sym (some-same narrow.1)) ∙ basic_if (nat_lt len.0.0 (8 * suc more))

some_of : {A : Type 0} (o : Option A) (part : Part) (x : A) → ok_or o part ≡ Ok x → o ≡ Some x
some_of None part x is = absurd (cc)
some_of (Some y) part x is = cc

no_freqs : (requested : IndexRecordOption) (skip : SkipList) (after : List ℕ) → skip.skip_info ≡ Basic → (has_freq requested && has_freqs skip after) ≡ false
no_freqs Basic skip after basic = refl
no_freqs WithFreqs skip after basic = rw basic refl
no_freqs WithFreqsAndPositions skip after basic = rw basic refl

postings_uncounted : (requested : IndexRecordOption) (n : ℕ) (bytes : List ℕ) → IsOk (postings Basic Basic n bytes) → IsOk (postings Basic requested n bytes)
postings_uncounted requested n bytes known =
    let skips = ok_or (skip_list Basic (n / 128) bytes) Skip in
    bind_less skips (after_skip Basic n) (after_skip requested n)
    (λ skip is. bind_less (ok_or (documents_at skip (n % 128)) Documents) (after_docs Basic n skip) (after_docs requested n skip)
    (λ found is_2 there. let none = no_freqs requested skip found.1 (skip_basic (n / 128) bytes skip (some_of (skip_list Basic (n / 128) bytes) Skip skip is)) in rw none refl)) known

docs_by : (recorded requested other : IndexRecordOption) (n : ℕ) (bytes : List ℕ) → (IsOk (postings recorded requested n bytes) → IsOk (postings recorded other n bytes)) → IsOk (docs_and_freqs recorded requested n bytes) → IsOk (docs_and_freqs recorded other n bytes)
docs_by recorded requested other n bytes less known = ok_then (postings recorded other n bytes) (λ (p : Postings). (p.docs, p.freqs)) (less (postings_known recorded requested n bytes known))

docs_less : (recorded requested : IndexRecordOption) (n : ℕ) (bytes : List ℕ) → IsOk (docs_and_freqs recorded recorded n bytes) → IsOk (docs_and_freqs recorded requested n bytes)
docs_less Basic requested n bytes known = docs_by Basic Basic requested n bytes (postings_uncounted requested n bytes) known
docs_less WithFreqs Basic n bytes known = docs_by WithFreqs WithFreqs Basic n bytes (postings_basic WithFreqs WithFreqs n bytes) known
docs_less WithFreqs WithFreqs n bytes known = known
docs_less WithFreqs WithFreqsAndPositions n bytes known = known
docs_less WithFreqsAndPositions Basic n bytes known = docs_by WithFreqsAndPositions WithFreqsAndPositions Basic n bytes (postings_basic WithFreqsAndPositions WithFreqsAndPositions n bytes) known
docs_less WithFreqsAndPositions WithFreqs n bytes known = known
docs_less WithFreqsAndPositions WithFreqsAndPositions n bytes known = known

plain_list : (found : Result (List ℕ × Option (List ℕ)) Part) (positions : Option (List ℕ)) → IsOk found → IsOk (found >>= with_deltas false positions)
plain_list (Ok read) positions known = refl
plain_list (Err part) positions known = absurd (cc)

-- A term opens as far as it is requested.
abbrev Opens : InvertedIndexReaderState → IndexRecordOption → TermInfo → Type 0
Opens reader requested info = IsOk (term_of_file reader requested info)

-- where no positions are read
open_plain : (reader : InvertedIndexReaderState) (requested : IndexRecordOption) (info : TermInfo) → reads_positions reader requested ≡ false → Opens reader reader.option info → Opens reader requested info
open_plain reader requested info plain known =
    let lie = lie_known (ranges_lie reader reader.option info) _ known in
    let postings = and_parts (lies_in reader.postings info.postings_range) _ lie.0 in
    let bytes = bytes_in reader.postings info.postings_range in
    let positions = Some (bytes_in reader.positions info.positions_range) in
    rw (postings.0, plain) (plain_list (docs_and_freqs reader.option requested info.doc_freq bytes) positions (docs_less reader.option requested info.doc_freq bytes (docs_known reader.option reader.option info.doc_freq bytes positions lie.1)))

-- positions are read where all is requested
all_requested : (recorded requested : IndexRecordOption) → has_positions (downgrade recorded requested) ≡ true → recorded ≡ requested
all_requested Basic requested reads = absurd (cc)
all_requested WithFreqs Basic reads = absurd (cc)
all_requested WithFreqs WithFreqs reads = refl
all_requested WithFreqs WithFreqsAndPositions reads = absurd (cc)
all_requested WithFreqsAndPositions Basic reads = absurd (cc)
all_requested WithFreqsAndPositions WithFreqs reads = absurd (cc)
all_requested WithFreqsAndPositions WithFreqsAndPositions reads = refl

opens_by : (reader : InvertedIndexReaderState) (requested : IndexRecordOption) (info : TermInfo) (t : Bool) → reads_positions reader requested ≡ t → Opens reader reader.option info → Opens reader requested info
opens_by reader requested info false plain known = open_plain reader requested info plain known
opens_by reader requested info true reads known = subst (λ (o : IndexRecordOption). Opens reader o info) (all_requested reader.option requested reads) known

opens_as_requested : (reader : InvertedIndexReaderState) (requested : IndexRecordOption) (info : TermInfo) → Opens reader reader.option info → Opens reader requested info
opens_as_requested reader requested info known = opens_by reader requested info (reads_positions reader requested) refl known

-- the first damaged one of terms that begin at a place
abbrev pub first_from : InvertedIndexReaderState → ℕ → List TermEntry → Option DamagedTerm
first_from reader ord entries = slice_get (filter_map (damage_of reader) (enumerate_from ord entries)) 0

first_cons : {A : Type 0} (o : Option A) (xs : List A) → slice_get (cons_option o xs) 0 ≡ option_or o (slice_get xs 0)
first_cons None xs = refl
first_cons (Some x) xs = refl

-- it is the first of them, or else that of those after it
first_step : (reader : InvertedIndexReaderState) (ord : ℕ) (e : TermEntry) (es : List TermEntry) (found : Result (List Entry) Part) → term_of_file reader reader.option e.1 ≡ found
    → first_from reader ord (e ∷ es) ≡ option_or (option_map (damaged_term ord) (result_err found)) (first_from reader (ord + 1) es)
first_step reader ord e es found is = rw is (first_cons (option_map (damaged_term ord) (result_err found)) (filter_map (damage_of reader) (enumerate_from (ord + 1) es)))

-- terms none of which is damaged open, and those that open aren't damaged
step_none : (reader : InvertedIndexReaderState) (ord : ℕ) (info : TermInfo) (others : Option DamagedTerm) (found : Result (List Entry) Part) → term_of_file reader reader.option info ≡ found → option_or (option_map (damaged_term ord) (result_err found)) others ≡ None
    → Opens reader reader.option info × (others ≡ None)
step_none reader ord info others (Ok es) is none = (rw is refl, none)
step_none reader ord info others (Err part) is none = absurd (cc)

none_damaged : (reader : InvertedIndexReaderState) (ord : ℕ) (entries : List TermEntry) → first_from reader ord entries ≡ None → AllByRecursion (λ (e : TermEntry). Opens reader reader.option e.1) entries
none_damaged reader ord [] none = tt
none_damaged reader ord (e ∷ es) none =
    let found = term_of_file reader reader.option e.1 in
    let here = step_none reader ord e.1 (first_from reader (ord + 1) es) found refl (sym (first_step reader ord e es found refl) ∙ none) in
    (here.0, none_damaged reader (ord + 1) es here.1)

not_ok : {A : Type 0} (found : Result A Part) (part : Part) → found ≡ Err part → IsOk found → ⊥
not_ok (Ok x) part is known = cc
not_ok (Err other) part is known = cc

step_open : (reader : InvertedIndexReaderState) (ord : ℕ) (info : TermInfo) (others : Option DamagedTerm) (found : Result (List Entry) Part) → term_of_file reader reader.option info ≡ found → Opens reader reader.option info → others ≡ None
    → option_or (option_map (damaged_term ord) (result_err found)) others ≡ None
step_open reader ord info others (Ok es) is opens none = none
step_open reader ord info others (Err part) is opens none = absurd (not_ok (term_of_file reader reader.option info) part is opens)

all_opened : (reader : InvertedIndexReaderState) (ord : ℕ) (entries : List TermEntry) → AllByRecursion (λ (e : TermEntry). Opens reader reader.option e.1) entries → first_from reader ord entries ≡ None
all_opened reader ord [] opens = refl
all_opened reader ord (e ∷ es) opens =
    let found = term_of_file reader reader.option e.1 in
    first_step reader ord e es found refl ∙ step_open reader ord e.1 (first_from reader (ord + 1) es) found refl opens.0 (all_opened reader (ord + 1) es opens.1)

-- what holds for each term holds for the one that a lookup finds, and conversely if keys ascend
under : (P : TermInfo → Type 0) (entries : List TermEntry) (key : List ℕ) → AllByRecursion (λ (e : TermEntry). P e.1) entries → IfSome (info_under key entries) P
under P [] key all = tt
under P (e ∷ es) key all = by_test (bytes_eq key e.0) (under P es key all.1)
  where
    by_test : (t : Bool) → IfSome (info_under key es) P → IfSome (cond t (Some e.1) (info_under key es)) P
    by_test true others = all.0
    by_test false others = others

each_by_key : (P : TermInfo → Type 0) (entries : List TermEntry) → AreAscending (entry_keys entries) → ((key : List ℕ) → IfSome (info_under key entries) P) → AllByRecursion (λ (e : TermEntry). P e.1) entries
unfolding IsStrictlySortedBy
each_by_key P [] ascending known = tt
each_by_key P (e ∷ es) ascending known =
    let same : bytes_eq e.0 e.0 ≡ true = nat_list_eq_equiv.refl e.0 in
    let here : IfSome (cond (bytes_eq e.0 e.0) (Some e.1) (info_under e.0 es)) P = known e.0 in
    (rw same at here, each_by_key P es ascending.1 (λ key. later key (bytes_eq key e.0) refl))
  where
    later : (key : List ℕ) (t : Bool) → bytes_eq key e.0 ≡ t → IfSome (info_under key es) P
    later key true is =
        let here : key ≡ e.0 = (bytes_decides key e.0).0 is in
        rw (here, none_above e.0 es ascending.0) tt
    later key false other =
        let there : IfSome (cond (bytes_eq key e.0) (Some e.1) (info_under key es)) P = known key in
        rw other at there

by_less : (reader : InvertedIndexReaderState) (requested : IndexRecordOption) (o : Option TermInfo) → IfSome o (Opens reader reader.option) → IfSome o (Opens reader requested)
by_less reader requested None known = tt
by_less reader requested (Some info) known = opens_as_requested reader requested info known

-- a reader has no damaged term exactly where each of its terms opens
pub open_exactly : (reader : InvertedIndexReaderState) (damage : Option DamagedTerm) → AreAscending (entry_keys reader.terms) → damage ≡ first_damaged_term reader → (damage ≡ None) ↔ AllOpen reader
open_exactly reader damage ascending is = (
  λ none key requested. by_less reader requested (info_under key reader.terms) (under (Opens reader reader.option) reader.terms key (none_damaged reader 0 reader.terms (sym is ∙ none))),
  λ all. is ∙ all_opened reader 0 reader.terms (each_by_key (Opens reader reader.option) reader.terms ascending (λ key. all key reader.option)),
)

-- Terms up to a place were passed, none of which is damaged.
pub record IsChecking (reader : InvertedIndexReaderState) (terms : TermStreamerState) (ord : ℕ) : Type 0 where
  pub terms_are : terms ≡ record { entries = reader.terms; passed = ord }
  pub left : first_damaged_term reader ≡ first_from reader ord (drop ord reader.terms)

-- the term at a place
term_at : (entries : List TermEntry) (ord : ℕ) (info : TermInfo) → slice_get (entry_infos entries) ord ≡ Some info → (e : TermEntry) × (e.1 ≡ info) × (drop ord entries ≡ e ∷ drop (suc ord) entries)
term_at [] ord info is = absurd (cc)
term_at (e ∷ es) zero info is = (e, some-same is, refl)
term_at (e ∷ es) (suc ord) info is = term_at es ord info is

step_at : (reader : InvertedIndexReaderState) (terms : TermStreamerState) (ord : ℕ) (info : TermInfo) (found : Result (List Entry) Part) → IsChecking reader terms ord → slice_get (entry_infos reader.terms) ord ≡ Some info → term_of_file reader reader.option info ≡ found
    → first_damaged_term reader ≡ option_or (option_map (damaged_term ord) (result_err found)) (first_from reader (ord + 1) (drop (ord + 1) reader.terms))
step_at reader terms ord info found checking at is =
    let (e, info_is, rest) = term_at reader.terms ord info at in
    let here : term_of_file reader reader.option e.1 ≡ found = rw info_is is in
    checking.left ∙ ap (first_from reader ord) rest ∙ first_step reader ord e (drop (suc ord) reader.terms) found here
    ∙ ap (λ (n : ℕ). option_or (option_map (damaged_term ord) (result_err found)) (first_from reader (ord + 1) (drop n reader.terms))) (sym (add-one ord))

pub checking_first : (reader : InvertedIndexReaderState) (terms : TermStreamerState) → terms ≡ record { entries = reader.terms; passed = 0 } → IsChecking reader terms 0
checking_first reader terms is = record { terms_are = is; left = refl }

-- the streamer after one more term
pub passed_on : (reader : InvertedIndexReaderState) (terms now : TermStreamerState) (t : Bool) (ord : ℕ) → ord < length reader.terms → IsChecking reader terms ord → t ≡ nat_lt terms.passed (length terms.entries) → now ≡ record terms { passed = if t then terms.passed + 1 else terms.passed }
    → now ≡ record { entries = reader.terms; passed = ord + 1 }
passed_on reader terms now t ord low checking t_is now_is =
    let found : t ≡ true = rw checking.terms_are at t_is ∙ lt-ltb ord (length reader.terms) low in
    now_is ∙ rw (found, checking.terms_are) refl

read_at : (reader : InvertedIndexReaderState) (terms : TermStreamerState) (ord : ℕ) (info : TermInfo) → terms ≡ record { entries = reader.terms; passed = ord + 1 } → slice_get (entry_infos terms.entries) (terms.passed - 1) ≡ Some info → slice_get (entry_infos reader.terms) ord ≡ Some info
read_at reader terms ord info is at =
    let same : ord + 1 - 1 ≡ ord = omega arith in
    let there : slice_get (entry_infos reader.terms) (ord + 1 - 1) ≡ Some info = rw is at at in
    ap (slice_get (entry_infos reader.terms)) (sym same) ∙ there

-- the next term opens
pub checking_next : (reader : InvertedIndexReaderState) (option : IndexRecordOption) (terms now : TermStreamerState) (ord : ℕ) (info : TermInfo) (cursor : SegmentPostingsState) → option ≡ reader.option → IsChecking reader terms ord
    → now ≡ record { entries = reader.terms; passed = ord + 1 } → slice_get (entry_infos now.entries) (now.passed - 1) ≡ Some info → OpensTerm Complete reader option info cursor → IsChecking reader now (ord + 1)
checking_next reader option terms now ord info cursor option_is checking now_is at opens =
    let found : term_of_file reader reader.option info ≡ Ok cursor.rest = ap (λ (o : IndexRecordOption). term_of_file reader o info) (sym option_is) ∙ opens.list in
    record { terms_are = now_is; left = step_at reader terms ord info (Ok cursor.rest) checking (read_at reader now ord info now_is at) found }

-- or it is the first that is damaged
pub checking_stops : (reader : InvertedIndexReaderState) (option : IndexRecordOption) (terms now : TermStreamerState) (ord : ℕ) (info : TermInfo) (fault : Fault) (part : Part) → option ≡ reader.option → IsChecking reader terms ord
    → now ≡ record { entries = reader.terms; passed = ord + 1 } → slice_get (entry_infos now.entries) (now.passed - 1) ≡ Some info → fault ≡ Damaged part → IsRefusal (term_of_file reader option info) fault → Some (damaged_term ord part) ≡ first_damaged_term reader
checking_stops reader option terms now ord info fault part option_is checking now_is at damaged (inl memory) = absurd (cc)
checking_stops reader option terms now ord info fault part option_is checking now_is at damaged (inr (other, same, err)) =
    let part_is : part ≡ other = cc in
    let found : term_of_file reader reader.option info ≡ Err other = ap (λ (o : IndexRecordOption). term_of_file reader o info) (sym option_is) ∙ err in
    ap (λ (p : Part). Some (damaged_term ord p)) part_is ∙ sym (step_at reader terms ord info (Err other) checking (read_at reader now ord info now_is at) found)

pub checking_ends : (reader : InvertedIndexReaderState) (terms : TermStreamerState) (ord : ℕ) → length reader.terms ≤ ord → IsChecking reader terms ord → None ≡ first_damaged_term reader
checking_ends reader terms ord end checking = sym (checking.left ∙ ap (first_from reader ord) (drop_all ord reader.terms end))

-- the first field with a damaged term, of fields that begin at a number
abbrev pub first_field_from : ℕ → List InvertedIndexReaderState → Option (ℕ × DamagedTerm)
first_field_from field readers = slice_get (filter_map damage_of_field (enumerate_from field readers)) 0

-- Fields up to a number were passed, none of which has a damaged term.
pub record AreChecked (readers : List InvertedIndexReaderState) (field : ℕ) : Type 0 where
  pub left : first_damaged_field readers ≡ first_field_from field (drop field readers)
  pub opens : (k : ℕ) (d : InvertedIndexReaderState) → k < field → k < length readers → AllOpen (slice_index_or readers k d)

pub checked_none : (readers : List InvertedIndexReaderState) → AreChecked readers 0
checked_none readers = record { left = refl; opens = λ k d low within. absurd (omega (arith, low)) }

-- the field at a number
field_at : (readers : List InvertedIndexReaderState) (field : ℕ) (d : InvertedIndexReaderState) → field < length readers → drop field readers ≡ slice_index_or readers field d ∷ drop (suc field) readers
field_at [] field d within = absurd (omega arith)
field_at (r ∷ rs) zero d within = refl
field_at (r ∷ rs) (suc field) d within = field_at rs field d (omega arith)

field_step : (readers : List InvertedIndexReaderState) (field : ℕ) (d : InvertedIndexReaderState) (damage : Option DamagedTerm) → AreChecked readers field → field < length readers → damage ≡ first_damaged_term (slice_index_or readers field d)
    → first_damaged_field readers ≡ option_or (option_map (λ (term : DamagedTerm). (field, term)) damage) (first_field_from (field + 1) (drop (field + 1) readers))
field_step readers field d damage checked within is =
    let others = filter_map damage_of_field (enumerate_from (field + 1) (drop (suc field) readers)) in
    checked.left ∙ ap (first_field_from field) (field_at readers field d within) ∙ rw (← is) (first_cons (option_map (λ (term : DamagedTerm). (field, term)) damage) others)
    ∙ ap (λ (n : ℕ). option_or (option_map (λ (term : DamagedTerm). (field, term)) damage) (first_field_from (field + 1) (drop n readers))) (sym (add-one field))

pub checked_next : (readers : List InvertedIndexReaderState) (field : ℕ) (d : InvertedIndexReaderState) → AreChecked readers field → field < length readers → None ≡ first_damaged_term (slice_index_or readers field d) → AllOpen (slice_index_or readers field d) → AreChecked readers (field + 1)
checked_next readers field d checked within is opens = record {
  left = field_step readers field d None checked within is;
  opens = λ k e low inside. by_case k e (nat_lt k field) refl low inside;
}
  where
    by_case : (k : ℕ) (e : InvertedIndexReaderState) (t : Bool) → nat_lt k field ≡ t → k < field + 1 → k < length readers → AllOpen (slice_index_or readers k e)
    by_case k e true before low inside = checked.opens k e (ltb-true k field before) inside
    by_case k e false last low inside =
        let same : k ≡ field = (let past = ltb-false k field last in omega (arith, past, low)) in
        rw (same, get_or_default readers field e d within) opens

pub checked_stops : (readers : List InvertedIndexReaderState) (field : ℕ) (d : InvertedIndexReaderState) (term : DamagedTerm) → AreChecked readers field → field < length readers → Some term ≡ first_damaged_term (slice_index_or readers field d)
    → Some (field, term) ≡ first_damaged_field readers
checked_stops readers field d term checked within is = sym (field_step readers field d (Some term) checked within is)

pub checked_all : (readers : List InvertedIndexReaderState) (field : ℕ) → length readers ≤ field → AreChecked readers field → None ≡ first_damaged_field readers
checked_all readers field end checked = sym (checked.left ∙ ap (first_field_from field) (drop_all field readers end))

pub all_checked : (readers : List InvertedIndexReaderState) (field : ℕ) → length readers ≤ field → AreChecked readers field → All AllOpen readers
all_checked readers field end checked k d within = checked.opens k d (omega (arith, end, within)) within
