-- What a frame at the front of bytes is, and which bytes spell one.
use Rattle.std.proofs.Common.{◌≡◌, ℕ, ◌+◌, ◌*◌, ◌<◌, ◌≤◌, Bool, true, false, cond, ltb, List, [], ◌∷◌, ◌++◌, length, get_or, take, drop, Option, Some, None, Result, Ok, Err, refl, sym, ap, subst, ◌∙◌, append_assoc, arith}
use Rattle.std.specs.Prelude.{fold}
use Rattle.std.specs.FinMap as map
use Rattle.std.specs.FinSet as set
use Rattle.std.specs.List.{AllByRecursion, flat_map}
use Rattle.std.specs.Int.{w32, from_be_bytes, to_be_bytes}
use Rattle.std.specs.declared.cmp.Ordering.{Ordering}
use Rattle.std.specs.declared.cmp.Ordering.TheVariants.{Less, Greater}
use Rattle.std.specs.Ordering.{is_lt}
use Rattle.std.specs.Cmp.{IsTotalOrder}
use Rattle.std.specs.FinMap.Entries.{below_all, find, put}
use Rattle.std.proofs.lemmas.Bool.{and_parts, ltb-false, le-ltb}
use Rattle.std.proofs.lemmas.List.{append-nil, nil_from_length, length-append, length-take, take-append-drop, take_at}
use Rattle.dots.specs.declared.call_totals.CallTotals.{CallTotals}
use Rattle.dots.specs.DotSets.{IsRunsOf, Run}
use Rattle.dots.specs.Orders.{dot_cmp}
use Rattle.general_lemmas.specs.SortedEntries.{IsRising}
use Rattle.dots.specs.CountedCalls.{is_zero, no_calls}
use Rattle.operations.specs.Totals.{Entries, IsTotal, greater, key_cmp}
use Rattle.dots.proofs.DotOrder.{dots_exact, dots_total}
use Rattle.general_lemmas.proofs.SortedEntries.{less_back, rising_head, rising_tail}
use Rattle.operations.proofs.TotalsLaws.{entries_empty, joined_single, keys_total, same_totals, zero_greater}
use Rattle.dots.proofs.UniqueRuns.{runs_unique}
use Rattle.general_lemmas.proofs.TruthTables.{less_of}
use Rattle.std.specs.Option.{unwrap_or}
use Rattle.std.proofs.lemmas.Bool.Decides.{nat_tests}
use Rattle.delta_codec.proofs.ListLaws.{by_recursion}
use Rattle.delta_codec.proofs.Measuring.{content_size}
use Rattle.dots.specs.declared.label.Label.{Label}
use Rattle.operations.specs.Registers.{Entry}
use Rattle.dots.specs.Values.{Dot, IsPenalty, PauseState}
use Rattle.dots.specs.WithinLimits.{IsLabel, IsPause}
use Rattle.member_orset.specs.Members.{Holding, condition_at}
use Rattle.delta_codec.specs.declared.decode_fault.DecodeFault.{DecodeFault}
use Rattle.delta_codec.specs.declared.decode_fault.DecodeFault.TheVariants.{BadRange, TooLarge, Truncated}
use Rattle.delta.specs.declared.frame.Frame.{Frame}
use Rattle.delta_codec.specs.declared.limits.TheConstants.{LEAST_LENGTH, MOST_LENGTH}
use Rattle.delta.specs.Frames.{IsSameFrame}
use Rattle.delta_codec.specs.Decoding.{frame_kept}
use Rattle.delta_codec.specs.Frames.{AreParts, FrameParts, Spells, SpellsIn, content_bytes, frame_bytes}
use Rattle.delta_codec.specs.Measures.{most_cell, most_field, most_label, most_pause, most_penalty, most_ring}
use Rattle.delta_codec.specs.Parts.{CellParts, IsCell, IsField, IsRing, TotalParts, cell_bytes, field_bytes, fields_bytes, label_bytes, pause_bytes, penalty_bytes, ring_bytes, text_bytes}
use Rattle.delta_codec.specs.Reading.{◌>>=◌, Kept, content_in, kept_at, kept_in, known_of, live_of, number_at, totals_of, with_cell, with_total, within_at}
use Rattle.delta_codec.proofs.ContentLaws.{contains_known_of, content_read, content_spelled, kept_of, kept_of_read, read_of_kept}
use Rattle.delta_codec.proofs.PartLaws.{IsBytes, IsBytes_take, bind_ok, number4_reads, ok_is}

-- ---- the length

guarded : {A : Type 0} (b : Bool) (d : DecodeFault) (r : Result A DecodeFault) (y : A) → cond b (Err d) r ≡ Ok y → (b ≡ false) × (r ≡ Ok y)
guarded true d r y e = absurd cc
guarded false d r y e = (refl, e)

-- what stands behind a length at the front of bytes
pub record IsFront (bytes content : List ℕ) : Type 0 where
  pub rest : List ℕ
  pub parts : bytes ≡ (to_be_bytes w32 (length content) ++ content) ++ rest
  pub least : LEAST_LENGTH ≤ length content
  pub most : length content ≤ MOST_LENGTH
  pub fits : IsBytes content

abbrev read4 : List ℕ → ℕ
read4 bytes = from_be_bytes w32 (take 4 bytes)

number_front : (bytes : List ℕ) → ltb (length bytes) 4 ≡ false → number_at w32 bytes ≡ Ok (read4 bytes, drop 4 bytes)
number_front bytes h = rw h refl

pub content_found : (bytes content : List ℕ) → IsBytes bytes → content_in bytes ≡ Ok content → IsFront bytes content
unfolding content_in within_at
content_found bytes content fits e =
    let rest = drop 4 bytes in
    let n : ℕ = read4 bytes in
    let a = guarded (ltb (length bytes) 4) Truncated (within_at n rest) content e in
    let b = guarded (ltb MOST_LENGTH n) TooLarge (cond (ltb n LEAST_LENGTH) (Err BadRange) (cond (ltb (length rest) n) (Err Truncated) (Ok (take n rest)))) content a.1 in
    let c = guarded (ltb n LEAST_LENGTH) BadRange (cond (ltb (length rest) n) (Err Truncated) (Ok (take n rest))) content b.1 in
    let d = guarded (ltb (length rest) n) Truncated (Ok (take n rest)) content c.1 in
    let t = number4_reads.takes bytes n rest fits (number_front bytes a.0) in
    let few : n ≤ MOST_LENGTH = ltb-false _ _ b.0 in
    let enough : LEAST_LENGTH ≤ n = ltb-false _ _ c.0 in
    let there : n ≤ length rest = ltb-false _ _ d.0 in
    let len : length (take n rest) ≡ n = omega (arith, length-take n rest, there) in
    subst (λ (x : List ℕ). IsFront bytes x) (ok_is (take n rest) content d.1) (record {
      rest = drop n rest;
      parts = t.parts ∙ ap (λ (x : List ℕ). to_be_bytes w32 n ++ x) (sym (take-append-drop n rest)) ∙ sym (append_assoc (to_be_bytes w32 n) (take n rest) (drop n rest)) ∙ ap (λ (k : ℕ). (to_be_bytes w32 k ++ take n rest) ++ drop n rest) (sym len);
      least = omega (arith, len, enough);
      most = omega (arith, len, few);
      fits = IsBytes_take n rest t.rest_fits;
    })

pub content_again : (content rest : List ℕ) → LEAST_LENGTH ≤ length content → length content ≤ MOST_LENGTH → content_in ((to_be_bytes w32 (length content) ++ content) ++ rest) ≡ Ok content
unfolding content_in within_at
content_again content rest least most =
    let n : ℕ = length content in
    let all : List ℕ = to_be_bytes w32 n ++ (content ++ rest) in
    let regrouped : (to_be_bytes w32 n ++ content) ++ rest ≡ all = append_assoc (to_be_bytes w32 n) content rest in
    let long : ltb (length all) 4 ≡ false = le-ltb _ _ (omega (arith, length-append (to_be_bytes w32 n) (content ++ rest))) in
    let one : number_at w32 all ≡ Ok (n, content ++ rest) = number4_reads.again n (content ++ rest) (omega (arith, most)) in
    let front = ok_is (read4 all, drop 4 all) (n, content ++ rest) (sym (number_front all long) ∙ one) in
    let n_is : read4 all ≡ n = ap (λ (p : ℕ × List ℕ). p.0) front in
    let rest_is : drop 4 all ≡ content ++ rest = ap (λ (p : ℕ × List ℕ). p.1) front in
    let b : ltb MOST_LENGTH n ≡ false = le-ltb _ _ most in
    let c : ltb n LEAST_LENGTH ≡ false = le-ltb _ _ least in
    let d : ltb (length (content ++ rest)) n ≡ false = le-ltb _ _ (omega (arith, length-append content rest)) in
    let last : within_at n (content ++ rest) ≡ Ok content = rw (b, c, d) (ap (λ (x : List ℕ). let z : Result (List ℕ) DecodeFault = Ok x in z) (take_at content rest n refl)) in
    ap content_in regrouped ∙ rw long (ap (λ (p : ℕ × List ℕ). within_at p.0 p.1) front ∙ last)

-- ---- entries, one behind the other

module _ {K V : Type 0} (R : K → K → Ordering) (total : IsTotalOrder R) where
  put_last : (es : List (K × V)) (k : K) (v : V) (rest : List (K × V)) → IsRising R (es ++ (k, v) ∷ rest) → put R k v es ≡ es ++ (k, v) ∷ []
  put_last [] k v rest h = refl
  put_last (e ∷ es) k v rest h =
      let tail = put_last es k v rest (rising_tail R total e (es ++ (k, v) ∷ rest) h) in
      let below = rising_head R total e (es ++ (k, v) ∷ rest) h in
      let greater : R k e.0 ≡ Greater = less_back R total e.0 k (below_last e.0 es k v rest below) in
      rw greater (ap (λ (x : List (K × V)). e ∷ x) tail)
    where
      below_last : (a : K) (xs : List (K × V)) (k : K) (v : V) (rest : List (K × V)) → below_all R a (xs ++ (k, v) ∷ rest) ≡ true → R a k ≡ Less
      below_last a [] k v rest h = less_of (R a k) (and_parts (is_lt (R a k)) (below_all R a rest) h).0
      below_last a (x ∷ xs) k v rest h = below_last a xs k v rest (and_parts (is_lt (R a x.0)) (below_all R a (xs ++ (k, v) ∷ rest)) h).1

  find_last : (es : List (K × V)) (k : K) (v : V) (rest : List (K × V)) → IsRising R (es ++ (k, v) ∷ rest) → find R k es ≡ None
  find_last [] k v rest h = refl
  find_last (e ∷ es) k v rest h =
      let tail = find_last es k v rest (rising_tail R total e (es ++ (k, v) ∷ rest) h) in
      let below = rising_head R total e (es ++ (k, v) ∷ rest) h in
      let greater : R k e.0 ≡ Greater = less_back R total e.0 k (below_end e.0 es k v rest below) in
      rw greater tail
    where
      below_end : (a : K) (xs : List (K × V)) (k : K) (v : V) (rest : List (K × V)) → below_all R a (xs ++ (k, v) ∷ rest) ≡ true → R a k ≡ Less
      below_end a [] k v rest h = less_of (R a k) (and_parts (is_lt (R a k)) (below_all R a rest) h).0
      below_end a (x ∷ xs) k v rest h = below_end a xs k v rest (and_parts (is_lt (R a x.0)) (below_all R a (xs ++ (k, v) ∷ rest)) h).1

  insert_last : (m : map.FinMap R V) (front : List (K × V)) (x : K × V) (rest : List (K × V)) → map.entries m ≡ front → IsRising R (front ++ x ∷ rest) → map.entries (map.insert m x.0 x.1) ≡ front ++ x ∷ []
  insert_last m front x rest e h = map.entries-insert total m x.0 x.1 ∙ ap (put R x.0 x.1) e ∙ put_last front x.0 x.1 rest h

-- the cells of a frame are the entries of what is live
live_from : (m : map.FinMap dot_cmp Holding) (front rest : List CellParts) → map.entries m ≡ front → IsRising dot_cmp (front ++ rest) → map.entries (fold with_cell m rest) ≡ front ++ rest
live_from m front [] e h = e ∙ sym (append-nil front)
live_from m front (x ∷ rest) e h =
    live_from (with_cell m x) (front ++ x ∷ []) rest (insert_last dot_cmp dots_total m front x rest e h) (subst (λ (xs : List CellParts). IsRising dot_cmp xs) (sym (append_assoc front (x ∷ []) rest)) h) ∙ append_assoc front (x ∷ []) rest

no_cells : map.entries (map.empty {X = Holding} {R = dot_cmp}) ≡ []
no_cells = nil_from_length _ (sym (map.len-entries map.empty) ∙ map.len-empty dot_cmp Holding)

pub live_entries : (cells : List CellParts) → IsRising dot_cmp cells → map.entries (live_of cells) ≡ cells
live_entries cells h = live_from map.empty [] cells no_cells h

-- the totals of a frame are the entries of its counts
total_last : (m : Entries) (front : List TotalParts) (x : TotalParts) (rest : List TotalParts) → map.entries m ≡ front → IsRising key_cmp (front ++ x ∷ rest) → is_zero x.1 ≡ false → with_total m x ≡ map.insert m x.0 x.1
total_last m front x rest e h some =
    let none : map.get m x.0 ≡ None = map.get-entries m x.0 ∙ ap (find key_cmp x.0) e ∙ find_last key_cmp keys_total front x.0 x.1 rest h in
    joined_single m x.0 x.1 some ∙ ap (λ (o : Option CallTotals). map.insert m x.0 (greater (unwrap_or o no_calls) x.1)) none ∙ ap (map.insert m x.0) (zero_greater x.1)

totals_from : (m : Entries) (front rest : List TotalParts) → map.entries m ≡ front → IsRising key_cmp (front ++ rest) → AllByRecursion (λ t. is_zero t.1 ≡ false) rest → map.entries (fold with_total m rest) ≡ front ++ rest
totals_from m front [] e h some = e ∙ sym (append-nil front)
totals_from m front (x ∷ rest) e h some =
    totals_from (with_total m x) (front ++ x ∷ []) rest (ap map.entries (total_last m front x rest e h some.0) ∙ insert_last key_cmp keys_total m front x rest e h) (subst (λ (xs : List TotalParts). IsRising key_cmp xs) (sym (append_assoc front (x ∷ []) rest)) h) some.1 ∙ append_assoc front (x ∷ []) rest

some_counted : (t : CallTotals) → 0 < t.completed + t.abandoned → is_zero t ≡ false
some_counted t h = grind (arith, nat_tests)

counted_all : (xs : List TotalParts) → AllByRecursion (λ t. IsTotal t.0 t.1) xs → AllByRecursion (λ t. is_zero t.1 ≡ false) xs
counted_all [] h = tt
counted_all (x ∷ xs) h = (some_counted x.1 h.0.counted, counted_all xs h.1)

pub totals_entries : (totals : List TotalParts) → IsRising key_cmp totals → AllByRecursion (λ t. IsTotal t.0 t.1) totals → map.entries (totals_of totals) ≡ totals
totals_entries totals h good = totals_from map.empty [] totals entries_empty h (counted_all totals good)

-- ---- a frame

pub record IsFrontOf (bytes : List ℕ) (frame : Frame) (n : ℕ) : Type 0 where
  pub there : n ≤ length bytes
  pub spells : Spells frame (take n bytes)

pub frame_spelled : (bytes : List ℕ) (frame : Frame) (n : ℕ) → IsBytes bytes → kept_in bytes ≡ Ok (frame_kept frame, n) → IsFrontOf bytes frame n
unfolding kept_in
frame_spelled bytes frame n fits e =
    let found : Kept × ℕ = (frame_kept frame, n) in
    let a = bind_ok (content_in bytes) (λ content. kept_at content >>= λ k. Ok (k, 4 + length content)) found e in
    let b = bind_ok (kept_at a.0) (λ k. Ok (k, 4 + length a.0)) found a.2 in
    let f = content_found bytes a.0 fits a.1 in
    let p = read_of_kept a.0 b.0 f.fits b.1 in
    let w = content_spelled a.0 p.parts f.fits p.read in
    let read : Kept × ℕ = (b.0, 4 + length a.0) in
    let eq = ok_is read found b.2 in
    let same : kept_of p.parts ≡ frame_kept frame = p.same ∙ ap (λ (x : Kept × ℕ). x.0) eq in
    let n_is : 4 + length a.0 ≡ n = ap (λ (x : Kept × ℕ). x.1) eq in
    let front : List ℕ = to_be_bytes w32 (length a.0) ++ a.0 in
    let len : length front ≡ n = omega (arith, n_is) in
    record {
      there = let all : length bytes ≡ length front + length f.rest = ap length f.parts ∙ length-append front f.rest in omega (arith, all, len);
      spells = record {
        parts = p.parts;
        of_frame = record {
          maker = ap (λ (k : Kept). k.0.maker) same;
          number = ap (λ (k : Kept). k.0.number) same;
          runs = record { apart = w.0.runs.order; same = λ d. ap (λ (k : Kept). set.contains k.1.0 d) (sym same) ∙ contains_known_of p.parts.runs d };
          cells = sym (ap (λ (k : Kept). map.entries k.1.1.0) (sym same) ∙ live_entries p.parts.cells w.0.cells.listed.order);
          totals = sym (ap (λ (k : Kept). map.entries k.1.1.1) (sym same) ∙ totals_entries p.parts.totals w.0.totals.order (by_recursion (λ t. IsTotal t.0 t.1) p.parts.totals w.0.totals.each));
        };
        within = w.0;
        spelled = ap (take n) f.parts ∙ take_at front f.rest n len ∙ ap (λ (x : List ℕ). to_be_bytes w32 (length x) ++ x) w.1;
      };
    }

-- ---- the length of what stands behind the length

field_length : {T : Type 0} (IsValue : T → Type 0) (value : T → List ℕ) (most : ℕ) → ((x : T) → IsValue x → length (value x) ≤ most) → (field : Option (Entry T)) → IsField IsValue field → length (field_bytes value field) ≤ most_field most
field_length IsValue value most short None h = omega arith
field_length IsValue value most short (Some e) h = omega (arith, short e.value h.value)

pause_length : (pause : PauseState) → IsPause pause → length (pause_bytes pause) ≤ most_pause
pause_length pause h = omega (arith, h.reason.short)

label_length : (label : Label) → IsLabel label → length (label_bytes label) ≤ most_label
label_length label h = omega (arith, length-append label.name (text_bytes label.state), h.name.short, h.state.short)

cell_length : (version : ℕ) (cell : CellParts) → IsCell version cell → length (cell_bytes cell) ≤ most_cell
cell_length version cell good =
    let f = cell.1.1 in
    let a = length-append cell.1.0.interface (fields_bytes f) in
    let b = length-append (field_bytes penalty_bytes f.penalty) (field_bytes pause_bytes f.pause ++ (field_bytes label_bytes f.label ++ field_bytes ring_bytes f.ring)) in
    let c = length-append (field_bytes pause_bytes f.pause) (field_bytes label_bytes f.label ++ field_bytes ring_bytes f.ring) in
    let d = length-append (field_bytes label_bytes f.label) (field_bytes ring_bytes f.ring) in
    let penalty = field_length IsPenalty penalty_bytes most_penalty (λ n h. omega arith) f.penalty good.fields.within.penalty in
    let pause = field_length IsPause pause_bytes most_pause pause_length f.pause good.fields.within.pause in
    let label = field_length IsLabel label_bytes most_label label_length f.label good.fields.within.label in
    let ring = field_length IsRing ring_bytes most_ring (λ b h. omega arith) f.ring good.fields.within.ring in
    omega (arith, a, b, c, d, penalty, pause, label, ring, good.member.interface.text.short)

cells_length : (version : ℕ) (cells : List CellParts) → AllByRecursion (IsCell version) cells → length (flat_map cell_bytes cells) ≤ most_cell * length cells
cells_length version [] h = omega arith
cells_length version (cell ∷ cells) h = omega (arith, length-append (cell_bytes cell) (flat_map cell_bytes cells), cell_length version cell h.0, cells_length version cells h.1)

-- a length within its limits always has room for a frame
pub lengths : (parts : FrameParts) → AreParts parts → (LEAST_LENGTH ≤ length (content_bytes parts)) × (length (content_bytes parts) ≤ MOST_LENGTH)
lengths parts good =
    let size = content_size parts (length (flat_map cell_bytes parts.cells)) (length parts.totals) refl refl in
    let cells = cells_length parts.version parts.cells (by_recursion (IsCell parts.version) parts.cells good.cells.listed.each) in
    (omega (arith, size), omega (arith, size, cells, good.runs.few, good.cells.listed.few, good.totals.few))

-- a frame is at most as large as the greatest of its parts make it
pub whole_length : (parts : FrameParts) → AreParts parts → length (frame_bytes parts) ≤ 7618588
whole_length parts good =
    let size = content_size parts (length (flat_map cell_bytes parts.cells)) (length parts.totals) refl refl in
    let cells = cells_length parts.version parts.cells (by_recursion (IsCell parts.version) parts.cells good.cells.listed.each) in
    omega (arith, size, cells, good.runs.few, good.cells.listed.few, good.totals.few)

-- ---- a frame that is there is found

pub frame_found : (bytes : List ℕ) (frame : Frame) (n : ℕ) → n ≤ length bytes → (s : Spells frame (take n bytes)) → kept_in bytes ≡ Ok (kept_of s.parts, n)
unfolding kept_in
frame_found bytes frame n there s =
    let content = content_bytes s.parts in
    let sizes = lengths s.parts s.within in
    let front : bytes ≡ (to_be_bytes w32 (length content) ++ content) ++ drop n bytes = sym (take-append-drop n bytes) ∙ ap (λ (x : List ℕ). x ++ drop n bytes) s.spelled in
    let one : content_in bytes ≡ Ok content = ap content_in front ∙ content_again content (drop n bytes) sizes.0 sizes.1 in
    let two : kept_at content ≡ Ok (kept_of s.parts) = kept_of_read content s.parts (content_read s.parts s.within) in
    let len : length (take n bytes) ≡ length (frame_bytes s.parts) = ap length s.spelled in
    let n_is : 4 + length content ≡ n = omega (arith, len, length-take n bytes, there) in
    rw (one, two) (ap (λ (k : ℕ). let z : Result (Kept × ℕ) DecodeFault = Ok (kept_of s.parts, k) in z) n_is)

-- sets and maps by their lists
same_known : (runs : List Run) (x y : set.FinSet dot_cmp) → x ≡ known_of runs → IsRunsOf runs y → x ≡ y
same_known runs x y is are = set.same_set dots_total dots_exact _ _ (λ d. ap (λ (s : set.FinSet dot_cmp). set.contains s d) is ∙ contains_known_of runs d ∙ sym (are.same d))

get_by : (x y : map.FinMap dot_cmp Holding) → map.entries x ≡ map.entries y → (d : Dot) → map.get x d ≡ map.get y d
get_by x y e d = map.get-entries x d ∙ ap (find dot_cmp d) e ∙ sym (map.get-entries y d)

totals_by : (x y : Entries) → map.entries x ≡ map.entries y → x ≡ y
totals_by x y e = same_totals x y (λ k. map.get-entries x k ∙ ap (find key_cmp k) e ∙ sym (map.get-entries y k))

-- a frame that keeps the parts of another is the same
pub same_frame : (x frame : Frame) (bytes : List ℕ) (s : Spells frame bytes) → frame_kept x ≡ kept_of s.parts → IsSameFrame x frame
same_frame x frame bytes s same =
    let known = same_known s.parts.runs x.delta.members.known frame.delta.members.known (ap (λ (k : Kept). k.1.0) same) s.of_frame.runs in
    let live = get_by x.delta.members.live frame.delta.members.live (ap (λ (k : Kept). map.entries k.1.1.0) same ∙ live_entries s.parts.cells s.within.cells.listed.order ∙ s.of_frame.cells) in
    record {
      maker = ap (λ (k : Kept). k.0.maker) same ∙ s.of_frame.maker;
      number = ap (λ (k : Kept). k.0.number) same ∙ s.of_frame.number;
      delta = record {
        conditions = λ d. λ i. condition_at (live d i) (set.contains (known i) d);
        known = known;
        totals = totals_by x.delta.totals.entries frame.delta.totals.entries (ap (λ (k : Kept). map.entries k.1.1.1) same ∙ totals_entries s.parts.totals s.within.totals.order (by_recursion (λ t. IsTotal t.0 t.1) s.parts.totals s.within.totals.each) ∙ s.of_frame.totals);
      };
    }

-- ---- one frame, one spelling

same_holding : (o p : Option Holding) (a b : Bool) → condition_at o a ≡ condition_at p b → o ≡ p
same_holding (Some h) (Some g) a b e = let member : h.0 ≡ g.0 = cc in let fields : h.1 ≡ g.1 = cc in λ i. Some (member i, fields i)
same_holding (Some h) None a true e = absurd cc
same_holding (Some h) None a false e = absurd cc
same_holding None (Some g) true b e = absurd cc
same_holding None (Some g) false b e = absurd cc
same_holding None None a b e = refl

same_live : (x y : Frame) → IsSameFrame x y → x.delta.members.live ≡ y.delta.members.live
same_live x y same = map.same_map dots_total dots_exact _ _ (λ d. same_holding (map.get x.delta.members.live d) (map.get y.delta.members.live d) (set.contains x.delta.members.known d) (set.contains y.delta.members.known d) (same.delta.conditions d))

-- what is spelled is spelled of each that says the same
pub spells_same : (x y : Frame) (bytes : List ℕ) → Spells x bytes → IsSameFrame x y → Spells y bytes
spells_same x y bytes s same = record {
  parts = s.parts;
  of_frame = record {
    maker = s.of_frame.maker ∙ same.maker;
    number = s.of_frame.number ∙ same.number;
    runs = subst (λ (k : set.FinSet dot_cmp). IsRunsOf s.parts.runs k) same.delta.known s.of_frame.runs;
    cells = s.of_frame.cells ∙ ap map.entries (same_live x y same);
    totals = s.of_frame.totals ∙ ap map.entries same.delta.totals;
  };
  within = s.within;
  spelled = s.spelled;
}

pub spells_same_in : (version : ℕ) (x y : Frame) (bytes : List ℕ) → SpellsIn version x bytes → IsSameFrame x y → SpellsIn version y bytes
unfolding spells_same
spells_same_in version x y bytes s same = record { spells = spells_same x y bytes s.spells same; version_is = s.version_is }

pub one_spelling : (version : ℕ) (x y : Frame) (a b : List ℕ) → IsSameFrame x y → SpellsIn version x a → SpellsIn version y b → a ≡ b
one_spelling version x y a b same first second =
    let of_y = spells_same_in version x y a first same in
    let o = of_y.spells in
    let t = second.spells in
    let in_one : o.parts.version ≡ t.parts.version = of_y.version_is ∙ sym second.version_is in
    let maker : o.parts.heading.maker ≡ t.parts.heading.maker = o.of_frame.maker ∙ sym t.of_frame.maker in
    let number : o.parts.heading.number ≡ t.parts.heading.number = o.of_frame.number ∙ sym t.of_frame.number in
    let runs : o.parts.runs ≡ t.parts.runs = runs_unique o.parts.runs t.parts.runs y.delta.members.known o.of_frame.runs t.of_frame.runs in
    let cells : o.parts.cells ≡ t.parts.cells = o.of_frame.cells ∙ sym t.of_frame.cells in
    let totals : o.parts.totals ≡ t.parts.totals = o.of_frame.totals ∙ sym t.of_frame.totals in
    let parts : o.parts ≡ t.parts = λ i. record { version = in_one i; heading = record { maker = maker i; number = number i }; runs = runs i; cells = cells i; totals = totals i } in
    o.spelled ∙ ap frame_bytes parts ∙ sym t.spelled

-- in another version it is spelled alike, but for the version: the seventh byte
pub spelled_alike : (v w : ℕ) (x y : Frame) (a b : List ℕ) → IsSameFrame x y → SpellsIn v x a → SpellsIn w y b → a ≡ take 6 b ++ (v ∷ drop 7 b)
spelled_alike v w x y a b same first second =
    let of_y = spells_same_in v x y a first same in
    let o = of_y.spells in
    let t = second.spells in
    let maker : o.parts.heading.maker ≡ t.parts.heading.maker = o.of_frame.maker ∙ sym t.of_frame.maker in
    let number : o.parts.heading.number ≡ t.parts.heading.number = o.of_frame.number ∙ sym t.of_frame.number in
    let runs : o.parts.runs ≡ t.parts.runs = runs_unique o.parts.runs t.parts.runs y.delta.members.known o.of_frame.runs t.of_frame.runs in
    let cells : o.parts.cells ≡ t.parts.cells = o.of_frame.cells ∙ sym t.of_frame.cells in
    let totals : o.parts.totals ≡ t.parts.totals = o.of_frame.totals ∙ sym t.of_frame.totals in
    let of_v : FrameParts = record { version = v; heading = t.parts.heading; runs = t.parts.runs; cells = t.parts.cells; totals = t.parts.totals } in
    let parts : o.parts ≡ of_v = λ i. record { version = of_y.version_is i; heading = record { maker = maker i; number = number i }; runs = runs i; cells = cells i; totals = totals i } in
    o.spelled ∙ ap frame_bytes parts ∙ ap (λ (bytes : List ℕ). take 6 bytes ++ (v ∷ drop 7 bytes)) (sym t.spelled)

-- bytes show the version: it stands behind the length and the magic
pub one_version : (v w : ℕ) (x y : Frame) (bytes : List ℕ) → SpellsIn v x bytes → SpellsIn w y bytes → v ≡ w
one_version v w x y bytes s t =
    let shown : s.spells.parts.version ≡ t.spells.parts.version = ap (λ (b : List ℕ). get_or b 6 0) (sym s.spells.spelled ∙ t.spells.spelled) in
    sym s.version_is ∙ shown ∙ t.version_is

-- bytes that begin with the spellings of two frames
pub both_found : (bytes : List ℕ) (x y : Frame) (n m : ℕ) → n ≤ length bytes → m ≤ length bytes → (s : Spells x (take n bytes)) → (t : Spells y (take m bytes)) → (kept_of s.parts ≡ kept_of t.parts) × (n ≡ m)
both_found bytes x y n m in_x in_y s t =
    let a : Kept × ℕ = (kept_of s.parts, n) in
    let b : Kept × ℕ = (kept_of t.parts, m) in
    let same = ok_is a b (sym (frame_found bytes x n in_x s) ∙ frame_found bytes y m in_y t) in
    (ap (λ (k : Kept × ℕ). k.0) same, ap (λ (k : Kept × ℕ). k.1) same)

frame_keeps : (x : Frame) (bytes : List ℕ) (s : Spells x bytes) → frame_kept x ≡ kept_of s.parts
frame_keeps x bytes s =
    let known : x.delta.members.known ≡ known_of s.parts.runs = set.same_set dots_total dots_exact _ _ (λ d. s.of_frame.runs.same d ∙ sym (contains_known_of s.parts.runs d)) in
    let live : x.delta.members.live ≡ live_of s.parts.cells = map.same_map dots_total dots_exact _ _ (get_by x.delta.members.live (live_of s.parts.cells) (sym s.of_frame.cells ∙ sym (live_entries s.parts.cells s.within.cells.listed.order))) in
    let totals : x.delta.totals.entries ≡ totals_of s.parts.totals = totals_by x.delta.totals.entries (totals_of s.parts.totals) (sym s.of_frame.totals ∙ sym (totals_entries s.parts.totals s.within.totals.order (by_recursion (λ t. IsTotal t.0 t.1) s.parts.totals s.within.totals.each))) in
    λ i. (record { maker = sym s.of_frame.maker i; number = sym s.of_frame.number i }, (known i, (live i, totals i)))

whole : (bytes : List ℕ) → take (length bytes) bytes ≡ bytes
whole bytes = ap (take (length bytes)) (sym (append-nil bytes)) ∙ take_at bytes [] (length bytes) refl

pub one_frame : (x y : Frame) (bytes : List ℕ) → Spells x bytes → Spells y bytes → IsSameFrame x y
one_frame x y bytes s t =
    let s' : Spells x (take (length bytes) bytes) = subst (λ (b : List ℕ). Spells x b) (sym (whole bytes)) s in
    let t' : Spells y (take (length bytes) bytes) = subst (λ (b : List ℕ). Spells y b) (sym (whole bytes)) t in
    let same = both_found bytes x y (length bytes) (length bytes) (omega arith) (omega arith) s' t' in
    same_frame x y (take (length bytes) bytes) t' (frame_keeps x (take (length bytes) bytes) s' ∙ same.0)

pub no_prefix : (x y : Frame) (bytes rest : List ℕ) → Spells x bytes → Spells y (bytes ++ rest) → rest ≡ []
no_prefix x y bytes rest s t =
    let all = bytes ++ rest in
    let len : length all ≡ length bytes + length rest = length-append bytes rest in
    let s' : Spells x (take (length bytes) all) = subst (λ (b : List ℕ). Spells x b) (sym (take_at bytes rest (length bytes) refl)) s in
    let t' : Spells y (take (length all) all) = subst (λ (b : List ℕ). Spells y b) (sym (whole all)) t in
    let same = (both_found all x y (length bytes) (length all) (omega (arith, len)) (omega arith) s' t').1 in
    nil_from_length rest (omega (arith, len, same))
