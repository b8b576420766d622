-- Which dots are visible and known once there is one operation more, and what is past the limits.
use Rattle.std.proofs.Common.{◌≡◌, ℕ, suc, ◌≤◌, ◌<◌, ◌^◌, ◌==◌, Bool, true, false, not, ◌&&◌, ◌||◌, List, [], ◌∷◌, ◌++◌, max, nat_lt, map as each, filter, length, refl, sym, ap, ◌∙◌, arith, if◌then◌else◌, true≢false}
use Rattle.std.specs.FinSet as set
use Rattle.std.specs.List.{list_any}
use Rattle.std.proofs.lemmas.Bool.Decides.{nat_tests}
use Rattle.std.proofs.lemmas.Cmp.{eq_by_cmp_equiv}
use Rattle.std.proofs.lemmas.Map.Made.{is_member-filter}
use Rattle.dots.specs.declared.label.Label.{Label}
use Rattle.dots.specs.declared.member.Member.{Member}
use Rattle.dots.specs.Values.{Dot, Stamp, PauseState}
use Rattle.dots.specs.DotSets.{run_count, is_older}
use Rattle.operations.specs.Operations.{Operation, Setting, Add, Write, asserted_by}
use Rattle.operations.specs.Knowledge.{Knowledge, is_dot, asserts, names, is_asserted, is_named, visible_dots, known_dots}
use Rattle.dots.proofs.DotOrder.{dots_total, dots_exact}
use Rattle.operations.proofs.KnownLaws.{known_dot}
use Rattle.general_lemmas.proofs.Membership.{any_map}
use Rattle.operations.proofs.VisibleLaws.{visible_dot}
use Rattle.replica.specs.declared.refusal.Refusal.TheVariants.{MembersFull, Exhausted, TotalFull}
use Rattle.replica.specs.Changes.{Meaning, Refused, Makes, add_at, write_at, is_full, is_too_long, is_exhausted, is_past_total, within_limits, where_absent, where_present, time_replaced}
use Rattle.replica.specs.Promises.{ForeseesOneMore, OlderAreNamed}
use Rattle.replica.specs.SiteViews.{SiteView, site_view, greatest, older_dots, visible_with, known_with}
use Rattle.replica.specs.Steps.{SiteKnowledge, Outcome, Taken, CellsFull, RunsFull, take}
use Rattle.reference_model.specs.Sites.{Touches}
use Rattle.reference_model.proofs.RunSteps.{same_one}
use Rattle.std.proofs.Math.Bool.{or-false, or_comm}

-- ---- tests
pub first_is : (a b : Bool) → a ≡ true → a ≡ (a || b)
first_is true b h = refl
first_is false b h = (cc)

pub second_is : (a b : Bool) → a ≡ false → b ≡ (a || b)
second_is true b h = (cc)
second_is false b h = refl

-- ---- the dots of an operation
module _ (o : Operation) (made dead : List Dot) (touches : Touches o made dead) where
  made_are : (q : Dot) → asserts q o ≡ list_any (is_dot q) made
  made_are q = sym (any_map (is_dot q) (λ (p : Dot × Member). p.0) (asserted_by o)) ∙ ap (list_any (is_dot q)) touches.asserted_are

  dead_are : (q : Dot) → names q o ≡ list_any (is_dot q) dead
  dead_are q = ap (λ s. set.contains s q) touches.named_are ∙ set.contains-from_list dots_total dead q

  -- the visible dots once it is made
  pub visible_then : (site : ℕ) (k : Knowledge) → ForeseesOneMore site k o → (q : Dot) → set.contains (visible_with (site_view site k) o) q
      ≡ ((is_asserted k q || list_any (is_dot q) made) && not (is_named k q || list_any (is_dot q) dead))
  visible_then site k foreseen q =
      ap (λ s. set.contains s q) foreseen.visible ∙ visible_dot (o ∷ k) q
      ∙ (λ i. or_comm (made_are q i) (is_asserted k q) i && not (or_comm (dead_are q i) (is_named k q) i))

  -- the known ones
  pub known_then : (site : ℕ) (k : Knowledge) → ForeseesOneMore site k o → (q : Dot) → set.contains (known_with (site_view site k) o) q
      ≡ ((is_asserted k q || list_any (is_dot q) made) || (is_named k q || list_any (is_dot q) dead))
  known_then site k foreseen q =
      ap (λ s. set.contains s q) foreseen.known ∙ known_dot (o ∷ k) q
      ∙ (λ i. or_comm (made_are q i) (is_asserted k q) i || or_comm (dead_are q i) (is_named k q) i)

  -- the known dots of the operation alone
  pub known_alone : (q : Dot) → set.contains (known_dots (o ∷ [])) q ≡ ((is_asserted [] q || list_any (is_dot q) made) || (is_named [] q || list_any (is_dot q) dead))
  known_alone q =
      known_dot (o ∷ []) q
      ∙ (λ i. or-false (asserts q o) i || or-false (names q o) i)
      ∙ (λ i. made_are q i || dead_are q i)

-- all that is visible, and all that is known, with nothing more
pub visible_now : (k l : Knowledge) → k ≡ l → (q : Dot) → set.contains (visible_dots l) q ≡ ((is_asserted k q || false) && not (is_named k q || false))
visible_now k l e q =
    ap (λ m. set.contains (visible_dots m) q) (sym e) ∙ visible_dot k q ∙ (λ i. sym (or-false (is_asserted k q)) i && not (sym (or-false (is_named k q)) i))

pub known_now : (k l : Knowledge) → k ≡ l → (q : Dot) → set.contains (known_dots l) q ≡ ((is_asserted k q || false) || (is_named k q || false))
known_now k l e q =
    ap (λ m. set.contains (known_dots m) q) (sym e) ∙ known_dot k q ∙ (λ i. sym (or-false (is_asserted k q)) i || sym (or-false (is_named k q)) i)

-- the older ones of those that are named
pub older_list : (site : ℕ) (k : Knowledge) (dots found listed : List Dot) → OlderAreNamed → ((q : Dot) → list_any (is_dot q) found ≡ is_named k q)
    → listed ≡ filter (is_older dots) found → set.from_list listed ≡ older_dots (site_view site k) dots
older_list site k dots found listed law has is =
    set.same_set dots_total dots_exact (set.from_list listed) (older_dots (site_view site k) dots) (λ q.
    set.contains-from_list dots_total listed q ∙ ap (list_any (is_dot q)) is
    ∙ is_member-filter (eq_by_cmp_equiv dots_total) (is_older dots) q (λ x e. ap (is_older dots) (same_one q x e)) found
    ∙ ap (λ b. b && is_older dots q) (has q) ∙ sym (law site k dots q))

-- the limits of a site, of its buffer and of one operation
pub past_limits : (o : Operation) (r b s d : SiteView) (known buffer long : Bool) → r ≡ s → b ≡ d → known ≡ is_full r o → buffer ≡ is_full b o → long ≡ is_too_long o
    → (known || (buffer || long)) ≡ (is_full s o || (is_full d o || is_too_long o))
past_limits o r b s d known buffer long rs bd known_is buffer_is long_is =
    λ i. (known_is ∙ ap (λ v. is_full v o) rs) i || ((buffer_is ∙ ap (λ v. is_full v o) bd) i || long_is i)

-- ---- numbers
pub above : (most n : ℕ) → (n ≤ most → false ≡ true) → most < n
above most n none = by (nat_lt most n) refl
  where
    by : (b : Bool) → nat_lt most n ≡ b → most < n
    by true e = grind (arith, nat_tests, e)
    by false e = let few : n ≤ most = grind (arith, nat_tests, e) in absurd (true≢false (sym (none few)))

pub past_most : (most n : ℕ) → most < n → nat_lt most n ≡ true
past_most most n h = grind (arith, nat_tests)

pub not_past : (most n : ℕ) → n ≤ most → nat_lt most n ≡ false
not_past most n h = grind (arith, nat_tests)

-- ---- what an operation means, by the tests of the limits
module _ (r b : SiteView) (o : Operation) (full : Bool) (is : full ≡ (is_full r o || (is_full b o || is_too_long o))) where
  pub means_full : full ≡ true → Refused MembersFull ≡ within_limits r b o
  means_full h = λ i. if (sym h ∙ is) i then Refused MembersFull else if is_exhausted o then Refused Exhausted else if is_past_total o then Refused TotalFull else Makes o

  pub means_exhausted : full ≡ false → is_exhausted o ≡ true → Refused Exhausted ≡ within_limits r b o
  means_exhausted h e = λ i. if (sym h ∙ is) i then Refused MembersFull else if sym e i then Refused Exhausted else if is_past_total o then Refused TotalFull else Makes o

  pub means_past_total : full ≡ false → is_exhausted o ≡ false → is_past_total o ≡ true → Refused TotalFull ≡ within_limits r b o
  means_past_total h e t = λ i. if (sym h ∙ is) i then Refused MembersFull else if sym e i then Refused Exhausted else if sym t i then Refused TotalFull else Makes o

  pub means_made : full ≡ false → is_exhausted o ≡ false → is_past_total o ≡ false → Makes o ≡ within_limits r b o
  means_made h e t = λ i. if (sym h ∙ is) i then Refused MembersFull else if sym e i then Refused Exhausted else if sym t i then Refused TotalFull else Makes o

-- where no dot is seen
pub absent_means : (dots seen : List (Dot × Member)) (n : ℕ) (m : Meaning) → seen ≡ dots → length seen ≡ n → true ≡ (n == 0) → m ≡ where_absent dots m
absent_means [] seen n m is as_many none = refl
absent_means (d ∷ ds) seen n m is as_many none =
    let more : length seen ≡ suc (length ds) = ap length is in
    absurd (true≢false (none ∙ grind (arith, nat_tests, more, as_many)))

-- where some dot is seen
pub present_means : (means : List (Dot × Member) → Meaning) (seen dots : List (Dot × Member)) (n : ℕ) → seen ≡ dots → length seen ≡ n → false ≡ (n == 0) → means seen ≡ where_present dots (means dots)
present_means means seen [] n is as_many some =
    let none : length seen ≡ 0 = ap length is in
    absurd (true≢false (sym (some ∙ grind (arith, nat_tests, none, as_many))))
present_means means seen (d ∷ ds) n is as_many some = ap means is

-- ---- adds
pub pause_is : (paused : Bool) (pause : PauseState) (reason : List ℕ) → reason ≡ [] → pause.paused ≡ paused → (paused ≡ true → pause.reason ≡ reason) → (paused ≡ false → pause.reason ≡ [])
    → pause ≡ record { paused = paused; reason = [] }
pause_is paused pause reason none is given dropped = λ i. record { paused = is i; reason = by paused given dropped i }
  where
    by : (p : Bool) → (p ≡ true → pause.reason ≡ reason) → (p ≡ false → pause.reason ≡ []) → pause.reason ≡ []
    by true given dropped = given refl ∙ none
    by false given dropped = dropped refl

-- a number is past the greatest, or isn't
pub no_number : (n m : ℕ) → n ≡ m → ((1 ≤ n) × (n ≤ 2 ^ 40) → false ≡ true) → 1 ≤ n → nat_lt (2 ^ 40) m ≡ true
no_number n m is none least = ap (nat_lt (2 ^ 40)) (sym is) ∙ past_most (2 ^ 40) n (above (2 ^ 40) n (λ most. none (least, most)))

pub has_number : (n m : ℕ) → n ≡ m → (1 ≤ n) × (n ≤ 2 ^ 40) → nat_lt (2 ^ 40) m ≡ false
has_number n m is h = ap (nat_lt (2 ^ 40)) (sym is) ∙ not_past (2 ^ 40) n h.1

or_second : (a b : Bool) → b ≡ true → (a || b) ≡ true
or_second true b h = refl
or_second false b h = h

module _ (site : ℕ) (r b : SiteView) (member : Member) (penalty : ℕ) (paused : Bool) (label : Label) (dot : Dot) (older : List Dot) (full : Bool)
    (dot_is : dot ≡ record { site = site; count = suc r.last_count }) (older_is : set.from_list older ≡ older_dots r (dot ∷ []))
    (limits : (o : Operation) → Touches o (dot ∷ []) older → full ≡ (is_full r o || (is_full b o || is_too_long o))) where
  abbrev add : Operation
  add = add_at site r member penalty paused label

  add_limits : full ≡ (is_full r add || (is_full b add || is_too_long add))
  add_limits = limits add (record { asserted_are = ap (λ d. d ∷ []) (sym dot_is); named_are = ap (λ d. older_dots r (d ∷ [])) (sym dot_is) ∙ sym older_is })

  pub add_full : full ≡ true → Refused MembersFull ≡ within_limits r b add
  add_full h = means_full r b add full add_limits h

  pub add_no_count : full ≡ false → nat_lt (2 ^ 40) (suc r.last_count) ≡ true → Refused Exhausted ≡ within_limits r b add
  add_no_count h e = means_exhausted r b add full add_limits h (ap (λ x. x || nat_lt (2 ^ 40) (suc r.last_time)) e)

  pub add_no_time : full ≡ false → nat_lt (2 ^ 40) (suc r.last_time) ≡ true → Refused Exhausted ≡ within_limits r b add
  add_no_time h e = means_exhausted r b add full add_limits h (or_second (nat_lt (2 ^ 40) (suc r.last_count)) (nat_lt (2 ^ 40) (suc r.last_time)) e)

  pub add_made : full ≡ false → nat_lt (2 ^ 40) (suc r.last_count) ≡ false → nat_lt (2 ^ 40) (suc r.last_time) ≡ false
      → (made : Dot) (stamp : Stamp) (pause : PauseState) (named : Label) → made ≡ record { site = site; count = suc r.last_count }
      → stamp ≡ record { time = suc r.last_time; site = site } → pause ≡ record { paused = paused; reason = [] } → named ≡ label
      → Makes (Add made member stamp penalty pause named (set.from_list older)) ≡ within_limits r b add
  add_made h e f made stamp pause named is at set_to labelled =
      (λ i. Makes (Add (is i) member (at i) penalty (set_to i) (labelled i) ((older_is ∙ ap (λ d. older_dots r (d ∷ [])) dot_is) i)))
      ∙ means_made r b add full add_limits h (λ i. e i || f i) refl

-- ---- writes
module _ (site : ℕ) (r b : SiteView) (setting : Setting) (dots : List (Dot × Member)) (made older : List Dot) (full : Bool)
    (made_is : made ≡ each (λ d. d.0) dots) (older_is : set.from_list older ≡ older_dots r made)
    (limits : (o : Operation) → Touches o made older → full ≡ (is_full r o || (is_full b o || is_too_long o))) where
  abbrev write : Operation
  write = write_at site r setting dots

  abbrev time : ℕ
  time = suc (max r.last_time (greatest (λ d. time_replaced r.dots setting d.0) dots))

  write_limits : full ≡ (is_full r write || (is_full b write || is_too_long write))
  write_limits = limits write (record { asserted_are = sym made_is; named_are = ap (older_dots r) (sym made_is) ∙ sym older_is })

  pub write_full : full ≡ true → Refused MembersFull ≡ within_limits r b write
  write_full h = means_full r b write full write_limits h

  pub write_no_time : full ≡ false → nat_lt (2 ^ 40) time ≡ true → Refused Exhausted ≡ within_limits r b write
  write_no_time h e = means_exhausted r b write full write_limits h e

  pub write_made : full ≡ false → nat_lt (2 ^ 40) time ≡ false → (stamp : Stamp) (set_to : Setting) → stamp ≡ record { time = time; site = site } → set_to ≡ setting
      → Makes (Write dots set_to stamp (set.from_list older)) ≡ within_limits r b write
  write_made h e stamp set_to at is =
      (λ i. Makes (Write dots (is i) (at i) ((older_is ∙ ap (older_dots r) made_is) i)))
      ∙ means_made r b write full write_limits h e refl

-- ---- frames that are taken
module _ (s : SiteKnowledge) (frame : Knowledge) (dots runs : ℕ) (dots_are : dots ≡ set.len (visible_dots (frame ++ s.known))) (runs_are : runs ≡ run_count (known_dots (frame ++ s.known))) where
  too_many : nat_lt 16384 (set.len (visible_dots (frame ++ s.known))) ≡ nat_lt 16384 dots
  too_many = ap (nat_lt 16384) (sym dots_are)

  too_long : nat_lt 65536 (run_count (known_dots (frame ++ s.known))) ≡ nat_lt 65536 runs
  too_long = ap (nat_lt 65536) (sym runs_are)

  abbrev after : Bool → Bool → SiteKnowledge × Outcome
  after many long = if many then (s, CellsFull) else if long then (s, RunsFull) else (record { known = frame ++ s.known; buffer = s.buffer; frames = s.frames }, Taken)

  pub take_is : (many long : Bool) → nat_lt 16384 dots ≡ many → nat_lt 65536 runs ≡ long → after many long ≡ take s frame
  take_is many long e f = sym (λ i. after ((too_many ∙ e) i) ((too_long ∙ f) i))
