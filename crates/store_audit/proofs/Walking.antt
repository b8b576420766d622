-- Rows of a store that are done again, one after another.
use Rattle.std.proofs.Common.{◌≡◌, ◌≢◌, ◌<◌, ◌≤◌, ◌+◌, ◌-◌, ◌^◌, ◌&&◌, min, inl, inr, ◌⊎◌, ℕ, zero, suc, Bool, true, false, not, List, [], ◌∷◌, ◌++◌, length, take, get_or, Option, Some, Result, Ok, Err, IfErr, slice_get, refl, sym, ap, subst, ◌∙◌, append-nil, length-append, true≢false, arith, cond, if◌then◌else◌}
use Rattle.std.specs.Prelude.{nat_eq, count_by}
use Rattle.std.specs.List.{All, cons_option, filter}
use Rattle.std.proofs.lemmas.List.Sums.{sum_by-append}
use Rattle.std.proofs.lemmas.List.{take_all, take_more, take-append-le}
use Rattle.std.proofs.lemmas.List.Elements.{All-append, All-cons, All-nil, filter-append, filter_map-append}
use Rattle.std.proofs.lemmas.Bool.{eqb-true}
use Rattle.std.proofs.lemmas.Option.{slice_get_read}
use Rattle.delta.specs.DeltaStates as deltas
use Rattle.delta.specs.DeltaStates.{DeltaState, IsEmpty}
use Rattle.replica.specs.Deeds.{IsNew}
use Rattle.replica.specs.Site.{IsSameSite, SiteState}
use Rattle.replica.proofs.SameSites.{site_itself, site_through}
use Rattle.site_audit.specs.Runs.{IsFromNew}
use Rattle.site_journal.specs.declared.journaled.TheConstants.{MOST_STEPS}
use Rattle.site_journal.specs.declared.step.Step.{Step}
use Rattle.site_journal.specs.Journals.{HasAdded, IsFull, IsNewJournal, JournalState}
use Rattle.site_journal.specs.Legal.{Leads}
use Rattle.site_journal.specs.Replaying.{CanCome}
use Rattle.sites_world.proofs.Lists.{none_some, one_some}
use Rattle.stored_steps.specs.declared.base.StoredBase.{StoredBase}
use Rattle.stored_steps.specs.declared.base_fault.BaseFault.{BaseFault}
use Rattle.stored_steps.specs.declared.base_fault.BaseFault.TheVariants as base_fault
use Rattle.stored_steps.specs.BaseFaults.{HasNoBase, IsAnyBaseCause, IsBaseRowCause, IsHeading, IsHeadingCause}
use Rattle.stored_steps.specs.Bases.{IsReadBase}
use Rattle.stored_steps.specs.RowsLead.{RowLeads, RowsLead}
use Rattle.stored_steps.specs.StartRows.{is_start}
use Rattle.stored_steps.specs.StepRows.{IsWithinLimits, row_of, rows_of}
use Rattle.stored_steps.specs.Stored.{Stored}
use Rattle.stored_steps.proofs.BaseLaws.{read_once}
use Rattle.stored_steps.proofs.Replaying.{lead_on, one_site}
use Rattle.stored_steps.proofs.RowLaws.{one_step, started_row}
use Rattle.store_audit.specs.declared.journal_fault.JournalFault.{JournalFault}
use Rattle.store_audit.specs.declared.walk.Walk.{Walk}
use Rattle.store_audit.specs.declared.journal_fault.JournalFault.TheVariants as fault
use Rattle.store_audit.specs.declared.store_journal.StoreJournal.{StoreJournal}
use Rattle.store_audit.specs.RowCauses.{IsBaseCause, IsBeginCause, IsJournalCause, IsKeptBaseCause, IsReplayCause, IsRowCause, IsStepCause, StopsFor}
use Rattle.store_audit.specs.StoreRows.{is_base, is_step, rows_with_steps, step_positions, without_bases}
use Rattle.store_audit.specs.Walks.{AreBasesThere, AreDoneAgain, HasAddedStep, HasWalked, IsBaseThere, IsJournalOfRows, IsSaidBase, SaysWalk}

-- ---- a new site

-- what says the same as nothing is empty
same_empty : (d e : DeltaState) → deltas.IsSame d e → IsEmpty d → IsEmpty e
same_empty d e same empty = record {
  conditions = λ dot. sym (same.conditions dot) ∙ empty.conditions dot;
  known = sym same.known ∙ empty.known;
  totals = sym same.totals ∙ empty.totals;
}

-- what says the same as a new site is new
pub same_new : (s t : SiteState) → IsSameSite s t → IsNew s → IsNew t
same_new s t same new = record {
  state = same_empty s.state t.state same.state new.state;
  pending = same_empty s.pending t.pending same.pending new.pending;
  last_count = same.last_count ∙ new.last_count;
  last_time = same.last_time ∙ new.last_time;
  frames = same.frames ∙ new.frames;
}

-- a number within its limit
within_most : (n : ℕ) → n < 2 ^ 64 → n ≡ min (n + 0) (2 ^ 64 - 1)
within_most n fits = omega (arith, fits)

-- a walk that begins
pub begun : (base : StoredBase) (walk : Walk) → IsNewJournal base.replica MOST_STEPS walk.journal → IsNew base.replica → base.starts < 2 ^ 64
    → walk.name ≡ base.name → walk.starts ≡ base.starts → walk.positions.items ≡ [] → HasWalked base [] walk
begun base walk journal new fits name starts positions = record {
  fresh = record { start = journal.start; base = same_new base.replica walk.journal.base journal.base new };
  limit = journal.limit_is;
  count = journal.count ∙ sym (ap length journal.steps);
  few = subst (λ (l : List Step). length l ≤ MOST_STEPS) (sym journal.steps) (omega arith);
  done = record {
    began = journal.base;
    led = subst (IsSameSite base.replica) (sym journal.replica_is) (site_itself base.replica);
    steps = ap rows_of journal.steps;
    each = ap length journal.steps;
    within = subst (All IsWithinLimits) (sym journal.steps) (All-nil IsWithinLimits);
    places = positions;
    bases = λ place row is. absurd (none_some row is);
  };
  name = name;
  starts = starts ∙ within_most base.starts fits;
}

-- ---- one row more

-- the row behind rows, or one of them
one_of : (rows : List Stored) (row : Stored) (place : ℕ) (found : Stored) → slice_get (rows ++ row ∷ []) place ≡ Some found
    → ((place < length rows) × (slice_get rows place ≡ Some found)) ⊎ ((place ≡ length rows) × (found ≡ row))
one_of [] row zero found is = inr (refl, sym (one_some row found is))
one_of [] row (suc place) found is = absurd (none_some found is)
one_of (first ∷ rows) row zero found is = inl (omega arith, is)
one_of (first ∷ rows) row (suc place) found is = elim (one_of rows row place found is) [
  | inl p ↦ inl ((let h = p.0 in omega (arith, h)), p.1)
  | inr p ↦ inr (ap suc p.0, p.1)
]

-- all rows before the last
all_before : (rows : List Stored) (row : Stored) → take (length rows) (rows ++ row ∷ []) ≡ rows
all_before rows row = take-append-le (length rows) rows (row ∷ []) (omega arith) ∙ take_all (length rows) rows (omega arith)

-- the bases among rows say what the site is there
said_more : (base : StoredBase) (rows : List Stored) (row : Stored) → AreBasesThere base rows → (is_base row ≡ true → IsBaseThere base rows row) → AreBasesThere base (rows ++ row ∷ [])
said_more base rows row said here = λ place found is kind. elim (one_of rows row place found is) [
  | inl p ↦ subst (λ before. IsBaseThere base before found) (sym (take-append-le place rows (row ∷ []) (let h = p.0 in omega (arith, h)))) (said place found p.1 kind)
  | inr p ↦
      let before : take place (rows ++ row ∷ []) ≡ rows = ap (λ n. take n (rows ++ row ∷ [])) p.0 ∙ all_before rows row in
      subst (λ b. IsBaseThere base b found) (sym before)
      (subst (IsBaseThere base rows) (sym p.1) (here (ap is_base (sym p.1) ∙ kind)))
]

-- a list that may have one element more in front
behind : (b : Bool) (at : ℕ) (xs ys zs : List ℕ) → xs ≡ ys ++ zs → (if b then at ∷ xs else xs) ≡ (if b then at ∷ ys else ys) ++ zs
behind true at xs ys zs e = ap (λ (l : List ℕ). at ∷ l) e
behind false at xs ys zs e = e

-- the positions of steps, with one row more
positions_more : (at : ℕ) (rows : List Stored) (row : Stored)
    → step_positions at (rows ++ row ∷ []) ≡ step_positions at rows ++ (if is_step row then (at + length rows) ∷ [] else [])
positions_more at [] row = let e : at ≡ at + 0 = omega arith in ap (λ (n : ℕ). if is_step row then n ∷ [] else []) e
positions_more at (first ∷ rows) row =
    let e : (at + 1) + length rows ≡ at + suc (length rows) = omega arith in
    behind (is_step first) at (step_positions (at + 1) (rows ++ row ∷ [])) (step_positions (at + 1) rows) (if is_step row then (at + suc (length rows)) ∷ [] else [])
    (positions_more (at + 1) rows row ∙ ap (λ (n : ℕ). step_positions (at + 1) rows ++ (if is_step row then n ∷ [] else [])) e)

-- rows that pass a test, with one row more that passes it, or that doesn't
filter_yes : (p : Stored → Bool) (rows : List Stored) (row : Stored) → p row ≡ true → filter p (rows ++ row ∷ []) ≡ filter p rows ++ row ∷ []
filter_yes p rows row passes = filter-append p rows (row ∷ []) ∙ ap (λ (b : Bool). filter p rows ++ cond b (row ∷ []) []) passes

filter_no : (p : Stored → Bool) (rows : List Stored) (row : Stored) → p row ≡ false → filter p (rows ++ row ∷ []) ≡ filter p rows
filter_no p rows row fails = filter-append p rows (row ∷ []) ∙ ap (λ (b : Bool). filter p rows ++ cond b (row ∷ []) []) fails ∙ append-nil (filter p rows)

-- starts, with one row more
starts_yes : (rows : List Stored) (row : Stored) → is_start row ≡ true → count_by is_start (rows ++ row ∷ []) ≡ count_by is_start rows + 1
starts_yes rows row passes =
    let f : Bool → ℕ = λ b. cond b 1 0 in
    let one : f (is_start row) ≡ 1 = ap f passes in
    let all = sum_by-append (λ r. f (is_start r)) rows (row ∷ []) in
    omega (arith, one, all)

starts_no : (rows : List Stored) (row : Stored) → is_start row ≡ false → count_by is_start (rows ++ row ∷ []) ≡ count_by is_start rows
starts_no rows row fails =
    let f : Bool → ℕ = λ b. cond b 1 0 in
    let none : f (is_start row) ≡ 0 = ap f fails in
    let all = sum_by-append (λ r. f (is_start r)) rows (row ∷ []) in
    omega (arith, none, all)

-- a base is of no start and of no step
base_starts_none : (row : Stored) → is_base row ≡ true → is_start row ≡ false
base_starts_none row kind = ap (λ n. nat_eq n 6 && (nat_eq row.pass 0 && nat_eq (length row.bytes) 0)) (eqb-true row.kind 1 kind)

base_steps_none : (row : Stored) → is_base row ≡ true → is_step row ≡ false
base_steps_none row kind = ap (λ b. not b && not (is_start row)) kind

-- a start is of no step
start_steps_none : (row : Stored) → is_base row ≡ false → is_start row ≡ true → is_step row ≡ false
start_steps_none row kind start = ap (λ b. not b && not (is_start row)) kind ∙ ap not start

-- a row of no base and no start is of a step
pub steps_here : (row : Stored) → is_base row ≡ false → is_start row ≡ false → is_step row ≡ true
steps_here row kind start = ap (λ b. not b && not (is_start row)) kind ∙ ap not start

-- positions with a row more that is of no step, and of one
positions_none : (rows : List Stored) (row : Stored) → is_step row ≡ false → step_positions 1 (rows ++ row ∷ []) ≡ step_positions 1 rows
positions_none rows row fails =
    positions_more 1 rows row ∙ ap (λ (b : Bool). step_positions 1 rows ++ (if b then (1 + length rows) ∷ [] else [])) fails ∙ append-nil (step_positions 1 rows)

positions_one : (rows : List Stored) (row : Stored) → is_step row ≡ true → step_positions 1 (rows ++ row ∷ []) ≡ step_positions 1 rows ++ (1 + length rows) ∷ []
positions_one rows row passes = positions_more 1 rows row ∙ ap (λ (b : Bool). step_positions 1 rows ++ (if b then (1 + length rows) ∷ [] else [])) passes

-- numbers that grow by one
one_more_start : (before now next base rows : ℕ) → before ≡ min (base + rows) (2 ^ 64 - 1) → now ≡ min (before + 1) (2 ^ 64 - 1) → next ≡ rows + 1 → now ≡ min (base + next) (2 ^ 64 - 1)
one_more_start before now next base rows was is more = omega (arith, was, is, more)

one_plus : (n : ℕ) → n + 1 ≡ 1 + n
one_plus n = omega arith

one_more : (a b c d : ℕ) → a ≡ b + 1 → b ≡ c → d ≡ c + 1 → a ≡ d
one_more a b c d more was size = omega (arith, more, was, size)

-- a step that was done again is that of its row
added_leads : (old new : JournalState) (row : Stored) (step : Step) → row_of step ≡ Some row → IsWithinLimits step → HasAdded old step new → RowsLead old.replica (row ∷ []) new.replica
added_leads old new row step is good added = (new.replica, inl (record { step = step; row_is = is; within = good; leads = added.done }), site_itself new.replica)

rows_more : (steps : List Step) (step : Step) (row : Stored) → row_of step ≡ Some row → rows_of (steps ++ step ∷ []) ≡ rows_of steps ++ row ∷ []
rows_more steps step row is = filter_map-append row_of steps (step ∷ []) ∙ ap (λ (o : Option Stored). rows_of steps ++ cons_option o []) is

-- a base that says what the site is
pub base_walked : (base : StoredBase) (rows : List Stored) (walk : Walk) (row : Stored) → is_base row ≡ true → IsSaidBase walk row → HasWalked base rows walk
    → HasWalked base (rows ++ row ∷ []) walk
base_walked base rows walk row kind said p =
    let steps : rows_with_steps (rows ++ row ∷ []) ≡ rows_with_steps rows = filter_no is_step rows row (base_steps_none row kind) in
    record {
      fresh = p.fresh;
      limit = p.limit;
      count = p.count;
      few = p.few;
      done = record {
        began = p.done.began;
        led = subst (λ (l : List Stored). RowsLead base.replica l walk.journal.replica) (sym (filter_no (λ r. not (is_base r)) rows row (ap not kind))) p.done.led;
        steps = p.done.steps ∙ sym steps;
        each = p.done.each ∙ sym (ap length steps);
        within = p.done.within;
        places = p.done.places ∙ sym (positions_none rows row (base_steps_none row kind));
        bases = said_more base rows row p.done.bases (λ k. record {
          site = walk.journal.replica;
          led = p.done.led;
          read = said.read;
          is_read = said.is_read;
          same = said.says.same;
          name = said.says.name ∙ p.name;
          starts = said.says.starts ∙ p.starts;
        });
      };
      name = p.name;
      starts = p.starts ∙ ap (λ n. min (base.starts + n) (2 ^ 64 - 1)) (sym (starts_no rows row (base_starts_none row kind)));
    }

-- a start
pub start_walked : (base : StoredBase) (rows : List Stored) (old new : Walk) (row : Stored) → is_base row ≡ false → is_start row ≡ true
    → new.journal ≡ old.journal → new.positions.items ≡ old.positions.items → new.name ≡ old.name → new.starts ≡ min (old.starts + 1) (2 ^ 64 - 1)
    → HasWalked base rows old → HasWalked base (rows ++ row ∷ []) new
start_walked base rows old new row kind start journal positions name starts p =
    let none = start_steps_none row kind start in
    let steps : rows_with_steps (rows ++ row ∷ []) ≡ rows_with_steps rows = filter_no is_step rows row none in
    let led : RowsLead base.replica (without_bases rows ++ row ∷ []) old.journal.replica =
    lead_on base.replica old.journal.replica old.journal.replica (without_bases rows) (row ∷ []) p.done.led
    (old.journal.replica, inr (started_row row start, site_itself old.journal.replica), site_itself old.journal.replica) in
    let more = starts_yes rows row start in
    let was = p.starts in
    let done : AreDoneAgain base (rows ++ row ∷ []) old.journal old.positions.items = record {
      began = p.done.began;
      led = subst (λ (l : List Stored). RowsLead base.replica l old.journal.replica) (sym (filter_yes (λ r. not (is_base r)) rows row (ap not kind))) led;
      steps = p.done.steps ∙ sym steps;
      each = p.done.each ∙ sym (ap length steps);
      within = p.done.within;
      places = p.done.places ∙ sym (positions_none rows row none);
      bases = said_more base rows row p.done.bases (λ k. absurd (true≢false (sym k ∙ kind)));
    } in
    record {
      fresh = subst IsFromNew (sym journal) p.fresh;
      limit = ap (λ (j : JournalState). j.limit) journal ∙ p.limit;
      count = subst (λ (j : JournalState). j.count ≡ length j.steps) (sym journal) p.count;
      few = subst (λ (j : JournalState). length j.steps ≤ MOST_STEPS) (sym journal) p.few;
      done = subst (λ (j : JournalState). AreDoneAgain base (rows ++ row ∷ []) j new.positions.items) (sym journal)
          (subst (AreDoneAgain base (rows ++ row ∷ []) old.journal) (sym positions) done);
      name = name ∙ p.name;
      starts = one_more_start old.starts new.starts _ base.starts _ was starts more;
    }

-- a journal that isn't full has fewer than the most steps
pub room_left : (j : JournalState) → (IsFull j → ⊥) → j.limit ≡ MOST_STEPS → length j.steps < MOST_STEPS
room_left j room limit =
    let none : j.limit ≤ length j.steps → ⊥ = λ full. room (inl full) in
    subst (λ n. length j.steps < n) limit (omega (arith, none))

-- with one step more it has at most these
one_more_few : (before now most : ℕ) → before < most → now ≡ before + 1 → now ≤ most
one_more_few before now most less more = omega (arith, less, more)

-- a step
pub step_walked : (base : StoredBase) (rows : List Stored) (old new : Walk) (position : ℕ) (row : Stored) → is_base row ≡ false → is_start row ≡ false
    → position ≡ length rows + 1 → HasAddedStep old position row new → HasWalked base rows old → HasWalked base (rows ++ row ∷ []) new
step_walked base rows old new position row kind start at added p =
    let one = steps_here row kind start in
    let here : position ≡ 1 + length rows = at ∙ one_plus (length rows) in
    let a = added.added in
    let steps : rows_with_steps (rows ++ row ∷ []) ≡ rows_with_steps rows ++ row ∷ [] = filter_yes is_step rows row one in
    let led : RowsLead base.replica (without_bases rows ++ row ∷ []) new.journal.replica =
    lead_on base.replica old.journal.replica new.journal.replica (without_bases rows) (row ∷ []) p.done.led
    (added_leads old.journal new.journal row added.step added.row_is added.within a) in
    let more = ap length a.steps ∙ length-append old.journal.steps (added.step ∷ []) in
    let size = ap length steps ∙ length-append (rows_with_steps rows) (row ∷ []) in
    let none = starts_no rows row start in
    record {
      fresh = record { start = a.start ∙ p.fresh.start; base = subst IsNew (sym a.base) p.fresh.base };
      limit = a.limit ∙ p.limit;
      count = one_more _ _ _ _ a.count p.count more;
      few = one_more_few (length old.journal.steps) (length new.journal.steps) MOST_STEPS (room_left old.journal added.room p.limit) more;
      done = record {
        began = subst (IsSameSite base.replica) (sym a.base) p.done.began;
        led = subst (λ (l : List Stored). RowsLead base.replica l new.journal.replica) (sym (filter_yes (λ r. not (is_base r)) rows row (ap not kind))) led;
        steps = ap rows_of a.steps ∙ rows_more old.journal.steps added.step row added.row_is ∙ ap (λ (l : List Stored). l ++ row ∷ []) p.done.steps ∙ sym steps;
        each = one_more _ _ _ _ more p.done.each size;
        within = subst (All IsWithinLimits) (sym a.steps) (All-append IsWithinLimits old.journal.steps (added.step ∷ []) p.done.within
            (All-cons IsWithinLimits added.step [] added.within (All-nil IsWithinLimits)));
        places = added.positions ∙ ap (λ (l : List ℕ). l ++ position ∷ []) p.done.places
            ∙ ap (λ (n : ℕ). step_positions 1 rows ++ n ∷ []) here ∙ sym (positions_one rows row one);
        bases = said_more base rows row p.done.bases (λ k. absurd (true≢false (sym k ∙ kind)));
      };
      name = added.name ∙ p.name;
      starts = added.starts ∙ p.starts ∙ ap (λ n. min (base.starts + n) (2 ^ 64 - 1)) (sym none);
    }

-- ---- rows that are refused

-- a row whose step can't come leads the site nowhere
pub leads_nowhere : (j : JournalState) (step : Step) (row : Stored) → row_of step ≡ Some row → IsWithinLimits step → is_start row ≡ false
    → (CanCome j step → ⊥) → (to : SiteState) → RowLeads j.replica row to → ⊥
leads_nowhere j step row is within start never to (inl led) =
    let same : led.step ≡ step = one_step led.step step row led.row_is is led.within within in
    never (record { to = to; leads = subst (λ (s : Step). Leads j.replica s.deed to) same led.leads })
leads_nowhere j step row is within start never to (inr (begins, kept)) = true≢false (ap is_start (sym begins) ∙ start)

most_left : (n steps : ℕ) → n ≡ 1099511627776 → n ≡ steps → 1000000 ≤ steps
most_left n steps most is = omega (arith, most, is)

-- a journal that is full has the most steps
pub full_steps : (j : JournalState) → IsFull j → j.limit ≡ MOST_STEPS → j.count ≡ length j.steps → MOST_STEPS ≤ length j.steps
full_steps j (inl full) limit count = subst (λ n. n ≤ length j.steps) limit full
full_steps j (inr full) limit count = most_left j.count (length j.steps) full count

-- ---- rows in turn

-- the rows up to the next one, and that one
pub walked_next : (base : StoredBase) (rows : List Stored) (walk : Walk) (row : Stored) (i : ℕ) → i < length rows → row ≡ get_or rows i row
    → HasWalked base (take i rows ++ row ∷ []) walk → HasWalked base (take (i + 1) rows) walk
walked_next base rows walk row i less is p =
    subst (λ (l : List Stored). HasWalked base l walk) (sym (take_more rows i row less ∙ ap (λ (r : Stored). take i rows ++ r ∷ []) (sym is))) p

-- all rows are done again
pub walked_all : (base : StoredBase) (rows : List Stored) (walk : Walk) (n : ℕ) → length rows ≤ n → HasWalked base (take n rows) walk → HasWalked base rows walk
walked_all base rows walk n all p = subst (λ (l : List Stored). HasWalked base l walk) (take_all n rows (omega (arith, all))) p

-- a walk ends at the next row
pub stops_here : (base : StoredBase) (rows : List Stored) (walk : Walk) (row : Stored) (i position : ℕ) (fault : JournalFault) → i < length rows → row ≡ get_or rows i row
    → HasWalked base (take i rows) walk → position ≡ i + 1
    → IsRowCause base (take i rows) walk.journal.replica position row fault → StopsFor base rows fault
stops_here base rows walk row i position fault less is p at cause = record {
  place = i;
  row = row;
  is = slice_get_read rows (length rows) i row refl less is;
  site = walk.journal.replica;
  led = p.done.led;
  bases = p.done.bases;
  few = subst (λ n. n ≤ MOST_STEPS) p.done.each p.few;
  cause = subst (λ n. IsRowCause base (take i rows) walk.journal.replica n row fault) at cause;
}

-- ---- causes

-- a step that isn't done again is that of a row which the site refuses
pub step_cause : (j : JournalState) (position : ℕ) (row : Stored) (step : Step) (fault : JournalFault) → row_of step ≡ Some row → IsWithinLimits step → is_start row ≡ false
    → IsReplayCause j position step fault → IsStepCause j position row fault
step_cause j position row step (fault.Base why) is within start p = absurd p
step_cause j position row step fault.NotFromStart is within start p = absurd p
step_cause j position row step (fault.Row at why) is within start p = absurd p
step_cause j position row step (fault.Damaged at) is within start p =
    (p.0, record { stands = record { step = step; row_is = is; within = within }; room = p.1; nowhere = leads_nowhere j step row is within start p.2 })
step_cause j position row step fault.TooMany is within start p = (record { step = step; row_is = is; within = within }, p)
step_cause j position row step fault.Memory is within start p = p

-- a row whose step isn't added is refused behind the rows before it
pub row_cause : (base : StoredBase) (rows : List Stored) (walk : Walk) (position : ℕ) (row : Stored) (fault : JournalFault) → is_base row ≡ false → is_start row ≡ false
    → HasWalked base rows walk → IsStepCause walk.journal position row fault → IsRowCause base rows walk.journal.replica position row fault
row_cause base rows walk position row (fault.Base why) kind start p cause = absurd cause
row_cause base rows walk position row fault.NotFromStart kind start p cause = absurd cause
row_cause base rows walk position row (fault.Row at why) kind start p cause = (cause.0, steps_here row kind start, cause.1)
row_cause base rows walk position row (fault.Damaged at) kind start p cause =
    let room = subst (λ n. n < MOST_STEPS) p.done.each (room_left walk.journal cause.1.room p.limit) in
    (cause.0, inr (record { kind = kind; stands = cause.1.stands; room = room; nowhere = cause.1.nowhere }))
row_cause base rows walk position row fault.TooMany kind start p cause =
    (steps_here row kind start, cause.0, subst (λ n. MOST_STEPS ≤ n) p.done.each (full_steps walk.journal cause.1 p.limit p.count))
row_cause base rows walk position row fault.Memory kind start p cause = cause

-- a base that says what the site is behind rows says what the site of a walk over them is
there_said : (base : StoredBase) (rows : List Stored) (walk : Walk) (row : Stored) → HasWalked base rows walk → IsBaseThere base rows row → IsSaidBase walk row
there_said base rows walk row p there =
    let same = one_site base.replica base.replica walk.journal.replica there.site (without_bases rows) (site_itself base.replica) p.done.led there.led in
    record {
      read = there.read;
      is_read = there.is_read;
      says = record {
        same = site_through walk.journal.replica there.site there.read.replica same there.same;
        name = there.name ∙ sym p.name;
        starts = there.starts ∙ sym p.starts;
      };
    }

-- a row of which no base of the site of a walk is read doesn't say what this is
pub none_said : (walk : Walk) (row : Stored) → HasNoBase walk.journal.replica.site walk.journal.replica.names row → IsSaidBase walk row → ⊥
none_said walk row none said = none said.read said.says.same.site said.says.same.names said.is_read

-- nor does a row whose base says other
pub other_said : (walk : Walk) (row : Stored) (base : StoredBase) → IsReadBase row base → (SaysWalk walk base → ⊥) → IsSaidBase walk row → ⊥
other_said walk row base read other said =
    let same = read_once said.read base row said.is_read read in
    other (record {
      same = site_through walk.journal.replica said.read.replica base.replica said.says.same same.site;
      name = same.name ∙ said.says.name;
      starts = same.starts ∙ said.says.starts;
    })

-- a base that is refused is so behind the rows before it
pub kept_cause : (base : StoredBase) (rows : List Stored) (walk : Walk) (position : ℕ) (row : Stored) (fault : JournalFault) → is_base row ≡ true → HasWalked base rows walk
    → IsKeptBaseCause walk position row fault → IsRowCause base rows walk.journal.replica position row fault
kept_cause base rows walk position row (fault.Base why) kind p cause = absurd cause
kept_cause base rows walk position row fault.NotFromStart kind p cause = absurd cause
kept_cause base rows walk position row (fault.Row at why) kind p cause = absurd cause
kept_cause base rows walk position row (fault.Damaged at) kind p cause =
    (cause.0, inl (record { kind = kind; other = λ there. cause.1 (there_said base rows walk row p there) }))
kept_cause base rows walk position row fault.TooMany kind p cause = absurd cause
kept_cause base rows walk position row fault.Memory kind p cause = cause

-- no base is read of the first row
pub first_cause : (row : Stored) (why : BaseFault) (given : JournalFault) → (why ≡ base_fault.Memory) ⊎ IsAnyBaseCause row why
    → ((why ≡ base_fault.Memory) × (given ≡ fault.Memory)) ⊎ ((why ≢ base_fault.Memory) × (given ≡ fault.Base why)) → IsBaseCause row given
first_cause row why given cause (inl memory) = subst (IsBaseCause row) (sym memory.1) tt
first_cause row why given (inl memory) (inr (other, is)) = absurd (other memory)
first_cause row why given (inr cause) (inr (other, is)) = subst (IsBaseCause row) (sym is) cause

-- a row has no heading, so it is no base
pub no_heading : (row : Stored) (why : BaseFault) → (why ≡ base_fault.Memory) ⊎ IsHeadingCause row why → (why ≡ base_fault.Memory) ⊎ IsAnyBaseCause row why
no_heading row why (inl memory) = inl memory
no_heading row why (inr cause) = inr (inl cause)

-- it has a heading, and is no base of the site and the queues that this names
pub no_named_base : (row : Stored) (site : ℕ) (names : List (List ℕ)) (why : BaseFault) → IsHeading row site names → (why ≡ base_fault.Memory) ⊎ IsBaseRowCause site names row why
    → (why ≡ base_fault.Memory) ⊎ IsAnyBaseCause row why
no_named_base row site names why heading (inl memory) = inl memory
no_named_base row site names why heading (inr cause) = inr (inr (record { site = site; names = names; heading = heading; cause = cause }))

-- no base is read of a further row
pub unread_cause : (walk : Walk) (position : ℕ) (row : Stored) (why : BaseFault) (given : JournalFault) → (why ≡ base_fault.Memory) ⊎ HasNoBase walk.journal.replica.site walk.journal.replica.names row
    → ((why ≡ base_fault.Memory) × (given ≡ fault.Memory)) ⊎ ((why ≢ base_fault.Memory) × (given ≡ fault.Damaged position)) → IsKeptBaseCause walk position row given
unread_cause walk position row why given none (inl memory) = subst (IsKeptBaseCause walk position row) (sym memory.1) tt
unread_cause walk position row why given (inl memory) (inr (other, is)) = absurd (other memory)
unread_cause walk position row why given (inr none) (inr (other, is)) = subst (IsKeptBaseCause walk position row) (sym is) (refl, none_said walk row none)

-- so no walk begins with it
pub not_begun : (first : ℕ) (row : Stored) (fault : JournalFault) → IsBaseCause row fault → IsBeginCause first row fault
not_begun first row (fault.Base why) cause = cause
not_begun first row fault.NotFromStart cause = absurd cause
not_begun first row (fault.Row at why) cause = absurd cause
not_begun first row (fault.Damaged at) cause = absurd cause
not_begun first row fault.TooMany cause = absurd cause
not_begun first row fault.Memory cause = cause

-- the first row that is refused is so among all rows
pub begin_cause : (first : ℕ) (rows : List Stored) (row : Stored) (rest : List Stored) (fault : JournalFault) → rows ≡ row ∷ rest → IsBeginCause first row fault
    → IsJournalCause first rows fault
begin_cause first rows row rest (fault.Base why) are cause = inr (record { first = row; rest = rest; rows_are = are; cause = cause })
begin_cause first rows row rest fault.NotFromStart are (inl late) = inl (late.0, record { first = row; rest = rest; rows_are = are; some = late.1 })
begin_cause first rows row rest fault.NotFromStart are (inr old) = inr (record { first = row; rest = rest; rows_are = are; old = old })
begin_cause first rows row rest (fault.Row at why) are cause = absurd cause
begin_cause first rows row rest (fault.Damaged at) are cause = absurd cause
begin_cause first rows row rest fault.TooMany are cause = absurd cause
begin_cause first rows row rest fault.Memory are cause = cause

-- and a further row
pub rest_cause : (first : ℕ) (rows : List Stored) (row : Stored) (rest : List Stored) (base : StoredBase) (fault : JournalFault) → rows ≡ row ∷ rest → IsReadBase row base
    → IsNew base.replica → first ≡ 0 → StopsFor base rest fault → IsJournalCause first rows fault
rest_cause first rows row rest base (fault.Base why) are read new start stops = absurd stops.cause
rest_cause first rows row rest base fault.NotFromStart are read new start stops = absurd stops.cause
rest_cause first rows row rest base (fault.Row at why) are read new start stops = record { start = start; first = row; rest = rest; rows_are = are; base = base; base_is = read; new = new; stops = stops }
rest_cause first rows row rest base (fault.Damaged at) are read new start stops = record { start = start; first = row; rest = rest; rows_are = are; base = base; base_is = read; new = new; stops = stops }
rest_cause first rows row rest base fault.TooMany are read new start stops = record { start = start; first = row; rest = rest; rows_are = are; base = base; base_is = read; new = new; stops = stops }
rest_cause first rows row rest base fault.Memory are read new start stops = tt

-- ---- the journal

-- a walk over all rows is their journal
pub journal_walked : (rows : List Stored) (row : Stored) (rest : List Stored) (base : StoredBase) (walk : Walk) (store : StoreJournal) → rows ≡ row ∷ rest → IsReadBase row base
    → HasWalked base rest walk → store.journal ≡ walk.journal → store.positions.items ≡ walk.positions.items → store.name ≡ walk.name → store.starts ≡ walk.starts
    → IsJournalOfRows rows store
journal_walked rows row rest base walk store are read p journal positions name starts = record {
  first = row;
  rest = rest;
  rows_are = are;
  base = base;
  base_is = read;
  fresh = subst IsFromNew (sym journal) p.fresh;
  done = subst (λ (j : JournalState). AreDoneAgain base rest j store.positions.items) (sym journal)
      (subst (AreDoneAgain base rest walk.journal) (sym positions) p.done);
  name = name ∙ p.name;
  starts = starts ∙ p.starts;
}

one_longer : (b : Bool) (at : ℕ) (row : Stored) (xs : List ℕ) (rows : List Stored) → length xs ≡ length rows
    → length (if b then at ∷ xs else xs) ≡ length (cond b (row ∷ rows) rows)
one_longer true at row xs rows e = ap suc e
one_longer false at row xs rows e = e

-- it has a position for each step
positions_count : (at : ℕ) (rows : List Stored) → length (step_positions at rows) ≡ length (rows_with_steps rows)
positions_count at [] = refl
positions_count at (row ∷ rows) = one_longer (is_step row) at row (step_positions (at + 1) rows) (rows_with_steps rows) (positions_count (at + 1) rows)

pub walked_counted : (base : StoredBase) (rows : List Stored) (walk : Walk) → HasWalked base rows walk → length walk.positions.items ≡ length walk.journal.steps
walked_counted base rows walk p = ap length p.done.places ∙ positions_count 1 rows ∙ sym p.done.each

-- what follows of a fault
pub if_err_weaker : {T E : Type 0} {P Q : E → Type 0} (r : Result T E) → ((e : E) → P e → Q e) → IfErr r P → IfErr r Q
if_err_weaker (Ok x) f h = h
if_err_weaker (Err e) f h = f e h
