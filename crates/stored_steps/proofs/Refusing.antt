-- Rows that make a site are refused only for lack of room.
use Rattle.std.proofs.Common.{◌≡◌, ◌≤◌, ◌<◌, ◌⊎◌, ◌↔◌, inl, inr, ℕ, Bool, true, false, not, List, [], ◌∷◌, length, get_or, take, Result, Ok, Err, IfErr, Option, Some, refl, sym, ap, subst, ◌∙◌, arith}
use Rattle.std.proofs.lemmas.List.{length-take}
use Rattle.std.proofs.lemmas.List.Sums.{count_by-le-length, length-filter}
use Rattle.dots.specs.declared.limits.TheConstants.{MOST_COUNT}
use Rattle.replica.specs.Site.{SiteState}
use Rattle.replica.proofs.SameSites.{site_turned}
use Rattle.site_journal.specs.declared.replay_fault.ReplayFault.{ReplayFault}
use Rattle.site_journal.specs.declared.replay_fault.ReplayFault.TheVariants as replayed
use Rattle.site_journal.specs.declared.step.Step.{Step}
use Rattle.site_journal.specs.Journals.{HasDropped, IsFull, IsJournal, JournalState}
use Rattle.site_journal.specs.Legal.{Leads}
use Rattle.site_journal.specs.Replaying.{CanCome}
use Rattle.stored_steps.specs.declared.base.StoredBase.{StoredBase}
use Rattle.stored_steps.specs.declared.base_fault.BaseFault.{BaseFault}
use Rattle.stored_steps.specs.declared.base_fault.BaseFault.TheVariants as of_base
use Rattle.stored_steps.specs.declared.row_fault.RowFault.{RowFault}
use Rattle.stored_steps.specs.declared.row_fault.RowFault.TheVariants as of_row
use Rattle.stored_steps.specs.declared.store_fault.StoreFault.{StoreFault}
use Rattle.stored_steps.specs.Bases.{IsOfBase, IsReadBase}
use Rattle.stored_steps.specs.Restoring.{HasReplayed, HasRoom, step_rows}
use Rattle.stored_steps.specs.RowsLead.{MakeSite, RowLeads, RowsLead}
use Rattle.stored_steps.specs.StartRows.{is_start, start_row}
use Rattle.stored_steps.specs.StepRows.{IsWithinLimits, row_of}
use Rattle.stored_steps.specs.StoreFaults.{IsOutOfRoom, base_fault, replay_fault, row_fault}
use Rattle.stored_steps.specs.Stored.{Stored}
use Rattle.stored_steps.proofs.BaseLaws.{same_base}
use Rattle.stored_steps.proofs.Replaying.{next_leads, rows_from_same}

-- what lacks room after some steps lacks it after more
out_of_more : (m n : ℕ) (fault : StoreFault) → m ≤ n → IsOutOfRoom m fault → IsOutOfRoom n fault
out_of_more m n fault few (inl memory) = inl memory
out_of_more m n fault few (inr full) = inr (full.0, omega (arith, few, full.1))

out_of_those : {A : Type 0} (r : Result A StoreFault) (m n : ℕ) → m ≤ n → IfErr r (λ fault. IsOutOfRoom m fault) → IfErr r (λ fault. IsOutOfRoom n fault)
out_of_those (Ok a) m n few is = tt
out_of_those (Err fault) m n few is = out_of_more m n fault few is

-- and what lacks room after the rows behind the first lacks it after all rows
pub out_of_rest : {A : Type 0} (row : Stored) (rest rows : List Stored) → rows ≡ row ∷ rest → (r : Result A StoreFault) → IfErr r (λ fault. IsOutOfRoom (length rest) fault) → IfErr r (λ fault. IsOutOfRoom (length rows) fault)
out_of_rest row rest rows are r is = out_of_those r (length rest) (length rows) (omega (arith, ap length are)) is

-- ---- one step

-- a journal that has dropped its steps is full only of all that it may count
pub full_of_all : (old new : JournalState) → IsJournal old → HasDropped old new → IsFull new → new.count ≡ MOST_COUNT
full_of_all old new is dropped (inl full) = absurd (omega (arith, is.some, dropped.limit, full, ap length dropped.steps))
full_of_all old new is dropped (inr count) = count

room_replica : (old mid : JournalState) → HasRoom old mid → mid.replica ≡ old.replica
room_replica old mid (inl same) = ap (λ (j : JournalState). j.replica) same
room_replica old mid (inr (journal, full, dropped)) = dropped.replica

room_count : (old mid : JournalState) → HasRoom old mid → mid.count ≡ old.count
room_count old mid (inl same) = ap (λ (j : JournalState). j.count) same
room_count old mid (inr (journal, full, dropped)) = dropped.count

-- a step that can come is refused only for lack of room
pub step_refused : (old mid : JournalState) (step : Step) (position : ℕ) (r : Result (Unit {0}) ReplayFault) (fault : ReplayFault) → r ≡ Err fault → HasRoom old mid
    → (IsFull mid → mid.count ≡ MOST_COUNT) → (r ≡ Err replayed.JournalFull) ↔ IsFull mid → ((n : ℕ) → r ≡ Err (replayed.Damaged n) → CanCome mid step → ⊥) → CanCome old step
    → IsOutOfRoom old.count (replay_fault position fault)
step_refused old mid step position r replayed.JournalFull e room all full damaged can =
    let most = all (full.0 e) in let kept = room_count old mid room in inr (refl, omega (arith, most, kept))
step_refused old mid step position r (replayed.Damaged n) e room all full damaged can =
    absurd (damaged n e (record { to = can.to; leads = subst (λ (s : SiteState). Leads s step.deed can.to) (sym (room_replica old mid room)) can.leads }))
step_refused old mid step position r replayed.Memory e room all full damaged can = inl refl

-- ---- one row

-- what is found of a row that leads on, and is that of no start
abbrev Finds : Stored → Result Step RowFault → Type 0
Finds row r = (step : Step) → row_of step ≡ Some row → IsWithinLimits step → (r ≡ Ok step) ⊎ (r ≡ Err of_row.Memory)

no_start : {A : Type 0} (row : Stored) → is_start row ≡ false → row ≡ start_row → A
no_start row other is = absurd (let started : true ≡ is_start row = ap is_start (sym is) in let both : true ≡ false = started ∙ other in cc)

pub row_refused : (at to : SiteState) (row : Stored) (count position : ℕ) (r : Result Step RowFault) (fault : RowFault) → r ≡ Err fault → is_start row ≡ false → Finds row r → RowLeads at row to
    → IsOutOfRoom count (row_fault position fault)
row_refused at to row count position r fault e other finds (inl s) = by (finds s.step s.row_is s.within)
  where
    by : (r ≡ Ok s.step) ⊎ (r ≡ Err of_row.Memory) → IsOutOfRoom count (row_fault position fault)
    by (inl done) = absurd (let both : ◌≡◌ {A = Result Step RowFault} (Err fault) (Ok s.step) = sym e ∙ done in cc)
    by (inr memory) =
        let both : ◌≡◌ {A = Result Step RowFault} (Err fault) (Err of_row.Memory) = sym e ∙ memory in
        let is : fault ≡ of_row.Memory = cc in
        inl (ap (row_fault position) is)
row_refused at to row count position r fault e other finds (inr (is, kept)) = no_start row other is

-- the step that is read of it can come
pub row_can_come : (j : JournalState) (to : SiteState) (row : Stored) (r : Result Step RowFault) (step : Step) → r ≡ Ok step → is_start row ≡ false → Finds row r → RowLeads j.replica row to → CanCome j step
row_can_come j to row r step e other finds (inl s) = by (finds s.step s.row_is s.within)
  where
    by : (r ≡ Ok s.step) ⊎ (r ≡ Err of_row.Memory) → CanCome j step
    by (inl done) =
        let both : ◌≡◌ {A = Result Step RowFault} (Ok s.step) (Ok step) = sym done ∙ e in
        let is : s.step ≡ step = cc in
        record { to = to; leads = subst (λ (t : Step). Leads j.replica t.deed to) is s.leads }
    by (inr memory) = absurd (let both : ◌≡◌ {A = Result Step RowFault} (Ok step) (Err of_row.Memory) = sym e ∙ memory in cc)
row_can_come j to row r step e other finds (inr (is, kept)) = no_start row other is

-- ---- rows

few_steps : (rows : List Stored) → length (step_rows rows) ≤ length rows
few_steps rows = omega (arith, length-filter (λ row. not (is_start row)) rows, count_by-le-length (λ row. not (is_start row)) rows)

-- the next of rows that lead a site on is refused only for lack of room
pub next_refused : (from to : SiteState) (rows : List Stored) (i : ℕ) (row : Stored) (j : JournalState) (r : Result (Unit {0}) StoreFault) → i < length rows → row ≡ get_or rows i row → HasReplayed from (take i rows) j
    → RowsLead from rows to → ((to : SiteState) → RowLeads j.replica row to → IfErr r (λ fault. IsOutOfRoom j.count fault)) → IfErr r (λ fault. IsOutOfRoom (length rows) fault)
next_refused from to rows i row j r there is done lead refused =
    let next = next_leads rows i row from j.replica to there is done.led lead in
    let few : j.count ≤ length rows = omega (arith, done.count, few_steps (take i rows), length-take i rows, there) in
    out_of_those r j.count (length rows) few (refused next.0 next.1)

-- ---- a site

-- the base of rows that make a site is read, but out of memory
pub base_refused : (site : ℕ) (names : List (List ℕ)) (row : Stored) (rest : List Stored) (count : ℕ) (r : Result StoredBase BaseFault) (fault : BaseFault) → r ≡ Err fault
    → ((base : StoredBase) → IsOfBase base row → base.replica.site ≡ site → base.replica.names ≡ names → IfErr r (λ f. f ≡ of_base.Memory)) → MakeSite site names (row ∷ rest) → IsOutOfRoom count (base_fault fault)
base_refused site names row rest count r fault e found makes =
    let rows = makes.rows_are in
    let first_is : row ≡ makes.first = cc in
    let memory = found makes.base (subst (λ (x : Stored). IsOfBase makes.base x) (sym first_is) makes.base_is) makes.site_is makes.names_are in
    inl (ap base_fault (subst (λ (x : Result StoredBase BaseFault). IfErr x (λ f. f ≡ of_base.Memory)) e memory))

-- and the further rows lead on from what is read
pub rest_leads : (site : ℕ) (names : List (List ℕ)) (row : Stored) (rest : List Stored) (base : StoredBase) → IsReadBase row base → MakeSite site names (row ∷ rest)
    → (to : SiteState) × RowsLead base.replica rest to
rest_leads site names row rest base read makes =
    let rows = makes.rows_are in
    let first_is : row ≡ makes.first = cc in
    let rest_is : rest ≡ makes.rest = cc in
    let same = same_base makes.base base row (subst (λ (r : Stored). IsOfBase makes.base r) (sym first_is) makes.base_is) read in
    (makes.to, rows_from_same base.replica makes.base.replica makes.to rest (site_turned makes.base.replica base.replica same.site) (subst (λ (l : List Stored). RowsLead makes.base.replica l makes.to) (sym rest_is) makes.lead))
