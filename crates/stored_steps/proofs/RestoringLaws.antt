-- Rows that are done again, and the site that they lead to.
use Rattle.std.proofs.Common.{◌≡◌, ◌<◌, ◌≤◌, ◌+◌, ◌-◌, ◌^◌, min, inl, inr, ℕ, Bool, true, false, not, ◌&&◌, List, [], ◌∷◌, ◌++◌, length, get_or, take, Option, Some, refl, sym, ap, subst, subst₂, ◌∙◌, append_assoc, append-nil, length-append, arith}
use Rattle.std.specs.Prelude.{nat_eq, count_by}
use Rattle.std.specs.List.{All, cons_option}
use Rattle.std.proofs.lemmas.List.{take_all, take_more}
use Rattle.std.proofs.lemmas.List.Elements.{All-append, All-cons, All-nil, filter-append, filter_map-append}
use Rattle.replica.specs.Site.{IsSameSite, SiteState}
use Rattle.replica.proofs.SameSites.{site_itself}
use Rattle.site_journal.specs.declared.step.Step.{Step}
use Rattle.site_journal.specs.declared.step.StepDeed.{StepDeed}
use Rattle.site_journal.specs.Journals.{HasAdded, HasDropped, IsFull, IsJournal, IsNewJournal, JournalState}
use Rattle.stored_steps.specs.declared.base.StoredBase.{StoredBase}
use Rattle.stored_steps.specs.declared.restored_site.RestoredSite.{RestoredSite}
use Rattle.stored_steps.specs.Bases.{IsOfBase, IsReadBase}
use Rattle.stored_steps.specs.Restoring.{HasReplayed, HasReplayedStep, HasRoom, IsRestoredSite, step_rows}
use Rattle.stored_steps.specs.RowsLead.{RowsLead}
use Rattle.stored_steps.specs.StartRows.{is_start, start_row}
use Rattle.stored_steps.specs.StepRows.{IsDeedWithinLimits, IsWithinLimits, row_of, row_of_deed, rows_of}
use Rattle.stored_steps.specs.Stored.{Stored}
use Rattle.stored_steps.proofs.BaseLaws.{same_base}
use Rattle.stored_steps.proofs.Replaying.{lead_on, one_site}
use Rattle.stored_steps.proofs.RowLaws.{HasForm, form_of, started_row}

-- a new journal, of no rows
pub none_replayed : (from : SiteState) (limit : ℕ) (j : JournalState) → IsNewJournal from limit j → HasReplayed from [] j
none_replayed from limit j fresh = record {
  dropped = [];
  kept = [];
  rows_are = refl;
  begun = fresh.base;
  led = subst (λ (s : SiteState). IsSameSite from s) (sym fresh.replica_is) (site_itself from);
  steps = ap rows_of fresh.steps;
  within = subst (λ (l : List Step). All IsWithinLimits l) (sym fresh.steps) (All-nil IsWithinLimits);
  count = fresh.count;
  all = λ few. refl;
}

step_rows_on : (xs ys : List Stored) → step_rows (xs ++ ys) ≡ step_rows xs ++ step_rows ys
step_rows_on xs ys = filter-append (λ stored. not (is_start stored)) xs ys

-- the rows up to the next one, and that one
pub one_more_replayed : (from : SiteState) (j : JournalState) (rows : List Stored) (stored : Stored) (i : ℕ) → i < length rows → stored ≡ get_or rows i stored → HasReplayed from (take i rows ++ stored ∷ []) j
    → HasReplayed from (take (i + 1) rows) j
one_more_replayed from j rows stored i lt is p =
    subst (λ (l : List Stored). HasReplayed from l j) (sym (take_more rows i stored lt ∙ ap (λ (r : Stored). take i rows ++ r ∷ []) (sym is))) p

-- all rows are
pub all_replayed : (from : SiteState) (j : JournalState) (rows : List Stored) (n : ℕ) → n ≡ length rows → HasReplayed from (take n rows) j → HasReplayed from rows j
all_replayed from j rows n size p = subst (λ (l : List Stored). HasReplayed from l j) (take_all n rows (omega arith)) p

no_step_row : (rows : List Stored) (stored : Stored) → stored ≡ start_row → step_rows (rows ++ stored ∷ []) ≡ step_rows rows
no_step_row rows stored is = step_rows_on rows (stored ∷ []) ∙ ap (λ (r : Stored). step_rows rows ++ step_rows (r ∷ [])) is ∙ append-nil (step_rows rows)

-- the row of a start changes nothing
pub start_replayed : (from : SiteState) (rows : List Stored) (j : JournalState) (stored : Stored) → is_start stored ≡ true → HasReplayed from rows j → HasReplayed from (rows ++ stored ∷ []) j
start_replayed from rows j stored started p =
    let is : stored ≡ start_row = started_row stored started in
    let same : step_rows (rows ++ stored ∷ []) ≡ step_rows rows = no_step_row rows stored is in
    record {
      dropped = p.dropped;
      kept = p.kept ++ stored ∷ [];
      rows_are = ap (λ (l : List Stored). l ++ stored ∷ []) p.rows_are ∙ append_assoc p.dropped p.kept (stored ∷ []);
      begun = p.begun;
      led = lead_on from j.replica j.replica rows (stored ∷ []) p.led (j.replica, inr (is, site_itself j.replica), site_itself j.replica);
      steps = p.steps ∙ sym (no_step_row p.kept stored is);
      within = p.within;
      count = p.count ∙ sym (ap length same);
      all = λ few. p.all (subst (λ (n : ℕ). n ≤ j.limit) (ap length same) few);
    }

-- of another kind no row is that of a start
other_kind : (stored : Stored) (k : ℕ) → stored.kind ≡ k → nat_eq k 6 ≡ false → is_start stored ≡ false
other_kind stored k e differs = ap (λ (n : ℕ). nat_eq n 6 && (nat_eq stored.pass 0 && nat_eq (length stored.bytes) 0)) e ∙ ap (λ (b : Bool). b && (nat_eq stored.pass 0 && nat_eq (length stored.bytes) 0)) differs

-- the row of a step is that of no start
pub no_start_row : (pass : ℕ) (d : StepDeed) (stored : Stored) → row_of_deed pass d ≡ Some stored → IsDeedWithinLimits d → is_start stored ≡ false
no_start_row pass d stored e good = by (form_of pass d stored e good)
  where
    by : HasForm d stored → is_start stored ≡ false
    by (inl a) = other_kind stored 2 a.kind refl
    by (inr (inl a)) = other_kind stored 3 a.kind_is refl
    by (inr (inr (inl a))) = other_kind stored 4 a.kind_is refl
    by (inr (inr (inr a))) = other_kind stored 5 a.kind_is refl

one_kept : (stored : Stored) → is_start stored ≡ false → step_rows (stored ∷ []) ≡ stored ∷ []
one_kept stored differs = rw differs

one_step_row : (rows : List Stored) (stored : Stored) → is_start stored ≡ false → step_rows (rows ++ stored ∷ []) ≡ step_rows rows ++ stored ∷ []
one_step_row rows stored differs = step_rows_on rows (stored ∷ []) ∙ ap (λ (l : List Stored). step_rows rows ++ l) (one_kept stored differs)

one_row_more : (steps : List Step) (step : Step) (stored : Stored) → row_of step ≡ Some stored → rows_of (steps ++ step ∷ []) ≡ rows_of steps ++ stored ∷ []
one_row_more steps step stored is = filter_map-append row_of steps (step ∷ []) ∙ ap (λ (o : Option Stored). rows_of steps ++ cons_option o []) is

-- a step that was done again is that of its row
added_leads : (old new : JournalState) (stored : Stored) (step : Step) → row_of step ≡ Some stored → IsWithinLimits step → HasAdded old step new → RowsLead old.replica (stored ∷ []) new.replica
added_leads old new stored step is good added = (new.replica, inl (record { step = step; row_is = is; within = good; leads = added.done }), site_itself new.replica)

-- in a journal that had room
step_kept : (from : SiteState) (rows : List Stored) (old new : JournalState) (stored : Stored) (step : Step) → row_of step ≡ Some stored → IsWithinLimits step → HasAdded old step new → HasReplayed from rows old
    → HasReplayed from (rows ++ stored ∷ []) new
step_kept from rows old new stored step is good added p =
    let differs = no_start_row step.pass step.deed stored is good in
    let one = one_step_row rows stored differs in
    let size : length (step_rows (rows ++ stored ∷ [])) ≡ length (step_rows rows) + 1 = ap length one ∙ length-append (step_rows rows) (stored ∷ []) in
    record {
      dropped = p.dropped;
      kept = p.kept ++ stored ∷ [];
      rows_are = ap (λ (l : List Stored). l ++ stored ∷ []) p.rows_are ∙ append_assoc p.dropped p.kept (stored ∷ []);
      begun = subst (λ (s : SiteState). RowsLead from p.dropped s) (sym added.base) p.begun;
      led = lead_on from old.replica new.replica rows (stored ∷ []) p.led (added_leads old new stored step is good added);
      steps = ap rows_of added.steps ∙ one_row_more old.steps step stored is ∙ ap (λ (l : List Stored). l ++ stored ∷ []) p.steps ∙ sym (one_step_row p.kept stored differs);
      within = subst (λ (l : List Step). All IsWithinLimits l) (sym added.steps) (All-append IsWithinLimits old.steps (step ∷ []) p.within (All-cons IsWithinLimits step [] good (All-nil IsWithinLimits)));
      count = added.count ∙ ap (λ (n : ℕ). n + 1) p.count ∙ sym size;
      all = λ few. p.all (omega (arith, size, added.limit, few));
    }

-- a full journal had as many steps as it may
too_many : (j : JournalState) (n : ℕ) → IsJournal j → IsFull j → j.count ≡ n → n + 1 ≤ j.limit → ⊥
too_many j n is (inl full) count few = omega (arith, is.counted, full, count, few)
too_many j n is (inr full) count few = omega (arith, is.few, full, count, few)

-- in a journal that was full, and dropped its steps
step_alone : (from : SiteState) (rows : List Stored) (old mid new : JournalState) (stored : Stored) (step : Step) → row_of step ≡ Some stored → IsWithinLimits step → IsJournal old → IsFull old → HasDropped old mid
    → HasAdded mid step new → HasReplayed from rows old → HasReplayed from (rows ++ stored ∷ []) new
step_alone from rows old mid new stored step is good journal full drops added p =
    let differs = no_start_row step.pass step.deed stored is good in
    let one = one_step_row rows stored differs in
    let size : length (step_rows (rows ++ stored ∷ [])) ≡ length (step_rows rows) + 1 = ap length one ∙ length-append (step_rows rows) (stored ∷ []) in
    let all_steps : new.steps ≡ step ∷ [] = added.steps ∙ ap (λ (l : List Step). l ++ step ∷ []) drops.steps in
    let based : RowsLead from (rows ++ []) mid.base = lead_on from old.replica mid.base rows [] p.led drops.base in
    record {
      dropped = rows;
      kept = stored ∷ [];
      rows_are = refl;
      begun = subst₂ (λ (l : List Stored) (s : SiteState). RowsLead from l s) (append-nil rows) (sym added.base) based;
      led = lead_on from old.replica new.replica rows (stored ∷ []) p.led (subst (λ (s : SiteState). RowsLead s (stored ∷ []) new.replica) drops.replica (added_leads mid new stored step is good added));
      steps = ap rows_of all_steps ∙ one_row_more [] step stored is ∙ sym (one_kept stored differs);
      within = subst (λ (l : List Step). All IsWithinLimits l) (sym all_steps) (All-cons IsWithinLimits step [] good (All-nil IsWithinLimits));
      count = added.count ∙ ap (λ (n : ℕ). n + 1) (drops.count ∙ p.count) ∙ sym size;
      all = λ few. absurd (too_many old (length (step_rows rows)) journal full p.count (omega (arith, size, added.limit, drops.limit, few)));
    }

-- a step is done again, in a journal that makes room for it
pub step_replayed : (from : SiteState) (rows : List Stored) (old new : JournalState) (stored : Stored) (step : Step) → row_of step ≡ Some stored → IsWithinLimits step → HasReplayedStep old step new
    → HasReplayed from rows old → HasReplayed from (rows ++ stored ∷ []) new
step_replayed from rows old new stored step is good done p = by done.room
  where
    by : HasRoom old done.mid → HasReplayed from (rows ++ stored ∷ []) new
    by (inl same) = step_kept from rows done.mid new stored step is good done.added (subst (λ (j : JournalState). HasReplayed from rows j) (sym same) p)
    by (inr (journal, full, drops)) = step_alone from rows old done.mid new stored step is good journal full drops done.added p

-- and has the limit that it had
pub step_limit : (old new : JournalState) (step : Step) → HasReplayedStep old step new → new.limit ≡ old.limit
step_limit old new step done = done.added.limit ∙ by done.room
  where
    by : HasRoom old done.mid → done.mid.limit ≡ old.limit
    by (inl same) = ap (λ (j : JournalState). j.limit) same
    by (inr (journal, full, drops)) = drops.limit

-- what a journal of the base has done again is what the rows say
pub restored_from : (first : Stored) (rest : List Stored) (base : StoredBase) (starts : ℕ) (j : JournalState) → IsReadBase first base → HasReplayed base.replica rest j
    → starts ≡ min (base.starts + count_by is_start rest) (2 ^ 64 - 1) → IsRestoredSite (first ∷ rest) (record { journal = j; name = base.name; starts = starts })
restored_from first rest base starts j read done counted = record { first = first; rest = rest; rows_are = refl; base = base; base_is = read; name = refl; starts = counted; replayed = done }

-- the site that is restored is the one that the rows of the store led to
pub same_site_again : (base : StoredBase) (first : Stored) (rest : List Stored) (to : SiteState) (it : RestoredSite) → IsOfBase base first → RowsLead base.replica rest to
    → IsRestoredSite (first ∷ rest) it → IsSameSite to it.journal.replica
same_site_again base first rest to it of led is =
    let rows = is.rows_are in
    let first_is : first ≡ is.first = cc in
    let rest_is : rest ≡ is.rest = cc in
    let same = same_base base is.base first of (subst (λ (r : Stored). IsReadBase r is.base) (sym first_is) is.base_is) in
    one_site base.replica is.base.replica to it.journal.replica rest same.site led (subst (λ (l : List Stored). RowsLead is.base.replica l it.journal.replica) (sym rest_is) is.replayed.led)
