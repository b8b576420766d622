-- The site that is restored of a table.
use Rattle.std.proofs.Common.{◌≡◌, ◌≢◌, ◌⊎◌, ◌+◌, ◌-◌, ◌^◌, ◌∙◌, min, ⊎_elim, inl, inr, ℕ, List, [], ◌∷◌, ◌++◌, sym, ap₂, subst}
use Rattle.std.specs.Prelude.{count_by}
use Rattle.sqlite.specs.Order.{Row}
use Rattle.site_journal.specs.declared.step.Step.{Step}
use Rattle.site_journal.proofs.Leading.{lead_same}
use Rattle.stored_steps.specs.declared.restored_site.RestoredSite.{RestoredSite}
use Rattle.stored_steps.specs.Bases.{IsReadBase}
use Rattle.stored_steps.specs.Restoring.{IsRestoredSite}
use Rattle.stored_steps.specs.RowsLead.{MakeSite, RowsLead}
use Rattle.stored_steps.specs.StartRows.{is_start}
use Rattle.stored_steps.specs.StepRows.{rows_of}
use Rattle.stored_steps.specs.Stored.{Stored}
use Rattle.stored_steps.proofs.BaseLaws.{same_base}
use Rattle.stored_steps.proofs.Replaying.{one_site, rows_site, steps_lead}
use Rattle.site_store.specs.Steps.{Lists}
use Rattle.site_store.proofs.RowLemmas.{lists_once}
use Rattle.step_database.specs.Standing.{IsFoundSite, StandForSteps, StoreOrigin}
use Rattle.step_database.specs.Databases.{HasSteps, HasStepsOrMore}

-- the site that is restored of rows that stand for steps has done them
restored_stands : (origin : StoreOrigin) (rows : List Stored) (steps : List Step) (found : RestoredSite) → StandForSteps origin rows steps → IsRestoredSite rows found → IsFoundSite origin steps found
restored_stands origin rows steps found s is =
    let both : s.first ∷ s.rest ≡ is.first ∷ is.rest = sym s.rows_are ∙ is.rows_are in
    let first : is.first ≡ s.first = cc in
    let rest : is.rest ≡ s.rest = cc in
    let same = same_base s.base is.base s.first s.base_is (subst (λ (r : Stored). IsReadBase r is.base) first is.base_is) in
    let led = subst (λ (l : List Stored). RowsLead is.base.replica l found.journal.replica) rest is.replayed.led in
    let counted : min (is.base.starts + count_by is_start is.rest) (2 ^ 64 - 1) ≡ min (s.base.starts + count_by is_start s.rest) (2 ^ 64 - 1) =
    ap₂ (λ (n : ℕ) (l : List Stored). min (n + count_by is_start l) (2 ^ 64 - 1)) same.starts rest in record {
      lead =
          let last = s.legal.state in
          lead_same origin.begun last found.journal.replica steps s.legal.lead
          (one_site s.base.replica is.base.replica last found.journal.replica s.rest same.site (s.lead last s.legal.lead) led);
      name = is.name ∙ (same.name ∙ s.name);
      starts = is.starts ∙ (counted ∙ sym s.starts);
    }

some_row : (rows rest : List Stored) (row : Stored) → rows ≡ row ∷ rest → rows ≢ []
some_row rows rest row are none = cc

-- a table whose rows stand for steps is restored as a site that has done them
pub found_site : (table : List Row) (origin : StoreOrigin) (steps : List Step) → HasSteps table origin steps → (first : ℕ) (rows : List Stored) (found : RestoredSite) → Lists table first rows → IsRestoredSite rows found
    → IsFoundSite origin steps found
found_site table origin steps it first rows found lists is =
    let same = (lists_once table it.first first it.rows rows it.lists lists (some_row it.rows it.stand.rest it.stand.first it.stand.rows_are)).1 in
    restored_stands origin it.rows steps found it.stand (subst (λ (l : List Stored). IsRestoredSite l found) (sym same) is)

-- rows that stand for steps make a site
stand_makes : (origin : StoreOrigin) (rows : List Stored) (steps : List Step) → StandForSteps origin rows steps → MakeSite origin.begun.site origin.begun.names rows
stand_makes origin rows steps s =
    let last = s.legal.state in
    let led = s.lead last s.legal.lead in
    let here = rows_site s.base.replica last s.rest led in
    let there = rows_site origin.begun last (rows_of steps) (steps_lead origin.begun last steps s.legal.lead s.within) in record {
      base = s.base;
      first = s.first;
      rest = s.rest;
      to = last;
      rows_are = s.rows_are;
      base_is = s.base_is;
      site_is = sym here.0 ∙ there.0;
      names_are = sym here.1 ∙ there.1;
      lead = led;
    }

-- a table whose rows stand for steps has rows that make a site
pub found_makes : (table : List Row) (origin : StoreOrigin) (steps : List Step) → HasSteps table origin steps → (first : ℕ) × (rows : List Stored) × Lists table first rows × MakeSite origin.begun.site origin.begun.names rows
found_makes table origin steps it = (it.first, it.rows, it.lists, stand_makes origin it.rows steps it.stand)

-- also where further steps may stand behind them
pub either_site : (table : List Row) (origin : StoreOrigin) (steps more : List Step) → HasStepsOrMore table origin steps more → (first : ℕ) (rows : List Stored) (found : RestoredSite) → Lists table first rows → IsRestoredSite rows found
    → IsFoundSite origin steps found ⊎ IsFoundSite origin (steps ++ more) found
either_site table origin steps more it first rows found lists is =
    ⊎_elim (λ just. inl (found_site table origin steps just first rows found lists is)) (λ all. inr (found_site table origin (steps ++ more) all first rows found lists is)) it

pub either_makes : (table : List Row) (origin : StoreOrigin) (steps more : List Step) → HasStepsOrMore table origin steps more → (first : ℕ) × (rows : List Stored) × Lists table first rows × MakeSite origin.begun.site origin.begun.names rows
either_makes table origin steps more it = ⊎_elim (λ just. found_makes table origin steps just) (λ all. found_makes table origin (steps ++ more) all) it
