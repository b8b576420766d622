-- What a crash leaves of steps.
use Rattle.std.proofs.Common.{◌≡◌, ◌≢◌, ◌⊎◌, ◌+◌, ◌-◌, ◌^◌, ◌++◌, min, ⊎_elim, inl, inr, ℕ, List, [], ◌∷◌, length, sym, ap, subst, subst₂, ◌∙◌, arith, append-nil, length-append}
use Rattle.sqlite.specs.Order.{Row}
use Rattle.sqlite.specs.State.{State}
use Rattle.sqlite.specs.Tree.{Trees}
use Rattle.replica.specs.Site.{SiteState}
use Rattle.site_journal.specs.Legal.{LeadAll}
use Rattle.site_journal.specs.declared.step.Step.{Step}
use Rattle.stored_steps.specs.Bases.{IsRowOfBase}
use Rattle.stored_steps.specs.StartRows.{start_row}
use Rattle.stored_steps.specs.Stored.{Stored}
use Rattle.site_store.specs.declared.restoring.RestoredStore.{RestoredStore}
use Rattle.site_store.specs.Kept.{HoldsAll, SparesKept}
use Rattle.site_store.specs.Restored.{IsRestoredAt}
use Rattle.site_store.specs.Steps.{Holds, LeavesOnly, Lists}
use Rattle.site_store.proofs.RowLemmas.{lists_once}
use Rattle.site_store.proofs.WriteLemmas.{holds_same}
use Rattle.stored_desk.specs.Recorded.{IsLegalHistory}
use Rattle.step_database.specs.Standing.{AreRowsOf, StandForSteps, StoreOrigin}
use Rattle.step_database.specs.Databases.{HasSteps, Keeps, Stores}
use Rattle.step_database.specs.Restored.{HoldsRestored, RestoredState}
use Rattle.step_database.proofs.Stands.{stand_anew, stand_begun, stand_on}

-- what a crash leaves of a database stands for the steps that it stores
stored_steps : (s : State) (origin : StoreOrigin) (next : ℕ) (steps : List Step) → Stores s origin next steps → (db : Trees) → s.may_leave db → HasSteps (db 0) origin steps
stored_steps s origin next steps it db may = record { first = it.first; rows = it.rows; lists = it.leaves db may; stand = it.stand }

-- what a database stores it keeps, whatever steps are under way
pub stores_keeps : (s : State) (origin : StoreOrigin) (next : ℕ) (steps more : List Step) → Stores s origin next steps → Keeps s origin steps more
stores_keeps s origin next steps more it db may = inl (stored_steps s origin next steps it db may)

-- and still while other rows that stand for them are put in their place
pub keeps_put : (old new : State) (origin : StoreOrigin) (next at : ℕ) (steps : List Step) (rows : List Stored) → Stores old origin next steps → StandForSteps origin rows steps
    → ((db : Trees) → new.may_leave db → old.may_leave db ⊎ Lists (db 0) at rows) → Keeps new origin steps []
keeps_put old new origin next at steps rows it stand crash db may =
    inl (⊎_elim (λ was. stored_steps old origin next steps it db was) (λ lists. record { first = at; rows = rows; lists = lists; stand = stand }) (crash db may))

module _ (old new : State) (origin : StoreOrigin) (next : ℕ) (steps more : List Step) (rows : List Stored) (it : Stores old origin next steps) (are : AreRowsOf rows more) (legal : IsLegalHistory origin.begun (steps ++ more)) where
  -- the rows with those of more steps stand for all of these
  pub stand_more : StandForSteps origin (it.rows ++ rows) (steps ++ more)
  stand_more = subst (λ (l : List Stored). StandForSteps origin (it.rows ++ l) (steps ++ more)) (sym are.are) (stand_on origin it.rows steps more it.stand are.within legal)

  -- a database to which they were added stores all of these
  pub stores_more : Holds new it.first (it.rows ++ rows) × LeavesOnly new it.first (it.rows ++ rows) → Stores new origin (next + length rows) (steps ++ more)
  stores_more both = record {
    first = it.first;
    rows = it.rows ++ rows;
    next_is = omega (arith, it.next_is, length-append it.rows rows);
    holds = both.0;
    leaves = both.1;
    stand = stand_more;
  }

  -- and while they are added it keeps the steps before, or has all of these
  pub keeps_more : ((db : Trees) → new.may_leave db → old.may_leave db ⊎ Lists (db 0) it.first (it.rows ++ rows)) → Keeps new origin steps more
  keeps_more crash db may =
      ⊎_elim (λ was. inl (stored_steps old origin next steps it db was)) (λ lists. inr (record { first = it.first; rows = it.rows ++ rows; lists = lists; stand = stand_more })) (crash db may)

-- steps without a row need no more rows
pub stores_rowless : (s : State) (origin : StoreOrigin) (next : ℕ) (steps more : List Step) → Stores s origin next steps → AreRowsOf [] more → IsLegalHistory origin.begun (steps ++ more) → Stores s origin next (steps ++ more)
stores_rowless s origin next steps more it are legal = record {
  first = it.first;
  rows = it.rows;
  next_is = it.next_is;
  holds = it.holds;
  leaves = it.leaves;
  stand = subst (λ (l : List Stored). StandForSteps origin l (steps ++ more)) (append-nil it.rows) (stand_more s s origin next steps more [] it are legal);
}

-- what was restored from a database, with the row of a start behind it, stands for no step of the site
pub resumed_stores : {C : Type 0} (old new : State) (it : RestoredState C) (starts : ℕ) (is : HoldsRestored old it) → starts ≡ min (it.starts + 1) (2 ^ 64 - 1) → Holds new is.first (is.rows ++ start_row ∷ [])
    → LeavesOnly new is.first (is.rows ++ start_row ∷ []) → Stores new (record { begun = it.begun; name = it.name; starts = starts }) (it.next + 1) []
resumed_stores old new it starts is counted holds leaves = record {
  first = is.first;
  rows = is.rows ++ start_row ∷ [];
  next_is = omega (arith, is.next_is, length-append is.rows (start_row ∷ []));
  holds = holds;
  leaves = leaves;
  stand =
      subst₂ (λ (r : SiteState) (n : List ℕ). StandForSteps (record { begun = r; name = n; starts = starts }) (is.rows ++ start_row ∷ []) []) (sym is.begun) (sym is.name)
      (stand_begun is.rows is.site starts is.restored (counted ∙ ap (λ (n : ℕ). min (n + 1) (2 ^ 64 - 1)) is.starts));
}

-- the next position is behind whatever rows are held
pub next_is_behind : {C : Type 0} (s : State) (it : RestoredState C) (first : ℕ) (rows : List Stored) → HoldsRestored s it → Holds s first rows → rows ≢ [] → it.next ≡ first + length rows
next_is_behind s it first rows is holds some =
    let same = lists_once (s.now.trees 0) first is.first rows is.rows holds.rows is.holds.rows some in
    let size : length rows ≡ length is.rows = ap length same.1 in
    omega (arith, is.next_is, same.0, size)

-- the same rows are held where nothing has changed
pub restored_same : (old new : State) (it : RestoredStore) → new.now ≡ old.now → IsRestoredAt old it → IsRestoredAt new it
restored_same old new it same is = record {
  first = is.first;
  rows = is.rows;
  holds = holds_same old new is.first is.rows same is.holds;
  restored = is.restored;
  next_is = is.next_is;
  counts = is.counts;
}

-- the row of the site after the steps stands for them, if it has the store's name and starts
pub base_stands : (s : State) (origin : StoreOrigin) (next : ℕ) (steps : List Step) (site : SiteState) (row : Stored) (name : List ℕ) (starts : ℕ) → Stores s origin next steps → LeadAll origin.begun steps site
    → IsRowOfBase (record { replica = site; name = name; starts = starts }) row → name ≡ origin.name → starts ≡ origin.starts → StandForSteps origin (row ∷ []) steps
base_stands s origin next steps site row name starts it lead of names counts =
    stand_anew origin it.rows steps site row it.stand lead (subst₂ (λ (n : List ℕ) (k : ℕ). IsRowOfBase (record { replica = site; name = n; starts = k }) row) names counts of)

-- ---- the rows that a store has kept

-- where other steps are held, and schema and kept rows stay, a store holds these behind the kept rows
pub all_spared : (old new : State) (first : ℕ) (kept rows more : List Stored) → HoldsAll old first kept rows → Holds new (first + length kept) more → SparesKept old new → HoldsAll new first kept more
all_spared old new first kept rows more holds steps spared = record {
  schema = spared.schema ∙ holds.schema;
  all = record { kept_are = subst (λ (all : List Row). Lists all first kept) (sym spared.kept) holds.all.kept_are; list_are = steps.rows };
}
