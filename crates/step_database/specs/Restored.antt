-- A store whose site is restored, before a start of it (this project's own).
use Rattle.std.specs.Prelude.{ℕ, ◌≡◌, ◌≢◌, ◌+◌, ◌<◌, ◌++◌, Bool, IsTrue, List, [], ◌∷◌, false, length, refl}
use Rattle.std.specs.Coded.{Coded, code_by, coded×, coded_ℕ, coded_list}
use Rattle.sqlite.specs.State.{HasCleanDisk, IsUnchanged, State}
use Rattle.replica.specs.Site.{IsSameSite, SiteState, site_code}
use Rattle.stored_steps.specs.declared.restored_site.RestoredSite.{RestoredSite}
use Rattle.stored_steps.specs.Restoring.{IsRestoredSite}
use Rattle.stored_steps.specs.StartRows.{start_row}
use Rattle.stored_steps.specs.Stored.{Stored}
use Rattle.site_store.specs.declared.restoring.TheConstants.{LAST_POSITION}
use Rattle.site_store.specs.Kept.{HoldsAll}
use Rattle.site_store.specs.Steps.{CommitsNothing, Holds, kept_schema}

-- what contracts see of a restored store: its connection, its site and what that was copied from, its name, how often the site was started, and the position of the next row
pub record RestoredState (C : Type 0) : Type 0 where
  pub conn : C
  pub replica : SiteState
  pub begun : SiteState
  pub name : List ℕ
  pub starts : ℕ
  pub next : ℕ

-- a restored store is stored as the tuple of its fields
abbrev pub restored_code : {C : Type 0} → Coded C → Coded (RestoredState C)
restored_code {C} conn =
    code_by (C × (SiteState × (SiteState × (List ℕ × (ℕ × ℕ))))) (coded× conn (coded× site_code (coded× site_code (coded× (coded_list coded_ℕ) (coded× coded_ℕ coded_ℕ))))) (λ d. (d.conn, (d.replica, (d.begun, (d.name, (d.starts, d.next))))))
    (λ p. record { conn = p.0; replica = p.1.0; begun = p.1.1.0; name = p.1.1.1.0; starts = p.1.1.1.1.0; next = p.1.1.1.1.1 }) (λ _. refl)

-- a database holds the rows from which a store's site was restored, and no transaction is open
pub record HoldsRestored {C : Type 0} (s : State) (it : RestoredState C) : Type 0 where
  pub first : ℕ
  pub rows : List Stored
  pub site : RestoredSite
  pub holds : Holds s first rows
  pub restored : IsRestoredSite rows site
  pub begun : it.begun ≡ site.journal.replica
  pub name : it.name ≡ site.name
  pub starts : it.starts ≡ site.starts
  pub next_is : it.next ≡ first + length rows
  pub outside : s.in_transaction ≡ false

-- a store is restored over a database: two more rows have a position, and if the disk is clean the database holds the rows of its site
pub record IsRestored {C : Type 0} (s : State) (it : RestoredState C) : Type 0 where
  pub fits : it.next < LAST_POSITION
  pub same : IsSameSite it.begun it.replica
  pub holds : HasCleanDisk s → HoldsRestored s it

-- a database was only read: nothing has changed, and a crash leaves only what it left before
pub record IsOnlyRead (old new : State) : Type 0 where
  pub same : HasCleanDisk new → IsUnchanged old new
  pub crash : HasCleanDisk new → CommitsNothing old new
  pub clean : HasCleanDisk new → HasCleanDisk old

-- if the disk is clean, a start adds its row behind those of a database; the kept rows stay, and the store keeps rows from then on if it is to, and else as before
pub record AddsStart (is_to_keep : Bool) (old new : State) : Type 0 where
  pub rows : HasCleanDisk new → (first : ℕ) (rows : List Stored) → Holds old first rows → rows ≢ [] → Holds new first (rows ++ start_row ∷ [])
  pub kept : HasCleanDisk new → (first : ℕ) (kept rows : List Stored) → HoldsAll old first kept rows → rows ≢ [] → HoldsAll new first kept (rows ++ start_row ∷ [])
  pub begins : HasCleanDisk new → IsTrue is_to_keep → new.now.schema ≡ kept_schema
  pub schema : HasCleanDisk new → is_to_keep ≡ false → new.now.schema ≡ old.now.schema
  pub clean : HasCleanDisk new → HasCleanDisk old
