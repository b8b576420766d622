-- How far a site is behind a peer (this project's own).
use Rattle.std.specs.Prelude.{ℕ, ◌≡◌, ◌+◌, ◌-◌, ◌^◌, ◌≤◌, Bool, false, min, true}
use Rattle.site_peers.specs.declared.lag.LagStep.{LagStep}
use Rattle.site_peers.specs.declared.lag.LagStep.TheVariants.{Ask, CaughtUp, Wait}

-- whether a site is behind, whether it has asked for a whole since it refused a frame, whether it has taken a frame since it asked, and
-- the time before which it does nothing
pub record LagState : Type 0 where
  pub behind : Bool
  pub asked : Bool
  pub taken : Bool
  pub next : ℕ

-- it is behind, and its time has come
abbrev pub IsDue : LagState → ℕ → Type 0
IsDue lag now = (lag.behind ≡ true) × (lag.next ≤ now)

-- a frame was taken since it asked
abbrev pub HasAnswer : LagState → Type 0
HasAnswer lag = (lag.asked ≡ true) × (lag.taken ≡ true)

-- what it does at a time: it asks, or has caught up where a frame was taken since it asked, and nothing before its time
abbrev pub IsLagStep : LagState → ℕ → LagStep → LagState → Type 0
IsLagStep old now Wait new = (IsDue old now → ⊥) × (new ≡ old)
IsLagStep old now CaughtUp new = IsDue old now × HasAnswer old × (new ≡ record old { behind = false })
IsLagStep old now Ask new =
    IsDue old now × (HasAnswer old → ⊥) × (new ≡ record old { asked = true; taken = false; next = min (now + 5_000) (2 ^ 64 - 1) })
