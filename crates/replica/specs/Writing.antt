-- The parts of a write: what is held of its dots, and its change.
use Rattle.std.specs.Prelude.{◌≡◌, None, Option, List, if◌then◌else◌}
use Rattle.std.specs.List.{list_any}
use Rattle.std.specs.Option.{option_map}
use Rattle.std.specs.FinMap as map
use Rattle.std.specs.FinSet as set
use Rattle.dots.specs.declared.call_totals.CallTotals.{CallTotals}
use Rattle.dots.specs.Values.{Dot}
use Rattle.dots.specs.Orders.{dot_cmp}
use Rattle.operations.specs.Conditions.{DotFields}
use Rattle.operations.specs.Knowledge.{is_dot}
use Rattle.operations.specs.Totals.{key_cmp}
use Rattle.member_orset.specs.Members.{Holding, IsWithinLimits, Members}
use Rattle.delta.specs.DeltaStates.{DeltaState}

-- the dots of these that are live in a set, each with its member there and with these fields
abbrev pub written_to : Members → List Dot → DotFields → Dot → Option Holding
written_to s dots fields q = if list_any (is_dot q) dots then option_map (λ h. (h.0, fields)) (map.get s.live q) else None

-- no dot is held
abbrev pub none_held : Dot → Option Holding
none_held q = None

-- one dot alone is held
abbrev pub one_held : Dot → Holding → Dot → Option Holding
one_held dot held q = map.get (map.insert {R = dot_cmp} map.empty dot held) q

-- a change has these parts: it knows these dots, holds live what is held of them, has these totals, and is within the limits
pub record HasParts (x : DeltaState) (dots : set.FinSet dot_cmp) (held : Dot → Option Holding) (entries : map.FinMap key_cmp CallTotals) : Type 0 where
  pub known : x.members.known ≡ dots
  pub live : (q : Dot) → map.get x.members.live q ≡ held q
  pub totals : x.totals.entries ≡ entries
  pub limits : IsWithinLimits x.members
