-- The limits of values.
use Rattle.std.specs.Prelude.{◌≡◌, ◌<◌, true, false, []}
use Rattle.std.specs.FinSet as set
use Rattle.dots.specs.declared.label.Label.{Label}
use Rattle.dots.specs.declared.limits.TheConstants.{QUEUES}
use Rattle.dots.specs.declared.member.Member.{Member}
use Rattle.dots.specs.Values.{Dot, Stamp, PauseState, IsSite, IsCount, IsText, IsName}
use Rattle.dots.specs.Orders.{dot_cmp}

-- `dot` is within the limits: it is of a site, and its count is from 1 to 2^40
pub record IsDot (dot : Dot) : Type 0 where
  pub site : IsSite dot.site
  pub count : IsCount dot.count

-- `stamp` is within the limits: it is of a site, and its time is from 1 to 2^40
pub record IsStamp (stamp : Stamp) : Type 0 where
  pub site : IsSite stamp.site
  pub time : IsCount stamp.time

-- `member` is within the limits: its queue has a number below 256, and its interface is a name
pub record IsMember (member : Member) : Type 0 where
  pub queue : member.queue < QUEUES
  pub interface : IsName member.interface

-- `pause` is within the limits: its reason is a text, and is empty where the member isn't paused
pub record IsPause (pause : PauseState) : Type 0 where
  pub reason : IsText pause.reason
  pub none : pause.paused ≡ false → pause.reason ≡ []

-- `label` is within the limits: its member name and its state interface are texts
pub record IsLabel (label : Label) : Type 0 where
  pub name : IsText label.name
  pub state : IsText label.state

-- each dot of the set `dots` is within the limits
abbrev pub AreDots : set.FinSet dot_cmp → Type 0
AreDots dots = (dot : Dot) → set.contains dots dot ≡ true → IsDot dot
