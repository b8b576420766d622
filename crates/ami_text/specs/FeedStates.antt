-- What contracts see of a feed.
use Rattle.std.specs.Prelude.{ℕ, List, Option, None, Some}
use Rattle.ami_text.specs.declared.feed_fault.FeedFault.{FeedFault}
use Rattle.ami_text.specs.declared.feed_fault.FeedFault.TheVariants.{LineTooLong, TooManyFields, Memory}

-- the bytes that belong to no message yet, and the fault that the feed has failed with
pub record FeedState : Type 0 where
  pub held : List ℕ
  pub fault : Option FeedFault

-- no fault, or one of the stream: out of memory is none
abbrev pub IsStreamFault : Option FeedFault → Type 0
IsStreamFault None = Unit {0}
IsStreamFault (Some LineTooLong) = Unit {0}
IsStreamFault (Some TooManyFields) = Unit {0}
IsStreamFault (Some Memory) = ⊥
