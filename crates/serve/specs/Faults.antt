-- The faults of a session: those of its client's stream, and the state of its devices after a fault.
use Rattle.std.specs.Prelude.{◌≡◌, Bool, true, false, Result, Err, OnOk}
use Rattle.ami_text.specs.declared.feed_fault.FeedFault.{FeedFault}
use Rattle.ami_text.specs.declared.feed_fault.FeedFault.TheVariants as feed
use Rattle.serve.specs.declared.serve_fault.ServeFault.{ServeFault}
use Rattle.serve.specs.declared.serve_fault.ServeFault.TheVariants.{LineTooLong, TooManyFields, Memory}

-- the session's fault for a fault of its client's stream
abbrev pub session_fault : FeedFault → ServeFault
session_fault feed.LineTooLong = LineTooLong
session_fault feed.TooManyFields = TooManyFields
session_fault feed.Memory = Memory

-- a device of a call that may fail with a fault: it works where the call succeeded, and has failed exactly where the call returns
-- that fault
pub record FailsWith {T : Type 0} (fault : ServeFault) (result : Result T ServeFault) (failed : Bool) : Type 0 where
  pub works : OnOk result (failed ≡ false)
  pub fails : result ≡ Err fault → failed ≡ true
  pub reports : failed ≡ true → result ≡ Err fault
