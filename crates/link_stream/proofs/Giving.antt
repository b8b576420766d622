-- What a source has given where a receiver stops.
use Rattle.std.proofs.Common.{List, None, Option, Some, [], arith, sym, ℕ}
use Rattle.std.proofs.KnownBytes.{Keeps-refl}
use Rattle.std.specs.Io.KnownBytes.{Consumes, Keeps}
use Rattle.link_stream.specs.Receiving.{GivesAt}
use Rattle.link_stream.specs.declared.receive_fault.ReceiveFault.{ReceiveFault}
use Rattle.link_stream.specs.declared.receive_fault.ReceiveFault.TheVariants.{Memory}

-- a source that keeps what it has left
consumes_none : (before after : Option (List ℕ)) → Keeps before after → Consumes before after []
consumes_none None after keeps = tt
consumes_none (Some left) None keeps = absurd keeps
consumes_none (Some left) (Some now) keeps = sym keeps

-- nothing was given
pub gives_of_keeps : (fault : ReceiveFault) (before after : Option (List ℕ)) → Keeps before after → GivesAt fault before after
gives_of_keeps Memory before after keeps = record { bytes = []; given = consumes_none before after keeps; few = omega arith }
gives_of_keeps fault before after keeps = keeps

-- nothing was read
pub gives_none : (fault : ReceiveFault) (known : Option (List ℕ)) → GivesAt fault known known
gives_none fault known = gives_of_keeps fault known known (Keeps-refl known)
