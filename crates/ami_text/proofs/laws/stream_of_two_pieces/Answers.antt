use Rattle.ami_text.proofs.Outcomes.{gives_more, reads_then, fault_more}
use Rattle.std.proofs.Common.{◌++◌}
use Rattle.ami_text.proofs.laws.stream_of_two_pieces.Goals as goal

pub returns-clause-rest : goal.returns-clause-rest
returns-clause-rest c = λ first second held messages more ending g r.
    reads_then messages more (first ++ second) (held ++ second) ending (gives_more messages first second held g) r

pub returns-clause-fault : goal.returns-clause-fault
returns-clause-fault c = λ first second messages fault r.
    (r.0 ++ second, gives_more messages first second r.0 r.1, fault_more fault r.0 second r.2)
