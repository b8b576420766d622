use Rattle.ami_text.proofs.Outcomes.{fault_more, gives_more, gives_none, gives_one, gives_then}
use Rattle.ami_text.proofs.laws.messages_so_far.Goals as goal

pub returns-clause-none : goal.returns-clause-none
returns-clause-none c = gives_none

pub returns-clause-one : goal.returns-clause-one
returns-clause-one c = gives_one

pub returns-clause-more : goal.returns-clause-more
returns-clause-more c = λ bytes piece rest messages g. gives_more messages bytes piece rest g

pub returns-clause-later : goal.returns-clause-later
returns-clause-later c = λ bytes held rest messages later g h. gives_then messages later bytes held rest g h

pub returns-clause-fault : goal.returns-clause-fault
returns-clause-fault c = λ bytes piece fault h. fault_more fault bytes piece h
