use Rattle.replica.proofs.TakenCopies.{may_take_same, taken_same}
use Rattle.replica.proofs.laws.what_says_the_same_is_taken_the_same.Goals as goal

pub returns : goal.returns
returns c = record { may = λ s d e same. may_take_same d e same s; taken = λ old new d e same. taken_same d e same old new }
