use Rattle.delta_codec.proofs.FrameLaws.{spells_same, spells_same_in}
use Rattle.delta_codec.proofs.laws.a_spelling_is_of_all_that_say_the_same.Goals as goal

pub returns : goal.returns
returns c = record { any = spells_same; one = spells_same_in }
