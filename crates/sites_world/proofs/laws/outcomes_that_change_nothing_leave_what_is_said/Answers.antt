use Rattle.std.proofs.Common.{◌≡◌, true}
use Rattle.std.proofs.lemmas.List.Elements.{recursion_from_All}
use Rattle.sites_world.specs.Outcomes.{changes_nothing}
use Rattle.sites_world.proofs.NothingChanged.{all_nothing}
use Rattle.sites_world.proofs.laws.outcomes_that_change_nothing_leave_what_is_said.Goals as goal

pub returns : goal.returns
returns c = λ from to events outcomes all nothing. all_nothing from to events outcomes all (recursion_from_All (λ o. changes_nothing o ≡ true) outcomes nothing)
