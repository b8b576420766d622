use Rattle.std.proofs.Common.{length}
use Rattle.sites_world.specs.Worlds.{new_world}
use Rattle.scripts.specs.LineSteps.{listed_place}
use Rattle.site_audit.specs.Runs.{names_in}
use Rattle.event_script.proofs.Shows.{script_shows}
use Rattle.event_script.proofs.laws.comments_before_a_script_change_nothing_that_it_shows.Goals as goal

-- the text of comments and a script is one
pub returns : goal.returns
returns c =
    script_shows (λ lines journals. c.script_has_one_text.ensures (listed_place (length journals) (names_in journals)) (new_world (length journals)) 1 lines)
