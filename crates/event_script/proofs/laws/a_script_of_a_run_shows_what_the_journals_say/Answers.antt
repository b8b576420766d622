use Rattle.std.proofs.Common.{length, []}
use Rattle.std.proofs.lemmas.List.Elements.{All-nil}
use Rattle.sites_world.specs.Worlds.{new_world}
use Rattle.scripts.specs.LineSteps.{listed_place}
use Rattle.site_audit.specs.Runs.{names_in}
use Rattle.event_script.specs.Comments.{IsComment}
use Rattle.event_script.proofs.Shows.{script_shows}
use Rattle.event_script.proofs.laws.a_script_of_a_run_shows_what_the_journals_say.Goals as goal

-- the text of a script is one
pub returns : goal.returns
returns c =
    script_shows (λ lines journals. c.script_has_one_text.ensures (listed_place (length journals) (names_in journals)) (new_world (length journals)) 1 lines) [] (All-nil IsComment)
