use Rattle.replica.specs.SiteViews.{site_view}
use Rattle.replica.proofs.ShownCommands.{command_shown}
use Rattle.replica.proofs.ShownCounts.{count_shown}
use Rattle.replica.proofs.ShownMembers.{add_shown, remove_shown}
use Rattle.replica.proofs.ShownSettings.{set_shown}
use Rattle.replica.proofs.laws.a_done_command_shows.Goals as goal

pub returns : goal.returns
returns c = record {
  add = λ site names queue interface penalty paused label k buffer o none_past made.
      add_shown site names queue interface penalty paused label k (site_view site buffer) o none_past made;
  remove = λ site names queue interface k buffer o made. remove_shown site names queue interface k (site_view site buffer) o made;
  set = λ site names queue interface setting k buffer o made. set_shown site names queue interface setting k (site_view site buffer) o made;
  count = λ site names queue calls k buffer o made. count_shown site names queue calls k (site_view site buffer) o made;
  command = λ site names done k buffer o none_past made. command_shown site names done k (site_view site buffer) o none_past made;
}
