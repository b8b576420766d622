-- What changes nothing leaves the sites as they were.
use Rattle.std.proofs.Common.{◌≡◌, inl, inr, ℕ, true, List, slice_get, slice_set, Some, Result, Ok, Err, refl, sym, ap, subst, ◌∙◌, true≢false}
use Rattle.std.proofs.lemmas.Option.{slice_get_within}
use Rattle.replica.specs.declared.refusal.Refusal.{Refusal}
use Rattle.replica.specs.Changes.{Makes, Meaning, Refused, change_of}
use Rattle.replica.specs.Commands.{IsDone}
use Rattle.replica.specs.Site.{IsUnchanged, SiteState, meaning_at}
use Rattle.replica.proofs.PlannedCommands.{itself}
use Rattle.status_report.specs.declared.asks.Answer.{Answer}
use Rattle.status_report.specs.declared.asks.Ask.{Ask}
use Rattle.status_report.specs.declared.asks.Ask.TheVariants.{Command as asked_command, Status}
use Rattle.status_report.specs.Answers.{AnswersCommand, KeepsAtStatus, answer_of}
use Rattle.sites_world.specs.Outcomes.{changes_nothing}
use Rattle.sites_world.specs.SiteOutcomes.{answer_outcome}
use Rattle.sites_world.specs.WorldStates.{Correspond}
use Rattle.sites_world.proofs.Lists.{correspond_set, one_some, set_again}

-- a site that is as it was says the same
pub equal_unchanged : (old new : SiteState) → new ≡ old → IsUnchanged old new
equal_unchanged old new is = subst (IsUnchanged old) (sym is) (itself old)

-- a command that is done is not refused
done_refused : (r : Refusal) (result : Result (Unit {0}) Refusal) → result ≡ Ok tt → result ≡ Err r → ⊥
done_refused r result done refused = cc

-- an answer that changes nothing leaves the site as it was
pub answered_unchanged : (old new : SiteState) (asked : Ask) (answer : Answer) → AnswersCommand old asked new answer → KeepsAtStatus old asked new
    → changes_nothing (answer_outcome answer) ≡ true → IsUnchanged old new
answered_unchanged old new (Status request) answer answers kept nothing = equal_unchanged old new kept
answered_unchanged old new (asked_command command) answer (result, is, done) kept nothing = by result is done
  where
    meant : (m : Meaning) (r : Refusal) → IsDone old m new (Err r) → IsUnchanged old new
    meant m r (inr stays) = stays.0
    meant (Makes o) r (inl follows) = absurd (done_refused r (Err r) follows.0 refl)
    meant (Refused x) r (inl follows) = follows.1

    by : (result : Result (Unit {0}) Refusal) → answer ≡ answer_of result → IsDone old (meaning_at old (change_of command)) new result → IsUnchanged old new
    by (Ok u) is done = absurd (true≢false (sym nothing ∙ ap (λ a. changes_nothing (answer_outcome a)) is))
    by (Err r) is done = meant (meaning_at old (change_of command)) r done

-- sites are as they are
pub sites_unchanged : (sites : List SiteState) → Correspond (λ site. IsUnchanged) sites sites
sites_unchanged sites = record { lengths = refl; each = λ site old new here there. subst (IsUnchanged old) (one_some old new (sym here ∙ there)) (itself old) }

-- sites are unchanged where one is replaced by a site that says the same
pub site_unchanged : (sites : List SiteState) (site : ℕ) (old new : SiteState) → slice_get sites site ≡ Some old → IsUnchanged old new
    → Correspond (λ site. IsUnchanged) sites (slice_set sites site new)
site_unchanged sites site old new here same =
    subst (λ xs. Correspond (λ site. IsUnchanged) xs (slice_set sites site new)) (set_again sites site old here)
    (correspond_set (λ site. IsUnchanged) sites sites (sites_unchanged sites) site old new (slice_get_within sites site old here) same)
