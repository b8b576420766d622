-- Steps that lead from one state of a site to another.
use Rattle.std.proofs.Common.{◌≡◌, ◌≤◌, ◌+◌, inl, inr, List, [], ◌∷◌, ◌++◌, length, refl, ap, sym, ◌∙◌, subst, arith, Ok, Err, Result}
use Rattle.std.proofs.lemmas.List.{length-append}
use Rattle.replica.specs.declared.refusal.Refusal.{Refusal}
use Rattle.replica.specs.declared.refusal.Refusal.TheVariants.{Memory}
use Rattle.replica.specs.Changes.{Meaning, Makes, Refused as refused_meaning, change_of}
use Rattle.replica.specs.Commands.{IsDone}
use Rattle.replica.specs.Site as sites
use Rattle.replica.specs.Site.{IsSameSite, SiteState, meaning_at}
use Rattle.replica.proofs.SameSites.{equal_site, site_itself, site_through}
use Rattle.status_report.specs.Answers.{AnswersCommand, AnswersStatus, KeepsAtStatus, answer_of}
use Rattle.status_report.specs.declared.asks.Answer.{Answer}
use Rattle.status_report.specs.declared.asks.Answer.TheVariants.{Done, Refused}
use Rattle.status_report.specs.declared.asks.Ask.{Ask}
use Rattle.status_report.specs.declared.asks.Ask.TheVariants.{Command as asked_command, Status}
use Rattle.site_journal.specs.declared.step.Step.{Step}
use Rattle.site_journal.specs.declared.step.StepDeed.{StepDeed}
use Rattle.site_journal.specs.Journals.{IsFull, IsJournal, IsUnchanged, JournalState}
use Rattle.site_journal.specs.Legal.{IsAsked, IsDeed, LeadAll, Leads}

-- ---- steps

-- one step more
pub lead_on : (from mid to : SiteState) (steps : List Step) (step : Step) → LeadAll from steps mid → Leads mid step.deed to → LeadAll from (steps ++ step ∷ []) to
lead_on from mid to [] step h l = (to, record { old = l.old; new = l.new; before = site_through from mid l.old h l.before; done = l.done; after = l.after }, site_itself to)
lead_on from mid to (s ∷ steps) step h l = (h.0, h.1, lead_on h.0 mid to steps step h.2 l)

-- a state that says the same
pub lead_same : (from a b : SiteState) (steps : List Step) → LeadAll from steps a → IsSameSite a b → LeadAll from steps b
lead_same from a b [] h same = site_through from a b h same
lead_same from a b (s ∷ steps) h same = (h.0, h.1, lead_same h.0 a b steps h.2 same)

-- a journal with one step more
pub one_more : (j : JournalState) (step : Step) (new : SiteState) → IsJournal j → Leads j.replica step.deed new → (IsFull j → ⊥)
    → IsJournal (record { base = j.base; steps = j.steps ++ step ∷ []; start = j.start; count = j.count + 1; limit = j.limit; replica = new })
one_more j step new i l room = record {
  legal = lead_on j.base j.replica new j.steps step i.legal l;
  counted = let e = length-append j.steps (step ∷ []) in let h = i.counted in omega arith;
  within = let e = length-append j.steps (step ∷ []) in let h : (j.limit ≤ length j.steps) → ⊥ = λ p. room (inl p) in omega arith;
  most = let h : (j.count ≡ 1099511627776) → ⊥ = λ p. room (inr p) in let m = i.most in omega arith;
  some = i.some;
  few = i.few;
}

-- ---- asks

-- an answer other than out of memory is one to its ask at the state before
pub answered : (old new : SiteState) (asked : Ask) (answer : Answer) → AnswersCommand old asked new answer → AnswersStatus old asked answer → KeepsAtStatus old asked new
    → (answer ≡ Refused Memory → ⊥) → IsAsked old asked answer new
answered old new (asked_command command) answer h s keeps other = (h.0, h.1, (λ e. other (h.1 ∙ ap answer_of e)), h.2)
answered old new (Status request) answer h (inl s) keeps other = (s, equal_site old new keeps)
answered old new (Status request) answer h (inr s) keeps other = absurd (other s)

-- a command was refused
abbrev IsRefused : Result (Unit {0}) Refusal → Type 0
IsRefused (Ok u) = ⊥
IsRefused (Err refusal) = Unit {0}

-- a site is unchanged that is the same
still : (s : SiteState) → sites.IsUnchanged s s
still s = record {
  site = refl;
  names = refl;
  state = record { members = record { known = refl; live = refl; ids = refl; spent = refl; retired = refl }; totals = refl };
  pending = record { members = record { known = refl; live = refl; ids = refl; spent = refl; retired = refl }; totals = refl };
  last_count = refl;
  last_time = refl;
  frames = refl;
}

-- a refused command changes nothing
refused_still : (old new : SiteState) (meant : Meaning) (refusal : Refusal) → IsDone old meant new (Err refusal) → sites.IsUnchanged old new
refused_still old new (Makes o) refusal (inl h) = absurd (subst IsRefused h.0 tt)
refused_still old new (refused_meaning r) refusal (inl h) = h.1
refused_still old new meant refusal (inr h) = h.0

-- nothing but room has changed where a command is refused, nor where a status is asked for
pub kept_at : (old new : SiteState) (asked : Ask) (answer : Answer) → AnswersCommand old asked new answer → KeepsAtStatus old asked new → (answer ≡ Done → ⊥) → sites.IsUnchanged old new
kept_at old new (asked_command command) answer (Ok u, is, done) keeps other = absurd (other is)
kept_at old new (asked_command command) answer (Err refusal, is, done) keeps other = refused_still old new (meaning_at old (change_of command)) refusal done
kept_at old new (Status request) answer h keeps other = subst (sites.IsUnchanged old) (sym keeps) (still old)

-- what is done at a state itself leads from it
pub does : (old new : SiteState) (deed : StepDeed) → IsDeed old deed new → Leads old deed new
does old new deed h = record { old = old; new = new; before = site_itself old; done = h; after = site_itself new }

-- a journal is unchanged that is the same
pub unmoved : (j : JournalState) → IsUnchanged j j
unmoved j = record { base = refl; steps = refl; start = refl; count = refl; limit = refl; replica = still j.replica }
