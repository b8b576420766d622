-- Sites that say the same, and do what the same rows say, say the same again.
use Rattle.std.proofs.Common.{◌≡◌, ◌≢◌, ◌<◌, ◌++◌, inl, inr, ℕ, zero, suc, List, [], ◌∷◌, length, get_or, take, Option, Some, None, Result, Err, refl, sym, ap, subst, ◌∙◌, arith}
use Rattle.std.specs.List.{All, cons_option}
use Rattle.std.proofs.lemmas.List.Elements.{All-head, All-tail}
use Rattle.delta_codec.proofs.FrameLaws.{one_frame}
use Rattle.replica.specs.declared.command.Command.{Command}
use Rattle.replica.specs.declared.refusal.Refusal.{Refusal}
use Rattle.replica.specs.declared.refusal.Refusal.TheVariants.{Memory}
use Rattle.replica.specs.Changes.{Makes, Meaning, Refused, change_of}
use Rattle.replica.specs.Commands.{Follows, IsDone}
use Rattle.replica.specs.Site.{IsSameSite, SiteState, meaning_at}
use Rattle.replica.proofs.SameDeeds.{cut_same, follows_same, take_same, whole_same}
use Rattle.replica.proofs.SameSites.{site_itself, site_through, site_turned, unchanged_site}
use Rattle.replica.proofs.TakenCopies.{taken_same}
use Rattle.status_report.specs.declared.asks.Answer.{Answer}
use Rattle.status_report.specs.declared.asks.Answer.TheVariants as answer
use Rattle.status_report.specs.declared.asks.Ask.{Ask}
use Rattle.status_report.specs.declared.asks.Ask.TheVariants as ask
use Rattle.site_journal.specs.declared.step.Step.{Step}
use Rattle.site_journal.specs.declared.step.StepDeed.{StepDeed}
use Rattle.site_journal.specs.declared.step.StepDeed.TheVariants as deed
use Rattle.site_journal.specs.Legal.{IsAsked, IsDeed, IsTook, LeadAll, Leads}
use Rattle.site_journal.proofs.Leading.{kept_at}
use Rattle.stored_steps.specs.RowsLead.{RowLeads, RowsLead}
use Rattle.stored_steps.specs.StepRows.{IsWithinLimits, row_of, row_of_ask, row_of_deed, rows_of}
use Rattle.stored_steps.specs.Stored.{Stored}
use Rattle.stored_steps.proofs.RowLaws.{no_start, one_step}

-- ---- one deed, at two sites that say the same

follows : (old : SiteState) (meant : Meaning) (new : SiteState) (result : Result (Unit {0}) Refusal) → result ≢ Err Memory → IsDone old meant new result → Follows old meant new result
follows old meant new result some (inl f) = f
follows old meant new result some (inr no_memory) = absurd (some no_memory.1)

same_ask : (s t new after : SiteState) (asked : Ask) (given : Answer) → IsSameSite s t → IsAsked s asked given new → IsAsked t asked given after → IsSameSite new after
same_ask s t new after (ask.Command command) given same p q =
    (follows_same s t same new after (change_of command) p.0 q.0 (follows s (meaning_at s (change_of command)) new p.0 p.2 p.3) (follows t (meaning_at t (change_of command)) after q.0 q.2 q.3)).1
same_ask s t new after (ask.Status request) given same p q = site_through new s after (site_turned s new p.1) (site_through s t after same q.1)

same_take : (s t new after : SiteState) (bytes : List ℕ) → IsSameSite s t → IsTook s bytes new → IsTook t bytes after → IsSameSite new after
same_take s t new after bytes same p q =
    take_same s t same new after q.frame.delta (taken_same p.frame.delta q.frame.delta (one_frame p.frame q.frame bytes p.spelled q.spelled).delta s new p.done) q.done

same_done : (s t new after : SiteState) (d : StepDeed) → IsSameSite s t → IsDeed s d new → IsDeed t d after → IsSameSite new after
same_done s t new after (deed.Asked asked given) same p q = same_ask s t new after asked given same p q
same_done s t new after (deed.Took bytes) same p q = same_take s t new after bytes same p q
same_done s t new after (deed.Cut None) same p q = site_through new s after (site_turned s new p.1) (site_through s t after same q.1)
same_done s t new after (deed.Cut (Some bytes)) same p q = (cut_same s t same new after p.frame q.frame p.done q.done).1
same_done s t new after (deed.Whole bytes) same p q = (whole_same s t same new after p.frame q.frame p.done q.done).1

pub same_led : (a b x y : SiteState) (d : StepDeed) → IsSameSite a b → Leads a d x → Leads b d y → IsSameSite x y
same_led a b x y d same p q =
    let before = site_through p.old a q.old (site_turned a p.old p.before) (site_through a b q.old same q.before) in
    let after = same_done p.old q.old p.new q.new d before p.done q.done in
    site_through x p.new y (site_turned p.new x p.after) (site_through p.new q.new y after q.after)

-- ---- rows

row_from_same : (a b to : SiteState) (row : Stored) → IsSameSite a b → RowLeads b row to → RowLeads a row to
row_from_same a b to row same (inl step) = inl (record {
  step = step.step;
  row_is = step.row_is;
  within = step.within;
  leads = record { old = step.leads.old; new = step.leads.new; before = site_through a b step.leads.old same step.leads.before; done = step.leads.done; after = step.leads.after };
})
row_from_same a b to row same (inr (is, kept)) = inr (is, site_through a b to same kept)

pub rows_from_same : (a b to : SiteState) (rows : List Stored) → IsSameSite a b → RowsLead b rows to → RowsLead a rows to
rows_from_same a b to [] same h = site_through a b to same h
rows_from_same a b to (row ∷ rows) same (mid, one, rest) = (mid, row_from_same a b mid row same one, rest)

one_row : (a b x y : SiteState) (row : Stored) → IsSameSite a b → RowLeads a row x → RowLeads b row y → IsSameSite x y
one_row a b x y row same (inl s) (inl t) =
    let steps = one_step s.step t.step row s.row_is t.row_is s.within t.within in
    same_led a b x y s.step.deed same s.leads (subst (λ (d : StepDeed). Leads b d y) (ap (λ (step : Step). step.deed) (sym steps)) t.leads)
one_row a b x y row same (inl s) (inr (is, kept)) = absurd (no_start s.step.pass s.step.deed s.within (subst (λ (r : Stored). row_of s.step ≡ Some r) is s.row_is))
one_row a b x y row same (inr (is, kept)) (inl t) = absurd (no_start t.step.pass t.step.deed t.within (subst (λ (r : Stored). row_of t.step ≡ Some r) is t.row_is))
one_row a b x y row same (inr (is, kept)) (inr (too, held)) = site_through x a y (site_turned a x kept) (site_through a b y same held)

-- rows lead to one site
pub one_site : (a b x y : SiteState) (rows : List Stored) → IsSameSite a b → RowsLead a rows x → RowsLead b rows y → IsSameSite x y
one_site a b x y [] same p q = site_through x a y (site_turned a x p) (site_through a b y same q)
one_site a b x y (row ∷ rows) same (mid, one, rest) (between, other, more) = one_site mid between x y rows (one_row a b mid between row same one other) rest more

-- where rows lead on from a site, the next one does from wherever those before it lead
pub next_leads : (rows : List Stored) (i : ℕ) (row : Stored) (from at to : SiteState) → i < length rows → row ≡ get_or rows i row → RowsLead from (take i rows) at → RowsLead from rows to
    → (mid : SiteState) × RowLeads at row mid
next_leads [] i row from at to there is led whole = absurd (omega (arith, there))
next_leads (r ∷ rows) zero row from at to there is led (mid, one, rest) =
    (mid, subst (λ (x : Stored). RowLeads at x mid) (sym is) (row_from_same at from mid r (site_turned from at led) one))
next_leads (r ∷ rows) (suc i) row from at to there is (here, one, led) (mid, other, rest) =
    next_leads rows i row here at to (omega (arith, there)) is led (rows_from_same here mid to rows (one_row from from here mid r (site_itself from) one other) rest)

-- rows lead on
pub lead_on : (a b c : SiteState) (xs ys : List Stored) → RowsLead a xs b → RowsLead b ys c → RowsLead a (xs ++ ys) c
lead_on a b c [] ys p q = rows_from_same a b c ys p q
lead_on a b c (row ∷ rows) ys (mid, one, rest) q = (mid, one, lead_on mid b c rows ys rest q)

-- ---- steps without a row

-- a step without a row leads to what says the same
still_ask : (s t : SiteState) (pass : ℕ) (asked : Ask) (given : Answer) → row_of_ask pass asked given ≡ None → IsAsked s asked given t → IsSameSite s t
still_ask s t pass (ask.Command command) answer.Done none done = absurd (cc)
still_ask s t pass (ask.Command command) (answer.Refused refusal) none done =
    unchanged_site s t (kept_at s t (ask.Command command) (answer.Refused refusal) (done.0, done.1, done.3) tt (λ e. cc))
still_ask s t pass (ask.Command command) (answer.Report bytes) none done =
    unchanged_site s t (kept_at s t (ask.Command command) (answer.Report bytes) (done.0, done.1, done.3) tt (λ e. cc))
still_ask s t pass (ask.Status request) given none done = done.1

still : (s t : SiteState) (pass : ℕ) (d : StepDeed) → row_of_deed pass d ≡ None → IsDeed s d t → IsSameSite s t
still s t pass (deed.Asked asked given) none done = still_ask s t pass asked given none done
still s t pass (deed.Took bytes) none done = absurd (cc)
still s t pass (deed.Cut None) none done = done.1
still s t pass (deed.Cut (Some bytes)) none done = absurd (cc)
still s t pass (deed.Whole bytes) none done = absurd (cc)

pub led_still : (s t : SiteState) (step : Step) → row_of step ≡ None → Leads s step.deed t → IsSameSite s t
led_still s t step none l = site_through s l.old t l.before (site_through l.old l.new t (still l.old l.new step.pass step.deed none l.done) l.after)

-- one step more in front
led_first : (from mid to : SiteState) (step : Step) (rows : List Stored) → Leads from step.deed mid → IsWithinLimits step → RowsLead mid rows to → RowsLead from (cons_option (row_of step) rows) to
led_first from mid to step rows one good more = by (row_of step) refl
  where
    by : (found : Option Stored) → row_of step ≡ found → RowsLead from (cons_option (row_of step) rows) to
    by None e = subst (λ (o : Option Stored). RowsLead from (cons_option o rows) to) (sym e) (rows_from_same from mid to rows (led_still from mid step e one) more)
    by (Some row) e =
        subst (λ (o : Option Stored). RowsLead from (cons_option o rows) to) (sym e) (mid, inl (record { step = step; row_is = e; within = good; leads = one }), more)

-- the rows of steps lead where the steps do
pub steps_lead : (from to : SiteState) (steps : List Step) → LeadAll from steps to → All IsWithinLimits steps → RowsLead from (rows_of steps) to
steps_lead from to [] h good = h
steps_lead from to (step ∷ steps) (mid, one, rest) good =
    led_first from mid to step (rows_of steps) one (All-head IsWithinLimits step steps good) (steps_lead mid to steps rest (All-tail IsWithinLimits step steps good))

-- ---- the site stays

-- what follows a meaning is at the same site, with the same queues
follows_site : (old new : SiteState) (meant : Meaning) (result : Result (Unit {0}) Refusal) → Follows old meant new result → (new.site ≡ old.site) × (new.names ≡ old.names)
follows_site old new (Makes o) result is = (is.1.site, is.1.names)
follows_site old new (Refused refusal) result is = (is.1.site, is.1.names)

asked_site : (old new : SiteState) (asked : Ask) (given : Answer) → IsAsked old asked given new → (new.site ≡ old.site) × (new.names ≡ old.names)
asked_site old new (ask.Command command) given is = follows_site old new (meaning_at old (change_of command)) is.0 (follows old (meaning_at old (change_of command)) new is.0 is.2 is.3)
asked_site old new (ask.Status request) given is = (is.1.site, is.1.names)

deed_site : (old new : SiteState) (d : StepDeed) → IsDeed old d new → (new.site ≡ old.site) × (new.names ≡ old.names)
deed_site old new (deed.Asked asked given) is = asked_site old new asked given is
deed_site old new (deed.Took bytes) is = (is.done.taken.site, is.done.taken.names)
deed_site old new (deed.Cut None) is = (is.1.site, is.1.names)
deed_site old new (deed.Cut (Some bytes)) is = (is.done.made.site, is.done.made.names)
deed_site old new (deed.Whole bytes) is = (is.done.made.site, is.done.made.names)

row_site : (from to : SiteState) (row : Stored) → RowLeads from row to → (to.site ≡ from.site) × (to.names ≡ from.names)
row_site from to row (inl step) =
    let l = step.leads in
    let is = deed_site l.old l.new step.step.deed l.done in
    (l.after.site ∙ (is.0 ∙ l.before.site), l.after.names ∙ (is.1 ∙ l.before.names))
row_site from to row (inr start) = (start.1.site, start.1.names)

-- where rows lead is the same site, with the same queues
pub rows_site : (from to : SiteState) (rows : List Stored) → RowsLead from rows to → (to.site ≡ from.site) × (to.names ≡ from.names)
rows_site from to [] same = (same.site, same.names)
rows_site from to (row ∷ rows) (mid, one, rest) =
    let here = row_site from mid row one in
    let there = rows_site mid to rows rest in
    (there.0 ∙ here.0, there.1 ∙ here.1)
