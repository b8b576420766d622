-- Events with outcomes that change nothing leave what sites say, and the pool.
use Rattle.std.proofs.Common.{◌≡◌, ℕ, true, List, [], ◌∷◌, ◌++◌, append-nil, length, slice_get, Option, Some, None, Result, Ok, Err, refl, sym, ap, subst, ◌∙◌, true≢false}
use Rattle.std.specs.List.{AllByRecursion}
use Rattle.delta.specs.DeltaStates as deltas
use Rattle.delta.specs.DeltaStates.{DeltaState}
use Rattle.delta.specs.declared.frame.Frame.{Frame}
use Rattle.replica.specs.declared.refusal.Refusal.{Refusal}
use Rattle.replica.specs.declared.take_fault.TakeFault.TheVariants as take_fault
use Rattle.replica.specs.Changes.{change_of}
use Rattle.replica.specs.Commands.{Follows}
use Rattle.replica.specs.Site as replica
use Rattle.replica.specs.Site.{SiteState, meaning_at}
use Rattle.status_report.specs.declared.asks.Ask.{Ask}
use Rattle.status_report.specs.declared.asks.Ask.TheVariants.{Command as asked_command, Status}
use Rattle.status_report.specs.Answers.{answer_of}
use Rattle.sites_world.specs.declared.event.Event.{Event}
use Rattle.sites_world.specs.declared.event.Event.TheVariants as event
use Rattle.sites_world.specs.declared.outcome.Outcome.{Outcome}
use Rattle.sites_world.specs.declared.outcome.Outcome.TheVariants.{Answered, Cut, NoEntry, NoMemory, NoSite, Took}
use Rattle.sites_world.specs.Conditions.{ComesAt, ComesOfAsk, ComesOfCut, ComesOfDelta, ComesOfEntry, ComesOfWhole, EventsLead, EventLeads, LeadsWhere}
use Rattle.sites_world.specs.Outcomes.{changes_nothing}
use Rattle.sites_world.specs.Worlds.{site_of}
use Rattle.sites_world.specs.WorldStates.{Correspond, IsUnchanged, WorldState}
use Rattle.sites_world.proofs.Lists.{correspond_get}
use Rattle.sites_world.proofs.OutcomesByConditions.{refused_follows}
use Rattle.sites_world.proofs.Unchanged.{equal_unchanged, site_unchanged, sites_unchanged}

-- ---- at one site

ask_nothing : (old new : SiteState) (asked : Ask) (o : Outcome) → ComesOfAsk old asked o new → changes_nothing o ≡ true → replica.IsUnchanged old new
ask_nothing old new (asked_command command) (Answered answer) (result, is, follows) nothing = by result is follows
  where
    by : (result : Result (Unit {0}) Refusal) → answer ≡ answer_of result → Follows old (meaning_at old (change_of command)) new result → replica.IsUnchanged old new
    by (Ok u) is follows = absurd (true≢false (sym nothing ∙ ap (λ a. changes_nothing (Answered a)) is))
    by (Err refusal) is follows = refused_follows old new (meaning_at old (change_of command)) refusal follows
ask_nothing old new (asked_command command) NoMemory comes nothing = comes.0
ask_nothing old new (asked_command command) (Cut r) comes nothing = absurd comes
ask_nothing old new (asked_command command) (Took r) comes nothing = absurd comes
ask_nothing old new (asked_command command) NoSite comes nothing = absurd comes
ask_nothing old new (asked_command command) NoEntry comes nothing = absurd comes
ask_nothing old new (Status request) (Answered answer) comes nothing = equal_unchanged old new comes.1
ask_nothing old new (Status request) NoMemory comes nothing = comes
ask_nothing old new (Status request) (Cut r) comes nothing = absurd comes
ask_nothing old new (Status request) (Took r) comes nothing = absurd comes
ask_nothing old new (Status request) NoSite comes nothing = absurd comes
ask_nothing old new (Status request) NoEntry comes nothing = absurd comes

cut_nothing : (entries : ℕ) (old new : SiteState) (o : Outcome) (added : List Frame) → ComesOfCut entries old o new added → changes_nothing o ≡ true → (new ≡ old) × (added ≡ [])
cut_nothing entries old new (Cut (Ok None)) added (empty, same, none) nothing = (same, none)
cut_nothing entries old new (Cut (Ok (Some place))) added comes nothing = absurd (true≢false (sym nothing))
cut_nothing entries old new (Cut (Err fault)) added (is, some, most, same, none) nothing = (same, none)
cut_nothing entries old new NoMemory added comes nothing = comes
cut_nothing entries old new (Answered answer) added comes nothing = absurd comes
cut_nothing entries old new (Took r) added comes nothing = absurd comes
cut_nothing entries old new NoSite added comes nothing = absurd comes
cut_nothing entries old new NoEntry added comes nothing = absurd comes

whole_nothing : (entries : ℕ) (old new : SiteState) (o : Outcome) (added : List Frame) → ComesOfWhole entries old o new added → changes_nothing o ≡ true → (new ≡ old) × (added ≡ [])
whole_nothing entries old new (Cut (Ok None)) added comes nothing = absurd comes
whole_nothing entries old new (Cut (Ok (Some place))) added comes nothing = absurd (true≢false (sym nothing))
whole_nothing entries old new (Cut (Err fault)) added (is, most, same, none) nothing = (same, none)
whole_nothing entries old new NoMemory added comes nothing = comes
whole_nothing entries old new (Answered answer) added comes nothing = absurd comes
whole_nothing entries old new (Took r) added comes nothing = absurd comes
whole_nothing entries old new NoSite added comes nothing = absurd comes
whole_nothing entries old new NoEntry added comes nothing = absurd comes

delta_nothing : (old new : SiteState) (d : DeltaState) (o : Outcome) → ComesOfDelta old d o new → changes_nothing o ≡ true → replica.IsUnchanged old new
delta_nothing old new d (Took (Ok u)) comes nothing = absurd (true≢false (sym nothing))
delta_nothing old new d (Took (Err take_fault.CellsFull)) comes nothing = comes.2
delta_nothing old new d (Took (Err take_fault.RunsFull)) (joins, few, many, same) nothing = same
delta_nothing old new d (Took (Err take_fault.NoSuchQueue)) comes nothing = absurd comes
delta_nothing old new d (Took (Err take_fault.NotMine)) comes nothing = absurd comes
delta_nothing old new d (Took (Err take_fault.Conflict)) comes nothing = absurd comes
delta_nothing old new d (Took (Err take_fault.Memory)) comes nothing = absurd comes
delta_nothing old new d NoMemory comes nothing = comes
delta_nothing old new d (Answered answer) comes nothing = absurd comes
delta_nothing old new d (Cut r) comes nothing = absurd comes
delta_nothing old new d NoSite comes nothing = absurd comes
delta_nothing old new d NoEntry comes nothing = absurd comes

entry_nothing : (found : Option Frame) (old new : SiteState) (o : Outcome) → ComesOfEntry found old o new → changes_nothing o ≡ true → replica.IsUnchanged old new
entry_nothing None old new o comes nothing = equal_unchanged old new comes.1
entry_nothing (Some frame) old new o comes nothing = delta_nothing old new comes.0 o comes.2 nothing

-- an event with an outcome that changes nothing leaves its site, and adds no entry
at_nothing : (pool : List Frame) (old new : SiteState) (e : Event) (o : Outcome) (added : List Frame) → ComesAt pool old e o new added → changes_nothing o ≡ true
    → replica.IsUnchanged old new × (added ≡ [])
at_nothing pool old new (event.Ask site asked) o added comes nothing = (ask_nothing old new asked o comes.0 nothing, comes.1)
at_nothing pool old new (event.Cut site) o added comes nothing = let is = cut_nothing (length pool) old new o added comes nothing in (equal_unchanged old new is.0, is.1)
at_nothing pool old new (event.Whole site) o added comes nothing = let is = whole_nothing (length pool) old new o added comes nothing in (equal_unchanged old new is.0, is.1)
at_nothing pool old new (event.Take site place) o added comes nothing = (entry_nothing (slice_get pool place) old new o comes.0 nothing, comes.1)

-- ---- worlds

-- a world is as it is
unchanged_itself : (w : WorldState) → IsUnchanged w w
unchanged_itself w = record { names = refl; sites = sites_unchanged w.sites; pool = refl }

-- an event with an outcome that changes nothing leaves what the sites say
leads_nothing : (from to : WorldState) (e : Event) (o : Outcome) → EventLeads from e o to → changes_nothing o ≡ true → IsUnchanged from to
leads_nothing from to e o leads nothing = by (slice_get from.sites (site_of e)) refl leads
  where
    by : (found : Option SiteState) → slice_get from.sites (site_of e) ≡ found → LeadsWhere from e o to found → IsUnchanged from to
    by None here nowhere = subst (IsUnchanged from) (sym nowhere.1) (unchanged_itself from)
    by (Some old) here at =
        let is = at_nothing from.pool old at.new e o at.comes.added at.comes.comes nothing in
        record {
          names = at.names;
          sites = subst (Correspond (λ site. replica.IsUnchanged) from.sites) (sym at.sites) (site_unchanged from.sites (site_of e) old at.new here is.0);
          pool = at.comes.is ∙ ap (λ added. from.pool ++ added) is.1 ∙ append-nil from.pool;
        }

-- what is unchanged of what is unchanged is
delta_through : (x y z : DeltaState) → deltas.IsUnchanged x y → deltas.IsUnchanged y z → deltas.IsUnchanged x z
delta_through x y z one two = record {
  members = record {
    known = two.members.known ∙ one.members.known;
    live = two.members.live ∙ one.members.live;
    ids = two.members.ids ∙ one.members.ids;
    spent = two.members.spent ∙ one.members.spent;
    retired = two.members.retired ∙ one.members.retired;
  };
  totals = two.totals ∙ one.totals;
}

site_through : (s t u : SiteState) → replica.IsUnchanged s t → replica.IsUnchanged t u → replica.IsUnchanged s u
site_through s t u one two = record {
  site = two.site ∙ one.site;
  names = two.names ∙ one.names;
  state = delta_through s.state t.state u.state one.state two.state;
  pending = delta_through s.pending t.pending u.pending one.pending two.pending;
  last_count = two.last_count ∙ one.last_count;
  last_time = two.last_time ∙ one.last_time;
  frames = two.frames ∙ one.frames;
}

world_through : (w mid to : WorldState) → IsUnchanged w mid → IsUnchanged mid to → IsUnchanged w to
world_through w mid to one two = record {
  names = two.names ∙ one.names;
  sites = record {
    lengths = one.sites.lengths ∙ two.sites.lengths;
    each = λ site old new here there.
        let between = correspond_get (λ site. replica.IsUnchanged) w.sites mid.sites one.sites site old here in
        site_through old between.0 new between.2 (two.sites.each site between.0 new between.1 there);
  };
  pool = two.pool ∙ one.pool;
}

-- events with outcomes that change nothing leave what the sites say
pub all_nothing : (from to : WorldState) (events : List Event) (outcomes : List Outcome) → EventsLead from events outcomes to → AllByRecursion (λ o. changes_nothing o ≡ true) outcomes
    → IsUnchanged from to
all_nothing from to [] [] all nothing = subst (IsUnchanged from) (sym all) (unchanged_itself from)
all_nothing from to [] (o ∷ os) all nothing = absurd all
all_nothing from to (e ∷ es) [] all nothing = absurd all
all_nothing from to (e ∷ es) (o ∷ os) (mid, first, rest) nothing = world_through from mid to (leads_nothing from mid e o first nothing.0) (all_nothing mid to es os rest nothing.1)
