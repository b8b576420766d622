-- States grow with every event: it follows from the conditions of the steps alone.
use Rattle.std.proofs.Common.{◌≡◌, ◌≤◌, ◌||◌, ℕ, suc, true, List, [], ◌∷◌, ◌++◌, append-nil, append_assoc, length, slice_get, slice_set, Option, Some, None, Result, Ok, Err, refl, sym, ap, subst, ◌∙◌, arith}
use Rattle.std.specs.FinMap as map
use Rattle.std.specs.FinSet as set
use Rattle.std.proofs.Math.Bool.{or-true}
use Rattle.std.proofs.lemmas.Option.{slice_get_within}
use Rattle.dots.specs.declared.calls.Calls.{Calls}
use Rattle.dots.specs.declared.calls.Calls.TheVariants.{Abandoned, Completed}
use Rattle.dots.specs.declared.call_totals.CallTotals.{CallTotals}
use Rattle.operations.specs.Conditions.{IsConditionBelow}
use Rattle.operations.specs.Operations.{Operation}
use Rattle.operations.specs.Totals.{greater, totals_of}
use Rattle.dots.specs.Values.{Dot}
use Rattle.operations.proofs.ConditionOrder.{condition_below_self, condition_below_through, conditions_least}
use Rattle.dots.proofs.DotOrder.{dots_total}
use Rattle.operations.proofs.TotalsLaws.{totals_at_joined}
use Rattle.site_totals.specs.Raising.{number_of}
use Rattle.member_orset.specs.Members.{condition_at, condition_of}
use Rattle.delta.specs.DeltaStates as deltas
use Rattle.delta.specs.DeltaStates.{DeltaState, IsSame}
use Rattle.delta.specs.Joining.{DeltasAgree, IsJoinOf}
use Rattle.delta.specs.declared.frame.Frame.{Frame}
use Rattle.replica.specs.declared.refusal.Refusal.{Refusal}
use Rattle.replica.specs.declared.take_fault.TakeFault.TheVariants as take_fault
use Rattle.replica.specs.Changes.{Makes, Meaning, Refused, change_of}
use Rattle.replica.specs.Commands.{Follows, HasMade}
use Rattle.replica.specs.Deeds.{IsTakeDeed}
use Rattle.replica.specs.Site as replica
use Rattle.replica.specs.Site.{SiteState, meaning_at}
use Rattle.status_report.specs.declared.asks.Ask.{Ask}
use Rattle.status_report.specs.declared.asks.Ask.TheVariants.{Command as asked_command, Status}
use Rattle.sites_world.specs.declared.event.Event.{Event}
use Rattle.sites_world.specs.declared.event.Event.TheVariants as event
use Rattle.sites_world.specs.declared.outcome.Outcome.{Outcome}
use Rattle.sites_world.specs.declared.outcome.Outcome.TheVariants.{Answered, Cut, NoEntry, NoMemory, NoSite, Took}
use Rattle.sites_world.specs.Conditions.{ComesAt, ComesOfAsk, ComesOfCut, ComesOfDelta, ComesOfEntry, ComesOfWhole, LeadsWhere}
use Rattle.sites_world.specs.Holding.{IsSaidBy, LeadAllGrows, LeadsGrow, SiteGrows, StatesGrow, TakenStaysSaid}
use Rattle.sites_world.specs.Worlds.{site_of}
use Rattle.sites_world.specs.WorldStates.{Correspond, WorldState}
use Rattle.sites_world.proofs.Lists.{correspond_get, correspond_set, get_set_same, one_some, set_again}

-- ---- deltas

-- a delta says all that one of the same dots, conditions and totals does
alike_said : (d e : DeltaState) → IsSame d e → IsSaidBy d e
alike_said d e same = record {
  known = λ dot is. ap (λ dots. set.contains dots dot) (sym same.known) ∙ is;
  conditions = λ dot. subst (IsConditionBelow (condition_of d.members dot)) (same.conditions dot) (condition_below_self (condition_of d.members dot));
  totals = λ site queue calls. let equal = ap (λ entries. number_of calls (totals_of entries site queue)) same.totals in omega (arith, equal);
}

said_itself : (d : DeltaState) → IsSaidBy d d
said_itself d = alike_said d d (record { conditions = λ dot. refl; known = refl; totals = refl })

-- an unchanged delta says all that it said
unchanged_said : (d e : DeltaState) → deltas.IsUnchanged d e → IsSaidBy d e
unchanged_said d e same = alike_said d e (record { conditions = at; known = sym same.members.known; totals = sym same.totals })
  where
    at : (dot : Dot) → condition_of d.members dot ≡ condition_of e.members dot
    at dot = sym (λ i. condition_at (map.get (same.members.live i) dot) (set.contains (same.members.known i) dot))

said_through : (d e f : DeltaState) → IsSaidBy d e → IsSaidBy e f → IsSaidBy d f
said_through d e f one two = record {
  known = λ dot is. two.known dot (one.known dot is);
  conditions = λ dot. condition_below_through (condition_of d.members dot) (condition_of e.members dot) (condition_of f.members dot) (one.conditions dot) (two.conditions dot);
  totals = λ site queue calls. let first = one.totals site queue calls in let second = two.totals site queue calls in omega (arith, first, second);
}

-- totals are no more than the greater of them and others
greater_first : (calls : Calls) (p q : CallTotals) → number_of calls p ≤ number_of calls (greater p q)
greater_first Completed p q = grind arith
greater_first Abandoned p q = grind arith

greater_second : (calls : Calls) (p q : CallTotals) → number_of calls q ≤ number_of calls (greater p q)
greater_second Completed p q = grind arith
greater_second Abandoned p q = grind arith

-- the join of two says all that each does
module _ (d e joint : DeltaState) (agree : DeltasAgree d e) (is : IsJoinOf d e joint) where
  known_either : (dot : Dot) → (set.contains d.members.known dot || set.contains e.members.known dot) ≡ true → set.contains joint.members.known dot ≡ true
  known_either dot some = ap (λ dots. set.contains dots dot) is.members.known ∙ set.contains-union dots_total d.members.known e.members.known dot ∙ some

  totals_are : (site queue : ℕ) → totals_of joint.totals.entries site queue ≡ greater (totals_of d.totals.entries site queue) (totals_of e.totals.entries site queue)
  totals_are site queue =
      ap (λ entries. totals_of entries site queue) is.totals ∙ totals_at_joined d.totals.entries e.totals.entries (record { site = site; queue = queue })

  first_said : IsSaidBy d joint
  first_said = record {
    known = λ dot here. known_either dot (ap (λ b. b || set.contains e.members.known dot) here);
    conditions = λ dot. subst (IsConditionBelow (condition_of d.members dot)) (sym (is.members.conditions dot))
        (conditions_least (condition_of d.members dot) (condition_of e.members dot) (agree dot)).first;
    totals = λ site queue calls.
        let most = greater_first calls (totals_of d.totals.entries site queue) (totals_of e.totals.entries site queue) in
        let equal = ap (number_of calls) (totals_are site queue) in
        omega (arith, most, equal);
  }

  second_said : IsSaidBy e joint
  second_said = record {
    known = λ dot here. known_either dot (ap (λ b. set.contains d.members.known dot || b) here ∙ or-true (set.contains d.members.known dot));
    conditions = λ dot. subst (IsConditionBelow (condition_of e.members dot)) (sym (is.members.conditions dot))
        (conditions_least (condition_of d.members dot) (condition_of e.members dot) (agree dot)).second;
    totals = λ site queue calls.
        let most = greater_second calls (totals_of d.totals.entries site queue) (totals_of e.totals.entries site queue) in
        let equal = ap (number_of calls) (totals_are site queue) in
        omega (arith, most, equal);
  }

-- ---- one site

-- a site that says the same
unchanged_grows : (old new : SiteState) → replica.IsUnchanged old new → SiteGrows old new
unchanged_grows old new same = record {
  site = same.site;
  names = same.names;
  state = unchanged_said old.state new.state same.state;
  last_count = let is = same.last_count in omega (arith, is);
  last_time = let is = same.last_time in omega (arith, is);
  frames = let is = same.frames in omega (arith, is);
}

site_itself : (s : SiteState) → SiteGrows s s
site_itself s = record { site = refl; names = refl; state = said_itself s.state; last_count = omega arith; last_time = omega arith; frames = omega arith }

equal_grows : (old new : SiteState) → new ≡ old → SiteGrows old new
equal_grows old new same = subst (SiteGrows old) (sym same) (site_itself old)

-- one whose state is as it was, and that has made one frame more
framed_grows : (old new : SiteState) → new.site ≡ old.site → new.names ≡ old.names → new.state ≡ old.state → new.last_count ≡ old.last_count → new.last_time ≡ old.last_time
    → new.frames ≡ suc old.frames → SiteGrows old new
framed_grows old new site names state count time frames = record {
  site = site;
  names = names;
  state = subst (IsSaidBy old.state) (sym state) (said_itself old.state);
  last_count = omega (arith, count);
  last_time = omega (arith, time);
  frames = omega (arith, frames);
}

-- one that has made an operation
made_grows : (old new : SiteState) (o : Operation) → HasMade old o new → SiteGrows old new
made_grows old new o made = record {
  site = made.site;
  names = made.names;
  state = first_said old.state made.state.change new.state made.state.agrees made.state.joined;
  last_count = let is = made.last_count in grind (arith, is);
  last_time = let is = made.last_time in grind (arith, is);
  frames = let is = made.frames in omega (arith, is);
}

-- one that has taken a delta
taken_grows : (old new : SiteState) (d : DeltaState) → IsTakeDeed old d new → SiteGrows old new
taken_grows old new d deed = record {
  site = deed.taken.site;
  names = deed.taken.names;
  state = first_said old.state d new.state deed.may.joins.agree deed.taken.state;
  last_count = let is = deed.taken.last_count in omega (arith, is);
  last_time = let is = deed.taken.last_time in omega (arith, is);
  frames = let is = deed.taken.frames in omega (arith, is);
}

follows_grows : (old new : SiteState) (m : Meaning) (result : Result (Unit {0}) Refusal) → Follows old m new result → SiteGrows old new
follows_grows old new (Makes o) result follows = made_grows old new o follows.1
follows_grows old new (Refused refusal) result follows = unchanged_grows old new follows.1

ask_grows : (old new : SiteState) (asked : Ask) (o : Outcome) → ComesOfAsk old asked o new → SiteGrows old new
ask_grows old new (asked_command command) (Answered answer) (result, is, follows) = follows_grows old new (meaning_at old (change_of command)) result follows
ask_grows old new (asked_command command) NoMemory comes = unchanged_grows old new comes.0
ask_grows old new (asked_command command) (Cut r) comes = absurd comes
ask_grows old new (asked_command command) (Took r) comes = absurd comes
ask_grows old new (asked_command command) NoSite comes = absurd comes
ask_grows old new (asked_command command) NoEntry comes = absurd comes
ask_grows old new (Status request) (Answered answer) comes = equal_grows old new comes.1
ask_grows old new (Status request) NoMemory comes = unchanged_grows old new comes
ask_grows old new (Status request) (Cut r) comes = absurd comes
ask_grows old new (Status request) (Took r) comes = absurd comes
ask_grows old new (Status request) NoSite comes = absurd comes
ask_grows old new (Status request) NoEntry comes = absurd comes

cut_grows : (entries : ℕ) (old new : SiteState) (o : Outcome) (added : List Frame) → ComesOfCut entries old o new added → SiteGrows old new
cut_grows entries old new (Cut (Ok None)) added (empty, same, none) = equal_grows old new same
cut_grows entries old new (Cut (Ok (Some place))) added (at, frame, is, deed) =
    let made = deed.made in framed_grows old new made.site made.names made.state made.last_count made.last_time made.frames
cut_grows entries old new (Cut (Err fault)) added (is, some, most, same, none) = equal_grows old new same
cut_grows entries old new NoMemory added comes = equal_grows old new comes.0
cut_grows entries old new (Answered answer) added comes = absurd comes
cut_grows entries old new (Took r) added comes = absurd comes
cut_grows entries old new NoSite added comes = absurd comes
cut_grows entries old new NoEntry added comes = absurd comes

whole_grows : (entries : ℕ) (old new : SiteState) (o : Outcome) (added : List Frame) → ComesOfWhole entries old o new added → SiteGrows old new
whole_grows entries old new (Cut (Ok None)) added comes = absurd comes
whole_grows entries old new (Cut (Ok (Some place))) added (at, frame, is, deed) =
    let made = deed.made in framed_grows old new made.site made.names made.state made.last_count made.last_time made.frames
whole_grows entries old new (Cut (Err fault)) added (is, most, same, none) = equal_grows old new same
whole_grows entries old new NoMemory added comes = equal_grows old new comes.0
whole_grows entries old new (Answered answer) added comes = absurd comes
whole_grows entries old new (Took r) added comes = absurd comes
whole_grows entries old new NoSite added comes = absurd comes
whole_grows entries old new NoEntry added comes = absurd comes

delta_grows : (old new : SiteState) (d : DeltaState) (o : Outcome) → ComesOfDelta old d o new → SiteGrows old new
delta_grows old new d (Took (Ok u)) comes = taken_grows old new d comes
delta_grows old new d (Took (Err take_fault.CellsFull)) (joins, many, same) = unchanged_grows old new same
delta_grows old new d (Took (Err take_fault.RunsFull)) (joins, few, many, same) = unchanged_grows old new same
delta_grows old new d (Took (Err take_fault.NoSuchQueue)) comes = absurd comes
delta_grows old new d (Took (Err take_fault.NotMine)) comes = absurd comes
delta_grows old new d (Took (Err take_fault.Conflict)) comes = absurd comes
delta_grows old new d (Took (Err take_fault.Memory)) comes = absurd comes
delta_grows old new d NoMemory comes = unchanged_grows old new comes
delta_grows old new d (Answered answer) comes = absurd comes
delta_grows old new d (Cut r) comes = absurd comes
delta_grows old new d NoSite comes = absurd comes
delta_grows old new d NoEntry comes = absurd comes

entry_grows : (found : Option Frame) (old new : SiteState) (o : Outcome) → ComesOfEntry found old o new → SiteGrows old new
entry_grows None old new o comes = equal_grows old new comes.1
entry_grows (Some frame) old new o comes = delta_grows old new comes.0 o comes.2

-- growth at the site of an event, whatever its outcome
pub at_grows : (pool : List Frame) (old new : SiteState) (e : Event) (o : Outcome) (added : List Frame) → ComesAt pool old e o new added → SiteGrows old new
at_grows pool old new (event.Ask site asked) o added comes = ask_grows old new asked o comes.0
at_grows pool old new (event.Cut site) o added comes = cut_grows (length pool) old new o added comes
at_grows pool old new (event.Whole site) o added comes = whole_grows (length pool) old new o added comes
at_grows pool old new (event.Take site place) o added comes = entry_grows (slice_get pool place) old new o comes.0

-- ---- worlds

-- a world is a later one of itself
grow_itself : (w : WorldState) → StatesGrow w w
grow_itself w = record {
  names = refl;
  sites = record { lengths = refl; each = λ site old new here there. equal_grows old new (one_some new old (sym there ∙ here)) };
  added = [];
  pool = sym (append-nil w.pool);
}

site_through : (s t u : SiteState) → SiteGrows s t → SiteGrows t u → SiteGrows s u
site_through s t u one two = record {
  site = two.site ∙ one.site;
  names = two.names ∙ one.names;
  state = said_through s.state t.state u.state one.state two.state;
  last_count = let first = one.last_count in let second = two.last_count in omega (arith, first, second);
  last_time = let first = one.last_time in let second = two.last_time in omega (arith, first, second);
  frames = let first = one.frames in let second = two.frames in omega (arith, first, second);
}

-- a later one of a later one is
grow_through : (w mid to : WorldState) → StatesGrow w mid → StatesGrow mid to → StatesGrow w to
grow_through w mid to one two = record {
  names = two.names ∙ one.names;
  sites = record {
    lengths = one.sites.lengths ∙ two.sites.lengths;
    each = λ site old new here there.
        let between = correspond_get (λ site. SiteGrows) w.sites mid.sites one.sites site old here in
        site_through old between.0 new between.2 (two.sites.each site between.0 new between.1 there);
  };
  added = one.added ++ two.added;
  pool = two.pool ∙ ap (λ pool. pool ++ two.added) one.pool ∙ append_assoc w.pool one.added two.added;
}

-- with one site put in its place
site_grows : (sites : List SiteState) (site : ℕ) (old new : SiteState) → slice_get sites site ≡ Some old → SiteGrows old new
    → Correspond (λ site. SiteGrows) sites (slice_set sites site new)
site_grows sites site old new here grows =
    let all : Correspond (λ site. SiteGrows) sites sites =
    record { lengths = refl; each = λ place s t at there. equal_grows s t (one_some t s (sym there ∙ at)) } in
    subst (λ xs. Correspond (λ site. SiteGrows) xs (slice_set sites site new)) (set_again sites site old here)
    (correspond_set (λ site. SiteGrows) sites sites all site old new (slice_get_within sites site old here) grows)

pub leads_grow : LeadsGrow
leads_grow from to e o leads = by (slice_get from.sites (site_of e)) refl leads
  where
    by : (found : Option SiteState) → slice_get from.sites (site_of e) ≡ found → LeadsWhere from e o to found → StatesGrow from to
    by None here nowhere = subst (StatesGrow from) (sym nowhere.1) (grow_itself from)
    by (Some old) here at = record {
      names = at.names;
      sites = subst (Correspond (λ site. SiteGrows) from.sites) (sym at.sites) (site_grows from.sites (site_of e) old at.new here (at_grows from.pool old at.new e o at.comes.added at.comes.comes));
      added = at.comes.added;
      pool = at.comes.is;
    }

pub lead_all_grows : LeadAllGrows
lead_all_grows from to [] [] all = subst (StatesGrow from) (sym all) (grow_itself from)
lead_all_grows from to [] (o ∷ os) all = absurd all
lead_all_grows from to (e ∷ es) [] all = absurd all
lead_all_grows from to (e ∷ es) (o ∷ os) (mid, first, rest) = grow_through from mid to (leads_grow from mid e o first) (lead_all_grows mid to es os rest)

-- ---- takes

-- a site that has taken a frame says all that this does
took_says : (frame : Frame) (old new : SiteState) → ComesOfEntry (Some frame) old (Took (Ok tt)) new → IsSaidBy frame.delta new.state
took_says frame old new (copy, same, deed) =
    said_through frame.delta copy new.state (alike_said frame.delta copy same) (second_said old.state copy new.state deed.may.joins.agree deed.taken.state)

pub taken_stays_said : TakenStaysSaid
taken_stays_said from to site place frame new later outcomes found (mid, first, rest) now = by (slice_get from.sites site) refl first
  where
    by : (at : Option SiteState) → slice_get from.sites site ≡ at → LeadsWhere from (event.Take site place) (Took (Ok tt)) mid at → IsSaidBy frame.delta new.state
    by None none nowhere = absurd (not_there nowhere.0)
      where
        not_there : Took (Ok tt) ≡ NoSite → ⊥
        not_there e = (cc)
    by (Some old) here at =
        let reported = subst (λ x. ComesOfEntry x old (Took (Ok tt)) at.new) found at.comes.comes.0 in
        let there = ap (λ sites. slice_get sites site) at.sites ∙ get_set_same from.sites site at.new (slice_get_within from.sites site old here) in
        let grown = (lead_all_grows mid to later outcomes rest).sites.each site at.new new there now in
        said_through frame.delta at.new.state new.state (took_says frame old at.new reported) grown.state
