-- The end of an audit, from its parts.
use Rattle.std.proofs.Common.{◌≡◌, ◌≤◌, ◌++◌, ◌∙◌, ◌⊎◌, inl, inr, ℕ, List, [], length, Option, None, Some, Result, Ok, Err, IfOk, slice_get, count_by, refl, sym, ap, subst, append-nil, append_assoc, arith}
use Rattle.std.specs.Io.KnownBytes.{Appends}
use Rattle.std.specs.List.{All}
use Rattle.std.proofs.lemmas.Option.{slice_get_within}
use Rattle.ami_text.proofs.Taking.{taken_grows}
use Rattle.ami_text.specs.Devices.{HasTaken}
use Rattle.ami_text.specs.Lines.{lines_text}
use Rattle.event_script.specs.Comments.{IsComment}
use Rattle.event_script.specs.Lines.{HasLimits, is_unsaid, script_of}
use Rattle.site_audit.specs.Runs.{AreSites, IsRun, IsStuck}
use Rattle.site_audit.proofs.Lists.{within_some}
use Rattle.site_journal.specs.Journals.{JournalState}
use Rattle.sites_world.specs.declared.event.Event.{Event}
use Rattle.store_audit.specs.declared.audit_end.AuditEnd.{AuditEnd}
use Rattle.store_audit.specs.declared.audit_end.AuditEnd.TheVariants.{Explained, Stuck}
use Rattle.store_audit.specs.declared.splitting.Parts.{Parts}
use Rattle.store_audit.specs.declared.store_audit_fault.StoreAuditFault.{StoreAuditFault}
use Rattle.store_audit.specs.declared.store_audit_fault.StoreAuditFault.TheVariants as fault
use Rattle.store_audit.specs.declared.store_journal.StoreJournal.{StoreJournal}
use Rattle.store_audit.specs.Audits.{AreOfJournals, EndsAs, HasBegun, IsBegun, IsEndSorted, IsExplainedEnd, IsPartsCause, IsSortedCause, IsStuckEnd}
use Rattle.store_audit.specs.Headings.{heading_lines}
use Rattle.store_audit.specs.Stores.{AreInOrder, AreParts, IsOrderCause, IsRowAt, IsStepOf, journals_of}
use Rattle.store_audit.proofs.Sorted.{map_at}

-- what was written ends as the search for events did
pub ends_as : (parts : Parts) (heading : List ℕ) (events : List Event) (stuck : Option (ℕ × ℕ)) (unsaid : ℕ) (before after : Option (List ℕ)) (end : AuditEnd)
    → (stuck ≡ None → IsRun parts.journals.items events) → ((site place : ℕ) → stuck ≡ Some (site, place) → IsStuck parts.journals.items site place events)
    → unsaid ≡ count_by is_unsaid events → All HasLimits events → Appends before after (heading ++ script_of events)
    → (stuck ≡ None → IsExplainedEnd unsaid end) → ((site place : ℕ) → stuck ≡ Some (site, place) → IsStuckEnd parts site place end)
    → EndsAs parts heading before after end
ends_as parts heading events None unsaid before after (Explained count) run stuck counted limits taken explained ended =
    record { events = events; run = run refl; counted = explained refl ∙ counted; limits = limits; taken = taken }
ends_as parts heading events None unsaid before after (Stuck site position words) run stuck counted limits taken explained ended = absurd (explained refl)
ends_as parts heading events (Some (at, place)) unsaid before after (Explained count) run stuck counted limits taken explained ended = absurd (ended at place refl)
ends_as parts heading events (Some (at, place)) unsaid before after (Stuck site position words) run stuck counted limits taken explained ended =
    let there = ended at place refl in
    record {
      events = events;
      place = place;
      row = subst (λ n. IsRowAt parts n place position) (sym there.0) there.1;
      stuck = subst (λ n. IsStuck parts.journals.items n place events) (sym there.0) (stuck at place refl);
      limits = limits;
      taken = taken;
    }

-- an audit of the parts of stores is one of the stores
pub sorted_end : (sorted : List StoreJournal) (parts : Parts) (heading : List ℕ) (before after : Option (List ℕ)) (end : AuditEnd) → AreParts sorted parts
    → heading ≡ lines_text (heading_lines sorted) → All IsComment (heading_lines sorted) → AreSites (journals_of sorted) → length sorted ≤ 64
    → EndsAs parts heading before after end → IsEndSorted sorted before after end
sorted_end sorted parts heading before after (Explained unsaid) are text comments sites few ends = λ stores order. record {
  sorted = sorted;
  all = record { order = order; sites = sites; few = few };
  events = ends.events;
  run = subst (λ (js : List JournalState). IsRun js ends.events) are.journals ends.run;
  counted = ends.counted;
  written = record {
    comments = comments;
    limits = ends.limits;
    taken = subst (λ t. Appends before after (t ++ script_of ends.events)) text ends.taken;
  };
}
sorted_end sorted parts heading before after (Stuck site position words) are text comments sites few ends = λ stores order.
    let found = map_at (λ (s : StoreJournal). s.positions.items) sorted site ends.row.places (sym (ap (λ (l : List (List ℕ)). slice_get l site) are.positions) ∙ ends.row.is) in
    record {
      sorted = sorted;
      all = record { order = order; sites = sites; few = few };
      events = ends.events;
      store = found.0;
      is = found.1;
      place = ends.place;
      row = ap (λ (l : List ℕ). slice_get l ends.place) found.2 ∙ ends.row.at;
      stuck = subst (λ (js : List JournalState). IsStuck js site ends.place ends.events) are.journals ends.stuck;
      written = record {
        comments = comments;
        limits = ends.limits;
        taken = subst (λ t. Appends before after (t ++ script_of ends.events)) text ends.taken;
      };
    }

-- stores that are refused for their order
pub order_cause : (sorted : List StoreJournal) (before after : Option (List ℕ)) (fault : StoreAuditFault) → after ≡ before → IsOrderCause sorted fault
    → IsSortedCause sorted before after fault
order_cause sorted before after (fault.Doubled site) same cause = λ stores order. record { sorted = sorted; order = order; cause = cause; unwritten = same }
order_cause sorted before after (fault.Missing site) same cause = λ stores order. record { sorted = sorted; order = order; cause = cause; unwritten = same }
order_cause sorted before after (fault.OtherQueues site) same cause = λ stores order. record { sorted = sorted; order = order; cause = cause; unwritten = same }
order_cause sorted before after fault.Write same cause = absurd cause
order_cause sorted before after fault.Memory same cause = absurd cause

-- out of memory before anything was written
pub none_written : (sorted : List StoreJournal) (before after : Option (List ℕ)) → after ≡ before → AreSites (journals_of sorted) → length sorted ≤ 64
    → IsSortedCause sorted before after fault.Memory
none_written sorted before after same sites few = λ stores order. inl (record { sorted = sorted; all = record { order = order; sites = sites; few = few }; unwritten = same })

-- what was written of journals is of stores
begun_sorted : (sorted : List StoreJournal) (parts : Parts) (heading : List ℕ) (before after : Option (List ℕ)) → AreParts sorted parts → heading ≡ lines_text (heading_lines sorted) → AreSites (journals_of sorted) → length sorted ≤ 64
    → HasBegun parts heading before after → (stores : List StoreJournal) → AreInOrder stores sorted → IsBegun stores before after
begun_sorted sorted parts heading before after are text sites few begun = λ stores order. record {
  sorted = sorted;
  all = record { order = order; sites = sites; few = few };
  events = begun.events;
  of = subst (λ (js : List JournalState). AreOfJournals js begun.events) are.journals begun.of;
  taken = subst (λ t. HasTaken before after (t ++ script_of begun.events)) text begun.taken;
}

-- faults of the writer and of memory
pub parts_cause : (sorted : List StoreJournal) (parts : Parts) (heading : List ℕ) (before after : Option (List ℕ)) (cause : StoreAuditFault) → AreParts sorted parts → heading ≡ lines_text (heading_lines sorted) → AreSites (journals_of sorted)
    → length sorted ≤ 64 → IsPartsCause parts heading before after cause → IsSortedCause sorted before after cause
parts_cause sorted parts heading before after fault.Write are text sites few begun = begun_sorted sorted parts heading before after are text sites few begun
parts_cause sorted parts heading before after fault.Memory are text sites few (inl none) = none_written sorted before after none sites few
parts_cause sorted parts heading before after fault.Memory are text sites few (inr begun) = λ stores order. inr (begun_sorted sorted parts heading before after are text sites few begun stores order)
parts_cause sorted parts heading before after (fault.Doubled site) are text sites few cause = absurd cause
parts_cause sorted parts heading before after (fault.Missing site) are text sites few cause = absurd cause
parts_cause sorted parts heading before after (fault.OtherQueues site) are text sites few cause = absurd cause

-- events that explain journals, or are stuck
pub of_journals : (journals : List JournalState) (events : List Event) (stuck : Option (ℕ × ℕ)) → (stuck ≡ None → IsRun journals events) → ((site place : ℕ) → stuck ≡ Some (site, place) → IsStuck journals site place events)
    → AreOfJournals journals events
of_journals journals events None run stuck = inl (run refl)
of_journals journals events (Some (site, place)) run stuck = inr (site, place, stuck site place refl)

-- the script of events wasn't written to its end
pub script_cause : (parts : Parts) (heading : List ℕ) (events : List Event) (before after : Option (List ℕ)) (cause : StoreAuditFault) → AreOfJournals parts.journals.items events → HasTaken before after (heading ++ script_of events)
    → (cause ≡ fault.Write) ⊎ (cause ≡ fault.Memory) → IsPartsCause parts heading before after cause
script_cause parts heading events before after cause of taken (inl e) = subst (IsPartsCause parts heading before after) (sym e) (record { events = events; of = of; taken = taken })
script_cause parts heading events before after cause of taken (inr e) = subst (IsPartsCause parts heading before after) (sym e) (inr (record { events = events; of = of; taken = taken }))

-- ---- prefixes

-- a prefix of the first part is one of the whole
pub begun_first : (before after : Option (List ℕ)) (first then : List ℕ) → HasTaken before after first → HasTaken before after (first ++ then)
begun_first before after first then begun = record {
  front = begun.front;
  rest = begun.rest ++ then;
  is = ap (λ t. t ++ then) begun.is ∙ append_assoc begun.front begun.rest then;
  taken = begun.taken;
}

-- the first part with a prefix of the second is a prefix of the whole
pub begun_then : (before now after : Option (List ℕ)) (first then : List ℕ) → Appends before now first → HasTaken now after then → HasTaken before after (first ++ then)
begun_then before now after first then taken begun = record {
  front = first ++ begun.front;
  rest = begun.rest;
  is = ap (λ t. first ++ t) begun.is ∙ sym (append_assoc first begun.front begun.rest);
  taken = taken_grows before now after first begun.front taken begun.taken;
}

-- the whole is a prefix of itself
pub all_begun : (before after : Option (List ℕ)) (text : List ℕ) → Appends before after text → HasTaken before after text
all_begun before after text taken = record { front = text; rest = []; is = sym (append-nil text); taken = taken }

-- what follows of a value
pub if_ok_weaker : {T E : Type 0} {P Q : T → Type 0} (r : Result T E) → ((x : T) → P x → Q x) → IfOk r P → IfOk r Q
if_ok_weaker (Ok x) f h = f x h
if_ok_weaker (Err e) f h = h

-- where events are stuck there is a step
pub stuck_step : (parts : Parts) (site place : ℕ) (events : List Event) → IsStuck parts.journals.items site place events → IsStepOf parts site place
stuck_step parts site place events stuck =
    let inside = slice_get_within stuck.at site place stuck.here in
    let every = stuck.every in
    let found = within_some parts.journals.items site (omega (arith, inside, every)) in
    record { j = found.0; is = found.1; less = stuck.fewer found.0 found.1 }
