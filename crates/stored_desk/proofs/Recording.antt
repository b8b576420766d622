-- A history beside a journal through each call.
use Rattle.std.proofs.Common.{◌≡◌, ◌∙◌, ◌-◌, ◌≤◌, ℕ, Bool, true, false, true≢false, List, [], ◌∷◌, ◌++◌, length, take, drop, Result, Ok, Err, OnOk, OnErr, refl, sym, ap, subst, arith, append_assoc, length-append}
use Rattle.std.proofs.lemmas.List.{append-nil, length-take, take-append-drop}
use Rattle.replica.proofs.SameSites.{site_itself, site_through, unchanged_site}
use Rattle.replica.specs.Site.{IsSameSite, SiteState}
use Rattle.site_journal.specs.Journals.{HasAdded, HasDropped, IsJournal, IsUnchanged, JournalState}
use Rattle.site_journal.specs.Legal.{LeadAll, Leads}
use Rattle.site_journal.specs.declared.step.Step.{Step}
use Rattle.stored_desk.specs.Recorded.{IsLegalHistory, IsRecorded, IsRest}

-- steps, and one step more
lead_more : (from mid to : SiteState) (steps : List Step) (step : Step) → LeadAll from steps mid → Leads mid step.deed to → LeadAll from (steps ++ step ∷ []) to
lead_more from mid to [] step none leads =
    (to, record { old = leads.old; new = leads.new; before = site_through from mid leads.old none leads.before; done = leads.done; after = leads.after }, site_itself to)
lead_more from mid to (x ∷ xs) step all leads = (all.0, all.1, lead_more all.0 mid to xs step all.2 leads)

-- steps lead to a state that says the same
lead_same : (from a b : SiteState) (steps : List Step) → LeadAll from steps a → IsSameSite a b → LeadAll from steps b
lead_same from a b [] all same = site_through from a b all same
lead_same from a b (x ∷ xs) all same = (all.0, all.1, lead_same all.0 a b xs all.2 same)

-- steps lead on from a state that says the same
pub lead_from : (from a to : SiteState) (steps : List Step) → IsSameSite from a → LeadAll a steps to → LeadAll from steps to
lead_from from a to [] same all = site_through from a to same all
lead_from from a to (step ∷ steps) same all =
    (all.0, record { old = all.1.old; new = all.1.new; before = site_through from a all.1.old same all.1.before; done = all.1.done; after = all.1.after }, all.2)

-- a copy of a journal's replica, to which its history leads
pub copy_lead : (base : SiteState) (history : List Step) (j : JournalState) (copy : SiteState) → IsRecorded base history j → IsSameSite j.replica copy → LeadAll base history copy
copy_lead base history j copy was same = lead_same base j.replica copy history was.lead same

module _ (base : SiteState) (history : List Step) (old new : JournalState) (was : IsRecorded base history old) where
  -- a step more
  pub recorded_added : (longer : List Step) (step : Step) → HasAdded old step new → longer ≡ history ++ step ∷ [] → IsRecorded base longer new
  recorded_added longer step added is = record {
    dropped = was.dropped;
    all = is ∙ (ap (λ l. l ++ step ∷ []) was.all ∙ (append_assoc was.dropped old.steps (step ∷ []) ∙ ap (λ l. was.dropped ++ l) (sym added.steps)));
    start = was.start ∙ sym added.start;
    count = omega (arith, ap length is, length-append history (step ∷ []), was.count, added.count);
    lead = subst (λ l. LeadAll base l new.replica) (sym is) (lead_more base old.replica new.replica history step was.lead added.done);
  }

  -- nothing but room was changed
  pub recorded_unchanged : IsUnchanged old new → IsRecorded base history new
  recorded_unchanged same = record {
    dropped = was.dropped;
    all = was.all ∙ ap (λ l. was.dropped ++ l) (sym same.steps);
    start = was.start ∙ sym same.start;
    count = was.count ∙ sym same.count;
    lead = lead_same base old.replica new.replica history was.lead (unchanged_site old.replica new.replica same.replica);
  }

  -- the journal's steps were dropped
  pub recorded_dropped : HasDropped old new → IsRecorded base history new
  recorded_dropped dropped = record {
    dropped = history;
    all = sym (append-nil history) ∙ ap (λ l. history ++ l) (sym dropped.steps);
    start = omega (arith, ap length was.all, length-append was.dropped old.steps, was.start, dropped.start);
    count = was.count ∙ sym dropped.count;
    lead = subst (λ s. LeadAll base history s) (sym dropped.replica) was.lead;
  }

-- a journal that has begun, beside a history without a step
pub recorded_new : (base : SiteState) (history : List Step) (j : JournalState) → history ≡ [] → j.count ≡ 0 → IsJournal j → (j.start ≡ 0 → IsSameSite base j.base) → IsRecorded base history j
recorded_new base history j is count legal begun =
    let none : length j.steps ≡ 0 = omega (arith, legal.counted, count) in
    let start : j.start ≡ 0 = omega (arith, legal.counted, count) in
    let steps : j.steps ≡ [] = empty j.steps none in record {
      dropped = [];
      all = is ∙ sym steps;
      start = sym start;
      count = ap length is ∙ sym count;
      lead = subst (λ l. LeadAll base l j.replica) (sym is) (site_through base j.base j.replica (begun start) (subst (λ l. LeadAll j.base l j.replica) steps legal.legal));
    }
  where
    empty : (xs : List Step) → length xs ≡ 0 → xs ≡ []
    empty [] e = refl
    empty (x ∷ xs) e = absurd (omega arith)

-- no step is a legal history
pub legal_none : (base : SiteState) → IsLegalHistory base []
legal_none base = record { state = base; lead = site_itself base }

-- a call that has added its step to the journal, and to the history unless that was lost
pub recorded_after : {T E : Type 0} (base : SiteState) (history longer : List Step) (old new : JournalState) (step : Step) (lost : Bool) (result : Result T E) → IsRecorded base history old
    → HasAdded old step new → OnOk result (longer ≡ history ++ step ∷ []) → OnErr result (lost ≡ true) → lost ≡ false → IsRecorded base longer new
recorded_after base history longer old new step lost (Ok x) was added is gone well = recorded_added base history old new was longer step added is
recorded_after base history longer old new step lost (Err e) was added is gone well = absurd (true≢false (sym gone ∙ well))

-- what stands in a journal behind the first `saved` steps of its history
pub rest_behind : (base : SiteState) (history steps : List Step) (j : JournalState) (start saved : ℕ) → IsRecorded base history j → start ≡ j.start → steps ≡ j.steps → start ≤ saved → saved - start ≤ length steps
    → IsRest history (drop (saved - start) steps) saved
rest_behind base history steps j start saved was starts are low few = record {
  before = was.dropped ++ take (saved - start) steps;
  all = was.all ∙ (ap (λ l. was.dropped ++ l) (sym are ∙ sym (take-append-drop (saved - start) steps)) ∙ sym (append_assoc was.dropped (take (saved - start) steps) (drop (saved - start) steps)));
  count = omega (arith, length-append was.dropped (take (saved - start) steps), length-take (saved - start) steps, was.start, starts, few, low);
}

-- its steps are legal
pub legal_now : (base : SiteState) (history : List Step) (j : JournalState) → IsRecorded base history j → IsLegalHistory base history
legal_now base history j was = record { state = j.replica; lead = was.lead }
