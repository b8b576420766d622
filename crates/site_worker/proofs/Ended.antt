-- The end of a site whose tasks are done.
use Rattle.std.proofs.Common.{◌≡◌, ◌∙◌, ◌+◌, ◌<◌, ◌≤◌, ℕ, zero, suc, List, [], ◌∷◌, ◌++◌, Option, Some, None, length, map, slice_get, slice_index_or, vec_len, refl, sym, ap, subst, arith}
use Rattle.std.specs.List.{All}
use Rattle.std.proofs.lemmas.List.Elements.{All-cons, All-nil}
use Rattle.std.proofs.lemmas.Option.{get_or_from_slice_get, slice_get-get_or, slice_get_within}
use Rattle.std.specs.Global.{Vec}
use Rattle.site_desk.specs.Passes.{PassState, new_pass}
use Rattle.site_desk.specs.Ports.{HasDoneAll}
use Rattle.site_journal.specs.declared.desk_fault.DeskFault.{DeskFault}
use Rattle.site_journal.specs.declared.journaled.TheConstants.{MOST_STEPS}
use Rattle.site_journal.specs.Journals.{JournalState}
use Rattle.site_journal.specs.declared.receipt.Receipt.{Receipt}
use Rattle.site_journal.specs.Settling.{list_of}
use Rattle.replica.specs.Deeds.{IsNew}
use Rattle.replica.specs.Site.{SiteState}
use Rattle.site_links.specs.declared.linking.LinkEnds.{LinkEnds}
use Rattle.site_threads.specs.Ends.{HasEnded}
use Rattle.site_threads.specs.Ends.{HaveEnded}
use Rattle.site_threads.specs.declared.site_tasks.SiteOutput.{SiteOutput}
use Rattle.site_threads.specs.declared.site_tasks.SiteTasks.{SiteTasks}
use Rattle.site_threads.specs.Tasks.{HaveGiven}
use Rattle.sites_world.proofs.Lists.{one_some}
use Rattle.site_worker.specs.WorkTasks.{AreRunsOf, DoesTask, FirstHasGate, HasAsked, HaveTasks, IsLaunchOf, tasks_for}
use Rattle.site_worker.specs.Gates.{IsGatedBy}
use Rattle.site_worker.specs.Runs.{HasAnsweredAsks, HasFirstFault, HasRun, HavePumped, HaveRun, first_fault}
use Rattle.site_worker.specs.Working.{HaveTaken, HaveWorked}
use Rattle.site_worker.specs.declared.ends.TheConstants.{MOST_RUN_PASSES}
use Rattle.site_worker.specs.declared.tasks.WorkOutput.{WorkOutput}
use Rattle.site_worker.specs.declared.tasks.WorkTask.{WorkTask}
use Rattle.site_worker.specs.declared.tasks.WorkTask.TheVariants.{Ask, Send, Take}
use Rattle.site_worker.specs.declared.work.SiteEnd.{SiteEnd}
use Rattle.site_worker.specs.declared.work.SiteWork.{SiteWork}
use Rattle.site_worker.proofs.Gatings.{gated_under}
use Rattle.site_worker.proofs.PlaceLemmas.{all_got, got_mapped, mapped_at}
use Rattle.site_worker.proofs.Workings.{mapped_long, none_before, none_behind, worked_order, worked_own, worked_possible, worked_shares}

-- what a task gives
abbrev pub Gives : {G : Type 0} → (G → ℕ → G → Type 0) → WorkTask G → ℕ → List (List ℕ) → PassState → WorkOutput G → PassState → Type 0
Gives Called task site names old output new = HasDoneAll site names old output.receipts.items new × DoesTask Called site names task output

-- the lists of receipts of outcomes
abbrev pub lists_of : {G : Type 0} → List (WorkOutput G) → List (List Receipt)
lists_of {G = G} outputs = map (λ (output : WorkOutput G). output.receipts.items) outputs

-- the faults of outputs
abbrev pub faults_of : {G : Type 0} → List (WorkOutput G) → List (Option DeskFault)
faults_of {G = G} outputs = map (λ (output : WorkOutput G). output.fault) outputs

-- if there is no first fault, no output has one
none_first : {G : Type 0} (outputs : List (WorkOutput G)) → first_fault (faults_of outputs) ≡ None → All (λ (output : WorkOutput G). output.fault ≡ None) outputs
none_first {G} [] is = All-nil (λ (output : WorkOutput G). output.fault ≡ None)
none_first {G} (o ∷ os) is = All-cons (λ (output : WorkOutput G). output.fault ≡ None) o os (none_before o.fault (first_fault (faults_of os)) is)
    (none_first os (none_behind o.fault (first_fault (faults_of os)) is))

-- each pass has done the steps of its list
worked_of : {G : Type 0} (site : ℕ) (names : List (List ℕ)) (n : ℕ) (passes : List PassState) (outputs : List (WorkOutput G)) → length outputs ≡ length passes
    → ((k : ℕ) (pass : PassState) (output : WorkOutput G) → slice_get passes k ≡ Some pass → slice_get outputs k ≡ Some output → HasDoneAll site names (new_pass (n + k)) output.receipts.items pass)
    → HaveWorked site names n passes (lists_of outputs)
worked_of site names n [] [] long each = tt
worked_of site names n (p ∷ ps) (o ∷ os) long each = (
  subst (λ k. HasDoneAll site names (new_pass k) o.receipts.items p) (omega arith) (each 0 p o refl refl),
  worked_of site names (suc n) ps os (omega (arith, long)) (λ k pass output at there. subst (λ j. HasDoneAll site names (new_pass j) output.receipts.items pass) (omega arith) (each (suc k) pass output at there)),
)
worked_of site names n [] (o ∷ os) long each = absurd (omega (arith, long))
worked_of site names n (p ∷ ps) [] long each = absurd (omega (arith, long))

-- each list is of takes
took_all : {G X : Type 0} (links : List X) (outputs : List (WorkOutput G)) → length outputs ≡ length links
    → ((k : ℕ) (link : X) (output : WorkOutput G) → slice_get links k ≡ Some link → slice_get outputs k ≡ Some output → HaveTaken output.receipts.items) → (k : ℕ) → HaveTaken (list_of (lists_of outputs) k)
took_all links [] long each zero = ([], refl)
took_all links [] long each (suc k) = ([], refl)
took_all (l ∷ ls) (o ∷ os) long each zero = each 0 l o refl refl
took_all (l ∷ ls) (o ∷ os) long each (suc k) = took_all ls os (omega (arith, long)) (λ j link output at there. each (suc j) link output at there) k
took_all [] (o ∷ os) long each k = absurd (omega (arith, long))

-- the first thread has asked, the second has sent, and the others have taken
answered_and_pumped : {G : Type 0} (Called : G → ℕ → G → Type 0) (site : ℕ) (names : List (List ℕ)) (work : SiteWork G) (links : LinkEnds) (passes : List PassState) (outputs : List (WorkOutput G)) (fault : Option DeskFault)
    → length passes ≡ length links.from.items + 2 → HaveGiven (Gives Called) site names (tasks_for work links) passes outputs → fault ≡ first_fault (faults_of outputs)
    → HasAnsweredAsks site names work.asks.items (lists_of outputs) fault × HavePumped (lists_of outputs) fault × HasFirstFault work.asks.items (lists_of outputs) fault
answered_and_pumped {G} Called site names work links (p ∷ q ∷ ps) (a ∷ b ∷ os) fault long given is =
    let asked = (given.each 0 (Ask work.asks work.gate) p a refl refl refl).1 in
    let sent = (given.each 1 (Send links.to work.plan) q b refl refl refl).1 in
    let well : fault ≡ None → All (λ (output : WorkOutput G). output.fault ≡ None) (a ∷ b ∷ os) = λ none. none_first (a ∷ b ∷ os) (sym is ∙ none) in (
      record { front = asked.front; all = λ none. asked.all (well none 0 a (omega arith)) },
      record {
        sent = record { cuts = sent.cuts; whole = λ none. sent.whole (well none 1 a (omega arith)) };
        took = took_at;
      },
      record {
        faults = faults_of (a ∷ b ∷ os);
        number = mapped_long (λ (output : WorkOutput G). output.fault) (a ∷ b ∷ os) ∙ sym (mapped_long (λ (output : WorkOutput G). output.receipts.items) (a ∷ b ∷ os));
        first = is;
        asked = asked.all;
        sent = sent;
      },
    )
  where
    took_at : (pass : ℕ) → 2 ≤ pass → HaveTaken (list_of (lists_of (a ∷ b ∷ os)) pass)
    took_at zero high = absurd (omega (arith, high))
    took_at (suc zero) high = absurd (omega (arith, high))
    took_at (suc (suc k)) high = took_all links.from.items os (let e = given.number in omega (arith, e, long))
        (λ j link output at there. (given.each (suc (suc j)) (Take link) (slice_index_or ps j p) output (got_mapped Take links.from.items j link at)
        (slice_get-get_or ps j p (let low = slice_get_within os j output there in let e = given.number in omega (arith, low, e))) there).1) k
answered_and_pumped Called site names work links [] outputs fault long given is = absurd (omega (arith, long))
answered_and_pumped Called site names work links (p ∷ []) outputs fault long given is = absurd (omega (arith, long))
answered_and_pumped Called site names work links (p ∷ q ∷ ps) [] fault long given is = absurd (let e = given.number in omega (arith, e))
answered_and_pumped Called site names work links (p ∷ q ∷ ps) (a ∷ []) fault long given is = absurd (let e = given.number in omega (arith, e))

-- a site whose tasks are done has run
pub run_of : {G : Type 0} (Called : G → ℕ → G → Type 0) (replica : SiteState) (work : SiteWork G) (links : LinkEnds) (journal : JournalState) (outputs : List (WorkOutput G)) (fault : Option DeskFault)
    → IsNew replica → HasEnded (Gives Called) replica MOST_STEPS (tasks_for work links) journal outputs → fault ≡ first_fault (faults_of outputs)
    → HasRun replica.site replica.names (length links.from.items + 2) work.asks.items journal (lists_of outputs) fault
run_of {G} Called replica work links journal outputs fault new ended is =
    let site = replica.site in
    let names = replica.names in
    let given = ended.done.given in
    let tasks_long : length (tasks_for work links) ≡ length links.from.items + 2 = (let e = mapped_long {B = WorkTask G} Take links.from.items in omega (arith, e)) in
    let long : length ended.passes ≡ length links.from.items + 2 = ended.done.all ∙ tasks_long in
    let worked : HaveWorked site names 0 ended.passes (lists_of outputs) = worked_of site names 0 ended.passes outputs given.number
    (λ k pass output at there. subst (λ n. HasDoneAll site names (new_pass n) output.receipts.items pass) (omega arith) (given.each k (slice_index_or (tasks_for work links) k (Ask work.asks work.gate)) pass output
    (slice_get-get_or (tasks_for work links) k (Ask work.asks work.gate) (let low = slice_get_within ended.passes k pass at in let e = ended.done.all in omega (arith, low, e))) at there).0) in
    let rest = answered_and_pumped Called site names work links ended.passes outputs fault long given is in record {
      own_site = ended.own_site;
      begun = record { limit = ended.limit_is; new = ended.new new };
      passes = mapped_long (λ (output : WorkOutput G). output.receipts.items) outputs ∙ (given.number ∙ long);
      count = ended.count ∙ worked_shares site names 0 ended.passes (lists_of outputs) worked;
      own = worked_own site names 0 ended.passes (lists_of outputs) worked;
      order = worked_order site names 0 ended.passes (lists_of outputs) worked;
      possible = worked_possible site names 0 ended.passes (lists_of outputs) worked;
      answered = rest.0;
      pumped = rest.1;
      faults = rest.2;
    }

-- ---- lists to which one is put in front

-- an empty list has no element
pub no_element : {E : Type 0} {P : Type 0} (xs : List E) (k : ℕ) (x : E) → length xs ≡ 0 → slice_get xs k ≡ Some x → P
no_element xs k x none at = absurd (let low = slice_get_within xs k x at in omega (arith, low, none))

-- one element stands at a place
pub one_of : {E : Type 0} (xs : List E) (k : ℕ) (x y : E) → slice_get xs k ≡ Some x → slice_get xs k ≡ Some y → x ≡ y
one_of xs k x y at there = one_some x y (sym at ∙ there)

-- what holds of the one that is put in front, and of each behind it
pub front_each : {E : Type 0} (P : ℕ → E → Type 0) (xs all : List E) (x : E) → all ≡ x ∷ xs → P 0 x → ((k : ℕ) (y : E) → slice_get xs k ≡ Some y → P (suc k) y) → (k : ℕ) (y : E) → slice_get all k ≡ Some y → P k y
front_each P xs all x more first each zero y at = subst (P 0) (one_some x y (subst (λ l. slice_get l 0 ≡ Some y) more at)) first
front_each P xs all x more first each (suc k) y at = each k y (subst (λ l. slice_get l (suc k) ≡ Some y) more at)

snoc_append : {E : Type 0} (xs : List E) (x : E) (ys : List E) → (xs ++ x ∷ []) ++ ys ≡ xs ++ x ∷ ys
snoc_append [] x ys = refl
snoc_append (z ∷ zs) x ys = ap (λ l. z ∷ l) (snoc_append zs x ys)

-- one of a front that is moved behind
pub moved : {E : Type 0} (all old new behind : List E) (x : E) → all ≡ old ++ behind → old ≡ new ++ x ∷ [] → all ≡ new ++ x ∷ behind
moved all old new behind x is was = is ∙ (ap (λ l. l ++ behind) was ∙ snoc_append new x behind)

-- all stand behind an empty front
pub whole_behind : {E : Type 0} (all front behind : List E) → all ≡ front ++ behind → length front ≡ 0 → all ≡ behind
whole_behind all [] behind is none = is
whole_behind all (x ∷ xs) behind is none = absurd (omega (arith, none))

-- nothing is mapped where there is nothing
pub mapped_none : {A B : Type 0} (f : A → B) (xs : List A) → length xs ≡ 0 → map f xs ≡ []
mapped_none f [] none = refl
mapped_none f (x ∷ xs) none = absurd (omega (arith, none))

-- nothing stands behind all
pub none_behind_all : {E : Type 0} (all : List E) → all ≡ all ++ []
none_behind_all [] = refl
none_behind_all (x ∷ xs) = ap (λ l. x ∷ l) (none_behind_all xs)

-- ---- all sites

got_within : {E : Type 0} (xs : List E) (k : ℕ) → k < length xs → (x : E) × (slice_get xs k ≡ Some x)
got_within [] k low = absurd (omega (arith, low))
got_within (x ∷ xs) zero low = (x, refl)
got_within (x ∷ xs) (suc k) low = got_within xs k (omega (arith, low))

-- the first output is of the thread that asks
asked_of : {G : Type 0} (Called : G → ℕ → G → Type 0) (replica : SiteState) (work : SiteWork G) (links : LinkEnds) (journal : JournalState) (outputs : List (WorkOutput G))
    → HasEnded (Gives Called) replica MOST_STEPS (tasks_for work links) journal outputs → (output : WorkOutput G) × (slice_get outputs 0 ≡ Some output) × HasAsked Called replica.site replica.names work.asks.items work.gate output
asked_of {G} Called replica work links journal outputs ended =
    let given = ended.done.given in
    let tasks_long : length (tasks_for work links) ≡ length links.from.items + 2 = (let e = mapped_long {B = WorkTask G} Take links.from.items in omega (arith, e)) in
    let some : 0 < length ended.passes = (let e = ended.done.all in omega (arith, e, tasks_long)) in
    let pass = got_within ended.passes 0 some in
    let output = got_within outputs 0 (let e = given.number in omega (arith, e, some)) in
    (output.0, output.1, (given.each 0 (Ask work.asks work.gate) pass.0 output.0 refl pass.1 output.1).1)

-- the site of the number `site`, one of `sites`, was launched new with this work, and ended so
record HasEndedAt {G : Type 0} (Called : G → ℕ → G → Type 0) (sites : ℕ) (names : List (List ℕ)) (site : ℕ) (work : SiteWork G) (end : SiteOutput (WorkOutput G)) : Type 0 where
  replica : SiteState
  number : replica.site ≡ site
  names_are : replica.names ≡ names
  is_new : IsNew replica
  links : LinkEnds
  others : length links.from.items + 1 ≡ sites
  ended : HasEnded (Gives Called) replica MOST_STEPS (tasks_for work links) end.journal end.outputs.items

-- what is known of the site at this place
ended_at : {S G : Type 0} (Called : G → ℕ → G → Type 0) (names : List (List ℕ)) (works : List (SiteWork G)) (all : List (SiteTasks S (WorkTask G))) (ends : List (SiteOutput (WorkOutput G)))
    → HaveTasks names works all → HaveEnded (Gives Called) MOST_STEPS all ends
    → (site : ℕ) (work : SiteWork G) (end : SiteOutput (WorkOutput G)) → slice_get works site ≡ Some work → slice_get ends site ≡ Some end → HasEndedAt Called (length works) names site work end
ended_at {S} {G} Called names works all ends tasks have site work end at there =
    let of = got_within all site (let low = slice_get_within works site work at in let e = tasks.number in omega (arith, low, e)) in
    let is = tasks.each site work of.0 at of.1 in record {
      replica = of.0.replica;
      number = is.number;
      names_are = is.names_are;
      is_new = is.new;
      links = is.tasks.links;
      others = is.tasks.others;
      ended = subst (λ t. HasEnded (Gives Called) of.0.replica MOST_STEPS t end.journal end.outputs.items) is.tasks.tasks_are (have site of.0 end of.1 there);
    }

-- each site has a gate
pub all_first : {S G : Type 0} (Called : G → ℕ → G → Type 0) (names : List (List ℕ)) (works : List (SiteWork G)) (all : List (SiteTasks S (WorkTask G))) (ends : List (SiteOutput (WorkOutput G)))
    → HaveTasks names works all → HaveEnded (Gives Called) MOST_STEPS all ends → length ends ≡ length works
    → All (λ (end : SiteOutput (WorkOutput G)). FirstHasGate end.outputs.items) ends
all_first {S} {G} Called names works all ends tasks have long = all_got (λ (end : SiteOutput (WorkOutput G)). FirstHasGate end.outputs.items) ends (λ site end there.
    let work = got_within works site (let low = slice_get_within ends site end there in omega (arith, low, long)) in
    let is = ended_at Called names works all ends tasks have site work.0 end work.1 there in
    let asked = asked_of Called is.replica work.0 is.links end.journal end.outputs.items is.ended in
    (asked.0, asked.2.gate_after, asked.1, asked.2.gate_is))

-- each site has few outputs
pub outputs_few : {S G : Type 0} (Called : G → ℕ → G → Type 0) (names : List (List ℕ)) (works : List (SiteWork G)) (all : List (SiteTasks S (WorkTask G))) (ends : List (SiteOutput (WorkOutput G)))
    → HaveTasks names works all → HaveEnded (Gives Called) MOST_STEPS all ends → length ends ≡ length works → length works ≤ 8
    → All (λ (end : SiteOutput (WorkOutput G)). vec_len end.outputs ≤ MOST_RUN_PASSES) ends
outputs_few {S} {G} Called names works all ends tasks have long few = all_got (λ (end : SiteOutput (WorkOutput G)). vec_len end.outputs ≤ MOST_RUN_PASSES) ends (λ site end there.
    let work = got_within works site (let low = slice_get_within ends site end there in omega (arith, low, long)) in
    let is = ended_at Called names works all ends tasks have site work.0 end work.1 there in
    let done = is.ended.done.all in
    let given = is.ended.done.given.number in
    let others = is.others in
    let tasks_long = mapped_long {B = WorkTask G} Take is.links.from.items in
    omega (arith, done, given, others, tasks_long, few, end.outputs.ok.0))

-- all sites have run
pub all_ran : {S G : Type 0} (Called : G → ℕ → G → Type 0) (names : List (List ℕ)) (works : Vec (SiteWork G)) (all : List (SiteTasks S (WorkTask G))) (ends : List (SiteOutput (WorkOutput G))) (runs : Vec (SiteEnd G))
    → HaveTasks names works.items all → HaveEnded (Gives Called) MOST_STEPS all ends → length ends ≡ length works.items
    → AreRunsOf ends runs.items → HaveRun Called names works runs
all_ran {S} {G} Called names works all ends runs tasks have long are = record {
  number = (let e = are.number in omega (arith, e, long, works.ok.0, runs.ok.0));
  ran = λ site run at.
      let end = got_within ends site (let low = slice_get_within runs.items site run at in let e = are.number in omega (arith, low, e)) in
      let work = got_within works.items site (let low = slice_get_within ends site end.0 end.1 in omega (arith, low, long)) in
      let is = ended_at Called names works.items all ends tasks have site work.0 end.0 work.1 end.1 in
      let r = are.each site end.0 run end.1 at in
      let long_links = length is.links.from.items + 2 in
      let ran = run_of Called is.replica work.0 is.links end.0.journal end.0.outputs.items run.fault is.is_new is.ended r.fault_is in
      let placed : HasRun site names long_links work.0.asks.items end.0.journal (lists_of end.0.outputs.items) run.fault =
      subst (λ n. HasRun n names long_links work.0.asks.items end.0.journal (lists_of end.0.outputs.items) run.fault) is.number
      (subst (λ l. HasRun is.replica.site l long_links work.0.asks.items end.0.journal (lists_of end.0.outputs.items) run.fault) is.names_are ran) in
      let number : long_links ≡ vec_len works + 1 = (let e = is.others in omega (arith, e, works.ok.0)) in
      subst (λ n. HasRun site names n (slice_index_or (map (λ (w : SiteWork G). w.asks.items) works.items) site []) run.journal (map (λ list. list.items) run.receipts.items) run.fault) number
      (subst (λ a. HasRun site names long_links a run.journal (map (λ list. list.items) run.receipts.items) run.fault) (sym (mapped_at (λ (w : SiteWork G). w.asks.items) works.items site work.0 [] work.1))
      (subst (λ j. HasRun site names long_links work.0.asks.items j (map (λ list. list.items) run.receipts.items) run.fault) (sym r.journal_is)
      (subst (λ l. HasRun site names long_links work.0.asks.items end.0.journal l run.fault) (sym r.lists) placed)));
  gated = λ site work run of at.
      let end = got_within ends site (let low = slice_get_within runs.items site run at in let e = are.number in omega (arith, low, e)) in
      let is = ended_at Called names works.items all ends tasks have site work end.0 of end.1 in
      let r = are.each site end.0 run end.1 at in
      let asked = asked_of Called is.replica work is.links end.0.journal end.0.outputs.items is.ended in
      let gate : run.gate ≡ asked.2.gate_after = r.gate_is asked.0 asked.2.gate_after asked.1 asked.2.gate_is in
      let list : list_of (map (λ list. list.items) run.receipts.items) 0 ≡ asked.0.receipts.items =
      ap (λ l. list_of l 0) r.lists ∙ mapped_at (λ (output : WorkOutput G). output.receipts.items) end.0.outputs.items 0 asked.0 [] asked.1 in
      let low = slice_get_within end.0.outputs.items 0 asked.0 asked.1 in
      let well : run.fault ≡ None → asked.0.fault ≡ None = λ none. subst (λ (o : WorkOutput G). o.fault ≡ None) (get_or_from_slice_get end.0.outputs.items 0 asked.0 asked.0 asked.1)
      (none_first end.0.outputs.items (sym r.fault_is ∙ none) 0 asked.0 low) in
      subst (λ q. IsGatedBy Called work.gate (map (λ list. list.items) run.receipts.items) run.fault q) (sym gate)
      (gated_under Called work.gate asked.2.gate_after (length asked.0.receipts.items) (length (list_of (map (λ list. list.items) run.receipts.items) 0)) asked.0.fault run.fault (ap length list)
      well asked.2.gated);
}
