-- What a site doesn't take, by what a walk over a delta's parts finds.
use Rattle.std.proofs.Common.{◌≡◌, ◌⊎◌, ◌↔◌, inl, inr, ℕ, ◌<◌, ◌≤◌, Bool, true, false, List, Option, Some, None, Contains, refl, sym, ap, subst, ◌∙◌, arith}
use Rattle.std.specs.Prelude.{IsTrue}
use Rattle.std.specs.FinMap as map
use Rattle.std.specs.FinSet as set
use Rattle.std.specs.List.{All, Any}
use Rattle.std.specs.Option.{option_map, unwrap_or}
use Rattle.std.proofs.lemmas.Bool.Decides.{nat_tests}
use Rattle.dots.specs.declared.call_totals.CallTotals.{CallTotals}
use Rattle.dots.specs.declared.calls.Calls.{Calls}
use Rattle.dots.specs.declared.calls.Calls.TheVariants.{Completed, Abandoned}
use Rattle.dots.specs.Values.{Dot, Stamp}
use Rattle.dots.specs.Orders.{dot_cmp}
use Rattle.dots.specs.DotSets.{IsRunsOf, Run, in_run}
use Rattle.operations.specs.Registers.{Entry}
use Rattle.dots.specs.CountedCalls.{no_calls}
use Rattle.operations.specs.Totals.{Entries, Key, key_cmp, totals_of}
use Rattle.dots.proofs.DotOrder.{dots_total}
use Rattle.general_lemmas.proofs.Membership.{any_in, in_any}
use Rattle.operations.proofs.TotalsLaws.{keys_total, one_key}
use Rattle.causal_context.specs.Contexts.{IsRunWithinLimits}
use Rattle.member_orset.specs.Members.{Holding, Members}
use Rattle.live_cells.proofs.DotTests.{one_dot}
use Rattle.site_totals.specs.Raising.{number_of}
use Rattle.replica.specs.Taking.{CountsMore, HasDotPast, HasFieldPast, HasMemberPast, HasStampPast, HasStrangeMember, HasStrangeTotal, HasTotalPast, IsEntryPast, IsWrittenPast}
use Rattle.general_lemmas.proofs.MapEntries.{entry_in, entry_is}
use Rattle.replica.proofs.Found.{any_of, of_any}

-- what is so exactly where something is that is so exactly where a third is
pub through : {A B C : Type 0} → (A ↔ B) → (B ↔ C) → A ↔ C
through p q = (λ a. q.0 (p.0 a), λ c. p.1 (q.1 c))

-- ---- live dots

-- a live dot is found among the entries
live_found : (P : Holding → Type 0) (members : Members) (dot : Dot) (held : Holding) → map.get members.live dot ≡ Some held → P held → Any (λ (e : Dot × Holding). P e.1) (map.entries members.live)
live_found P members dot held live p = any_of (λ (e : Dot × Holding). P e.1) (map.entries members.live) (dot, held) (entry_in dot_cmp dots_total one_dot members.live dot held live) p

-- an entry that is found is of a live dot
found_live : (P : Holding → Type 0) (members : Members) → Any (λ (e : Dot × Holding). P e.1) (map.entries members.live) → (e : Dot × Holding) × (map.get members.live e.0 ≡ Some e.1) × P e.1
found_live P members a = let e = of_any (λ (e : Dot × Holding). P e.1) (map.entries members.live) a in (e.0, entry_is dot_cmp dots_total members.live e.0 e.1, e.2)

pub strange_member : (queues : ℕ) (members : Members) → Any (λ (e : Dot × Holding). queues ≤ e.1.0.queue) (map.entries members.live) ↔ HasStrangeMember queues members
strange_member queues members = (
  λ a. let e = found_live (λ h. queues ≤ h.0.queue) members a in record { dot = e.0.0; held = e.0.1; live = e.1; strange = e.2 },
  λ s. live_found (λ h. queues ≤ h.0.queue) members s.dot s.held s.live s.strange,
)

pub stamp_past : (site last : ℕ) (members : Members) → Any (λ (e : Dot × Holding). HasFieldPast site last e.1.1) (map.entries members.live) ↔ HasStampPast site last members
stamp_past site last members = (
  λ a. let e = found_live (λ h. HasFieldPast site last h.1) members a in record { dot = e.0.0; held = e.0.1; live = e.1; past = e.2 },
  λ s. live_found (λ h. HasFieldPast site last h.1) members s.dot s.held s.live s.past,
)

-- ---- registers

-- a register is written past a time where its stamp is
pub written_past : {T : Type 0} (site last : ℕ) (field : Option (Entry T)) (stamp : Stamp) → Some stamp ≡ option_map (λ e. e.stamp) field → ((stamp.site ≡ site) × (last < stamp.time)) ↔ IsWrittenPast site last field
written_past site last None stamp e = absurd (cc)
written_past site last (Some a) stamp e =
    let is : stamp ≡ a.stamp = cc in (
      λ p. record { entry = a; set = refl; own = ap (λ s. s.site) (sym is) ∙ p.0; past = subst (λ (s : Stamp). last < s.time) is p.1 },
      λ w.
          let one : w.entry.stamp ≡ stamp = (let s = w.set in cc) in
          (ap (λ s. s.site) (sym one) ∙ w.own, subst (λ (s : Stamp). last < s.time) one w.past),
    )

-- one without a stamp isn't
pub unwritten : {T : Type 0} (site last : ℕ) (field : Option (Entry T)) → None ≡ option_map (λ e. e.stamp) field → IsWrittenPast site last field → ⊥
unwritten site last None e w = let s = w.set in cc
unwritten site last (Some a) e w = absurd (cc)

-- ---- totals

abbrev Counted : Type 0
Counted = Key × CallTotals

pub strange_total : (queues : ℕ) (entries : Entries) → Any (λ (e : Counted). queues ≤ e.0.queue) (map.entries entries) ↔ HasStrangeTotal queues entries
strange_total queues entries = (
  λ a. let e = of_any (λ (e : Counted). queues ≤ e.0.queue) (map.entries entries) a in record { key = e.0.0; totals = e.0.1; counted = entry_is key_cmp keys_total entries e.0 e.1; strange = e.2 },
  λ s. any_of (λ (e : Counted). queues ≤ e.0.queue) (map.entries entries) (s.key, s.totals) (entry_in key_cmp keys_total one_key entries s.key s.totals s.counted) s.strange,
)

-- one of two totals that is greater than an own one is of one kind of calls
of_one_kind : (own totals : CallTotals) → CountsMore own totals → (calls : Calls) × (number_of calls own < number_of calls totals)
of_one_kind own totals (inl more) = (Completed, more)
of_one_kind own totals (inr more) = (Abandoned, more)

one_counts_more : (own totals : CallTotals) (calls : Calls) → number_of calls own < number_of calls totals → CountsMore own totals
one_counts_more own totals Completed more = inl more
one_counts_more own totals Abandoned more = inr more

abbrev IsPast : ℕ → Entries → Counted → Type 0
IsPast site own e = IsEntryPast site own e.0 e.1

pub total_past : (site : ℕ) (own entries : Entries) → Any (λ (e : Counted). IsEntryPast site own e.0 e.1) (map.entries entries) ↔ HasTotalPast site own entries
total_past site own entries = (
  λ a. by (of_any (IsPast site own) (map.entries entries) a),
  λ p. at p.queue (map.get entries (record { site = site; queue = p.queue })) refl p.calls p.past,
)
  where
    by : ((e : Counted) × Contains (map.entries entries) e × IsPast site own e) → HasTotalPast site own entries
    by e =
        let kind = of_one_kind (totals_of own site e.0.0.queue) e.0.1 e.2.1 in
        let here : totals_of entries site e.0.0.queue ≡ e.0.1 =
        ap (λ (n : ℕ). totals_of entries n e.0.0.queue) (sym e.2.0) ∙ ap (λ o. unwrap_or o no_calls) (entry_is key_cmp keys_total entries e.0 e.1) in
        record { queue = e.0.0.queue; calls = kind.0; past = subst (λ t. number_of kind.0 (totals_of own site e.0.0.queue) < number_of kind.0 t) (sym here) kind.1 }

    none : (calls : Calls) (n : ℕ) → n < number_of calls no_calls → ⊥
    none Completed n h = omega arith
    none Abandoned n h = omega arith

    at : (q : ℕ) (o : Option CallTotals) → map.get entries (record { site = site; queue = q }) ≡ o → (calls : Calls) → number_of calls (totals_of own site q) < number_of calls (unwrap_or o no_calls) → Any (IsPast site own) (map.entries entries)
    at q None e calls past = absurd (none calls (number_of calls (totals_of own site q)) past)
    at q (Some t) e calls past =
        any_of (IsPast site own) (map.entries entries) (record { site = site; queue = q }, t) (entry_in key_cmp keys_total one_key entries (record { site = site; queue = q }) t e)
        (refl, one_counts_more (totals_of own site q) t calls past)

-- ---- dots

-- a run that has a dot is of the dot's site and ends no earlier
run_has : (dot : Dot) (r : Run) → in_run dot r ≡ true → (r.site ≡ dot.site) × (dot.count ≤ r.last)
run_has dot r h = grind (arith, nat_tests)

-- a run has its last dot
last_in : (r : Run) (site : ℕ) → r.site ≡ site → r.first ≤ r.last → in_run (record { site = site; count = r.last }) r ≡ true
last_in r site e h = grind (arith, nat_tests)

pub dot_past : (site last : ℕ) (runs : List Run) (dots : set.FinSet dot_cmp) → IsRunsOf runs dots → All IsRunWithinLimits runs
    → Any (λ (r : Run). (r.site ≡ site) × (last < r.last)) runs ↔ HasDotPast site last dots
dot_past site last runs dots is limits = (
  λ a.
      let r = of_any (λ (r : Run). (r.site ≡ site) × (last < r.last)) runs a in
      record {
        count = r.0.last;
        known_dot = is.same (record { site = site; count = r.0.last }) ∙ any_in (in_run (record { site = site; count = r.0.last })) runs r.0 r.1 (last_in r.0 site r.2.0 (ordered r.0 r.1));
        past = r.2.1;
      },
  λ p.
      let dot : Dot = record { site = site; count = p.count } in
      let r = in_any (in_run dot) runs (sym (is.same dot) ∙ p.known_dot) in
      let has = run_has dot r.0 r.2 in
      any_of (λ (r : Run). (r.site ≡ site) × (last < r.last)) runs r.0 r.1 (has.0, (let past = p.past in omega (arith, has.1))),
)
  where
    ordered : (r : Run) → Contains runs r → r.first ≤ r.last
    ordered r here = (subst IsRunWithinLimits here.2 (limits here.0 r here.1)).ordered

-- ---- tests one after the other

-- the first of two tests settles both where it holds
pub first_holds : {A B : Type 0} (b : Bool) → A → b ≡ true → IsTrue b ↔ (A ⊎ B)
first_holds b a h = (λ t. inl a, λ either. h)

-- the second of two tests decides both if the first fails
pub second_reports : {A B : Type 0} (b : Bool) → (A → ⊥) → (IsTrue b ↔ B) → IsTrue b ↔ (A ⊎ B)
second_reports b not_first reports = (λ t. inr (reports.0 t), λ either. elim either [ inl a ↦ absurd (not_first a) | inr r ↦ reports.1 r ])

-- what a test that failed asks isn't so
pub failed : {A : Type 0} (b : Bool) → (IsTrue b ↔ A) → b ≡ false → A → ⊥
failed b reports fails a = let t = reports.1 a in cc

-- a test of members at equal numbers and equal members
pub member_test : (b : Bool) (site count time p q r : ℕ) (m n : Members) → site ≡ p → count ≡ q → time ≡ r → m ≡ n → (IsTrue b ↔ HasMemberPast site count time m) → IsTrue b ↔ HasMemberPast p q r n
member_test b site count time p q r m n e f g h reports =
    subst (λ x. IsTrue b ↔ HasMemberPast p q r x) h (subst (λ x. IsTrue b ↔ HasMemberPast p q x m) g
    (subst (λ x. IsTrue b ↔ HasMemberPast p x time m) f (subst (λ x. IsTrue b ↔ HasMemberPast x count time m) e reports)))

-- a test of totals at equal numbers and equal totals
pub total_test : (b : Bool) (site p : ℕ) (own mine entries others : Entries) → site ≡ p → own ≡ mine → entries ≡ others → (IsTrue b ↔ HasTotalPast site own entries) → IsTrue b ↔ HasTotalPast p mine others
total_test b site p own mine entries others e f g reports =
    subst (λ x. IsTrue b ↔ HasTotalPast p mine x) g (subst (λ x. IsTrue b ↔ HasTotalPast p x entries) f (subst (λ x. IsTrue b ↔ HasTotalPast x own entries) e reports))
