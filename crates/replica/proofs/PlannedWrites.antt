-- What is planned for a remove and for a write is what they mean.
use Rattle.std.proofs.Common.{◌≡◌, ◌≢◌, ◌≤◌, ◌<◌, inl, inr, ℕ, suc, max, Bool, true, false, List, [], ◌∷◌, length, map as each, Contains, Option, Some, refl, sym, ap, subst, ◌∙◌, arith, nat_lt, ◌==◌, true≢false}
use Rattle.std.proofs.lemmas.Bool.Decides.{nat_tests}
use Rattle.std.specs.FinMap as map
use Rattle.std.specs.FinSet as set
use Rattle.dots.specs.declared.limits.TheConstants.{MOST_LIVE, MOST_RUNS}
use Rattle.dots.specs.declared.member.Member.{Member}
use Rattle.dots.specs.Values.{Dot, Stamp, IsCount}
use Rattle.dots.specs.DotSets.{run_count}
use Rattle.operations.specs.Operations.{Operation, Setting}
use Rattle.general_lemmas.proofs.Membership.{cases_in, first_in, later_in}
use Rattle.member_orset.specs.Members.{IsWithinLimits}
use Rattle.member_orset.specs.Reads.{dots_seen_below}
use Rattle.replica.specs.declared.planned.Planned.{Planned}
use Rattle.replica.specs.declared.refusal.Refusal.{Refusal}
use Rattle.replica.specs.declared.refusal.Refusal.TheVariants.{MembersFull}
use Rattle.replica.specs.Changes.{Meaning, Refused, RemoveMember, in_queue, meaning_of_setting, remove_of, time_replaced, where_present, within_limits, write_at}
use Rattle.replica.specs.Changing.{IsChangeOf}
use Rattle.replica.specs.Commands.{IsRefusalOf, IsRefusalOfWrites, MayWantMemory}
use Rattle.replica.specs.Keeping.{IsKept}
use Rattle.replica.specs.Planning.{IsPlan, IsUnplanned}
use Rattle.replica.specs.Queues.{number_of}
use Rattle.replica.specs.SetFields.{fields_written}
use Rattle.replica.specs.Site.{SiteState, meaning_at, view_of}
use Rattle.replica.specs.SiteViews.{dots_seen, greatest, older_dots}
use Rattle.replica.specs.Writing.{HasParts, none_held, written_to}
use Rattle.replica.proofs.Doing.{full_means, limits_want}
use Rattle.replica.proofs.Fullness.{older_live, seen_older}
use Rattle.replica.proofs.GreatestTimes.{own_latest}
use Rattle.replica.proofs.MadeChanges.{held_by, known_by, remove_delta, write_delta}
use Rattle.replica.proofs.PlannedAdds.{not_used_up, used_up}
use Rattle.replica.proofs.SeenLists.{held_seen, seen_all_live, seen_rise}
use Rattle.replica.proofs.SeenOnce.{seen_live}
use Rattle.replica.proofs.SiteChanges.{remove_change}
use Rattle.replica.proofs.WrittenChanges.{seen_holding, write_change}
use Rattle.replica.proofs.WrittenDots.{rising_few}

-- what is meant where some dot is seen
where_some : (dots : List (Dot × Member)) (m : Meaning) → dots ≢ [] → where_present dots m ≡ m
where_some [] m some = absurd (some refl)
where_some (d ∷ ds) m some = refl

-- dots that were listed, and are some, were seen
pub some_seen : (seen : List (Dot × Member)) (listed : List Dot) (n : ℕ) (b : Bool) → listed ≡ each (λ p. p.0) seen → length listed ≡ n → b ≡ (n == 0) → b ≡ false → seen ≢ []
some_seen [] listed n b are long test none e = by n (sym long ∙ ap length are) (sym none ∙ test)
  where
    by : (n : ℕ) → n ≡ 0 → false ≡ (n == 0) → ⊥
    by n zero_is t = true≢false (sym (t ∙ ap (λ m. m == 0) zero_is))
some_seen (d ∷ ds) listed n b are long test none e = (cc)

module _ (s : SiteState) (kept : IsKept s) (limits : IsWithinLimits s.state.members) (queue : Option ℕ) (interface : List ℕ) where
  -- the dots that are seen, each with its member
  abbrev seen : List (Dot × Member)
  seen = dots_seen (view_of s s.state).dots queue interface

  abbrev its_dots : List Dot
  its_dots = each (λ p. p.0) seen

  -- the dots that are seen are few enough
  pub seen_few : length its_dots ≤ MOST_LIVE
  seen_few = let few = rising_few s.state.members its_dots (seen_rise (view_of s s.state).dots queue interface) (seen_all_live s.state.members queue interface) in
      let most = limits.cells in omega arith

  -- each of them is known
  seen_known_here : (q : Dot) → Contains its_dots q → set.contains s.state.members.known q ≡ true
  seen_known_here q here = by seen q here (λ p h. let g = seen_holding s queue interface p h in (limits.held p.0 (p.1, g.0) g.1).known)
    where
      by : (ps : List (Dot × Member)) (q : Dot) → Contains (each (λ p. p.0) ps) q → ((p : Dot × Member) → Contains ps p → set.contains s.state.members.known p.0 ≡ true)
          → set.contains s.state.members.known q ≡ true
      by [] q h known = absurd (omega (arith, h.1))
      by (p ∷ ps) q h known = elim (cases_in p.0 (each (λ p. p.0) ps) q h) [
        | inl e ↦ ap (set.contains s.state.members.known) (sym e) ∙ known p (first_in p ps)
        | inr r ↦ by ps q r (λ x here. known x (later_in p ps x here))
      ]

  -- ---- a remove of them

  -- a remove may run out of memory, where some dots are seen
  pub remove_wants : (meant : Meaning) → meant ≡ where_present seen (within_limits (view_of s s.state) (view_of s s.pending) (remove_of seen)) → seen ≢ [] → MayWantMemory meant
  remove_wants meant means some = subst MayWantMemory (sym (means ∙ where_some seen _ some)) (limits_want (view_of s s.state) (view_of s s.pending) (remove_of seen) refl)

  pub remove_plan : (meant : Meaning) (planned : Planned) → meant ≡ where_present seen (within_limits (view_of s s.state) (view_of s s.pending) (remove_of seen)) → seen ≢ []
      → planned.count ≡ s.last_count → planned.time ≡ s.last_time
      → HasParts planned.change (set.from_list its_dots) none_held map.empty → IsPlan s meant planned
  remove_plan meant planned means some count time parts = record {
    operation = remove_of seen;
    means = means ∙ where_some seen _ some;
    stands = remove_delta planned.change (set.from_list its_dots) parts.known parts.live parts.totals;
    not_exhausted = refl;
    not_past_total = refl;
    counted = count ∙ omega arith;
    timed = time ∙ omega arith;
    change = subst (λ n. IsChangeOf s n planned.time planned.change) (sym count) (subst (λ t. IsChangeOf s s.last_count t planned.change) (sym time)
        (remove_change s kept planned.change its_dots seen_known_here parts.known parts.live parts.totals));
    limits = parts.limits;
  }

  -- ---- a write on them
  module _ (setting : Setting) where
    -- the time of it
    abbrev next_time : ℕ
    next_time = suc (max s.last_time (greatest (λ d. time_replaced (view_of s s.state).dots setting d.0) seen))

    abbrev stamp : Stamp
    stamp = record { time = next_time; site = s.site }

    abbrev writing : Operation
    writing = write_at s.site (view_of s s.state) setting seen

    abbrev meant : Meaning
    meant = meaning_of_setting s.site (view_of s s.state) (view_of s s.pending) setting seen

    module _ (some : seen ≢ []) where
      write_means : meant ≡ within_limits (view_of s s.state) (view_of s s.pending) writing
      write_means = where_some seen _ some

      -- a write may run out of memory
      pub write_wants : MayWantMemory meant
      write_wants = subst MayWantMemory (sym write_means) (limits_want (view_of s s.state) (view_of s s.pending) writing refl)

      -- the refusal of all writes is that of this one, where its time is past the greatest
      pub write_reported : (dots : List Dot) (refusal : Refusal) → dots ≡ its_dots → IsRefusalOfWrites s dots refusal → (IsCount next_time → ⊥) → IsUnplanned meant refusal
      write_reported dots refusal are reported none = by (reported queue interface setting are (used_up (max s.last_time (greatest (λ d. time_replaced (view_of s s.state).dots setting d.0) seen)) none))
        where
          by : IsRefusalOf s writing refusal → IsUnplanned meant refusal
          by (inl e) = inl (e, write_wants)
          by (inr e) = inr (write_means ∙ e)

      -- a context of too many runs gives this refusal
      pub write_long : MOST_RUNS < run_count (dots_seen_below s.state.members its_dots) → meant ≡ Refused MembersFull
      write_long many = write_means ∙ full_means (view_of s s.state) (view_of s s.pending) writing (inr (inr
          (ap (λ k. nat_lt MOST_RUNS (run_count k)) (known_by writing seen (older_dots (view_of s s.state) its_dots) refl refl ∙ sym (seen_older s s.state its_dots))
          ∙ test (run_count (dots_seen_below s.state.members its_dots)) many)))
        where
          test : (n : ℕ) → MOST_RUNS < n → nat_lt MOST_RUNS n ≡ true
          test n h = grind (arith, nat_tests)

      -- the plan is that of the write
      pub write_plan : (planned : Planned) → IsCount next_time → planned.count ≡ s.last_count → planned.time ≡ next_time
          → HasParts planned.change (dots_seen_below s.state.members its_dots) (written_to s.state.members its_dots (fields_written stamp setting)) map.empty
          → IsPlan s meant planned
      write_plan planned time_is count time parts =
          let held : (q : Dot) → map.get planned.change.members.live q ≡ held_by seen (fields_written stamp setting) q = λ q. parts.live q ∙ held_seen s.state.members queue interface (fields_written stamp setting) q in
          record {
            operation = writing;
            means = write_means;
            stands = write_delta planned.change seen setting stamp (older_dots (view_of s s.state) its_dots)
                (λ p h. older_live s s.state its_dots p.0 (seen_live s s.state queue interface p h)) (parts.known ∙ seen_older s s.state its_dots) held parts.totals;
            not_exhausted = not_used_up next_time time_is;
            not_past_total = refl;
            counted = count ∙ omega arith;
            timed = time ∙ own_latest s.site next_time s.last_time (later s.last_time (greatest (λ d. time_replaced (view_of s s.state).dots setting d.0) seen));
            change = subst (λ n. IsChangeOf s n planned.time planned.change) (sym count) (subst (λ t. IsChangeOf s s.last_count t planned.change) (sym time)
                (write_change s kept limits planned.change queue interface setting time_is.1 parts.known held parts.totals));
            limits = parts.limits;
          }
        where
          later : (m n : ℕ) → m ≤ suc (max m n)
          later m n = omega arith

-- what a remove means, by the dots of the member
pub remove_means : (s : SiteState) → IsKept s → (queue interface : List ℕ) (number : ℕ) → number_of s.names queue ≡ Some number
    → meaning_at s (RemoveMember queue interface)
    ≡ where_present (dots_seen (view_of s s.state).dots (Some number) interface) (within_limits (view_of s s.state) (view_of s s.pending) (remove_of (dots_seen (view_of s s.state).dots (Some number) interface)))
remove_means s kept queue interface number numbered = ap (λ n. in_queue n (λ q. where_present (dots_seen (view_of s s.state).dots (Some q) interface)
    (within_limits (view_of s s.state) (view_of s s.pending) (remove_of (dots_seen (view_of s s.state).dots (Some q) interface))))) numbered
