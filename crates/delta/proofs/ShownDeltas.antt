-- A delta shows what its knowledge shows.
use Rattle.std.proofs.Common.{◌≡◌, ℕ, Bool, true, false, not, ◌&&◌, Option, Some, None, is_some, if◌then◌else◌, refl, sym, ap, ◌∙◌}
use Rattle.std.specs.Option.{option_map, option_map_or}
use Rattle.std.specs.FinMap as map
use Rattle.std.specs.FinSet as set
use Rattle.dots.specs.declared.calls.Calls.{Calls}
use Rattle.dots.specs.declared.calls.Calls.TheVariants.{Completed, Abandoned}
use Rattle.dots.specs.declared.member.Member.{Member}
use Rattle.dots.specs.Values.{Dot}
use Rattle.operations.specs.Conditions.{DotFields, Live, Dead, fields_in, no_fields}
use Rattle.operations.specs.Counts.{site_total}
use Rattle.operations.specs.Knowledge.{Knowledge, is_named, member_of, visible_dots}
use Rattle.operations.specs.Rows.{ShowAlike, dot_view}
use Rattle.operations.specs.Totals.{totals_of}
use Rattle.dots.proofs.DotOrder.{dots_exact, dots_total}
use Rattle.operations.proofs.JoinedKnowledge.{member_some}
use Rattle.operations.proofs.VisibleLaws.{visible_dot}
use Rattle.site_totals.specs.Raising.{number_of}
use Rattle.member_orset.specs.Members.{Holding, Members, condition_at, dot_view_of}
use Rattle.delta.specs.DeltaStates.{DeltaState}
use Rattle.delta.specs.Standing.{IsDeltaOf, IsReadAs}

-- the visible dots of a set are the live ones
visible_live : (s : Members) (dot : Dot) → set.contains (dot_view_of s).visible dot ≡ is_some (map.get s.live dot)
visible_live s dot = set.contains-from_list dots_total (map.keys s.live) dot ∙ sym (map.contains_key-keys s.live dot)

module _ (d : DeltaState) (k : Knowledge) (is : IsDeltaOf d k) where
  -- what is live of a dot, by whether it is named and its member in the knowledge
  live_by : (g : Option Holding) (known n : Bool) (m : Option Member) (f : DotFields) → condition_at g known ≡ (if n then Some Dead else option_map (λ x. Live x f) m)
      → g ≡ (if n then None else option_map (λ x. (x, f)) m)
  live_by (Some h) known true m f e = absurd (cc)
  live_by (Some h) known false None f e = absurd (cc)
  live_by (Some h) known false (Some x) f e = let a : h.0 ≡ x = cc in let b : h.1 ≡ f = cc in λ i. Some (a i, b i)
  live_by None known true m f e = refl
  live_by None true false (Some x) f e = absurd (cc)
  live_by None false false (Some x) f e = absurd (cc)
  live_by None known false None f e = refl

  pub live_is : (dot : Dot) → map.get d.members.live dot ≡ (if is_named k dot then None else option_map (λ x. (x, fields_in k dot)) (member_of k dot))
  live_is dot = live_by (map.get d.members.live dot) (set.contains d.members.known dot) (is_named k dot) (member_of k dot) (fields_in k dot) (is.conditions dot)

  visible_is : (dot_view_of d.members).visible ≡ visible_dots k
  visible_is = set.same_set dots_total dots_exact _ _ (λ dot.
      visible_live d.members dot ∙ ap is_some (live_is dot) ∙ by (is_named k dot) (member_of k dot) (fields_in k dot)
      ∙ ap (λ b. b && not (is_named k dot)) (member_some k dot) ∙ sym (visible_dot k dot))
    where
      by : (n : Bool) (m : Option Member) (f : DotFields) → is_some (if n then None else option_map (λ (x : Member). let p : Holding = (x, f) in p) m) ≡ (is_some m && not n)
      by true None f = refl
      by true (Some x) f = refl
      by false None f = refl
      by false (Some x) f = refl

  -- of a visible dot member and fields are live
  seen_live : (dot : Dot) → set.contains (dot_view_of d.members).visible dot ≡ true → (member : Member) × (map.get d.members.live dot ≡ Some (member, fields_in k dot)) × (member_of k dot ≡ Some member)
  seen_live dot h = by (is_named k dot) (member_of k dot) refl (live_is dot) (sym (visible_live d.members dot) ∙ h)
    where
      by : (n : Bool) (m : Option Member) → member_of k dot ≡ m → map.get d.members.live dot ≡ (if n then None else option_map (λ x. (x, fields_in k dot)) m) → is_some (map.get d.members.live dot) ≡ true
          → (member : Member) × (map.get d.members.live dot ≡ Some (member, fields_in k dot)) × (member_of k dot ≡ Some member)
      by true m e l s = absurd (let no = sym (ap is_some l) ∙ s in cc)
      by false None e l s = absurd (let no = sym (ap is_some l) ∙ s in cc)
      by false (Some x) e l s = (x, l, e)

  shows_alike : ShowAlike (dot_view_of d.members) (dot_view k)
  shows_alike = record {
    visible = visible_is;
    member = λ dot h. let s = seen_live dot h in ap (option_map (λ x. x.0)) s.1 ∙ sym s.2;
    fields = λ dot h. let s = seen_live dot h in ap (λ o. option_map_or (λ x. x.1) o no_fields) s.1;
  }

  totals_alike : (site queue : ℕ) (calls : Calls) → number_of calls (totals_of d.totals.entries site queue) ≡ site_total k site queue calls
  totals_alike site queue Completed = ap (λ t. t.completed) (is.totals site queue)
  totals_alike site queue Abandoned = ap (λ t. t.abandoned) (is.totals site queue)

  pub read_as : IsReadAs d k
  read_as = record { dots = shows_alike; totals = totals_alike }
