use Rattle.std.proofs.Common.{◌≡◌, IfSome, ◌<◌, ◌+◌, ◌⊎◌, inl, inr, ℕ, length, Some, slice_get, sym, ap, subst, ◌∙◌}
use Rattle.std.proofs.lemmas.List.{length-append}
use Rattle.replica.specs.Site.{SiteState}
use Rattle.replica.specs.Steps.{new_site}
use Rattle.sites_world.specs.WorldStates.{HasNoneRetired, IsSiteOf}
use Rattle.sites_world.proofs.Lists.{get_push}
use Rattle.sites_world.proofs.world.new_sites.Goals as goal

-- the next site is the last
pub loop-number-preserved : goal.loop-number-preserved
loop-number-preserved c = record {
  count = ap length c.in_ok-push.ensures.items ∙ length-append c.loop-number.made.items _ ∙ ap (λ n. n + 1) c.loop-number.invariant.count;
  each = λ site state here. by site state (get_push c.loop-number.made.items c.new-in-loop-number.result site state (ap (λ xs. slice_get xs site) (sym c.in_ok-push.ensures.items) ∙ here));
  none_retired = λ site state here. unused site state (get_push c.loop-number.made.items c.new-in-loop-number.result site state (ap (λ xs. slice_get xs site) (sym c.in_ok-push.ensures.items) ∙ here));
}
  where
    unused : (site : ℕ) (state : SiteState) → (((slice_get c.loop-number.made.items site ≡ Some state) × (site < length c.loop-number.made.items)) ⊎ ((site ≡ length c.loop-number.made.items) × (state ≡ c.new-in-loop-number.result)))
        → HasNoneRetired state
    unused site state (inl p) = c.loop-number.invariant.none_retired site state p.0
    unused site state (inr p) = subst HasNoneRetired (sym p.1) (record { state_is = c.new-in-loop-number.ensures.none_retired.0; pending_is = c.new-in-loop-number.ensures.none_retired.1 })

    new : IsSiteOf c.args.list.now c.loop-number.number c.new-in-loop-number.result new_site
    new = record { site = c.new-in-loop-number.ensures.site ∙ subst (λ o. IfSome o (λ n. n ≡ c.loop-number.number)) c.unwrap-site.ensures c.new.ensures.value; names_are = c.new-in-loop-number.ensures.names ∙ c.in_ok-names.ensures; stands = c.new-in-loop-number.ensures.meaning }

    by : (site : ℕ) (state : SiteState) → (((slice_get c.loop-number.made.items site ≡ Some state) × (site < length c.loop-number.made.items)) ⊎ ((site ≡ length c.loop-number.made.items) × (state ≡ c.new-in-loop-number.result)))
        → IsSiteOf c.args.list.now site state new_site
    by site state (inl p) = c.loop-number.invariant.each site state p.0
    by site state (inr p) =
        subst (λ n. IsSiteOf c.args.list.now n state new_site) (sym (p.0 ∙ c.loop-number.invariant.count))
        (subst (λ t. IsSiteOf c.args.list.now c.loop-number.number t new_site) (sym p.1) new)
