use Rattle.std.proofs.Common.{◌≡◌, ℕ, length, slice_get, Some, refl, ap, sym, ◌∙◌, subst, arith}
use Rattle.std.proofs.lemmas.Option.{slice_get_read, slice_get_within}
use Rattle.sites_world.proofs.Lists.{one_some}
use Rattle.site_audit.specs.Ending.{HasAllSteps, IsLeastLeft}
use Rattle.site_audit.specs.Runs.{IsStuck}
use Rattle.site_audit.proofs.Ends.{ends_as_run, ends_stuck}
use Rattle.site_audit.proofs.auditing.explained.Goals as goal

-- no site was given more than it has
pub least_left-requires-clause-within : goal.least_left-requires-clause-within
least_left-requires-clause-within c = λ site n j known here.
    (c.requires.kept.is.each site n j known (ap (λ xs. slice_get xs site) (sym c.as_slice.ensures.value) ∙ here)).given.within

pub index-requires : goal.index-requires
index-requires c =
    let a = slice_get_within c.as_slice.result.now c.in-Some.site _ c.in-Some.ensures.left.here in
    let b = c.as_slice.ensures.len in
    omega (arith, a, b)

-- the events are stuck there
pub returns-in-Some-clause-stuck : goal.returns-in-Some-clause-stuck
returns-in-Some-clause-stuck c = λ site position reported.
    let least : IsLeastLeft c.args.journals.now c.args.replay.at.items c.in-Some.site =
    subst (λ xs. IsLeastLeft c.args.journals.now xs c.in-Some.site) c.as_slice.ensures.value c.in-Some.ensures.left in
    let here : slice_get c.args.replay.at.items c.in-Some.site ≡ Some c.index.result.now =
    slice_get_read c.args.replay.at.items (length c.args.replay.at.items) c.in-Some.site c.index.result.now refl (slice_get_within c.args.replay.at.items c.in-Some.site _ least.here) c.index.ensures in
    let both = one_some (c.in-Some.site, c.index.result.now) (site, position) reported in
    let s : c.in-Some.site ≡ site = ap (λ (x : ℕ × ℕ). x.0) both in
    let p : c.index.result.now ≡ position = ap (λ (x : ℕ × ℕ). x.1) both in
    subst (λ n. IsStuck c.args.journals.now n position c.args.replay.events.items) s
    (subst (λ n. IsStuck c.args.journals.now c.in-Some.site n c.args.replay.events.items) p
    (ends_stuck c.args.journals.now c.args.replay c.in-Some.site c.index.result.now c.requires.kept c.requires.none least here))

-- each site has all its steps
pub returns-clause-run : goal.returns-clause-run
returns-clause-run c = λ reported.
    ends_as_run c.args.journals.now c.args.replay c.requires.kept (subst (λ xs. (site : ℕ) → HasAllSteps c.args.journals.now xs site) c.as_slice.ensures.value c.in-None.ensures.none)
