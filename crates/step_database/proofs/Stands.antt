-- Rows that stand for steps, and for more steps.
use Rattle.std.proofs.Common.{◌≡◌, ◌+◌, ◌-◌, ◌<◌, ◌^◌, ◌∙◌, min, inl, inr, ℕ, List, [], ◌∷◌, ◌++◌, refl, sym, ap, arith}
use Rattle.std.specs.Prelude.{count_by}
use Rattle.std.specs.List.{All}
use Rattle.std.proofs.lemmas.List.Elements.{All-append, All-nil}
use Rattle.replica.specs.Site.{SiteState}
use Rattle.replica.proofs.SameSites.{site_itself}
use Rattle.site_journal.specs.Legal.{LeadAll}
use Rattle.site_journal.specs.declared.step.Step.{Step}
use Rattle.stored_steps.specs.declared.restored_site.RestoredSite.{RestoredSite}
use Rattle.stored_steps.specs.Bases.{IsRowOfBase}
use Rattle.stored_steps.specs.Restoring.{IsRestoredSite}
use Rattle.stored_steps.specs.StartRows.{is_start, start_row}
use Rattle.stored_steps.specs.StepRows.{IsWithinLimits, rows_of}
use Rattle.stored_steps.specs.Stored.{Stored}
use Rattle.stored_steps.proofs.Replaying.{lead_on, one_site, steps_lead}
use Rattle.stored_desk.specs.Recorded.{IsLegalHistory}
use Rattle.step_database.specs.Standing.{StandForSteps, StoreOrigin}
use Rattle.step_database.proofs.StepRows.{count_both, no_starts}

-- where steps lead, the first of them lead somewhere, and the others on from there
pub lead_parts : (from to : SiteState) (steps more : List Step) → LeadAll from (steps ++ more) to → (mid : SiteState) × LeadAll from steps mid × LeadAll mid more to
lead_parts from to [] more all = (from, site_itself from, all)
lead_parts from to (step ∷ steps) more (next, one, rest) =
    let parts = lead_parts next to steps more rest in
    (parts.0, (next, one, parts.1), parts.2)

-- the rows of more steps stand behind those of the steps before
pub stand_on : (origin : StoreOrigin) (rows : List Stored) (steps more : List Step) → StandForSteps origin rows steps → All IsWithinLimits more → IsLegalHistory origin.begun (steps ++ more)
    → StandForSteps origin (rows ++ rows_of more) (steps ++ more)
stand_on origin rows steps more s good legal = record {
  base = s.base;
  first = s.first;
  rest = s.rest ++ rows_of more;
  rows_are = ap (λ (l : List Stored). l ++ rows_of more) s.rows_are;
  base_is = s.base_is;
  name = s.name;
  starts = s.starts ∙ ap (λ (n : ℕ). min (s.base.starts + n) (2 ^ 64 - 1)) count;
  within = All-append IsWithinLimits steps more s.within good;
  legal = legal;
  lead = λ site all.
      let parts = lead_parts origin.begun site steps more all in
      lead_on s.base.replica parts.0 site s.rest (rows_of more) (s.lead parts.0 parts.1) (steps_lead parts.0 site more parts.2 good);
}
  where
    count : count_by is_start s.rest ≡ count_by is_start (s.rest ++ rows_of more)
    count = omega (arith, count_both s.rest (rows_of more), no_starts more good)

-- the row of the site after the steps stands for them
pub stand_anew : (origin : StoreOrigin) (rows : List Stored) (steps : List Step) (site : SiteState) (row : Stored) → StandForSteps origin rows steps → LeadAll origin.begun steps site
    → IsRowOfBase (record { replica = site; name = origin.name; starts = origin.starts }) row → StandForSteps origin (row ∷ []) steps
stand_anew origin rows steps site row s all of = record {
  base = record { replica = site; name = origin.name; starts = origin.starts };
  first = row;
  rest = [];
  rows_are = refl;
  base_is = inl of;
  name = refl;
  starts = counted origin.starts of.good.limits.starts;
  within = s.within;
  legal = s.legal;
  lead = λ other led. one_site origin.begun origin.begun site other (rows_of steps) (site_itself origin.begun) (steps_lead origin.begun site steps all s.within) (steps_lead origin.begun other steps led s.within);
}
  where
    counted : (n : ℕ) → n < 2 ^ 64 → n ≡ min (n + 0) (2 ^ 64 - 1)
    counted n small = omega arith

-- the rows of which a site was restored, and the row of a start, stand for no step of that site
pub stand_begun : (rows : List Stored) (it : RestoredSite) (starts : ℕ) → IsRestoredSite rows it → starts ≡ min (it.starts + 1) (2 ^ 64 - 1)
    → StandForSteps (record { begun = it.journal.replica; name = it.name; starts = starts }) (rows ++ start_row ∷ []) []
stand_begun rows it starts is counted = record {
  base = is.base;
  first = is.first;
  rest = is.rest ++ start_row ∷ [];
  rows_are = ap (λ (l : List Stored). l ++ start_row ∷ []) is.rows_are;
  base_is = inr is.base_is;
  name = sym is.name;
  starts = more it.starts is.base.starts (count_by is_start is.rest) (count_by is_start (is.rest ++ start_row ∷ [])) starts counted is.starts (count_both is.rest (start_row ∷ []));
  within = All-nil IsWithinLimits;
  legal = record { state = it.journal.replica; lead = site_itself it.journal.replica };
  lead = λ site same. lead_on is.base.replica it.journal.replica site is.rest (start_row ∷ []) is.replayed.led (site, inr (refl, same), site_itself site);
}
  where
    more : (before base counted all starts : ℕ) → starts ≡ min (before + 1) (2 ^ 64 - 1) → before ≡ min (base + counted) (2 ^ 64 - 1) → all ≡ counted + 1 → starts ≡ min (base + all) (2 ^ 64 - 1)
    more before base counted all starts one two three = omega arith
