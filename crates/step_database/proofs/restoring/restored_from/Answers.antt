use Rattle.std.proofs.Common.{refl, sym, subst, ◌∙◌}
use Rattle.replica.specs.Site.{IsSameSite, SiteState}
use Rattle.step_database.proofs.restoring.restored_from.Goals as goal

pub returns-in-Ok-clause-restored : goal.returns-in-Ok-clause-restored
returns-in-Ok-clause-restored g c =
    let said = c.of-begun.ensures ∙ c.replica.ensures.value in record {
      fits = c.requires.fits;
      same = subst (λ (s : SiteState). IsSameSite s c.in-Ok.replica) (c.replica-2.ensures.value ∙ sym said) c.in-Ok.ensures.same;
      holds = λ clean. let is = c.requires.restored clean in record {
        first = is.first;
        rows = is.rows;
        site = c.args.restored.site;
        holds = is.holds;
        restored = is.restored;
        begun = said;
        name = refl;
        starts = refl;
        next_is = is.next_is;
        outside = c.requires.outside clean;
      };
    }
