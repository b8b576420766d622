use Rattle.std.proofs.Common.{refl, arith}
use Rattle.replica.proofs.FramedSites.{below_most, whole_means}
use Rattle.replica.proofs.replica.Replica.whole.Goals as goal

pub returns-clause-meaning : goal.returns-clause-meaning
returns-clause-meaning c = λ s stands.
    whole_means _ c.args.self.now _ _ s c.self.view_is stands (below_most c.self.inside.frames c.self.invariant.kept.frames c.if-self-eq-MOST_COUNT.false)
    (record {
      heading = record { maker = refl; number = omega arith };
      delta = c.in-Ok.ensures.same;
      none_retired = c.in-Ok.ensures.retired;
      site = refl;
      names = refl;
      state = refl;
      pending = refl;
      last_count = refl;
      last_time = refl;
      frames = omega arith;
    })
