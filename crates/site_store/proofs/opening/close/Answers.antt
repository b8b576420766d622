use Rattle.std.proofs.Common.{sym, subst}
use Rattle.sqlite.specs.Effect.{Database}
use Rattle.site_store.specs.Steps.{Lists}
use Rattle.site_store.proofs.opening.close.Goals as goal

-- what was committed is in the file, and that is what the connection sees
pub returns-in-Ok : goal.returns-in-Ok
returns-in-Ok g c = record {
  whole = λ clean first rows idle holds.
      let copied = c.in-Ok.ensures.copied clean in
      let lists = subst (λ (d : Database). Lists (d.trees 0) first rows) (sym idle.committed) holds.rows in record {
        seen = (_, copied.seen, lists);
        left = λ image outcome. (_, copied.left image outcome, lists);
      };
}
