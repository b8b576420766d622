use Rattle.std.proofs.lemmas.Result.{IfOk-weaker}
use Rattle.linked_site.proofs.serving.serve_linked_site.Goals as goal

pub returns : goal.returns
returns g c = IfOk-weaker c.run_site.result _ _ (λ end is. let made = c.in_ok-new.ensures in record {
  replica = c.in_ok-new.new.replica;
  new = made.new;
  site_is = made.site;
  names_are = made.names;
  linked = is;
}) c.run_site.ensures
