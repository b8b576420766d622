use Rattle.std.proofs.Common.{◌≡◌, ◌<◌, true, length, sym, ap, subst, ◌∙◌, arith}
use Rattle.std.specs.List.{AllWithin}
use Rattle.causal_context.specs.RunLists.{is_below}
use Rattle.live_cells.proofs.Pieces.{differs, agrees}
use Rattle.member_orset.proofs.site_walk.SiteWalk.known_piece.Goals as goal
use Rattle.member_orset.proofs.RunPieces.{past_runs, runs_elsewhere, runs_later}

pub returns-then-place-runs : goal.returns-then-place-runs
returns-then-place-runs c = record {
  some = λ h. h;
  within = omega arith;
  same = λ n lo hi. past_runs c.args.self.now.runs.list.now c.args.self.now.from (subst (λ m. AllWithin (λ r. is_below c.args.self.now.from r ≡ true) c.args.self.now.runs.list.now 0 m) c.if-place-runs.true c.args.self.now.run_before) n lo;
}

pub returns-then-ne : goal.returns-then-ne
returns-then-ne c =
    let place = c.args.self.now.run in
    let runs = c.args.self.now.runs.list.now in
    let x = c.index-runs-place.result in
    let within : place < length runs = omega arith in
    let other = differs _ _ (sym c.ne.ensures ∙ c.if-ne.true) in
    let site = c.site.ensures.value in
    let is = ap (λ r. r.site) c.run.view_is ∙ ap (λ r. r.site) c.index-runs-place.is in
    record {
      some = λ h. h;
      within = omega arith;
      same = λ n lo hi. runs_elsewhere runs c.args.self.now.from place x c.args.self.now.runs.apart within c.args.self.now.run_before c.args.self.now.run_after (λ e. other (is ∙ e ∙ sym site)) n lo;
    }

pub returns-then-count-run : goal.returns-then-count-run
returns-then-count-run c =
    let place = c.args.self.now.run in
    let runs = c.args.self.now.runs.list.now in
    let x = c.index-runs-place.result in
    let within : place < length runs = omega arith in
    let alike = agrees _ _ (sym c.ne.ensures ∙ c.if-ne.false) in
    let site = c.site.ensures.value in
    let is = ap (λ r. r.site) c.run.view_is ∙ ap (λ r. r.site) c.index-runs-place.is in
    let first = ap (λ r. r.first) c.index-runs-place.is in
    let first_is = ap (λ r. r.first) c.run.view_is in
    let count = c.count.ensures.value in
    record {
      some = λ h. omega arith;
      within = omega arith;
      same = λ n lo hi. runs_later runs c.args.self.now.from place x c.args.self.now.runs.apart within c.args.self.now.run_before c.args.self.now.run_after (sym is ∙ alike ∙ site) n lo (omega arith);
    }
