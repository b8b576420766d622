use Rattle.std.proofs.Common.{◌≡◌, ◌+◌, ◌-◌, ◌<◌, length, sym, ap, ◌∙◌, arith}
use Rattle.std.proofs.lemmas.List.{get_or_default}
use Rattle.live_cells.proofs.Pieces.{agrees}
use Rattle.live_cells.proofs.live_runs.LiveRun.go.Goals as goal

pub invariant_of-self-2-clause-run : goal.invariant_of-self-2-clause-run
invariant_of-self-2-clause-run c =
    let dots = c.args.self.now.dots.now in
    let first = c.args.self.now.first in
    let place = c.args.self.now.last + c.args.step in
    let x = c.index-dots-first.result in
    let y = c.index-dots-place.result in
    let some = c.args.self.now.some in
    let order = c.args.self.now.order in
    let most = c.args.self.now.within in
    let within : place < length dots = omega arith in
    let before : first < length dots = omega arith in
    let apart : c.count.result ≡ c.count-2.result + (place - first) = omega arith in
    let to = c.count.ensures.value in
    let from = c.count-2.ensures.value in
    record {
      site = λ p. ap (λ q. q.dot.site) (get_or_default dots place p y within)
          ∙ sym c.site.ensures.value ∙ agrees _ _ (sym c.ne.ensures ∙ c.if-ne.false) ∙ c.site-2.ensures.value
          ∙ ap (λ q. q.dot.site) (get_or_default dots first x p before);
      count = λ p.
          let at_last = ap (λ q. q.dot.count) (get_or_default dots place p y within) in
          let at_first = ap (λ q. q.dot.count) (get_or_default dots first x p before) in
          omega arith;
    }
