use Rattle.std.proofs.Common.{◌≡◌, ◌≢◌, ◌<◌, length, get_or, sym, ap, ◌∙◌, arith, true≢false}
use Rattle.std.proofs.lemmas.List.{get_or_default}
use Rattle.dots.proofs.DotOrder.{same_dot}
use Rattle.live_cells.specs.PlacedLists.{is_placed}
use Rattle.live_cells.proofs.DotTests.{one_dot, same_tied}
use Rattle.member_orset.proofs.LiveRuns.{run_placed}
use Rattle.live_cells.proofs.Pieces.{agrees, beyond, differs, dots_elsewhere, dots_later, next_dot, past_dots}
use Rattle.member_orset.proofs.site_walk.SiteWalk.live_piece.Goals as goal

pub returns-then-below-dots : goal.returns-then-below-dots
returns-then-below-dots c = record {
  some = λ h. h;
  within = omega arith;
  same = λ n lo hi. past_dots c.args.self.now.dots.list.now c.args.self.now.from c.args.self.now.live n c.args.self.now.dots.rise c.args.self.now.live_before c.if-below-dots.true lo;
}

-- the dots of the run that begins at the dot are live
pub returns-then-eq : goal.returns-then-eq
returns-then-eq c =
    let dots = c.args.self.now.dots.list.now in
    let below = c.args.self.now.live in
    let x = c.index-dots-below.result in
    let y = c.index-dots-end.result in
    let end = c.live_run_end-end.result in
    let run = c.live_run_end-end.ensures.run in
    let rises = c.live_run_end-end.ensures.least in
    let within = c.live_run_end-end.ensures.within in
    let inside : below < length dots = let w = c.args.self.now.live_within in let n = c.if-below-dots.false in omega arith in
    let is = one_dot c.args.self.now.from (get_or dots below x).dot (same_dot c.args.self.now.from (get_or dots below x).dot ∙ sym c.eq.ensures ∙ c.if-eq.true) in
    let from = ap (λ d. d.count) is ∙ ap (λ p. p.dot.count) (get_or_default dots below x y inside) in
    let to = c.count-count.ensures.value in
    let apart = run.count y in
    record {
      some = λ h. omega arith;
      within = omega arith;
      same = λ n lo hi.
          ap (λ s. is_placed dots (record { site = s; count = n })) (ap (λ d. d.site) is ∙ ap (λ p. p.dot.site) (get_or_default dots below x y inside))
          ∙ run_placed dots c.args.self.now.dots.rise y below end n rises within run (omega arith) (omega arith);
    }

pub returns-then-ne : goal.returns-then-ne
returns-then-ne c =
    let dots = c.args.self.now.dots.list.now in
    let x = c.index-dots-below.result in
    let inside : c.args.self.now.live < length dots = let w = c.args.self.now.live_within in let n = c.if-below-dots.false in omega arith in
    let different = differs _ _ (sym c.ne.ensures ∙ c.if-ne.true) in
    let other : x.dot.site ≢ c.args.self.now.from.site = λ e. different (c.site.ensures.value ∙ sym (ap (λ y. y.dot.site) c.index-dots-below.is) ∙ e ∙ sym c.site-2.ensures.value) in
    let after = beyond dots c.args.self.now.from c.args.self.now.live x inside c.index-dots-below.is c.args.self.now.live_after (λ e. other (ap (λ y. y.site) (sym e))) in
    record {
      some = λ h. h;
      within = omega arith;
      same = λ n lo hi. dots_elsewhere dots c.args.self.now.from c.args.self.now.live x c.args.self.now.dots.rise inside c.args.self.now.live_before c.index-dots-below.is after other n lo;
    }

pub returns : goal.returns
returns c =
    let dots = c.args.self.now.dots.list.now in
    let x = c.index-dots-below.result in
    let inside : c.args.self.now.live < length dots = let w = c.args.self.now.live_within in let n = c.if-below-dots.false in omega arith in
    let same : x.dot.site ≡ c.args.self.now.from.site = ap (λ y. y.dot.site) c.index-dots-below.is ∙ sym c.site.ensures.value ∙ agrees _ _ (sym c.ne.ensures ∙ c.if-ne.false) ∙ c.site-2.ensures.value in
    let other : c.args.self.now.from ≢ x.dot =
    λ e. true≢false (sym (same_tied c.args.self.now.from (get_or dots c.args.self.now.live x).dot (e ∙ ap (λ y. y.dot) c.index-dots-below.is)) ∙ same_dot c.args.self.now.from (get_or dots c.args.self.now.live x).dot ∙ sym c.eq.ensures ∙ c.if-eq.false) in
    let after = beyond dots c.args.self.now.from c.args.self.now.live x inside c.index-dots-below.is c.args.self.now.live_after other in
    let more = next_dot dots c.args.self.now.from c.args.self.now.live x c.args.self.now.dots.rise inside c.args.self.now.live_before c.index-dots-below.is after same in
    let next = ap (λ y. y.dot.count) c.index-dots-below.is in
    let count = c.count.ensures.value in
    record {
      some = λ h. omega arith;
      within = omega arith;
      same = λ n lo hi. dots_later dots c.args.self.now.from c.args.self.now.live x c.args.self.now.dots.rise inside c.args.self.now.live_before c.index-dots-below.is after same n lo (omega arith);
    }
