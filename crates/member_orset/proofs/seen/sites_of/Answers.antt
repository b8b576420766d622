use Rattle.std.proofs.Common.{ℕ, ◌≤◌, ◌<◌, take, sym, subst, arith}
use Rattle.std.proofs.lemmas.List.{take_all}
use Rattle.std.proofs.lemmas.List.Elements.{All-more, All-same, All-weaker}
use Rattle.dots.specs.Values.{Dot}
use Rattle.member_orset.proofs.seen.sites_of.Goals as goal

abbrev From : ℕ → Dot → Type 0
From first d = first ≤ d.site

abbrev Before : ℕ → Dot → Type 0
Before end d = d.site < end

pub loop-dot-preserved : goal.loop-dot-preserved
loop-dot-preserved c =
    let given = c.args.given.now in
    let i = c.loop-dot.dot-index in
    let x = c.dot-item.result in
    let site = c.site-site.ensures in
    let number = c.number-number.ensures in
    let first = c.min-first.result in
    let end = c.max-end.result in
    record {
      limit = omega arith;
      first = All-more (From first) given i x c.loop-dot-test.true
          (All-weaker (From c.loop-dot.first) (From first) (λ d h. omega arith) (take i given) c.loop-dot.invariant.first)
          (subst (From first) c.dot-item.is (omega arith));
      end = All-more (Before end) given i x c.loop-dot-test.true
          (All-weaker (Before c.loop-dot.end) (Before end) (λ d h. omega arith) (take i given) c.loop-dot.invariant.end)
          (subst (Before end) c.dot-item.is (omega arith));
    }

pub returns-clause-first : goal.returns-clause-first
returns-clause-first c =
    All-same (From c.loop-dot.first) c.args.given.now (take c.loop-dot.dot-index c.args.given.now) (sym (take_all c.loop-dot.dot-index c.args.given.now c.loop-dot-test.false)) c.loop-dot.invariant.first

pub returns-clause-end : goal.returns-clause-end
returns-clause-end c =
    All-same (Before c.loop-dot.end) c.args.given.now (take c.loop-dot.dot-index c.args.given.now) (sym (take_all c.loop-dot.dot-index c.args.given.now c.loop-dot-test.false)) c.loop-dot.invariant.end
