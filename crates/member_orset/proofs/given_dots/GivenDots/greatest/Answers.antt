use Rattle.std.proofs.Common.{ℕ, ◌≡◌, ◌+◌, ◌≤◌, true, take, sym, ap, subst, inl, inr, ◌∙◌, arith}
use Rattle.std.proofs.lemmas.Bool.{cases_lt}
use Rattle.std.proofs.lemmas.List.{take_all}
use Rattle.std.proofs.lemmas.List.Elements.{All-more, All-same, All-weaker}
use Rattle.dots.specs.Values.{Dot}
use Rattle.member_orset.specs.Gathering.{is_given}
use Rattle.live_cells.proofs.Pieces.{differs, agrees}
use Rattle.member_orset.proofs.GivenDots.{greatest_among}
use Rattle.member_orset.proofs.RunPieces.{given_before, given_now}
use Rattle.member_orset.proofs.given_dots.GivenDots.greatest.Goals as goal

abbrev Least : ℕ → Dot → Type 0
Least site d = d.site ≡ site → 1 ≤ d.count

abbrev Most : ℕ → ℕ → Dot → Type 0
Most site greatest d = d.site ≡ site → d.count ≤ greatest

pub loop-dot-preserved-then-ne : goal.loop-dot-preserved-then-ne
loop-dot-preserved-then-ne c =
    let given = c.of_site-those.result.now in
    let site = c.args.site in
    let i = c.loop-dot.dot-index in
    let x = c.dot-item.result in
    let other = differs _ _ (sym c.ne.ensures ∙ c.if-ne.true) in
    let is = c.site.ensures.value in
    record {
      limit = c.loop-dot.invariant.limit;
      least = All-more (Least site) given i x c.loop-dot-test.true c.loop-dot.invariant.least (subst (Least site) c.dot-item.is (λ s. absurd (other (is ∙ s))));
      most = All-more (Most site c.loop-dot.greatest) given i x c.loop-dot-test.true c.loop-dot.invariant.most (subst (Most site c.loop-dot.greatest) c.dot-item.is (λ s. absurd (other (is ∙ s))));
      reached = λ h. given_before given i x _ c.loop-dot-test.true (c.loop-dot.invariant.reached h);
    }

pub loop-dot-preserved : goal.loop-dot-preserved
loop-dot-preserved c =
    let given = c.of_site-those.result.now in
    let site = c.args.site in
    let i = c.loop-dot.dot-index in
    let x = c.dot-item.result in
    let is = c.site.ensures.value in
    let same : x.site ≡ site = sym is ∙ agrees _ _ (sym c.ne.ensures ∙ c.if-ne.false) in
    let count = c.count-count.ensures.value in
    let limit = c.count-count.ensures.limit in
    let greatest = c.max-greatest.result in
    record {
      limit = omega arith;
      least = All-more (Least site) given i x c.loop-dot-test.true c.loop-dot.invariant.least (subst (Least site) c.dot-item.is (λ s. omega arith));
      most = All-more (Most site greatest) given i x c.loop-dot-test.true
          (All-weaker (Most site c.loop-dot.greatest) (Most site greatest) (λ d p s. let q = p s in omega arith) (take i given) c.loop-dot.invariant.most)
          (subst (Most site greatest) c.dot-item.is (λ s. omega arith));
      reached = λ h. elim (cases_lt c.loop-dot.greatest x.count) [
        | inl l ↦ let e : x.count ≡ greatest = omega arith in
            subst (λ (q : Dot). is_given (take (i + 1) given) q ≡ true) (λ k. record { site = same k; count = e k }) (given_now given i x c.loop-dot-test.true c.dot-item.is)
        | inr m ↦ let e : c.loop-dot.greatest ≡ greatest = omega arith in
            subst (λ n. is_given (take (i + 1) given) (record { site = site; count = n }) ≡ true) e (given_before given i x _ c.loop-dot-test.true (c.loop-dot.invariant.reached (omega arith)))
      ];
    }

pub returns-clause-greatest : goal.returns-clause-greatest
returns-clause-greatest c =
    let given = c.of_site-those.result.now in
    let all = take_all c.loop-dot.dot-index given c.loop-dot-test.false in
    greatest_among c.args.self.list.now given c.args.site c.loop-dot.greatest c.of_site-those.ensures (record {
      least = All-same (Least c.args.site) given (take c.loop-dot.dot-index given) (sym all) c.loop-dot.invariant.least;
      most = All-same (Most c.args.site c.loop-dot.greatest) given (take c.loop-dot.dot-index given) (sym all) c.loop-dot.invariant.most;
      reached = λ h. ap (λ ds. is_given ds (record { site = c.args.site; count = c.loop-dot.greatest })) (sym all) ∙ c.loop-dot.invariant.reached h;
    })
