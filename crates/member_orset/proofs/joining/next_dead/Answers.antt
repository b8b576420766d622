use Rattle.std.proofs.Common.{◌≡◌, ◌&&◌, false, not, inl, inr, sym, ap, subst, ◌∙◌, arith}
use Rattle.std.specs.FinMap as map
use Rattle.std.proofs.lemmas.Bool.{cases_lt}
use Rattle.std.proofs.Math.Bool.{and-false}
use Rattle.member_orset.specs.Joining.{IsNextDead}
use Rattle.member_orset.proofs.LiveIds.{some_read}
use Rattle.member_orset.proofs.joining.next_dead.Goals as goal

pub returns-in_err-dot : goal.returns-in_err-dot
returns-in_err-dot c =
    let live = c.args.cells.now.live in
    let there = c.args.there.now.live in
    let site = ap (λ r. r.site) c.run.view_is in
    let last = ap (λ r. r.last) c.run.view_is in
    let same = c.placed.ensures.dots in
    subst (IsNextDead c.args.run there c.args.first live) (sym c.from_residual.ensures) (λ n lo hi.
    subst (λ s. (map.contains_key live (record { site = s; count = n }) && not (map.contains_key there (record { site = s; count = n }))) ≡ false) site
    (elim (cases_lt n c.loop-from.from) [
      | inl l ↦ c.loop-from.invariant.none n lo l
      | inr m ↦ ap (λ b. b && not (map.contains_key there (record { site = c.run.inside.site; count = n })))
          (sym (same (record { site = c.run.inside.site; count = n })) ∙ c.in_err-dot.ensures n m (omega arith))
    ]))

pub returns-then-is_none : goal.returns-then-is_none
returns-then-is_none c =
    let live = c.args.cells.now.live in
    let there = c.args.there.now.live in
    let dot = c.in_ok-dot.dot in
    let f = c.in_ok-dot.ensures in
    let site = ap (λ r. r.site) c.run.view_is in
    let last = ap (λ r. r.last) c.run.view_is in
    let same = c.placed.ensures.dots in
    record {
      site_is = f.site_is ∙ site;
      least = let a = c.loop-from.invariant.least in let b = f.least in omega arith;
      most = let m = f.most in omega arith;
      here = sym (same dot) ∙ f.here;
      gone = some_read c.get.result (map.get there dot) c.get.ensures ∙ c.is_none.ensures ∙ ap not c.if-is_none.true;
      none = λ n lo hi. subst (λ s. (map.contains_key live (record { site = s; count = n }) && not (map.contains_key there (record { site = s; count = n }))) ≡ false) site
          (elim (cases_lt n c.loop-from.from) [
            | inl l ↦ c.loop-from.invariant.none n lo l
            | inr m ↦ ap (λ b. b && not (map.contains_key there (record { site = c.run.inside.site; count = n }))) (sym (same (record { site = c.run.inside.site; count = n })) ∙ f.none n m hi)
          ]);
    }

pub loop-from-preserved : goal.loop-from-preserved
loop-from-preserved c =
    let live = c.args.cells.now.live in
    let there = c.args.there.now.live in
    let dot = c.in_ok-dot.dot in
    let f = c.in_ok-dot.ensures in
    let count = c.count-from.ensures.value in
    let same = c.placed.ensures.dots in
    record {
      least = let a = c.loop-from.invariant.least in let b = f.least in omega arith;
      none = λ n lo hi. elim (cases_lt n c.loop-from.from) [
        | inl l ↦ c.loop-from.invariant.none n lo l
        | inr m ↦ elim (cases_lt n dot.count) [
          | inl l ↦ ap (λ b. b && not (map.contains_key there (record { site = c.run.inside.site; count = n }))) (sym (same (record { site = c.run.inside.site; count = n })) ∙ f.none n m l)
          | inr k ↦
              let is : n ≡ dot.count = omega arith in
              let at : dot ≡ record { site = c.run.inside.site; count = n } = λ i. record { site = f.site_is i; count = sym is i } in
              ap (λ b. map.contains_key live (record { site = c.run.inside.site; count = n }) && not b)
              (ap (map.contains_key there) (sym at) ∙ some_read c.get.result (map.get there dot) c.get.ensures ∙ c.is_none.ensures ∙ ap not c.if-is_none.false)
              ∙ and-false (map.contains_key live (record { site = c.run.inside.site; count = n }))
        ]
      ];
    }
