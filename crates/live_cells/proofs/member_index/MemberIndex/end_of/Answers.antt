use Rattle.std.proofs.Common.{◌≡◌, false, get_or, inl, inr, sym, ap, ◌∙◌, arith}
use Rattle.std.specs.FinMap as map
use Rattle.std.specs.Option.{option_map_or}
use Rattle.std.specs.Ordering.{is_le}
use Rattle.std.proofs.lemmas.Bool.{cases_lt}
use Rattle.dots.specs.Orders.{member_cmp}
use Rattle.live_cells.specs.Index.{Listed}
use Rattle.live_cells.specs.PlacedStates.{listed_at}
use Rattle.live_cells.proofs.IndexPlaces.{past_from}
use Rattle.live_cells.proofs.ListedIds.{as_long, reported_there}
use Rattle.live_cells.proofs.member_index.MemberIndex.end_of.Goals as goal

pub loop-end-init : goal.loop-end-init
loop-end-init g c = record {
  order = omega arith;
  within = c.requires.within;
  upto = c.requires.known;
}

pub loop-end-preserved : goal.loop-end-preserved
loop-end-preserved g c =
    let held = c.args.self.cells.now.held in
    let ids = c.args.self.ids.now in
    let m = c.args.member.now in
    let end = c.loop-end.end in
    let id = c.index-members-end.result in
    let upto = c.loop-end.invariant.upto in
    record {
      order = omega arith;
      within = omega arith;
      upto = λ k d lo hi. elim (cases_lt k end) [
        | inl l ↦ upto k d lo l
        | inr h ↦
            let here : k ≡ end = omega arith in
            ap (λ n. is_le (member_cmp (get_or (listed_at held ids) n d).member m)) here
            ∙ sym (reported_there held ids c.args.self.indexed.held (λ l. is_le (member_cmp l.member m)) end id d c.loop-end-test.true)
            ∙ ap (λ i. option_map_or (λ x. is_le (member_cmp x.member m)) (map.get held i) false) (sym c.index-members-end.is)
            ∙ sym c.is_upto.ensures ∙ c.if-not-is_upto.false
      ];
    }

pub returns-then-not-is_upto-clause-end : goal.returns-then-not-is_upto-clause-end
returns-then-not-is_upto-clause-end g c =
    let held = c.args.self.cells.now.held in
    let ids = c.args.self.ids.now in
    let m = c.args.member.now in
    let end = c.loop-end.end in
    let id = c.index-members-end.result in
    let no_entry : Listed = record { member = m; dot = record { site = 0; count = 0 } } in
    let greater : is_le (member_cmp (get_or (listed_at held ids) end no_entry).member m) ≡ false =
    sym (reported_there held ids c.args.self.indexed.held (λ l. is_le (member_cmp l.member m)) end id no_entry c.loop-end-test.true)
    ∙ ap (λ i. option_map_or (λ x. is_le (member_cmp x.member m)) (map.get held i) false) (sym c.index-members-end.is)
    ∙ sym c.is_upto.ensures ∙ c.if-not-is_upto.true in (
      c.loop-end.invariant.upto,
      past_from m (listed_at held ids) end no_entry c.args.self.indexed.index.rises (omega (arith, as_long held ids c.args.self.indexed.held)) greater,
    )

pub returns-clause-end : goal.returns-clause-end
returns-clause-end g c =
    let held = c.args.self.cells.now.held in
    let ids = c.args.self.ids.now in
    let m = c.args.member.now in
    let all = as_long held ids c.args.self.indexed.held in (
      c.loop-end.invariant.upto,
      λ k d lo hi. absurd (omega arith),
    )
