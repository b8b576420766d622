use Rattle.std.proofs.Common.{rules, ◌∙◌, [], arith, length, slice_index_or, ap, sym}
use Rattle.std.proofs.lemmas.List.{get_or-map}
use Rattle.site_links.proofs.LinkedSites.{linked_next, placed_behind}
use Rattle.site_links.proofs.linking.link_all.Goals as goal

-- one site more is linked from each other one
pub loop-site-preserved : goal.loop-site-preserved
loop-site-preserved c =
    let was = c.loop-site.invariant in
    let row = c.in_ok-link_to.field-0 in
    let next = linked_next (λ to. to.items) (λ from. from.items) c.args.sites c.loop-site.site c.loop-site.to.len c.loop-site.to.items c.as_mut_slice.result.now c.link_to.new.to _
    c.loop-site.from.items c.push-in-loop-site.new.self.items row c.as_mut_slice.ensures.value c.in_ok-link_to.ensures.sites c.loop-site.to.ok.0 was.0 (sym was.1 ∙ c.loop-site.from.ok.0)
    c.in_ok-push-2.ensures.items c.in_ok-link_to.ensures.linked was.3 was.4 in (
      was.0,
      search rules,
      search rules,
      next.0,
      next.1,
    )

pub returns : goal.returns
returns c =
    let was = c.loop-site.invariant in record {
      to = was.0;
      from = search rules;
      to_others = λ site none low. let its = c.loop-site.to.ok in
          let behind = placed_behind site c.loop-site.site (omega (arith, low, was.0, its.0, c.loop-site-test.false)) in
          let count = was.3 site (omega (arith, low, was.0, its.0)) in
          let mapped = ap length (get_or-map (λ to. to.items) c.loop-site.to.items site none [] low) in
          omega (arith, behind, count, mapped, (slice_index_or c.loop-site.to.items site none).ok.0, c.loop-site-test.false, c.loop-site.auto.site-end);
      from_others = was.2;
      linked = was.4;
    }
