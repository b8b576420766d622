use Rattle.std.proofs.Common.{◌∙◌, ◌∷◌, [], arith, length, length-append, vec_len, sym, ap}
use Rattle.site_links.proofs.LinkedSites.{linked_at, linked_own, placed_at}
use Rattle.site_links.proofs.linking.link_to.Goals as goal
use Rattle.site_links.proofs.linking.link_to.Goals.{then-other-site+in_ok-add_link, else-other-site}

-- one link more from another site, and none from the site itself
pub loop-other-preserved : goal.loop-other-preserved
loop-other-preserved c = let was = c.loop-other.invariant in elim c.if-other-site.branch [
  | then-other-site+in_ok-add_link w ↦
      let both = w.in_ok-add_link.ensures in
      let more = ap (λ v. v.items) w.from-is ∙ both.4 in
      let size = ap length more in
      let grown = length-append c.loop-other.from.items (both.1 ∷ []) in
      let at = sym c.loop-other.from.ok.0 ∙ placed_at c.args.site c.loop-other.other (vec_len c.loop-other.from) was.0 was.1 in (
        (λ low. let count = was.0 (omega (arith, low)) in omega (arith, count, size, grown, c.if-other-site.from.ok.0, c.loop-other.from.ok.0)),
        (λ high. let count = was.1 (omega (arith, high, w.if-other-site.true)) in omega (arith, count, size, grown, c.if-other-site.from.ok.0, c.loop-other.from.ok.0)),
        c.if-other-site.auto.to ∙ was.2,
        linked_at (λ ends. ends.items) c.args.site c.loop-other.other c.loop-other.from.items c.if-other-site.from.items _ c.loop-other.to c.if-other-site.to
            w.index-to-other.result w.add_link.new.to both.0 both.1 w.if-other-site.true (omega (arith, c.loop-other-test.true, was.2)) at both.2 more both.3
            w.to-is was.3,
      )
  | else-other-site w ↦ rw (w.from-is, w.to-is) (
    (λ low. absurd (omega (arith, low, w.if-other-site.false))),
    (λ high. let count = was.0 (omega (arith, w.if-other-site.false)) in omega (arith, count)),
    was.2,
    linked_own c.args.site c.loop-other.other c.loop-other.from.items _ _ w.if-other-site.false was.3,
  )
]
