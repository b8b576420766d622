use Rattle.std.specs.Prelude.{◌≡◌, ◌+◌, ◌≤◌, ◌<◌, length, map, vec_len}
use Rattle.site_links.specs.Linking.{IsLinkedFrom}
use Rattle.site_links.proofs.linking.link_to.Given as goal

-- one link from each other site so far
abbrev pub invariant-loop-other : goal.invariant-loop-other
invariant-loop-other l = (l.other ≤ l.site → vec_len l.from ≡ l.other) × (l.site < l.other → vec_len l.from + 1 ≡ l.other) × (length l.to ≡ length l.initial.to)
    × IsLinkedFrom l.site l.other l.from.items (map (λ ends. ends.items) l.initial.to) (map (λ ends. ends.items) l.to)
