use Rattle.std.specs.List.{All}
use Rattle.std.specs.Prelude.{◌≡◌, ◌+◌, ◌<◌, ℕ, [], length, map, vec_len}
use Rattle.site_links.specs.Linking.{AreLinked, ends_of, place_of}
use Rattle.site_links.proofs.linking.link_all.Given as goal

-- the first `i` sites, without an end
abbrev pub invariant-loop-i : goal.invariant-loop-i
invariant-loop-i l = (vec_len l.to ≡ l._i) × ((site : ℕ) → ends_of (map (λ to. to.items) l.to.items) site ≡ [])

-- the sites so far have their links, and each site an end that sends to each of them
abbrev pub invariant-loop-site : goal.invariant-loop-site
invariant-loop-site l = (vec_len l.to ≡ l.sites) × (vec_len l.from ≡ l.site) × All (λ from. vec_len from + 1 ≡ l.sites) l.from.items
    × ((site : ℕ) → site < l.sites → length (ends_of (map (λ to. to.items) l.to.items) site) ≡ place_of site l.site)
    × AreLinked (map (λ to. to.items) l.to.items) (map (λ from. from.items) l.from.items)
