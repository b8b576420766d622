-- The links of sites with each other, by the ends that each site has.
use Rattle.std.specs.List.{All}
use Rattle.std.specs.Prelude.{ℕ, ◌+◌, ◌-◌, ◌<◌, ◌≤◌, ◌≡◌, ◌≢◌, ◌⊎◌, ◌++◌, ◌∷◌, [], List, Some, false, map, nat_lt, if◌then◌else◌, slice_get, slice_index_or, vec_len}
use Rattle.site_links.specs.Links.{Receiving, Sending}
use Rattle.site_links.specs.declared.limits.TheConstants.{LINK_CAPACITY}
use Rattle.site_links.specs.declared.linking.SiteLinks.{SiteLinks}

-- the ends that a site has
abbrev pub ends_of : {E : Type 0} → List (List E) → ℕ → List E
ends_of ends site = slice_index_or ends site []

-- the place of another site among those beside `own`, by their numbers
abbrev pub place_of : ℕ → ℕ → ℕ
place_of own other = if nat_lt own other then other - 1 else other

-- both ends are of one link, which has the capacity of each between sites; it is neither down nor ended, and nothing was sent over it yet
pub record IsNewLink (sender : Sending) (receiver : Receiving) : Type 0 where
  pub one : receiver.link ≡ sender.link
  pub holds : sender.link.capacity ≡ LINK_CAPACITY
  pub none_sent : sender.sent ≡ []
  pub not_down : sender.down ≡ false
  pub none_received : receiver.received ≡ []
  pub not_ended : receiver.ended ≡ false

-- of each two sites, the end by which one sends to the other, and that by which the other receives from it, are those of a new link
abbrev pub AreLinked : List (List Sending) → List (List Receiving) → Type 0
AreLinked to from = (site other : ℕ) (sender : Sending) (receiver : Receiving) → site ≢ other → slice_get (ends_of to site) (place_of site other) ≡ Some sender
    → slice_get (ends_of from other) (place_of other site) ≡ Some receiver → IsNewLink sender receiver

-- the ends of all links of `sites` sites, which are new: each site has one for each other site that sends to it, and one that
-- receives from it
pub record AreLinksOf (sites : ℕ) (links : SiteLinks) : Type 0 where
  pub to : vec_len links.to ≡ sites
  pub from : vec_len links.from ≡ sites
  pub to_others : All (λ to. vec_len to + 1 ≡ sites) links.to.items
  pub from_others : All (λ from. vec_len from + 1 ≡ sites) links.from.items
  pub linked : AreLinked (map (λ to. to.items) links.to.items) (map (λ from. from.items) links.from.items)

-- the site `own` was linked from each other one before `reached`: that has one end more that sends, of a new link, and `own` has the other end
pub record IsLinkedFrom (own reached : ℕ) (from : List Receiving) (old new : List (List Sending)) : Type 0 where
  pub linked : (other : ℕ) → other ≢ own → other < reached → (sender : Sending) × (receiver : Receiving) × IsNewLink sender receiver
      × (ends_of new other ≡ ends_of old other ++ sender ∷ []) × (slice_get from (place_of own other) ≡ Some receiver)
  pub stays : (site : ℕ) → (site ≡ own) ⊎ (reached ≤ site) → ends_of new site ≡ ends_of old site
