-- What an outlet has done that waits for a slow receiver only shortly (this project's own).
use Rattle.std.specs.Prelude.{ℕ, ◌≡◌, ◌⊎◌, ◌++◌, Bool, true, false, List, [], ◌∷◌}
use Rattle.site_links.specs.Links.{Sending}

-- the sender of a link, whether its receiver lacks items, and whether the link has taken the last item
pub record BriefSending : Type 0 where
  pub link : Sending
  pub lacks : Bool
  pub taken : Bool

-- a brief sender's state: the link's sender, whether its receiver lacks items, and whether the link has taken
-- the last
abbrev pub brief_sending : Sending → Bool → Bool → BriefSending
brief_sending link lacks taken = record { link = link; lacks = lacks; taken = taken }

-- the link, which was up, has taken the item
pub record IsTakenByLink (old : BriefSending) (item : List ℕ) (new : BriefSending) : Type 0 where
  pub up : old.link.down ≡ false
  pub sent : new.link.sent ≡ old.link.sent ++ item ∷ []
  pub taken : new.taken ≡ true
  pub lacks : new.lacks ≡ old.lacks

-- an item was dropped: the receiver lacks items, or the link is down
pub record IsDropped (old new : BriefSending) : Type 0 where
  pub sent : new.link.sent ≡ old.link.sent
  pub taken : new.taken ≡ false
  pub lacks : old.lacks ≡ true → new.lacks ≡ true
  pub down : old.link.down ≡ true → new.link.down ≡ true
  pub why : (new.lacks ≡ true) ⊎ (new.link.down ≡ true)

-- the link has taken the item, or the item was dropped
abbrev pub IsSentBriefly : BriefSending → List ℕ → BriefSending → Type 0
IsSentBriefly old item new = (new.link.link ≡ old.link.link) × (IsTakenByLink old item new ⊎ IsDropped old new)
