-- What became of links to which items were sent.
use Rattle.std.specs.Prelude.{ℕ, ◌≡◌, ◌≤◌, ◌<◌, true, false, List, [], ◌++◌, length, slice_index_or}
use Rattle.site_links.specs.Links.{Sending}

-- a prefix of these items was sent, and nothing where the link was down before
abbrev pub BeginsToCarry : List (List ℕ) → Sending → Sending → Type 0
BeginsToCarry items old new = (new.link ≡ old.link) × (old.down ≡ true → new ≡ old) × (front : List (List ℕ)) × (rest : List (List ℕ)) × (items ≡ front ++ rest) × (new.sent ≡ old.sent ++ front)

-- all of these items were sent, or a prefix of them where the link is down
abbrev pub Carries : List (List ℕ) → Sending → Sending → Type 0
Carries items old new = (new.link ≡ old.link) × (old.down ≡ true → new ≡ old) × (front : List (List ℕ)) × (rest : List (List ℕ)) × (items ≡ front ++ rest) × (new.sent ≡ old.sent ++ front) × (new.down ≡ false → rest ≡ [])

-- each link, or other outlet, is as `R` says
pub record EachLink {O : Type 0} (R : O → O → Type 0) (olds news : List O) : Type 0 where
  pub count : length news ≡ length olds
  pub each : (k : ℕ) (none : O) → k < length olds → R (slice_index_or olds k none) (slice_index_or news k none)

-- the links before this one are as `R` says, and the others as they were
pub record SoFar {O : Type 0} (R : O → O → Type 0) (olds news : List O) (reached : ℕ) : Type 0 where
  pub count : length news ≡ length olds
  pub done : (k : ℕ) (none : O) → k < reached → R (slice_index_or olds k none) (slice_index_or news k none)
  pub left : (k : ℕ) (none : O) → reached ≤ k → slice_index_or news k none ≡ slice_index_or olds k none
