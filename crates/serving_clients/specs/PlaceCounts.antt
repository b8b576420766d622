-- How many clients a site answers at once (this project's own).
use Rattle.std.specs.Prelude.{ℕ, ◌<◌, ◌≤◌}
use Rattle.serving_clients.specs.declared.place_count.TheConstants.{MOST_PLACES}

-- a site may answer `places` clients at once: 1 to 64
abbrev pub IsPlaceCount : ℕ → Type 0
IsPlaceCount places = (0 < places) × (places ≤ MOST_PLACES)
