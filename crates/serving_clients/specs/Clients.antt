-- What clauses see of the clients of a site (this project's own).
use Rattle.std.specs.Prelude.{ℕ}
use Rattle.serving_clients.specs.declared.clients.Clients.{Clients}

-- the number of their site
abbrev pub site_of : Clients → ℕ
site_of clients = clients.number
