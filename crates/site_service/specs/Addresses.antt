-- What is written once a linked site listens (this project's own).
use Rattle.std.specs.Prelude.{ℕ, List, ◌++◌, codes}
use Rattle.std.specs.Net.Text.{socket_text}
use Rattle.std.specs.declared.net.socket_addr.SocketAddr.{SocketAddr}

-- the lines of a site that listens for clients and for links at these addresses
abbrev pub address_lines : SocketAddr → SocketAddr → List ℕ
address_lines clients links = codes "listening clients " ++ (socket_text clients ++ (codes "\nlistening links " ++ (socket_text links ++ codes "\n")))
