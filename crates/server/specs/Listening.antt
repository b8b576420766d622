-- What is written once all sites listen (this project's own).
use Rattle.std.specs.Prelude.{ℕ, zero, suc, ◌+◌, List, [], ◌++◌, codes, decimal}
use Rattle.std.specs.Net.Addr.{ipv4_octets, ipv6_segments}
use Rattle.std.specs.Net.Text.{ipv4_text, ipv6_text}
use Rattle.std.specs.declared.net.ip_addr.IpAddr.{IpAddr}
use Rattle.std.specs.declared.net.ip_addr.IpAddr.TheVariants.{V4, V6}

-- the line of a site that listens at this address and port; an address of IPv6 stands in brackets
abbrev pub listening_line : IpAddr → ℕ → List ℕ
listening_line (V4 own) port = codes "listening " ++ (ipv4_text (ipv4_octets own) ++ (codes ":" ++ (decimal port ++ codes "\n")))
listening_line (V6 own) port = codes "listening [" ++ (ipv6_text (ipv6_segments own) ++ (codes "]:" ++ (decimal port ++ codes "\n")))

-- the lines of `sites` sites, from this port on
abbrev pub listening_lines : IpAddr → ℕ → ℕ → List ℕ
listening_lines address port zero = []
listening_lines address port (suc sites) = listening_lines address port sites ++ listening_line address (port + sites)
