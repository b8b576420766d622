use Rattle.std.proofs.Common.{rules, ◌≡◌, subst}
use Rattle.std.specs.Io.KnownBytes.{Appends}
use Rattle.site_service.specs.Addresses.{address_lines}
use Rattle.site_service.proofs.addresses.write_addresses.Goals as goal

-- the bytes of the two lines were written
pub returns-in-Ok-write_all-clause-written : goal.returns-in-Ok-write_all-clause-written
returns-in-Ok-write_all-clause-written g c =
    let lines : c.as_bytes.result.now ≡ address_lines c.in_ok-clients.clients c.in_ok-links.links = search rules in
    (c.in_ok-clients.clients, c.in_ok-links.links, subst (Appends (g.W.Sink.taken c.args.log.now) (g.W.Sink.taken c.write_all.new.writer)) lines c.in-Ok-write_all.ensures.written)
