use Rattle.site_desk.proofs.PortRuns.{port_rewound, port_work}
use Rattle.site_desk.proofs.laws.a_port_works_by_its_pass.Goals as goal

pub returns : goal.returns
returns g c = record {
  works = port_work g.L.SiteLedger.site g.L.SiteLedger.names;
  rewound = port_rewound g.L.SiteLedger.site g.L.SiteLedger.names;
}
