use Rattle.site_store.proofs.opening.open_new.Goals as goal

pub returns-clause-made : goal.returns-clause-made
returns-clause-made g c = c.with_base.ensures.made c.in_ok-conn.ensures.schema

pub returns-clause-idle : goal.returns-clause-idle
returns-clause-idle g c = c.with_base.ensures.idle c.in_ok-conn.ensures.schema

pub returns-clause-schema : goal.returns-clause-schema
returns-clause-schema g c = c.with_base.ensures.schema c.in_ok-conn.ensures.schema
