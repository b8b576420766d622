use Rattle.std.proofs.Common.{◌+◌, sym, ap, subst, ◌∙◌, option_map, refl}
use Rattle.std.proofs.lemmas.Map.Text.{btree_map_updates_str}
use Rattle.site_audit.specs.Replays.{HasFound}
use Rattle.site_audit.proofs.pool.Pool.add.Goals as goal

-- the bytes of the deed are found behind all others
pub returns-in_ok-insert : goal.returns-in_ok-insert
returns-in_ok-insert c = subst (HasFound c.args.self.now (record { places = c.insert.new.self; entries = c.args.self.now.entries + 1 })) (ap (option_map (λ bytes. bytes.now)) (sym c.in-Some.is) ∙ c.made_by.ensures)
    (btree_map_updates_str c.in-Some.bytes.now c.args.self.now.places c.insert.new.self _ c.in_ok-insert.ensures.updates, refl)
