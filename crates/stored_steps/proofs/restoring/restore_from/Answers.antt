use Rattle.std.proofs.Common.{ℕ, ◌+◌, ◌-◌, ◌^◌, min, ap, ◌∙◌}
use Rattle.stored_steps.proofs.Replaying.{rows_site}
use Rattle.stored_steps.proofs.RestoringLaws.{none_replayed, restored_from}
use Rattle.stored_steps.proofs.restoring.restore_from.Goals as goal

pub returns-in-Ok-clause-restored : goal.returns-in-Ok-clause-restored
returns-in-Ok-clause-restored c row read =
    let begun = none_replayed c.args.base.replica c.args.limit c.in_ok-journal.journal c.in_ok-journal.ensures.new in
    restored_from row c.args.rows.now c.args.base c.saturating_add.result c.replay_rows.new.journal read (c.in-Ok.ensures.replayed c.args.base.replica begun)
    (c.saturating_add.ensures ∙ ap (λ (n : ℕ). min (c.args.base.starts + n) (2 ^ 64 - 1)) c.starts_in.ensures)

pub returns-in-Ok-clause-site : goal.returns-in-Ok-clause-site
returns-in-Ok-clause-site c =
    let begun = none_replayed c.args.base.replica c.args.limit c.in_ok-journal.journal c.in_ok-journal.ensures.new in
    (rows_site c.args.base.replica c.replay_rows.new.journal.replica c.args.rows.now (c.in-Ok.ensures.replayed c.args.base.replica begun).led).0

pub returns-in-Ok-clause-names : goal.returns-in-Ok-clause-names
returns-in-Ok-clause-names c =
    let begun = none_replayed c.args.base.replica c.args.limit c.in_ok-journal.journal c.in_ok-journal.ensures.new in
    (rows_site c.args.base.replica c.replay_rows.new.journal.replica c.args.rows.now (c.in-Ok.ensures.replayed c.args.base.replica begun).led).1

pub returns-in-Ok-clause-limit : goal.returns-in-Ok-clause-limit
returns-in-Ok-clause-limit c = c.in-Ok.ensures.limit ∙ c.in_ok-journal.ensures.new.limit_is

pub returns-in-Err-clause-refused : goal.returns-in-Err-clause-refused
returns-in-Err-clause-refused c to lead =
    c.in-Err.ensures.refused c.args.base.replica to (none_replayed c.args.base.replica c.args.limit c.in_ok-journal.journal c.in_ok-journal.ensures.new) lead
