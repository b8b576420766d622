use Rattle.std.proofs.Common.{inl, inr, [], ◌∷◌, ap, arith, ◌∙◌}
use Rattle.sqlite.specs.Effect.{Database}
use Rattle.sqlite.specs.Held.{state}
use Rattle.site_store.proofs.GroupLemmas.{holds_committed, lists_at}
use Rattle.site_store.proofs.creating.create.Goals as goal

pub returns-clause-made : goal.returns-clause-made
returns-clause-made g c clean has _ =
    let clean_put = c.commit.ensures.clean clean in
    let clean_made = c.append.ensures.clean clean_put in
    let begun = c.in_ok-begin.ensures.begun (c.make_steps.ensures.clean clean_made) in
    let made = c.in_ok-make_steps.ensures.made clean_made begun.1.mode (ap (λ (d : Database). d.schema) begun.0 ∙ has) c.args.at in
    let put = c.in_ok-append.ensures.added clean_put c.args.at [] made.2 (omega arith) in
    holds_committed (state g.S.Store c.append.new.conn) (state g.S.Store c.commit.new.conn) c.args.at (c.args.base.now ∷ []) (c.in_ok-commit.ensures.done clean) put

pub returns-clause-schema : goal.returns-clause-schema
returns-clause-schema g c clean has _ =
    let clean_put = c.commit.ensures.clean clean in
    let clean_made = c.append.ensures.clean clean_put in
    let begun = c.in_ok-begin.ensures.begun (c.make_steps.ensures.clean clean_made) in
    let made = c.in_ok-make_steps.ensures.made clean_made begun.1.mode (ap (λ (d : Database). d.schema) begun.0 ∙ has) c.args.at in
    ap (λ (d : Database). d.schema) (c.in_ok-commit.ensures.done clean).now ∙ (c.in_ok-append.ensures.spared clean_put made.2.schema).schema ∙ made.1

pub returns-clause-idle : goal.returns-clause-idle
returns-clause-idle g c clean has _ = (c.in_ok-commit.ensures.done clean).idle

pub returns-clause-crash : goal.returns-clause-crash
returns-clause-crash g c clean has db may =
    let clean_put = c.commit.ensures.clean clean in
    let clean_made = c.append.ensures.clean clean_put in
    let clean_begun = c.make_steps.ensures.clean clean_made in
    let begun = c.in_ok-begin.ensures.begun clean_begun in
    let blank = ap (λ (d : Database). d.schema) begun.0 ∙ has in
    let made = c.in_ok-make_steps.ensures.made clean_made begun.1.mode blank c.args.at in
    let put = c.in_ok-append.ensures.added clean_put c.args.at [] made.2 (omega arith) in
    elim (c.commit.ensures.crash clean db may) [
      | inl p ↦ inl (c.begin.ensures.crash clean_begun db (c.make_steps.ensures.crash clean_made begun.1.mode blank db ((c.append.ensures.inside clean_put c.args.at [] made.2 made.0.mode).1 db p)))
      | inr same ↦ inr (lists_at (state g.S.Store c.append.new.conn) db c.args.at (c.args.base.now ∷ []) put same)
    ]

pub returns-in_err-commit-clause-crash : goal.returns-in_err-commit-clause-crash
returns-in_err-commit-clause-crash g c clean has db may =
    let clean_put = c.commit.ensures.clean clean in
    let clean_made = c.append.ensures.clean clean_put in
    let clean_begun = c.make_steps.ensures.clean clean_made in
    let begun = c.in_ok-begin.ensures.begun clean_begun in
    let blank = ap (λ (d : Database). d.schema) begun.0 ∙ has in
    let made = c.in_ok-make_steps.ensures.made clean_made begun.1.mode blank c.args.at in
    let put = c.in_ok-append.ensures.added clean_put c.args.at [] made.2 (omega arith) in
    elim (c.commit.ensures.crash clean db may) [
      | inl p ↦ inl (c.begin.ensures.crash clean_begun db (c.make_steps.ensures.crash clean_made begun.1.mode blank db ((c.append.ensures.inside clean_put c.args.at [] made.2 made.0.mode).1 db p)))
      | inr same ↦ inr (lists_at (state g.S.Store c.append.new.conn) db c.args.at (c.args.base.now ∷ []) put same)
    ]

pub returns-in_err-append-clause-crash : goal.returns-in_err-append-clause-crash
returns-in_err-append-clause-crash g c clean has db may =
    let clean_made = c.append.ensures.clean clean in
    let clean_begun = c.make_steps.ensures.clean clean_made in
    let begun = c.in_ok-begin.ensures.begun clean_begun in
    let blank = ap (λ (d : Database). d.schema) begun.0 ∙ has in
    let made = c.in_ok-make_steps.ensures.made clean_made begun.1.mode blank c.args.at in
    inl (c.begin.ensures.crash clean_begun db (c.make_steps.ensures.crash clean_made begun.1.mode blank db ((c.append.ensures.inside clean c.args.at [] made.2 made.0.mode).1 db may)))

pub returns-in_err-make_steps-clause-crash : goal.returns-in_err-make_steps-clause-crash
returns-in_err-make_steps-clause-crash g c clean has db may =
    let clean_begun = c.make_steps.ensures.clean clean in
    let begun = c.in_ok-begin.ensures.begun clean_begun in
    inl (c.begin.ensures.crash clean_begun db (c.make_steps.ensures.crash clean begun.1.mode (ap (λ (d : Database). d.schema) begun.0 ∙ has) db may))
