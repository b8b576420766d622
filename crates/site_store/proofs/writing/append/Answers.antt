use Rattle.std.proofs.Common.{◌≡◌, rules, inl, inr, pos, ap, ◌∙◌}
use Rattle.sqlite.specs.declared.types.Value.TheVariants.{Int, Blob}
use Rattle.sqlite.specs.Value.{owned}
use Rattle.sqlite.specs.Values.{bound_value}
use Rattle.sqlite.specs.Held.{state}
use Rattle.site_store.proofs.RowLemmas.{all_same}
use Rattle.site_store.proofs.WriteLemmas.{holds_added, holds_kept, idle_added, leaves_added, commits_added, spares_added, stays_inside, commits_nothing_inside}
use Rattle.site_store.proofs.writing.append.Goals as goal

pub returns-clause-added : goal.returns-clause-added
returns-clause-added g c clean first list holds place =
    let one : bound_value (owned c.params-to_sql.result) ≡ Int (pos c.args.at) = search rules in
    let two = ap bound_value (c.params-to_sql-2.ensures ∙ ap (λ k. Int (pos k)) c.pass.ensures) in
    let three = ap bound_value (c.params-to_sql-3.ensures ∙ ap (λ k. Int (pos k)) c.kind.ensures) in
    let four = ap bound_value (c.params-to_sql-4.ensures ∙ ap Blob c.body.ensures) in
    let words = c.words.result.now in
    let five = ap bound_value c.params-to_sql-5.ensures in
    let same = all_same one two three four five in
    holds_added (state g.S.Store c.args.conn.now) (state g.S.Store c.execute.new.self) c.args.at first c.args.kept.now words list c.execute.result _ same (c.execute.ensures.runs clean) holds place

pub returns-clause-kept : goal.returns-clause-kept
returns-clause-kept g c clean first list holds outside settled =
    holds_kept (state g.S.Store c.args.conn.now) (state g.S.Store c.execute.new.self) _ _ first list c.execute.result (c.execute.ensures.runs clean) holds settled

pub returns-clause-durable : goal.returns-clause-durable
returns-clause-durable g c clean first list holds place outside =
    let one : bound_value (owned c.params-to_sql.result) ≡ Int (pos c.args.at) = search rules in
    let two = ap bound_value (c.params-to_sql-2.ensures ∙ ap (λ k. Int (pos k)) c.pass.ensures) in
    let three = ap bound_value (c.params-to_sql-3.ensures ∙ ap (λ k. Int (pos k)) c.kind.ensures) in
    let four = ap bound_value (c.params-to_sql-4.ensures ∙ ap Blob c.body.ensures) in
    let words = c.words.result.now in
    let five = ap bound_value c.params-to_sql-5.ensures in
    let same = all_same one two three four five in
    leaves_added (state g.S.Store c.args.conn.now) (state g.S.Store c.execute.new.self) c.args.at first c.args.kept.now words list c.execute.result _ same (c.execute.ensures.runs clean) holds place outside
    (g.met.S.Store.settled c.execute.new.self.store)

pub returns-clause-idle : goal.returns-clause-idle
returns-clause-idle g c clean first list holds outside =
    let one : bound_value (owned c.params-to_sql.result) ≡ Int (pos c.args.at) = search rules in
    let two = ap bound_value (c.params-to_sql-2.ensures ∙ ap (λ k. Int (pos k)) c.pass.ensures) in
    let three = ap bound_value (c.params-to_sql-3.ensures ∙ ap (λ k. Int (pos k)) c.kind.ensures) in
    let four = ap bound_value (c.params-to_sql-4.ensures ∙ ap Blob c.body.ensures) in
    let words = c.words.result.now in
    let five = ap bound_value c.params-to_sql-5.ensures in
    let same = all_same one two three four five in
    idle_added (state g.S.Store c.args.conn.now) (state g.S.Store c.execute.new.self) c.args.at first c.args.kept.now words list c.execute.result _ same (c.execute.ensures.runs clean) holds outside

pub returns-clause-crash : goal.returns-clause-crash
returns-clause-crash g c clean first list holds place db may =
    let one : bound_value (owned c.params-to_sql.result) ≡ Int (pos c.args.at) = search rules in
    let two = ap bound_value (c.params-to_sql-2.ensures ∙ ap (λ k. Int (pos k)) c.pass.ensures) in
    let three = ap bound_value (c.params-to_sql-3.ensures ∙ ap (λ k. Int (pos k)) c.kind.ensures) in
    let four = ap bound_value (c.params-to_sql-4.ensures ∙ ap Blob c.body.ensures) in
    let words = c.words.result.now in
    let five = ap bound_value c.params-to_sql-5.ensures in
    let same = all_same one two three four five in
    elim (c.execute.ensures.survives.crash clean db may) [
      | inl was ↦ inl was
      | inr commits ↦ inr (commits_added (state g.S.Store c.args.conn.now) c.args.at first c.args.kept.now words list db _ same holds place commits)
    ]

pub returns-clause-inside : goal.returns-clause-inside
returns-clause-inside g c clean first list holds inside =
    let one : bound_value (owned c.params-to_sql.result) ≡ Int (pos c.args.at) = search rules in
    let two = ap bound_value (c.params-to_sql-2.ensures ∙ ap (λ k. Int (pos k)) c.pass.ensures) in
    let three = ap bound_value (c.params-to_sql-3.ensures ∙ ap (λ k. Int (pos k)) c.kind.ensures) in
    let four = ap bound_value (c.params-to_sql-4.ensures ∙ ap Blob c.body.ensures) in
    let words = c.words.result.now in
    let five = ap bound_value c.params-to_sql-5.ensures in
    let same = all_same one two three four five in
    let old = state g.S.Store c.args.conn.now in
    let new = state g.S.Store c.execute.new.self in (
      stays_inside old new c.args.at first c.args.kept.now words list c.execute.result _ same (c.execute.ensures.runs clean) holds inside,
      λ db may. elim (c.execute.ensures.survives.crash clean db may) [
        | inl was ↦ was
        | inr commits ↦ absurd (commits_nothing_inside old c.args.at c.args.kept.now words db _ same holds.schema inside commits)
      ],
    )

pub returns-clause-spared : goal.returns-clause-spared
returns-clause-spared g c clean has =
    let one : bound_value (owned c.params-to_sql.result) ≡ Int (pos c.args.at) = search rules in
    let two = ap bound_value (c.params-to_sql-2.ensures ∙ ap (λ k. Int (pos k)) c.pass.ensures) in
    let three = ap bound_value (c.params-to_sql-3.ensures ∙ ap (λ k. Int (pos k)) c.kind.ensures) in
    let four = ap bound_value (c.params-to_sql-4.ensures ∙ ap Blob c.body.ensures) in
    let words = c.words.result.now in
    let five = ap bound_value c.params-to_sql-5.ensures in
    let same = all_same one two three four five in
    spares_added (state g.S.Store c.args.conn.now) (state g.S.Store c.execute.new.self) c.args.at c.args.kept.now words c.execute.result _ same (c.execute.ensures.runs clean) has
