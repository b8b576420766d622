use Rattle.std.proofs.Common.{rules, ◌≡◌, ◌∙◌, [], ◌∷◌, Some, ap, arith, map, refl, slice_get, subst, sym, vec_len}
use Rattle.std.specs.Option.{option_or}
use Rattle.site_worker.specs.Runs.{first_fault}
use Rattle.site_worker.specs.declared.tasks.WorkOutput.{WorkOutput}
use Rattle.site_worker.proofs.Ended.{mapped_none, moved, no_element, none_behind_all, one_of, whole_behind}
use Rattle.site_worker.proofs.ends.run_of.Goals as goal

-- one output more stands behind
pub loop-output-preserved : goal.loop-output-preserved
loop-output-preserved g c =
    let was = c.loop-output.invariant in
    let less = c.in-Some.ensures.cases in
    let behind = was.2.0 in
    let output = c.in-Some.output in (
      omega (arith, c.insert_with_room.ensures.len, was.0, less),
      (let e = c.insert_with_room.ensures.capacity in omega (arith, e, was.1)),
      (
        output ∷ behind,
        moved c.args.end.outputs.items c.loop-output.outputs.items c.pop.new.self.items behind output was.2.1 c.in-Some.ensures.items,
        ap (map (λ list. list.items)) c.insert_with_room.ensures.items ∙ ap (λ l. output.receipts.items ∷ l) was.2.2,
        c.or-fault.ensures ∙ ap (option_or output.fault) was.2.3,
        λ o gate at has. let same : output ≡ o = one_of (output ∷ behind) 0 output o refl at in
            c.or-gate.ensures ∙ ap (λ it. option_or it c.loop-output.gate) (ap (λ (x : WorkOutput g.row.G.Denot). x.gate) same ∙ has),
      ),
    )

-- none stands behind yet
pub loop-output-init : goal.loop-output-init
loop-output-init g c = (
  omega (arith, c.requires.none),
  c.requires.room,
  ([], none_behind_all c.args.end.outputs.items, mapped_none (λ list. list.items) c.args.receipts.items (omega (arith, c.requires.none, c.args.receipts.ok.0)), refl, λ output gate at has. no_element [] 0 output refl at),
)

-- the first has a gate
pub unreachable-requires : goal.unreachable-requires
unreachable-requires g c =
    let was = c.loop-output.invariant in
    let none : vec_len c.loop-output.outputs ≡ 0 = search rules in
    let gate = c.requires.gate in
    let whole = whole_behind c.args.end.outputs.items c.loop-output.outputs.items was.2.0 was.2.1 (omega (arith, none, c.loop-output.outputs.ok.0)) in
    let has : c.loop-output.gate ≡ Some gate.1 = was.2.4 gate.0 gate.1 (subst (λ l. slice_get l 0 ≡ Some gate.0) whole gate.2) gate.3 in
    search rules

pub returns : goal.returns
returns g c =
    let was = c.loop-output.invariant in
    let none : vec_len c.loop-output.outputs ≡ 0 = search rules in
    let whole = whole_behind c.args.end.outputs.items c.loop-output.outputs.items was.2.0 was.2.1 (omega (arith, none, c.loop-output.outputs.ok.0)) in record {
      journal_is = refl;
      lists = was.2.2 ∙ ap (map (λ (output : WorkOutput g.row.G.Denot). output.receipts.items)) (sym whole);
      fault_is = was.2.3 ∙ ap (λ l. first_fault (map (λ (output : WorkOutput g.row.G.Denot). output.fault) l)) (sym whole);
      gate_is = λ output gate at is. let has : c.loop-output.gate ≡ Some gate = was.2.4 output gate (subst (λ l. slice_get l 0 ≡ Some output) whole at) is in search rules;
    }
