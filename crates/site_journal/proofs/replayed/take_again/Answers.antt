use Rattle.std.proofs.Common.{◌≡◌, ℕ, List, subst, rules}
use Rattle.delta_codec.specs.declared.decode_fault.DecodeFault.{DecodeFault}
use Rattle.replica.specs.declared.take_fault.TakeFault.{TakeFault}
use Rattle.site_journal.specs.declared.desk_fault.DeskFault.TheVariants.{Decode, Take}
use Rattle.site_journal.specs.Journals.{IsRefusedFrame, RefusesTake, SpellNoFrame}
use Rattle.site_journal.proofs.Replays.{take_comes}
use Rattle.site_journal.proofs.replayed.take_again.Goals as goal

pub returns-in-Err-clause-refused : goal.returns-in-Err-clause-refused
returns-in-Err-clause-refused c to leads =
    let bytes = c.args.bytes.now in
    let same : c.in-Ok.copy ≡ bytes = search rules in
    let decode : (f : DecodeFault) → c.in-Err.fault ≡ Decode f → SpellNoFrame bytes =
    λ f e. subst (λ (b : List ℕ). SpellNoFrame b) same (c.in-Err.ensures.no_frame f (search rules)) in
    let refused : (f : TakeFault) → c.in-Err.fault ≡ Take f → IsRefusedFrame c.args.journal.now.replica bytes f =
    λ f e. subst (λ (b : List ℕ). IsRefusedFrame c.args.journal.now.replica b f) same (c.in-Err.ensures.refused f (search rules)) in
    let only : RefusesTake c.in-Err.fault = search rules in
    take_comes c.args.journal.now.replica to bytes c.in-Err.fault leads decode refused only
