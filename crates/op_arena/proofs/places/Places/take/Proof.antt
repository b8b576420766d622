-- `take` moves a value out of its place. Assumes `Logic`.
use Rattle.std.proofs.Common.{◌≡◌, ℕ, ◌+◌, ◌*◌, ◌^◌, ◌<◌, List, [], ◌∷◌, length, get_or, refl, sym, ap, ◌∙◌, subst, arith, w64, Some, None}
use lib.ListN.{set, length-set}
use mir.Syntax.{Ty, a_type, named}
use mir.Val.{Val, vptr, vint}
use mir.MapTy.{inst_fn}
use mir.Raw.{raw as bare}
use base.Fraction.{full_share}
use base.Logic.{SProp, never, emp, id⊢}
use base.Fml.{Fml, ftrue, fsep, fat, froom, flft}
use types.Kit.{‵, raw, ◌⊛◌, some, given, at_ret, ◌$◌, ◌∵◌, !, qed, by, move, keep, drop, use0, use1, use2, split, join, pick, learn, rewrite, fsplit, fsplit3, fjoin, fjoin3, flt_l, flt_i, feq_i}
use types.Run.{stop, fld, load, look, size_lit, bin, of_opd, first, blocks, exec, returns, enter}
use types.ByLocal.{alloc_all, pass_all, free_all, look_at, get, through, sets, sets_last, env}
use types.Part.{sub, whole, look_in}
use contract.Running.{tables}
use contract.Monad.{fact, fact_i}
use contract.BorrowLft.{◌⊑◌}
use denote.Exit.{yes}
use denote.RattleType.{RattleType, owns}
use denote.Signature.{types_at, plain}
use denote.RawPtr.{Ptr, block_ptr, in_a_block}
use denote.Steps.{nothing, heard, peeks, opens, closes}
use denote.Laws.{Is, shows}
use denote.Memory.{cell_at}
use denote.Param.{param, layout, layouts}
use denote.Plain.{uint_vals, uint_Tells}
use denote.Builtin.{usize}
use denote.Ref.{mut_vals, mut_Tells}
use denote.Triple.Walked.{Stays, stay_dropped, stay_ref, walk_of, Goes-dropped, Goes-ref}
use Rattle.std.proofs.raw_atomic.Walks.{proved, leaves}
use Rattle.std.specs.Mem.{type_size}
use Rattle.std.specs.Prelude.{Option}
use Rattle.core.proofs.atomic.Steps.{tail}
use Rattle.core.proofs.mem.Param.{El, Good}
use Rattle.core.proofs.ptr.Rows as rows
use Rattle.op_arena.specs.CellRows.{Holds, owns_place, owns_row, owns_places}
use Rattle.op_arena.specs.contracts.places.Places as places
use Rattle.op_arena.specs.contracts.places.Places.take.{ended, clauses}
use Rattle.op_arena.specs.contracts.places.Places.take.Key.{name as #self}
use Rattle.op_arena.proofs.RowSteps.{Data, data_val, told, within, Besides, place_out, place_back}
use Rattle.op_arena.proofs.places.Places.take.Statement.{statement}
use Rattle.op_arena.proofs.places.Places.take.Code as code

pub take_spec : {M : Type 1} → statement M
take_spec 𝓤 𝓛 𝓜 𝓡 wired T laws =
    let H = 𝓛.H in let 𝓣 = tables 𝓤 H 𝓜 𝓡 𝓡.env in let R : RattleType = param 0 T in let E : El = record { row = T; laws = laws } in let τ : Ty = layout T in
    let En = ended T in let inst = layouts (a_type ∷ []) (T, tt) in let fn = inst_fn inst code.function in
    let Self : RattleType = places.the_row R in let D : RattleType = Data R in let c = clauses T 𝓛 𝓜.mem 𝓡.returns in
    let self = plain (λ _. Self) in
    let hs : Stays En.signature.params En.kept = (stay_ref (0 ∷ []) tt self, (stay_dropped (plain (λ _. usize)) yes, tt)) in
    proved 𝓛 En hs c 𝓜 𝓡 (Goes-ref 𝓛 2 0 tt self, (Goes-dropped 𝓛 2 (plain (λ _. usize)) yes (λ κs x f. refl), tt))
    (#self inst) fn (code.unfolded 𝓤 H 𝓜 𝓡 wired (T, tt)) (λ κs. (mut_vals, (uint_vals w64, tt))) (λ κs. (mut_Tells (named 0) κs.0 Self, (uint_Tells w64, tt))) (λ κs qs bounds a gh are.
    let rb : ℕ = a.0.ref_ptr.0 in let ro : ℕ = a.0.ref_ptr.1 in let d : Self.Denot = a.0.now in let i : ℕ = a.1.0 in
    let others : Fml = fsep (flft κs.1.0 qs.1.0) ftrue in let Asked : Type 0 = Holds d.slots i in
    let new : Self.Denot = record { first = d.first; slots = set d.slots i None } in
    let y : (walk_of 𝓛 En hs c).Ghost = ((κs, qs, bounds, a, (vptr rb ro ∷ [], (vint w64 i ∷ [], tt))), gh) in let Post : Val → SProp 𝓤 = (walk_of 𝓛 En hs c).post y in
    qed 𝓛 (((‵ (flft κs.0 qs.0) ⊛ ‵ others) ⊛ ‵ (owns (types_at En.signature.params κs) a y.0.4)) ∷ (raw (fact 𝓤 (κs.1.0 ⊑ T.lives)) ⊛ raw (fact 𝓤 Asked)) ∷ []) ∵
    move ! (1 ∷ []) $ split ! $ drop ! $ heard ! Asked (λ asked. let x = asked.0 in let lt = within d.slots i x asked.1 in
    split ! $ split ! $ move ! (2 ∷ []) $ fsplit ! $ fsplit3 ! $ keep ! (1 ∷ 2 ∷ 4 ∷ 5 ∷ []) $
    -- [obs; the borrow; its token; the other tokens]
    enter ! 𝓣.C 𝓣.Λ fn (vptr rb ro ∷ vint w64 i ∷ []) Post $ alloc_all ! (λ l. pass_all ! refl ((tt, tt), ((tt, record { fits = are.1.0.1 }), tt)) $ let Ev = env fn.locals l in
    opens ! tt Self {h = d} rb ro (λ vs. move ! (1 ∷ []) $ fsplit ! $ peeks ! D (Is D) (shows 𝓛 D) (d.first, tt) vs (λ is. move ! (1 ∷ []) $
    in_a_block ! d.first (λ p. owns_places R p d.slots) (id⊢ 𝓤 (never 𝓤)) (λ b o e. fsplit ! $ flt_l ! (λ small.
    let s = type_size R in let tiny : s < 2 ^ 64 = omega (arith, rows.one_below (length d.slots) s (2 ^ 63) (omega arith) small) in
    let far : i * s < 2 ^ 64 = omega (arith, rows.times_below i (length d.slots) s (2 ^ 63) (omega arith) small) in let at = i * s + o in
    let ev : vs ≡ data_val (block_ptr b o) ∷ [] = told R d.first vs is ∙ ap (λ (p : Ptr). data_val p ∷ []) e in
    rewrite ! 2 (λ (ws : List Val). ‵ (cell_at full_share Self.mir ws rb ro)) ev refl $
    use1 𝓛 (‵ (owns_place R b at (get_or d.slots i None)) ⊛ ‵ (Besides E b o d.slots i)) (place_out E 𝓛 b o d.slots i at lt refl) $ split ! $
    rewrite ! 0 (λ (p : Option T.Denot). ‵ (owns_place R b at p)) asked.1 refl $
    -- [the value; the other places; the pointer; its cell; the open borrow; obs; auth; the other tokens]
    first ! $ blocks ! $
    sets ! (of_opd ! (load ! (through ! refl (fld ! refl (stop !))) (look_in ! 3 (sub ! 0 refl (whole !))))) refl (tt, tt) $
    sets ! (bin ! (get ! refl) (size_lit ! (record { fits = tiny })) (record { fits = far })) refl (tt, record { fits = far }) $
    sets ! (bin ! (get ! refl) (get ! refl) tt) refl (tt, tt) $
    use1 𝓛 (some (λ (v : Val). given (Good E v) (‵ (fat full_share τ b at v) ⊛ ‵ (T.own_val x (v ∷ []))))) (rows.el_out (record { row = T; laws = laws }) 𝓛 full_share x b at) $
    pick ! (λ v. learn ! (λ good. split ! $ sets_last ! (of_opd ! (load ! (through ! refl (stop !)) (look ! 0 refl))) refl good $
    exec ! 𝓣.C 𝓣.Λ Ev (tail fn.body) (at_ret Ev Post) $ sets ! (of_opd ! (get ! refl)) refl good $
    use1 𝓛 (‵ (froom τ b at)) (𝓛.laws.at_room τ b at v) $ use1 𝓛 (‵ (froom (bare τ) b at)) (𝓛.laws.room-raw τ b at) $ move ! (0 ∷ 2 ∷ []) $
    use2 𝓛 (‵ (owns_row R b o new.slots)) (place_back E 𝓛 b o d.slots i at lt refl None) $
    flt_i ! (length new.slots * s) (2 ^ 63) (subst (λ (k : ℕ). k * s < 2 ^ 63) (sym (length-set d.slots i None)) small) $ fjoin ! $
    rewrite ! 0 (λ (p : Ptr). ‵ (owns_places R p new.slots)) (sym e) refl $ move ! (2 ∷ 0 ∷ []) $ fjoin ! $
    -- [the places; what the value owns; the cell; the open borrow; obs; auth; the other tokens]
    rewrite ! 2 (λ (ws : List Val). ‵ (cell_at full_share Self.mir ws rb ro)) (sym ev) refl $ move ! (2 ∷ 0 ∷ 3 ∷ 4 ∷ 5 ∷ []) $ closes ! tt Self new vs rb ro $
    -- [obs; the borrow; its token; what the value owns; the other tokens]
    feq_i ! (List Val) (vptr rb ro ∷ []) (vptr rb ro ∷ []) refl $ fjoin3 ! $ nothing ! $ nothing ! $ fjoin ! $ move ! (1 ∷ 0 ∷ []) $ fjoin ! $ move ! (1 ∷ 3 ∷ []) $ join ! $
    let Told : Type 0 = (get_or d.slots i None ≡ Some x) × (d.first ≡ d.first) × (new.slots ≡ new.slots) in use0 𝓛 (raw (fact 𝓤 Told)) (fact_i 𝓤 Told (emp 𝓤) (asked.1, refl, refl)) $
    returns ! (look_at ! 0 refl) $ free_all ! refl $ keep ! (1 ∷ 2 ∷ 3 ∷ 0 ∷ []) $ by ! (leaves 𝓛 En hs c y v x (new, (tt, tt)) (tt, (tt, tt))))))))))))
