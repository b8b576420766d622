-- `place` fills an empty place. Assumes `Logic`.
use Rattle.std.proofs.Common.{◌≡◌, ℕ, ◌+◌, ◌*◌, ◌^◌, ◌<◌, List, [], ◌∷◌, length, get_or, refl, sym, ap, ◌∙◌, subst, arith, w64, Some, None}
use lib.ListN.{set, length-set}
use mir.Syntax.{Ty, a_type}
use mir.Val.{Val, vptr, vint, vunit}
use mir.MapTy.{inst_fn}
use base.Fraction.{full_share}
use base.Logic.{SProp, ent, never, emp, id⊢}
use base.Fml.{Fml, ftrue, fsep, froom, flft}
use prog.Wp.{WpFn}
use types.Kit.{‵, raw, ◌⊛◌, at_ret, ◌$◌, ◌∵◌, !, qed, by, move, keep, drop, use0, use1, use2, split, join, rewrite, fsplit, fsplit3, fjoin, fjoin3, flt_l, flt_i, feq_i}
use types.Run.{stop, fld, load, init, unit_lit, size_lit, bin, of_opd, first, blocks, exec, assigns_last, returns, enter}
use types.ByLocal.{alloc_all, pass_all, free_all, look_at, get, through, sets, env}
use types.Part.{sub, whole, look_in}
use contract.Running.{tables}
use contract.Monad.{fact, fact_i}
use contract.BorrowLft.{◌⊑◌}
use denote.Exit.{yes, no}
use denote.RattleType.{RattleType, owns}
use denote.Signature.{types_at, plain}
use denote.RawPtr.{Ptr, block_ptr, in_a_block}
use denote.Steps.{nothing, heard, peeks, opens, closes}
use denote.Laws.{Is, shows}
use denote.Memory.{cell_at, part_at}
use denote.Param.{param, layout, layouts}
use denote.Builtin.{usize}
use denote.Triple.Walked.{Stays, stay_dropped, stay_ref, walk_of, Goes-dropped, Goes-ref}
use Rattle.std.proofs.raw_atomic.Walks.{proved_at, leaves}
use Rattle.std.specs.Mem.{type_size}
use Rattle.std.specs.Prelude.{Option}
use Rattle.core.proofs.atomic.Steps.{tail}
use Rattle.core.proofs.mem.Param.{El, Good, one, lawful}
use Rattle.core.proofs.ptr.Rows as rows
use Rattle.op_arena.specs.CellRows.{owns_place, owns_row, owns_places}
use Rattle.op_arena.specs.contracts.places.Places as places
use Rattle.op_arena.specs.contracts.places.Places.place.{ended, clauses}
use Rattle.op_arena.specs.contracts.places.Places.place.Key.{name as #self}
use Rattle.op_arena.proofs.RowSteps.{Data, data_val, told, Besides, place_out, place_back}
use Rattle.op_arena.proofs.places.Places.place.Statement.{statement}
use Rattle.op_arena.proofs.places.Places.place.Code as code

pub place_spec : {M : Type 1} → statement M
place_spec 𝓤 𝓛 𝓜 𝓡 wired T laws =
    let H = 𝓛.H in let 𝓣 = tables 𝓤 H 𝓜 𝓡 𝓡.env in let R : RattleType = param 0 T in let E : El = record { row = T; laws = laws } in let τ : Ty = layout T in
    let En = ended T in let inst = layouts (a_type ∷ []) (T, tt) in let fn = inst_fn inst code.function in
    let Self : RattleType = places.the_row R in let D : RattleType = Data R in let c = clauses T 𝓛 𝓜.mem 𝓡.returns in
    let self = plain (λ _. Self) in
    let hs : Stays En.signature.params En.kept = (stay_ref (0 ∷ []) tt self, (stay_dropped (plain (λ _. usize)) yes, (stay_dropped (plain (λ _. R)) no, tt))) in
    proved_at 𝓛 En hs c 𝓜 𝓡 (Goes-ref 𝓛 2 0 tt self, (Goes-dropped 𝓛 2 (plain (λ _. usize)) yes (λ κs x f. refl), (Goes-dropped 𝓛 2 (plain (λ _. R)) no (λ κs x f. refl), tt)))
    (#self inst) fn (code.unfolded 𝓤 H 𝓜 𝓡 wired (T, tt)) (λ z are.
    let κs = z.0.0 in let qs = z.0.1 in let a = z.0.3 in
    let rb : ℕ = a.0.ref_ptr.0 in let ro : ℕ = a.0.ref_ptr.1 in let d : Self.Denot = a.0.now in let i : ℕ = a.1.0 in let x : T.Denot = a.1.1.0 in
    let got = one E z.0.4.1.1.0 ((lawful E 𝓛).typed x z.0.4.1.1.0 are.1.1.0) in let v : Val = got.0 in let good : Good E v = got.2 in
    let others : Fml = fsep (flft κs.1.0 qs.1.0) ftrue in let Asked : Type 0 = (i < length d.slots) × (get_or d.slots i None ≡ None) in
    let new : Self.Denot = record { first = d.first; slots = set d.slots i (Some x) } in
    let At : List Val × (List Val × (List Val × Unit {0})) → (walk_of 𝓛 En hs c).Ghost = λ vss. ((κs, qs, z.0.2, a, vss), z.1) in
    let y : (walk_of 𝓛 En hs c).Ghost = At (vptr rb ro ∷ [], (vint w64 i ∷ [], (v ∷ [], tt))) in let Post : Val → SProp 𝓤 = (walk_of 𝓛 En hs c).post y in
    subst (λ (vss : List Val × (List Val × (List Val × Unit {0}))). ent 𝓤 ((walk_of 𝓛 En hs c).pre (At vss)) (WpFn 𝓤 H 𝓣.C 𝓣.Λ fn ((walk_of 𝓛 En hs c).args (At vss)) ((walk_of 𝓛 En hs c).post (At vss))))
    (λ k. (sym are.0.0 k, (sym are.1.0.0 k, (sym got.1 k, tt)))) (
    qed 𝓛 (((‵ (flft κs.0 qs.0) ⊛ ‵ others) ⊛ ‵ (owns (types_at En.signature.params κs) a y.0.4)) ∷ (raw (fact 𝓤 (κs.1.0 ⊑ T.lives)) ⊛ raw (fact 𝓤 Asked)) ∷ []) ∵
    move ! (1 ∷ []) $ split ! $ drop ! $ heard ! Asked (λ asked. let lt = asked.0 in
    split ! $ split ! $ move ! (2 ∷ []) $ fsplit ! $ move ! (1 ∷ []) $ fsplit ! $ drop ! $ fsplit ! $ move ! (2 ∷ []) $ fsplit3 ! $ keep ! (1 ∷ 2 ∷ 5 ∷ 6 ∷ 3 ∷ []) $
    -- [obs; the borrow; its token; the other tokens; what the value owns]
    enter ! 𝓣.C 𝓣.Λ fn (vptr rb ro ∷ vint w64 i ∷ v ∷ []) Post $ alloc_all ! (λ l. pass_all ! refl ((tt, tt), ((tt, record { fits = are.1.0.1 }), (good, tt))) $ let Ev = env fn.locals l in
    opens ! tt Self {h = d} rb ro (λ vs. move ! (1 ∷ []) $ fsplit ! $ peeks ! D (Is D) (shows 𝓛 D) (d.first, tt) vs (λ is. move ! (1 ∷ []) $
    in_a_block ! d.first (λ p. owns_places R p d.slots) (id⊢ 𝓤 (never 𝓤)) (λ b o e. fsplit ! $ flt_l ! (λ small.
    let s = type_size R in let tiny : s < 2 ^ 64 = omega (arith, rows.one_below (length d.slots) s (2 ^ 63) (omega arith) small) in
    let far : i * s < 2 ^ 64 = omega (arith, rows.times_below i (length d.slots) s (2 ^ 63) (omega arith) small) in let at = i * s + o in
    let ev : vs ≡ data_val (block_ptr b o) ∷ [] = told R d.first vs is ∙ ap (λ (p : Ptr). data_val p ∷ []) e in
    rewrite ! 2 (λ (ws : List Val). ‵ (cell_at full_share Self.mir ws rb ro)) ev refl $
    use1 𝓛 (‵ (owns_place R b at (get_or d.slots i None)) ⊛ ‵ (Besides E b o d.slots i)) (place_out E 𝓛 b o d.slots i at lt refl) $ split ! $
    rewrite ! 0 (λ (p : Option T.Denot). ‵ (owns_place R b at p)) asked.1 refl $ use1 𝓛 (‵ (froom τ b at)) (𝓛.laws.raw-room τ b at) $
    -- [the room; the other places; the pointer; its cell; the open borrow; obs; auth; the other tokens; what the value owns]
    first ! $ blocks ! $
    sets ! (of_opd ! (load ! (through ! refl (fld ! refl (stop !))) (look_in ! 3 (sub ! 0 refl (whole !))))) refl (tt, tt) $
    sets ! (bin ! (get ! refl) (size_lit ! (record { fits = tiny })) (record { fits = far })) refl (tt, record { fits = far }) $
    sets ! (bin ! (get ! refl) (get ! refl) tt) refl (tt, tt) $
    sets ! (of_opd ! (get ! refl)) refl good $ assigns_last ! (of_opd ! (get ! refl)) (through ! refl (stop !)) (init ! 0 refl good) $
    exec ! 𝓣.C 𝓣.Λ Ev (tail fn.body) (at_ret Ev Post) $ sets ! (of_opd ! (unit_lit !)) refl (tt, tt) $
    move ! (0 ∷ 8 ∷ []) $ use2 𝓛 (‵ (part_at R full_share x b at)) (rows.el_in (record { row = T; laws = laws }) 𝓛 full_share x b at v) $
    use2 𝓛 (‵ (owns_row R b o new.slots)) (place_back E 𝓛 b o d.slots i at lt refl (Some x)) $
    flt_i ! (length new.slots * s) (2 ^ 63) (subst (λ (k : ℕ). k * s < 2 ^ 63) (sym (length-set d.slots i (Some x))) small) $ fjoin ! $
    rewrite ! 0 (λ (p : Ptr). ‵ (owns_places R p new.slots)) (sym e) refl $ rewrite ! 2 (λ (ws : List Val). ‵ (cell_at full_share Self.mir ws rb ro)) (sym ev) refl $
    move ! (1 ∷ 0 ∷ []) $ fjoin ! $ move ! (1 ∷ 0 ∷ []) $ closes ! tt Self new vs rb ro $
    -- [obs; the borrow; its token; the other tokens]
    feq_i ! (List Val) (vptr rb ro ∷ []) (vptr rb ro ∷ []) refl $ fjoin3 ! $ nothing ! $ nothing ! $ fjoin ! $ nothing ! $ fjoin ! $ move ! (1 ∷ 0 ∷ []) $ fjoin ! $ move ! (1 ∷ 2 ∷ []) $ join ! $
    let Told : Type 0 = (d.first ≡ d.first) × (new.slots ≡ new.slots) in use0 𝓛 (raw (fact 𝓤 Told)) (fact_i 𝓤 Told (emp 𝓤) (refl, refl)) $ feq_i ! (List Val) (vunit ∷ []) (vunit ∷ []) refl $
    returns ! (look_at ! 0 refl) $ free_all ! refl $ keep ! (2 ∷ 3 ∷ 0 ∷ 1 ∷ []) $ by ! (leaves 𝓛 En hs c y vunit tt (new, (tt, (tt, tt))) (tt, (tt, (tt, tt))))))))))))
