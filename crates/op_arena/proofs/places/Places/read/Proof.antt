-- `read` lends the value of one place. Assumes `Logic`.
use Rattle.std.proofs.Common.{◌≡◌, ℕ, ◌+◌, ◌*◌, ◌^◌, ◌<◌, List, [], ◌∷◌, length, get_or, refl, sym, ap, ◌∙◌, arith, w64, Some, None}
use mir.Syntax.{a_type, named}
use mir.Val.{Val, vptr, vint}
use mir.MapTy.{inst_fn}
use base.Logic.{SProp, never, emp, id⊢}
use base.Fml.{Lft, Fml, ftrue, fsep, fhide, flft}
use types.Kit.{‵, raw, ◌⊛◌, at_ret, ◌$◌, ◌∵◌, !, qed, by, move, keep, drop, use0, use1, split, join, rewrite, fsplit, fjoin, flt_l, feq_i}
use types.Run.{stop, fld, load, addr, size_lit, bin, of_opd, first, blocks, exec, returns, enter}
use types.ByLocal.{alloc_all, pass_all, free_all, look_at, get, through, sets, sets_last, env}
use types.Part.{sub, whole, look_in}
use contract.Running.{tables}
use contract.Monad.{fact, fact_i}
use contract.BorrowLft.{◌⊑◌}
use denote.Exit.{yes}
use denote.RattleType.{RattleType, owns}
use denote.Signature.{types_at, plain}
use denote.RawPtr.{Ptr, block_ptr, in_a_block}
use denote.Steps.{nothing, heard, peeks, looks, shuts}
use denote.Opens.{unhide, hide}
use denote.Laws.{Is, shows}
use denote.Memory.{cell_at, hidden_shr}
use denote.Param.{param, layouts}
use denote.Plain.{uint_vals, uint_Tells}
use denote.Builtin.{RefOf, usize}
use denote.Ref.{shr_vals, shr_Tells}
use denote.Struct.Lending.{lent_out}
use denote.Triple.Walked.{Stays, stay_dropped, walk_of, Goes-dropped}
use Rattle.std.proofs.raw_atomic.Walks.{proved, leaves}
use Rattle.std.specs.Mem.{type_size}
use Rattle.std.specs.Prelude.{Option}
use Rattle.core.proofs.atomic.Steps.{tail}
use Rattle.core.proofs.mem.Param.{El}
use Rattle.core.proofs.ptr.Rows.{times_below, one_below}
use Rattle.op_arena.specs.CellRows.{Holds, lends_place, lends_places}
use Rattle.op_arena.specs.contracts.places.Places as places
use Rattle.op_arena.specs.contracts.places.Places.read.{ended, clauses}
use Rattle.op_arena.specs.contracts.places.Places.read.Key.{name as #self}
use Rattle.op_arena.proofs.RowSteps.{Data, data_val, told, opened, within, place_seen}
use Rattle.op_arena.proofs.places.Places.read.Statement.{statement}
use Rattle.op_arena.proofs.places.Places.read.Code as code

pub read_spec : {M : Type 1} → statement M
read_spec 𝓤 𝓛 𝓜 𝓡 wired T laws =
    let H = 𝓛.H in let 𝓣 = tables 𝓤 H 𝓜 𝓡 𝓡.env in let R : RattleType = param 0 T in let E : El = record { row = T; laws = laws } in
    let En = ended T in let inst = layouts (a_type ∷ []) (T, tt) in let fn = inst_fn inst code.function in
    let Self : RattleType = places.the_row R in let D : RattleType = Data R in let c = clauses T 𝓛 𝓜.mem 𝓡.returns in
    let self = RefOf (0 ∷ []) tt (plain (λ _. Self)) (λ _. tt) in
    let hs : Stays En.signature.params En.kept = (stay_dropped self yes, (stay_dropped (plain (λ _. usize)) yes, tt)) in
    proved 𝓛 En hs c 𝓜 𝓡 (Goes-dropped 𝓛 2 self yes (λ κs x f. refl), (Goes-dropped 𝓛 2 (plain (λ _. usize)) yes (λ κs x f. refl), tt))
    (#self inst) fn (code.unfolded 𝓤 H 𝓜 𝓡 wired (T, tt)) (λ κs. (shr_vals, (uint_vals w64, tt))) (λ κs. (shr_Tells (named 0) κs.0 Self, (uint_Tells w64, tt))) (λ κs qs bounds a gh are.
    let rb : ℕ = a.0.ref_ptr.0 in let ro : ℕ = a.0.ref_ptr.1 in let κ : Lft = κs.0 in let d : Self.Denot = a.0.now in let i : ℕ = a.1.0 in
    let others : Fml = fsep (flft κs.1.0 qs.1.0) ftrue in let Asked : Type 0 = Holds d.slots i in
    let y : (walk_of 𝓛 En hs c).Ghost = ((κs, qs, bounds, a, (vptr rb ro ∷ [], (vint w64 i ∷ [], tt))), gh) in let Post : Val → SProp 𝓤 = (walk_of 𝓛 En hs c).post y in
    qed 𝓛 (((‵ (flft κ qs.0) ⊛ ‵ others) ⊛ ‵ (owns (types_at En.signature.params κs) a y.0.4)) ∷ (raw (fact 𝓤 (κs.1.0 ⊑ T.lives)) ⊛ raw (fact 𝓤 Asked)) ∷ []) ∵
    move ! (1 ∷ []) $ split ! $ drop ! $ heard ! Asked (λ asked. let x = asked.0 in let lt = within d.slots i x asked.1 in
    split ! $ split ! $ move ! (2 ∷ []) $ fsplit ! $ fsplit ! $ keep ! (1 ∷ 3 ∷ 4 ∷ []) $
    -- [the `&` to the places; its token; the other tokens]
    enter ! 𝓣.C 𝓣.Λ fn (vptr rb ro ∷ vint w64 i ∷ []) Post $ alloc_all ! (λ l. pass_all ! refl ((tt, tt), ((tt, record { fits = are.1.0.1 }), tt)) $ let Ev = env fn.locals l in
    use1 𝓛 (‵ (hidden_shr D κ (d.first, tt) rb ro) ⊛ ‵ (fhide (lends_places R d.first d.slots κ))) (lent_out 𝓛 (places.struct R) (places.the_codes T.Denot R.coded) (places.the_heap R) (places.the_lent R) κ d rb ro) $
    split ! $ move ! (1 ∷ []) $ unhide ! $
    in_a_block ! d.first (λ p. lends_places R p d.slots κ) (id⊢ 𝓤 (never 𝓤)) (λ b o e. fsplit ! $ flt_l ! (λ small.
    let s = type_size R in let tiny : s < 2 ^ 64 = omega (arith, one_below (length d.slots) s (2 ^ 63) (omega arith) small) in
    let far : i * s < 2 ^ 64 = omega (arith, times_below i (length d.slots) s (2 ^ 63) (omega arith) small) in let at = i * s + o in
    use1 𝓛 (‵ (lends_place R b at (get_or d.slots i None) κ)) (place_seen E 𝓛 b κ o d.slots i at lt refl) $
    rewrite ! 0 (λ (p : Option T.Denot). ‵ (lends_place R b at p κ)) asked.1 refl $ hide ! $ move ! (1 ∷ 2 ∷ []) $
    -- [the `&` to the pointer; its token; the `&` to the value; the other tokens]
    looks ! tt D (opened R 𝓛) (d.first, tt) rb ro (λ q vs. move ! (1 ∷ []) $ peeks ! D (Is D) (shows 𝓛 D) (d.first, tt) vs (λ is.
    let ev : vs ≡ data_val (block_ptr b o) ∷ [] = told R d.first vs is ∙ ap (λ (p : Ptr). data_val p ∷ []) e in
    rewrite ! 1 (λ (ws : List Val). ‵ (cell_at q D.mir ws rb ro)) ev refl $ first ! $ blocks ! $
    sets ! (of_opd ! (load ! (through ! refl (fld ! refl (stop !))) (look_in ! 1 (sub ! 0 refl (whole !))))) refl (tt, tt) $
    sets ! (bin ! (get ! refl) (size_lit ! (record { fits = tiny })) (record { fits = far })) refl (tt, record { fits = far }) $
    sets ! (bin ! (get ! refl) (get ! refl) tt) refl (tt, tt) $
    sets_last ! (addr ! (through ! refl (stop !))) refl (tt, tt) $ exec ! 𝓣.C 𝓣.Λ Ev (tail fn.body) (at_ret Ev Post) $ sets ! (of_opd ! (get ! refl)) refl (tt, tt) $
    rewrite ! 1 (λ (ws : List Val). ‵ (cell_at q D.mir ws rb ro)) (sym ev) refl $ move ! (1 ∷ 0 ∷ 2 ∷ []) $ shuts ! tt D q (d.first, tt) vs rb ro $
    -- [the token; the `&` to the pointer; the `&` to the value; the other tokens]
    move ! (0 ∷ 3 ∷ []) $ join ! $ move ! (2 ∷ []) $ feq_i ! (List Val) (vptr b at ∷ []) (vptr b at ∷ []) refl $ fjoin ! $
    use0 𝓛 (raw (fact 𝓤 (get_or d.slots i None ≡ Some x))) (fact_i 𝓤 (get_or d.slots i None ≡ Some x) (emp 𝓤) asked.1) $ nothing ! $ nothing ! $ fjoin ! $ nothing ! $ fjoin ! $
    returns ! (look_at ! 0 refl) $ free_all ! refl $ keep ! (3 ∷ 0 ∷ 2 ∷ 1 ∷ []) $ by ! (leaves 𝓛 En hs c y (vptr b at) (record { ref_ptr = (b, at); now = x }) (tt, (tt, tt)) (tt, (tt, tt))))))))))
