-- Steps of the walks that take memory and give it back. Assumes `Logic`.
--     Al, Data, data_val, told, made      the allocator's names; the one field of `Lease`, which takes no bytes
--     then_runs      what runs after an arm
use Rattle.std.proofs.Common.{◌≡◌, List, [], ◌∷◌, ◌++◌, refl, ap, ◌∙◌}
use seplogic.Ra.Ura.{Ura}
use mir.Syntax.{Body}
use mir.Val.{Val, vstruct, vcons, vnil, of_list}
use base.Logic.{ent, emp}
use prog.Wp.{Env, Calls, Loops, Wp, after_seq}
use types.Logic.{Logic, sem}
use types.Kit.{Post, any_q, post}
use denote.RattleType.{RattleType}
use denote.Laws.{Is}
use denote.Shadow.{makes_shadow}
use denote.Struct.Struct.{Struct}
use denote.Struct.Owning.{shape}
use Rattle.core.specs.declared.alloc.Allocator.{Ghosts}
use Rattle.op_arena.specs.contracts.places.Lease as lease

abbrev pub data_val : Val
data_val = vstruct (vcons (vstruct vnil) vnil)

module _ (Y A : RattleType) (g : Ghosts A.Denot) where
  abbrev pub Data : RattleType
  Data = Struct (shape (lease.the_type Y A g))

  pub told : (vs : List Val) → Is Data (tt, tt) vs → vs ≡ data_val ∷ []
  told vs is = is.1.0 ∙ ap (λ (ws : List Val). vstruct (of_list (ws ++ [])) ∷ []) is.1.1.0.1.0

  pub made : {M : Type 1} {𝓤 : Ura M} (𝓛 : Logic 𝓤) → ent 𝓤 (emp 𝓤) (sem 𝓛 (Data.own_val (tt, tt) (data_val ∷ [])))
  made 𝓛 = makes_shadow 𝓛 (Data.own_val (tt, tt) (data_val ∷ [])) (λ _. (tt, ((λ _. (tt, tt)), tt))) ((vstruct vnil ∷ [], tt), (refl, ((tt, (refl, tt)), tt)))

abbrev pub then_runs : {M : Type 1} {𝓤 : Ura M} (𝓛 : Logic 𝓤) → Calls 𝓤 𝓛.H → Loops 𝓤 𝓛.H → Env 𝓤 𝓛.H → Body → Post 𝓤 𝓛.H → Post 𝓤 𝓛.H
then_runs {𝓤 = 𝓤} 𝓛 C Λ E body q = any_q (after_seq 𝓤 𝓛.H (Wp 𝓤 𝓛.H C Λ E body (post 𝓤 𝓛.H q)) (post 𝓤 𝓛.H q))
