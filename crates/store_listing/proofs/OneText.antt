-- Rows have one text.
use Rattle.std.proofs.Common.{◌≡◌, ◌∙◌, ◌≤◌, ◌+◌, ℕ, Bool, true, false, List, [], ◌∷◌, ◌++◌, length, codes, decimal, Option, Some, None, refl, sym, ap, subst, inl, inr, arith, lit≤}
use Rattle.std.specs.FinMap as map
use Rattle.std.specs.FinSet as set
use Rattle.std.specs.List.{enumerate_from, flat_map}
use Rattle.std.proofs.lemmas.Bool.Decides.{nat_tests}
use Rattle.delta.specs.declared.frame.Frame.{Frame}
use Rattle.delta.specs.DeltaStates.{DeltaState, IsSame}
use Rattle.delta.specs.Frames.{IsSameFrame}
use Rattle.delta_codec.specs.Frames.{Spells}
use Rattle.dots.proofs.DotOrder.{dots_exact, dots_total}
use Rattle.hex.specs.Hex.{encode_lower}
use Rattle.member_orset.specs.Members.{Holding, condition_at, view_of}
use Rattle.operations.specs.Conditions.{Condition, Dead, Live}
use Rattle.operations.specs.Rows.{rows_of as rows_read}
use Rattle.replica.specs.Site.{SiteState}
use Rattle.site_journal.specs.declared.step.Step.{Step}
use Rattle.site_journal.specs.declared.step.StepDeed.{StepDeed}
use Rattle.site_journal.specs.declared.step.StepDeed.TheVariants.{Asked, Took, Cut, Whole}
use Rattle.status_report.specs.declared.asks.Answer.{Answer}
use Rattle.status_report.specs.declared.asks.Answer.TheVariants.{Done, Refused, Report}
use Rattle.status_report.specs.declared.asks.Ask.{Ask}
use Rattle.status_report.specs.declared.asks.Ask.TheVariants as ask
use Rattle.stored_steps.specs.declared.base.StoredBase.{StoredBase}
use Rattle.stored_steps.specs.Bases.{IsReadBase, IsSameBase}
use Rattle.stored_steps.specs.StartRows.{is_start}
use Rattle.stored_steps.specs.StepRows.{IsWithinLimits, done, row_of, row_of_deed, row_with}
use Rattle.stored_steps.specs.declared.row_kind.RowKind.TheVariants as kind
use Rattle.ask_code.specs.Asks.{ask_bytes}
use Rattle.stored_steps.specs.Stored.{Stored}
use Rattle.store_listing.specs.Lines.{all_members, base_line, bytes_line, frame_lines, frame_words, line_of, step_line}
use Rattle.store_listing.specs.Listings.{AreTexts}
use Rattle.store_listing.specs.Rows.{IsAskText, IsBaseText, IsDeedText, IsFrameText, IsRowText, IsStartText, IsStepText}
use Rattle.store_listing.specs.Texts.{word}

-- ---- the laws of what is read of a row, and of the bytes of a frame

-- a row is of one step
abbrev pub OneStep : Type 0
OneStep = (s t : Step) (row : Stored) → row_of s ≡ Some row → row_of t ≡ Some row → IsWithinLimits s → IsWithinLimits t → s ≡ t

-- a row is read as one base
abbrev pub OneBase : Type 0
OneBase = (one other : StoredBase) (row : Stored) → IsReadBase row one → IsReadBase row other → IsSameBase one other

-- bytes spell one frame
abbrev pub OneFrame : Type 0
OneFrame = (x y : Frame) (bytes : List ℕ) → Spells x bytes → Spells y bytes → IsSameFrame x y

-- ---- the same sets

-- what is live by a condition
abbrev holding_in : Option Condition → Option Holding
holding_in None = None
holding_in (Some Dead) = None
holding_in (Some (Live member fields)) = Some (member, fields)

holding_back : (o : Option Holding) (known : Bool) → holding_in (condition_at o known) ≡ o
holding_back (Some h) known = refl
holding_back None true = refl
holding_back None false = refl

-- deltas that say the same have the same live dots
same_live : (d e : DeltaState) → IsSame d e → d.members.live ≡ e.members.live
same_live d e same =
    map.same_map dots_total dots_exact d.members.live e.members.live (λ q.
    sym (holding_back (map.get d.members.live q) (set.contains d.members.known q)) ∙ ap holding_in (same.conditions q)
    ∙ holding_back (map.get e.members.live q) (set.contains e.members.known q))

-- ---- the same lines

same_frame_lines : (f : Bool) (p pass : ℕ) (moved bytes : List ℕ) (x y : Frame) → IsSameFrame x y → frame_lines f p pass moved x bytes ≡ frame_lines f p pass moved y bytes
same_frame_lines f p pass moved bytes x y same =
    λ i. step_line p pass (moved ++ (codes ": " ++ frame_words
    (record { maker = same.maker i; number = same.number i; dots = set.len (same.delta.known i); live = map.len (same_live x.delta y.delta same.delta i) }) (length bytes))) ++ bytes_line f bytes

same_members : (s t : SiteState) → s.names ≡ t.names → s.state.members.live ≡ t.state.members.live → all_members s ≡ all_members t
same_members s t names live = λ i. flat_map (λ queue. word queue.1 ++ (codes " " ++ decimal (length (rows_read (view_of (live i)) queue.0)))) (enumerate_from 0 (names i))

same_base_lines : (p : ℕ) (one other : StoredBase) → IsSameBase one other → base_line p one ≡ base_line p other
same_base_lines p one other same =
    λ i. line_of p ((codes "base: site " ++ (decimal (sym same.site.site i) ++ (codes ", store " ++ encode_lower (sym same.name i))))
    ++ (codes ", started " ++ (decimal (sym same.starts i)
    ++ (codes " times, members" ++ same_members one.replica other.replica (sym same.site.names) (same_live one.replica.state other.replica.state same.site.state) i))))

-- ---- one text of a row

one_frame_text : OneFrame → (f : Bool) (p pass : ℕ) (moved bytes a b : List ℕ) → IsFrameText f p pass moved bytes a → IsFrameText f p pass moved bytes b → a ≡ b
one_frame_text one f p pass moved bytes a b x y = x.is ∙ same_frame_lines f p pass moved bytes x.frame y.frame (one x.frame y.frame bytes x.spelled y.spelled) ∙ sym y.is

one_ask_text : (p pass : ℕ) (asked : Ask) (answer : Answer) (a b : List ℕ) → IsAskText p pass asked answer a → IsAskText p pass asked answer b → a ≡ b
one_ask_text p pass (ask.Command command) Done a b x y = x ∙ sym y
one_ask_text p pass (ask.Command command) (Refused refusal) a b x y = absurd x
one_ask_text p pass (ask.Command command) (Report bytes) a b x y = absurd x
one_ask_text p pass (ask.Status request) answer a b x y = absurd x

one_deed_text : OneFrame → (f : Bool) (p pass : ℕ) (deed : StepDeed) (a b : List ℕ) → IsDeedText f p pass deed a → IsDeedText f p pass deed b → a ≡ b
one_deed_text one f p pass (Asked asked answer) a b x y = one_ask_text p pass asked answer a b x y
one_deed_text one f p pass (Took bytes) a b x y = one_frame_text one f p pass (codes "take") bytes a b x y
one_deed_text one f p pass (Cut None) a b x y = absurd x
one_deed_text one f p pass (Cut (Some bytes)) a b x y = one_frame_text one f p pass (codes "cut") bytes a b x y
one_deed_text one f p pass (Whole bytes) a b x y = one_frame_text one f p pass (codes "whole") bytes a b x y

one_step_text : OneStep → OneFrame → (f : Bool) (p : ℕ) (row : Stored) (a b : List ℕ) → IsStepText f p row a → IsStepText f p row b → a ≡ b
one_step_text steps frames f p row a b x y =
    let same : x.step ≡ y.step = steps x.step y.step row x.row_is y.row_is x.within y.within in
    one_deed_text frames f p y.step.pass y.step.deed a b (subst (λ s. IsDeedText f p s.pass s.deed a) same x.deed) y.deed

-- the kind of a start
start_kind : (row : Stored) → is_start row ≡ true → row.kind ≡ 6
start_kind row start = grind (arith, nat_tests)

-- the kinds of steps
abbrev IsStepKind : ℕ → Type 0
IsStepKind kind = (2 ≤ kind) × (kind ≤ 5)

kind_is : (row made : Stored) → IsStepKind made.kind → Some made ≡ Some row → IsStepKind row.kind
kind_is row made good is = let same : made ≡ row = cc in subst IsStepKind (ap (λ (r : Stored). r.kind) same) good

deed_kind : (pass : ℕ) (deed : StepDeed) (row : Stored) → row_of_deed pass deed ≡ Some row → IsStepKind row.kind
deed_kind pass (Asked (ask.Command command) Done) row is = kind_is row (row_with pass kind.Asked (ask_bytes (done command))) (lit≤ tt, lit≤ tt) is
deed_kind pass (Asked (ask.Command command) (Refused refusal)) row is = absurd (cc)
deed_kind pass (Asked (ask.Command command) (Report bytes)) row is = absurd (cc)
deed_kind pass (Asked (ask.Status request) answer) row is = absurd (cc)
deed_kind pass (Took bytes) row is = kind_is row (row_with pass kind.Took bytes) (lit≤ tt, lit≤ tt) is
deed_kind pass (Cut None) row is = absurd (cc)
deed_kind pass (Cut (Some bytes)) row is = kind_is row (row_with pass kind.Cut bytes) (lit≤ tt, lit≤ tt) is
deed_kind pass (Whole bytes) row is = kind_is row (row_with pass kind.Whole bytes) (lit≤ tt, lit≤ tt) is

no_start_of_step : (f : Bool) (p : ℕ) (row : Stored) (a b : List ℕ) → IsStartText p row a → IsStepText f p row b → ⊥
no_start_of_step f p row a b x y = let kind = deed_kind y.step.pass y.step.deed row y.row_is in let start = start_kind row x.start in omega (arith, kind.0, kind.1, start)

no_base_of_step : (f : Bool) (p : ℕ) (row : Stored) (a b : List ℕ) → IsBaseText p row a → IsStepText f p row b → ⊥
no_base_of_step f p row a b x y = let kind = deed_kind y.step.pass y.step.deed row y.row_is in let base = x.read.kind in omega (arith, kind.0, kind.1, base)

no_base_of_start : (p : ℕ) (row : Stored) (a b : List ℕ) → IsStartText p row a → IsBaseText p row b → ⊥
no_base_of_start p row a b x y = let start = start_kind row x.start in let base = y.read.kind in omega (arith, start, base)

one_row_text : OneStep → OneBase → OneFrame → (f : Bool) (p : ℕ) (row : Stored) (a b : List ℕ) → IsRowText f p row a → IsRowText f p row b → a ≡ b
one_row_text steps bases frames f p row a b (inl x) (inl y) = x.is ∙ sym y.is
one_row_text steps bases frames f p row a b (inl x) (inr (inl y)) = absurd (no_base_of_start p row a b x y)
one_row_text steps bases frames f p row a b (inl x) (inr (inr y)) = absurd (no_start_of_step f p row a b x y)
one_row_text steps bases frames f p row a b (inr (inl x)) (inl y) = absurd (no_base_of_start p row b a y x)
one_row_text steps bases frames f p row a b (inr (inl x)) (inr (inl y)) = x.is ∙ same_base_lines p x.base y.base (bases x.base y.base row x.read y.read) ∙ sym y.is
one_row_text steps bases frames f p row a b (inr (inl x)) (inr (inr y)) = absurd (no_base_of_step f p row a b x y)
one_row_text steps bases frames f p row a b (inr (inr x)) (inl y) = absurd (no_start_of_step f p row b a y x)
one_row_text steps bases frames f p row a b (inr (inr x)) (inr (inl y)) = absurd (no_base_of_step f p row b a y x)
one_row_text steps bases frames f p row a b (inr (inr x)) (inr (inr y)) = one_step_text steps frames f p row a b x y

-- rows have one text
pub one_text : OneStep → OneBase → OneFrame → (f : Bool) (first : ℕ) (rows : List Stored) (a b : List ℕ) → AreTexts f first rows a → AreTexts f first rows b → a ≡ b
one_text steps bases frames f first [] a b x y = x ∙ sym y
one_text steps bases frames f first (row ∷ rows) a b x y =
    x.4 ∙ (λ i. one_row_text steps bases frames f first row x.0 y.0 x.2 y.2 i ++ one_text steps bases frames f (first + 1) rows x.1 y.1 x.3 y.3 i) ∙ sym y.4
