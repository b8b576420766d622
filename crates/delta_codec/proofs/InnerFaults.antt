-- Which faults there are: behind a length none says that bytes are missing, and none says that memory is.
use Rattle.std.proofs.Common.{◌≡◌, ◌≢◌, ℕ, Bool, true, false, List, [], ◌∷◌, take, sym, subst, ◌∙◌, inl, inr}
use Rattle.delta_codec.specs.declared.decode_fault.DecodeFault.{DecodeFault}
use Rattle.delta_codec.specs.declared.decode_fault.DecodeFault.TheVariants.{Truncated, BadMagic, BadVersion, BadRange, BadOrder, BadText, TooLarge, Memory}
use Rattle.delta_codec.specs.Faults.{CellFails, ContentFails, FieldFails, FieldsFail, HasFault, LabelFails, ListFails, NextCellFails, NoReasonFails, PauseFails, PenaltyFails, RingFails, RunFails, TextFails, TotalFails, label_flag, pause_flag, penalty_flag, ring_flag}
use Rattle.dots.specs.declared.limits.TheConstants.{MOST_LIVE, MOST_RUNS}
use Rattle.dots.specs.DotSets.{Run}
use Rattle.delta_codec.specs.declared.limits.TheConstants.{MOST_TOTALS}
use Rattle.delta_codec.specs.Frames.{AreCells, AreRuns, AreTotals}
use Rattle.delta_codec.specs.Parts.{CellParts, TotalParts, cell_bytes, run_bytes, total_bytes}

module _ (P : DecodeFault → Type 0) (range : P BadRange) (text : P BadText) (order : P BadOrder) (large : P TooLarge) where
  is_one : (fault rule : DecodeFault) → P rule → fault ≡ rule → P fault
  is_one fault rule p is = subst P (sym is) p

  of_text : (least : ℕ) (fault : DecodeFault) (bytes : List ℕ) → TextFails least fault bytes → P fault
  of_text least fault [] h = is_one fault BadRange range h
  of_text least fault (len ∷ rest) h =
      elim h [
        | inl bad ↦ is_one fault BadText text bad.1
        | inr good ↦ elim good [
          | inl short ↦ is_one fault BadRange range short.3
          | inr dirty ↦ is_one fault BadText text dirty.4
        ]
      ]

  of_no_reason : (fault : DecodeFault) (bytes : List ℕ) → NoReasonFails fault bytes → P fault
  of_no_reason fault [] h = is_one fault BadRange range h
  of_no_reason fault (len ∷ rest) h =
      elim h [
        | inl long ↦ is_one fault BadText text long.1
        | inr some ↦ is_one fault BadRange range some.2
      ]

  of_pause : (fault : DecodeFault) (bytes : List ℕ) → PauseFails fault bytes → P fault
  of_pause fault bytes h =
      elim h [
        | inl lacks ↦ is_one fault BadRange range lacks.fault_is
        | inr after ↦ elim after.next [
          | inl none ↦ of_no_reason fault after.rest none.1
          | inr some ↦ of_text 0 fault after.rest some.1
        ]
      ]

  of_label : (fault : DecodeFault) (bytes : List ℕ) → LabelFails fault bytes → P fault
  of_label fault bytes h =
      elim h [
        | inl name ↦ of_text 0 fault bytes name
        | inr after ↦ of_text 0 fault after.rest after.next
      ]

  of_field : (Fails : DecodeFault → List ℕ → Type 0) (fault : DecodeFault) → ((bytes : List ℕ) → Fails fault bytes → P fault) → (flag : Bool) (bytes : List ℕ) → FieldFails Fails fault flag bytes → P fault
  of_field Fails fault f true bytes h =
      elim h [
        | inl lacks ↦ is_one fault BadRange range lacks.fault_is
        | inr after ↦ f after.rest after.next
      ]
  of_field Fails fault f false bytes h = absurd h

  of_fields : (fault : DecodeFault) (flags : ℕ) (bytes : List ℕ) → FieldsFail fault flags bytes → P fault
  of_fields fault flags bytes h =
      elim h [
        | inl penalty ↦ of_field PenaltyFails fault (λ rest lacks. is_one fault BadRange range lacks.fault_is) (penalty_flag flags) bytes penalty
        | inr after ↦ elim after.next [
          | inl pause ↦ of_field PauseFails fault (of_pause fault) (pause_flag flags) after.rest pause
          | inr later ↦ elim later.next [
            | inl label ↦ of_field LabelFails fault (of_label fault) (label_flag flags) later.rest label
            | inr last ↦ of_field RingFails fault (λ rest lacks. is_one fault BadRange range lacks.fault_is) (ring_flag flags) last.rest last.next
          ]
        ]
      ]

  of_cell : (version : ℕ) (fault : DecodeFault) (bytes : List ℕ) → CellFails version fault bytes → P fault
  of_cell version fault bytes h =
      elim h [
        | inl lacks ↦ is_one fault BadRange range lacks.fault_is
        | inr place ↦ elim place.next [
          | inl name ↦ of_text 1 fault place.rest name
          | inr interface ↦ elim interface.next [
            | inl lacks ↦ is_one fault BadRange range lacks.fault_is
            | inr flags ↦ of_fields fault flags.value flags.rest flags.next
          ]
        ]
      ]

  of_run : (fault : DecodeFault) (before : List Run) (bytes : List ℕ) → RunFails fault before bytes → P fault
  of_run fault before bytes h =
      elim h [
        | inl lacks ↦ is_one fault BadRange range lacks.fault_is
        | inr after ↦ is_one fault BadOrder order after.next.1
      ]

  of_next_cell : (version : ℕ) (runs : List Run) (fault : DecodeFault) (before : List CellParts) (bytes : List ℕ) → NextCellFails version runs fault before bytes → P fault
  of_next_cell version runs fault before bytes h =
      elim h [
        | inl cell ↦ of_cell version fault bytes cell
        | inr after ↦ elim after.next [
          | inl first ↦ is_one fault BadOrder order first.1
          | inr dot ↦ is_one fault BadRange range dot.2
        ]
      ]

  of_total : (fault : DecodeFault) (before : List TotalParts) (bytes : List ℕ) → TotalFails fault before bytes → P fault
  of_total fault before bytes h =
      elim h [
        | inl lacks ↦ is_one fault BadRange range lacks.fault_is
        | inr after ↦ is_one fault BadOrder order after.next.1
      ]

  of_list : {A : Type 0} (IsGood : List A → Type 0) (spell : A → List ℕ) (most : ℕ) (NextFails : DecodeFault → List A → List ℕ → Type 0) (fault : DecodeFault) → ((before : List A) (bytes : List ℕ) → NextFails fault before bytes → P fault) → (bytes : List ℕ) → ListFails IsGood spell most NextFails fault bytes → P fault
  of_list IsGood spell most NextFails fault f bytes h =
      elim h [
        | inl lacks ↦ is_one fault BadRange range lacks.fault_is
        | inr after ↦ elim after.next [
          | inl many ↦ is_one fault TooLarge large many.1
          | inr some ↦ f some.1.before some.1.rest some.1.next
        ]
      ]

  of_content : P BadMagic → P BadVersion → (fault : DecodeFault) (bytes : List ℕ) → ContentFails fault bytes → P fault
  of_content m v fault bytes h =
      elim h [
        | inl lacks ↦ is_one fault BadMagic m lacks.fault_is
        | inr letters ↦ elim letters.next [
          | inl lacks ↦ is_one fault BadVersion v lacks.fault_is
          | inr version ↦ elim version.next [
            | inl lacks ↦ is_one fault BadRange range lacks.fault_is
            | inr heading ↦ elim heading.next [
              | inl runs ↦ of_list AreRuns run_bytes MOST_RUNS RunFails fault (of_run fault) heading.rest runs
              | inr runs ↦ elim runs.next [
                | inl cells ↦ of_list (AreCells version.value runs.value) cell_bytes MOST_LIVE (NextCellFails version.value runs.value) fault (of_next_cell version.value runs.value fault) runs.rest cells
                | inr cells ↦ elim cells.next [
                  | inl totals ↦ of_list AreTotals total_bytes MOST_TOTALS TotalFails fault (of_total fault) cells.rest totals
                  | inr totals ↦ is_one fault BadRange range totals.next.1
                ]
              ]
            ]
          ]
        ]
      ]

pub never_truncated : (fault : DecodeFault) (bytes : List ℕ) → ContentFails fault bytes → fault ≢ Truncated
never_truncated fault bytes h = of_content (λ rule. rule ≢ Truncated) (λ e. absurd cc) (λ e. absurd cc) (λ e. absurd cc) (λ e. absurd cc) (λ e. absurd cc) (λ e. absurd cc) fault bytes h

never_inside : (fault : DecodeFault) (bytes : List ℕ) → ContentFails fault bytes → fault ≢ Memory
never_inside fault bytes h = of_content (λ rule. rule ≢ Memory) (λ e. absurd cc) (λ e. absurd cc) (λ e. absurd cc) (λ e. absurd cc) (λ e. absurd cc) (λ e. absurd cc) fault bytes h

not_memory : (fault rule : DecodeFault) → rule ≢ Memory → fault ≡ rule → fault ≢ Memory
not_memory fault rule not is e = not (sym is ∙ e)

pub never_memory : (fault : DecodeFault) (bytes : List ℕ) → HasFault bytes fault → fault ≢ Memory
never_memory fault bytes h =
    elim h [
      | inl lacks ↦ not_memory fault Truncated (λ e. absurd cc) lacks.fault_is
      | inr after ↦ elim after.next [
        | inl large ↦ not_memory fault TooLarge (λ e. absurd cc) large.1
        | inr more ↦ elim more [
          | inl small ↦ not_memory fault BadRange (λ e. absurd cc) small.1
          | inr more ↦ elim more [
            | inl short ↦ not_memory fault Truncated (λ e. absurd cc) short.3
            | inr there ↦ never_inside fault (take after.value after.rest) there.3
          ]
        ]
      ]
    ]
