-- The output of a script for the outcomes of its lines: `done`, `taken`, `refused` with the refusal's name, an entry's number or
-- its frame, or the offer.
use Rattle.std.specs.Prelude.{ℕ, List, [], ◌++◌, Option, Some, None, Ok, Err, codes, decimal}
use Rattle.hex.specs.Hex.{encode_lower}
use Rattle.offer.specs.declared.offered.Offer.{Offer}
use Rattle.replica.specs.declared.cut_fault.CutFault.{CutFault}
use Rattle.replica.specs.declared.cut_fault.CutFault.TheVariants as cut_fault
use Rattle.replica.specs.declared.refusal.Refusal.{Refusal}
use Rattle.replica.specs.declared.refusal.Refusal.TheVariants as refusal
use Rattle.replica.specs.declared.take_fault.TakeFault.{TakeFault}
use Rattle.replica.specs.declared.take_fault.TakeFault.TheVariants as take_fault
use Rattle.sites_world.specs.declared.outcome.Outcome.{Outcome}
use Rattle.sites_world.specs.declared.outcome.Outcome.TheVariants as outcome
use Rattle.status_report.specs.declared.asks.Answer.{Answer}
use Rattle.status_report.specs.declared.asks.Answer.TheVariants.{Done, Refused, Report}

-- the name of a refusal
abbrev pub refusal_name : Refusal → List ℕ
refusal_name refusal.NoSuchQueue = codes "NoSuchQueue"
refusal_name refusal.AlreadyThere = codes "AlreadyThere"
refusal_name refusal.NotThere = codes "NotThere"
refusal_name refusal.MembersFull = codes "MembersFull"
refusal_name refusal.Exhausted = codes "Exhausted"
refusal_name refusal.TotalFull = codes "TotalFull"
refusal_name refusal.Memory = codes "Memory"

-- the name of the fault of a cut or a whole
abbrev pub cut_fault_name : CutFault → List ℕ
cut_fault_name cut_fault.Exhausted = codes "Exhausted"
cut_fault_name cut_fault.Memory = codes "Memory"

-- the name of the fault of a take
abbrev pub take_fault_name : TakeFault → List ℕ
take_fault_name take_fault.NoSuchQueue = codes "NoSuchQueue"
take_fault_name take_fault.NotMine = codes "NotMine"
take_fault_name take_fault.Conflict = codes "Conflict"
take_fault_name take_fault.CellsFull = codes "CellsFull"
take_fault_name take_fault.RunsFull = codes "RunsFull"
take_fault_name take_fault.Memory = codes "Memory"

-- the line of a refusal of this name
abbrev pub refused_text : List ℕ → List ℕ
refused_text name = codes "refused " ++ (name ++ codes "\n")

-- the line of an answer to a command; a report has its own lines
abbrev pub answer_text : Answer → List ℕ
answer_text Done = codes "done\n"
answer_text (Refused r) = refused_text (refusal_name r)
answer_text (Report bytes) = bytes

-- the line of an entry that was made
abbrev pub entry_text : ℕ → List ℕ
entry_text entry = codes "entry " ++ (decimal entry ++ codes "\n")

-- the line of an entry that isn't there
abbrev pub no_entry : List ℕ
no_entry = codes "no entry\n"

-- the output of the line of this number, if it isn't understood
abbrev pub unknown_text : ℕ → List ℕ
unknown_text number = codes "line " ++ (decimal number ++ codes ": not understood\n")

-- the lines of an outcome; `NoSite` and `NoMemory` have none
abbrev pub outcome_text : Outcome → List ℕ
outcome_text (outcome.Answered answer) = answer_text answer
outcome_text (outcome.Cut (Ok (Some entry))) = entry_text entry
outcome_text (outcome.Cut (Ok None)) = codes "nothing\n"
outcome_text (outcome.Cut (Err fault)) = refused_text (cut_fault_name fault)
outcome_text (outcome.Took (Ok done)) = codes "taken\n"
outcome_text (outcome.Took (Err fault)) = refused_text (take_fault_name fault)
outcome_text outcome.NoEntry = no_entry
outcome_text outcome.NoSite = []
outcome_text outcome.NoMemory = []

-- the line of an offer
abbrev pub offer_line : Option Offer → List ℕ
offer_line None = codes "offer none\n"
offer_line (Some offer) = codes "offer " ++ (decimal offer.penalty ++ (codes " " ++ (offer.interface ++ codes "\n")))

-- the line of a queue's offer; where there is no such queue, its refusal
abbrev pub offer_text : Option (Option Offer) → List ℕ
offer_text None = refused_text (refusal_name refusal.NoSuchQueue)
offer_text (Some offer) = offer_line offer

-- the line of the bytes of a frame
abbrev pub frame_text : List ℕ → List ℕ
frame_text bytes = encode_lower bytes ++ codes "\n"
