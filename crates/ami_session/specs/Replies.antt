-- The texts of replies. Their wording is this project's own; their lines are those of Asterisk's Manager Interface.
use Rattle.std.specs.Prelude.{ℕ, List, ◌++◌, codes}
use Rattle.ami_text.specs.WrittenLines.{field, action_id_line}
use Rattle.replica.specs.declared.refusal.Refusal.{Refusal}
use Rattle.replica.specs.declared.refusal.Refusal.TheVariants.{NoSuchQueue, AlreadyThere, NotThere, MembersFull, Exhausted, TotalFull, Memory}

-- a reply: its `Response`, the ActionID of the request, its message, and an empty line
abbrev pub reply : List ℕ → List ℕ → List ℕ → List ℕ
reply response id message = field (codes "Response") response ++ action_id_line id ++ field (codes "Message") message ++ codes "\r\n"

-- the error text of a refused command
abbrev pub refusal_text : Refusal → List ℕ
refusal_text NoSuchQueue = codes "No such queue"
refusal_text AlreadyThere = codes "Unable to add interface: Already there"
refusal_text NotThere = codes "Interface not found"
refusal_text MembersFull = codes "Unable to change members: Full"
refusal_text Exhausted = codes "Unable to change members: Numbers used up"
refusal_text TotalFull = codes "Total full"
refusal_text Memory = codes "Out of memory"

-- the error text of a refused `QueueRemove`: that of every command, except for a member that isn't there
abbrev pub removal_refusal_text : Refusal → List ℕ
removal_refusal_text NotThere = codes "Unable to remove interface: Not there"
removal_refusal_text refusal = refusal_text refusal
