-- The numbers of refusals (this project's own).
use Rattle.std.specs.Prelude.{ℕ, ◌≡◌, ◌<◌, None, Option, Some}
use Rattle.link_hello.specs.declared.refusal.Refusal.{Refusal}
use Rattle.link_hello.specs.declared.refusal.Refusal.TheVariants.{Itself, NoSuchSite, OlderCopy, OtherQueues, SameNumber, SecondCopy, TakenNumber, Unknown, WrongSecret}

-- the byte of a refusal
abbrev pub refusal_number : Refusal → ℕ
refusal_number NoSuchSite = 1
refusal_number OtherQueues = 2
refusal_number Itself = 3
refusal_number SameNumber = 4
refusal_number TakenNumber = 5
refusal_number WrongSecret = 6
refusal_number OlderCopy = 7
refusal_number SecondCopy = 8
refusal_number Unknown = 255

-- the byte of a verdict: a welcome or a refusal
abbrev pub verdict_number : Option Refusal → ℕ
verdict_number None = 0
verdict_number (Some refusal) = refusal_number refusal

-- a byte is read as a refusal: it is its number, or for `Unknown` the number of no other
abbrev pub IsNumberOf : Refusal → ℕ → Type 0
IsNumberOf Unknown number = 8 < number
IsNumberOf refusal number = number ≡ refusal_number refusal
