-- The messages of a hello, and what its functions read and write (this project's own).
use Rattle.std.specs.Prelude.{ℕ, ◌≡◌, ◌≢◌, ◌≤◌, ◌⊎◌, Bool, List, Option, [], ◌∷◌, ◌++◌, codes, length, take, true}
use Rattle.std.specs.Io.KnownBytes.{Appends, Consumes}
use Rattle.ami_text.specs.Devices.{HasGiven, HasGivenUpTo, HasTaken}
use Rattle.link_hello.specs.Cards.{IsCard, card_bytes}
use Rattle.link_hello.specs.Codes.{acceptor_code, dialer_code, verdict_code}
use Rattle.link_hello.specs.Refusals.{IsNumberOf}
use Rattle.link_hello.specs.declared.card.Card.{Card}
use Rattle.link_hello.specs.declared.hello_fault.HelloFault.{HelloFault}
use Rattle.link_hello.specs.declared.hello_fault.HelloFault.TheVariants.{IsRefused, NotSent, OtherProtocol, OtherVersion, Silent, WrongSecret}
use Rattle.link_hello.specs.declared.messages.TheConstants.{VERSION}
use Rattle.link_hello.specs.declared.refusal.Refusal.TheVariants as refusal
use Rattle.link_hello.specs.declared.transcript.Transcript.{Transcript}

-- what both sites write first: the letters, the version and a nonce
abbrev pub opening : List ℕ → List ℕ
opening nonce = codes "QSLK" ++ (VERSION ∷ nonce)

-- what the accepting site writes after its opening: its card and its code
abbrev pub offer_bytes : List ℕ → Transcript → List ℕ
offer_bytes key t = card_bytes t.acceptor ++ acceptor_code key t.dialer_nonce t.acceptor_nonce t.acceptor

-- what the dialing site answers: its verdict, its card and its code
abbrev pub answer_bytes : List ℕ → Transcript → ℕ → List ℕ
answer_bytes key t verdict = verdict ∷ (card_bytes t.dialer ++ dialer_code key t verdict)

-- what the accepting site writes last: its verdict and its code
abbrev pub verdict_bytes : List ℕ → Transcript → ℕ → List ℕ
verdict_bytes key t verdict = verdict ∷ verdict_code key t verdict

-- a source gave nothing more, or 16 reads of one part gave too little, so 16 bytes came at least
abbrev pub IsSilence : Option (List ℕ) → Option (List ℕ) → Bool → Bool → Type 0
IsSilence before after ended failed = (failed ≡ true) ⊎ ((ended ≡ true) ⊎ HasGiven before after 16)

-- what came of a source where an opening was to come, and its fault
abbrev pub OpeningFails : Option (List ℕ) → Option (List ℕ) → HelloFault → Type 0
OpeningFails before after Silent = Unit {0}
OpeningFails before after OtherProtocol =
    (bytes : List ℕ) × Consumes before after bytes × (length bytes ≡ 5) × (take 4 bytes ≢ codes "QSLK")
OpeningFails before after (OtherVersion version) =
    Consumes before after (codes "QSLK" ++ version ∷ []) × (version ≢ VERSION)
OpeningFails before after _ = ⊥

-- a dialer has read the other site's opening and offer, with the right code, and written its own opening
pub record HasBegun (left_before left_after taken_before taken_after : Option (List ℕ)) (key nonce : List ℕ) (own : Card) (t : Transcript) : Type 0 where
  pub nonce_is : t.dialer_nonce ≡ nonce
  pub card_is : t.dialer ≡ own
  pub read : Consumes left_before left_after (opening t.acceptor_nonce ++ offer_bytes key t)
  pub written : Appends taken_before taken_after (opening nonce)

-- what came of a source where an opening and an offer were to come, and its fault
abbrev pub BeginFails : Option (List ℕ) → Option (List ℕ) → List ℕ → List ℕ → HelloFault → Type 0
BeginFails before after key nonce NotSent = Unit {0}
BeginFails before after key nonce WrongSecret =
    (other : List ℕ) × (card : Card) × (code : List ℕ) × (length other ≡ 32) × IsCard card × (length code ≡ 32)
    × Consumes before after (opening other ++ (card_bytes card ++ code)) × (code ≢ acceptor_code key nonce other card)
BeginFails before after key nonce fault = OpeningFails before after fault

-- what a dialer has written at a fault: its opening, and after a wrong code the refusal of it, as far as the sink works
abbrev pub BeginWrites : Option (List ℕ) → Option (List ℕ) → Bool → List ℕ → HelloFault → Type 0
BeginWrites before after failed nonce NotSent = HasTaken before after (opening nonce)
BeginWrites before after failed nonce WrongSecret = (failed ≡ true) ⊎ Appends before after (opening nonce ++ 6 ∷ [])
BeginWrites before after failed nonce fault = Appends before after (opening nonce)

-- an acceptor has read the other site's opening and its answer, a welcome with the right code, and written its own opening and offer
pub record HasAccepted (left_before left_after taken_before taken_after : Option (List ℕ)) (key nonce : List ℕ) (own : Card) (t : Transcript) : Type 0 where
  pub nonce_is : t.acceptor_nonce ≡ nonce
  pub card_is : t.acceptor ≡ own
  pub read : Consumes left_before left_after (opening t.dialer_nonce ++ answer_bytes key t 0)
  pub written : Appends taken_before taken_after (opening nonce ++ offer_bytes key t)

-- an acceptor has written its opening and its offer to the nonce of some dialer, and then these bytes
abbrev pub HasOffered : Option (List ℕ) → Option (List ℕ) → List ℕ → List ℕ → Card → List ℕ → Type 0
HasOffered before after key nonce own more =
    (other : List ℕ) × Appends before after (opening nonce ++ (card_bytes own ++ (acceptor_code key other nonce own ++ more)))

-- what an acceptor has written at a fault: its opening before it reads, its offer before it reads an answer, and after a wrong code the
-- refusal of it, as far as the sink works
abbrev pub AcceptWrites : Option (List ℕ) → Option (List ℕ) → Bool → List ℕ → List ℕ → Card → HelloFault → Type 0
AcceptWrites before after failed key nonce own NotSent = Unit {0}
AcceptWrites before after failed key nonce own Silent = Appends before after (opening nonce) ⊎ HasOffered before after key nonce own []
AcceptWrites before after failed key nonce own WrongSecret = (failed ≡ true) ⊎ HasOffered before after key nonce own (6 ∷ [])
AcceptWrites before after failed key nonce own (IsRefused cause) = HasOffered before after key nonce own []
AcceptWrites before after failed key nonce own fault = Appends before after (opening nonce)

-- an acceptor has read a dialer's opening, and its sink failed within the offer to the nonce of that opening
pub record HasCutOffer (left_before left_after taken_before taken_after : Option (List ℕ)) (key nonce : List ℕ) (own : Card) : Type 0 where
  pub other : List ℕ
  pub front : List ℕ
  pub rest : List ℕ
  pub is_nonce : length other ≡ 32
  pub read : Consumes left_before left_after (opening other)
  pub offer : card_bytes own ++ acceptor_code key other nonce own ≡ front ++ rest
  pub written : Appends taken_before taken_after (opening nonce ++ front)

-- an acceptor has read a dialer's opening and less than an answer, and written its own opening and its offer to the nonce of that opening
pub record HasWaited (left_before left_after taken_before taken_after : Option (List ℕ)) (key nonce : List ℕ) (own : Card) : Type 0 where
  pub other : List ℕ
  pub part : List ℕ
  pub is_nonce : length other ≡ 32
  pub few : length part ≤ 105
  pub read : Consumes left_before left_after (opening other ++ part)
  pub written : Appends taken_before taken_after (opening nonce ++ (card_bytes own ++ acceptor_code key other nonce own))

-- an acceptor to which too little came: it has written its opening where less than an opening came, else its offer too
abbrev pub AcceptWaits : Option (List ℕ) → Option (List ℕ) → Option (List ℕ) → Option (List ℕ) → List ℕ → List ℕ → Card → Type 0
AcceptWaits left_before left_after taken_before taken_after key nonce own =
    (HasGivenUpTo left_before left_after 36 × Appends taken_before taken_after (opening nonce))
    ⊎ HasWaited left_before left_after taken_before taken_after key nonce own

-- what came of a source where an opening and an answer were to come, and its fault
abbrev pub AcceptFails : Option (List ℕ) → Option (List ℕ) → List ℕ → List ℕ → Card → HelloFault → Type 0
AcceptFails before after key nonce own NotSent = Unit {0}
AcceptFails before after key nonce own WrongSecret =
    (t : Transcript) × (verdict : ℕ) × (code : List ℕ) × (t.acceptor_nonce ≡ nonce) × (t.acceptor ≡ own)
    × (length t.dialer_nonce ≡ 32) × IsCard t.dialer × (length code ≡ 32)
    × Consumes before after (opening t.dialer_nonce ++ verdict ∷ (card_bytes t.dialer ++ code)) × (code ≢ dialer_code key t verdict)
AcceptFails before after key nonce own (IsRefused refusal.WrongSecret) =
    (other : List ℕ) × (length other ≡ 32) × Consumes before after (opening other ++ 6 ∷ [])
AcceptFails before after key nonce own (IsRefused cause) =
    (t : Transcript) × (verdict : ℕ) × IsNumberOf cause verdict × (t.acceptor_nonce ≡ nonce) × (t.acceptor ≡ own)
    × Consumes before after (opening t.dialer_nonce ++ answer_bytes key t verdict)
AcceptFails before after key nonce own fault = OpeningFails before after fault

-- what came of a source where a verdict was to come, and its fault
abbrev pub VerdictFails : Option (List ℕ) → Option (List ℕ) → List ℕ → Transcript → HelloFault → Type 0
VerdictFails before after key t Silent = Unit {0}
VerdictFails before after key t WrongSecret =
    (verdict : ℕ) × (code : List ℕ) × (length code ≡ 32) × Consumes before after (verdict ∷ code) × (code ≢ verdict_code key t verdict)
VerdictFails before after key t (IsRefused refusal.WrongSecret) = Consumes before after (6 ∷ [])
VerdictFails before after key t (IsRefused cause) =
    (verdict : ℕ) × IsNumberOf cause verdict × Consumes before after (verdict_bytes key t verdict)
VerdictFails before after key t _ = ⊥
