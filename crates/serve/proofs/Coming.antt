-- The messages and faults of a stream, read by read.
use Rattle.std.proofs.Common.{◌≡◌, ◌≤◌, ◌+◌, ◌⊎◌, ⊎_elim, inl, inr, ℕ, Bool, true, Result, Ok, Err, Some, None, List, [], ◌++◌, sym, ap, subst, arith, append_assoc, append-nil, length, length-append, Option}
use Rattle.ami_text.proofs.Taking.{given_grows, given_none}
use Rattle.ami_text.specs.Lines.{lines_text}
use Rattle.ami_text.specs.MessageFields.{NameAndValue}
use Rattle.ami_text.specs.declared.feed_fault.FeedFault.{FeedFault}
use Rattle.ami_text.specs.declared.feed_fault.FeedFault.TheVariants as stream_fault
use Rattle.ami_text.specs.FeedStates.{FeedState, IsStreamFault}
use Rattle.ami_text.specs.Stream.{Gives, HasFault, IsRest, Reads, Rest}
use Rattle.serve.specs.declared.serve_fault.ServeFault.{ServeFault}
use Rattle.serve.specs.declared.serve_fault.ServeFault.TheVariants.{Read, Write, LineTooLong, TooManyFields, DeskDown, Turns, Memory}
use Rattle.serve.specs.Faults.{session_fault}
use Rattle.serve.specs.Steps.{HasCome, IsHeld, StandsFirst, IsWanted}

-- more bytes change no message
abbrev pub MoreStays : Type 0
MoreStays = (bytes piece rest : List ℕ) (messages : List (List NameAndValue)) → Gives bytes messages rest → Gives (bytes ++ piece) messages (rest ++ piece)

-- messages, and then those of what is left
abbrev pub LaterFollows : Type 0
LaterFollows = (bytes held rest : List ℕ) (messages later : List (List NameAndValue)) → Gives bytes messages held → Gives held later rest → Gives bytes (messages ++ later) rest

-- nothing has come
pub come_none : (given : Option (List ℕ)) (held : List ℕ) (reads : ℕ) → ((bytes : List ℕ) → Gives bytes [] bytes) → HasCome given given held reads reads (λ stream. Gives stream [] held × IsWanted held stream)
come_none given held reads none = record {
  bytes = [];
  given = given_none given;
  many = omega arith;
  few = omega arith;
  holds = (subst (λ t. Gives t [] held) (sym (append-nil held)) (none held), inl (append-nil held));
}

-- what holds of the stream
pub come_so : (given after : Option (List ℕ)) (held : List ℕ) (reads left : ℕ) (H K : List ℕ → Type 0) → ((stream : List ℕ) → H stream → K stream)
    → HasCome given after held reads left H → HasCome given after held reads left K
come_so given after held reads left H K so come = record { bytes = come.bytes; given = come.given; many = come.many; few = come.few; holds = so (held ++ come.bytes) come.holds }

-- a stream from which a piece has come, and then more
pub come_more : (given now after : Option (List ℕ)) (held rest : List ℕ) (reads left last : ℕ) (K : List ℕ → Type 0) → MoreStays
    → HasCome given now held reads left (λ stream. Gives stream [] rest) → HasCome now after rest left last K
    → HasCome given after held reads last (λ stream. (piece : List ℕ) × Gives stream [] (rest ++ piece) × K (rest ++ piece))
come_more given now after held rest reads left last K stays come more = record {
  bytes = come.bytes ++ more.bytes;
  given = given_grows given now after come.bytes more.bytes come.given more.given;
  many = omega (arith, come.many, more.many, length-append come.bytes more.bytes);
  few = omega (arith, come.few, more.few, length-append come.bytes more.bytes);
  holds = (more.bytes, subst (λ t. Gives t [] (rest ++ more.bytes)) (append_assoc held come.bytes more.bytes) (stays (held ++ come.bytes) more.bytes rest [] come.holds), more.holds);
}

-- what is left of a stream is no longer than it
pub left_within : (bytes rest : List ℕ) → Gives bytes [] rest → length rest ≤ length bytes
left_within bytes rest gives = omega (arith, ap (length {A = ℕ}) gives.2, length-append (lines_text gives.0) rest)

-- what was held before a piece is no message, so that it was wanted
wanted : (held rest came piece : List ℕ) → Gives (held ++ came) [] rest → IsRest rest → length piece ≤ 1024 → IsWanted held (held ++ (came ++ piece))
wanted held rest came piece gives is_rest short = inr (record {
  before = came;
  piece = piece;
  is = sym (append_assoc held came piece);
  short = short;
  rest = rest;
  reads = (gives, is_rest);
})

-- a piece came, and what was held before it is no message
pub piece_came : (given now after : Option (List ℕ)) (held rest more : List ℕ) (reads left last : ℕ) → MoreStays → IsRest rest → length more ≤ length rest + 1024
    → HasCome given now held reads left (λ stream. Gives stream [] rest) → HasCome now after rest left last (IsHeld (Ok true) rest more)
    → HasCome given after held reads last (λ stream. Gives stream [] more × IsWanted held stream)
piece_came given now after held rest more reads left last stays is_rest short come piece = record {
  bytes = come.bytes ++ piece.bytes;
  given = given_grows given now after come.bytes piece.bytes come.given piece.given;
  many = omega (arith, come.many, piece.many, length-append come.bytes piece.bytes);
  few = omega (arith, come.few, piece.few, length-append come.bytes piece.bytes);
  holds = (
    subst (λ t. Gives (held ++ (come.bytes ++ piece.bytes)) [] t) (sym piece.holds)
        (subst (λ t. Gives t [] (rest ++ piece.bytes)) (append_assoc held come.bytes piece.bytes) (stays (held ++ come.bytes) piece.bytes rest [] come.holds)),
    wanted held rest come.bytes piece.bytes come.holds is_rest (omega (arith, short, ap (length {A = ℕ}) piece.holds, length-append rest piece.bytes)),
  );
}

-- a piece came for which there was no memory
piece_lost : (given now after : Option (List ℕ)) (held rest more : List ℕ) (reads left last : ℕ) → IsRest rest
    → HasCome given now held reads left (λ stream. Gives stream [] rest) → HasCome now after rest left last (IsHeld (Err Memory) rest more)
    → HasCome given after held reads last (IsWanted held)
piece_lost given now after held rest more reads left last is_rest come piece =
    let short : length (rest ++ piece.bytes) ≤ length rest + 1024 = piece.holds in
    record {
      bytes = come.bytes ++ piece.bytes;
      given = given_grows given now after come.bytes piece.bytes come.given piece.given;
      many = omega (arith, come.many, piece.many, length-append come.bytes piece.bytes);
      few = omega (arith, come.few, piece.few, length-append come.bytes piece.bytes);
      holds = wanted held rest come.bytes piece.bytes come.holds is_rest (omega (arith, short, length-append rest piece.bytes));
    }

-- none came, and what is held is no message
pub none_came : (given now after : Option (List ℕ)) (held rest more : List ℕ) (reads left last : ℕ) → MoreStays → IsRest rest
    → HasCome given now held reads left (λ stream. Gives stream [] rest) → HasCome now after rest left last (λ stream. (more ≡ stream) × (more ≡ rest))
    → HasCome given after held reads last (λ stream. Reads stream [] (Rest more))
none_came given now after held rest more reads left last stays is_rest come piece =
    come_so given after held reads last _ _ (λ stream x. (subst (λ t. Gives stream [] t) (sym x.2.0) x.1, subst IsRest (sym x.2.1) is_rest))
    (come_more given now after held rest reads left last _ stays come piece)

-- reading broke off
pub broken_came : (fault : ServeFault) (given now after : Option (List ℕ)) (held rest more : List ℕ) (reads left last : ℕ) → MoreStays → IsRest rest
    → HasCome given now held reads left (λ stream. Gives stream [] rest) → HasCome now after rest left last (IsHeld (Err fault) rest more)
    → HasCome given after held reads last (StandsFirst (Err fault) held more)
broken_came Read given now after held rest more reads left last stays is_rest come piece = none_came given now after held rest more reads left last stays is_rest come piece
broken_came Turns given now after held rest more reads left last stays is_rest come piece = none_came given now after held rest more reads left last stays is_rest come piece
broken_came Memory given now after held rest more reads left last stays is_rest come piece = piece_lost given now after held rest more reads left last is_rest come piece
broken_came Write given now after held rest more reads left last stays is_rest come piece = absurd piece.holds
broken_came LineTooLong given now after held rest more reads left last stays is_rest come piece = absurd piece.holds
broken_came TooManyFields given now after held rest more reads left last stays is_rest come piece = absurd piece.holds
broken_came DeskDown given now after held rest more reads left last stays is_rest come piece = absurd piece.holds

-- the stream that a read's result gives
pub held_so : (now after : Option (List ℕ)) (rest more : List ℕ) (left last : ℕ) (result reported : Result Bool ServeFault) → result ≡ reported
    → HasCome now after rest left last (IsHeld result rest more) → HasCome now after rest left last (IsHeld reported rest more)
held_so now after rest more left last result reported is come = subst (λ r. HasCome now after rest left last (IsHeld r rest more)) is come

-- the bytes that a read's result gives
pub next_so : (now after : Option (List ℕ)) (held rest : List ℕ) (reads left : ℕ) (result reported : Result (Option (List NameAndValue)) ServeFault) → result ≡ reported
    → HasCome now after held reads left (StandsFirst result held rest) → HasCome now after held reads left (StandsFirst reported held rest)
next_so now after held rest reads left result reported is come = subst (λ r. HasCome now after held reads left (StandsFirst r held rest)) is come

not_both : (o : Option FeedFault) (fault : FeedFault) → o ≡ None → o ≡ Some fault → ⊥
not_both o fault none some = cc

-- what a feed shows that fails
pub fault_next : (fault : FeedFault) (reported : ServeFault) (was : FeedState) (old held stream : List ℕ) → reported ≡ session_fault fault → was.fault ≡ None
    → (IsStreamFault (Some fault) → (was.fault ≡ Some fault) ⊎ HasFault fault was.held) → Gives stream [] was.held → IsWanted old stream → StandsFirst (Err reported) old held stream
fault_next stream_fault.LineTooLong reported was old held stream is works shows gives wants =
    subst (λ f. StandsFirst (Err f) old held stream) (sym is)
    ((was.held, gives, ⊎_elim (λ failed. absurd (not_both was.fault stream_fault.LineTooLong works failed)) (λ has. has) (shows tt)), wants)
fault_next stream_fault.TooManyFields reported was old held stream is works shows gives wants =
    subst (λ f. StandsFirst (Err f) old held stream) (sym is)
    ((was.held, gives, ⊎_elim (λ failed. absurd (not_both was.fault stream_fault.TooManyFields works failed)) (λ has. has) (shows tt)), wants)
fault_next stream_fault.Memory reported was old held stream is works shows gives wants = subst (λ f. StandsFirst (Err f) old held stream) (sym is) wants
