-- What a client's session leaves (this project's own).
use Rattle.std.specs.Prelude.{ℕ, ◌⊎◌, Bool, List, Option, Some, false, unwrap_or}
use Rattle.ami_session.specs.Checks.{SessionState}
use Rattle.ami_session.specs.Text.{own_greeting}
use Rattle.serve.specs.Sessions.{IsLeftBy, IsServed}
use Rattle.serve.specs.declared.serve_fault.ServeFault.{ServeFault}
use Rattle.status_report.specs.declared.asks.Answer.{Answer}
use Rattle.status_report.specs.declared.asks.Ask.{Ask}
use Rattle.serving_clients.specs.declared.session_settings.SessionSettings.{SessionSettings}
use Rattle.serving_clients.specs.declared.session_settings.TheConstants.{LOGIN_TRIES}

-- a session that begins by these settings
abbrev pub session_of : SessionSettings → SessionState
session_of settings = record {
  greeting = unwrap_or settings.greeting own_greeting;
  login = Some (record { user = settings.user; secret = settings.secret });
  logged_in = false;
  tries = Some LOGIN_TRIES;
}

-- there are bytes and a text by which a session was served, or left by a fault, over a desk that came from one state to another
pub record HasServed {D : Type 0} (Answers : D → Ask → Answer → D → Type 0) (Refuses : D → Ask → D → Type 0) (session : SessionState) (old new : D) : Type 0 where
  pub bytes : List ℕ
  pub text : List ℕ
  pub how : ((ended : Bool) × (left : Option (List ℕ)) × IsServed Answers session old new ended left bytes text)
      ⊎ ((fault : ServeFault) × IsLeftBy Answers Refuses session old new fault bytes text)
