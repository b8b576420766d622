-- The login of a session.
use Rattle.std.specs.Prelude.{Option}
use Rattle.std.specs.Option.{option_map}
use Rattle.ami_session.specs.declared.session.Credentials.{Credentials}
use Rattle.ami_session.specs.Checks.{Login}

-- the user and the secret that a session keeps as its login, if it has one
abbrev pub login_of : Option Credentials → Option Login
login_of credentials = option_map (λ c. record { user = c.user; secret = c.secret }) credentials
